use Rattle.std.proofs.Common.{◌<◌, rules, arith}
use Rattle.sponge.proofs.Turning.{length_code}
use Rattle.sponge.proofs.Sponge.turn.Goals as goal

pub absorb-requires : goal.absorb-requires
absorb-requires g c =
    let code : c.len-n.result < g.row.ORDER = length_code c.args.self.now c.len-n.result (omega (arith, c.len-n.ensures, c.requires)) in
    search rules
