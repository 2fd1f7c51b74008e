use Rattle.std.proofs.Common.{◌<◌, length, rules, arith, lit<, lit≤}
use Rattle.permutation.specs.RowsProofs.{all_codes-codes}
use Rattle.sponge.proofs.Turning.{rate_small, length_code}
use Rattle.multi_field_blocks.proofs.absorbing.absorb_group.Goals as goal

pub from_slice-requires : goal.from_slice-requires
from_slice-requires g c = (lit< tt, (omega (arith, rate_small c.args.sponge.now), (lit≤ tt, all_codes-codes g.row.ORDER c.args.words.now c.requires.codes)))

pub absorb-requires : goal.absorb-requires
absorb-requires g c =
    let code : length c.args.words.now < g.row.ORDER = length_code c.args.sponge.now (length c.args.words.now) c.requires.few in
    search rules
