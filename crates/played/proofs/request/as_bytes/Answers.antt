use Rattle.std.proofs.Common.{◌≡◌, ◌%◌, Some, rules, tests, true, ap, ◌∙◌, subst, map, vec_items, IfOk}
use Rattle.std.proofs.lemmas.Iterator.{YieldsList-from_map_by, YieldsList-from_slice, items_from_collect}
use Rattle.domain.specs.Codes.{all_codes}
use Rattle.played.proofs.Remainders.{all_same}
use Rattle.played.proofs.request.as_bytes.Goals as goal

items : (c : goal.In_ok-bytes) → IfOk c.collect.result (λ bytes. vec_items bytes ≡ map (λ x. x % 256) c.args.numbers.now)
items c =
    items_from_collect _ c.collect.ensures.ran
    (YieldsList-from_map_by _ (λ x. x) (λ x. x % 256) (YieldsList-from_slice c.args.numbers.now cc) c.map.ensures.closure (λ x r q k. search (rules, tests)))

pub returns : goal.returns
returns c =
    let all : all_codes 256 c.args.numbers.now ≡ true = search rules in
    rw (all) (ap Some (subst (λ r. IfOk r (λ bytes. vec_items bytes ≡ map (λ x. x % 256) c.args.numbers.now)) c.in_ok-bytes.was (items c) ∙ all_same _ all))
