-- Another byte before the place, and the end.
use Rattle.std.proofs.Common.{arith, rules, subst, ap, ◌≡◌, ◌∙◌, ◌+◌, ◌-◌, ◌<◌, ◌==◌, false, length, drop, get_or}
use Rattle.std.proofs.lemmas.List.{drop_all}
use Rattle.fallible_json.specs.Places.{lines_in}
use Rattle.fallible_json.proofs.Lemmas.Place.{count_from}
use Rattle.fallible_json.proofs.place.line_start.Goals as goal

pub loop-at-init : goal.loop-at-init
loop-at-init c = (omega arith, ap lines_in (drop_all (length c.args.bytes.now) c.args.bytes.now (omega arith)))

pub loop-at-preserved : goal.loop-at-preserved
loop-at-preserved c =
    let bytes = c.args.bytes.now in
    let at = c.loop-at.at in
    let some : 0 < at = search rules in
    let inv = c.loop-at.invariant in
    let within = inv.0 in
    let one : at - 1 + 1 ≡ at = omega (arith, some) in
    let is : (get_or bytes (at - 1) 0 == 10) ≡ false = search rules in
    let more = count_from (λ byte. byte == 10) false bytes (at - 1) (omega (arith, some, within)) is in
    (omega (arith, within), more ∙ subst (λ k. lines_in (drop k bytes) ≡ 0) (let back : at ≡ at - 1 + 1 = omega (arith, some) in back) inv.1)
