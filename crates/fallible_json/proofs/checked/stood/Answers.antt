-- A token that is no separator.
use Rattle.std.proofs.Common.{rules, refl}
use Rattle.fallible_json.proofs.Lemmas.Checked.{seen_of}
use Rattle.fallible_json.proofs.checked.stood.Goals as goal

pub returns-in-Some : goal.returns-in-Some
returns-in-Some g c = (
  c.in-Ok.ensures.state,
  (c.in-Some.kind, c.min-depth.result, c.args.first, c.args.last, c.args.text.items),
  (refl, refl, refl, refl, refl),
  seen_of c.args.nesting.now.containers.items c.after.new.self.containers.items c.args.nesting.now.expects c.after.new.self.expects c.args.first c.args.last c.min-depth.result c.args.token c.args.text.items c.in-Some.kind (search rules) (search rules),
)
