-- The call on a reference to what is held.
use Rattle.std.proofs.Common.{Option, refl, subst}
use Rattle.fallible_contract.specs.Closures.{call_by_reference}
use Rattle.fallible_iterator.specs.Taking.{TestsHeld}
use Rattle.fallible_iterator.proofs.taking.none_held_or_accepts.Goals as goal

pub returns-in-Some : goal.returns-in-Some
returns-in-Some g c = subst (λ (o : Option g.row.I-Item.Denot). TestsHeld (call_by_reference g.P.FnMut) o c.args.test.now c.test.result c.test.new.self) c.in-Some.ensures (record { shown = _; shows = refl; called = c.test.ensures })
