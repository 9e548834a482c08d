-- The call on a reference to what is held.
use Rattle.std.proofs.Common.{Option, refl, subst}
use Rattle.fallible_iterator.specs.Closures.{call_by_reference}
use Rattle.fallible_itertools_adapters.specs.PeekingTakeWhile.{AcceptsHeld}
use Rattle.fallible_itertools_adapters.proofs.peeking_take_while.none_held_or_accepts.Goals as goal

pub returns-in-Some : goal.returns-in-Some
returns-in-Some g c = subst (λ (o : Option g.row.I-Item.Denot). AcceptsHeld (call_by_reference g.F.FnMut) o c.args.accept.now c.accept.result c.accept.new.self) c.in-Some.ensures (record { shown = _; shows = refl; called = c.accept.ensures })
