-- The answers of the two draws, or a failure of the left alone, are one place.
use Rattle.std.proofs.Common.{rules, Ok, Err, Some, None, refl}
use Rattle.fallible_core.specs.Joining.Zip.{left_failed, both_drawn}
use Rattle.fallible_core.proofs.joining.zip.ZipFallibleIterator.next.Goals as goal

pub returns-in_err-left : goal.returns-in_err-left
returns-in_err-left g c = (left_failed _, c.in_err-left.ensures, refl, search rules)

pub returns-in_err-right : goal.returns-in_err-right
returns-in_err-right g c = (both_drawn _ (Err _), c.in_ok-left.ensures, c.in_err-right.ensures, search rules)

pub returns-in-Some-Some : goal.returns-in-Some-Some
returns-in-Some-Some g c = (both_drawn (Some _) (Ok (Some _)), rw c.in-Some-Some.is-0 at c.in_ok-left.ensures, rw c.in-Some-Some.is-1 at c.in_ok-right.ensures, refl)

pub returns-in-Some-None : goal.returns-in-Some-None
returns-in-Some-None g c = (both_drawn (Some _) (Ok None), rw c.in-Some-None.is-0 at c.in_ok-left.ensures, rw c.in-Some-None.is-1 at c.in_ok-right.ensures, refl)

pub returns-in-None-default : goal.returns-in-None-default
returns-in-None-default g c = (both_drawn None (Ok _), rw c.in-None-default.is-0 at c.in_ok-left.ensures, c.in_ok-right.ensures, refl)
