-- The fold whose state is the number of items counts them.
use Rattle.std.proofs.Common.{◌≡◌, true, Ok}
use Rattle.fallible_iterator.proofs.Lemmas.Contract.{bound_at_most_of_at_most}
use Rattle.fallible_iterator.proofs.Lemmas.Folds.{holds_each_turn_by_implication, holds_each_turn_below}
use Rattle.fallible_itertools.proofs.Lemmas.FromBack.{counted_where_to_end, counted_where_to_failure}
use Rattle.fallible_itertools.proofs.double_ended.number_left_if.Goals as goal

pub drive-requires-clause-finite : goal.drive-requires-clause-finite
drive-requires-clause-finite g c = let b = bound_at_most_of_at_most g.I.FallibleIterator.contract _ _ c.requires.fits in (g.met.I.FallibleIterator.lawful.bounded _).1 (b.0, b.1)

pub drive-requires-clause-callable : goal.drive-requires-clause-callable
drive-requires-clause-callable g c = holds_each_turn_by_implication (λ n x k h. h.1) (λ n x h. h) (holds_each_turn_below _ g.met.I.FallibleIterator.lawful c.requires.can_next c.requires.fits)

pub returns-in-Ok-None : goal.returns-in-Ok-None
returns-in-Ok-None g c = let is : c.args.found ≡ Ok true = (let w = c.in_ok-found.was in let b = c.if-not-branch.false in cc) in counted_where_to_end c.args.found is (rw c.in-Ok-None.field-0-is at c.in-Ok-None.ensures)

pub returns-in-Err : goal.returns-in-Err
returns-in-Err g c = let is : c.args.found ≡ Ok true = (let w = c.in_ok-found.was in let b = c.if-not-branch.false in cc) in counted_where_to_failure c.args.found is c.in-Err.ensures
