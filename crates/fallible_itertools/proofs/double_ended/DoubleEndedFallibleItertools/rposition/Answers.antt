-- The fold from the back whose state is the predicate, and then a count of what is left.
use Rattle.std.proofs.Common.{false}
use Rattle.fallible_iterator.specs.Closures.{call_by_value}
use Rattle.fallible_iterator.specs.Searching.{any_pick}
use Rattle.fallible_iterator.proofs.Lemmas.Contract.{bound_at_most_of_at_most}
use Rattle.fallible_iterator.proofs.Lemmas.Searching.{search_drains_of_drive}
use Rattle.fallible_itertools.proofs.Lemmas.FromBack.{last_position_in_of_lists, kept_by_draws_run_at_back, kept_by_draws_counted, at_most_kept_after_draws}
use Rattle.fallible_itertools.proofs.double_ended.DoubleEndedFallibleItertools.rposition.Goals as goal

pub drive_back-requires-clause-finite : goal.drive_back-requires-clause-finite
drive_back-requires-clause-finite g c = let b = bound_at_most_of_at_most g.Self.FallibleIterator.contract _ _ c.requires.fits in (g.met.Self.FallibleIterator.lawful.bounded _).1 (b.0, b.1)

pub number_left_if-requires-clause-can_next : goal.number_left_if-requires-clause-can_next
number_left_if-requires-clause-can_next g c = g.met.Self.DoubleEndedFallibleIterator.lawful_ends.front_can _ (kept_by_draws_run_at_back g.met.Self.DoubleEndedFallibleIterator.lawful_ends _ c.requires.can_next c.drive_back.ensures.ran).can_next

pub number_left_if-requires-clause-fits : goal.number_left_if-requires-clause-fits
number_left_if-requires-clause-fits g c = at_most_kept_after_draws g.met.Self.DoubleEndedFallibleIterator.lawful_ends _ (kept_by_draws_run_at_back g.met.Self.DoubleEndedFallibleIterator.lawful_ends _ c.requires.can_next c.drive_back.ensures.ran) c.requires.fits

pub returns-clause-placed : goal.returns-clause-placed
returns-clause-placed g c = record { found = _; closure = _; before = _; searched = search_drains_of_drive {call = call_by_value g.F.FnMut} {pick = any_pick} false (λ f x r g w. w) c.drive_back.ensures c.answer_or-found.ensures; counts = c.number_left_if.ensures }

pub returns-clause-rest : goal.returns-clause-rest
returns-clause-rest g c h l acts i = last_position_in_of_lists l h (call_by_value g.F.FnMut) acts i (returns-clause-placed g c)

pub returns-clause-kept : goal.returns-clause-kept
returns-clause-kept g c = kept_by_draws_counted g.met.Self.DoubleEndedFallibleIterator.lawful_ends _ _ (kept_by_draws_run_at_back g.met.Self.DoubleEndedFallibleIterator.lawful_ends _ c.requires.can_next c.drive_back.ensures.ran) c.number_left_if.ensures
