-- What the list from the back says of the item, and of what is left.
use Rattle.fallible_iterator.specs.Laws.Contract.{stays_run}
use Rattle.fallible_iterator.proofs.Lemmas.Lists.Drawn.{nth_of_lists}
use Rattle.fallible_itertools.proofs.Lemmas.FromBack.{nth_at_back_is_nth_of_reversed}
use Rattle.fallible_itertools.proofs.double_ended.DoubleEndedFallibleItertools.nth_back.Goals as goal

pub returns-clause-value : goal.returns-clause-value
returns-clause-value g c l i = nth_of_lists l c.nth_from_back.ensures i

pub returns-clause-rest : goal.returns-clause-rest
returns-clause-rest g c l i = nth_at_back_is_nth_of_reversed l i c.nth_from_back.ensures

pub returns-clause-stays : goal.returns-clause-stays
returns-clause-stays g c = stays_run g.met.Self.DoubleEndedFallibleIterator.lawful_ends.back _ _ _ c.requires c.nth_from_back.ensures.ran
