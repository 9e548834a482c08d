-- The collection of groups is the map of groups.
use Rattle.std.specs.Prelude.{Ok, Err}
use Rattle.fallible_iterator.proofs.Lemmas.Lists.Drawn.{collected_of_lists}
use Rattle.fallible_itertools.specs.Keyed.{IsGroupMapOf, GroupRefuses}
use Rattle.fallible_itertools.proofs.Lemmas.Contents.{contents_of_collected}
use Rattle.fallible_itertools.proofs.Lemmas.Keyed.{collects_all_grouped, collects_fault_of_groups}
use Rattle.fallible_itertools.proofs.traits.FallibleItertools.into_group_map.Goals as goal

pub returns-in-Ok-clause-collects : goal.returns-in-Ok-clause-collects
returns-in-Ok-clause-collects g c = collects_all_grouped g.K.PartialEq.eq (λ t. t.groups) _ _ _ c.in-Ok.ensures.collects

pub returns-in-Ok-clause-value : goal.returns-in-Ok-clause-value
returns-in-Ok-clause-value g c l i = collected_of_lists (IsGroupMapOf g.K.PartialEq.eq) ⊥ (GroupRefuses g.K.PartialEq.eq) (Ok _) l (returns-in-Ok-clause-collects g c) i

pub returns-in-Ok-clause-contents : goal.returns-in-Ok-clause-contents
returns-in-Ok-clause-contents g c l i = contents_of_collected (IsGroupMapOf g.K.PartialEq.eq) l (Ok _) (returns-in-Ok-clause-value g c l i)

pub returns-in-Err-clause-collects : goal.returns-in-Err-clause-collects
returns-in-Err-clause-collects g c = collects_fault_of_groups g.K.PartialEq.eq (λ t. t.groups) _ _ _ c.in-Err.ensures.collects

pub returns-in-Err-clause-value : goal.returns-in-Err-clause-value
returns-in-Err-clause-value g c l i = collected_of_lists (IsGroupMapOf g.K.PartialEq.eq) ⊥ (GroupRefuses g.K.PartialEq.eq) (Err _) l (returns-in-Err-clause-collects g c) i

pub returns-in-Err-clause-contents : goal.returns-in-Err-clause-contents
returns-in-Err-clause-contents g c l i = contents_of_collected (IsGroupMapOf g.K.PartialEq.eq) l (Err _) (returns-in-Err-clause-value g c l i)
