-- The tally of few enough items counts them.
use Rattle.std.specs.Prelude.{◌≡◌, Ok, Err, None}
use Rattle.std.specs.HashMap.{get, spare}
use Rattle.fallible_iterator.proofs.Lemmas.Lists.Drawn.{collected_of_lists}
use Rattle.fallible_itertools.specs.Keyed.{IsCountsOf}
use Rattle.fallible_itertools.proofs.Lemmas.Contents.{contents_of_collected}
use Rattle.fallible_itertools.proofs.Lemmas.Keyed.{collects_all_counted, collects_fault_of_counts}
use Rattle.fallible_itertools.proofs.traits.FallibleItertools.counts.Goals as goal

pub returns-in-Ok-clause-collects : goal.returns-in-Ok-clause-collects
returns-in-Ok-clause-collects g c = collects_all_counted g.met.Self.FallibleIterator.lawful c.requires.can_next c.requires.fits g.Self.Item.PartialEq.eq (λ t. t.counts) _ c.in-Ok.ensures.collects

pub returns-in-Ok-clause-value : goal.returns-in-Ok-clause-value
returns-in-Ok-clause-value g c l i = collected_of_lists (IsCountsOf g.Self.Item.PartialEq.eq) ⊥ (λ m x. (get g.Self.Item.PartialEq.eq m x ≡ None) × (spare m ≡ 0)) (Ok _) l (returns-in-Ok-clause-collects g c) i

pub returns-in-Ok-clause-contents : goal.returns-in-Ok-clause-contents
returns-in-Ok-clause-contents g c l i = contents_of_collected (IsCountsOf g.Self.Item.PartialEq.eq) l (Ok _) (returns-in-Ok-clause-value g c l i)

pub returns-in-Err-clause-collects : goal.returns-in-Err-clause-collects
returns-in-Err-clause-collects g c = collects_fault_of_counts g.met.Self.FallibleIterator.lawful c.requires.can_next c.requires.fits g.Self.Item.PartialEq.eq (λ t. t.counts) _ c.in-Err.ensures.collects

pub returns-in-Err-clause-value : goal.returns-in-Err-clause-value
returns-in-Err-clause-value g c l i = collected_of_lists (IsCountsOf g.Self.Item.PartialEq.eq) ⊥ (λ m x. (get g.Self.Item.PartialEq.eq m x ≡ None) × (spare m ≡ 0)) (Err _) l (returns-in-Err-clause-collects g c) i

pub returns-in-Err-clause-contents : goal.returns-in-Err-clause-contents
returns-in-Err-clause-contents g c l i = contents_of_collected (IsCountsOf g.Self.Item.PartialEq.eq) l (Err _) (returns-in-Err-clause-value g c l i)
