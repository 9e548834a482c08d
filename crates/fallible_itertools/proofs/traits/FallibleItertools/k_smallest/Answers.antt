-- The fold whose state is the least items keeps them.
use Rattle.std.specs.Prelude.{Ok, Err}
use Rattle.std.proofs.Common.{inr}
use Rattle.fallible_iterator.proofs.Lemmas.Lists.Drawn.{collected_of_lists, collected_as_refused}
use Rattle.fallible_itertools.specs.Sorted.{IsSmallestOf, SmallestRefuses}
use Rattle.fallible_itertools.proofs.Lemmas.Contents.{contents_of_collected}
use Rattle.fallible_itertools.proofs.Lemmas.Sorted.{collects_all_smallest, fails_with_smallest, refuses_item_smallest}
use Rattle.fallible_itertools.proofs.traits.FallibleItertools.k_smallest.Goals as goal
use Rattle.fallible_iterator.specs.Fault.TheVariants.{Source}

pub returns-in-Ok-None-clause-collects : goal.returns-in-Ok-None-clause-collects
returns-in-Ok-None-clause-collects g c = collects_all_smallest g.met.Self.Item.Ord.total c.args.k c.new-kept.ensures.items c.cut.ensures (rw c.in-Ok-None.field-0-is at c.in-Ok-None.ensures)

pub returns-in-Ok-None-clause-value : goal.returns-in-Ok-None-clause-value
returns-in-Ok-None-clause-value g c l i = collected_of_lists (IsSmallestOf g.Self.Item.Ord.cmp c.args.k) ⊥ (SmallestRefuses c.args.k) (Ok _) l (returns-in-Ok-None-clause-collects g c) i

pub returns-in-Ok-None-clause-contents : goal.returns-in-Ok-None-clause-contents
returns-in-Ok-None-clause-contents g c l i = contents_of_collected (IsSmallestOf g.Self.Item.Ord.cmp c.args.k) l (Ok _) (returns-in-Ok-None-clause-value g c l i)

pub returns-clause-collects : goal.returns-clause-collects
returns-clause-collects g c = fails_with_smallest g.met.Self.Item.Ord.total c.args.k c.new-kept.ensures.items c.in-Err.ensures

pub returns-clause-value : goal.returns-clause-value
returns-clause-value g c l i = collected_of_lists (IsSmallestOf g.Self.Item.Ord.cmp c.args.k) ⊥ (SmallestRefuses c.args.k) (Err (Source _)) l (returns-clause-collects g c) i

pub returns-in-Ok-Some-clause-collects : goal.returns-in-Ok-Some-clause-collects
returns-in-Ok-Some-clause-collects g c = inr (refuses_item_smallest g.met.Self.Item.Ord.total c.args.k c.new-kept.ensures.items (rw c.in-Ok-Some.field-0-is at c.in-Ok-Some.ensures))

pub returns-in-Ok-Some-clause-value : goal.returns-in-Ok-Some-clause-value
returns-in-Ok-Some-clause-value g c l i = collected_as_refused (IsSmallestOf g.Self.Item.Ord.cmp c.args.k) l _

pub returns-in-Ok-Some-clause-contents : goal.returns-in-Ok-Some-clause-contents
returns-in-Ok-Some-clause-contents g c l i = contents_of_collected (IsSmallestOf g.Self.Item.Ord.cmp c.args.k) l _ (returns-in-Ok-Some-clause-value g c l i)

pub returns-clause-contents : goal.returns-clause-contents
returns-clause-contents g c l i = contents_of_collected (IsSmallestOf g.Self.Item.Ord.cmp c.args.k) l (Err (Source _)) (returns-clause-value g c l i)
