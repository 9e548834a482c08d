-- The fold whose state is both collections collects the pairs.
use Rattle.std.specs.Prelude.{Ok, Err}
use Rattle.std.proofs.Common.{inr}
use Rattle.fallible_contract.specs.Collecting.{MadeOfPairs, PairRefused}
use Rattle.fallible_contract.proofs.Lemmas.Collecting.{collects_all_by_turns, fails_with_by_turns, refuses_item_by_turns, collect_turn_of_unzip_turn}
use Rattle.fallible_contract.proofs.Lemmas.Lists.Drawn.{unzipped_of_lists, made_of_unzipped, collected_is_failure_unzipped, unzipped_as_refused}
use Rattle.fallible_contract.specs.declared.collecting.Fault.TheVariants.{Source}
use Rattle.fallible_core.proofs.traits.FallibleIterator.unzip.Goals as goal

pub returns-in-Ok-None-clause-collects : goal.returns-in-Ok-None-clause-collects
returns-in-Ok-None-clause-collects g c = collects_all_by_turns {refuses = PairRefused g.FromA.Collect.made g.FromB.Collect.made g.FromA.Collect.push_refuses g.FromB.Collect.push_refuses} (λ d x r e p. collect_turn_of_unzip_turn g.FromA.Collect.made g.FromB.Collect.made g.FromA.Collect.push_refuses g.FromB.Collect.push_refuses d x r e p) (c.in-Ok.ensures, c.in-Ok-empty.ensures) (rw c.in-Ok-None.field-0-is at c.in-Ok-None.ensures)

pub returns-in-Ok-None-clause-value : goal.returns-in-Ok-None-clause-value
returns-in-Ok-None-clause-value g c l i = unzipped_of_lists g.FromA.Collect.made g.FromB.Collect.made ⊥ (PairRefused g.FromA.Collect.made g.FromB.Collect.made g.FromA.Collect.push_refuses g.FromB.Collect.push_refuses) (Ok _) l (returns-in-Ok-None-clause-collects g c) i

pub returns-clause-collects : goal.returns-clause-collects
returns-clause-collects g c = fails_with_by_turns {made = MadeOfPairs g.FromA.Collect.made g.FromB.Collect.made} {refuses = PairRefused g.FromA.Collect.made g.FromB.Collect.made g.FromA.Collect.push_refuses g.FromB.Collect.push_refuses} (λ d x r e p. collect_turn_of_unzip_turn g.FromA.Collect.made g.FromB.Collect.made g.FromA.Collect.push_refuses g.FromB.Collect.push_refuses d x r e p) (c.in-Ok.ensures, c.in-Ok-empty.ensures) c.in-Err-drive.ensures

pub returns-clause-value : goal.returns-clause-value
returns-clause-value g c l i = unzipped_of_lists g.FromA.Collect.made g.FromB.Collect.made ⊥ (PairRefused g.FromA.Collect.made g.FromB.Collect.made g.FromA.Collect.push_refuses g.FromB.Collect.push_refuses) (Err (Source _)) l (returns-clause-collects g c) i

pub returns-in-Ok-Some-clause-collects : goal.returns-in-Ok-Some-clause-collects
returns-in-Ok-Some-clause-collects g c = inr (refuses_item_by_turns {made = MadeOfPairs g.FromA.Collect.made g.FromB.Collect.made} {refuses = PairRefused g.FromA.Collect.made g.FromB.Collect.made g.FromA.Collect.push_refuses g.FromB.Collect.push_refuses} (λ d x r e p. collect_turn_of_unzip_turn g.FromA.Collect.made g.FromB.Collect.made g.FromA.Collect.push_refuses g.FromB.Collect.push_refuses d x r e p) (c.in-Ok.ensures, c.in-Ok-empty.ensures) (rw c.in-Ok-Some.field-0-is at c.in-Ok-Some.ensures))

pub returns-in-Err-clause-value : goal.returns-in-Err-clause-value
returns-in-Err-clause-value g c l i = unzipped_as_refused g.FromA.Collect.made g.FromB.Collect.made l _

pub returns-in-Err-empty-clause-value : goal.returns-in-Err-empty-clause-value
returns-in-Err-empty-clause-value g c l i = unzipped_as_refused g.FromA.Collect.made g.FromB.Collect.made l _

pub returns-in-Ok-Some-clause-value : goal.returns-in-Ok-Some-clause-value
returns-in-Ok-Some-clause-value g c l i = unzipped_as_refused g.FromA.Collect.made g.FromB.Collect.made l _

pub returns-in-Ok-None-clause-contents : goal.returns-in-Ok-None-clause-contents
returns-in-Ok-None-clause-contents g c l i = made_of_unzipped g.FromA.Collect.made g.FromB.Collect.made l _ (returns-in-Ok-None-clause-value g c l i)

pub returns-clause-failure : goal.returns-clause-failure
returns-clause-failure g c l i e is = collected_is_failure_unzipped g.FromA.Collect.made g.FromB.Collect.made l (returns-clause-value g c l i) is
