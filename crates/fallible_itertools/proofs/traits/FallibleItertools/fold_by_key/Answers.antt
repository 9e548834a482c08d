-- The fold over the items beside their keys, whose state is the map and the closure.
use Rattle.std.specs.Prelude.{Ok, Err, []}
use Rattle.fallible_iterator.specs.Folds.{call_with, takes_with}
use Rattle.fallible_iterator.specs.Fault.TheVariants.{Source}
use Rattle.fallible_iterator.proofs.Lemmas.Folding.{holds_at_each_turn_of_held}
use Rattle.fallible_itertools.specs.Keyed.{IsKeyFoldOf, checked_folds, keyed_parts, keyed_contract, keyed}
use Rattle.fallible_itertools.proofs.Lemmas.Contents.{contents_of_collected}
use Rattle.fallible_itertools.proofs.Lemmas.Keyed.{hashed_map_of_none, callable_driving_by_key, folds_by_key_ended, folds_by_key_failed, folds_by_key_stopped, folded_by_key_of_keyed}
use Rattle.fallible_itertools.proofs.traits.FallibleItertools.fold_by_key.Goals as goal

pub drive-answer-requires-clause-callable : goal.drive-answer-requires-clause-callable
drive-answer-requires-clause-callable g c = callable_driving_by_key (call_with g.G.FnMut) g.K.PartialEq.eq c.args.init c.args.f (takes_with g.G.FnMut) c.new.result (hashed_map_of_none c.new.result c.new.ensures.empty c.new.ensures.unique) (holds_at_each_turn_of_held {held = (keyed_contract g.Self.FallibleIterator.contract g.F.FnMut).steps} keyed_parts (λ p x q step. step) c.requires.callable_fold)

pub returns-in-Ok-None-clause-folded : goal.returns-in-Ok-None-clause-folded
returns-in-Ok-None-clause-folded g c = folds_by_key_ended (call_with g.G.FnMut) g.K.PartialEq.eq c.args.init c.args.f keyed_parts (keyed_contract g.Self.FallibleIterator.contract g.F.FnMut).steps (hashed_map_of_none c.new.result c.new.ensures.empty c.new.ensures.unique) c.drive-answer.new.state (rw c.in-Ok-None.field-0-is at c.in-Ok-None.ensures)

pub returns-in-Ok-Some-clause-folded : goal.returns-in-Ok-Some-clause-folded
returns-in-Ok-Some-clause-folded g c = folds_by_key_stopped (call_with g.G.FnMut) g.K.PartialEq.eq c.args.init c.args.f keyed_parts (keyed_contract g.Self.FallibleIterator.contract g.F.FnMut).steps (hashed_map_of_none c.new.result c.new.ensures.empty c.new.ensures.unique) c.drive-answer.new.state _ (rw c.in-Ok-Some.field-0-is at c.in-Ok-Some.ensures)

pub returns-clause-folded : goal.returns-clause-folded
returns-clause-folded g c = folds_by_key_failed (call_with g.G.FnMut) g.K.PartialEq.eq c.args.init c.args.f keyed_parts (keyed_contract g.Self.FallibleIterator.contract g.F.FnMut).steps (hashed_map_of_none c.new.result c.new.ensures.empty c.new.ensures.unique) c.drive-answer.new.state c.in-Err.e c.in-Err.ensures

pub returns-in-Ok-None-clause-value : goal.returns-in-Ok-None-clause-value
returns-in-Ok-None-clause-value g c k l acts i h folds = folded_by_key_of_keyed g.Self.FallibleIterator.contract g.F.FnMut k l acts i g.met.K.Eq.laws h c.args.init (call_with g.G.FnMut) c.args.f folds (Ok _) (returns-in-Ok-None-clause-folded g c)

pub returns-in-Ok-Some-clause-value : goal.returns-in-Ok-Some-clause-value
returns-in-Ok-Some-clause-value g c k l acts i h folds = folded_by_key_of_keyed g.Self.FallibleIterator.contract g.F.FnMut k l acts i g.met.K.Eq.laws h c.args.init (call_with g.G.FnMut) c.args.f folds (Err _) (returns-in-Ok-Some-clause-folded g c)

pub returns-clause-value : goal.returns-clause-value
returns-clause-value g c k l acts i h folds = folded_by_key_of_keyed g.Self.FallibleIterator.contract g.F.FnMut k l acts i g.met.K.Eq.laws h c.args.init (call_with g.G.FnMut) c.args.f folds (Err (Source _)) (returns-clause-folded g c)

pub returns-in-Ok-None-clause-contents : goal.returns-in-Ok-None-clause-contents
returns-in-Ok-None-clause-contents g c k l acts i h folds = contents_of_collected (IsKeyFoldOf g.K.PartialEq.eq h c.args.init) (checked_folds g.K.PartialEq.eq h c.args.init [] (keyed k l)) (Ok _) (returns-in-Ok-None-clause-value g c k l acts i h folds)

pub returns-in-Ok-Some-clause-contents : goal.returns-in-Ok-Some-clause-contents
returns-in-Ok-Some-clause-contents g c k l acts i h folds = contents_of_collected (IsKeyFoldOf g.K.PartialEq.eq h c.args.init) (checked_folds g.K.PartialEq.eq h c.args.init [] (keyed k l)) (Err _) (returns-in-Ok-Some-clause-value g c k l acts i h folds)

pub returns-clause-contents : goal.returns-clause-contents
returns-clause-contents g c k l acts i h folds = contents_of_collected (IsKeyFoldOf g.K.PartialEq.eq h c.args.init) (checked_folds g.K.PartialEq.eq h c.args.init [] (keyed k l)) (Err (Source _)) (returns-clause-value g c k l acts i h folds)
