-- A fold through std's own from the back is a fold of it.
use Rattle.std.proofs.Common.{rules}
use Rattle.std.specs.Borrow.{MutBor}
use Rattle.fallible_contract.proofs.Lemmas.Folds.{callable_driving_through}
use Rattle.fallible_iterator.specs.Sources.StdFold.{lent}
use Rattle.fallible_iterator.proofs.Lemmas.Sources.StdFold.{callable_in_std_fold, driven_by_std, driven_of_equal_left, driven_lent, lent_name_kept_by_std_fold}
use Rattle.fallible_iterator.proofs.sources.std_fold.drive_back_std.Goals as goal

pub try_rfold-requires-clause-callable : goal.try_rfold-requires-clause-callable
try_rfold-requires-clause-callable g c = callable_in_std_fold g.M.Element.of_item g.M.Element.of_failure g.M.Element.read g.met.M.Element.reads g.I.DoubleEndedIterator.can_next_back g.I.DoubleEndedIterator.next_back_gives g.I.Iterator.remaining _ _ (lent (g.K.Turn.turns c.args.turn.now)) (λ d z r h p. search rules) (λ b x. g.K.Turn.can_turn c.args.turn.now b.now x) (λ d z p. search rules)
    (callable_driving_through (λ (z : MutBor _). z.now) (λ (z : MutBor _). z.ghost_name) (g.K.Turn.turns c.args.turn.now) c.requires.callable)

pub returns-in-Ok : goal.returns-in-Ok
returns-in-Ok g c =
    let name = lent_name_kept_by_std_fold g.M.Element.of_item g.M.Element.of_failure g.M.Element.read g.met.M.Element.reads g.I.DoubleEndedIterator.can_next_back g.I.DoubleEndedIterator.next_back_gives g.I.Iterator.remaining _ _ (lent (g.K.Turn.turns c.args.turn.now)) (λ d z r h p. search rules) c.try_rfold.new.self c.try_rfold.ensures.ran in
    driven_of_equal_left (search (rules, name)) (driven_lent {turns = g.K.Turn.turns c.args.turn.now} _ (driven_by_std g.M.Element.of_item g.M.Element.of_failure g.M.Element.read g.met.M.Element.reads g.I.DoubleEndedIterator.can_next_back g.I.DoubleEndedIterator.next_back_gives g.I.Iterator.remaining _ _ (lent (g.K.Turn.turns c.args.turn.now)) (λ d z r h p. search rules) c.try_rfold.new.self c.in-Ok.ensures.ran) (λ same. search rules))

pub returns-in-Err : goal.returns-in-Err
returns-in-Err g c =
    let name = lent_name_kept_by_std_fold g.M.Element.of_item g.M.Element.of_failure g.M.Element.read g.met.M.Element.reads g.I.DoubleEndedIterator.can_next_back g.I.DoubleEndedIterator.next_back_gives g.I.Iterator.remaining _ _ (lent (g.K.Turn.turns c.args.turn.now)) (λ d z r h p. search rules) c.try_rfold.new.self c.try_rfold.ensures.ran in
    driven_of_equal_left (search (rules, name)) (driven_lent {turns = g.K.Turn.turns c.args.turn.now} _ (driven_by_std g.M.Element.of_item g.M.Element.of_failure g.M.Element.read g.met.M.Element.reads g.I.DoubleEndedIterator.can_next_back g.I.DoubleEndedIterator.next_back_gives g.I.Iterator.remaining _ _ (lent (g.K.Turn.turns c.args.turn.now)) (λ d z r h p. search rules) c.try_rfold.new.self c.in-Err.ensures.ran) (λ same. search rules))
