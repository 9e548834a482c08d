-- What is taken, and then ends alone.
use Rattle.fallible_iterator.proofs.Lemmas.ForGood.{ends_for_good_after_nth_taken, lists_for_good_taken, lists_for_good_taken_of_fused}
use Rattle.fallible_iterator.proofs.laws.for_good.law_take_for_good.Goals as goal

pub returns-clause-after_nth : goal.returns-clause-after_nth
returns-clause-after_nth g c trace t ran all = ends_for_good_after_nth_taken g.I.FallibleIterator.contract c.args.s.now trace t ran all

pub returns-clause-enough : goal.returns-clause-enough
returns-clause-enough g c it n l parts i few = lists_for_good_taken g.I.FallibleIterator.contract c.args.s.now it n l parts i few

pub returns-clause-fused : goal.returns-clause-fused
returns-clause-fused g c it n l parts i = lists_for_good_taken_of_fused g.I.FallibleIterator.contract c.args.s.now it n l parts i
