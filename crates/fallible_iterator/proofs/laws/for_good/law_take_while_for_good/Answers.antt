-- What stands before a rejected item, and then ends alone.
use Rattle.fallible_iterator.proofs.Lemmas.ForGood.{ends_for_good_after_rejected, lists_for_good_taken_while, lists_for_good_taken_while_of_fused}
use Rattle.fallible_iterator.proofs.laws.for_good.law_take_while_for_good.Goals as goal

pub returns-clause-after_rejected : goal.returns-clause-after_rejected
returns-clause-after_rejected g c t is = ends_for_good_after_rejected g.I.FallibleIterator.contract g.P.FnMut t is

pub returns-clause-rejects : goal.returns-clause-rejects
returns-clause-rejects g c it f h l x parts acts i among is = lists_for_good_taken_while g.I.FallibleIterator.contract g.P.FnMut c.args.s.now it f h l parts acts x i among is

pub returns-clause-fused : goal.returns-clause-fused
returns-clause-fused g c it f h l parts acts i = lists_for_good_taken_while_of_fused g.I.FallibleIterator.contract g.P.FnMut c.args.s.now it f h l parts acts i
