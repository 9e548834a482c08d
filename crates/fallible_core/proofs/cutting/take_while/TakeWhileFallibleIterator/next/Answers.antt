-- What becomes of one answer of the source is one draw.
use Rattle.fallible_contract.proofs.Lemmas.Passing.{if_item_where_callable}
use Rattle.fallible_core.proofs.Lemmas.Cutting.TakeWhileFolds.{step_of_drawn_where_taking}
use Rattle.fallible_core.proofs.Lemmas.Cutting.TakeWhile.{leaves_none_out_of_take_while}
use Rattle.fallible_core.proofs.cutting.take_while.TakeWhileFallibleIterator.next.Goals as goal

pub passed-requires-clause-takes : goal.passed-requires-clause-takes
passed-requires-clause-takes g c = if_item_where_callable g.met.I.FallibleIterator.lawful c.requires.0 _ c.next.ensures c.requires.1

pub passed-requires-clause-answers : goal.passed-requires-clause-answers
passed-requires-clause-answers g c = leaves_none_out_of_take_while

pub returns : goal.returns
returns g c = step_of_drawn_where_taking g.I.FallibleIterator.contract g.P.FnMut c.args.self.now c.if-self.false _ _ _ c.next.ensures c.passed.ensures
