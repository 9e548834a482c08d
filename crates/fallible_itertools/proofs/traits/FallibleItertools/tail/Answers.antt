-- The fold whose state is the last items keeps them.
use Rattle.std.specs.VecDeque.{deque_capacity, deque_items, deque_len}
use Rattle.fallible_iterator.proofs.Lemmas.Lists.Drawn.{collected_of_lists}
use Rattle.fallible_itertools.specs.Tail.{IsTailOf, TailRefuses}
use Rattle.fallible_itertools.proofs.Lemmas.Contents.{contents_of_collected}
use Rattle.fallible_itertools.proofs.Lemmas.Tail.{collects_tail}
use Rattle.fallible_itertools.proofs.traits.FallibleItertools.tail.Goals as goal

pub returns-clause-collects : goal.returns-clause-collects
returns-clause-collects g c = collects_tail c.args.n deque_items deque_len deque_capacity c.new-kept.ensures.items c.drive-answer.ensures c.gathered.ensures

pub returns-clause-value : goal.returns-clause-value
returns-clause-value g c l i = collected_of_lists (IsTailOf deque_items c.args.n) ⊥ (TailRefuses deque_len deque_capacity c.args.n) _ l (returns-clause-collects g c) i

pub returns-clause-contents : goal.returns-clause-contents
returns-clause-contents g c l i = contents_of_collected (IsTailOf deque_items c.args.n) l _ (returns-clause-value g c l i)
