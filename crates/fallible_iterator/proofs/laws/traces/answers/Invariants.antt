-- What was made are the answers of as many draws, and there is room for the rest.
use Rattle.std.proofs.Common.{◌≤◌, ◌-◌, vec_len, vec_capacity}
use Rattle.fallible_contract.specs.Contract.{Stays}
use Rattle.fallible_contract.specs.ShownTraces.{IsAnswers}
use Rattle.fallible_iterator.proofs.laws.traces.answers.Given as goal

abbrev pub invariant-loop-it : goal.invariant-loop-it
invariant-loop-it g l = let m = g.I.FallibleIterator.contract in record {
  room : l.n ≤ vec_capacity l.made;
  within : vec_len l.made ≤ l.n;
  drawn : IsAnswers m.steps l.fn.it (vec_len l.made) l.made.items l.it;
  stays : Stays m l.fn.it l.it;
}

abbrev pub decreases-loop-it : goal.decreases-loop-it
decreases-loop-it g l = l.n - vec_len l.made
