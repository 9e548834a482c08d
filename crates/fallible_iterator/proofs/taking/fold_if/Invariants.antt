-- A bound is counted down; the closures may be called on what may come; and what a fold from here does, the whole fold does.
use Rattle.fallible_contract.specs.Closures.{call_by_reference, takes_by_reference}
use Rattle.fallible_contract.specs.Contract.{parts_as}
use Rattle.fallible_contract.specs.Folds.{CallableInFold, call_with, takes_with}
use Rattle.fallible_core.specs.Peeking.Peekable.{peekable_contract, peekable_parts}
use Rattle.fallible_iterator.specs.Taking.{AcceptedCall, FoldIfDrains, accepted_takes}
use Rattle.fallible_iterator.proofs.Lemmas.Loops.{CountsDown}
use Rattle.fallible_iterator.proofs.taking.fold_if.Given as goal

abbrev pub invariant-loop-left : goal.invariant-loop-left
invariant-loop-left g l =
    let m = peekable_contract g.I.FallibleIterator.contract in
    let tests = call_by_reference g.P.FnMut in
    let call = call_with g.F.FnMut in
    let drains = FoldIfDrains g.I.FallibleIterator.contract.steps tests call in record {
      counts : CountsDown (parts_as peekable_parts m) l.ahead l.left.value;
      callable : CallableInFold m.steps (AcceptedCall tests call) (accepted_takes tests call (takes_by_reference g.P.FnMut) (takes_with g.F.FnMut)) (peekable_parts l.ahead) (l.test, l.f) l.value;
      whole : (r : _) (t : _) → drains (peekable_parts l.ahead) l.value l.test l.f r t → drains (peekable_parts l.fn.ahead) l.fn.init l.fn.test l.fn.f r t;
    }

abbrev pub decreases-loop-left : goal.decreases-loop-left
decreases-loop-left g l = l.left.value
