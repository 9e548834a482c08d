-- What the source lists from the back.
use Rattle.std.proofs.Common.{refl}
use Rattle.fallible_contract.proofs.Lemmas.Lists.Passing.{lists_seen}
use Rattle.fallible_core.specs.Ends.Rev.{rev_parts}
use Rattle.fallible_core.proofs.traits.FallibleIterator.rev.Goals as goal

pub returns-clause-lists : goal.returns-clause-lists
returns-clause-lists g c l i = lists_seen rev_parts g.Self.DoubleEndedFallibleIterator.ends.steps _ refl refl i.runs
