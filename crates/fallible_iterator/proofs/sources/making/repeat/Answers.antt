-- A clone that is the value itself, each time; or a clone, until one fails.
use Rattle.std.proofs.Common.{refl}
use Rattle.fallible_iterator.proofs.Lemmas.Sources.Repeat.{lists_repeated_until_refused, repeats_clones}
use Rattle.fallible_iterator.proofs.sources.making.repeat.Goals as goal

pub returns-clause-repeats : goal.returns-clause-repeats
returns-clause-repeats g c granted exact = repeats_clones g.T.Clone.is_clone g.T.Clone.is_infallible g.E.From.from_gives c.args.value granted exact _ refl

pub returns-clause-until_refused : goal.returns-clause-until_refused
returns-clause-until_refused g c s n parts = lists_repeated_until_refused g.T.Clone.is_clone g.T.Clone.is_infallible g.E.From.from_gives s _ n c.args.value refl parts
