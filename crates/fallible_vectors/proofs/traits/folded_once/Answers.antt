-- The fold over the list of one item.
use Rattle.std.proofs.Common.{rules, Ok, [], ◌∷◌}
use Rattle.fallible_iterator.specs.Lists.{folded}
use Rattle.fallible_vectors.proofs.traits.folded_once.Goals as goal

pub returns : goal.returns
unfolding folded
returns c = c.fold.ensures.value (λ b y. Ok y) (Ok c.args.x ∷ []) (search rules) c.once.ensures.lists
