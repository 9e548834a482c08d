-- Each inner iterator has at most two items.
use Rattle.std.proofs.Common.{rules}
use Rattle.fallible_scripts.proofs.joining.digits_mapped_flat.Goals as goal

pub try_fold-requires-clause-finite : goal.try_fold-requires-clause-finite
try_fold-requires-clause-finite c = (search rules, search rules, (2, record { at = λ x inner came becomes. (2, search rules, search rules) }))
