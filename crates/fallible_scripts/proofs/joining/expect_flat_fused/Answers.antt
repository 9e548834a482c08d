-- Each inner iterator has at most one item.
use Rattle.std.proofs.Common.{rules}
use Rattle.fallible_scripts.proofs.joining.expect_flat_fused.Goals as goal

pub expect_steps-requires-clause-finite : goal.expect_steps-requires-clause-finite
expect_steps-requires-clause-finite c = (search rules, search rules, (1, record { at = λ x inner came becomes. (1, search rules, search rules) }))
