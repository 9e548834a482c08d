-- The number of each inner iterator serves for both that may come.
use Rattle.std.proofs.Common.{rules, ◌^◌, ◌-◌}
use Rattle.fallible_scripts.proofs.joining.expect_flat.Goals as goal

pub expect_steps-requires-clause-finite : goal.expect_steps-requires-clause-finite
expect_steps-requires-clause-finite g c = (search rules, search rules, (2 ^ 64 - 1, record { at = λ x inner came becomes. (2 ^ 64 - 1, search rules, search rules) }))
