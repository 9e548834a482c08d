-- One bound serves for all that may come.
use Rattle.std.proofs.Common.{arith}
use Rattle.fallible_iterator.proofs.laws.joining.law_flat_map_finite.Goals as goal

pub returns : goal.returns
returns g c = (c.requires.outer, c.requires.in_hand, (c.args.each, record { at = λ x inner came becomes. (c.args.each, c.requires.inner x inner came becomes, omega arith) }))
