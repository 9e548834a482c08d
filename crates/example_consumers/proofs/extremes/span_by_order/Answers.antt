-- By an order, it is what `minmax` finds.
use Rattle.std.proofs.Common.{rules}
use Rattle.std.specs.Cmp.{nat_cmp_total}
use Rattle.example_consumers.proofs.extremes.span_by_order.Goals as goal

pub returns : goal.returns
returns c = c.minmax_by.ensures.order _ nat_cmp_total (λ x y r j k. search rules) _ (search rules)
