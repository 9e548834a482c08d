-- What each borrow lists, and so what both list under the zip.
use Rattle.std.proofs.Common.{rules, ◌+◌, ◌*◌, ◌%◌, ◌^◌, Ok}
use Rattle.fallible_iterator.proofs.Lemmas.Lent.{lists_lent}
use Rattle.example_by_hand.proofs.drawing.sum_of_products.Goals as goal

pub returns : goal.returns
returns g c a b i j = c.fold.ensures.value (λ s p. Ok ((s + p.0 * p.1) % 2 ^ 64)) _ (search rules) (c.zip.ensures.items _ (lists_lent i) _ (λ right same. rw same (lists_lent j)))
