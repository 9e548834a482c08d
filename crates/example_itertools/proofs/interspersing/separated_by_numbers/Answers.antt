-- The closure's state shows what its calls return.
use Rattle.std.specs.Prelude.{◌+◌, ◌%◌, ◌^◌, Ok}
use Rattle.std.proofs.Common.{rules, arith}
use Rattle.example_itertools.proofs.interspersing.separated_by_numbers.Goals as goal

pub returns : goal.returns
returns c = c.fold.ensures.value _ _ (search rules) (c.intersperse_with.ensures.shown (λ f n. Ok ((n + f.0 + 1) % 2 ^ 32)) _ _ (search rules) (λ f v h called. (search rules, λ n. search (rules, arith))) (λ n. search (rules, arith)))
