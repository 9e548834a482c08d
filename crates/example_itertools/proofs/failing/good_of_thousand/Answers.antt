-- No more items come than the second `take` takes.
use Rattle.std.specs.Prelude.{◌≡◌, ◌-◌, ◌^◌, Ok, None}
use Rattle.std.proofs.Common.{rules, ap, arith, ◌∙◌}
use Rattle.fallible_iterator.specs.Lists.{counted, taken}
use Rattle.fallible_itertools.specs.Failing.{recovered, stopped_after}
use Rattle.fallible_itertools.proofs.Lemmas.Failing.{taken_recovered}
use Rattle.fallible_itertools.proofs.Lemmas.Failing.{length_stopped_after_taken}
use Rattle.example_itertools.proofs.failing.good_of_thousand.Goals as goal

pub returns : goal.returns
returns g c = λ l i. let cut : c.count.result ≡ counted (taken (2 ^ 64 - 1) (recovered (λ _. Ok None) (stopped_after 100 (taken 1000 l)))) = search rules in cut ∙ ap counted (taken_recovered (λ _. Ok None) (2 ^ 64 - 1) (stopped_after 100 (taken 1000 l)) (omega (arith, length_stopped_after_taken 100 1000 l)))
