-- Memory is wanted only after the thousandth reading.
use Rattle.std.specs.Prelude.{◌≡◌, ℕ, ◌≤◌, ◌<◌, List, length, map, Result, Some, Ok, Err}
use Rattle.std.proofs.Common.{rules, ap, arith, inl, inr, ◌∙◌}
use Rattle.std.proofs.lemmas.List.{length-append, length-map}
use Rattle.fallible_iterator.specs.Traces.{Answered}
use Rattle.fallible_iterator.specs.Collecting.{Collects}
use Rattle.fallible_iterator.specs.Lists.{Lists, results}
use Rattle.fallible_iterator.proofs.Lemmas.Lists.Drawn.{drawn_of_lists}
use Rattle.example_chains.proofs.collecting.tallied.Goals as goal
use Rattle.std.specs.declared.alloc.AllocError.{AllocError}
use Rattle.fallible_iterator.specs.Fault.{Fault}
use Rattle.fallible_iterator.specs.Fault.TheVariants.{Source, Memory}
use Rattle.example_chains.specs.declared.collecting.Tally.{Tally}

-- A rejected item stands after the items that the tally counts.
tally_full : {S E : Type 0} {steps : S → Answered ℕ E → S → Type 0} {s : S} (l : List (Result ℕ E)) → Lists steps s l → (fault : Fault E) (a : AllocError) → Collects {C = Tally} steps (λ items tally. tally.count ≡ length items) ⊥ (λ tally _. 1000 ≤ tally.count) s (Err fault) → fault ≡ Memory a → 1000 < length l
tally_full l i (Source e) a k is = absurd cc
tally_full l i (Memory b) a (inl k) is = absurd k
tally_full {E = E} {steps = steps} {s = s} l i (Memory b) a (inr k) is =
    let d = drawn_of_lists steps k.items (Ok (Some k.refused)) l s k.after i.runs k.ran in
    let long = ap length d.list_is ∙ length-append (map (λ x. Ok x) k.items) d.rest in
    let front = length-map {B = Result ℕ E} k.items (λ x. Ok x) in
    let rest_is_long = ap length d.rest_is.1 in
    let made = k.is_made in
    let full = k.refuses_it in
    omega (arith, long, front, rest_is_long, made, full)

pub returns-in_err-tally-clause-memory : goal.returns-in_err-tally-clause-memory
unfolding results
returns-in_err-tally-clause-memory c a is = tally_full c.args.readings.items (c.convert.ensures.results c.args.readings.items (search rules)) _ a c.in_err-tally.ensures.collects (search rules)
