-- A bound bounds the items of every run, and of draws from both ends.
use Rattle.std.specs.Prelude.{◌≡◌, ℕ, ◌+◌, ◌≤◌, length, List, [], ◌∷◌, ◌++◌, map, Result, Some, None, Ok, Err}
use Rattle.std.proofs.Common.{arith}
use Rattle.fallible_contract.specs.Traces.{Answered, Run, item, end, items_in}
use Rattle.fallible_contract.specs.Contract.{Contract, Lawful}
use Rattle.fallible_contract.specs.Folds.{CountDrainsOn}
use Rattle.fallible_contract.specs.Ends.{Ends, LawfulEnds}
use Rattle.fallible_contract.specs.BothEnds.{step_at, RunAtEnds, answers_drawn}
use Rattle.fallible_contract.specs.declared.answers.Side.{Side}
use Rattle.fallible_contract.specs.declared.answers.Side.TheVariants.{Front, Back}

module _ {S A E : Type 0} {m : Contract S A E} (l : Lawful m) where
  -- Law: No run from a value that `next` may be called on has more items than a bound of it. Failures and `Ok(None)` aren't counted.
  pub items_in_at_most : (trace : List (Answered A E)) (s t : S) (n : ℕ) → m.can_next s → m.bound s n → Run m.steps s trace t → items_in trace ≤ n
  items_in_at_most [] s t n c b ran = omega arith
  items_in_at_most (Ok (Some x) ∷ rest) s t n c b ran = let g = l.kept_by_draw s (item x) ran.0 c ran.1 in let k = g.answer.1 n b in let h = items_in_at_most rest ran.0 t k.0 g.can_next k.1 ran.2 in omega (arith, k.2, h)
  items_in_at_most (Ok None ∷ rest) s t n c b ran = let g = l.kept_by_draw s end ran.0 c ran.1 in let k = g.answer.0 n b in let h = items_in_at_most rest ran.0 t k.0 g.can_next k.1 ran.2 in omega (arith, k.2, h)
  items_in_at_most (Err e ∷ rest) s t n c b ran = let g = l.kept_by_draw s (Err e) ran.0 c ran.1 in let k = g.answer.1 n b in let h = items_in_at_most rest ran.0 t k.0 g.can_next k.1 ran.2 in omega (arith, k.2, h)

  length_at_most_items_in : (items : List A) (last : Answered A E) → length items ≤ items_in (map item items ++ last ∷ [])
  length_at_most_items_in [] last = omega arith
  length_at_most_items_in (x ∷ items) last = let h = length_at_most_items_in items last in omega (arith, h)

  -- a count goes up by no more than a bound
  pub number_at_most_bound : {s t : S} {n k b : ℕ} {r : Result (Unit {0}) E} → m.can_next s → m.bound s b → CountDrainsOn m.steps s n r t k → k ≤ n + b
  number_at_most_bound {s} {t} {n} {k} {b} c bounds w = let most = items_in_at_most (map item w.items ++ w.last ∷ []) s t b c bounds w.ran in let items = length_at_most_items_in w.items w.last in let up = w.at.number in omega (arith, most, items, up)

-- ---- draws from both ends

items_in_first_and_rest : {A E : Type 0} (r : Answered A E) (rest : List (Answered A E)) → items_in (r ∷ rest) ≡ items_in (r ∷ []) + items_in rest
items_in_first_and_rest (Ok (Some x)) rest = omega arith
items_in_first_and_rest (Ok None) rest = omega arith
items_in_first_and_rest (Err e) rest = omega arith

-- what one draw leaves of a bound
bound_left_after_draw : {S A E : Type 0} {m : Contract S A E} → Lawful m → (s : S) (r : Answered A E) (t : S) (n : ℕ) → m.can_next s → m.steps s r t → m.bound s n → (k : ℕ) × m.bound t k × (items_in (r ∷ []) + k ≤ n)
bound_left_after_draw l s (Ok (Some x)) t n c step b = let k = (l.kept_by_draw s (item x) t c step).answer.1 n b in (k.0, k.1, omega (arith, k.2))
bound_left_after_draw l s (Ok None) t n c step b = let k = (l.kept_by_draw s end t c step).answer.0 n b in (k.0, k.1, omega (arith, k.2))
bound_left_after_draw l s (Err e) t n c step b = let k = (l.kept_by_draw s (Err e) t c step).answer.1 n b in (k.0, k.1, omega (arith, k.2))

module _ {S A E : Type 0} {m : Contract S A E} {e : Ends S A E} (l : LawfulEnds m e) where
  can_next_after_draw_at_end : (side : Side) (s t : S) (r : Answered A E) → e.can_next s → step_at m.steps e.steps side s r t → e.can_next t
  can_next_after_draw_at_end Front s t r c step = (l.front.kept_by_draw s r t c step).can_next
  can_next_after_draw_at_end Back s t r c step = (l.back.kept_by_draw s r t c step).can_next

  bound_left_after_draw_at_end : (side : Side) (s t : S) (r : Answered A E) (n : ℕ) → e.can_next s → step_at m.steps e.steps side s r t → m.bound s n → (k : ℕ) × m.bound t k × (items_in (r ∷ []) + k ≤ n)
  bound_left_after_draw_at_end Front s t r n c step b = bound_left_after_draw l.front s r t n c step b
  bound_left_after_draw_at_end Back s t r n c step b = bound_left_after_draw l.back s r t n c step b

  -- Law: No draws from both ends of a value that may be drawn from both, in any order, have more items than a bound of it.
  pub items_in_drawn_at_most : (drawn : List (Side × Answered A E)) (s t : S) (n : ℕ) → e.can_next s → m.bound s n → RunAtEnds m.steps e.steps s drawn t → items_in (answers_drawn drawn) ≤ n
  items_in_drawn_at_most [] s t n c b mixed = omega arith
  items_in_drawn_at_most ((side, r) ∷ drawn) s t n c b mixed =
      let k = bound_left_after_draw_at_end side s mixed.0 r n c mixed.1 b in
      let rest = items_in_drawn_at_most drawn mixed.0 t k.0 (can_next_after_draw_at_end side s mixed.0 r c mixed.1) k.1 mixed.2 in
      let one_more = items_in_first_and_rest r (answers_drawn drawn) in
      omega (arith, k.2, rest, one_more)
