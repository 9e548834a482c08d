-- Hints of the adapters that keep items by their numbers.
use Rattle.std.specs.Prelude.{◌≡◌, ℕ, zero, suc, ◌+◌, ◌-◌, ◌*◌, ◌/◌, ◌<◌, ◌≤◌, List, [], ◌∷◌, ◌++◌, length, Option, Some, None, IfSome, option_map}
use Rattle.std.proofs.Common.{refl, sym, ap, subst, arith, inl, inr, length-append}
use Rattle.std.proofs.lemmas.Bool.{cases_lt, le-leb, lt-leb}
use Rattle.std.proofs.Math.Nat.{le-div_iff_mul-le, div-lt_iff_lt-mul}
use Rattle.fallible_contract.specs.Traces.{Answered, Yields, item, end}
use Rattle.fallible_contract.specs.Hints.{hint_kept, kept_of}
use Rattle.fallible_contract.proofs.Lemmas.ByNumber.{Leaves, leaves_nil_same, keeps_item, keeps_end, leaves_out}
use Rattle.fallible_core.specs.Laws.Hints.Brackets.{Brackets}
use Rattle.fallible_core.specs.Laws.Hints.Drawn.{yields_appended_of_two_yields}

-- ---- numbers

-- how many items are drawn for so many kept ones: r and one for the first, and the items between and one for each other
abbrev drawn_for : ℕ → ℕ → ℕ → ℕ
drawn_for between r zero = 0
drawn_for between r (suc m) = r + 1 + m * (between + 1)

-- how many are left out next after so many kept ones
abbrev to_skip_after_kept : ℕ → ℕ → ℕ → ℕ
to_skip_after_kept between r zero = r
to_skip_after_kept between r (suc m) = between

drawn_for_steps_is_product : (between m : ℕ) → drawn_for between between m ≡ m * (between + 1)
drawn_for_steps_is_product between zero = omega arith
drawn_for_steps_is_product between (suc m) = omega arith

to_skip_after_steps : (between m : ℕ) → to_skip_after_kept between between m ≡ between
to_skip_after_steps between zero = refl
to_skip_after_steps between (suc m) = refl

-- of u items no fewer are kept than were drawn for
kept_of_at_least : (between r m u : ℕ) → drawn_for between r m ≤ u → m ≤ kept_of between r u
kept_of_at_least between r zero u le = omega arith
kept_of_at_least between r (suc m) u le =
    let past : r < u = omega (arith, le) in
    let rest : m * (between + 1) ≤ u - 1 - r = omega (arith, le) in
    let some : 0 < between + 1 = omega arith in
    let steps : m ≤ (u - 1 - r) / (between + 1) = (le-div_iff_mul-le some).1 rest in
    rw (lt-leb u r past) (omega (arith, steps))

kept_of_at_most_one_more : (between r m b : ℕ) → b ≤ r + 1 + m * (between + 1) + between → kept_of between r b ≤ suc m
kept_of_at_most_one_more between r m b le = elim (cases_lt r b) [
  | inl past ↦
      let rest : b - 1 - r < suc m * (between + 1) = omega (arith, le, past) in
      let some : 0 < between + 1 = omega arith in
      let steps : (b - 1 - r) / (between + 1) < suc m = (div-lt_iff_lt-mul some).1 rest in
      rw (lt-leb b r past) (omega (arith, steps))
  | inr few ↦ rw (le-leb b r few) (omega arith)
]

-- and no more, where no more than are left out next came after them
kept_of_at_most : (between r m b j : ℕ) → b ≤ drawn_for between r m + j → j ≤ to_skip_after_kept between r m → kept_of between r b ≤ m
kept_of_at_most between r zero b j le few = rw (le-leb b r (omega (arith, le, few))) (omega arith)
kept_of_at_most between r (suc m) b j le few = kept_of_at_most_one_more between r m b (omega (arith, le, few))

-- ---- runs

module _ {S A E : Type 0} (steps : S → Answered A E → S → Type 0) (between : ℕ) where
  -- one answer
  abbrev pub leaves_one : S × ℕ → Answered A E → S × ℕ → Type 0
  leaves_one p r q = Leaves steps between p.1 p.0 (r ∷ []) q.0 q.1

  -- an item is the one after those that are left out
  source_yields_where_item_left : (j k : ℕ) (s t : S) (y : A) → Leaves steps between j s (item y ∷ []) t k → (xs : List A) × Yields steps s xs t × (length xs ≡ j + 1) × (k ≡ between)
  source_yields_where_item_left zero k s t _ (keeps_item {u = u} x step last) = let z = leaves_nil_same steps between last in (x ∷ [], (u, step, z.0), omega arith, sym z.1)
  source_yields_where_item_left (suc j) k s t y (leaves_out {u = u} x step rest) = let d = source_yields_where_item_left j k u t y rest in (x ∷ d.0, (u, step, d.1), omega (arith, d.2), d.3)

  -- an end is one after no more than those
  source_ends_where_end_left : (j k : ℕ) (s t : S) → Leaves steps between j s (end ∷ []) t k → (xs : List A) × (u : S) × Yields steps s xs u × steps u end t × (length xs ≤ j)
  source_ends_where_end_left j k s t (keeps_end step last) = let z = leaves_nil_same steps between last in ([], s, refl, subst (λ (v : S). steps s end v) z.0 step, omega arith)
  source_ends_where_end_left (suc j) k s t (leaves_out {u = u} x step rest) = let d = source_ends_where_end_left j k u t rest in (x ∷ d.0, d.1, (u, step, d.2), d.3, omega (arith, d.4))

  source_yields : (ys : List A) (s : S) (j : ℕ) (q : S × ℕ) → Yields (leaves_one) (s, j) ys q → (xs : List A) × Yields steps s xs q.0 × (length xs ≡ drawn_for between j (length ys)) × (q.1 ≡ to_skip_after_kept between j (length ys))
  source_yields [] s j q e = ([], ap (λ (p : S × ℕ). p.0) e, refl, sym (ap (λ (p : S × ℕ). p.1) e))
  source_yields (y ∷ ys) s j q ran =
      let d = source_yields_where_item_left j ran.0.1 s ran.0.0 y ran.1 in
      let rest = source_yields ys ran.0.0 ran.0.1 q ran.2 in
      let next : length rest.0 ≡ drawn_for between between (length ys) = subst (λ (i : ℕ). length rest.0 ≡ drawn_for between i (length ys)) d.3 rest.2 in
      let now : q.1 ≡ to_skip_after_kept between between (length ys) = subst (λ (i : ℕ). q.1 ≡ to_skip_after_kept between i (length ys)) d.3 rest.3 in
      (d.0 ++ rest.0, yields_appended_of_two_yields steps d.0 rest.0 s ran.0.0 q.0 d.1 rest.1, omega (arith, length-append d.0 rest.0, d.2, next, drawn_for_steps_is_product between (length ys)), cc (to_skip_after_steps between (length ys)))

  -- runs and ends of such an adapter, as those of its source
  kept_of_upper_bound_at_least : (o : Option ℕ) (r m n : ℕ) → n ≡ drawn_for between r m → IfSome o (λ u. n ≤ u) → IfSome (option_map (kept_of between r) o) (λ u. m ≤ u)
  kept_of_upper_bound_at_least None r m n same h = tt
  kept_of_upper_bound_at_least (Some u) r m n same h = kept_of_at_least between r m u (omega (arith, same, h))

  pub brackets_kept : (s : S) (r : ℕ) (k : ℕ × Option ℕ) → Brackets steps s k → Brackets (leaves_one) (s, r) (hint_kept between r k)
  brackets_kept s r k b = record {
    above = λ ys q ran. let d = source_yields ys s r q ran in kept_of_upper_bound_at_least k.1 r (length ys) (length d.0) d.2 (b.above d.0 q.0 d.1);
    below = λ ys q z ran w.
        let d = source_yields ys s r q ran in
        let e = source_ends_where_end_left q.1 z.1 q.0 z.0 w in
        let le = b.below (d.0 ++ e.0) e.1 z.0 (yields_appended_of_two_yields steps d.0 e.0 s q.0 e.1 d.1 e.2) e.3 in
        let few : length e.0 ≤ to_skip_after_kept between r (length ys) = subst (λ (i : ℕ). length e.0 ≤ i) d.3 e.4 in
        kept_of_at_most between r (length ys) k.0 (length e.0) (omega (arith, length-append d.0 e.0, d.2, le)) few;
  }
