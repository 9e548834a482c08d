-- Traces of adapters that keep items by their numbers, built from the first draw on.
use Rattle.std.specs.Prelude.{◌≡◌, ℕ, zero, suc, ◌+◌, ◌-◌, ◌<◌, List, [], ◌∷◌, Option, Some, None, Ok, Err, Bool, true, false}
use Rattle.std.proofs.Common.{refl, sym, ap, subst, arith}
use Rattle.fallible_contract.specs.Traces.{LastKept, Answered, Run, item, end, failure, items_in}
use Rattle.fallible_contract.specs.ByNumber.{with_numbers, is_kept, kept, KeptByNumber}
use Rattle.fallible_contract.specs.Laws.ByNumber.{last_kept_tail, source_nil_of_no_answers}

-- How the numbers that are kept and the numbers of items still to be left out fit: `fits j k` where the next item has number k, and j items are left out before one is kept.
pub record Fits (keeps : ℕ → Bool) (between : ℕ) (to_skip_after : ℕ → ℕ) (fits : ℕ → ℕ → Type 0) : Type 0 where
  pub kept : (k : ℕ) → fits 0 k → (keeps k ≡ true) × fits between (k + 1)
  pub left_out : (j k : ℕ) → fits (suc j) k → (keeps k ≡ false) × fits j (k + 1)
  pub after : (j k : ℕ) → fits j (1 + k) → j ≡ to_skip_after k

module _ {S A E : Type 0} (steps : S → Answered A E → S → Type 0) (between : ℕ) where
  -- from s, where j items are left out before one is kept, the answers of the trace leave t and k items to leave out
  pub data Leaves : ℕ → S → List (Answered A E) → S → ℕ → Type 0 where
    none : {j : ℕ} {s : S} → Leaves j s [] s j
    keeps_item : {s u t : S} {trace : List (Answered A E)} {k : ℕ} (x : A) → steps s (item x) u → Leaves between u trace t k → Leaves zero s (item x ∷ trace) t k
    keeps_end : {j : ℕ} {s u t : S} {trace : List (Answered A E)} {k : ℕ} → steps s end u → Leaves j u trace t k → Leaves j s (end ∷ trace) t k
    keeps_failure : {j : ℕ} {s u t : S} {trace : List (Answered A E)} {k : ℕ} (e : E) → steps s (failure e) u → Leaves j u trace t k → Leaves j s (failure e ∷ trace) t k
    leaves_out : {j : ℕ} {s u t : S} {r : Answered A E} {trace : List (Answered A E)} {k : ℕ} (x : A) → steps s (item x) u → Leaves j u (r ∷ trace) t k → Leaves (suc j) s (r ∷ trace) t k

  -- no answers come of no draws
  pub leaves_nil_same : {j k : ℕ} {s t : S} → Leaves j s [] t k → (s ≡ t) × (j ≡ k)
  leaves_nil_same none = (refl, refl)

  pub leaves_from_equal : {i j k : ℕ} {s t u : S} {trace : List (Answered A E)} → s ≡ t → i ≡ j → Leaves j t trace u k → Leaves i s trace u k
  leaves_from_equal e f h = rw (e, f) h

  -- one answer and then others are one trace, and a trace is its first answer and then the others
  pub leaves_first_and_others : {j i k : ℕ} {s u t : S} {r : Answered A E} {trace : List (Answered A E)} → Leaves j s (r ∷ []) u i → Leaves i u trace t k → Leaves j s (r ∷ trace) t k
  leaves_first_and_others (keeps_item x step last) more = let h = leaves_nil_same last in keeps_item x step (leaves_from_equal h.0 h.1 more)
  leaves_first_and_others (keeps_end step last) more = let h = leaves_nil_same last in keeps_end step (leaves_from_equal h.0 h.1 more)
  leaves_first_and_others (keeps_failure e step last) more = let h = leaves_nil_same last in keeps_failure e step (leaves_from_equal h.0 h.1 more)
  leaves_first_and_others (leaves_out x step rest) more = leaves_out x step (leaves_first_and_others rest more)

  pub leaves_split : {j k : ℕ} {s t : S} {r : Answered A E} {trace : List (Answered A E)} → Leaves j s (r ∷ trace) t k → (u : S) × (i : ℕ) × Leaves j s (r ∷ []) u i × Leaves i u trace t k
  leaves_split (keeps_item {u = u} x step more) = (u, between, keeps_item x step none, more)
  leaves_split {j} (keeps_end {u = u} step more) = (u, j, keeps_end step none, more)
  leaves_split {j} (keeps_failure {u = u} e step more) = (u, j, keeps_failure e step none, more)
  leaves_split (leaves_out x step more) = let h = leaves_split more in (h.0, h.1, leaves_out x step h.2, h.3)

  -- a left-out item, and then the rest
  pub leaves_after_item_left_out : {s u t : S} {r : Answered A E} {trace : List (Answered A E)} {k : ℕ} (x : A) (n : ℕ) → 0 < n → steps s (item x) u → Leaves (n - 1) u (r ∷ trace) t k → Leaves n s (r ∷ trace) t k
  leaves_after_item_left_out x zero some step rest = absurd (omega (arith, some))
  leaves_after_item_left_out {u = u} {t = t} {r = r} {trace = trace} {k = k} x (suc j) some step rest = leaves_out x step (subst (λ (i : ℕ). Leaves i u (r ∷ trace) t k) (omega arith) rest)

-- ---- the definition by numbers

module _ {A E : Type 0} (keeps : ℕ → Bool) where
  last_kept_before : (p : Option ℕ × Answered A E) (rest : List (Option ℕ × Answered A E)) (r : Answered A E) (trace : List (Answered A E)) → r ∷ trace ≡ kept keeps rest → LastKept (is_kept keeps) rest → LastKept (is_kept keeps) (p ∷ rest)
  last_kept_before p [] r trace e last = absurd cc
  last_kept_before p (q ∷ rest) r trace e last = last

  last_kept_cons : (p : Option ℕ × Answered A E) (rest : List (Option ℕ × Answered A E)) → is_kept keeps p ≡ true → LastKept (is_kept keeps) rest → LastKept (is_kept keeps) (p ∷ rest)
  last_kept_cons p [] this last = this
  last_kept_cons p (q ∷ rest) this last = last

module _ {S A E : Type 0} (steps : S → Answered A E → S → Type 0) {between : ℕ} {keeps : ℕ → Bool} {to_skip_after : ℕ → ℕ} {fits : ℕ → ℕ → Type 0} (F : Fits keeps between to_skip_after fits) where
  -- what such a trace was drawn from, where the first item has number c
  source_of_leaves : {j k : ℕ} {s t : S} {trace : List (Answered A E)} (c : ℕ) → fits j c → Leaves steps between j s trace t k → (source : List (Answered A E)) × Run steps s source t × (trace ≡ kept keeps (with_numbers c source)) × LastKept (is_kept keeps) (with_numbers c source) × fits k (c + items_in source)
  source_of_leaves {j} c f none = ([], refl, refl, tt, subst (λ (i : ℕ). fits j i) (omega arith) f)
  source_of_leaves {k = k} c f (keeps_item {u = u} x step more) =
      let h = F.kept c f in
      let d = source_of_leaves (c + 1) h.1 more in
      (item x ∷ d.0, (u, step, d.1), rw h.0 (ap {B = List (Answered A E)} (λ l. item x ∷ l) d.2), last_kept_cons keeps (Some c, item x) (with_numbers (c + 1) d.0) h.0 d.3, subst (λ (i : ℕ). fits k i) (omega arith) d.4)
  source_of_leaves c f (keeps_end {u = u} step more) = let d = source_of_leaves c f more in (end ∷ d.0, (u, step, d.1), ap {B = List (Answered A E)} (λ l. end ∷ l) d.2, last_kept_cons keeps (None, end) (with_numbers c d.0) refl d.3, d.4)
  source_of_leaves c f (keeps_failure {u = u} e step more) = let d = source_of_leaves c f more in (failure e ∷ d.0, (u, step, d.1), ap {B = List (Answered A E)} (λ l. failure e ∷ l) d.2, last_kept_cons keeps (None, failure e) (with_numbers c d.0) refl d.3, d.4)
  source_of_leaves {k = k} c f (leaves_out {j = j} {u = u} {r = r} {trace = trace} x step more) =
      let h = F.left_out j c f in
      let d = source_of_leaves (c + 1) h.1 more in
      (item x ∷ d.0, (u, step, d.1), rw h.0 d.2, last_kept_before keeps (Some c, item x) (with_numbers (c + 1) d.0) r trace d.2 d.3, subst (λ (i : ℕ). fits k i) (omega arith) d.4)

  leaves_of_source : (source : List (Answered A E)) (c j : ℕ) (s t : S) (trace : List (Answered A E)) → fits j c → Run steps s source t → trace ≡ kept keeps (with_numbers c source) → LastKept (is_kept keeps) (with_numbers c source) → (k : ℕ) × fits k (c + items_in source) × Leaves steps between j s trace t k
  leaves_of_source [] c j s t trace f ran e last = (j, subst (λ (i : ℕ). fits j i) (omega arith) f, rw (e, sym ran) none)
  leaves_of_source (Ok (Some x) ∷ source) c zero s t trace f ran e last =
      let h = F.kept c f in
      let d = leaves_of_source source (c + 1) between ran.0 t _ h.1 ran.2 refl (last_kept_tail keeps (Some c, item x) (with_numbers (c + 1) source) last) in
      (d.0, subst (λ (i : ℕ). fits d.0 i) (omega arith) d.1, rw (rw h.0 at e) (keeps_item x ran.1 d.2))
  leaves_of_source (Ok (Some x) ∷ source) c (suc j) s t [] f ran e last =
      let h = F.left_out j c f in
      let none_at : source ≡ [] = source_nil_of_no_answers keeps source (c + 1) (last_kept_tail keeps (Some c, item x) (with_numbers (c + 1) source) last) (sym (rw h.0 at e)) in
      absurd (let at : keeps c ≡ true = rw none_at at last in let d : true ≡ false = cc in cc)
  leaves_of_source (Ok (Some x) ∷ source) c (suc j) s t (r ∷ trace) f ran e last =
      let h = F.left_out j c f in
      let d = leaves_of_source source (c + 1) j ran.0 t (r ∷ trace) h.1 ran.2 (rw h.0 at e) (last_kept_tail keeps (Some c, item x) (with_numbers (c + 1) source) last) in
      (d.0, subst (λ (i : ℕ). fits d.0 i) (omega arith) d.1, leaves_out {k = d.0} x ran.1 d.2)
  leaves_of_source (Ok None ∷ source) c j s t trace f ran e last = let d = leaves_of_source source c j ran.0 t _ f ran.2 refl (last_kept_tail keeps (None, end) (with_numbers c source) last) in (d.0, d.1, rw e (keeps_end ran.1 d.2))
  leaves_of_source (Err b ∷ source) c j s t trace f ran e last = let d = leaves_of_source source c j ran.0 t _ f ran.2 refl (last_kept_tail keeps (None, failure b) (with_numbers c source) last) in (d.0, d.1, rw e (keeps_failure b ran.1 d.2))

  pub kept_by_number_of_leaves : {j k : ℕ} {s t : S} {trace : List (Answered A E)} → fits j 1 → Leaves steps between j s trace t k → KeptByNumber keeps to_skip_after steps s trace t k
  kept_by_number_of_leaves {k = k} f h = let d = source_of_leaves 1 f h in record { source_trace = d.0; drawn = d.1; answers = d.2; last_kept = d.3; remaining = F.after k (items_in d.0) d.4 }

  pub leaves_of_kept_by_number : {j k : ℕ} {s t : S} {trace : List (Answered A E)} → fits j 1 → KeptByNumber keeps to_skip_after steps s trace t k → Leaves steps between j s trace t k
  leaves_of_kept_by_number {j = j} {s = s} {t = t} {trace = trace} f h = let d = leaves_of_source h.source_trace 1 j s t trace f h.drawn h.answers h.last_kept in rw (h.remaining, sym (F.after d.0 (items_in h.source_trace) d.1)) d.2
