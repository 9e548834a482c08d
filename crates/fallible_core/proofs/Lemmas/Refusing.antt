-- What an adapter that lets items pass lists, where what it makes of an item may fail to allocate.
use Rattle.std.specs.Prelude.{◌≡◌, ◌⊎◌, Some, None, Result, Ok, Err, List, [], ◌∷◌}
use Rattle.std.proofs.Common.{refl, sym, subst, inl, inr, ◌∙◌}
use Rattle.fallible_contract.specs.Traces.{Answered}
use Rattle.fallible_contract.specs.Passing.{passing_step}
use Rattle.fallible_contract.specs.Laws.Passing.{Passes, done, end_passes, failure_passes, keeps, refuses, closes, leaves_out, passes_of_pass_trace, pass_trace_of_passes}
use Rattle.fallible_contract.specs.Lists.{AlwaysGives}
use Rattle.fallible_contract.proofs.Lemmas.Lists.Passing.{answer_is_failure_first_in_list, by_outcome, end_of_nil, passed}
use Rattle.fallible_core.specs.Refusing.{AnswersRefusal, GivesUntilRefused, IsMadeOf, IsRefusal, ListsUntilRefused}
use Rattle.std.specs.declared.alloc.AllocError.{AllocError}
use Rattle.fallible_contract.specs.declared.passing.Outcome.{Outcome}
use Rattle.fallible_contract.specs.declared.passing.Outcome.TheVariants.{Kept, LeftOut, Failure, End}

-- ---- a value whose answers are those of its parts

module _ {W P V B E : Type 0} (made : V → B → Type 0) (from : AllocError → E → Type 0) (view : W → P) (steps : P → Answered B E → P → Type 0) where
  abbrev SeenSteps : W → Answered B E → W → Type 0
  SeenSteps u r v = steps (view u) r (view v)

  gives_until_refused_seen : (l : List (Result V E)) (s : W) → GivesUntilRefused made steps from (view s) l → GivesUntilRefused made SeenSteps from s l
  gives_until_refused_seen [] s a = λ r t w. a r (view t) w
  gives_until_refused_seen (y ∷ l) s a = λ r t w. elim (a r (view t) w) [ inl q ↦ inl q | inr k ↦ inr (k.0, gives_until_refused_seen l t k.1) ]

  -- it lists what they list
  pub lists_until_refused_seen : (s : W) {p : P} {l k : List (Result V E)} → view s ≡ p → l ≡ k → GivesUntilRefused made steps from p l → ListsUntilRefused made SeenSteps from s k
  lists_until_refused_seen s {p} {l} {k} at same a = record { runs = gives_until_refused_seen k s (subst (λ (q : P). GivesUntilRefused made steps from q k) (sym at) (subst (λ (j : List (Result V E)). GivesUntilRefused made steps from p j) same a)) }

-- ---- an adapter that lets items pass

-- The outcome is the given one, with a value that is made of the given one; or in the place of a value the allocation failed.
abbrev pub IsOutcomeOrRefused : {V B E : Type 0} → (V → B → Type 0) → (AllocError → E → Type 0) → Outcome V E → Outcome B E → Type 0
IsOutcomeOrRefused made from (Kept v) (Kept y) = made v y
IsOutcomeOrRefused made from (Kept v) (Failure e) = IsRefusal from e
IsOutcomeOrRefused made from (Kept v) LeftOut = ⊥
IsOutcomeOrRefused made from (Kept v) End = ⊥
IsOutcomeOrRefused made from LeftOut o = o ≡ LeftOut
IsOutcomeOrRefused made from (Failure d) o = o ≡ Failure d
IsOutcomeOrRefused made from End o = o ≡ End

-- `At f p` says that the closure f is at p: called on x it makes what `told p x` says, or fails to allocate that, and is at `next p x` then.
module _ {S F P X R V B E : Type 0} (made : V → B → Type 0) (from : AllocError → E → Type 0) (steps : S → Answered X E → S → Type 0) (call : F → X → R → F → Type 0) (outcome : X → R → Outcome B E)
    (At : F → P → Type 0) (told : P → X → Outcome V E) (next : P → X → P) (acts : (f : F) (p : P) (x : X) (v : R) (g : F) → At f p → call f x v g → At g (next p x) × IsOutcomeOrRefused made from (told p x) (outcome x v)) where
  abbrev Gives : S → F → List (Result V E) → Type 0
  Gives s f l = GivesUntilRefused made (passing_step steps call outcome) from (s, f) l

  -- what one draw yields, where the list is given, and what comes then
  abbrev IsNext : List (Result V E) → Answered B E → S → F → Type 0
  IsNext [] r t g = r ≡ Ok None
  IsNext (y ∷ l) r t g = AnswersRefusal from r ⊎ (IsMadeOf made y r × Gives t g l)

  abbrev DrawsOne : S → F → Answered B E → S → F → Type 0
  DrawsOne s f r t g = Passes steps call outcome s f (r ∷ []) t g

  gives_where_next : (l : List (Result V E)) (s : S) (f : F) → ((r : Answered B E) (t : S) (g : F) → DrawsOne s f r t g → IsNext l r t g) → Gives s f l
  gives_where_next [] s f each = λ r t w. each r t.0 t.1 (passes_of_pass_trace w)
  gives_where_next (y ∷ l) s f each = λ r t w. each r t.0 t.1 (passes_of_pass_trace w)

  next_where_gives : (l : List (Result V E)) (s : S) (f : F) → Gives s f l → (r : Answered B E) (t : S) (g : F) → DrawsOne s f r t g → IsNext l r t g
  next_where_gives [] s f a r t g w = a r (t, g) (pass_trace_of_passes w)
  next_where_gives (y ∷ l) s f a r t g w = a r (t, g) (pass_trace_of_passes w)

  next_of_kept : (o : Outcome V E) (c : Outcome B E) (y : B) (rest : List (Result V E)) (t : S) (g : F) → c ≡ Kept y → IsOutcomeOrRefused made from o c → Gives t g rest → IsNext (by_outcome o rest) (Ok (Some y)) t g
  next_of_kept (Kept v) (Kept z) y rest t g is m a = inr (subst (made v) (let e = is in cc) m, a)
  next_of_kept (Kept v) (Failure e) y rest t g is m a = absurd (let k = is in cc)
  next_of_kept (Kept v) LeftOut y rest t g is m a = absurd m
  next_of_kept (Kept v) End y rest t g is m a = absurd m
  next_of_kept LeftOut c y rest t g is m a = absurd (let k = sym is ∙ m in cc)
  next_of_kept (Failure d) c y rest t g is m a = absurd (let k = sym is ∙ m in cc)
  next_of_kept End c y rest t g is m a = absurd (let k = sym is ∙ m in cc)

  next_of_failure : (o : Outcome V E) (c : Outcome B E) (e : E) (rest : List (Result V E)) (t : S) (g : F) → c ≡ Failure e → IsOutcomeOrRefused made from o c → Gives t g rest → IsNext (by_outcome o rest) (Err e) t g
  next_of_failure (Kept v) (Kept z) e rest t g is m a = absurd (let k = is in cc)
  next_of_failure (Kept v) (Failure d) e rest t g is m a = inl (e, refl, subst (IsRefusal from) (let k = is in cc) m)
  next_of_failure (Kept v) LeftOut e rest t g is m a = absurd m
  next_of_failure (Kept v) End e rest t g is m a = absurd m
  next_of_failure LeftOut c e rest t g is m a = absurd (let k = sym is ∙ m in cc)
  next_of_failure (Failure d) c e rest t g is m a = inr ((let k = sym is ∙ m in cc), a)
  next_of_failure End c e rest t g is m a = absurd (let k = sym is ∙ m in cc)

  next_of_end : (o : Outcome V E) (c : Outcome B E) (rest : List (Result V E)) (t : S) (g : F) → c ≡ End → IsOutcomeOrRefused made from o c → IsNext (by_outcome o rest) (Ok None) t g
  next_of_end (Kept v) (Kept z) rest t g is m = absurd (let k = is in cc)
  next_of_end (Kept v) (Failure e) rest t g is m = absurd (let k = is in cc)
  next_of_end (Kept v) LeftOut rest t g is m = absurd m
  next_of_end (Kept v) End rest t g is m = absurd m
  next_of_end LeftOut c rest t g is m = absurd (let k = sym is ∙ m in cc)
  next_of_end (Failure d) c rest t g is m = absurd (let k = sym is ∙ m in cc)
  next_of_end End c rest t g is m = refl

  next_of_left_out : (o : Outcome V E) (c : Outcome B E) (rest : List (Result V E)) (r : Answered B E) (t : S) (g : F) → c ≡ LeftOut → IsOutcomeOrRefused made from o c → IsNext rest r t g → IsNext (by_outcome o rest) r t g
  next_of_left_out (Kept v) (Kept z) rest r t g is m later = absurd (let k = is in cc)
  next_of_left_out (Kept v) (Failure e) rest r t g is m later = absurd (let k = is in cc)
  next_of_left_out (Kept v) LeftOut rest r t g is m later = absurd m
  next_of_left_out (Kept v) End rest r t g is m later = absurd m
  next_of_left_out LeftOut c rest r t g is m later = later
  next_of_left_out (Failure d) c rest r t g is m later = absurd (let k = sym is ∙ m in cc)
  next_of_left_out End c rest r t g is m later = absurd (let k = sym is ∙ m in cc)

  -- what is known of a call on the list's item
  at_item : (p : P) (x z : X) (v : R) (f g : F) → At f p → z ≡ x → call f z v g → At g (next p x) × IsOutcomeOrRefused made from (told p x) (outcome z v)
  at_item p x z v f g at same called = subst (λ (k : X). At g (next p k) × IsOutcomeOrRefused made from (told p k) (outcome z v)) same (acts f p z v g at called)

  next_at_item : (x : X) (l : List (Result X E)) (s : S) (f : F) (p : P) → At f p → AlwaysGives steps s (Ok x ∷ l) → (rest : List (Result V E)) → ((u : S) (g : F) → At g (next p x) → AlwaysGives steps u l → Gives u g rest)
      → (r : Answered B E) (t : S) (g : F) → DrawsOne s f r t g → IsNext (by_outcome (told p x) rest) r t g
  next_at_item x l s f p at a rest then _ t g (end_passes step c) = absurd (let w = (a (Ok None) _ step).0 in cc)
  next_at_item x l s f p at a rest then _ t g (failure_passes e step c) = absurd (let w = (a (Err e) _ step).0 in cc)
  next_at_item x l s f p at a rest then _ t g (keeps z v y step called is done) = let w = a (Ok (Some z)) t step in let k = at_item p x z v f g at (let q = w.0 in cc) called in next_of_kept (told p x) (outcome z v) y rest t g is k.1 (then t g k.0 w.1)
  next_at_item x l s f p at a rest then _ t g (refuses z v e step called is done) = let w = a (Ok (Some z)) t step in let k = at_item p x z v f g at (let q = w.0 in cc) called in next_of_failure (told p x) (outcome z v) e rest t g is k.1 (then t g k.0 w.1)
  next_at_item x l s f p at a rest then _ t g (closes {h = h} z v step called is c) = let w = a (Ok (Some z)) _ step in let k = at_item p x z v f h at (let q = w.0 in cc) called in next_of_end (told p x) (outcome z v) rest t g is k.1
  next_at_item x l s f p at a rest then r t g (leaves_out {u = u} {h = h} z v step called is c) = let w = a (Ok (Some z)) u step in let k = at_item p x z v f h at (let q = w.0 in cc) called in next_of_left_out (told p x) (outcome z v) rest r t g is k.1 (next_where_gives rest u h (then u h k.0 w.1) r t g c)

  next_at_failure : (d : E) (l : List (Result X E)) (s : S) (f : F) (rest : List (Result V E)) → AlwaysGives steps s (Err d ∷ l) → ((u : S) → AlwaysGives steps u l → Gives u f rest) → (r : Answered B E) (t : S) (g : F) → DrawsOne s f r t g → IsNext (Err d ∷ rest) r t g
  next_at_failure d l s f rest a then r t g w = let k = answer_is_failure_first_in_list d l a w in inr (k.0, subst (λ (h : F). Gives t h rest) (sym k.1) (then t k.2))

  -- it lists what `told` says, until an allocation fails
  pub gives_passed_until_refused : (l : List (Result X E)) (s : S) (f : F) (p : P) → At f p → AlwaysGives steps s l → Gives s f (passed (λ x o. o) told next p l)
  gives_passed_until_refused [] s f p at a = λ r t w. end_of_nil a (passes_of_pass_trace w)
  gives_passed_until_refused (Err d ∷ l) s f p at a = λ r t w. next_at_failure d l s f (passed (λ x o. o) told next p l) a (λ u b. gives_passed_until_refused l u f p at b) r t.0 t.1 (passes_of_pass_trace w)
  gives_passed_until_refused (Ok x ∷ l) s f p at a = gives_where_next (by_outcome (told p x) (passed (λ x o. o) told next (next p x) l)) s f (next_at_item x l s f p at a (passed (λ x o. o) told next (next p x) l) (λ u g k b. gives_passed_until_refused l u g (next p x) k b))
