-- What `map` lists whose closure makes values up to an allocation failure, and what consumers make of such a list.
use Rattle.std.specs.Prelude.{◌≡◌, ℕ, ◌+◌, Some, None, Result, Ok, Err, List, [], ◌∷◌, ◌++◌, length, map, ◌⊎◌}
use Rattle.std.specs.List.{FoldsTo}
use Rattle.std.specs.Fn.{Mut}
use Rattle.std.proofs.Common.{refl, sym, ap, subst, arith, append-nil, inl, inr, ◌∙◌}
use Rattle.fallible_contract.specs.Traces.{Answered, Run, item, end}
use Rattle.fallible_contract.specs.Closures.{call_by_value}
use Rattle.fallible_contract.specs.Folds.{CountExit, CountDrains, FoldExit, FoldDrains, call_with, went_on_with}
use Rattle.fallible_contract.specs.Collecting.{Collects}
use Rattle.fallible_contract.specs.Passing.{passing_step}
use Rattle.fallible_contract.specs.Laws.Passing.{Passes, done, end_passes, failure_passes, keeps, refuses, closes, leaves_out, passes_of_pass_trace}
use Rattle.fallible_contract.specs.Lists.{AlwaysGives, Converts, Lists, before, collected, counted, folded, one_more_than}
use Rattle.fallible_contract.proofs.Lemmas.Lists.Passing.{end_of_nil, answer_is_failure_first_in_list}
use Rattle.fallible_core.specs.OneToOne.Map.{map_outcome, map_parts, mapped}
use Rattle.fallible_core.proofs.Lemmas.OneToOne.Map.{map_outcome_is_never_end}
use Rattle.fallible_iterator.specs.Making.{AnswersRefusal, AtRefusal, CollectedMade, EachMade, GivesMade, IsMadeOf, IsRefusal, IsToldOrRefused, ListsMade, Makes, MakesWith, RefusesNext, SameOrRefused}
use Rattle.std.specs.declared.alloc.AllocError.{AllocError}
use Rattle.fallible_contract.specs.declared.collecting.Fault.{Fault}
use Rattle.fallible_contract.specs.declared.collecting.Fault.TheVariants.{Source, Memory}
use Rattle.fallible_contract.specs.declared.passing.Outcome.TheVariants.{Kept, LeftOut, Failure}
use Rattle.fallible_core.specs.declared.one_to_one.map.Map.{Map}

-- ---- what one call makes

module _ {X V B E : Type 0} (made : V → B → Type 0) (from : AllocError → E → Type 0) (x : X) where
  is_made_of_kept : (z : Result V E) (v : Result B E) (y : B) → map_outcome x v ≡ Kept y → IsToldOrRefused made from z v → IsMadeOf made z (Ok (Some y))
  is_made_of_kept (Ok w) (Ok k) y is m = subst (made w) (let e = is in cc) m
  is_made_of_kept (Err d) (Ok k) y is m = absurd m
  is_made_of_kept z (Err e) y is m = absurd (let e = is in cc)

  refusal_or_made_of_failure : (z : Result V E) (v : Result B E) (e : E) → map_outcome x v ≡ Failure e → IsToldOrRefused made from z v → AnswersRefusal {B = B} from (Err e) ⊎ IsMadeOf {B = B} made z (Err e)
  refusal_or_made_of_failure z (Ok k) e is m = absurd (let e = is in cc)
  refusal_or_made_of_failure (Ok w) (Err d) e is m = inl (e, refl, subst (IsRefusal from) (let same = is in cc) m)
  refusal_or_made_of_failure (Err c) (Err d) e is (inl same) = inr (let i = is in cc)
  refusal_or_made_of_failure (Err c) (Err d) e is (inr m) = inl (e, refl, subst (IsRefusal from) (let i = is in cc) m)

  map_outcome_is_never_left_out : (v : Result B E) → map_outcome x v ≡ LeftOut → ⊥
  map_outcome_is_never_left_out (Ok y) is = cc
  map_outcome_is_never_left_out (Err e) is = cc

-- ---- what `map` lists

module _ {S F X V B E : Type 0} (steps : S → Answered X E → S → Type 0) (call : F → X → Result B E → F → Type 0) (made : V → B → Type 0) (from : AllocError → E → Type 0) (f : F) (h : X → Result V E) (makes : Makes made from call f h) where
  abbrev GivesMadeItems : S → F → List (Result V E) → Type 0
  GivesMadeItems s g l = GivesMade made (passing_step steps call map_outcome) from (s, g) l

  abbrev OneDrawn : S → Answered B E → S → F → Type 0
  OneDrawn s r t g = Passes steps call map_outcome s f (r ∷ []) t g

  -- what a call on the list's item returned
  told_or_refused : (x z : X) (v : Result B E) (g : F) → z ≡ x → call f z v g → (g ≡ f) × IsToldOrRefused made from (h x) v
  told_or_refused x z v g same called = let c = makes z v g called in (c.0, subst (λ (k : X). IsToldOrRefused made from (h k) v) same c.1)

  abbrev AfterItem : List (Result X E) → X → Answered B E → S → F → Type 0
  AfterItem l x r t g = AnswersRefusal from r ⊎ (IsMadeOf made (h x) r × (g ≡ f) × AlwaysGives steps t l)

  after_item_of_refusal_or_made : (l : List (Result X E)) (x : X) (e : E) (t : S) (g : F) → g ≡ f → AlwaysGives steps t l → AnswersRefusal {B = B} from (Err e) ⊎ IsMadeOf made (h x) (Err e) → AfterItem l x (Err e) t g
  after_item_of_refusal_or_made l x e t g same a (inl r) = inl r
  after_item_of_refusal_or_made l x e t g same a (inr m) = inr (m, same, a)

  after_item_of_one_drawn : (x : X) (l : List (Result X E)) (s : S) (r : Answered B E) (t : S) (g : F) → AlwaysGives steps s (Ok x ∷ l) → OneDrawn s r t g → AfterItem l x r t g
  after_item_of_one_drawn x l s _ t g a (end_passes step c) = absurd (let w = (a (Ok None) _ step).0 in cc)
  after_item_of_one_drawn x l s _ t g a (failure_passes e step c) = absurd (let w = (a (Err e) _ step).0 in cc)
  after_item_of_one_drawn x l s _ t g a (keeps z v y step called is done) = let w = a (Ok (Some z)) t step in let c = told_or_refused x z v g (let q = w.0 in cc) called in inr (is_made_of_kept made from z (h x) v y is c.1, c.0, w.1)
  after_item_of_one_drawn x l s _ t g a (refuses z v e step called is done) = let w = a (Ok (Some z)) t step in let c = told_or_refused x z v g (let q = w.0 in cc) called in after_item_of_refusal_or_made l x e t g c.0 w.1 (refusal_or_made_of_failure made from z (h x) v e is c.1)
  after_item_of_one_drawn x l s _ t g a (closes z v step called is c) = absurd (map_outcome_is_never_end z v is)
  after_item_of_one_drawn x l s r t g a (leaves_out z v step called is c) = absurd (map_outcome_is_never_left_out made from z v is)

  at_refusal_or_made_after_item : (l : List (Result X E)) (x : X) (k : List (Result V E)) → ((t : S) → AlwaysGives steps t l → GivesMadeItems t f k) → (r : Answered B E) (t : S) (g : F) → AfterItem l x r t g → AtRefusal made (passing_step steps call map_outcome) from r (t, g) ⊎ (IsMadeOf made (h x) r × GivesMadeItems t g k)
  at_refusal_or_made_after_item l x k later r t g (inl q) = inl (inl q)
  at_refusal_or_made_after_item l x k later r t g (inr w) = inr (w.0, subst (λ (j : F). GivesMadeItems t j k) (sym w.1) (later t w.2))

  gives_made_items_mapped : (l : List (Result X E)) (s : S) → AlwaysGives steps s l → GivesMadeItems s f (mapped h l)
  unfolding mapped
  gives_made_items_mapped [] s a = λ r t w. inr (end_of_nil a (passes_of_pass_trace w))
  gives_made_items_mapped (Err d ∷ l) s a = λ r t w. let k = answer_is_failure_first_in_list d l a (passes_of_pass_trace w) in inr (k.0, subst (λ (g : F). GivesMadeItems t.0 g (mapped h l)) (sym k.1) (gives_made_items_mapped l t.0 k.2))
  gives_made_items_mapped (Ok x ∷ l) s a = λ r t w. at_refusal_or_made_after_item l x (mapped h l) (λ u b. gives_made_items_mapped l u b) r t.0 t.1 (after_item_of_one_drawn x l s r t.0 t.1 a (passes_of_pass_trace w))

module _ {W P V B E : Type 0} (made : V → B → Type 0) (from : AllocError → E → Type 0) (view : W → P) (steps : P → Answered B E → P → Type 0) where
  abbrev SeenSteps : W → Answered B E → W → Type 0
  SeenSteps u r v = steps (view u) r (view v)

  refuses_next_seen : (t : W) → RefusesNext steps from (view t) → RefusesNext SeenSteps from t
  refuses_next_seen t a = λ r u w. a r (view u) w

  at_refusal_through_view : (r : Answered B E) (t : W) → AtRefusal made steps from r (view t) → AtRefusal made SeenSteps from r t
  at_refusal_through_view r t (inl q) = inl q
  at_refusal_through_view r t (inr (x, y, m, is, next)) = inr (x, y, m, is, refuses_next_seen t next)

  at_refusal_or_made_seen : (y : Result V E) (l : List (Result V E)) (r : Answered B E) (t : W) → (GivesMade made steps from (view t) l → GivesMade made SeenSteps from t l) → AtRefusal made steps from r (view t) ⊎ (IsMadeOf made y r × GivesMade made steps from (view t) l) → AtRefusal made SeenSteps from r t ⊎ (IsMadeOf made y r × GivesMade made SeenSteps from t l)
  at_refusal_or_made_seen y l r t later (inl q) = inl (at_refusal_through_view r t q)
  at_refusal_or_made_seen y l r t later (inr k) = inr (k.0, later k.1)

  at_refusal_or_end_seen : (r : Answered B E) (t : W) → AtRefusal made steps from r (view t) ⊎ (r ≡ end) → AtRefusal made SeenSteps from r t ⊎ (r ≡ end)
  at_refusal_or_end_seen r t (inl q) = inl (at_refusal_through_view r t q)
  at_refusal_or_end_seen r t (inr is) = inr is

  -- a value whose answers are those of its parts gives what they give
  pub gives_made_seen : (l : List (Result V E)) (s : W) → GivesMade made steps from (view s) l → GivesMade made SeenSteps from s l
  gives_made_seen [] s a = λ r t w. at_refusal_or_end_seen r t (a r (view t) w)
  gives_made_seen (y ∷ l) s a = λ r t w. at_refusal_or_made_seen y l r t (λ b. gives_made_seen l t b) (a r (view t) w)

  -- a value whose answers are those of its parts lists what they list
  pub lists_made_seen : (s : W) (p : P) (l k : List (Result V E)) → view s ≡ p → l ≡ k → GivesMade made steps from p l → ListsMade made SeenSteps from s k
  lists_made_seen s p l k at same a = record { runs = gives_made_seen k s (subst (λ (q : P). GivesMade made steps from q k) (sym at) (subst (λ (j : List (Result V E)). GivesMade made steps from p j) same a)) }

-- `map` whose closure makes what h says lists what h makes, up to an allocation failure
pub lists_made_by_map : {S F X V B E : Type 0} {steps : S → Answered X E → S → Type 0} {g : Mut F (X × Unit {0}) (Result B E)} {made : V → B → Type 0} {from : AllocError → E → Type 0} {it : S} {f : F} {l : List (Result X E)} {s : Map S F} (h : X → Result V E) → map_parts s ≡ (it, f) → Makes made from (call_by_value g) f h → Lists steps it l
    → ListsMade made (λ u r v. passing_step steps (call_by_value g) map_outcome (map_parts u) r (map_parts v)) from s (mapped h l)
lists_made_by_map {steps = steps} {g = g} {made = made} {from = from} {it = it} {f = f} {l = l} {s = s} h parts makes i = lists_made_seen made from map_parts (passing_step steps (call_by_value g) map_outcome) s (it, f) _ _ parts refl (gives_made_items_mapped steps (call_by_value g) made from f h makes l it i.runs)

-- ---- what one answer of what lists made values is

module _ {S X B E : Type 0} (made : X → B → Type 0) (steps : S → Answered B E → S → Type 0) (from : AllocError → E → Type 0) where
  -- what is known of an answer and what comes then, where the list goes on with z
  abbrev AnswerTold : Result X E → Answered B E → S → Type 0 → Type 0
  AnswerTold z r t G = AtRefusal made steps from r t ⊎ (IsMadeOf made z r × G)

  pub answer_told_is_never_end : {P : Type 0} (z : Result X E) (t : S) {G : Type 0} → AnswerTold z (Ok None) t G → P
  answer_told_is_never_end z t (inl (inl r)) = absurd (let e = r.1 in cc)
  answer_told_is_never_end z t (inl (inr h)) = absurd (let e = h.3 in cc)
  answer_told_is_never_end (Ok x) t (inr k) = absurd k.0
  answer_told_is_never_end (Err d) t (inr k) = absurd (let e = k.0 in cc)

  pub failure_told : (z : Result X E) (e : E) (t : S) {G : Type 0} → AnswerTold z (Err e) t G → IsRefusal from e ⊎ ((z ≡ Err e) × G)
  failure_told z e t (inl (inl r)) = inl (subst (IsRefusal from) (let q = r.1 in cc) r.2)
  failure_told z e t (inl (inr h)) = absurd (let q = h.3 in cc)
  failure_told (Ok x) e t (inr k) = absurd k.0
  failure_told (Err d) e t (inr k) = inr ((let q = k.0 in cc), k.1)

  -- an item is made of one that was buffered, before an allocation failure, or of the list's
  abbrev ItemTold : Result X E → B → S → Type 0 → Type 0
  ItemTold z y t G = ((x : X) × made x y × RefusesNext steps from t) ⊎ ((x : X) × (z ≡ Ok x) × made x y × G)

  pub item_told : (z : Result X E) (y : B) (t : S) {G : Type 0} → AnswerTold z (Ok (Some y)) t G → ItemTold z y t G
  item_told z y t (inl (inl r)) = absurd (let e = r.1 in cc)
  item_told z y t (inl (inr (x, w, m, is, next))) = inl (x, subst (made x) (let same : w ≡ y = (let e = is in cc) in same) m, next)
  item_told (Ok x) y t (inr k) = inr (x, refl, k.0, k.1)
  item_told (Err d) y t (inr k) = absurd (let e = k.0 in cc)

-- ---- what draws up to a last answer are made of

module _ {V B E : Type 0} (made : V → B → Type 0) where
  -- what the list goes on with after the items, by the last answer
  abbrev RestTold : Answered B E → List (Result V E) → Type 0
  RestTold (Ok None) rest = rest ≡ []
  RestTold (Err e) rest = (k : List (Result V E)) × (rest ≡ Err e ∷ k)
  RestTold (Ok (Some y)) rest = (v : V) × made v y

  record DrawnMade (l : List (Result V E)) (ys : List B) (last : Answered B E) : Type 0 where
    values : List V
    rest : List (Result V E)
    list_is : l ≡ map (λ v. Ok v) values ++ rest
    each : EachMade made values ys
    rest_is : RestTold last rest

  drawn_made_with_item_before : (v : V) (y : B) (l : List (Result V E)) (ys : List B) (last : Answered B E) → made v y → DrawnMade l ys last → DrawnMade (Ok v ∷ l) (y ∷ ys) last
  drawn_made_with_item_before v y l ys last m d = record { values = v ∷ d.values; rest = d.rest; list_is = ap (λ k. Ok v ∷ k) d.list_is; each = (m, d.each); rest_is = d.rest_is }

  drawn_made_of_rest_told : (l : List (Result V E)) (last : Answered B E) → RestTold last l → DrawnMade l [] last
  drawn_made_of_rest_told l last is = record { values = []; rest = l; list_is = refl; each = tt; rest_is = is }

module _ {S V B E : Type 0} (steps : S → Answered B E → S → Type 0) (made : V → B → Type 0) (from : AllocError → E → Type 0) where
  abbrev MadeOrRefused : S → List (Result V E) → Type 0
  MadeOrRefused s l = GivesMade made steps from s l

  -- the last answer is an allocation failure, or the draws were those of the list
  abbrev DrawsTold : List (Result V E) → List B → Answered B E → Type 0
  DrawsTold l ys last = AnswersRefusal from last ⊎ DrawnMade made l ys last

  last_refused_of_refuses_next : (ys : List B) (last : Answered B E) (s t : S) → RefusesNext steps from s → Run steps s (map item ys ++ last ∷ []) t → AnswersRefusal from last
  last_refused_of_refuses_next [] last s t a ran = a last ran.0 ran.1
  last_refused_of_refuses_next (y ∷ ys) last s t a ran = absurd (let e = (a (item y) ran.0 ran.1).1 in cc)

  draws_told_cons : (v : V) (y : B) (l : List (Result V E)) (ys : List B) (last : Answered B E) → made v y → DrawsTold l ys last → DrawsTold (Ok v ∷ l) (y ∷ ys) last
  draws_told_cons v y l ys last m (inl r) = inl r
  draws_told_cons v y l ys last m (inr d) = inr (drawn_made_with_item_before made v y l ys last m d)

  draws_told_of_last_failure : (z : Result V E) (e : E) (l : List (Result V E)) {G : Type 0} → IsRefusal from e ⊎ ((z ≡ Err e) × G) → DrawsTold (z ∷ l) [] (Err e)
  draws_told_of_last_failure z e l (inl r) = inl (e, refl, r)
  draws_told_of_last_failure z e l (inr k) = inr (drawn_made_of_rest_told made (z ∷ l) (Err e) (l, ap (λ w. w ∷ l) k.0))

  draws_told_of_last_item : (z : Result V E) (y : B) (l : List (Result V E)) (t : S) {G : Type 0} → ItemTold made steps from z y t G → DrawsTold (z ∷ l) [] (Ok (Some y))
  draws_told_of_last_item z y l t (inl (x, m, next)) = inr (drawn_made_of_rest_told made (z ∷ l) (Ok (Some y)) (x, m))
  draws_told_of_last_item z y l t (inr (x, same, m, rest)) = inr (drawn_made_of_rest_told made (z ∷ l) (Ok (Some y)) (x, m))

  first_item : (z : Result V E) (y : B) (l : List (Result V E)) (ys : List B) (last : Answered B E) (u t : S) → ((k : GivesMade made steps from u l) → DrawsTold l ys last) → Run steps u (map item ys ++ last ∷ []) t → ItemTold made steps from z y u (GivesMade made steps from u l) → DrawsTold (z ∷ l) (y ∷ ys) last
  first_item z y l ys last u t later ran (inl (x, m, next)) = inl (last_refused_of_refuses_next ys last u t next ran)
  first_item z y l ys last u t later ran (inr (x, same, m, rest)) = subst (λ (w : Result V E). DrawsTold (w ∷ l) (y ∷ ys) last) (sym same) (draws_told_cons x y l ys last m (later rest))

  last_told : (z : Result V E) (l : List (Result V E)) (last : Answered B E) (s t : S) → MadeOrRefused s (z ∷ l) → steps s last t → DrawsTold (z ∷ l) [] last
  last_told z l (Ok None) s t a step = answer_told_is_never_end made steps from z t (a (Ok None) t step)
  last_told z l (Err e) s t a step = draws_told_of_last_failure z e l (failure_told made steps from z e t (a (Err e) t step))
  last_told z l (Ok (Some y)) s t a step = draws_told_of_last_item z y l t (item_told made steps from z y t (a (Ok (Some y)) t step))

  ended_told : (last : Answered B E) (t : S) → AtRefusal made steps from last t ⊎ (last ≡ end) → DrawsTold [] [] last
  ended_told last t (inl (inl q)) = inl q
  ended_told last t (inl (inr h)) = inr (subst (λ (r : Answered B E). DrawnMade made [] [] r) (sym h.3) (drawn_made_of_rest_told made [] (Ok (Some h.1)) (h.0, h.2)))
  ended_told last t (inr is) = inr (subst (λ (r : Answered B E). DrawnMade made [] [] r) (sym is) (drawn_made_of_rest_told made [] end refl))

  refused_after_buffered : (y : B) (ys : List B) (last : Answered B E) (u t : S) → AtRefusal made steps from (item y) u ⊎ ◌≡◌ {A = Answered B E} (item y) end → Run steps u (map item ys ++ last ∷ []) t → AnswersRefusal from last
  refused_after_buffered y ys last u t (inl (inl q)) ran = absurd (let e = q.1 in cc)
  refused_after_buffered y ys last u t (inl (inr h)) ran = last_refused_of_refuses_next ys last u t h.4 ran
  refused_after_buffered y ys last u t (inr is) ran = absurd cc

  draws_told : (ys : List B) (last : Answered B E) (l : List (Result V E)) (s t : S) → MadeOrRefused s l → Run steps s (map item ys ++ last ∷ []) t → DrawsTold l ys last
  draws_told [] last [] s t a ran = ended_told last ran.0 (a last ran.0 ran.1)
  draws_told [] last (z ∷ l) s t a ran = last_told z l last s ran.0 a ran.1
  draws_told (y ∷ ys) last [] s t a ran = inl (refused_after_buffered y ys last ran.0 t (a (item y) ran.0 ran.1) ran.2)
  draws_told (y ∷ ys) last (z ∷ l) s t a ran = first_item z y l ys last ran.0 t (λ k. draws_told ys last l ran.0 t k ran.2) ran.2 (item_told made steps from z y ran.0 (a (item y) ran.0 ran.1))

-- ---- what consumers make of it

module _ {V E : Type 0} where
  collected_after_values : (vs : List V) (rest : List (Result V E)) (ws : List V) → collected rest ≡ Ok ws → collected (map (λ v. Ok v) vs ++ rest) ≡ Ok (vs ++ ws)
  unfolding collected
  collected_after_values [] rest ws is = is
  collected_after_values (v ∷ vs) rest ws is = ap (before v) (collected_after_values vs rest ws is)

  collected_fails_after_values : (vs : List V) (rest : List (Result V E)) (e : E) → collected rest ≡ Err e → collected (map (λ v. Ok v) vs ++ rest) ≡ Err e
  unfolding collected
  collected_fails_after_values [] rest e is = is
  collected_fails_after_values (v ∷ vs) rest e is = ap (before v) (collected_fails_after_values vs rest e is)

  collected_failure_first : (e : E) (l : List (Result V E)) → collected (Err e ∷ l) ≡ Err e
  unfolding collected
  collected_failure_first e l = refl

  counted_after_values : (vs : List V) (rest : List (Result V E)) (n : ℕ) → counted rest ≡ Ok n → counted (map (λ v. Ok v) vs ++ rest) ≡ Ok (length vs + n)
  unfolding counted
  counted_after_values [] rest n is = is ∙ ap (λ k. Ok k) (omega arith)
  counted_after_values (v ∷ vs) rest n is = ap one_more_than (counted_after_values vs rest n is) ∙ ap (λ k. Ok k) (omega arith)

  counted_fails_after_values : (vs : List V) (rest : List (Result V E)) (e : E) → counted rest ≡ Err e → counted (map (λ v. Ok v) vs ++ rest) ≡ Err e
  unfolding counted
  counted_fails_after_values [] rest e is = is
  counted_fails_after_values (v ∷ vs) rest e is = ap one_more_than (counted_fails_after_values vs rest e is)

  counted_failure_first : (e : E) (l : List (Result V E)) → counted (Err e ∷ l) ≡ Err e
  unfolding counted
  counted_failure_first e l = refl

nothing_collected : {V E : Type 0} → collected {A = V} {E = E} [] ≡ Ok []
unfolding collected
nothing_collected = refl

none_counted : (V : Type 0) {E : Type 0} → counted {A = V} {E = E} [] ≡ Ok 0
unfolding counted
none_counted V = refl

length_equal_where_each_made : {V B : Type 0} (made : V → B → Type 0) (vs : List V) (ys : List B) → EachMade made vs ys → length ys ≡ length vs
length_equal_where_each_made made [] [] m = refl
length_equal_where_each_made made [] (y ∷ ys) m = absurd m
length_equal_where_each_made made (v ∷ vs) [] m = absurd m
length_equal_where_each_made made (v ∷ vs) (y ∷ ys) m = let e = length_equal_where_each_made made vs ys m.1 in omega (arith, e)

-- an allocation failure is one whatever the given result is
pub told_or_refused_of_refusal : {V B E : Type 0} (made : V → B → Type 0) (from : AllocError → E → Type 0) (told_or_refused : Result V E) (e : E) → IsRefusal from e → IsToldOrRefused made from told_or_refused (Err e)
told_or_refused_of_refusal made from (Ok v) e r = r
told_or_refused_of_refusal made from (Err d) e r = inr r

pub told_or_refused_of_failure : {V B E : Type 0} (made : V → B → Type 0) (from : AllocError → E → Type 0) (told_or_refused : Result V E) (e : E) → told_or_refused ≡ Err e → IsToldOrRefused made from told_or_refused (Err e)
told_or_refused_of_failure made from told_or_refused e is = subst (λ (w : Result _ _). IsToldOrRefused made from w (Err e)) (sym is) (inl refl)

module _ {S V B E : Type 0} (steps : S → Answered B E → S → Type 0) (made : V → B → Type 0) (from : AllocError → E → Type 0) where
  collected_by : {C : Type 0} (into : List B → C → Type 0) (l : List (Result V E)) (ys : List B) (c : C) → into ys c → DrawsTold steps made from l ys end → CollectedMade made from into l (Ok c)
  collected_by into l ys c is (inl r) = absurd (let e = r.1 in cc)
  collected_by into l ys c is (inr d) = (d.values ++ [], ys, ap collected d.list_is ∙ collected_after_values d.values d.rest [] (ap collected d.rest_is ∙ nothing_collected), subst (λ (vs : List V). EachMade made vs ys) (sym (append-nil d.values)) d.each, is)

  failed_by : (l : List (Result V E)) (ys : List B) (e : E) → DrawsTold steps made from l ys (Err e) → (collected l ≡ Err e) ⊎ IsRefusal from e
  failed_by l ys e (inl r) = inr (subst (IsRefusal from) (let q = r.1 in cc) r.2)
  failed_by l ys e (inr d) = inl (ap collected d.list_is ∙ collected_fails_after_values d.values d.rest e (ap collected d.rest_is.1 ∙ collected_failure_first e d.rest_is.0))

  counted_by : (l : List (Result V E)) (ys : List B) (last : Answered B E) (r : Result ℕ E) → CountExit (length ys) last r → DrawsTold steps made from l ys last → SameOrRefused from (counted l) r
  counted_by l ys (Ok (Some y)) r exit d = absurd exit
  counted_by l ys (Ok None) r exit (inl w) = absurd (let e = w.1 in cc)
  counted_by l ys (Ok None) r exit (inr d) = rw (exit, ap counted d.list_is ∙ counted_after_values d.values d.rest 0 (ap counted d.rest_is ∙ none_counted V)) (length_equal_where_each_made made d.values ys d.each ∙ omega arith)
  counted_by l ys (Err e) r exit (inl w) = rw exit (told_or_refused_of_refusal (λ v y. y ≡ v) from (counted l) e (subst (IsRefusal from) (let q = w.1 in cc) w.2))
  counted_by l ys (Err e) r exit (inr d) = rw exit (told_or_refused_of_failure (λ v y. y ≡ v) from (counted l) e (ap counted d.list_is ∙ counted_fails_after_values d.values d.rest e (ap counted d.rest_is.1 ∙ counted_failure_first e d.rest_is.0)))

module _ {S V B E : Type 0} {steps : S → Answered B E → S → Type 0} {made : V → B → Type 0} {from : AllocError → E → Type 0} where
  -- what `collect` returns over what lists made values
  pub collected_made : {C : Type 0} (into : List B → C → Type 0) (at_making : Type 0) (at_item : C → B → Type 0) {s : S} {l : List (Result V E)} (r : Result C (Fault E)) → Collects steps into at_making at_item s r → ListsMade made steps from s l → CollectedMade made from into l r
  collected_made into at_making at_item {s} {l} (Ok c) k i = collected_by steps made from into l k.items c k.is_made (draws_told steps made from k.items end l s k.after i.runs k.ran)
  collected_made into at_making at_item {s} {l} (Err (Source e)) k i = failed_by steps made from l k.items e (draws_told steps made from k.items (Err e) l s k.after i.runs k.ran)
  collected_made into at_making at_item (Err (Memory a)) k i = tt

  -- what `count` returns over what lists made values
  pub counted_made : {s t : S} {l : List (Result V E)} {r : Result ℕ E} → CountDrains steps s r t → ListsMade made steps from s l → SameOrRefused from (counted l) r
  counted_made {s = s} {t = t} {l = l} {r = r} k i = counted_by steps made from l k.items k.last r k.at.exit (draws_told steps made from k.items k.last l s t i.runs k.ran)

-- ---- what folds make of it

module _ {X B D C E E' F : Type 0} (of : X → B → Type 0) (made : D → C → Type 0) (from' : AllocError → E' → Type 0) (call : F → C → B → Result C E' → F → Type 0) (f : F) (h : D → X → D) (makes : MakesWith of made from' call f h) (convert : E → E') where
  abbrev folded_by_values : D → List (Result X E) → Result D E'
  folded_by_values d l = folded convert (λ a x. Ok (h a x)) d l

  made_after_one_fold_step : (x : X) (y : B) (d : D) (c : C) (q : C × F) → made d c → of x y → went_on_with call (c, f) y q → made (h d x) q.0 × (q.1 ≡ f)
  made_after_one_fold_step x y d c q m n called = let k = makes d c x y (Ok q.0) q.1 m n called in (k.1, k.0)

  -- what the value is made of after calls that went on, of which the fold of the list goes on
  record FoldWentMade (vs : List X) (d : D) (q : C × F) : Type 0 where
    value : D
    is_made : made value q.0
    stays : q.1 ≡ f
    goes_on : (rest : List (Result X E)) → folded_by_values d (map (λ v. Ok v) vs ++ rest) ≡ folded_by_values value rest

  fold_went_made_with_value_before : (v : X) (vs : List X) (d : D) (q : C × F) → FoldWentMade vs (h d v) q → FoldWentMade (v ∷ vs) d q
  unfolding folded
  fold_went_made_with_value_before v vs d q w = record { value = w.value; is_made = w.is_made; stays = w.stays; goes_on = w.goes_on }

  fold_went_made_of_each_made : (vs : List X) (ys : List B) (d : D) (c : C) (q : C × F) → EachMade of vs ys → made d c → FoldsTo {P = C × F} (went_on_with call) (c, f) ys q → FoldWentMade vs d q
  fold_went_made_of_each_made [] [] d c q each m went = subst (λ (p : C × F). FoldWentMade [] d p) went (record { value = d; is_made = m; stays = refl; goes_on = λ rest. refl })
  fold_went_made_of_each_made [] (y ∷ ys) d c q each m went = absurd each
  fold_went_made_of_each_made (v ∷ vs) [] d c q each m went = absurd each
  fold_went_made_of_each_made (v ∷ vs) (y ∷ ys) d c q each m went = let k = made_after_one_fold_step v y d c went.0 m each.0 went.1 in fold_went_made_with_value_before v vs d q (fold_went_made_of_each_made vs ys (h d v) (went.0).0 q each.1 k.0 (subst (λ (g : F). FoldsTo {P = C × F} (went_on_with call) ((went.0).0, g) ys q) k.1 went.2))

  fold_nil : (d : D) → folded_by_values d [] ≡ Ok d
  unfolding folded
  fold_nil d = refl

  fold_failed : (d : D) (e : E) (l : List (Result X E)) → folded_by_values d (Err e ∷ l) ≡ Err (convert e)
  unfolding folded
  fold_failed d e l = refl

  module _ (from : AllocError → E → Type 0) (converts_by : E → E' → Type 0) (converts : Converts converts_by convert) (refusals : (e : E) (e' : E') → IsRefusal from e → converts_by e e' → IsRefusal from' e') where
    fold_made_of_exit : (l : List (Result X E)) (ys : List B) (last : Answered B E) (d : D) (c : C) (q : C × F) (r : Result C E') → made d c → FoldsTo {P = C × F} (went_on_with call) (c, f) ys q → FoldExit call converts_by q.0 q.1 last r → AnswersRefusal from last ⊎ DrawnMade of l ys last → IsToldOrRefused made from' (folded_by_values d l) r
    fold_made_of_exit l ys (Ok None) d c q r m went exit (inl w) = absurd (let e = w.1 in cc)
    fold_made_of_exit l ys (Ok (Some y)) d c q r m went exit (inl w) = absurd (let e = w.1 in cc)
    fold_made_of_exit l ys (Err e) d c q r m went (e', by, is) (inl w) = rw is (told_or_refused_of_refusal made from' (folded_by_values d l) e' (refusals e e' (subst (IsRefusal from) (let k = w.1 in cc) w.2) by))
    fold_made_of_exit l ys (Ok None) d c q r m went exit (inr k) = let w = fold_went_made_of_each_made k.values ys d c q k.each m went in
        rw (exit, ap (folded_by_values d) k.list_is ∙ w.goes_on k.rest ∙ ap (folded_by_values w.value) k.rest_is ∙ fold_nil w.value) w.is_made
    fold_made_of_exit l ys (Err e) d c q r m went (e', by, is) (inr k) = let w = fold_went_made_of_each_made k.values ys d c q k.each m went in
        rw is (told_or_refused_of_failure made from' (folded_by_values d l) e' (ap (folded_by_values d) k.list_is ∙ w.goes_on k.rest ∙ ap (folded_by_values w.value) k.rest_is.1 ∙ fold_failed w.value e k.rest_is.0 ∙ ap (λ z. Err z) (sym (converts e e' by))))
    fold_made_of_exit l ys (Ok (Some y)) d c q r m went (g, e', called, is) (inr k) = let w = fold_went_made_of_each_made k.values ys d c q k.each m went in
        rw is (told_or_refused_of_refusal made from' (folded_by_values d l) e' (makes w.value q.0 k.rest_is.0 y (Err e') g w.is_made k.rest_is.1 (subst (λ (j : F). call j q.0 y (Err e') g) w.stays called)).1)

-- What `try_fold` returns over what lists made values: a value made of the one that the list is folded to, its first failure, or an allocation failure. The failure made of an `AllocError` is one of the closure's error too.
pub folded_made : {S X B D C E E' F : Type 0} {steps : S → Answered B E → S → Type 0} {g : Mut F (C × (B × Unit {0})) (Result C E')} {of : X → B → Type 0} {made : D → C → Type 0} {from : AllocError → E → Type 0} {from' : AllocError → E' → Type 0} {converts_by : E → E' → Type 0} {convert : E → E'} {s t : S} {f : F} {c : C} {l : List (Result X E)} {r : Result C E'} (h : D → X → D) (d : D) → FoldDrains steps (call_with g) converts_by s c f r t → made d c → MakesWith of made from' (call_with g) f h → Converts converts_by convert → ((e : E) (e' : E') → IsRefusal from e → converts_by e e' → IsRefusal from' e') → ListsMade of steps from s l → IsToldOrRefused made from' (folded convert (λ a x. Ok (h a x)) d l) r
folded_made {steps = steps} {g = g} {of = of} {made = made} {from = from} {from' = from'} {converts_by = converts_by} {convert = convert} {s = s} {t = t} {f = f} {c = c} {l = l} {r = r} h d k m makes converts refusals i = fold_made_of_exit of made from' (call_with g) f h makes convert from converts_by converts refusals l k.items k.last d c (k.at.value, k.at.closure) r m k.at.went k.at.exit (draws_told steps of from k.items k.last l s t i.runs k.ran)
