-- What `Zip` lists.
use Rattle.std.specs.Prelude.{◌≡◌, List, [], ◌∷◌, Some, None, Result, Ok, Err}
use Rattle.std.proofs.Common.{refl, ap, ◌∙◌}
use Rattle.fallible_contract.specs.Traces.{Answered, end}
use Rattle.fallible_contract.specs.Contract.{Contract, parts_as}
use Rattle.fallible_contract.specs.Lists.{AlwaysGives, Lists, items}
use Rattle.fallible_contract.proofs.Lemmas.Lists.Passing.{lists_seen}
use Rattle.fallible_core.specs.Joining.Zip.{zipped, NoFailureAtEnd, ZipPlace, left_failed, both_drawn, left_answer, zip_answer, right_step, zip_step, zip_parts, zip_contract}
use Rattle.fallible_core.specs.declared.joining.zip.Zip.{Zip}

-- ---- what it lists

module _ {S U A B E : Type 0} (steps : S → Answered A E → S → Type 0) (others : U → Answered B E → U → Type 0) where
  -- at an end of the left
  zip_answer_is_end_where_left_ends : (b : List (Result B E)) (s t : S) (u v : U) (x : ZipPlace A B E) → NoFailureAtEnd {A = A} [] b → AlwaysGives {A = A} steps s [] → AlwaysGives others u b → steps s (left_answer x) t → right_step others u x v → zip_answer x ≡ end
  zip_answer_is_end_where_left_ends b s t u v (left_failed e) clear f g step drawn = absurd (let h = f (Err e) t step in cc)
  zip_answer_is_end_where_left_ends b s t u v (both_drawn (Some y) r) clear f g step drawn = absurd (let h = f (Ok (Some y)) t step in cc)
  zip_answer_is_end_where_left_ends b s t u v (both_drawn None (Ok y)) clear f g step drawn = refl
  zip_answer_is_end_where_left_ends [] s t u v (both_drawn None (Err e)) clear f g step drawn = absurd (let h = g (Err e) v drawn in cc)
  zip_answer_is_end_where_left_ends (Ok y ∷ b) s t u v (both_drawn None (Err e)) clear f g step drawn = absurd (let h = (g (Err e) v drawn).0 in cc)
  zip_answer_is_end_where_left_ends (Err d ∷ b) s t u v (both_drawn None (Err e)) clear f g step drawn = absurd clear

  -- at a failure of the left
  zip_answer_is_failure_where_left_fails : (d : E) (a : List (Result A E)) (s t : S) (u v : U) (x : ZipPlace A B E) → AlwaysGives steps s (Err d ∷ a) → steps s (left_answer x) t → right_step others u x v → (zip_answer x ≡ Err d) × AlwaysGives steps t a × (v ≡ u)
  zip_answer_is_failure_where_left_fails d a s t u v (left_failed e) f step drawn = let h = f (Err e) t step in ((let q = h.0 in cc), h.1, drawn)
  zip_answer_is_failure_where_left_fails d a s t u v (both_drawn (Some y) r) f step drawn = absurd (let h = (f (Ok (Some y)) t step).0 in cc)
  zip_answer_is_failure_where_left_fails d a s t u v (both_drawn None r) f step drawn = absurd (let h = (f (Ok None) t step).0 in cc)

  -- at an item of the left the right is drawn
  place_is_both_drawn_where_left_gives_item : (y : A) (a : List (Result A E)) (s t : S) (u v : U) (x : ZipPlace A B E) → AlwaysGives steps s (Ok y ∷ a) → steps s (left_answer x) t → right_step others u x v → (r : Answered B E) × (x ≡ both_drawn (Some y) r) × others u r v × AlwaysGives steps t a
  place_is_both_drawn_where_left_gives_item y a s t u v (left_failed e) f step drawn = absurd (let h = (f (Err e) t step).0 in cc)
  place_is_both_drawn_where_left_gives_item y a s t u v (both_drawn None r) f step drawn = absurd (let h = (f (Ok None) t step).0 in cc)
  place_is_both_drawn_where_left_gives_item y a s t u v (both_drawn (Some z) r) f step drawn = let h = f (Ok (Some z)) t step in (r, ap (λ (k : A). both_drawn (Some k) r) (let q = h.0 in cc), drawn, h.1)

  -- what is returned there
  answer_is_zip_answer_of_both_drawn : (y : A) (x : ZipPlace A B E) (r k : Answered B E) (answer : Answered (A × B) E) → answer ≡ zip_answer x → x ≡ both_drawn (Some y) r → r ≡ k → answer ≡ zip_answer (both_drawn (Some y) k)
  answer_is_zip_answer_of_both_drawn y x r k answer e is same = e ∙ ap zip_answer is ∙ ap (λ (w : Answered B E). zip_answer (both_drawn (Some y) w)) same

  always_gives_zipped : (a : List (Result A E)) (b : List (Result B E)) (s : S) (u : U) → NoFailureAtEnd a b → AlwaysGives steps s a → AlwaysGives others u b → AlwaysGives (zip_step steps others) (s, u) (zipped a b)
  unfolding zipped
  always_gives_zipped [] b s u clear f g = λ r q w. w.3 ∙ zip_answer_is_end_where_left_ends b s q.0 u q.1 w.0 clear f g w.1 w.2
  always_gives_zipped (Err d ∷ a) b s u clear f g = λ r q w. let h = zip_answer_is_failure_where_left_fails d a s q.0 u q.1 w.0 f w.1 w.2 in (w.3 ∙ h.0, rw h.2 (always_gives_zipped a b q.0 u clear h.1 g))
  always_gives_zipped (Ok y ∷ a) [] s u clear f g = λ r q w. let h = place_is_both_drawn_where_left_gives_item y a s q.0 u q.1 w.0 f w.1 w.2 in answer_is_zip_answer_of_both_drawn y w.0 h.0 end r w.3 h.1 (g h.0 q.1 h.2)
  always_gives_zipped (Ok y ∷ a) (Ok z ∷ b) s u clear f g = λ r q w. let h = place_is_both_drawn_where_left_gives_item y a s q.0 u q.1 w.0 f w.1 w.2 in let d = g h.0 q.1 h.2 in (answer_is_zip_answer_of_both_drawn y w.0 h.0 (Ok (Some z)) r w.3 h.1 d.0, always_gives_zipped a b q.0 q.1 clear h.3 d.1)
  always_gives_zipped (Ok y ∷ a) (Err e ∷ b) s u clear f g = λ r q w. let h = place_is_both_drawn_where_left_gives_item y a s q.0 u q.1 w.0 f w.1 w.2 in let d = g h.0 q.1 h.2 in (answer_is_zip_answer_of_both_drawn y w.0 h.0 (Err e) r w.3 h.1 d.0, always_gives_zipped a b q.0 q.1 clear h.3 d.1)

pub lists_zipped : {S U A B E : Type 0} (m : Contract S A E) (k : Contract U B E) (c : Zip S U) (s : S) (a : List (Result A E)) (b : List (Result B E)) → zip_parts c ≡ (s, c.right) → NoFailureAtEnd a b → Lists m.steps s a → Lists k.steps c.right b → Lists (parts_as zip_parts (zip_contract m k)).steps c (zipped a b)
lists_zipped m k c s a b parts clear f g = lists_seen zip_parts (zip_step m.steps k.steps) c parts refl (always_gives_zipped m.steps k.steps a b s c.right clear f.runs g.runs)

-- where the second list has items alone, no failure stands beside the first one's end
pub no_failure_at_end_in_items : {A B E : Type 0} (a : List (Result A E)) (b : List B) → NoFailureAtEnd a (items {E = E} b)
unfolding items
no_failure_at_end_in_items [] [] = tt
no_failure_at_end_in_items [] (y ∷ b) = tt
no_failure_at_end_in_items (Ok x ∷ a) [] = tt
no_failure_at_end_in_items (Ok x ∷ a) (y ∷ b) = no_failure_at_end_in_items a b
no_failure_at_end_in_items (Err e ∷ a) b = no_failure_at_end_in_items a b
