-- What `Chain` lists from both ends: the first's list followed by the second's, of the sides that are still drawn.
use Rattle.std.specs.Prelude.{◌≡◌, false, Result, Ok, Err, List, [], ◌∷◌, ◌++◌, reverse}
use Rattle.std.proofs.Common.{refl, sym, ap, subst, ◌∙◌, inl, inr}
use Rattle.std.proofs.lemmas.List.{reverse-append}
use Rattle.fallible_contract.specs.Traces.{Answered, end, is_end}
use Rattle.fallible_contract.specs.Lists.{result_answer}
use Rattle.fallible_contract.specs.BothEnds.{TakesFirst, ListsBothEnds}
use Rattle.fallible_contract.proofs.Lemmas.BothEnds.{takes_first_front, lists_both_ends_by_swapping, lists_both_ends_swapped}
use Rattle.fallible_core.specs.Joining.Chain.{chained, chain_step, chain_back}
use Rattle.fallible_core.specs.declared.joining.chain.StillDrawn.{StillDrawn}
use Rattle.fallible_core.specs.declared.joining.chain.StillDrawn.TheVariants.{Both, FirstAlone, SecondAlone}

-- One answer from the back: a draw of the chain of the second and the first, each drawn from the back.
abbrev pub chain_step_back : {S U A E : Type 0} → (S → Answered A E → S → Type 0) → (U → Answered A E → U → Type 0) → S × U × StillDrawn → Answered A E → S × U × StillDrawn → Type 0
chain_step_back first_second second_second p r q = chain_step second_second first_second (chain_back p) r (chain_back q)

end_is_no_result_answer : {A E : Type 0} (y : Result A E) (r : Answered A E) → r ≡ result_answer y → r ≡ end → ⊥
end_is_no_result_answer (Ok x) r e d = absurd cc
end_is_no_result_answer (Err x) r e d = absurd cc

module _ {S U A E : Type 0} (steps back : S → Answered A E → S → Type 0) (others others_back : U → Answered A E → U → Type 0) where
  -- what a chain of these parts lists
  abbrev ChainLists : S × U × StillDrawn → List (Result A E) → Type 0
  ChainLists (s, u, Both) l = (a : List (Result A E)) × (b : List (Result A E)) × (l ≡ a ++ b) × ListsBothEnds steps back s a × ListsBothEnds others others_back u b
  ChainLists (s, u, FirstAlone) l = ListsBothEnds steps back s l
  ChainLists (s, u, SecondAlone) l = ListsBothEnds others others_back u l

  -- an answer of the first, which isn't its end
  takes_first_before_end : (t : S) (u : U) (r : Answered A E) (a b : List (Result A E)) → is_end r ≡ false → TakesFirst (λ k. ListsBothEnds steps back t k) r a → ListsBothEnds others others_back u b → TakesFirst (λ k. ChainLists (t, u, Both) k) r (a ++ b)
  takes_first_before_end t u r [] b no_end h j = absurd (let e = h.0 in let ends : is_end {A = A} {E = E} end ≡ false = subst (λ q. is_end q ≡ false) e no_end in cc)
  takes_first_before_end t u r (y ∷ a) b no_end h j = (h.0, (a, b, refl, h.1, j))

  -- an answer of the second, in the draw that met the first's end
  takes_first_at_end : (s t : S) (v : U) (r : Answered A E) (a b : List (Result A E)) → TakesFirst (λ k. ListsBothEnds steps back t k) end a → TakesFirst (λ k. ListsBothEnds others others_back v k) r b → TakesFirst (λ k. ChainLists (t, v, SecondAlone) k) r (a ++ b)
  takes_first_at_end s t v r [] b h j = j
  takes_first_at_end s t v r (y ∷ a) b h j = absurd (end_is_no_result_answer y end h.0 refl)

  takes_first_of_chain : (p : S × U × StillDrawn) (l : List (Result A E)) → ChainLists p l → (r : Answered A E) (q : S × U × StillDrawn) → chain_step steps others p r q → TakesFirst (λ k. ChainLists q k) r l
  takes_first_of_chain (s, u, Both) l h r (t, v, left) (inl step) = rw (step.3, step.2, h.2) (takes_first_before_end t u r h.0 h.1 step.1 (takes_first_front h.3 step.0) h.4)
  takes_first_of_chain (s, u, Both) l h r (t, v, left) (inr step) = rw (step.2, h.2) (takes_first_at_end s t v r h.0 h.1 (takes_first_front h.3 step.0) (takes_first_front h.4 step.1))
  takes_first_of_chain (s, u, FirstAlone) l h r (t, v, left) step = rw step.2 (takes_first_front h step.0)
  takes_first_of_chain (s, u, SecondAlone) l h r (t, v, left) step = rw step.2 (takes_first_front h step.0)

module _ {S U A E : Type 0} (steps back : S → Answered A E → S → Type 0) (others others_back : U → Answered A E → U → Type 0) where
  -- the same, seen from the back
  abbrev ListsBack : S × U × StillDrawn → List (Result A E) → Type 0
  ListsBack p l = ChainLists others_back others back steps (chain_back p) l

  lists_back_of_chain_lists : (p : S × U × StillDrawn) (l : List (Result A E)) → ChainLists steps back others others_back p l → ListsBack p (reverse l)
  lists_back_of_chain_lists (s, u, Both) l h = (reverse h.1, reverse h.0, ap reverse h.2 ∙ reverse-append h.0 h.1, lists_both_ends_swapped h.4, lists_both_ends_swapped h.3)
  lists_back_of_chain_lists (s, u, FirstAlone) l h = lists_both_ends_swapped h
  lists_back_of_chain_lists (s, u, SecondAlone) l h = lists_both_ends_swapped h

  chain_lists_of_lists_back : (p : S × U × StillDrawn) (l : List (Result A E)) → ListsBack p l → ChainLists steps back others others_back p (reverse l)
  chain_lists_of_lists_back (s, u, Both) l h = (reverse h.1, reverse h.0, ap reverse h.2 ∙ reverse-append h.0 h.1, lists_both_ends_swapped h.4, lists_both_ends_swapped h.3)
  chain_lists_of_lists_back (s, u, FirstAlone) l h = lists_both_ends_swapped h
  chain_lists_of_lists_back (s, u, SecondAlone) l h = lists_both_ends_swapped h

  takes_first_back : (p : S × U × StillDrawn) (l : List (Result A E)) → ListsBack p l → (r : Answered A E) (q : S × U × StillDrawn) → chain_step_back back others_back p r q → TakesFirst (λ k. ListsBack q k) r l
  takes_first_back p l h r q step = takes_first_of_chain others_back others back steps (chain_back p) l h r (chain_back q) step

  lists_both_ends_chain : (p : S × U × StillDrawn) (l : List (Result A E)) → ChainLists steps back others others_back p l → ListsBothEnds (chain_step steps others) (chain_step_back back others_back) p l
  lists_both_ends_chain p l h = lists_both_ends_by_swapping (chain_step steps others) (chain_step_back back others_back) (ChainLists steps back others others_back) ListsBack lists_back_of_chain_lists chain_lists_of_lists_back (takes_first_of_chain steps back others others_back) takes_first_back p l h

append_is_chained : {A E : Type 0} (a b : List (Result A E)) → a ++ b ≡ chained a b
unfolding chained
append_is_chained [] b = refl
append_is_chained (y ∷ a) b = ap {B = List (Result _ _)} (λ k. y ∷ k) (append_is_chained a b)

module _ {S U A E : Type 0} {steps back : S → Answered A E → S → Type 0} {others others_back : U → Answered A E → U → Type 0} {s : S} {u : U} where
  -- where both sides are still drawn, the first's list and then the second's
  pub lists_both_ends_chained : {a b : List (Result A E)} → ListsBothEnds steps back s a → ListsBothEnds others others_back u b → ListsBothEnds (chain_step steps others) (chain_step_back back others_back) (s, u, Both) (chained a b)
  lists_both_ends_chained {a = a} {b = b} i j = lists_both_ends_chain steps back others others_back (s, u, Both) (chained a b) (a, b, sym (append_is_chained a b), i, j)

module _ {S U A E : Type 0} {steps back : S → Answered A E → S → Type 0} {s : S} (others others_back : U → Answered A E → U → Type 0) (u : U) where
  -- where the first alone is still drawn, its list
  pub lists_both_ends_first_alone : {l : List (Result A E)} → ListsBothEnds steps back s l → ListsBothEnds (chain_step steps others) (chain_step_back back others_back) (s, u, FirstAlone) l
  lists_both_ends_first_alone {l = l} i = lists_both_ends_chain steps back others others_back (s, u, FirstAlone) l i

module _ {S U A E : Type 0} {others others_back : U → Answered A E → U → Type 0} {u : U} (steps back : S → Answered A E → S → Type 0) (s : S) where
  -- where the second alone is still drawn, its list
  pub lists_both_ends_second_alone : {l : List (Result A E)} → ListsBothEnds others others_back u l → ListsBothEnds (chain_step steps others) (chain_step_back back others_back) (s, u, SecondAlone) l
  lists_both_ends_second_alone {l = l} i = lists_both_ends_chain steps back others others_back (s, u, SecondAlone) l i
