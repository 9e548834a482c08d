-- A type whose value shows a list, from which each draw takes the first, is lawful.
use Rattle.std.specs.Prelude.{◌≡◌, ℕ, zero, suc, ◌<◌, List, [], ◌∷◌, length, drop}
use Rattle.std.proofs.Common.{refl, sym, ap, subst, ◌∙◌, arith}
use Rattle.fallible_iterator.specs.Traces.{Answered, Run}
use Rattle.fallible_iterator.specs.Contract.{Lawful}
use Rattle.fallible_iterator.specs.Laws.BoundsRuns.{lawful_unbounded}
use Rattle.fallible_iterator.specs.Laws.Contract.{lawful_with_traces}
use Rattle.fallible_pg.specs.Along.{TakesAlong, taking}

-- each draw leaves the list without its first
abbrev pub LeavesRest : {L A E : Type 0} → (List L → Answered A E → List L → Type 0) → Type 0
LeavesRest {L = L} {A = A} {E = E} takes = (l : List L) (r : Answered A E) (rest : List L) → takes l r rest → rest ≡ drop 1 l

module _ {S L A E : Type 0} (takes : List L → Answered A E → List L → Type 0) (shows : S → List L) (leaves : LeavesRest takes) where
  drop_of_drop_one : (n : ℕ) (l : List L) → drop n (drop 1 l) ≡ drop (suc n) l
  drop_of_drop_one zero [] = refl
  drop_of_drop_one (suc n) [] = refl
  drop_of_drop_one n (y ∷ l) = refl

  -- what is left after one draw more
  shown_after : (s : S) (l : List L) (n : ℕ) → l ≡ drop 1 (shows s) → drop n l ≡ drop (suc n) (shows s)
  shown_after s l n is = ap (drop n) is ∙ drop_of_drop_one n (shows s)

  between_along : (s u : S) (n k : ℕ) → shows u ≡ drop 1 (shows s) → ((i : ℕ) → i < k → (v : S) × (shows v ≡ drop i (shows u))) → n < suc k → (v : S) × (shows v ≡ drop n (shows s))
  between_along s u zero k left each within = (s, refl)
  between_along s u (suc n) k left each within = let h = each n (omega (arith, within)) in (h.0, h.1 ∙ shown_after s (shows u) n left)

  along_of_run : (trace : List (Answered A E)) (s t : S) → Run (λ u r v. takes (shows u) r (shows v)) s trace t → TakesAlong takes shows s trace t
  along_of_run [] s t ran = record { taken = ap shows ran; between = λ n within. absurd (omega (arith, within)); none = λ e. ran }
  along_of_run (r ∷ rest) s t ran = let h = along_of_run rest ran.0 t ran.2 in record {
    taken = (shows ran.0, ran.1, h.taken);
    between = λ n within. between_along s ran.0 n (length rest) (leaves (shows s) r (shows ran.0) ran.1) h.between within;
    none = λ e. absurd (let k = e in cc);
  }

  run_along : (trace : List (Answered A E)) (s t : S) → TakesAlong takes shows s trace t → Run (λ u r v. takes (shows u) r (shows v)) s trace t
  run_along [] s t d = d.none refl
  run_along (r ∷ []) s t d = (t, subst (λ (l : List L). takes (shows s) r l) d.taken.2 d.taken.1, refl)
  run_along (r ∷ q ∷ rest) s t d =
      let u = d.between 1 (omega arith) in
      let same : shows u.0 ≡ d.taken.0 = u.1 ∙ sym (leaves (shows s) r d.taken.0 d.taken.1) in (
        u.0,
        subst (λ (l : List L). takes (shows s) r l) (sym same) d.taken.1,
        run_along (q ∷ rest) u.0 t (record {
          taken = subst (λ (l : List L). Run takes l (q ∷ rest) (shows t)) (sym same) d.taken.2;
          between = λ n within. let v = d.between (suc n) (omega (arith, within)) in (v.0, v.1 ∙ sym (shown_after s (shows u.0) n u.1));
          none = λ e. absurd (let k = e in cc);
        }),
      )

  pub lawful_taking : Lawful (taking takes shows)
  lawful_taking = lawful_with_traces (TakesAlong takes shows) (λ s trace t. (along_of_run trace s t, run_along trace s t)) (lawful_unbounded (λ s r t. takes (shows s) r (shows t)))
