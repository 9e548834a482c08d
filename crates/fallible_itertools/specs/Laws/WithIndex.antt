-- The contract of `MapErrWithIndex` is lawful where the source's is.
use Rattle.std.specs.Prelude.{◌≡◌, ℕ, ⊤, List, [], ◌∷◌, Some, None, Ok, Err}
use Rattle.std.specs.Fn.{Mut}
use Rattle.std.proofs.Common.{refl, sym, ap, subst}
use Rattle.fallible_iterator.specs.Contract.{Contract, KeptByDraw, Lawful, OnAnswer}
use Rattle.fallible_iterator.specs.Sound.{HintsHold, as_source}
use Rattle.fallible_iterator.specs.Traces.{Answered, Run, item, end}
use Rattle.fallible_iterator.specs.Laws.Failing.{lawful_failing}
use Rattle.fallible_iterator.specs.Laws.Hints.Drawn.{OneOfOne, as_sound_where_one_of_one}
use Rattle.fallible_iterator.specs.Laws.Hints.Holding.{hold_as_source}
use Rattle.fallible_iterator.specs.Laws.LawForm.{IsTraced}
use Rattle.fallible_itertools.specs.WithIndex.{index_after, index_after_all, index_call, index_takes, indexed, indexed_contract, indexed_from, indexed_step, indexes_all, with_index_contract}

-- ---- its runs are its definition

module _ {S A E : Type 0} (steps : S → Answered A E → S → Type 0) where
  abbrev IndexedStep : S × ℕ → Answered A (ℕ × E) → S × ℕ → Type 0
  IndexedStep = indexed_step steps

  drawn_of_indexed_run : (trace : List (Answered A (ℕ × E))) (p q : S × ℕ) → Run IndexedStep p trace q → indexes_all (λ s l t. Run steps s l t) p trace q
  drawn_of_indexed_run [] p q ran = ([], ap (λ u. u.0) ran, refl, sym (ap (λ u. u.1) ran))
  drawn_of_indexed_run (r ∷ trace) p q ran = let first = ran.1 in let rest = drawn_of_indexed_run trace ran.0 q ran.2 in
      (first.0 ∷ rest.0, (ran.0.0, first.1, rest.1), subst (λ (n : ℕ). r ∷ trace ≡ indexed p.1 first.0 ∷ indexed_from n rest.0) first.3 (subst (λ (a : Answered A (ℕ × E)). r ∷ trace ≡ a ∷ indexed_from ran.0.1 rest.0) first.2 (ap (λ l. r ∷ l) rest.2)), subst (λ (n : ℕ). q.1 ≡ index_after_all n rest.0) first.3 rest.3)

  indexed_run_of_drawn : (drawn : List (Answered A E)) (s t : S) (n : ℕ) → Run steps s drawn t → Run IndexedStep (s, n) (indexed_from n drawn) (t, index_after_all n drawn)
  indexed_run_of_drawn [] s t n ran = ap (λ u. (u, n)) ran
  indexed_run_of_drawn (a ∷ drawn) s t n ran = ((ran.0, index_after n a), (a, ran.1, refl, refl), indexed_run_of_drawn drawn ran.0 t (index_after n a) ran.2)

  pub indexed_traced : {traces : S → List (Answered A E) → S → Type 0} → IsTraced steps traces → IsTraced IndexedStep (indexes_all traces)
  indexed_traced law p trace q = (
    (λ ran. let d = drawn_of_indexed_run trace p q ran in (d.0, (law p.0 d.0 q.0).0 d.1, d.2, d.3)),
    (λ d. subst (λ (l : List (Answered A (ℕ × E))). Run IndexedStep p l q) (sym d.2) (subst (λ (k : ℕ). Run IndexedStep p (indexed_from p.1 d.0) (q.0, k)) (sym d.3) (indexed_run_of_drawn d.0 p.0 q.0 p.1 ((law p.0 d.0 q.0).1 d.1)))),
  )

  -- ---- where its hint is sound

  source_item : (n : ℕ) (a : Answered A E) (x : A) → item x ≡ indexed n a → a ≡ item x
  source_item n (Ok o) x is = cc
  source_item n (Err e) x is = absurd cc

  source_end : (n : ℕ) (a : Answered A E) → end ≡ indexed n a → a ≡ end
  source_end n (Ok o) is = cc
  source_end n (Err e) is = absurd cc

  one_of_one_indexed : OneOfOne IndexedStep steps (λ p. p.0) (λ p. ⊤)
  one_of_one_indexed = record {
    item_of_item = λ p q x _ step. (x, subst (λ (a : Answered A E). steps p.0 a q.0) (source_item p.1 step.0 x step.2) step.1, tt);
    end_of_end = λ p q _ step. subst (λ (a : Answered A E). steps p.0 a q.0) (source_end p.1 step.0 step.2) step.1;
  }

-- ---- what a draw keeps

module _ {S A E : Type 0} (m : Contract S A E) (l : Lawful m) where
  abbrev IndexedContract : Contract (S × ℕ) A (ℕ × E)
  IndexedContract = indexed_contract m

  on_answer_indexed : (p q : S × ℕ) (a : Answered A E) → OnAnswer m p.0 a q.0 → OnAnswer IndexedContract p (indexed p.1 a) q
  on_answer_indexed p q (Ok (Some x)) on = on
  on_answer_indexed p q (Ok None) on = on
  on_answer_indexed p q (Err e) on = on

  kept_by_draw_indexed : (p : S × ℕ) (r : Answered A (ℕ × E)) (q : S × ℕ) → IndexedContract.can_next p → IndexedContract.steps p r q → KeptByDraw IndexedContract p r q
  kept_by_draw_indexed p r q can step = let k = l.kept_by_draw p.0 step.0 q.0 can step.1 in record {
    can_next = k.can_next;
    is_finite = k.is_finite;
    answer = subst (λ (z : Answered A (ℕ × E)). OnAnswer IndexedContract p z q) (sym step.2) (on_answer_indexed p q step.0 k.answer);
    may_give = k.may_give;
    may_fail = λ e fails. k.may_fail e.1 fails;
    lenders = k.lenders;
  }

indexed_hold : {S A E : Type 0} (m : Contract S A E) → HintsHold m.steps m.hints m.sound → HintsHold (indexed_contract m).steps (indexed_contract m).hints (as_source (λ p. p.0) m.sound)
indexed_hold m holds = hold_as_source (indexed_contract m).steps (indexed_contract m).hints holds (λ p. p.0) (λ p h is. (is, as_sound_where_one_of_one _ _ _ _ (one_of_one_indexed m.steps) p tt h))

pub lawful_indexed : {S A E : Type 0} {m : Contract S A E} → Lawful m → Lawful (indexed_contract m)
lawful_indexed {m = m} l = record { kept_by_draw = kept_by_draw_indexed m l; bounded = λ p. l.bounded p.0; traced = indexed_traced m.steps l.traced; hold = indexed_hold m l.hold }

pub lawful_with_index : {S F X D E : Type 0} {m : Contract S X D} (g : Mut F (ℕ × (D × Unit {0})) E) → Lawful m → Lawful (with_index_contract m g)
lawful_with_index g l = lawful_failing (index_call g) (index_takes g) (lawful_indexed l)
