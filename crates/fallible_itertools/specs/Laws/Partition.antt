-- The contract of `Parted` is lawful where the source's is.
use Rattle.std.specs.Prelude.{◌≡◌, Some, None, Ok, Err, List, [], ◌∷◌, map}
use Rattle.std.specs.Iterator.{size}
use Rattle.std.specs.declared.convert.Infallible.{Infallible}
use Rattle.std.proofs.Common.{refl, sym, ap₂, subst, arith}
use Rattle.fallible_iterator.specs.Contract.{Contract, KeptByDraw, Lawful}
use Rattle.fallible_iterator.specs.Sound.{HintsHold, sound_always}
use Rattle.fallible_iterator.specs.Traces.{Answered, Run}
use Rattle.fallible_iterator.specs.Laws.Hints.Drawn.{brackets_nothing_said, brackets_of_equal_hint}
use Rattle.fallible_iterator.specs.Laws.LawForm.{IsTraced}
use Rattle.fallible_itertools.specs.Partition.{EitherMayCome, PartedTrace, parted_answer, parted_contract, parted_step}
use Rattle.fallible_itertools.specs.declared.partition.Either.{Either}
use Rattle.fallible_itertools.specs.declared.partition.Either.TheVariants.{Left, Right}

-- ---- The contract of `Parted` is lawful where the source's is

module _ {S A E : Type 0} (m : Contract S A E) (l : Lawful m) where
  either_may_come_where_each_implies : {P P' : A → Type 0} {Q Q' : E → Type 0} → ((x : A) → P x → P' x) → ((e : E) → Q e → Q' e) → (v : Either A E) → EitherMayCome P Q v → EitherMayCome P' Q' v
  either_may_come_where_each_implies p q (Left x) h = p x h
  either_may_come_where_each_implies p q (Right e) h = q e h

  kept_by_draw_parted : (s : S) (r : Answered (Either A E) Infallible) (t : S) → m.can_next s → (parted_contract m).steps s r t → KeptByDraw (parted_contract m) s r t
  kept_by_draw_parted s (Ok (Some (Left x))) t can step = let k = l.kept_by_draw s (Ok (Some x)) t can step in record {
    can_next = k.can_next;
    is_finite = λ f. (k.answer.2 f).0;
    answer = (k.answer.0, λ n b. (size (m.remaining t), ((k.answer.2 b.0).0, omega arith), let d = (k.answer.2 b.0).1 in let e = b.1 in omega (arith, d, e)), λ f. k.answer.2 f);
    may_give = either_may_come_where_each_implies k.may_give k.may_fail;
    may_fail = λ e h. h;
    lenders = k.lenders;
  }
  kept_by_draw_parted s (Ok (Some (Right x))) t can step = let k = l.kept_by_draw s (Err x) t can step in record {
    can_next = k.can_next;
    is_finite = λ f. (k.answer.2 f).0;
    answer = (k.answer.0, λ n b. (size (m.remaining t), ((k.answer.2 b.0).0, omega arith), let d = (k.answer.2 b.0).1 in let e = b.1 in omega (arith, d, e)), λ f. k.answer.2 f);
    may_give = either_may_come_where_each_implies k.may_give k.may_fail;
    may_fail = λ e h. h;
    lenders = k.lenders;
  }
  kept_by_draw_parted s (Ok None) t can step = let k = l.kept_by_draw s (Ok None) t can step in record {
    can_next = k.can_next;
    is_finite = λ f. (k.answer.1 f).0;
    answer = (λ n b. (size (m.remaining t), ((k.answer.1 b.0).0, omega arith), let d = (k.answer.1 b.0).1 in let e = b.1 in omega (arith, d, e)), λ f. k.answer.1 f);
    may_give = either_may_come_where_each_implies k.may_give k.may_fail;
    may_fail = λ e h. h;
    lenders = k.lenders;
  }
  kept_by_draw_parted s (Err never) t can step = absurd step

module _ {S A E : Type 0} (steps : S → Answered A E → S → Type 0) where
  answer_of_parted : (s : S) (r : Answered (Either A E) Infallible) (t : S) → parted_step steps s r t → (a : Answered A E) × steps s a t × (r ≡ parted_answer a)
  answer_of_parted s (Ok (Some (Left x))) t step = (Ok (Some x), step, refl)
  answer_of_parted s (Ok (Some (Right e))) t step = (Err e, step, refl)
  answer_of_parted s (Ok None) t step = (Ok None, step, refl)
  answer_of_parted s (Err never) t step = absurd step

  parted_of_answer : (s : S) (a : Answered A E) (t : S) → steps s a t → parted_step steps s (parted_answer a) t
  parted_of_answer s (Ok (Some x)) t step = step
  parted_of_answer s (Ok None) t step = step
  parted_of_answer s (Err e) t step = step

  drawn_of_parted_run : (trace : List (Answered (Either A E) Infallible)) (s t : S) → Run (parted_step steps) s trace t → PartedTrace (Run steps) s trace t
  drawn_of_parted_run [] s t ran = ([], ran, refl)
  drawn_of_parted_run (r ∷ rest) s t ran = let a = answer_of_parted s r ran.0 ran.1 in let d = drawn_of_parted_run rest ran.0 t ran.2 in (a.0 ∷ d.0, (ran.0, a.1, d.1), ap₂ (λ b k. b ∷ k) a.2 d.2)

  parted_run_of_drawn : (drawn : List (Answered A E)) (s t : S) → Run steps s drawn t → Run (parted_step steps) s (map parted_answer drawn) t
  parted_run_of_drawn [] s t ran = ran
  parted_run_of_drawn (a ∷ rest) s t ran = (ran.0, parted_of_answer s a ran.0 ran.1, parted_run_of_drawn rest ran.0 t ran.2)

  parted_traced : {traces : S → List (Answered A E) → S → Type 0} → IsTraced steps traces → IsTraced (parted_step steps) (PartedTrace traces)
  parted_traced law s trace t = (
    (λ ran. let d = drawn_of_parted_run trace s t ran in (d.0, (law s d.0 t).0 d.1, d.2)),
    (λ d. subst (λ (l : List (Answered (Either A E) Infallible)). Run (parted_step steps) s l t) (sym d.2) (parted_run_of_drawn d.0 s t ((law s d.0 t).1 d.1))),
  )

  -- its hint says nothing
  parted_hold : HintsHold (parted_step steps) (λ s h. h ≡ (0, None)) sound_always
  parted_hold = record {
    above = λ s h is a. (brackets_of_equal_hint (parted_step steps) s is (brackets_nothing_said (parted_step steps) s)).above;
    below = λ s h is a. (brackets_of_equal_hint (parted_step steps) s is (brackets_nothing_said (parted_step steps) s)).below;
  }

pub lawful_parted : {S A E : Type 0} {m : Contract S A E} → Lawful m → Lawful (parted_contract m)
lawful_parted {m = m} l = record { kept_by_draw = kept_by_draw_parted m l; bounded = λ s. ((λ f. (size (m.remaining s), (f, omega arith))), (λ b. b.1.0)); traced = parted_traced m.steps l.traced; hold = parted_hold m.steps }
