-- `making` is lawful.
use Rattle.std.specs.Prelude.{List, [], ◌∷◌, Some, None, Ok, Err, Result}
use Rattle.std.proofs.Common.{subst}
use Rattle.fallible_iterator.specs.Traces.{Answered, Run}
use Rattle.fallible_iterator.specs.Contract.{Contract, KeptByDraw, Lawful, OnAnswer}
use Rattle.fallible_iterator.specs.Laws.Sound.{own_hold}
use Rattle.fallible_iterator.specs.Lists.{Lists}
use Rattle.fallible_itertools_adapters.specs.Ahead.{TakesMade, MakesFrom, making}

module _ {S P A E B F : Type 0} (view : S → P) (answers : List (Result A E) → List (Result B F)) (left : List (Result A E) → List (Result A E)) (m : Contract P A E) where
  on_answer_made : (s t : S) (r : Answered B F) → TakesMade m answers left (view s) r (view t) → OnAnswer (making view answers left m) s r t
  on_answer_made s t (Ok (Some y)) h = (tt, h.lowers.0, h.lowers.1)
  on_answer_made s t (Ok None) h = (h.keeps.bound, h.keeps.remaining)
  on_answer_made s t (Err e) h = (tt, h.keeps.bound, h.lowers)

  kept_by_draw_made : (s t : S) (r : Answered B F) → m.is_finite (view s) → TakesMade m answers left (view s) r (view t) → KeptByDraw (making view answers left m) s r t
  kept_by_draw_made s t r finite h = record {
    can_next = (h.keeps.can_next, h.keeps.is_finite finite);
    is_finite = h.keeps.is_finite;
    answer = on_answer_made s t r h;
    may_give = λ y g. tt;
    may_fail = λ f g. tt;
    lenders = h.keeps.lenders;
  }

  makes_from_of_run : (trace : List (Answered B F)) (s t : S) → Run (making view answers left m).steps s trace t → (l : List (Result A E)) → Lists m.steps (view s) l → MakesFrom m answers left l trace (view t)
  makes_from_of_run [] s t ran l i = subst (λ (u : S). Lists m.steps (view u) l) ran i
  makes_from_of_run (r ∷ rest) s t ran l i = (ran.1.first l i, (λ goes. makes_from_of_run rest ran.0 t ran.2 (left l) (ran.1.rest l i goes)))

pub lawful_making : {S P A E B F : Type 0} {m : Contract P A E} (view : S → P) (answers : List (Result A E) → List (Result B F)) (left : List (Result A E) → List (Result A E)) → Lawful m → Lawful (making view answers left m)
lawful_making {m = m} view answers left l = record { kept_by_draw = λ s r t c h. kept_by_draw_made view answers left m s t r c.1 h; bounded = λ s. l.bounded (view s); traced = λ s trace t. ((λ ran. record { made = makes_from_of_run view answers left m trace s t ran; ran = ran }), (λ d. d.ran)); hold = own_hold }
