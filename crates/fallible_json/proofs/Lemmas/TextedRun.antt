-- What each look of the loop over the bytes of a token makes of their run and of its text.
use Rattle.std.specs.Prelude.{◌≡◌, ℕ, true, false, Option, Some, None, Ok, Err, Result, List, [], ◌∷◌, ◌++◌}
use Rattle.std.specs.Option.{is_some}
use Rattle.std.proofs.Common.{refl, sym, ap, subst, ◌∙◌}
use Rattle.fallible_iterator.specs.Traces.{Answered}
use Rattle.fallible_iterator.specs.Lists.{Lists}
use Rattle.fallible_iterator.proofs.Lemmas.Loops.{AnswersFromHere}
use Rattle.fallible_iterator.proofs.Lemmas.Taking.{RefusesFirst, TookIf, answers_from_here_taking, failure_met, lists_and_answers_where_none_taken}
use Rattle.fallible_json.specs.Checked.{TextRun, text_run_of}
use Rattle.fallible_json.specs.Lexing.{Placed, with_byte}
use Rattle.fallible_json.specs.Tokens.{after, goes_on}
use Rattle.fallible_json.specs.declared.token.Phase.{Phase}

module _ {E : Type 0} where
  -- of a list whose first byte goes on with the token
  goes_by : (o : Option Phase) (b : TextRun) (x : Placed) (l : List (Result Placed E)) → after b.1 x.1 ≡ o → is_some o ≡ true → text_run_of {E = E} b (Ok x ∷ l) ≡ text_run_of (x.0, with_byte b.1 x.1, b.2 ++ x.1 ∷ []) l
  unfolding text_run_of
  goes_by (Some phase) b x l is some = rw is refl
  goes_by None b x l is some = absurd cc

  run_goes : (b : TextRun) (x : Placed) (l : List (Result Placed E)) → goes_on b.1 x.1 ≡ true → text_run_of {E = E} b (Ok x ∷ l) ≡ text_run_of (x.0, with_byte b.1 x.1, b.2 ++ x.1 ∷ []) l
  run_goes b x l goes = goes_by (after b.1 x.1) b x l refl goes

  -- of one with no such byte in front
  stops_by : (o : Option Phase) (b : TextRun) (x : Placed) (l : List (Result Placed E)) → after b.1 x.1 ≡ o → is_some o ≡ false → text_run_of {E = E} b (Ok x ∷ l) ≡ (Ok b, Ok x ∷ l)
  unfolding text_run_of
  stops_by (Some phase) b x l is none = absurd cc
  stops_by None b x l is none = rw is refl

  run_stops : (b : TextRun) (l : List (Result Placed E)) → RefusesFirst (λ x. goes_on b.1 x.1) l → text_run_of b l ≡ (Ok b, l)
  unfolding text_run_of
  run_stops b [] refuses = refl
  run_stops b (Ok x ∷ l) refuses = stops_by (after b.1 x.1) b x l refl refuses
  run_stops b (Err e ∷ l) refuses = absurd refuses

  run_fails_first : (b : TextRun) (e : E) (l : List (Result Placed E)) → text_run_of b (Err e ∷ l) ≡ (Err e, l)
  unfolding text_run_of
  run_fails_first b e l = refl

module _ {S E : Type 0} {steps : S → Answered Placed E → S → Type 0} {s0 s t : S} {b0 b : TextRun} {r : Answered Placed E} (here : AnswersFromHere steps text_run_of s0 b0 s b) (took : TookIf steps (λ x. goes_on b.1 x.1) s r t) where
  -- the run ends where none is taken
  pub text_run_ends : r ≡ Ok None → (l : List (Result Placed E)) → Lists steps s0 l → ((text_run_of b0 l).0 ≡ Ok b) × Lists steps t (text_run_of b0 l).1
  text_run_ends is l i =
      let k = lists_and_answers_where_none_taken (λ x. goes_on b.1 x.1) here took l i is in
      let same : text_run_of b0 l ≡ (Ok b, k.0) = k.3 ∙ run_stops b k.0 k.2 in
      (ap (λ p. p.0) same, subst (Lists steps t) (sym (ap (λ p. p.1) same)) k.1)

  -- and with a failure
  pub text_run_fails : (e : E) → r ≡ Err e → (l : List (Result Placed E)) → Lists steps s0 l → ((text_run_of b0 l).0 ≡ Err e) × Lists steps t (text_run_of b0 l).1
  text_run_fails e is l i =
      let k = failure_met (λ x. goes_on b.1 x.1) here took l i e is in
      let same : text_run_of b0 l ≡ (Err e, k.0) = k.2 ∙ run_fails_first b e k.0 in
      (ap (λ p. p.0) same, subst (Lists steps t) (sym (ap (λ p. p.1) same)) k.1)

  -- and goes on with a byte that is taken
  pub text_run_goes_on : (x : Placed) (next : TextRun) → next ≡ (x.0, with_byte b.1 x.1, b.2 ++ x.1 ∷ []) → r ≡ Ok (Some x) → AnswersFromHere steps text_run_of s0 b0 t next
  text_run_goes_on x next same is = subst (λ p. AnswersFromHere steps text_run_of s0 b0 t p) (sym same) (answers_from_here_taking (λ y. goes_on b.1 y.1) x here took is (λ l goes. run_goes b x l goes))
