-- What the run of a token and its text make of a list.
use Rattle.std.specs.Prelude.{◌≡◌, ℕ, Option, Some, None, option_map, Ok, Err, Result, List, [], ◌∷◌, ◌++◌}
use Rattle.std.specs.Option.{option_map_or}
use Rattle.std.proofs.Common.{refl, sym, ap, subst, ◌∙◌}
use Rattle.fallible_iterator.specs.Contract.{Contract, Stays}
use Rattle.fallible_iterator.specs.Fault.{Fault}
use Rattle.fallible_iterator.specs.Fault.TheVariants as fault
use Rattle.fallible_iterator.specs.Lists.{Lists, result_answer}
use Rattle.fallible_itertools.specs.Ahead.{TakesMade}
use Rattle.fallible_itertools.specs.Lexing.{lexed_by, rest_lexed_by}
use Rattle.fallible_json.specs.Checked.{BegunText, TakesText, TakesTextRun, TextRun, Texted, rest_texted, sourced, text_begun_at, text_closed, text_rules, text_run_of, texted, with_text}
use Rattle.fallible_json.specs.Lexing.{Lexeme, Placed, closed, lexeme_or}
use Rattle.fallible_json.specs.Tokens.{after, begun_by}
use Rattle.fallible_json.specs.declared.lexer.LexFault.{LexFault}
use Rattle.fallible_json.specs.declared.lexer.LexFault.TheVariants.{Source}
use Rattle.fallible_json.specs.declared.token.Phase.{Phase}
use Rattle.fallible_json.specs.declared.token.Token.{Token}
use Rattle.fallible_itertools.proofs.Lemmas.Lexing.{TakesRest, takes_rest}

-- what a byte begins at its place
pub text_begins_by : (x : Placed) {phase : Phase} → begun_by x.1 ≡ Some phase → text_begun_at x ≡ Some (x.0, (x.0, phase, x.1 ∷ []))
text_begins_by (place, byte) is = rw is refl

pub text_begins_none : (x : Placed) → begun_by x.1 ≡ None → text_begun_at x ≡ None
text_begins_none (place, byte) is = rw is refl

module _ {E : Type 0} where
  module _ (first : ℕ) where
    -- the token that its bytes are, or the failure among them
    abbrev pub text_made : Result TextRun E → Result Texted (LexFault E)
    text_made (Ok b) = text_closed first b
    text_made (Err e) = Err (Source e)

    -- after what is begun comes the token that its run is, and those of the rest
    abbrev AfterRun : TextRun → List (Result Placed E) → Type 0
    AfterRun b l = (lexed_by text_rules (Some (first, b)) l ≡ text_made (text_run_of b l).0 ∷ texted (text_run_of b l).1) × (rest_lexed_by text_rules (Some (first, b)) l ≡ (text_run_of b l).1)

    after_run_item : (o : Option Phase) (last : ℕ) (phase : Phase) (text : List ℕ) (place byte : ℕ) (l : List (Result Placed E)) → after phase byte ≡ o → ((next : Phase) → AfterRun (place, next, text ++ byte ∷ []) l) → AfterRun (last, phase, text) (Ok (place, byte) ∷ l)
    unfolding text_run_of lexed_by rest_lexed_by
    after_run_item (Some next) last phase text place byte l is h = rw is (h next)
    after_run_item None last phase text place byte l is h = rw is (refl, refl)

    after_run : (last : ℕ) (phase : Phase) (text : List ℕ) (l : List (Result Placed E)) → AfterRun (last, phase, text) l
    unfolding text_run_of lexed_by rest_lexed_by
    after_run last phase text [] = (refl, refl)
    after_run last phase text (Ok (place, byte) ∷ l) = after_run_item (after phase byte) last phase text place byte l refl (λ next. after_run place next (text ++ byte ∷ []) l)
    after_run last phase text (Err e ∷ l) = (refl, refl)

  module _ {P : Type 0} {m : Contract P Placed E} {place : ℕ} {phase : Phase} {begun text : List ℕ} {t v : P} (stays : Stays m t v) (same : begun ≡ text) where
    -- the draws of a run take the first token, by what they are of each list
    pub takes_text_run : (q : Result TextRun E) → ((l : List (Result Placed E)) → Lists m.steps t l → ((text_run_of (place, phase, begun) l).0 ≡ q) × Lists m.steps v (text_run_of (place, phase, begun) l).1) → TakesRest text_rules m (place, (place, phase, text)) t (text_made place q) v
    takes_text_run q run = subst (λ (k : List ℕ). TakesRest text_rules m (place, (place, phase, k)) t (text_made place q) v) same (takes_rest text_rules (text_made place) (after_run place place phase begun) stays (λ l i. sym (run l i).0) (λ l i. (run l i).1) refl)

    -- the same of a failure among them
    pub takes_text_fault : {r : Result (ℕ × Phase) (Fault E)} (shown : List ℕ) (e : E) → r ≡ Err (fault.Source e) → ((l : List (Result Placed E)) → Lists m.steps t l → TakesTextRun m r shown v (text_run_of (place, phase, begun) l)) → TakesRest text_rules m (place, (place, phase, text)) t (Err (Source e)) v
    takes_text_fault shown e is run = takes_text_run (Err e) (λ l i. subst (λ (k : Result (ℕ × Phase) (Fault E)). TakesTextRun m k shown v (text_run_of (place, phase, begun) l)) is (run l i))

  -- the token that was taken is that of the run, with its bytes
  module _ {P : Type 0} {m : Contract P Placed E} {s t : P} (first last : ℕ) (phase : Phase) (text : List ℕ) where
    takes_closed_by : (r : Result Lexeme (LexFault E)) → closed first last phase ≡ r → TakesMade m texted rest_texted s (result_answer (with_text text r)) t → TakesText m s (sourced (result_answer r)) text t
    takes_closed_by (Ok x) is h = h
    takes_closed_by (Err e) is h = h

    pub takes_text_closed : {o : Result (Option Lexeme) (LexFault E)} → o ≡ result_answer (closed {E = E} first last phase) → TakesMade m texted rest_texted s (result_answer (text_closed first (last, phase, text))) t → TakesText m s (sourced o) text t
    takes_text_closed is h = subst (λ k. TakesText m s (sourced k) text t) (sym is) (takes_closed_by (closed first last phase) refl h)
