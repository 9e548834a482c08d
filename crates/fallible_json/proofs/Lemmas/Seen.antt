-- What was seen of a token, and what its run makes of bytes that go on with it.
use Rattle.std.specs.Prelude.{◌≡◌, ℕ, suc, ◌+◌, ◌-◌, ◌<◌, ◌≤◌, Option, Some, None, option_and_then, Ok, Err, Result, List, [], ◌∷◌, ◌++◌, length, drop}
use Rattle.std.specs.declared.convert.Infallible.{Infallible}
use Rattle.std.proofs.Common.{arith, refl, sym, ap, subst, ◌∙◌, ⊎_elim, get_or, append_assoc, append-nil, drop-cons, length-append, length-drop}
use Rattle.std.proofs.Math.Seq.{drop-append_seam}
use Rattle.std.proofs.lemmas.Bool.{cases_lt}
use Rattle.fallible_iterator.specs.Lists.{items, numbered, result_answer}
use Rattle.fallible_iterator.specs.Showing.{TakesShown}
use Rattle.fallible_json.specs.Bytes.{IsRunAt, IsSettled, LeavesAt, SameTokens, StandsAt, placed_from, run_from}
use Rattle.fallible_json.specs.Lexing.{Placed, closed, lexed, run_of}
use Rattle.fallible_json.specs.Reading.{read}
use Rattle.fallible_json.specs.Taking.{BeginWithLeft, IsLeft, IsSeenAt}
use Rattle.fallible_json.specs.Tokens.{after, begun_by, is_blank, token_of}
use Rattle.fallible_json.specs.declared.lexer.LexFault.TheVariants.{Unknown}
use Rattle.fallible_json.specs.declared.text.Run.TheVariants as run
use Rattle.fallible_json.specs.declared.token.Phase.{Phase}
use Rattle.fallible_json.proofs.Lemmas.Parted.{no_blank, read_begun}
use Rattle.fallible_json.proofs.Lemmas.TextDraws.{leaves_closed, settled_stops, stops_alone, takes_run}
use Rattle.fallible_json.proofs.Lemmas.TextTokens.{Stops, byte_in_front, lexed_none, placed_none, takes_none, takes_unknown, within_front}

-- ---- a run that takes all bytes, and what these make

run_byte : (b : ℕ × Phase) (place byte : ℕ) (bytes : List ℕ) → run_of {E = Infallible} b (numbered place (items (byte ∷ bytes))) ≡ run_of b (Ok (place, byte) ∷ numbered (place + 1) (items bytes))
unfolding items numbered
run_byte b place byte bytes = refl

all_of_none : (b : ℕ × Phase) (place last : ℕ) (phase : Phase) → run_of {E = Infallible} b (numbered place (items [])) ≡ (Ok (last, phase), []) → read (Some b.1) [] ≡ Some (Some phase)
unfolding items numbered run_of read
all_of_none b place last phase is =
    let first : Ok b ≡ Ok (last, phase) = ap (λ p. p.0) is in
    let same : b ≡ (last, phase) = cc in
    ap (λ (p : ℕ × Phase). Some (Some p.1)) same

all_by : (o : Option Phase) (b : ℕ × Phase) (place byte last : ℕ) (phase : Phase) (bytes : List ℕ) (l : List (Result Placed Infallible)) → after b.1 byte ≡ o → run_of b (Ok (place, byte) ∷ l) ≡ (Ok (last, phase), []) → ((next : Phase) → run_of (place, next) l ≡ (Ok (last, phase), []) → read (Some next) bytes ≡ Some (Some phase)) → option_and_then (λ p. read (Some p) bytes) o ≡ Some (Some phase)
unfolding run_of
all_by (Some next) b place byte last phase bytes l is all then = then next (rw is at all)
all_by None b place byte last phase bytes l is all then = absurd (let none : Ok (place, byte) ∷ l ≡ [] = ap (λ p. p.1) (rw is at all) in cc)

all_read : (bytes : List ℕ) (b : ℕ × Phase) (place last : ℕ) (phase : Phase) → run_of {E = Infallible} b (numbered place (items bytes)) ≡ (Ok (last, phase), []) → read (Some b.1) bytes ≡ Some (Some phase)
unfolding read
all_read [] b place last phase is = all_of_none b place last phase is
all_read (byte ∷ bytes) b place last phase is = all_by (after b.1 byte) b place byte last phase bytes (numbered (place + 1) (items bytes)) refl (sym (run_byte b place byte bytes) ∙ is) (λ next goes. all_read bytes (place, next) (place + 1) last phase goes)

-- ---- and back: the run goes on after bytes that make this

run_by : (o : Option Phase) (b : ℕ × Phase) (place byte : ℕ) (phase : Phase) (bytes : List ℕ) (l : List (Result Placed Infallible)) (out : Result (ℕ × Phase) Infallible × List (Result Placed Infallible)) → after b.1 byte ≡ o → option_and_then (λ p. read (Some p) bytes) o ≡ Some (Some phase) → ((next : Phase) → read (Some next) bytes ≡ Some (Some phase) → run_of (place, next) l ≡ out) → run_of b (Ok (place, byte) ∷ l) ≡ out
unfolding run_of
run_by (Some next) b place byte phase bytes l out is all then = rw is (then next all)
run_by None b place byte phase bytes l out is all then = absurd cc

read_runs : (bytes rest : List ℕ) (last : ℕ) (begun phase : Phase) → read (Some begun) bytes ≡ Some (Some phase) → run_of {E = Infallible} (last, begun) (numbered (last + 1) (items (bytes ++ rest))) ≡ run_of (last + length bytes, phase) (numbered (last + length bytes + 1) (items rest))
unfolding read
read_runs [] rest last begun phase is =
    let same : begun ≡ phase = cc in
    let none : last ≡ last + 0 = omega arith in
    ap (λ p. run_of (last, p) (numbered (last + 1) (items rest))) same ∙ ap (λ k. run_of (k, phase) (numbered (k + 1) (items rest))) none
read_runs (byte ∷ bytes) rest last begun phase is =
    let one : last + 1 + length bytes ≡ last + suc (length bytes) = omega arith in
    run_byte (last, begun) (last + 1) byte (bytes ++ rest)
    ∙ run_by (after begun byte) (last, begun) (last + 1) byte phase bytes (numbered (last + 1 + 1) (items (bytes ++ rest))) (run_of (last + suc (length bytes), phase) (numbered (last + suc (length bytes) + 1) (items rest))) refl is
    (λ next goes. read_runs bytes rest (last + 1) next phase goes ∙ ap (λ k. run_of (k, phase) (numbered (k + 1) (items rest))) one)

-- ---- what is drawn where no token stands

pub blank_draws : (text : List ℕ) (place : ℕ) → (place ≤ length text → SameTokens text place (length text)) → TakesShown (lexed {E = Infallible} (placed_from place text)) (Ok None) (lexed (placed_from place text))
blank_draws text place same = takes_none (lexed (placed_from place text)) (⊎_elim
    (λ (past : length text < place). lexed_none text place (omega (arith, past)))
    (λ (within : place ≤ length text). subst (λ t. lexed {E = Infallible} (placed_from place t) ≡ lexed (placed_from (length text) t)) (append-nil text) (same within []) ∙ lexed_none text (length text) (omega arith))
    (cases_lt (length text) place))

pub unknown_draws : (text : List ℕ) (place first : ℕ) → StandsAt text place (run.Unknown first) → (rest : List ℕ) → TakesShown (lexed {E = Infallible} (placed_from place (text ++ rest))) (Err (Unknown first)) (lexed (placed_from (first + 1) (text ++ rest)))
unknown_draws text place first h rest =
    let here = byte_in_front text rest first h.1 in
    takes_unknown (text ++ rest) place first (h.2 rest) (within_front text rest first h.1) (ap is_blank here ∙ h.3) (ap begun_by here ∙ h.4)

-- ---- what a run draws

module _ {text : List ℕ} {place first end : ℕ} {phase : Phase} (h : IsRunAt text place first end phase) where
  some : 0 < end
  some = let k = h.within.0 in omega (arith, k)

  in_text : first < length text
  in_text = let k = h.within.0 in let n = h.within.1 in omega (arith, k, n)

  stopped : (rest : List ℕ) → Stops (text ++ rest) end phase → TakesShown (lexed {E = Infallible} (placed_from place (text ++ rest))) (result_answer (closed first (end - 1) phase)) (lexed (placed_from end (text ++ rest)))
  stopped rest stops = takes_run text rest place first end h.begun phase (h.same rest) in_text (no_blank (get_or text first 0) h.begun h.begins) h.begins (h.goes rest) stops

  pub run_settled : (rest : List ℕ) → IsSettled text (result_answer (closed first (end - 1) phase)) → TakesShown (lexed {E = Infallible} (placed_from place (text ++ rest))) (result_answer (closed first (end - 1) phase)) (lexed (placed_from end (text ++ rest)))
  run_settled rest settled = stopped rest (settled_stops text rest first end phase some h.ends settled)

  pub run_draws : TakesShown (lexed {E = Infallible} (placed_from place text)) (result_answer (closed first (end - 1) phase)) (lexed (placed_from end text))
  run_draws = subst (λ t. TakesShown (lexed {E = Infallible} (placed_from place t)) (result_answer (closed first (end - 1) phase)) (lexed (placed_from end t))) (append-nil text) (stopped [] (stops_alone text end phase h.ends))

  pub run_leaves : LeavesAt text place (result_answer (closed first (end - 1) phase)) end
  run_leaves =
      let later = h.later in
      let before = h.within.0 in
      leaves_closed text place first end (token_of phase) phase (omega (arith, later, before)) before h.within.1 refl

  -- the same, with no blanks before it
  pub run_from_first : IsRunAt text first first end phase
  run_from_first = record {
    begun = h.begun;
    later = omega arith;
    within = h.within;
    same = λ rest. refl;
    begins = h.begins;
    goes = h.goes;
    ends = h.ends;
  }

  -- what its bytes make, where it ends with the text
  pub run_is_left : length text ≤ end → IsLeft (Some (end - first, phase)) (drop first text)
  run_is_left past =
      let back : first + 1 - 1 ≡ first = omega arith in
      let none : placed_from {E = Infallible} end text ≡ [] = placed_none text end past in
      let all : run_from text (first + 1) h.begun ≡ (Ok (end - 1, phase), []) = subst (λ t. run_from t (first + 1) h.begun ≡ (Ok (end - 1, phase), placed_from end t)) (append-nil text) (h.goes [] ∙ stops_alone text end phase h.ends) ∙ ap (λ l. (Ok (end - 1, phase), l)) none in
      let made : read (Some h.begun) (drop (first + 1) text) ≡ Some (Some phase) = all_read (drop (first + 1) text) (first + 1 - 1, h.begun) (first + 1) (end - 1) phase all in
      let next : suc first ≡ first + 1 = omega arith in
      let byte : drop first text ≡ get_or text first 0 ∷ drop (first + 1) text = drop-cons text first 0 in_text ∙ ap (λ k. get_or text first 0 ∷ drop k text) next in
      let before = h.within.0 in
      let within = h.within.1 in
      (omega (arith, length-drop first text, past, within), ap (read None) byte ∙ read_begun (get_or text first 0) h.begun phase (drop (first + 1) text) h.begins made)

-- ---- the run of what was left

left_some : (count : ℕ) (phase : Phase) (left : List ℕ) → IsLeft (Some (count, phase)) left → 0 < count
unfolding read
left_some count phase [] h = absurd cc
left_some count phase (byte ∷ left) h = let k = h.0 in omega (arith, k)

-- what the first byte begins, and the others make of it
begun_of_read : (o : Option Phase) (byte : ℕ) (bytes : List ℕ) (phase : Phase) → begun_by byte ≡ o → read None (byte ∷ bytes) ≡ Some (Some phase) → (begun : Phase) × (begun_by byte ≡ Some begun) × (read (Some begun) bytes ≡ Some (Some phase))
unfolding read
begun_of_read (Some begun) byte bytes phase is all = (begun, is, rw is at all)
begun_of_read None byte bytes phase is all = absurd (let k : ◌≡◌ {A = Option (Option Phase)} None (Some (Some phase)) = rw is at all in cc)

run_on : (left more : List ℕ) (count end : ℕ) (seen phase : Phase) → IsLeft (Some (count, seen)) left → count ≤ end → end ≤ length (left ++ more) → ((rest : List ℕ) → run_from ((left ++ more) ++ rest) count seen ≡ run_from ((left ++ more) ++ rest) end phase) → (end < length (left ++ more) → after phase (get_or (left ++ more) end 0) ≡ None) → IsRunAt (left ++ more) 0 0 end phase
run_on [] more count end seen phase h later within goes ends = absurd (let k = left_some count seen [] h in let n = h.0 in omega (arith, k, n))
run_on (byte ∷ left) more count end seen phase h later within goes ends =
    let k = begun_of_read (begun_by byte) byte left seen refl h.1 in
    let long : length (byte ∷ left) ≡ count = h.0 in
    let one : 0 + length left ≡ count - 1 = omega (arith, long) in
    let two : 0 + length left + 1 ≡ count = omega (arith, long) in
    record {
      begun = k.0;
      later = omega arith;
      within = (omega (arith, long, later), within);
      same = λ rest. refl;
      begins = k.1;
      goes = λ rest.
          let all : List ℕ = (byte ∷ left) ++ (more ++ rest) in
          let seam : drop count all ≡ more ++ rest = subst (λ n. drop n all ≡ more ++ rest) long (drop-append_seam (byte ∷ left) (more ++ rest)) in
          let here : run_from all 1 k.0 ≡ run_from all count seen =
          read_runs left (more ++ rest) 0 k.0 seen k.2
          ∙ ap (λ n. run_of {E = Infallible} (n, seen) (numbered (0 + length left + 1) (items (more ++ rest)))) one
          ∙ ap (λ n. run_of {E = Infallible} (count - 1, seen) (numbered n (items (more ++ rest)))) two
          ∙ ap (λ l. run_of {E = Infallible} (count - 1, seen) (numbered count (items l))) (sym seam) in
          subst (λ l. run_from l 1 k.0 ≡ run_from l count seen) (sym (append_assoc (byte ∷ left) more rest)) here ∙ goes rest;
      ends = ends;
    }

pub run_after_left : (bytes : List ℕ) (count end : ℕ) (seen phase : Phase) → BeginWithLeft (Some (count, seen)) bytes → count ≤ end → end ≤ length bytes → ((rest : List ℕ) → run_from (bytes ++ rest) count seen ≡ run_from (bytes ++ rest) end phase) → (end < length bytes → after phase (get_or bytes end 0) ≡ None) → IsRunAt bytes 0 0 end phase
run_after_left bytes count end seen phase (left, more, is, h) later =
    subst (λ l. end ≤ length l → ((rest : List ℕ) → run_from (l ++ rest) count seen ≡ run_from (l ++ rest) end phase) → (end < length l → after phase (get_or l end 0) ≡ None) → IsRunAt l 0 0 end phase) (sym is) (run_on left more count end seen phase h later)

pub seen_at_first : (seen : Option (ℕ × Phase)) (bytes : List ℕ) → BeginWithLeft seen bytes → IsSeenAt seen bytes 0
seen_at_first None bytes h = tt
seen_at_first (Some seen) bytes h = (refl, h)

pub left_within : (bytes : List ℕ) (count : ℕ) (seen : Phase) → BeginWithLeft (Some (count, seen)) bytes → (0 < count) × (count ≤ length bytes)
left_within bytes count seen (left, more, is, h) =
    let long = h.0 in
    let same : length bytes ≡ length (left ++ more) = ap length is in
    (left_some count seen left h, omega (arith, long, same, length-append left more))
