-- What draws of rows return over known bytes.
use Rattle.std.proofs.Common.{◌≡◌, ℕ, zero, suc, ◌+◌, ◌^◌, ◌<◌, ◌≤◌, ◌⊎◌, inl, inr, Bool, true, false, List, [], ◌∷◌, ◌++◌, length, Option, Some, None, Ok, Err, refl, sym, ap, subst, ◌∙◌, arith, append-nil, length-append}
use Rattle.std.specs.List.{concat}
use Rattle.std.specs.Io.KnownBytes.{Consumes, IsAtEnd}
use Rattle.std.proofs.KnownBytes.{Consumes-nil, Consumes-trans}
use Rattle.program_io.specs.Bytes.{GivesBytes, GivesEnd, NoReadFails}
use Rattle.fallible_iterator.specs.Traces.{Answered, end}
use Rattle.fallible_pg.specs.Draws.{row_bytes, CountsStatements, ReadsKind, EndsAt, Breaks, ReadsAnswer, GoesOn}
use Rattle.fallible_pg.specs.Messages.{message_bytes}
use Rattle.fallible_pg.specs.Progress.{Reached, came, reached_by}
use Rattle.fallible_pg.specs.Rows.{rows_parts, rows_step}
use Rattle.fallible_pg.specs.Sizes.{first_size}
use Rattle.fallible_pg.specs.Turns.{Turn, damaged, turn_by, turns_at_end, turns_of, AnswersTurn, GivesTurns}
use Rattle.fallible_pg.proofs.Lemmas.Draw.{draws_bytes_of}
use Rattle.fallible_pg.proofs.Lemmas.Size.{has_size, first_size-length}
use Rattle.fallible_pg.proofs.Lemmas.Turn.{turns_of_first_message, turns_of-damage, turns_of-none, turns_of-skipped}
use Rattle.fallible_pg.specs.declared.fault.Damage.{Damage}
use Rattle.fallible_pg.specs.declared.fault.Damage.TheVariants as What
use Rattle.fallible_pg.specs.declared.fault.PgFault.{PgFault}
use Rattle.fallible_pg.specs.declared.fault.PgFault.TheVariants.{Server, Damaged, Read, Memory}
use Rattle.fallible_pg.specs.declared.reading.Broken.TheVariants as Why
use Rattle.fallible_pg.specs.declared.kind.Kind.{Kind}
use Rattle.fallible_pg.specs.declared.kind.Kind.TheVariants as Is
use Rattle.fallible_pg.specs.declared.rows.Reply.{Reply}
use Rattle.fallible_pg.specs.declared.rows.Reply.TheVariants as Came
use Rattle.fallible_pg.specs.declared.rows.Rows.{Rows}

-- what is left of known bytes
pub known_left : (old new : Option (List ℕ)) (bytes known : List ℕ) → old ≡ Some known → Consumes old new bytes → (rest : List ℕ) × (new ≡ Some rest) × (known ≡ bytes ++ rest) × (IsAtEnd new → rest ≡ [])
known_left None new bytes known is taken = absurd cc
known_left (Some x) None bytes known is taken = absurd taken
known_left (Some x) (Some y) bytes known is taken = let same : x ≡ known = cc in (y, refl, sym same ∙ taken, λ e. e)

module _ {R : Type 0} (left : R → Option (List ℕ)) (stays : Bool → R → R → Type 0) where
  pub consumes_given : (bytes : List ℕ) (r q : R) → GivesBytes left stays r bytes q → Consumes (left r) (left q) bytes
  consumes_given [] r q h = subst (λ (z : R). Consumes (left r) (left z) []) h (Consumes-nil (left r))
  consumes_given (x ∷ xs) r q h = Consumes-trans (left r) (left h.0) (left q) (x ∷ []) xs h.1.0 (consumes_given xs h.0 q h.2)

  -- the end of known bytes
  pub none_left : {bytes : List ℕ} (last q : R) → left last ≡ Some bytes → GivesEnd left stays last q → bytes ≡ []
  none_left {bytes = bytes} last q known h = let k = known_left (left last) (left q) [] bytes known h.0 in k.2 ∙ k.3 h.1

  module _ (reached : Reached) (place : ℕ) {bytes : List ℕ} (last : R) (known : left last ≡ Some bytes) where
    -- a message, and what comes after it
    pub turns_last : {kind : Kind} (m : List ℕ) (q : R) → ReadsKind left stays reached.recorded kind m last q → (rest : List ℕ) × (turns_of reached place bytes ≡ turn_by kind place m reached (λ next. turns_of next (place + length m) rest))
    turns_last {kind = kind} m q h =
        let k = known_left (left last) (left q) m bytes known (consumes_given m last q h.1) in
        (k.0, ap (turns_of reached place) k.2 ∙ turns_of_first_message reached place m k.0 h.0.0 ∙ ap (λ (d : Kind). turn_by d place m reached (λ next. turns_of next (place + length m) k.0)) h.0.1)

    -- the end, after the server was ready or not
    pub turns_ended : (ready : Bool) (q : R) → EndsAt left stays ready reached last q → turns_of reached place bytes ≡ turns_at_end ready place
    turns_ended ready q h = ap (turns_of reached place) (none_left last q known h.1) ∙ turns_of-none reached place ∙ ap (λ (b : Bool). turns_at_end b place) h.0

module _ {R : Type 0} (left : R → Option (List ℕ)) (stays : Bool → R → R → Type 0) (no_room : List ℕ → Type 0) (place : ℕ) {bytes : List ℕ} (last : R) (known : left last ≡ Some bytes) where
  -- first bytes of a message that is damaged
  pub size_broken : (damage : Damage) (q : R) → Breaks left stays no_room (Why.Damaged damage) last q → first_size bytes ≡ Err damage
  size_broken What.Cut q (begun, broke, given, h) =
      let k = known_left (left last) (left broke) begun bytes known (consumes_given left stays begun last broke given) in
      let j = known_left (left broke) (left q) [] k.0 k.1 h.1.0 in
      let none : k.0 ≡ [] = j.2 ∙ j.3 h.1.1 in
      ap first_size (k.2 ∙ ap (λ l. begun ++ l) none ∙ append-nil begun) ∙ h.0
  size_broken (What.Length k) q (begun, broke, given, h) =
      let j = known_left (left last) (left broke) begun bytes known (consumes_given left stays begun last broke given) in
      ap first_size j.2 ∙ first_size-length begun j.0 k h.1 h.0
  size_broken (What.Tag k) q (begun, broke, given, h) = absurd h
  size_broken What.Row q (begun, broke, given, h) = absurd h
  size_broken What.Columns q (begun, broke, given, h) = absurd h

  -- of which there is one
  pub some_came : (begun : List ℕ) (q : R) → 1 ≤ length begun → GivesBytes left stays last begun q → 1 ≤ length bytes
  some_came begun q some given =
      let k = known_left (left last) (left q) begun bytes known (consumes_given left stays begun last q given) in
      let long : length bytes ≡ length begun + length k.0 = ap length k.2 ∙ length-append begun k.0 in
      omega (arith, long, some)

  pub some_broken : (damage : Damage) (q : R) → Breaks left stays no_room (Why.Damaged damage) last q → 1 ≤ length bytes
  some_broken What.Cut q (begun, broke, given, h) = some_came begun broke h.2 given
  some_broken (What.Length k) q (begun, broke, given, h) = some_came begun broke (let five = h.1 in omega (arith, five)) given
  some_broken (What.Tag k) q (begun, broke, given, h) = absurd h
  some_broken What.Row q (begun, broke, given, h) = absurd h
  some_broken What.Columns q (begun, broke, given, h) = absurd h

  pub turns_broken : (reached : Reached) (damage : Damage) (q : R) → Breaks left stays no_room (Why.Damaged damage) last q → turns_of reached place bytes ≡ damaged place damage ∷ []
  turns_broken reached damage q h = turns_of-damage reached place bytes damage (some_broken damage q h) (size_broken damage q h)

module _ {R : Type 0} (left : R → Option (List ℕ)) (stays : Bool → R → R → Type 0) (no_room : List ℕ → Type 0) (never : NoReadFails stays) where
  abbrev steps : Rows R → Answered Reply PgFault → Rows R → Type 0
  steps s answer t = rows_step left stays no_room (rows_parts s) answer (rows_parts t)

  -- one draw of what comes
  abbrev TakesTurn : Answered Reply PgFault → Rows R → List Turn → Type 0
  TakesTurn answer t [] = answer ≡ end
  TakesTurn answer t (turn ∷ turns) = AnswersTurn turn answer × GivesTurns steps t turns

  gives_by_draws : (s : Rows R) (l : List Turn) → ((answer : Answered Reply PgFault) (t : Rows R) → steps s answer t → (answer ≡ Err Memory) ⊎ TakesTurn answer t l) → GivesTurns steps s l
  gives_by_draws s [] h = h
  gives_by_draws s (turn ∷ turns) h = h

  -- rows that ended give nothing
  gives_none : (t : Rows R) → (rows_parts t).2 ≡ true → GivesTurns steps t []
  gives_none t is answer u h = inr (subst (λ (b : Bool). rows_step left stays no_room ((rows_parts t).0, (rows_parts t).1, b) answer (rows_parts u)) is h).0

  -- what comes of fewer than n bytes
  abbrev GivesFewer : ℕ → Type 0
  GivesFewer n = (s : Rows R) (r : R) (place : ℕ) (reached : Reached) (bytes : List ℕ) → length bytes < n → rows_parts s ≡ ((r, Some place), reached, false) → left r ≡ Some bytes → place + length bytes ≤ 2 ^ 63 → GivesTurns steps s (turns_of reached place bytes)

  module _ (n : ℕ) (fewer : GivesFewer n) (t : Rows R) (place : ℕ) (reached : Reached) (bytes : List ℕ) (last : R) (few : length bytes < suc n) (known : left last ≡ Some bytes) (fits : place + length bytes ≤ 2 ^ 63) where
    -- a message, after which more may come
    gives_rest : (m : List ℕ) (kind : Kind) → ReadsKind left stays reached.recorded kind m last (rows_parts t).0.0 → (rows_parts t).0.1 ≡ Some (place + length m) → (rows_parts t).1 ≡ came kind m reached → (rows_parts t).2 ≡ false → (rest : List ℕ) × (turns_of reached place bytes ≡ turn_by kind place m reached (λ next. turns_of next (place + length m) rest)) × GivesTurns steps t (turns_of (came kind m reached) (place + length m) rest)
    gives_rest m kind h at next going =
        let k = known_left (left last) (left (rows_parts t).0.0) m bytes known (consumes_given left stays m last (rows_parts t).0.0 h.1) in
        let five = (has_size m (length m) h.0.0).long in
        let long : length bytes ≡ length m + length k.0 = ap length k.2 ∙ length-append m k.0 in
        let is : rows_parts t ≡ (((rows_parts t).0.0, Some (place + length m)), came kind m reached, false) =
        ap (λ (o : Option ℕ). (((rows_parts t).0.0, o), (rows_parts t).1, (rows_parts t).2)) at
        ∙ ap (λ (u : Reached). (((rows_parts t).0.0, Some (place + length m)), u, (rows_parts t).2)) next
        ∙ ap (λ (b : Bool). (((rows_parts t).0.0, Some (place + length m)), came kind m reached, b)) going in (
          k.0,
          ap (turns_of reached place) k.2 ∙ turns_of_first_message reached place m k.0 h.0.0 ∙ ap (λ (d : Kind). turn_by d place m reached (λ after. turns_of after (place + length m) k.0)) h.0.1,
          fewer t (rows_parts t).0.0 (place + length m) (came kind m reached) k.0 (omega (arith, long, five, few)) is k.1 (omega (arith, long, fits)),
        )

    takes_turn : (answer : Answered Reply PgFault) → ReadsAnswer left stays no_room place reached last answer (rows_parts t).0.0 → CountsStatements reached answer → GoesOn place reached answer (rows_parts t).0.1 (rows_parts t).1 (rows_parts t).2 → (answer ≡ Err Memory) ⊎ TakesTurn answer t (turns_of reached place bytes)
    takes_turn (Ok (Some (Came.Row x))) h counts on = let g = gives_rest (row_bytes x) Is.Row h on.0 on.1 on.2 in inr (subst (TakesTurn (Ok (Some (Came.Row x))) t) (sym g.1) ((counts, refl), g.2))
    takes_turn (Ok (Some (Came.Notice m))) h counts on = let g = gives_rest (message_bytes m) Is.Notice h on.0 on.1 on.2 in inr (subst (TakesTurn (Ok (Some (Came.Notice m))) t) (sym g.1) (refl, g.2))
    takes_turn (Ok None) (inl h) counts on = let g = turns_last left stays reached place last known h.0 (rows_parts t).0.0 h.1 in inr (subst (TakesTurn (Ok None) t) (sym g.1) refl)
    takes_turn (Ok None) (inr h) counts on = inr (subst (TakesTurn (Ok None) t) (sym (turns_ended left stays reached place last known true (rows_parts t).0.0 h)) refl)
    takes_turn (Err (Server m)) h counts on = let g = gives_rest (message_bytes m) Is.Refusal h on.0 on.1 on.2 in inr (subst (TakesTurn (Err (Server m)) t) (sym g.1) (refl, g.2))
    takes_turn (Err (Damaged at damage)) (is, inl h) counts on = let g = turns_last left stays reached place last known h.0 (rows_parts t).0.0 h.1 in inr (subst (TakesTurn (Err (Damaged at damage)) t) (sym g.1) ((is, refl), gives_none t on.1))
    takes_turn (Err (Damaged at damage)) (is, inr (inl h)) counts on = inr (subst (TakesTurn (Err (Damaged at damage)) t) (sym (turns_broken left stays no_room place last known reached damage (rows_parts t).0.0 h)) ((is, refl), gives_none t on.1))
    takes_turn (Err (Damaged at damage)) (is, inr (inr h)) counts on = inr (subst (TakesTurn (Err (Damaged at damage)) t) (sym (turns_ended left stays reached place last known false (rows_parts t).0.0 h.1)) ((is, h.0), gives_none t on.1))
    takes_turn (Err Read) (inl h) counts on = absurd (never h.1 (rows_parts t).0.0 h.3.1.1)
    takes_turn (Err Read) (inr h) counts on = let far = h.0 in absurd (omega (arith, far, fits))
    takes_turn (Err Memory) h counts on = inl refl

  gives_fewer : (n : ℕ) → GivesFewer n
  gives_fewer zero s r place reached bytes few is known fits = absurd (omega arith)
  gives_fewer (suc n) s r place reached bytes few is known fits = gives_by_draws s (turns_of reached place bytes) (λ answer t step.
      let d = draws_bytes_of left stays no_room (rows_parts t) r place reached answer is step in
      let before = reached_by reached d.skipped in
      let k = known_left (left r) (left d.last) (concat d.skipped) bytes known (consumes_given left stays (concat d.skipped) r d.last d.given) in
      let long : length bytes ≡ length (concat d.skipped) + length k.0 = ap length k.2 ∙ length-append (concat d.skipped) k.0 in
      let same : turns_of reached place bytes ≡ turns_of before (place + length (concat d.skipped)) k.0 = ap (turns_of reached place) k.2 ∙ turns_of-skipped reached place d.skipped k.0 d.each in
      subst (λ (l : List Turn). (answer ≡ Err Memory) ⊎ TakesTurn answer t l) (sym same) (takes_turn n (gives_fewer n) t (place + length (concat d.skipped)) before k.0 d.last (omega (arith, long, few)) k.1 (omega (arith, long, fits)) answer d.answers d.counts d.goes_on))

  pub gives_turns : {r : R} {place : ℕ} {reached : Reached} {bytes : List ℕ} (s : Rows R) → rows_parts s ≡ ((r, Some place), reached, false) → left r ≡ Some bytes → place + length bytes ≤ 2 ^ 63 → GivesTurns steps s (turns_of reached place bytes)
  gives_turns {r = r} {place = place} {reached = reached} {bytes = bytes} s is known fits = gives_fewer (suc (length bytes)) s r place reached bytes (omega arith) is known fits
