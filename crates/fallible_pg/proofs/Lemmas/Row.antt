-- Lemmas on what a draw of rows takes of the messages.
use Rattle.std.proofs.Common.{◌≡◌, ℕ, ◌+◌, ◌≤◌, Bool, false, List, [], ◌∷◌, ◌++◌, Option, Some, None, Ok, refl, sym, ap, subst, ◌∙◌, arith}
use Rattle.std.specs.Prelude.{All}
use Rattle.std.proofs.lemmas.List.Elements.{All-nil, All-cons, All-append}
use Rattle.fallible_iterator.specs.Laws.Closures.{folds_to_in_turn}
use Rattle.fallible_iterator.specs.Traces.{Answered, Yields, item}
use Rattle.fallible_pg.specs.Messages.{message_bytes}
use Rattle.fallible_pg.specs.Reading.{message_step, place_of}
use Rattle.fallible_pg.specs.Kinds.{kind_of}
use Rattle.fallible_pg.specs.Progress.{Reached, passed, came, reached_by}
use Rattle.fallible_pg.specs.Rows.{all_bytes, MadeOfKind, MadeOfLast, IsSkipped, DrawsRow, rows_step}
use Rattle.fallible_pg.specs.declared.fault.PgFault.{PgFault}
use Rattle.fallible_pg.specs.declared.message.Message.{Message}
use Rattle.fallible_pg.specs.declared.kind.Kind.{Kind}
use Rattle.fallible_pg.specs.declared.kind.Kind.TheVariants.{Skipped}
use Rattle.fallible_pg.specs.declared.rows.Reply.{Reply}

pub all_skipped_more : (recorded : Bool) (ms : List Message) (m : Message) → All (IsSkipped recorded) ms → IsSkipped recorded m → All (IsSkipped recorded) (ms ++ m ∷ [])
all_skipped_more recorded ms m each one = All-append (IsSkipped recorded) ms (m ∷ []) each (All-cons (IsSkipped recorded) m [] one (All-nil (IsSkipped recorded)))

pub made_of_kind : {place at : ℕ} {found kind : Kind} {recorded : Bool} {new : Reached} (reached : Reached) (m : Message) (answer : Answered Reply PgFault) (ended : Bool) → found ≡ kind_of recorded (message_bytes m) → recorded ≡ reached.recorded → found ≡ kind → at ≡ place → new ≡ came kind (message_bytes m) reached → MadeOfKind at reached m kind answer ended → MadeOfLast place reached (Ok (Some m)) answer new ended
made_of_kind {place = place} {kind = kind} {new = new} reached m answer ended is of one same next h =
    let kind_is : kind ≡ kind_of reached.recorded (message_bytes m) = sym one ∙ is ∙ ap (λ (b : Bool). kind_of b (message_bytes m)) of in
    subst (λ (k : Kind). MadeOfKind place reached m k answer ended × (new ≡ came k (message_bytes m) reached)) kind_is (subst (λ (n : ℕ). MadeOfKind n reached m kind answer ended) same h, next)

-- with a message more that is skipped
pub reached_more : (reached : Reached) (ms : List (List ℕ)) (m : List ℕ) → kind_of (reached_by reached ms).recorded m ≡ Skipped → reached_by reached (ms ++ m ∷ []) ≡ passed m (reached_by reached ms)
reached_more reached [] m is = ap (λ (k : Kind). came k m reached) is
reached_more reached (n ∷ ms) m is = reached_more (came (kind_of reached.recorded n) n reached) ms m is

all_bytes_more : (ms : List Message) (m : Message) → all_bytes (ms ++ m ∷ []) ≡ all_bytes ms ++ message_bytes m ∷ []
all_bytes_more [] m = refl
all_bytes_more (n ∷ ms) m = ap (λ l. message_bytes n ∷ l) (all_bytes_more ms m)

pub passed_more : {now new : Reached} (reached : Reached) (ms : List Message) (m : Message) → now ≡ reached_by reached (all_bytes ms) → kind_of now.recorded (message_bytes m) ≡ Skipped → new ≡ passed (message_bytes m) now → new ≡ reached_by reached (all_bytes (ms ++ m ∷ []))
passed_more {now = now} reached ms m before is next =
    next
    ∙ ap (passed (message_bytes m)) before
    ∙ sym (reached_more reached (all_bytes ms) (message_bytes m) (ap (λ (u : Reached). kind_of u.recorded (message_bytes m)) (sym before) ∙ is))
    ∙ ap (reached_by reached) (sym (all_bytes_more ms m))

pub yields_more : {P A E : Type 0} (step : P → Answered A E → P → Type 0) (xs : List A) (x : A) (p q t : P) → Yields step p xs q → step q (item x) t → Yields step p (xs ++ x ∷ []) t
yields_more step xs x p q t h k = folds_to_in_turn (λ u y v. step u (item y) v) xs (x ∷ []) p q t h (t, k, refl)

module _ {R : Type 0} (left : R → Option (List ℕ)) (stays : Bool → R → R → Type 0) (no_room : List ℕ → Type 0) where
  abbrev Parts : Type 0
  Parts = R × Option ℕ

  -- messages that are skipped, and then an answer
  pub step_of_draw : {begun : Bool} {now : Reached} (p q middle : Parts) (reached new : Reached) (ended : Bool) (skipped : List Message) (last : Answered Message PgFault) (answer : Answered Reply PgFault) → begun ≡ false → All (IsSkipped reached.recorded) skipped → Yields (message_step left stays no_room) p skipped middle → now ≡ reached_by reached (all_bytes skipped) → message_step left stays no_room middle last q → MadeOfLast (place_of middle.1) now last answer new ended → rows_step left stays no_room (p, reached, begun) answer (q, new, ended)
  step_of_draw p q middle reached new ended skipped last answer is each yielded before drawn made =
      let draw : DrawsRow left stays no_room p reached answer q new ended = record { skipped = skipped; each = each; middle = middle; passed = yielded; last = last; drawn = drawn; made = subst (λ (u : Reached). MadeOfLast (place_of middle.1) u last answer new ended) before made } in
      subst (λ (b : Bool). rows_step left stays no_room (p, reached, b) answer (q, new, ended)) (sym is) draw

  -- a message that was drawn moves the place by at least five
  pub place_grows : (m : Message) (p q : Parts) (n : ℕ) → message_step left stays no_room p (item m) q → n ≤ place_of p.1 → n + 5 ≤ place_of q.1
  place_grows m (r, Some place) q n h l = subst (λ (o : Option ℕ). n + 5 ≤ place_of o) (sym h.2) (let long = m.long in omega (arith, l, long))
  place_grows m (r, None) q n h l = absurd (let e = h.0 in cc)
