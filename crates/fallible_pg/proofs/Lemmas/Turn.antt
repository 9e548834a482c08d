-- What comes of bytes, one message off the front.
use Rattle.std.proofs.Common.{◌≡◌, ℕ, ◌+◌, ◌≤◌, List, [], ◌∷◌, ◌++◌, length, Err, refl, sym, ap, ◌∙◌, arith, append_assoc, length-append}
use Rattle.std.specs.Prelude.{All}
use Rattle.std.specs.List.{concat}
use Rattle.std.proofs.lemmas.List.Elements.{All-head, All-tail}
use Rattle.fallible_pg.specs.Draws.{IsOfKind}
use Rattle.fallible_pg.specs.Kinds.{kind_of}
use Rattle.fallible_pg.specs.Progress.{Reached, came, reached_by}
use Rattle.fallible_pg.specs.Sizes.{first_size, IsMessage}
use Rattle.fallible_pg.specs.Turns.{damaged, turn_by, turns_from, turns_at_end, turns_of}
use Rattle.fallible_pg.proofs.Lemmas.List.{messages_of-none, messages_of-message, messages_of-damage}
use Rattle.fallible_pg.specs.declared.fault.Damage.{Damage}
use Rattle.fallible_pg.specs.declared.kind.Kind.{Kind}
use Rattle.fallible_pg.specs.declared.kind.Kind.TheVariants as Is

-- a message off the front
pub turns_of_first_message : (reached : Reached) (place : ℕ) (m rest : List ℕ) → IsMessage m → turns_of reached place (m ++ rest) ≡ turn_by (kind_of reached.recorded m) place m reached (λ next. turns_of next (place + length m) rest)
turns_of_first_message reached place m rest is = ap (turns_from reached place) (messages_of-message place m rest is)

pub turns_of-damage : (reached : Reached) (place : ℕ) (bytes : List ℕ) (damage : Damage) → 1 ≤ length bytes → first_size bytes ≡ Err damage → turns_of reached place bytes ≡ damaged place damage ∷ []
turns_of-damage reached place bytes damage some is = ap (turns_from reached place) (messages_of-damage place bytes damage some is)

pub turns_of-none : (reached : Reached) (place : ℕ) → turns_of reached place [] ≡ turns_at_end reached.ready place
turns_of-none reached place = ap (turns_from reached place) (messages_of-none place)

-- ---- messages that are skipped

-- they leave it whether rows are those of a recording
pub skipped_recorded : (reached : Reached) (ms : List (List ℕ)) → All (IsOfKind reached.recorded Is.Skipped) ms → (reached_by reached ms).recorded ≡ reached.recorded
skipped_recorded reached [] each = refl
skipped_recorded reached (m ∷ ms) each =
    let next = came Is.Skipped m reached in
    ap (λ (k : Kind). (reached_by (came k m reached) ms).recorded) (All-head (IsOfKind reached.recorded Is.Skipped) m ms each).1
    ∙ skipped_recorded next ms (All-tail (IsOfKind reached.recorded Is.Skipped) m ms each)

pub turns_of-skipped : (reached : Reached) (place : ℕ) (ms : List (List ℕ)) (rest : List ℕ) → All (IsOfKind reached.recorded Is.Skipped) ms → turns_of reached place (concat ms ++ rest) ≡ turns_of (reached_by reached ms) (place + length (concat ms)) rest
turns_of-skipped reached place [] rest each = ap (λ (n : ℕ). turns_of reached n rest) (omega arith)
turns_of-skipped reached place (m ∷ ms) rest each =
    let one = All-head (IsOfKind reached.recorded Is.Skipped) m ms each in
    let next = came Is.Skipped m reached in
    let long = length-append m (concat ms) in
    let on : (place + length m) + length (concat ms) ≡ place + length (m ++ concat ms) = omega (arith, long) in
    ap (turns_of reached place) (append_assoc m (concat ms) rest)
    ∙ turns_of_first_message reached place m (concat ms ++ rest) one.0
    ∙ ap (λ (k : Kind). turn_by k place m reached (λ after. turns_of after (place + length m) (concat ms ++ rest))) one.1
    ∙ turns_of-skipped next (place + length m) ms rest (All-tail (IsOfKind reached.recorded Is.Skipped) m ms each)
    ∙ ap (λ (n : ℕ). turns_of (reached_by next ms) n rest) on
    ∙ ap (λ (k : Kind). turns_of (reached_by (came k m reached) ms) (place + length (m ++ concat ms)) rest) (sym one.1)
