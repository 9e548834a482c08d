-- Lemmas on bytes that readers yield.
use Rattle.std.proofs.Common.{Bool, true, false, ◌≡◌, ℕ, ◌+◌, List, [], ◌∷◌, ◌++◌, length, take, drop, if◌then◌else◌, ◌==◌, refl, sym, ap, subst, ◌∙◌, arith, Option, Some, None, ◌<◌, ◌≤◌, append_assoc, length-append, take-add, Err}
use Rattle.std.specs.Prelude.{⊤}
use Rattle.std.specs.List.{FoldsTo}
use Rattle.std.specs.Io.Buffered.{reader_buffer, reader_capacity, reader_inner}
use Rattle.std.specs.Io.KnownBytes.{Consumes, prepend_known}
use Rattle.std.proofs.KnownBytes.{Consumes-trans}
use Rattle.std.proofs.lemmas.List.{drop-drop, take-append-drop, length-take}
use Rattle.std.specs.declared.io.ErrorKind.{ErrorKind}
use Rattle.program_io.specs.Reading.{Fails}
use Rattle.program_io.specs.Bytes.{GivesByte, GivesBytes, StopsShort, ReadsSome, ReadsUpTo, held_bytes, buffered_left, bytes_left}
use Rattle.program_io.specs.declared.reading.Buffered.{Buffered}
use Rattle.program_io.specs.declared.reading.Bytes.{Bytes}
use Rattle.program_io.specs.declared.reading.Lent.{Lent}
use Rattle.program_io.specs.declared.reading.Unread.{Unread}
use Rattle.program_io.specs.declared.reading.Unread.TheVariants.{End, Failed, Memory}

-- ---- one read after another

-- bytes that a read put after those that a buffer held
pub consumes_after : (a b c : Option (List ℕ)) (before old new : List ℕ) (held count : ℕ) → Consumes a b (before ++ take held old) → take held new ≡ take held old → Consumes b c (take count (drop held new)) → Consumes a c (before ++ take (held + count) new)
consumes_after a b c before old new held count first front second =
    let bytes = take count (drop held new) in
    let all : (before ++ take held old) ++ bytes ≡ before ++ take (held + count) new = append_assoc before (take held old) bytes ∙ ap (λ l. before ++ l) (ap (λ l. l ++ bytes) (sym front) ∙ sym (take-add held count new)) in
    subst (Consumes a c) all (Consumes-trans a b c (before ++ take held old) bytes first second)

-- a read that failed after others
pub fails_after : {R : Type 0} (left : R → Option (List ℕ)) (fails : ErrorKind → R → R → Type 0) (kind : ErrorKind) (r p q : R) (bytes : List ℕ) → Consumes (left r) (left p) bytes → Fails left fails kind p q → Fails left fails kind r q
fails_after left fails kind r p q bytes first later = record {
  retried = later.retried;
  bytes = bytes ++ later.bytes;
  last = later.last;
  taken = Consumes-trans (left r) (left p) (left later.last) bytes later.bytes first later.taken;
  failed = later.failed;
}

-- ---- a buffered reader

consumes_first : (unknown : Bool) (held : List ℕ) (byte : ℕ) (rest : List ℕ) (unread : Option (List ℕ)) → held ≡ byte ∷ rest → Consumes (if unknown then None else prepend_known held unread) (if unknown then None else prepend_known rest unread) (byte ∷ [])
consumes_first true held byte rest unread is = tt
consumes_first false held byte rest None is = tt
consumes_first false held byte rest (Some more) is = ap (λ l. l ++ more) is

-- the reader of which so many bytes more were yielded
abbrev pub given_more : {R : Type 0} → Buffered R → ℕ → Buffered R
given_more s n = record { reader = s.reader; given = s.given + n }

module _ {R : Type 0} (remaining : R → Option (List ℕ)) where
  gives_bytes_front : (s : Buffered R) (front rest : List ℕ) → held_bytes s ≡ front ++ rest → GivesBytes (buffered_left remaining) (λ _ _ _. ⊤) s front (given_more s (length front))
  gives_bytes_front s [] rest is = let none : s.given ≡ s.given + 0 = omega arith in ap (λ (n : ℕ). record { reader = s.reader; given = n }) none
  gives_bytes_front s (byte ∷ front) rest is =
      let next : held_bytes (given_more s 1) ≡ front ++ rest = sym (drop-drop 1 s.given (reader_buffer s.reader)) ∙ ap (drop 1) is in
      let more : (s.given + 1) + length front ≡ s.given + length (byte ∷ front) = omega arith in
      let unknown = reader_capacity s.reader == 0 in
      let came = consumes_first unknown (held_bytes s) byte (held_bytes (given_more s 1)) (remaining (reader_inner s.reader)) (is ∙ ap (λ l. byte ∷ l) (sym next)) in
      (given_more s 1, (came, tt), subst (λ (n : ℕ). GivesBytes (buffered_left remaining) (λ _ _ _. ⊤) (given_more s 1) front (record { reader = s.reader; given = n })) more (gives_bytes_front (given_more s 1) front rest next))

  pub gives_bytes_held : (s : Buffered R) (n : ℕ) → n ≤ length (held_bytes s) → GivesBytes (buffered_left remaining) (λ _ _ _. ⊤) s (take n (held_bytes s)) (given_more s n)
  gives_bytes_held s n l =
      let long : length (take n (held_bytes s)) ≡ n = omega (arith, length-take n (held_bytes s)) in
      subst (λ (k : ℕ). GivesBytes (buffered_left remaining) (λ _ _ _. ⊤) s (take n (held_bytes s)) (given_more s k)) long (gives_bytes_front s (take n (held_bytes s)) (drop n (held_bytes s)) (sym (take-append-drop n (held_bytes s))))

-- ---- a reader that is lent

-- the same reference, which this stands under
abbrev pub lent_with_reader : {R : Type 0} → Lent R → R → Lent R
lent_with_reader s q = record { reader = record s.reader { now = q } }

module _ {R : Type 0} (left : R → Option (List ℕ)) (stays : Bool → R → R → Type 0) where
  pub gives_bytes_lent : (s : Lent R) (bytes : List ℕ) (q : R) → GivesBytes left stays s.reader.now bytes q → GivesBytes {R = Lent R} (λ t. left t.reader.now) (λ failed t u. (u.reader.ghost_name ≡ t.reader.ghost_name) × stays failed t.reader.now u.reader.now) s bytes (lent_with_reader s q)
  gives_bytes_lent s [] q h = ap (lent_with_reader s) h
  gives_bytes_lent s (byte ∷ bytes) q h = (lent_with_reader s h.0, (h.1.0, (refl, h.1.1)), gives_bytes_lent (lent_with_reader s h.0) bytes q h.2)

-- ---- bytes in memory

module _ (stays : Bool → Bytes → Bytes → Type 0) (always : (s t : Bytes) → stays false s t) where
  gives_bytes_first : (s t : Bytes) (byte : ℕ) (front rest : List ℕ) → s.bytes.now ≡ (byte ∷ front) ++ rest → t.bytes.now ≡ rest → GivesBytes bytes_left stays s (byte ∷ front) t
  gives_bytes_first s t byte [] rest is after = (t, (is ∙ ap (λ l. byte ∷ l) (sym after), always s t), refl)
  gives_bytes_first s t byte (next ∷ front) rest is after =
      let u : Bytes = record { bytes = record s.bytes { now = (next ∷ front) ++ rest } } in
      (u, (is, always s u), gives_bytes_first u t next front rest refl after)

  gives_bytes_taken : (s t : Bytes) (n : ℕ) → 0 < n → n ≤ length s.bytes.now → t.bytes.now ≡ drop n s.bytes.now → (front : List ℕ) → take n s.bytes.now ≡ front → GivesBytes bytes_left stays s front t
  gives_bytes_taken s t n some l after [] is = let long : length (take n s.bytes.now) ≡ 0 = ap length is in absurd (omega (arith, long, length-take n s.bytes.now))
  gives_bytes_taken s t n some l after (byte ∷ front) is = gives_bytes_first s t byte front (drop n s.bytes.now) (sym (take-append-drop n s.bytes.now) ∙ ap (λ x. x ++ drop n s.bytes.now) is) after

  pub gives_bytes : (s t : Bytes) (n : ℕ) → 0 < n → n ≤ length s.bytes.now → t.bytes.now ≡ drop n s.bytes.now → GivesBytes bytes_left stays s (take n s.bytes.now) t
  gives_bytes s t n some l after = gives_bytes_taken s t n some l after (take n s.bytes.now) refl

-- ---- so many bytes

-- some steps, and then others
pub folds_to_append : {P A : Type 0} (step : P → A → P → Type 0) (xs ys : List A) (p q r : P) → FoldsTo step p xs q → FoldsTo step q ys r → FoldsTo step p (xs ++ ys) r
folds_to_append {P = P} step [] ys p q r e w = subst (λ (z : P). FoldsTo step z ys r) (sym e) w
folds_to_append step (x ∷ xs) ys p q r v w = (v.0, v.1, folds_to_append step xs ys v.0 q r v.2 w)

module _ {R : Type 0} (left : R → Option (List ℕ)) (stays : Bool → R → R → Type 0) where
  -- bytes came after those that were there; of n bytes so many are missing
  pub record Came (r p : R) (old mid : List ℕ) (n room : ℕ) : Type 0 where
    pub more : List ℕ
    pub given : GivesBytes left stays r more p
    pub are : mid ≡ old ++ more
    pub missing : length mid + room ≡ n

  stops_short_after_more : (many more n room : ℕ) (last q : R) (why : Unread) → many + room ≡ n → StopsShort left stays room more last why q → StopsShort left stays n (many + more) last why q
  stops_short_after_more many more n room last q End at h = (let few = h.0 in omega (arith, few, at), h.1)
  stops_short_after_more many more n room last q Failed at h = (let few = h.0 in omega (arith, few, at), h.1)
  stops_short_after_more many more n room last q Memory at h = (let few = h.0 in omega (arith, few, at), h.1)

  -- bytes that came, and then a read that broke off
  pub reads_up_to_broken : {r p : R} {old mid : List ℕ} {n room : ℕ} → Came r p old mid n room → (q : R) (new : List ℕ) (why : Unread) → ReadsSome left stays {U = Unit {0}} p mid room (Err why) new q → ReadsUpTo left stays {U = Unit {0}} r old n (Err why) new q
  reads_up_to_broken {r = r} {p = p} {old = old} {mid = mid} {n = n} {room = room} came q new why h =
      let all : old ++ (came.more ++ h.0) ≡ mid ++ h.0 = sym (append_assoc old came.more h.0) ∙ ap (λ l. l ++ h.0) (sym came.are) in
      let long : length mid + length h.0 ≡ length (old ++ (came.more ++ h.0)) = sym (length-append mid h.0) ∙ ap length (sym all) in
      (came.more ++ h.0, h.1, folds_to_append (GivesByte left stays) came.more h.0 r p h.1 came.given h.2, subst (λ (k : ℕ). StopsShort left stays n k h.1 why q) long (stops_short_after_more (length mid) (length h.0) n room h.1 q why came.missing h.3))
