-- What the bytes of a reader list where no read fails.
use Rattle.std.specs.Prelude.{◌≡◌, ℕ, List, [], ◌∷◌, Option, Some, None, Ok, Err}
use Rattle.std.specs.Io.KnownBytes.{Consumes, IsAtEnd}
use Rattle.std.proofs.Common.{refl, subst}
use Rattle.fallible_iterator.specs.Traces.{Answered, item, end}
use Rattle.fallible_iterator.specs.Lists.{AlwaysGives, items}
use Rattle.fallible_iterator.proofs.Lemmas.WithoutFailure.{ok_steps, ListsWhereOk}
use Rattle.example_by_hand.specs.Reading.{DrawsByte}

-- what is left of known bytes once one of them is drawn, and once an end is
bytes_after_first : (bytes : List ℕ) (left : Option (List ℕ)) (byte : ℕ) → Consumes (Some bytes) left (byte ∷ []) → (rest : List ℕ) × (bytes ≡ byte ∷ rest) × (left ≡ Some rest)
bytes_after_first bytes None byte h = absurd h
bytes_after_first bytes (Some rest) byte h = (rest, h, refl)

bytes_are_nil : (bytes : List ℕ) (left : Option (List ℕ)) → Consumes (Some bytes) left [] → IsAtEnd left → bytes ≡ []
bytes_are_nil bytes None h end_of_no_bytes = absurd h
bytes_are_nil bytes (Some rest) h end_of_no_bytes = cc

module _ {V R E : Type 0} (left : R → Option (List ℕ)) (reader : V → R) where
  abbrev steps_of_known_bytes : V → Answered ℕ E → V → Type 0
  steps_of_known_bytes s r t = DrawsByte left (reader s) r (reader t)

  end_of_no_bytes : (s : V) → left (reader s) ≡ Some [] → (r : Answered ℕ E) (t : V) → ok_steps steps_of_known_bytes s r t → r ≡ end
  end_of_no_bytes s known (Ok None) t w = refl
  end_of_no_bytes s known (Ok (Some byte)) t w = absurd (let d = bytes_after_first [] (left (reader t)) byte (subst (λ (o : Option (List ℕ)). Consumes o (left (reader t)) (byte ∷ [])) known w.0) in let is : [] ≡ byte ∷ d.0 = d.1 in cc)
  end_of_no_bytes s known (Err e) t w = absurd (let failed = w.1 in cc)

  item_of_first_byte : (x : ℕ) (bytes : List ℕ) (s : V) → left (reader s) ≡ Some (x ∷ bytes) → (r : Answered ℕ E) (t : V) → ok_steps steps_of_known_bytes s r t → (r ≡ item x) × (left (reader t) ≡ Some bytes)
  item_of_first_byte x bytes s known (Ok None) t w = absurd (let is : x ∷ bytes ≡ [] = bytes_are_nil (x ∷ bytes) (left (reader t)) (subst (λ (o : Option (List ℕ)). Consumes o (left (reader t)) []) known w.0.0) w.0.1 in cc)
  item_of_first_byte x bytes s known (Ok (Some byte)) t w =
      let d = bytes_after_first (x ∷ bytes) (left (reader t)) byte (subst (λ (o : Option (List ℕ)). Consumes o (left (reader t)) (byte ∷ [])) known w.0) in
      let is : x ∷ bytes ≡ byte ∷ d.0 = d.1 in
      (cc, (let at = d.2 in cc))
  item_of_first_byte x bytes s known (Err e) t w = absurd (let failed = w.1 in cc)

module _ {V R : Type 0} (E : Type 0) (left : R → Option (List ℕ)) (reader : V → R) where
  always_gives_bytes : (bytes : List ℕ) (s : V) → left (reader s) ≡ Some bytes → AlwaysGives {A = ℕ} {E = E} (ok_steps (λ u r v. DrawsByte left (reader u) r (reader v))) s (items bytes)
  unfolding items
  always_gives_bytes [] s known = end_of_no_bytes left reader s known
  always_gives_bytes (x ∷ bytes) s known = λ r t w. let d = item_of_first_byte left reader x bytes s known r t w in (d.0, always_gives_bytes bytes t d.1)

-- where its bytes are known, a source that draws the bytes of a reader lists them, where no read fails
pub lists_where_ok_bytes : {V R E : Type 0} (left : R → Option (List ℕ)) (reader : V → R) {s : V} {bytes : List ℕ} → left (reader s) ≡ Some bytes → ListsWhereOk {A = ℕ} {E = E} (λ u r v. DrawsByte left (reader u) r (reader v)) s (items bytes)
lists_where_ok_bytes {E = E} left reader {s = s} {bytes = bytes} known = record { runs = always_gives_bytes E left reader bytes s known }
