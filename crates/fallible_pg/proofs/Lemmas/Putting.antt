-- Where a text was put of which some bytes were refused.
use Rattle.std.proofs.Common.{◌≡◌, ℕ, List, [], ◌++◌, Option, Result, Ok, Err, sym, ap, subst, ◌∙◌, append_assoc, append-nil}
use Rattle.std.specs.Prelude.{OnErr}
use Rattle.std.specs.Io.KnownBytes.{Appends}
use Rattle.std.proofs.KnownBytes.{Appends-trans, Appends-nil}
use Rattle.fallible_pg.specs.Putting.{StopsWithin}

pub on_err_then : {A E : Type 0} (P Q : Type 0) (r : Result A E) → (P → Q) → OnErr r P → OnErr r Q
on_err_then P Q (Ok x) f h = tt
on_err_then P Q (Err e) f h = f h

pub on_err_known : {A E Q : Type 0} (r : Result A E) → Q → OnErr r Q
on_err_known (Ok x) h = tt
on_err_known (Err e) h = h

module _ {W : Type 0} {written : W → Option (List ℕ)} {refuses : W → List ℕ → W → Type 0} where
  -- all bytes were refused
  pub stops_at_once : {old new : W} (text : List ℕ) → refuses old text new → StopsWithin written refuses old new text
  stops_at_once {old = old} text refused = record { front = []; next = text; rest = []; parts = sym (append-nil text); at = old; wrote = Appends-nil (written old); refused = refused }

  -- within the first of two texts
  pub stops_first : {old new : W} (text more : List ℕ) → StopsWithin written refuses old new text → StopsWithin written refuses old new (text ++ more)
  stops_first text more h = record {
    front = h.front;
    next = h.next;
    rest = h.rest ++ more;
    parts = ap (λ l. l ++ more) h.parts ∙ append_assoc h.front (h.next ++ h.rest) more ∙ ap (λ l. h.front ++ l) (append_assoc h.next h.rest more);
    at = h.at;
    wrote = h.wrote;
    refused = h.refused;
  }

  -- within the second
  pub stops_then : {old middle new : W} (text more : List ℕ) → Appends (written old) (written middle) text → StopsWithin written refuses middle new more → StopsWithin written refuses old new (text ++ more)
  stops_then {old = old} {middle = middle} text more wrote h = record {
    front = text ++ h.front;
    next = h.next;
    rest = h.rest;
    parts = ap (λ l. text ++ l) h.parts ∙ sym (append_assoc text h.front (h.next ++ h.rest));
    at = h.at;
    wrote = Appends-trans (written old) (written middle) (written h.at) text h.front wrote h.wrote;
    refused = h.refused;
  }

  -- within a text that is another one
  pub stops_same : {old new : W} {text all : List ℕ} → all ≡ text → StopsWithin written refuses old new text → StopsWithin written refuses old new all
  stops_same {old = old} {new = new} is = subst (StopsWithin written refuses old new) (sym is)
