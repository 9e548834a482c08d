-- Lemmas on what is written of cells.
use Rattle.std.proofs.Common.{◌≡◌, ℕ, List, [], ◌∷◌, ◌++◌, Option, Some, None, Result, Ok, Err, refl, sym, ap, subst, ◌∙◌}
use Rattle.std.specs.Prelude.{OnOk}
use Rattle.std.specs.Borrow.{Bor}
use Rattle.std.specs.Io.KnownBytes.{Appends}
use Rattle.std.proofs.KnownBytes.{Appends-trans, Appends-nil}
use Rattle.fallible_pg.specs.Cells.{cells_from, IsCell, TakesCell}
use Rattle.fallible_pg.specs.Text.{Form, field_text, cell_text, separator, further_text, cells_text, drawn_text}
use Rattle.fallible_pg.specs.declared.fault.Damage.{Damage}

abbrev Shown : Type 0
Shown = List (Result (Option (List ℕ)) Damage)

module _ (form : Form) where
  text_of_cell : (cell : Option (List ℕ)) (o : Option (Bor (List ℕ))) → IsCell cell o → drawn_text form o ≡ cell_text form cell
  text_of_cell None None h = refl
  text_of_cell (Some bytes) (Some slice) h = ap (field_text form) h
  text_of_cell None (Some slice) h = absurd h
  text_of_cell (Some bytes) None h = absurd h

  pub further_text_at_item : (cells rest : Shown) (o : Option (Bor (List ℕ))) → TakesCell cells (Ok (Some o)) rest → further_text form cells ≡ separator form ∷ drawn_text form o ++ further_text form rest
  further_text_at_item [] rest o h = absurd (let e = h.0 in cc)
  further_text_at_item (Ok cell ∷ cells) rest o h = ap (λ l. separator form ∷ l ++ further_text form cells) (sym (text_of_cell cell o h.0)) ∙ ap (λ l. separator form ∷ drawn_text form o ++ further_text form l) (sym h.1)
  further_text_at_item (Err damage ∷ cells) rest o h = absurd (let e = h.0 in cc)

  pub further_end : (cells rest : Shown) → TakesCell cells (Ok None) rest → further_text form cells ≡ 10 ∷ []
  further_end [] rest h = refl
  further_end (Ok cell ∷ cells) rest h = absurd h.0
  further_end (Err damage ∷ cells) rest h = refl

  pub further_failure : (cells rest : Shown) (damage : Damage) → TakesCell cells (Err damage) rest → further_text form cells ≡ 10 ∷ []
  further_failure [] rest damage h = refl
  further_failure (Ok cell ∷ cells) rest damage h = absurd h.0
  further_failure (Err d ∷ cells) rest damage h = refl

  pub further_none : (k : ℕ) (bytes : List ℕ) → k ≡ 0 → further_text form (cells_from k bytes) ≡ 10 ∷ []
  unfolding cells_from
  further_none k [] none = rw none refl
  further_none k (b ∷ bs) none = rw none refl

  pub first_item : (cells rest : Shown) (o : Option (Bor (List ℕ))) → TakesCell cells (Ok (Some o)) rest → cells_text form cells ≡ drawn_text form o ++ further_text form rest
  first_item [] rest o h = absurd (let e = h.0 in cc)
  first_item (Ok cell ∷ cells) rest o h = ap (λ l. l ++ further_text form cells) (sym (text_of_cell cell o h.0)) ∙ ap (λ l. drawn_text form o ++ further_text form l) (sym h.1)
  first_item (Err damage ∷ cells) rest o h = absurd (let e = h.0 in cc)

  pub first_end : (cells rest : Shown) → TakesCell cells (Ok None) rest → cells_text form cells ≡ []
  first_end [] rest h = refl
  first_end (Ok cell ∷ cells) rest h = absurd h.0
  first_end (Err damage ∷ cells) rest h = refl

  pub first_failure : (cells rest : Shown) (damage : Damage) → TakesCell cells (Err damage) rest → cells_text form cells ≡ []
  first_failure [] rest damage h = refl
  first_failure (Ok cell ∷ cells) rest damage h = absurd h.0
  first_failure (Err d ∷ cells) rest damage h = refl

-- what was written, and then the last of the text
pub appends_rest : {all : List ℕ} (a b c : Option (List ℕ)) (text last : List ℕ) → Appends a b text → all ≡ text ++ last → Appends b c last → Appends a c all
appends_rest a b c text last before is after = subst (Appends a c) (sym is) (Appends-trans a b c text last before after)

pub appends_none : (a : Option (List ℕ)) (all : List ℕ) → all ≡ [] → Appends a a all
appends_none a all is = subst (Appends a a) (sym is) (Appends-nil a)

pub on_ok_then : {A E : Type 0} (P Q : Type 0) (r : Result A E) → (P → Q) → OnOk r P → OnOk r Q
on_ok_then P Q (Ok x) f h = f h
on_ok_then P Q (Err e) f h = tt
