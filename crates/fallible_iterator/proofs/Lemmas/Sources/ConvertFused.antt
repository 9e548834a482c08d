-- `convert` of a std iterator's `fuse` is fused: after the first `None` each call returns one.
use Rattle.std.specs.Prelude.{◌≡◌, Bool, true, false, MatchBool, MatchOption, Option, Some, None, Result, Ok, Err, List, [], ◌∷◌, map}
use Rattle.std.specs.Iterator.{Count}
use Rattle.std.proofs.Common.{sym, ap, subst}
use Rattle.fallible_contract.specs.Traces.{Answered, Run, end}
use Rattle.fallible_contract.specs.Contract.{parts_as}
use Rattle.fallible_contract.specs.Lists.{GivesForGood, ListsForGood, RunsRead, results, items, result_answer}
use Rattle.fallible_contract.proofs.Lemmas.Lists.ForGood.{lists_for_good_seen}
use Rattle.fallible_iterator.specs.Sources.Std.{std_step, std_element}
use Rattle.fallible_iterator.specs.Sources.Convert.{convert_parts, convert_contract}
use Rattle.fallible_iterator.proofs.Lemmas.Sources.Std.{gives_read, answer_is_first_and_rest_is_read}
use Rattle.fallible_iterator.specs.Laws.Sources.Listed.{answer_of_first_result, answer_is_end_where_no_element, map_id_is_results, map_is_items}
use Rattle.fallible_iterator.specs.declared.sources.convert.Convert.{Convert}

-- What a std `Fuse` yields, where `iter` is its iterator and `done` says that a `None` came: `fuse_steps` of std, whose struct can't be named here.
module _ {S V Z : Type 0} (iter : V → S) (done : V → Bool) (raw : S → Option Z → S → Type 0) where
  abbrev pub fused : V → Option Z → V → Type 0
  fused s o t = MatchBool (done s) (o ≡ None) (raw (iter s) o (iter t)) × MatchOption o (done t ≡ true) (λ _. done t ≡ false)

  answers_none_where_done : (s t : V) (o : Option Z) → done s ≡ true → fused s o t → o ≡ None
  answers_none_where_done s t o is w = subst (λ (b : Bool). MatchBool b (o ≡ None) (raw (iter s) o (iter t))) is w.0

  done_at_none : (s t : V) (o : Option Z) → o ≡ None → fused s o t → done t ≡ true
  done_at_none s t o e w = subst (λ (p : Option Z). MatchOption p (done t ≡ true) (λ _. done t ≡ false)) e w.1

module _ {S V A E : Type 0} (iter : V → S) (done : V → Bool) (can : V → Type 0) (raw : S → Option (Result A E) → S → Type 0) (remaining : V → Count) where
  abbrev GivesInConvertFused : V → Option (Result A E) → V → Type 0
  GivesInConvertFused = fused iter done raw

  abbrev StepOfConvertFused : V → Answered A E → V → Type 0
  StepOfConvertFused = std_step Ok Err can GivesInConvertFused remaining

  ends_where_done : (trace : List (Answered A E)) (s t u : V) (r : Answered A E) → done s ≡ true → Run StepOfConvertFused s trace t → StepOfConvertFused t r u → r ≡ end
  ends_where_done [] s t u r is ran w = answer_is_end_where_no_element r (answers_none_where_done iter done raw t u (std_element Ok Err r) (subst (λ (q : V). done q ≡ true) ran is) w.0)
  ends_where_done (y ∷ trace) s t u r is ran w =
      let first = ran.1.0 in
      ends_where_done trace ran.0 t u r (done_at_none iter done raw s ran.0 (std_element Ok Err y) (answers_none_where_done iter done raw s ran.0 (std_element Ok Err y) is first) first) ran.2 w

  module _ {X : Type 0} (h : X → Result A E) (to : X → Result A E) (back : (r : Answered A E) (x : X) → std_element {A = A} {E = E} Ok Err r ≡ Some (h x) → r ≡ result_answer (to x)) where
    ends_where_nothing_is_read : (trace : List (Answered A E)) (s t u : V) (r : Answered A E) → RunsRead GivesInConvertFused h s [] → Run StepOfConvertFused s trace t → StepOfConvertFused t r u → r ≡ end
    ends_where_nothing_is_read [] s t u r reads ran w = gives_read Ok Err can GivesInConvertFused remaining h to back [] s reads r u (subst (λ (q : V). StepOfConvertFused q r u) (sym ran) w)
    ends_where_nothing_is_read (y ∷ trace) s t u r reads ran w =
        let is_end = gives_read Ok Err can GivesInConvertFused remaining h to back [] s reads y ran.0 ran.1 in
        ends_where_done trace ran.0 t u r (done_at_none iter done raw s ran.0 (std_element Ok Err y) (ap (std_element Ok Err) is_end) ran.1.0) ran.2 w

    gives_for_good_read : (l : List X) (s : V) → RunsRead GivesInConvertFused h s l → GivesForGood StepOfConvertFused s (map to l)
    gives_for_good_read [] s reads = record { each = λ trace t u r ran w. ends_where_nothing_is_read trace s t u r reads ran w }
    gives_for_good_read (x ∷ l) s reads = λ r t w. let d = answer_is_first_and_rest_is_read Ok Err can GivesInConvertFused remaining h to back r s t x l reads w.0 in (d.0, gives_for_good_read l t d.1)

  module _ (s : Convert (V)) {it : V} (at : convert_parts s ≡ it) where
    pub lists_for_good_results : (l : List (Result A E)) → RunsRead GivesInConvertFused (λ y. y) it l → ListsForGood (parts_as convert_parts (convert_contract can GivesInConvertFused remaining)).steps s (results l)
    lists_for_good_results l reads = lists_for_good_seen convert_parts (convert_contract can GivesInConvertFused remaining).steps s at (map_id_is_results l) (gives_for_good_read (λ y. y) (λ y. y) answer_of_first_result l it reads)

    pub lists_for_good_items : (l : List A) → RunsRead GivesInConvertFused Ok it l → ListsForGood (parts_as convert_parts (convert_contract can GivesInConvertFused remaining)).steps s (items l)
    lists_for_good_items l reads = lists_for_good_seen convert_parts (convert_contract can GivesInConvertFused remaining).steps s at (map_is_items l) (gives_for_good_read Ok (λ x. Ok x) (λ r x e. answer_of_first_result r (Ok x) e) l it reads)
