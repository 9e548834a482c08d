-- Checked totals: the folds that they are, and what they make of a list.
use Rattle.std.specs.Prelude.{◌≡◌, Option, Some, None, Result, Ok, Err, List, [], ◌∷◌, ◌++◌, map}
use Rattle.std.specs.List.{FoldsTo}
use Rattle.std.proofs.Common.{sym, ap, ◌∙◌}
use Rattle.fallible_iterator.specs.Traces.{Answered}
use Rattle.fallible_iterator.specs.Folds.{DriveExit, Driven}
use Rattle.fallible_iterator.specs.Lists.{Lists}
use Rattle.fallible_iterator.proofs.Lemmas.Folds.{drained_by_implication}
use Rattle.fallible_iterator.proofs.Lemmas.Lists.Drawn.{RestAt, drawn_of_lists}
use Rattle.fallible_itertools.specs.CheckedSum.{Grows, IsTotalTurn, TotalExit, TotalDrains, total_by, on_total, totalled}

module _ {N E : Type 0} (op : N → N → Option N) where
  total_exit_of_drive_exit : (last : Answered N E) (t u : N) (answer : Answered (Unit {0}) E) (r : Result (Option N) E) → DriveExit (IsTotalTurn op) t last answer u → r ≡ total_by u answer → TotalExit op t last r
  total_exit_of_drive_exit (Ok None) t u answer r h by = by ∙ ap (total_by u) h.0 ∙ ap (λ (k : N). Ok (Some k)) h.1
  total_exit_of_drive_exit (Ok (Some x)) t u answer r h by = (h.1, by ∙ ap (total_by u) h.2)
  total_exit_of_drive_exit (Err e) t u answer r h by = by ∙ ap (total_by u) h.0

  -- the fold that stops where the total doesn't fit is the total
  pub total_drains_by_fold : {S : Type 0} {steps : S → Answered N E → S → Type 0} {s t : S} {start u : N} {answer : Answered (Unit {0}) E} {r : Result (Option N) E} → Driven steps (IsTotalTurn op) s start answer t u → r ≡ total_by u answer → TotalDrains op steps start s r
  total_drains_by_fold {t = t} {u = u} {answer = answer} {r = r} w by = (t, drained_by_implication (λ items last d. record { total = d.carried; went = d.went; exit = total_exit_of_drive_exit last d.carried u answer r d.exit by }) w)

  totalled_after_items : (items : List N) (rest : List (Result N E)) (t u : N) → FoldsTo (Grows op) t items u → totalled op t (map (λ x. Ok x) items ++ rest) ≡ totalled op u rest
  unfolding totalled
  totalled_after_items [] rest t u e = ap (λ (k : N). totalled op k rest) e
  totalled_after_items (x ∷ items) rest t u w = ap (λ (o : Option N). on_total o (λ v. totalled op v (map (λ x. Ok x) items ++ rest))) w.1 ∙ totalled_after_items items rest w.0 u w.2

  answer_is_totalled_of_rest_at_exit : (last : Answered N E) (t : N) (r : Result (Option N) E) (rest : List (Result N E)) → TotalExit op t last r → RestAt last rest → r ≡ totalled op t rest
  unfolding totalled
  answer_is_totalled_of_rest_at_exit (Ok None) t r rest exit left = exit ∙ sym (ap (totalled op t) left)
  answer_is_totalled_of_rest_at_exit (Ok (Some x)) t r rest exit left = exit.1 ∙ ap (λ (o : Option N). on_total o (λ v. totalled op v left.0)) (sym exit.0) ∙ sym (ap (totalled op t) left.1)
  answer_is_totalled_of_rest_at_exit (Err e) t r rest exit left = exit ∙ sym (ap (totalled op t) left.1)

  pub totalled_of_lists : {S : Type 0} {steps : S → Answered N E → S → Type 0} {s : S} {start : N} {r : Result (Option N) E} (l : List (Result N E)) → TotalDrains op steps start s r → Lists steps s l → r ≡ totalled op start l
  totalled_of_lists {steps = steps} {s = s} {start = start} {r = r} l c i =
      let w = c.1 in
      let d = drawn_of_lists steps w.items w.last l s c.0 i.runs w.ran in
      answer_is_totalled_of_rest_at_exit w.last w.at.total r d.rest w.at.exit d.rest_is ∙ sym (ap (totalled op start) d.list_is ∙ totalled_after_items w.items d.rest start w.at.total w.at.went)
