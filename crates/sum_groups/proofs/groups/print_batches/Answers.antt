-- What is folded are the lines of the batches of the rows' list.
use Rattle.std.specs.Prelude.{◌++◌, vec_items}
use Rattle.std.proofs.Common.{rules, refl, ap}
use Rattle.fallible_iterator.proofs.Lemmas.Making.{folded_made}
use Rattle.sum_groups.specs.Groups.{batch_line}
use Rattle.sum_groups.proofs.Printing.{line_told, appends_text}
use Rattle.sum_groups.proofs.groups.print_batches.Goals as goal

pub returns : goal.returns
returns c = appends_text batch_line _ _ _ (folded_made (λ text xs. text ++ batch_line xs) _ c.try_fold.ensures.folded refl
    (λ d v xs batch r g bytes same called. (search rules, line_told v d (batch_line (vec_items batch)) (batch_line xs) r (search rules) bytes (ap (λ rows. batch_line rows) same)))
    (λ e fault is. is) (λ e fault refused is. (refused.0, is)) (c.chunks.ensures.lists _ (c.convert.ensures.items _ (search rules))))
