-- What is folded are the lines of the groups of the rows' list.
use Rattle.std.specs.Prelude.{Ok, ◌++◌, vec_items}
use Rattle.std.proofs.Common.{rules, refl, ap, ◌∙◌}
use Rattle.fallible_iterator.proofs.Lemmas.Making.{folded_made}
use Rattle.sum_groups.specs.Groups.{group_line, line_of}
use Rattle.sum_groups.proofs.Printing.{line_told, appends_text}
use Rattle.sum_groups.proofs.groups.print_groups.Goals as goal

pub returns : goal.returns
returns c = appends_text group_line _ _ _ (folded_made (λ text x. text ++ group_line x) _ c.try_fold.ensures.folded refl
    (λ d v x y r g bytes same called. (search rules, line_told v d (line_of y.0 (vec_items y.1)) (group_line x) r (search rules) bytes (ap (λ k. line_of k (vec_items y.1)) same.0 ∙ ap (λ rows. line_of x.0 rows) same.1)))
    (λ e fault is. is) (λ e fault refused is. (refused.0, is)) (c.chunk_by.ensures.lists (λ r. Ok r.key) _ (search rules) (c.convert.ensures.items _ (search rules))))
