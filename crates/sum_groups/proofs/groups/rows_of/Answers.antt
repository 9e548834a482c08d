-- The lines of the text, each as the row that it is, are what is collected.
use Rattle.std.proofs.Common.{rules, tests, Ok}
use Rattle.std.specs.Str.Lines.{lines}
use Rattle.std.proofs.lemmas.Iterator.{YieldsList-from_map}
use Rattle.std.proofs.lemmas.Iterator.Splits.{YieldsList-from_lines}
use Rattle.sum_groups.specs.Groups.{row_of}
use Rattle.fallible_iterator.proofs.Lemmas.Sources.StdChains.{items_read_mapped}
use Rattle.sum_groups.proofs.groups.rows_of.Goals as goal

pub returns-clause-ok : goal.returns-clause-ok
returns-clause-ok c = c.rows_found.ensures.ok _ (c.convert_fused.ensures.items _ (items_read_mapped _ row_of (lines c.args.text.now) (YieldsList-from_map _ (λ t. Ok (row_of t)) (YieldsList-from_lines c.args.text.now (search rules)) c.map.ensures.closure (λ x r q k. search (rules, tests)))))

pub returns-clause-fault : goal.returns-clause-fault
returns-clause-fault c = c.rows_found.ensures.fault _ (c.convert_fused.ensures.items _ (items_read_mapped _ row_of (lines c.args.text.now) (YieldsList-from_map _ (λ t. Ok (row_of t)) (YieldsList-from_lines c.args.text.now (search rules)) c.map.ensures.closure (λ x r q k. search (rules, tests)))))
