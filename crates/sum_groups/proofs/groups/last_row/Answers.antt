-- The lines of the text, each as the row that it is, are what is drawn.
use Rattle.std.proofs.Common.{rules, tests, Ok}
use Rattle.std.specs.Str.Lines.{lines}
use Rattle.std.proofs.lemmas.Iterator.{YieldsList-from_map}
use Rattle.std.proofs.lemmas.Iterator.Splits.{YieldsList-from_lines}
use Rattle.sum_groups.specs.Groups.{row_of}
use Rattle.fallible_iterator.proofs.Lemmas.Sources.StdChains.{items_read_mapped}
use Rattle.sum_groups.proofs.groups.last_row.Goals as goal

pub returns : goal.returns
returns c = c.last_found.ensures _ (c.convert_fused.ensures.items _ (items_read_mapped _ row_of (lines c.args.text.now) (YieldsList-from_map _ (λ t. Ok (row_of t)) (YieldsList-from_lines c.args.text.now (search rules)) c.map.ensures.closure (λ x r q k. search (rules, tests)))))
