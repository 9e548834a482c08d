-- The fused iterator may be drawn again and again, and reads what the iterator reads, and then no more.
use Rattle.std.specs.Prelude.{Ok, Err}
use Rattle.std.specs.Iterator.Adapters.{fuse_source, fuse_done}
use Rattle.std.proofs.Common.{rules}
use Rattle.fallible_iterator.proofs.Lemmas.Sources.Askable.{is_askable_fused}
use Rattle.fallible_iterator.proofs.Lemmas.Sources.Convert.{lists_items_of, runs_read_items}
use Rattle.fallible_iterator.proofs.Lemmas.Sources.ConvertFused.{lists_for_good_results, lists_for_good_items}
use Rattle.fallible_iterator.proofs.Lemmas.Sources.Std.{runs_read_alike}
use Rattle.fallible_iterator.proofs.sources.making.convert_fused.Goals as goal

pub returns-clause-asks : goal.returns-clause-asks
returns-clause-asks g c = λ can. search (rules, is_askable_fused Ok Err g.I.Iterator.can_next g.I.Iterator.next_gives g.I.Iterator.remaining)

pub returns-clause-results : goal.returns-clause-results
returns-clause-results g c l reads = c.convert.ensures.results l (runs_read_alike g.I.Iterator.next_gives _ (λ y. y) c.args.it _ l c.fuse.ensures.runs reads)

pub returns-clause-items : goal.returns-clause-items
returns-clause-items g c l reads = lists_items_of _ _ _ c.convert.result c.convert.ensures.parts l (runs_read_alike g.I.Iterator.next_gives _ (λ x. Ok x) c.args.it _ l c.fuse.ensures.runs (runs_read_items g.I.Iterator.next_gives _ l reads))

pub returns-clause-results_for_good : goal.returns-clause-results_for_good
returns-clause-results_for_good g c l reads = lists_for_good_results fuse_source fuse_done _ g.I.Iterator.next_gives _ c.convert.result c.convert.ensures.parts l (runs_read_alike g.I.Iterator.next_gives _ (λ y. y) c.args.it _ l c.fuse.ensures.runs reads)

pub returns-clause-items_for_good : goal.returns-clause-items_for_good
returns-clause-items_for_good g c l reads = lists_for_good_items fuse_source fuse_done _ g.I.Iterator.next_gives _ c.convert.result c.convert.ensures.parts l (runs_read_alike g.I.Iterator.next_gives _ (λ x. Ok x) c.args.it _ l c.fuse.ensures.runs (runs_read_items g.I.Iterator.next_gives _ l reads))
