-- The lines of the text, each with its place, are what is read.
use Rattle.std.specs.Prelude.{Ok, Err, length, nat_eq, if◌then◌else◌}
use Rattle.std.specs.List.{enumerate_from}
use Rattle.std.specs.Str.Lines.{lines}
use Rattle.std.proofs.Common.{rules, tests}
use Rattle.std.proofs.lemmas.Iterator.{YieldsList-from_map}
use Rattle.std.proofs.lemmas.Iterator.Consumers.{YieldsList-from_enumerate}
use Rattle.std.proofs.lemmas.Iterator.Splits.{YieldsList-from_lines}
use Rattle.fallible_iterator.proofs.Lemmas.Sources.StdChains.{runs_read_mapped}
use Rattle.example_chains.proofs.placing.number_of_lines.Goals as goal

pub returns : goal.returns
returns c = c.count.ensures.value _ (c.convert_fused.ensures.results _ (runs_read_mapped (λ y. y) (λ p. if nat_eq (length p.1) 0 then Err p.0 else Ok (length p.1)) (enumerate_from 0 (lines c.args.text.now)) (YieldsList-from_map _ (λ p. if nat_eq (length p.1) 0 then Err p.0 else Ok (length p.1)) (YieldsList-from_enumerate (YieldsList-from_lines c.args.text.now (search rules)) (search rules)) c.map.ensures.closure (λ x r q k. search (rules, tests)))))
