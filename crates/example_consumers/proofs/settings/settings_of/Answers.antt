-- The lines of the text, each as the setting that it is, are what is read.
use Rattle.std.proofs.Common.{rules, tests}
use Rattle.std.specs.Str.Lines.{lines}
use Rattle.std.proofs.lemmas.Iterator.{YieldsList-from_map}
use Rattle.std.proofs.lemmas.Iterator.Splits.{YieldsList-from_lines}
use Rattle.fallible_iterator.proofs.Lemmas.Sources.StdChains.{runs_read_mapped}
use Rattle.example_consumers.specs.Settings.{setting_of}
use Rattle.example_consumers.proofs.settings.settings_of.Goals as goal

pub returns : goal.returns
returns c = c.settings_in.ensures _ (c.convert_fused.ensures.results _ (runs_read_mapped (λ y. y) setting_of (lines c.args.text.now) (YieldsList-from_map _ setting_of (YieldsList-from_lines c.args.text.now (search rules)) c.map.ensures.closure (λ x r q k. search (rules, tests)))))
