-- Each column lists its texts.
use Rattle.std.specs.Prelude.{Ok, length, nat_eq}
use Rattle.std.proofs.Common.{rules}
use Rattle.example_chains.proofs.computing.same_lengths.Goals as goal

pub returns : goal.returns
returns c = c.count.ensures.value _ (c.filter.ensures.lists (λ p. Ok (nat_eq (length p.0.now) (length p.1.now))) _ (search rules) (c.zip.ensures.items _ (search rules) _ (λ right same. rw same (c.convert-2.ensures.items _ (search rules)))))
