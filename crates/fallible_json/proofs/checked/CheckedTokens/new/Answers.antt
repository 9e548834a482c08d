-- They list the checked tokens of what the bytes list.
use Rattle.std.proofs.Common.{Some, ap, reverse}
use Rattle.fallible_iterator.specs.Contract.{parts_as}
use Rattle.fallible_iterator.specs.Peeking.Peekable.{peekable_contract, peekable_parts}
use Rattle.fallible_json.specs.Checked.{state_unless}
use Rattle.fallible_json.specs.Grammar.{begin}
use Rattle.fallible_json.specs.declared.grammar.Expects.TheVariants.{Value}
use Rattle.fallible_json.proofs.Lemmas.Checked.{lists_checked}
use Rattle.fallible_json.proofs.checked.CheckedTokens.new.Goals as goal

pub returns : goal.returns
returns g c = record { lists = λ l i. lists_checked (λ s. s.ahead) (λ s. state_unless s.over s.nesting) (parts_as peekable_parts (peekable_contract g.I.FallibleIterator.contract)) _ begin (ap (λ k. Some (reverse k, Value)) c.new.ensures.items) l (c.peekable.ensures.lists l i) }
