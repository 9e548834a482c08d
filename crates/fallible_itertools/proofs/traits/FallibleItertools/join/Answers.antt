-- The fold whose state is the text makes it.
use Rattle.std.specs.Prelude.{⊤}
use Rattle.std.proofs.Common.{refl}
use Rattle.fallible_iterator.proofs.Lemmas.Lists.Drawn.{collected_of_lists}
use Rattle.fallible_itertools.specs.Join.{JoinedAs}
use Rattle.fallible_itertools.proofs.Lemmas.Contents.{contents_of_collected}
use Rattle.fallible_itertools.proofs.Lemmas.Join.{collects_joined}
use Rattle.fallible_itertools.proofs.traits.FallibleItertools.join.Goals as goal

pub returns-clause-collects : goal.returns-clause-collects
returns-clause-collects g c = collects_joined g.Self.Item.Display.output c.args.separator.now (refl, λ show shows. c.new.ensures.bytes) c.drive-answer.ensures c.gathered.ensures

pub returns-clause-value : goal.returns-clause-value
returns-clause-value g c l i = collected_of_lists (JoinedAs g.Self.Item.Display.output c.args.separator.now) ⊥ (λ _ _. ⊤) _ l (returns-clause-collects g c) i

pub returns-clause-contents : goal.returns-clause-contents
returns-clause-contents g c l i = contents_of_collected (JoinedAs g.Self.Item.Display.output c.args.separator.now) l _ (returns-clause-value g c l i)
