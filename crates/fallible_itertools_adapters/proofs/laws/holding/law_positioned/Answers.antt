-- A failure is a stop, after which nothing is held.
use Rattle.fallible_itertools_adapters.proofs.Lemmas.Positions.{positioned_of_empty_is_empty, positioned_of_one_is_only, positioned_in_parts, positioned_of_several_is_first_to_last}
use Rattle.fallible_itertools_adapters.proofs.laws.holding.law_positioned.Goals as goal

pub returns-clause-parts : goal.returns-clause-parts
returns-clause-parts g c a e b = positioned_in_parts a e b

pub returns-clause-several : goal.returns-clause-several
returns-clause-several g c x a y = positioned_of_several_is_first_to_last x a y

pub returns-clause-one : goal.returns-clause-one
returns-clause-one g c x = positioned_of_one_is_only x

pub returns-clause-none : goal.returns-clause-none
returns-clause-none g c = positioned_of_empty_is_empty
