-- The headers stand one after the other.
use Rattle.fallible_elf.proofs.Lemmas.Section.{headers_by_number}
use Rattle.fallible_elf.proofs.laws.law_headers.Goals as goal

pub returns : goal.returns
returns c = headers_by_number
