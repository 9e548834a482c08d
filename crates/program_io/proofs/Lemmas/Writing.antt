-- Texts that are written one after the other.
use Rattle.std.specs.Prelude.{ℕ, List, ◌++◌, Option, Result, Ok, Err, OnOk}
use Rattle.std.proofs.KnownBytes.{Appends-trans}
use Rattle.std.specs.Io.KnownBytes.{Appends}

-- a last text, after those that were written
pub on_ok_appends_last : {T E : Type 0} (r : Result T E) (old between new : Option (List ℕ)) (text last : List ℕ) → Appends old between text → OnOk r (Appends between new last) → OnOk r (Appends old new (text ++ last))
on_ok_appends_last (Ok x) old between new text last p q = Appends-trans old between new text last p q
on_ok_appends_last (Err e) old between new text last p q = tt
