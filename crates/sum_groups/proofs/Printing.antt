-- What is written of groups and of batches is their text.
use Rattle.std.proofs.Common.{◌≡◌, ℕ, inl, inr, List, [], ◌∷◌, ◌++◌, Result, Ok, Err, refl, sym, ap, ◌∙◌, append_assoc, append-nil, vec_items}
use Rattle.std.specs.Prelude.{MatchResult}
use Rattle.fallible_iterator.specs.Lists.{folded}
use Rattle.fallible_iterator.specs.Making.{IsToldOrRefused}
use Rattle.sum_groups.specs.Groups.{text_of}
use Rattle.std.specs.declared.vec.Vec.{Vec}
use Rattle.std.specs.declared.alloc.Global.{Global}
use Rattle.std.specs.declared.alloc.AllocError.{AllocError}
use Rattle.program_io.specs.declared.fault.RunFault.{RunFault}
use Rattle.program_io.specs.declared.fault.RunFault.TheVariants.{Memory}
use Rattle.sum_groups.specs.declared.fault.GroupsFault.{GroupsFault}

-- a vector has the bytes
abbrev pub has_bytes : List ℕ → Vec ℕ Global → Type 0
has_bytes bytes v = vec_items v ≡ bytes

-- what a refused request becomes
abbrev pub no_memory : AllocError → RunFault GroupsFault → Type 0
no_memory refused fault = fault ≡ Memory

-- a line was written, or was refused
pub line_told : (v : Vec ℕ Global) (d line text : List ℕ) (r : Result (Vec ℕ Global) (RunFault GroupsFault)) → MatchResult r (λ w. vec_items w ≡ vec_items v ++ line) (λ fault. fault ≡ Memory) → vec_items v ≡ d → line ≡ text → IsToldOrRefused has_bytes no_memory (Ok (d ++ text)) r
line_told v d line text (Ok w) m bytes same = m ∙ ap (λ k. k ++ line) bytes ∙ ap (λ k. d ++ k) same
line_told v d line text (Err e) m bytes same = (record {}, m)

-- where the lines were folded to d, it is the text before them and theirs
text_folded : {A E : Type 0} (line : A → List ℕ) (convert : E → RunFault GroupsFault) (l : List (Result A E)) (a d : List ℕ) → folded convert (λ t x. Ok (t ++ line x)) a l ≡ Ok d → d ≡ a ++ text_of line l
unfolding folded
text_folded line convert [] a d is = let same : a ≡ d = (let e = is in cc) in sym same ∙ sym (append-nil a)
text_folded line convert (Ok x ∷ l) a d is = text_folded line convert l (a ++ line x) d is ∙ append_assoc a (line x) (text_of line l)
text_folded line convert (Err e ∷ l) a d is = absurd (let k = is in cc)

-- where they were not, there was no memory
folded_fails : {A E : Type 0} (line : A → List ℕ) (l : List (Result A E)) (a : List ℕ) (fault : RunFault GroupsFault) → folded (λ e. Memory) (λ t x. Ok (t ++ line x)) a l ≡ Err fault → fault ≡ Memory
unfolding folded
folded_fails line [] a fault is = absurd (let k = is in cc)
folded_fails line (Ok x ∷ l) a fault is = folded_fails line l (a ++ line x) fault is
folded_fails line (Err e ∷ l) a fault is = let same : Memory ≡ fault = (let k = is in cc) in sym same

by_told : (told : Result (List ℕ) (RunFault GroupsFault)) (whole : List ℕ) (r : Result (Vec ℕ Global) (RunFault GroupsFault)) → ((d : List ℕ) → told ≡ Ok d → d ≡ whole) → ((fault : RunFault GroupsFault) → told ≡ Err fault → fault ≡ Memory) → IsToldOrRefused has_bytes no_memory told r → MatchResult r (λ v. vec_items v ≡ whole) (λ fault. fault ≡ Memory)
by_told (Ok d) whole (Ok v) same fails m = m ∙ same d refl
by_told (Err e) whole (Ok v) same fails m = absurd m
by_told (Ok d) whole (Err e) same fails m = m.1
by_told (Err f) whole (Err e) same fails (inl m) = m ∙ fails f refl
by_told (Err f) whole (Err e) same fails (inr m) = m.1

-- what a fold of lines answers is the text, or there was no memory
pub appends_text : {A E : Type 0} (line : A → List ℕ) (l : List (Result A E)) (a : List ℕ) (r : Result (Vec ℕ Global) (RunFault GroupsFault)) → IsToldOrRefused has_bytes no_memory (folded (λ e. Memory) (λ t x. Ok (t ++ line x)) a l) r → MatchResult r (λ v. vec_items v ≡ a ++ text_of line l) (λ fault. fault ≡ Memory)
appends_text line l a r told = by_told (folded (λ e. Memory) (λ t x. Ok (t ++ line x)) a l) (a ++ text_of line l) r (λ d is. text_folded line (λ e. Memory) l a d is) (λ fault is. folded_fails line l a fault is) told
