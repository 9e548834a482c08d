-- Lines that are written one after the other.
use Rattle.std.specs.Prelude.{◌≡◌, ℕ, ◌+◌, List, [], ◌∷◌, ◌++◌, length, decimal, Option, Result, Ok, Err, OnOk}
use Rattle.std.proofs.Common.{sym, ap, subst, ◌∙◌, append_assoc, append-nil}
use Rattle.std.proofs.KnownBytes.{Appends-trans}
use Rattle.std.specs.Borrow.{Bor}
use Rattle.std.specs.Io.KnownBytes.{Appends}
use Rattle.fallible_iterator.specs.Lists.{collected, mapped, numbered}
use Rattle.fallible_elf.proofs.Lemmas.Count.{collected_after}
use Rattle.fallible_elf.specs.Text.{section_line, lines_of, lines_from, table_text}
use Rattle.fallible_elf.specs.declared.fault.ElfFault.{ElfFault}
use Rattle.fallible_elf.specs.declared.lines.Numbered.{Numbered}
use Rattle.fallible_elf.specs.declared.section.Section.{Section}

-- one line more
pub lines_of_more : {A : Type 0} (line : A → List ℕ) (text : List ℕ) (x : A) (l : List (Result A ElfFault)) → text ++ lines_of line (Ok x ∷ l) ≡ (text ++ line x) ++ lines_of line l
unfolding lines_of
lines_of_more line text x l = sym (append_assoc text (line x) (lines_of line l))

-- none more at the end, or at a failure
pub no_lines : {A : Type 0} (line : A → List ℕ) (text : List ℕ) → text ≡ text ++ lines_of line []
unfolding lines_of
no_lines line text = sym (append-nil text)

pub no_lines_at_failure : {A : Type 0} (line : A → List ℕ) (text : List ℕ) (f : ElfFault) (l : List (Result A ElfFault)) → text ≡ text ++ lines_of line (Err f ∷ l)
unfolding lines_of
no_lines_at_failure line text f l = sym (append-nil text)

-- a last text, where it was written, by what both texts make
pub on_ok_last : {T E : Type 0} (r : Result T E) (old mid new : Option (List ℕ)) (text last all : List ℕ) → Appends old mid text → OnOk r (Appends mid new last) → all ≡ text ++ last → OnOk r (Appends old new all)
on_ok_last (Ok done) old mid new text last all p q is = subst (Appends old new) (sym is) (Appends-trans old mid new text last p q)
on_ok_last (Err e) old mid new text last all p q is = tt

-- the lines of a list without a failure
pub lines_of_collected : {A : Type 0} (line : A → List ℕ) (l : List (Result A ElfFault)) (xs : List A) (n : ℕ) → collected l ≡ Ok xs → lines_of line l ≡ lines_from (λ _. line) n xs
unfolding lines_of collected
lines_of_collected line [] xs n e = let none : [] ≡ xs = cc in ap (lines_from (λ _. line) n) none
lines_of_collected line (Ok x ∷ l) xs n e =
    let after = collected_after x (collected l) xs e in
    ap (λ t. line x ++ t) (lines_of_collected line l after.0 (n + 1) after.1) ∙ ap (lines_from (λ _. line) n) (sym after.2)
lines_of_collected line (Err f ∷ l) xs n e = absurd (cc)

-- the line of a section with its number
abbrev pub numbered_line : Numbered → List ℕ
numbered_line s = section_line s.file.now s.number s.section

-- a section of a file with its number
abbrev pub number_in : Bor (List ℕ) → ℕ × Section → Result Numbered ElfFault
number_in file p = Ok (record { file = file; number = p.0; section = p.1 })

pub lines_of_numbered : (file : Bor (List ℕ)) (l : List (Result Section ElfFault)) (xs : List Section) (n : ℕ) → collected l ≡ Ok xs → lines_of numbered_line (mapped (number_in file) (numbered n l)) ≡ lines_from (section_line file.now) n xs
unfolding lines_of collected mapped numbered
lines_of_numbered file [] xs n e = let none : [] ≡ xs = cc in ap (lines_from (section_line file.now) n) none
lines_of_numbered file (Ok s ∷ l) xs n e =
    let after = collected_after s (collected l) xs e in
    ap (λ t. section_line file.now n s ++ t) (lines_of_numbered file l after.0 (n + 1) after.1) ∙ ap (lines_from (section_line file.now) n) (sym after.2)
lines_of_numbered file (Err f ∷ l) xs n e = absurd (cc)

-- ---- tables

-- a count, and the lines after it
pub count_and_lines : (word : List ℕ) (count n : ℕ) (a b : List ℕ) → count ≡ n → a ≡ b → (word ++ decimal count ++ 10 ∷ []) ++ a ≡ word ++ decimal n ++ 10 ∷ b
count_and_lines word count n a b same lines = append_assoc (word ++ decimal count) (10 ∷ []) a ∙ ap (λ k. word ++ decimal k ++ 10 ∷ a) same ∙ ap (λ t. word ++ decimal n ++ 10 ∷ t) lines

pub table_of_lines : {A : Type 0} (word : List ℕ) (line : A → List ℕ) (l l' : List (Result A ElfFault)) (count : ℕ) → l ≡ l' → (xs : List A) → collected l' ≡ Ok xs → count ≡ length xs → (word ++ decimal count ++ 10 ∷ []) ++ lines_of line l ≡ table_text word (λ _. line) xs
table_of_lines word line l l' count same xs e n = count_and_lines word count (length xs) (lines_of line l) (lines_from (λ _. line) 0 xs) n (ap (lines_of line) same ∙ lines_of_collected line l' xs 0 e)

-- what was written after a count, where it was written
pub on_ok_table : {T E A B : Type 0} (r : Result T E) (IsListed : List (Result B ElfFault) → Type 0) (line : B → List ℕ) (front : List ℕ) (Is Has : List A → Type 0) (table : List A → List ℕ) (l : List (Result B ElfFault)) (old mid new : Option (List ℕ)) → ((xs : List A) → Is xs → Has xs → front ++ lines_of line l ≡ table xs) → IsListed l → Appends old mid front → OnOk r ((k : List (Result B ElfFault)) → IsListed k → Appends mid new (lines_of line k)) → OnOk r ((xs : List A) → Is xs → Has xs → Appends old new (table xs))
on_ok_table (Ok done) IsListed line front Is Has table l old mid new same lists p q = λ xs is has. subst (Appends old new) (same xs is has) (Appends-trans old mid new front (lines_of line l) p (q l lists))
on_ok_table (Err e) IsListed line front Is Has table l old mid new same lists p q = tt
