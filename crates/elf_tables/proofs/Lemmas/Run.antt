-- What a report that is written in chunks says of the file whose report it is, where the file has a fault.
use Rattle.std.specs.Prelude.{◌≡◌, ℕ, List, [], ◌++◌, Option, Some, None, Result, Err}
use Rattle.std.proofs.Common.{ap, subst, ◌∙◌, inl, inr, append-nil}
use Rattle.std.specs.Io.KnownBytes.{Appends, append_known}
use Rattle.fallible_elf.specs.Report.{report_of, LeavesWriter, Reports, ReadsFaulty}
use Rattle.fallible_elf.specs.declared.fault.ElfFault.{ElfFault}
use Rattle.program_io.specs.declared.fault.RunFault.{RunFault}
use Rattle.program_io.specs.declared.fault.RunFault.TheVariants.{Input}

-- what was written to a writer for which nothing was held, and what was held is handed on
written_and_handed_on : (a b c : Option (List ℕ)) (none held text : List ℕ) → none ≡ [] → Appends (append_known a none) (append_known b held) text → Appends b c held → Appends a c text
written_and_handed_on None b c none held text empty p q = tt
written_and_handed_on (Some x) None c none held text empty p q = absurd p
written_and_handed_on (Some x) (Some y) None none held text empty p q = absurd q
written_and_handed_on (Some x) (Some y) (Some z) none held text empty p q = q ∙ p ∙ ap (λ l. (x ++ l) ++ text) empty ∙ ap (λ l. l ++ text) (append-nil x)

module _ (unread unread' a b c : Option (List ℕ)) (none held : List ℕ) (empty : none ≡ []) where
  module _ (rest : Appends b c held) where
    handed : (bytes : List ℕ) (f : Option ElfFault) → Reports bytes f (append_known a none) (append_known b held) → Reports bytes f a c
    handed bytes f r = (r.0, written_and_handed_on a b c none held (report_of bytes) empty r.1 rest)

    -- the report of a file with a fault
    pub reported_faulty : (f : ElfFault) → ReadsFaulty unread unread' f (append_known a none) (append_known b held) → ReadsFaulty unread unread' f a c
    reported_faulty f read = elim read [
      | inl all ↦ inl (all.0, all.1, all.2, (all.3.0, handed all.0 (Some f) all.3.1))
      | inr head ↦ inr (
        head.0,
        head.1,
        head.2,
        elim head.3 [
          | inl whole ↦ inl (whole.0, (whole.1.0, handed head.0 (Some f) whole.1.1))
          | inr begun ↦ inr (λ more. ((begun more).0, handed (head.0 ++ more) (Some f) (begun more).1))
        ],
      )
    ]

-- where something is held at a fault, that was written of a file that has sections
pub sections_where_held : {W : Type 0} (P : Type 0) (w w' : W) (held : W → List ℕ) (r : Result (Unit {0}) (RunFault ElfFault)) (f : ElfFault) → r ≡ Err (Input f) → LeavesWriter P w w' r → held w ≡ [] → (held w' ≡ [] → ⊥) → P
sections_where_held P w w' held r f is leaves empty some = elim (subst (LeavesWriter P w w') is leaves) [
  | inl same ↦ absurd (some (ap held same ∙ empty))
  | inr has ↦ has
]
