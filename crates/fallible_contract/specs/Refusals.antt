-- A failed clone.
use Rattle.std.specs.declared.alloc.AllocError.{AllocError}

-- a clone of k may fail to allocate, and e is the failure converted from its `AllocError`
abbrev pub RefusedAs : {S E : Type 0} → (S → Type 0) → (AllocError → E → Type 0) → S → E → Type 0
RefusedAs is_infallible from k e = ¬ (is_infallible k) × ((a : AllocError) × from a e)
