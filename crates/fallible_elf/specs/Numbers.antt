-- Numbers in bytes.
use Rattle.std.specs.Prelude.{ℕ, ◌+◌, List, [], ◌∷◌, slice_index}
use Rattle.std.specs.Int.{w16, w32, w64, from_le_bytes}

-- the number that the two bytes from a place on write, the least byte first
unfoldable pub u16_at : List ℕ → ℕ → ℕ
u16_at bytes place = from_le_bytes w16 (slice_index bytes place ∷ slice_index bytes (place + 1) ∷ [])

-- the number that the four bytes from a place on write
unfoldable pub u32_at : List ℕ → ℕ → ℕ
u32_at bytes place = from_le_bytes w32 (slice_index bytes place ∷ slice_index bytes (place + 1) ∷ slice_index bytes (place + 2) ∷ slice_index bytes (place + 3) ∷ [])

-- the number that the eight bytes from a place on write
unfoldable pub u64_at : List ℕ → ℕ → ℕ
u64_at bytes place = from_le_bytes w64 (slice_index bytes place ∷ slice_index bytes (place + 1) ∷ slice_index bytes (place + 2) ∷ slice_index bytes (place + 3) ∷ slice_index bytes (place + 4) ∷ slice_index bytes (place + 5) ∷ slice_index bytes (place + 6) ∷ slice_index bytes (place + 7) ∷ [])
