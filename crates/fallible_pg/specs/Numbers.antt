-- Numbers in bytes.
use Rattle.std.specs.Prelude.{ℕ, ◌+◌, List, [], ◌∷◌, slice_index}
use Rattle.std.specs.Int.{w16, w32, from_be_bytes}

-- the number that the two bytes from a place on write, the greatest byte first
unfoldable pub u16_at : List ℕ → ℕ → ℕ
u16_at bytes place = from_be_bytes w16 (slice_index bytes place ∷ slice_index bytes (place + 1) ∷ [])

-- the number that the four bytes from a place on write
unfoldable pub u32_at : List ℕ → ℕ → ℕ
u32_at bytes place = from_be_bytes w32 (slice_index bytes place ∷ slice_index bytes (place + 1) ∷ slice_index bytes (place + 2) ∷ slice_index bytes (place + 3) ∷ [])
