-- Where items stand.
use Rattle.std.specs.Prelude.{ℕ, Bool, true, false, nat_lt, ◌&&◌}
use Rattle.fallible_itertools.specs.AdapterTypes.positions.Position.{Position}
use Rattle.fallible_itertools.specs.AdapterTypes.positions.Position.TheVariants.{First, Middle, Last, Only}

-- whether another item comes after the one of that position
abbrev pub comes_before_another : Position → Bool
comes_before_another First = true
comes_before_another Middle = true
comes_before_another Last = false
comes_before_another Only = false

-- whether the middle of three items, which are given as two pairs that share it, is above both others
abbrev pub is_above_both : (ℕ × ℕ) × (ℕ × ℕ) → Bool
is_above_both w = nat_lt w.0.0 w.0.1 && nat_lt w.1.1 w.0.1
