-- What a call that joins two sources has made: both sides, fused, of which nothing is drawn.
use Rattle.std.specs.Prelude.{◌≡◌, false}
use Rattle.fallible_iterator.specs.Fuse.{Fuse}
use Rattle.fallible_itertools_joins.specs.Sides.{left_ended, left_source, right_ended, right_source}

-- The left side is s, and the right side what `other` becomes. The end of neither was met, and the state is t.
abbrev pub BothBegun : {T U I X : Type 0} → T → (I → U → Type 0) → I → X → Fuse T × Fuse U × X → Type 0
BothBegun s becomes other t p = (left_source p ≡ s) × (left_ended p ≡ false) × becomes other (right_source p) × (right_ended p ≡ false) × (p.2 ≡ t)
