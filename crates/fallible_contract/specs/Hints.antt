-- What the adapters make of their sources' hints.
use Rattle.std.specs.Prelude.{◌≡◌, ℕ, ◌+◌, ◌-◌, ◌^◌, min, cond, ltb, Option, Some, None, zero, suc, option_map, ◌/◌, leb, ◌<◌, SomeIff, MatchOption}
use Rattle.fallible_contract.specs.Contract.{Contract}

-- the sum of two bounds, where it fits a `usize`
abbrev pub fitting_sum : Option ℕ → Option ℕ → Option ℕ
fitting_sum (Some x) (Some y) = cond (ltb (x + y) (2 ^ 64)) (Some (x + y)) None
fitting_sum (Some x) None = None
fitting_sum None y = None

-- The sums of the bounds. The lower one is at most `usize::MAX`; there is no upper one where either is missing or the sum doesn't fit.
abbrev pub hint_sum : ℕ × Option ℕ → ℕ × Option ℕ → ℕ × Option ℕ
hint_sum g h = (min (g.0 + h.0) (2 ^ 64 - 1), fitting_sum g.1 h.1)

-- the smaller of each bound and n
abbrev pub hint_up_to : ℕ → ℕ × Option ℕ → ℕ × Option ℕ
hint_up_to n h = (min h.0 n, option_map (λ u. min u n) h.1)

-- The greatest lower bound and no upper one if the kept source has an item for certain, and otherwise nothing.
abbrev pub cycle_hint : ℕ × Option ℕ → ℕ × Option ℕ
cycle_hint (zero, high) = (0, None)
cycle_hint (suc low, high) = (2 ^ 64 - 1, None)

-- (0, u) where u is an upper bound of the source's
abbrev pub upper_alone : {S A E : Type 0} → Contract S A E → S → ℕ × Option ℕ → Type 0
upper_alone m s h = (k : ℕ × Option ℕ) × m.hints s k × (h ≡ (0, k.1))

-- each bound less n, and not below 0
abbrev pub hint_less : ℕ → ℕ × Option ℕ → ℕ × Option ℕ
hint_less n h = (h.0 - n, option_map (λ u. u - n) h.1)

-- how many of b items are kept, where r are left out first: the first one after these, and one more at each step
abbrev pub kept_of : ℕ → ℕ → ℕ → ℕ
kept_of between r b = cond (leb b r) 0 (1 + (b - 1 - r) / (between + 1))

-- of each bound b, how many of b items are kept
abbrev pub hint_kept : ℕ → ℕ → ℕ × Option ℕ → ℕ × Option ℕ
hint_kept between r h = (kept_of between r h.0, option_map (kept_of between r) h.1)

-- the smaller of the upper bounds that are known
abbrev pub smaller_bound : Option ℕ → Option ℕ → Option ℕ
smaller_bound (Some x) (Some y) = Some (min x y)
smaller_bound (Some x) None = Some x
smaller_bound None y = y

-- the smaller lower bound, and the smaller of the upper bounds that are known
abbrev pub hint_smaller : ℕ × Option ℕ → ℕ × Option ℕ → ℕ × Option ℕ
hint_smaller g h = (min g.0 h.0, smaller_bound g.1 h.1)

-- one more on an upper bound, and none where it would be past the greatest number there is
abbrev pub UpperWithItem : Option ℕ → Option ℕ → Type 0
UpperWithItem high with_item = MatchOption high (with_item ≡ None) (λ n. SomeIff with_item (n + 1 < 2 ^ 64) (n + 1))

-- one more on a lower bound, at most the greatest number there is
abbrev pub lower_with_item : ℕ → ℕ
lower_with_item low = min (low + 1) (2 ^ 64 - 1)

-- one more on each bound
abbrev pub HintWithItem : ℕ × Option ℕ → ℕ × Option ℕ → Type 0
HintWithItem k h = (h.0 ≡ lower_with_item k.0) × UpperWithItem k.1 h.1
