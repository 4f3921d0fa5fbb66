-- Division of a whole number, rounded down.
use Rattle.std.specs.Prelude.{ℕ, ℤ, pos, negsuc, ◌/◌}

-- the greatest number whose product with d is at most the given one, for d above 0
abbrev pub floor_div : ℤ → ℕ → ℤ
floor_div (pos n) d = pos (n / d)
floor_div (negsuc n) d = negsuc (n / d)
