-- Numbers of 64 bits as bytes: eight for each, the lowest first.
use Rattle.std.specs.Prelude.{ℕ, zero, suc, ◌/◌, ◌%◌, ◌<◌, ◌^◌, List, [], ◌∷◌}
use Rattle.std.specs.List.{flat_map}

-- a number of 64 bits
abbrev pub IsNumber : ℕ → Type 0
IsNumber number = number < 2 ^ 64

-- the `count` lowest bytes of a number, and what is left of it: another byte, where the number has no more
abbrev pub digits : ℕ → ℕ → List ℕ
digits zero number = number ∷ []
digits (suc count) number = number % 256 ∷ digits count (number / 256)

-- the bytes of a number
abbrev pub spelled_number : ℕ → List ℕ
spelled_number = digits 7

-- the bytes of numbers, one after another
abbrev pub spelled_numbers : List ℕ → List ℕ
spelled_numbers = flat_map spelled_number
