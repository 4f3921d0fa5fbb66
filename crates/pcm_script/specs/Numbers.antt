-- Numbers in a script: up to ten decimal digits, or up to eight hexadecimal ones after `0x`.
use Rattle.std.specs.Prelude.{ℕ, ◌+◌, ◌*◌, Bool, ◌&&◌, nat_le, if◌then◌else◌, List, length, Option, Some, None, Result, Ok, Err, fold, drop, codes, nat_eq}
use Rattle.std.specs.List.{list_all, starts_with}
use Rattle.hex.specs.Hex.{hex_digit_value, is_hex_digit}
use Rattle.pcm_script.specs.declared.fault.ScriptKind.{ScriptKind}
use Rattle.pcm_script.specs.declared.fault.ScriptKind.TheVariants.{Number, Range}
use Rattle.pcm_script.specs.Steps.{◌>>=◌}

abbrev pub is_decimal_digit : ℕ → Bool
is_decimal_digit byte = nat_le 48 byte && nat_le byte 57

-- what a hexadecimal digit stands for; a decimal digit stands for the same
abbrev pub digit_of : Option ℕ → ℕ
digit_of None = 0
digit_of (Some digit) = digit

-- what digits stand for in a base
abbrev pub digits_value : ℕ → List ℕ → ℕ
digits_value base digits = fold (λ value digit. value * base + digit_of (hex_digit_value digit)) 0 digits

-- digits of a kind, from one to `most` of them
abbrev pub are_digits : (ℕ → Bool) → ℕ → List ℕ → Bool
are_digits is_digit most digits = nat_le 1 (length digits) && nat_le (length digits) most && list_all is_digit digits

-- the number of a word of one to ten decimal digits
abbrev pub decimal_in : List ℕ → Option ℕ
decimal_in word = if are_digits is_decimal_digit 10 word then Some (digits_value 10 word) else None

-- a word with the prefix of hexadecimal numbers taken off, if it has it
abbrev pub after_prefix : List ℕ → Option (List ℕ)
after_prefix word = if starts_with nat_eq word (codes "0x") then Some (drop 2 word) else None

-- the number of a word, which had its prefix taken off or has none
abbrev pub number_after : Option (List ℕ) → List ℕ → Result ℕ ScriptKind
number_after None word = if are_digits is_decimal_digit 10 word then Ok (digits_value 10 word) else Err Number
number_after (Some digits) word = if are_digits is_hex_digit 8 digits then Ok (digits_value 16 digits) else Err Number

-- the number that a word spells
abbrev pub number_in : List ℕ → Result ℕ ScriptKind
number_in word = number_after (after_prefix word) word

-- a number from `least` to `most`
abbrev pub within : ℕ → ℕ → ℕ → Result ℕ ScriptKind
within least most number = if nat_le least number && nat_le number most then Ok number else Err Range

-- the number that a word spells, which must be in its set
abbrev pub number_within : ℕ → ℕ → List ℕ → Result ℕ ScriptKind
number_within least most word = do
  number ← number_in word
  within least most number
