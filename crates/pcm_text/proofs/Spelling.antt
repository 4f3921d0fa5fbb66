-- Numbers, bytes and names are one word each, and are read as what they spell.
use Rattle.std.proofs.Common.{◌≡◌, ℕ, ◌+◌, ◌*◌, ◌/◌, ◌%◌, ◌^◌, ◌<◌, ◌≤◌, true, false, cond, nat_eq, List, [], ◌∷◌, ◌++◌, length, Ok, Err, refl, ap, ◌∙◌, arith, codes, decimal, slice_index}
use Rattle.std.specs.List.{list_all, starts_with}
use Rattle.std.specs.Str.{bytes_eq}
use Rattle.std.proofs.lemmas.Bool.{and_from, and_parts, le-leb}
use Rattle.std.proofs.lemmas.Bool.Decides.{nat_tests}
use Rattle.std.proofs.lemmas.Fmt.{decimal_by_steps, decimal_nonempty, length-decimal-le}
use Rattle.std.proofs.lemmas.List.Sums.{fold-append, list_all-from_AllPass}
use Rattle.hex.specs.Hex.{IsBytes, decode_of, encode_lower, encode_with, hex_digit_value, is_hex_digit, lower_digits}
use Rattle.hex.proofs.HexLemmas.{decode_of-encode_lower, decode_of-ok}
use Rattle.pcm_report.specs.Lines.{bytes_text}
use Rattle.pcm_desk.specs.declared.limits.TheConstants.{WRITE_BYTES}
use Rattle.pcm_script.specs.declared.fault.ScriptKind.TheVariants.{Hex}
use Rattle.pcm_script.specs.Commands.{bytes_in, short_bytes}
use Rattle.pcm_script.specs.Numbers.{digit_of, digits_value, is_decimal_digit, number_in, number_within}
use Rattle.pcm_text.specs.ReadBack.{is_plain}
use Rattle.pcm_text.proofs.CutLines.{IsOneWord, list_all-both, list_all-weaker}

-- ---- numbers

-- digits that stand for a number
record Spells (number : ℕ) (digits : List ℕ) : Type 0 where
  pub all : list_all is_decimal_digit digits ≡ true
  pub value : digits_value 10 digits ≡ number

digit-is : (d : ℕ) → d < 10 → is_decimal_digit (48 + d) ≡ true
digit-is d low = grind (arith, nat_tests)

digit-value : (d : ℕ) → d < 10 → digit_of (hex_digit_value (48 + d)) ≡ d
digit-value d low = grind (arith, nat_tests)

spells-one : (d : ℕ) → d < 10 → Spells d ((48 + d) ∷ [])
spells-one d low = record {
  all = and_from (is_decimal_digit (48 + d)) true (digit-is d low) refl;
  value = omega (arith, digit-value d low);
}

spells-more : (number : ℕ) (digits : List ℕ) → Spells (number / 10) digits → Spells number (digits ++ (48 + number % 10) ∷ [])
spells-more number digits front =
    let low : number % 10 < 10 = omega arith in
    record {
      all = list_all-both is_decimal_digit digits ((48 + number % 10) ∷ []) front.all (and_from (is_decimal_digit (48 + number % 10)) true (digit-is (number % 10) low) refl);
      value =
          fold-append (λ value digit. value * 10 + digit_of (hex_digit_value digit)) 0 digits ((48 + number % 10) ∷ [])
          ∙ ap (λ v. v * 10 + digit_of (hex_digit_value (48 + number % 10))) front.value
          ∙ ap (λ v. number / 10 * 10 + v) (digit-value (number % 10) low)
          ∙ omega arith;
    }

spells-decimal : (number : ℕ) → number < 2 ^ 64 → Spells number (decimal number)
spells-decimal = decimal_by_steps Spells spells-one (λ number digits more front. spells-more number digits front)

pub decimal-digits : (number : ℕ) → number < 2 ^ 64 → list_all is_decimal_digit (decimal number) ≡ true
decimal-digits number small = (spells-decimal number small).all

digit-plain : (b : ℕ) → is_decimal_digit b ≡ true → is_plain b ≡ true
digit-plain b digit = grind (arith, nat_tests)

-- digits are one word
digits-word : (digits : List ℕ) → 0 < length digits → list_all is_decimal_digit digits ≡ true → IsOneWord digits
digits-word [] some all = absurd (omega arith)
digits-word (b ∷ digits) some all = record {
  some = refl;
  uncut = grind (arith, nat_tests, (and_parts (is_decimal_digit b) (list_all is_decimal_digit digits) all).0);
  plain = list_all-weaker is_decimal_digit is_plain digit-plain (b ∷ digits) all;
}

pub decimal-word : (number : ℕ) → number < 2 ^ 64 → IsOneWord (decimal number)
decimal-word number small = digits-word (decimal number) (decimal_nonempty number small) (spells-decimal number small).all

-- decimal digits have no prefix before them
no-prefix : (digits : List ℕ) → list_all is_decimal_digit digits ≡ true → starts_with nat_eq digits (codes "0x") ≡ false
no-prefix [] all = refl
no-prefix (a ∷ []) all = grind (arith, nat_tests)
no-prefix (a ∷ b ∷ digits) all =
    let first = and_parts (is_decimal_digit a) (list_all is_decimal_digit (b ∷ digits)) all in
    let second = and_parts (is_decimal_digit b) (list_all is_decimal_digit digits) first.1 in
    grind (arith, nat_tests, second.0)

pub decimal-read : (number : ℕ) → number < 2 ^ 32 → number_in (decimal number) ≡ Ok number
decimal-read number small =
    let line_asked = spells-decimal number (omega arith) in
    let some = decimal_nonempty number (omega arith) in
    let few = length-decimal-le 10 number (omega arith) (omega arith) (omega arith) in
    rw (no-prefix (decimal number) line_asked.all, line_asked.all, le-leb 1 (length (decimal number)) some, le-leb (length (decimal number)) 10 few) (ap (λ n. Ok n) line_asked.value)

pub decimal-within : (least most number : ℕ) → number < 2 ^ 32 → least ≤ number → number ≤ most → number_within least most (decimal number) ≡ Ok number
decimal-within least most number small low high = rw (decimal-read number small) (grind (arith, nat_tests))

-- ---- bytes

hexadecimal-plain : (b : ℕ) → is_hex_digit b ≡ true → is_plain b ≡ true
hexadecimal-plain b digit = grind (arith, nat_tests)

pub bytes-word : (bytes : List ℕ) → IsBytes bytes → IsOneWord (bytes_text bytes)
unfolding encode_with
bytes-word [] all = record { some = refl; uncut = refl; plain = refl }
bytes-word (b ∷ bytes) all =
    let text = decode_of-ok (encode_lower (b ∷ bytes)) (b ∷ bytes) (decode_of-encode_lower (b ∷ bytes) all) in
    let plain = list_all-from_AllPass is_hex_digit (encode_lower (b ∷ bytes)) text.1 in
    record {
      some = refl;
      uncut = grind (arith, nat_tests, (and_parts (is_hex_digit (slice_index lower_digits (b / 16))) (list_all is_hex_digit (slice_index lower_digits (b % 16) ∷ encode_with lower_digits bytes)) plain).0);
      plain = list_all-weaker is_hex_digit is_plain hexadecimal-plain (encode_lower (b ∷ bytes)) plain;
    }

-- a word with a pair of digits is no dash
dash-is_no_pair : (a b : ℕ) (rest : List ℕ) → bytes_eq (a ∷ b ∷ rest) (codes "-") ≡ false
dash-is_no_pair a b rest = grind (arith, nat_tests)

pub bytes-read : (bytes : List ℕ) → IsBytes bytes → length bytes ≤ WRITE_BYTES → bytes_in (bytes_text bytes) ≡ Ok bytes
unfolding encode_with
bytes-read [] all few = refl
bytes-read (b ∷ bytes) all few =
    let decoded = decode_of-encode_lower (b ∷ bytes) all in
    ap (λ test. cond test (Ok []) (short_bytes (decode_of (encode_lower (b ∷ bytes))))) (dash-is_no_pair (slice_index lower_digits (b / 16)) (slice_index lower_digits (b % 16)) (encode_with lower_digits bytes))
    ∙ ap short_bytes decoded ∙ ap (λ test. cond test (Ok (b ∷ bytes)) (Err Hex)) (le-leb (length (b ∷ bytes)) WRITE_BYTES few)
