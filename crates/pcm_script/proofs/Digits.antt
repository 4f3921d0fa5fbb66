-- Bytes by a table of digits: what each digit is worth, and the loop over pairs of them.
use Rattle.std.proofs.Common.{◌≡◌, ℕ, ◌+◌, ◌*◌, ◌<◌, ◌≤◌, true, false, inl, inr, List, take, drop, length, slice_index, slice_set, Option, Some, None, Result, Ok, Err, ◌%◌, unwrap_or, if◌then◌else◌, nat_lt, refl, sym, ap, ◌∙◌, arith}
use Rattle.std.specs.Bool.{MatchBool}
use Rattle.std.specs.Result.{result_ok}
use Rattle.std.specs.Int.RustNames.{bit_or}
use Rattle.std.proofs.lemmas.Bool.{cases_lt}
use Rattle.std.proofs.lemmas.Bool.Decides.{nat_tests}
use Rattle.std.proofs.lemmas.Nat.{le_or_l, le_or_r, or_lt}
use Rattle.hex.specs.Hex.{decode_of, decode_pairs, hex_digit_value, pair_value}
use Rattle.hex.specs.declared.error.FromHexError.{FromHexError}
use Rattle.hex.specs.declared.error.FromHexError.TheVariants.{InvalidHexCharacter}
use Rattle.hex.proofs.HexLemmas.{decode_of-even, decode_of-ok}
use Rattle.hex.proofs.Pairs.{prepend, decode_step, decode_err, decode_done}
use Rattle.pcm_desk.specs.declared.limits.TheConstants.{WRITE_BYTES}
use Rattle.pcm_script.specs.declared.fault.ScriptKind.TheVariants.{Hex}
use Rattle.pcm_script.specs.Commands.{short_bytes}
use Rattle.pcm_script.specs.Numbers.{digit_of}

-- what a worth says of a digit
abbrev pub told : ℕ → Option ℕ
told worth = if nat_lt worth 16 then Some worth else None

-- a worth below 16 is the digit's
told-some : (worth : ℕ) → worth < 16 → told worth ≡ Some worth
told-some worth small = grind (arith, nat_tests)

-- any other worth says that there is none
told-none : (worth : ℕ) → 16 ≤ worth → told worth ≡ None
told-none worth great = grind (arith, nat_tests)

-- what a byte is worth gives its digit, if it is one
pub worth-told : (byte : ℕ) → told (unwrap_or (hex_digit_value byte) 16) ≡ hex_digit_value byte
worth-told byte = grind (arith, nat_tests)

pub worth-digit : (byte : ℕ) → unwrap_or (hex_digit_value byte) 16 % 16 ≡ digit_of (hex_digit_value byte)
worth-digit byte = grind (arith, nat_tests)

-- how far a text is decoded, and that it is only digits if all worths were below 16
abbrev pub IsDecoded : ℕ → List ℕ → List ℕ → ℕ → Type 0
IsDecoded worths word bytes at =
    (worths < 16 → decode_pairs 0 word ≡ prepend (take at bytes) (decode_pairs (2 * at) (drop (2 * at) word)))
    × (16 ≤ worths → result_ok (decode_pairs 0 word) ≡ None)

-- two digits that are read
pair-ok : (a b high low i : ℕ) → told high ≡ hex_digit_value a → told low ≡ hex_digit_value b → high < 16 → low < 16
    → pair_value a b i ≡ Ok (high * 16 + low)
pair-ok a b high low i is_high is_low h l =
    let first = sym is_high ∙ told-some high h in
    let second = sym is_low ∙ told-some low l in
    rw (first, second) refl

-- a first digit that isn't one
pair-high : (a b high i : ℕ) → told high ≡ hex_digit_value a → 16 ≤ high → pair_value a b i ≡ Err (InvalidHexCharacter a i)
pair-high a b high i is_high great =
    let first = sym is_high ∙ told-none high great in
    rw first refl

-- a second digit that isn't one
pair-low : (a b high low i : ℕ) → told high ≡ hex_digit_value a → told low ≡ hex_digit_value b → high < 16 → 16 ≤ low
    → pair_value a b i ≡ Err (InvalidHexCharacter b (i + 1))
pair-low a b high low i is_high is_low h great =
    let first = sym is_high ∙ told-some high h in
    let second = sym is_low ∙ told-none low great in
    rw (first, second) refl

-- worths that are all below 16 are so together, and none of them was more
below-all : (worths high low : ℕ) → worths < 16 → high < 16 → low < 16 → bit_or (bit_or worths high) low < 16
below-all worths high low w h l = or_lt 4 (bit_or worths high) low (or_lt 4 worths high w h) l

below-each : (worths high low : ℕ) → bit_or (bit_or worths high) low < 16 → (worths < 16) × (high < 16) × (low < 16)
below-each worths high low all =
    let front = le_or_l (bit_or worths high) low in
    let last = le_or_r (bit_or worths high) low in
    let first = le_or_l worths high in
    let second = le_or_r worths high in
    (omega (arith, front, first), omega (arith, front, second), omega (arith, last))

-- a pair more
pub decoded-more : (word bytes : List ℕ) (worths high low byte at : ℕ) → 2 * at + 1 < length word → at < length bytes
    → high ≡ unwrap_or (hex_digit_value (slice_index word (2 * at))) 16 → low ≡ unwrap_or (hex_digit_value (slice_index word (2 * at + 1))) 16
    → (high < 16 → low < 16 → byte ≡ high * 16 + low) → IsDecoded worths word bytes at
    → IsDecoded (bit_or (bit_or worths high) low) word (slice_set bytes at byte) (at + 1)
decoded-more word bytes worths high low byte at fits room high_is low_is is_byte so_far =
    let is_high = ap told high_is ∙ worth-told (slice_index word (2 * at)) in
    let is_low = ap told low_is ∙ worth-told (slice_index word (2 * at + 1)) in (
      λ small.
          let each = below-each worths high low small in
          let pair = pair-ok (slice_index word (2 * at)) (slice_index word (2 * at + 1)) high low (2 * at) is_high is_low each.1 each.2 in
          decode_step word bytes at byte fits room (pair ∙ ap Ok (sym (is_byte each.1 each.2))) (so_far.0 each.0),
      λ great.
          elim (cases_lt worths 16) [
            | inr before ↦ so_far.1 before
            | inl w ↦
                elim (cases_lt high 16) [
                  | inr bad ↦ ap result_ok (decode_err word bytes at _ fits (pair-high (slice_index word (2 * at)) (slice_index word (2 * at + 1)) high (2 * at) is_high bad) (so_far.0 w))
                  | inl h ↦
                      elim (cases_lt low 16) [
                        | inr bad ↦ ap result_ok (decode_err word bytes at _ fits (pair-low (slice_index word (2 * at)) (slice_index word (2 * at + 1)) high low (2 * at) is_high is_low h bad) (so_far.0 w))
                        | inl l ↦
                            let all = below-all worths high low w h l in
                            absurd (omega (arith, all))
                      ]
                ]
          ],
    )

-- all pairs
pub decoded-all : (word bytes : List ℕ) (worths at : ℕ) → length word ≡ 2 * length bytes → length bytes ≤ at → IsDecoded worths word bytes at
    → MatchBool (nat_lt worths 16) (result_ok (decode_of word) ≡ Some bytes) (result_ok (decode_of word) ≡ None)
decoded-all word bytes worths at twice past so_far =
    let pairs = decode_of-even word (omega arith) in
    elim (cases_lt worths 16) [
      | inl small ↦
          let is : nat_lt worths 16 ≡ true = grind (arith, nat_tests) in
          rw is (ap result_ok (pairs ∙ decode_done word bytes at past (omega arith) (so_far.0 small)))
      | inr great ↦
          let is : nat_lt worths 16 ≡ false = grind (arith, nat_tests) in
          rw is (ap result_ok pairs ∙ so_far.1 great)
    ]

-- the value of a result, where there is one
ok-some : (r : Result (List ℕ) FromHexError) (bytes : List ℕ) → result_ok r ≡ Some bytes → r ≡ Ok bytes
ok-some (Ok found) bytes same = grind arith
ok-some (Err fault) bytes same = cc same

-- a word that is no pairs of digits
pub short_bytes-none : (r : Result (List ℕ) FromHexError) → result_ok r ≡ None → short_bytes r ≡ Err Hex
short_bytes-none (Ok bytes) none = cc none
short_bytes-none (Err fault) none = refl

-- a word that is too long
long-bytes : (word : List ℕ) (r : Result (List ℕ) FromHexError) → decode_of word ≡ r → 2 * WRITE_BYTES < length word → short_bytes r ≡ Err Hex
long-bytes word (Ok bytes) is long =
    let twice = (decode_of-ok word bytes is).2 in
    grind (arith, nat_tests, twice)
long-bytes word (Err fault) is long = refl

pub short_bytes-long : (word : List ℕ) → 2 * WRITE_BYTES < length word → short_bytes (decode_of word) ≡ Err Hex
short_bytes-long word long = long-bytes word (decode_of word) refl long

-- a word of pairs of digits that isn't too long
pub short_bytes-some : (word bytes : List ℕ) → result_ok (decode_of word) ≡ Some bytes → length word ≤ 2 * WRITE_BYTES
    → short_bytes (decode_of word) ≡ Ok bytes
short_bytes-some word bytes some short =
    let is = ok-some (decode_of word) bytes some in
    let twice = (decode_of-ok word bytes is).2 in
    ap short_bytes is ∙ grind (arith, nat_tests, twice)
