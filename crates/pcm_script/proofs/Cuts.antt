-- How a text is cut: its lines, and their words.
use Rattle.std.proofs.Common.{◌≡◌, ◌≢◌, ◌==◌, not, nat_eq, ℕ, zero, suc, ◌+◌, ◌<◌, Bool, true, false, List, [], ◌∷◌, ◌++◌, take, drop, length, slice_index, reverse, take_while, sym, ap, ◌∙◌, refl, arith}
use Rattle.std.specs.List.{onto_first, prefix_len, slice_split, starts_with}
use Rattle.std.proofs.lemmas.List.{reverse-reverse, reverse-append}
use Rattle.std.proofs.lemmas.List.Splits.{slice_split-cons_no}
use Rattle.std.proofs.lemmas.Bool.Decides.{nat_tests}
use Rattle.std.proofs.lemmas.Grind.{common_steps}
use Rattle.pcm_script.specs.Words.{without_return_first, without_return, is_word, begins_comment}

-- a test that isn't passed
not-true : (b : Bool) → b ≢ true → b ≡ false
not-true true other = absurd (other refl)
not-true false other = refl

-- a carriage return at the end is dropped
pub without_return-append : (front : List ℕ) → without_return (front ++ 13 ∷ []) ≡ front
without_return-append front = rw (reverse-append front (13 ∷ [])) (reverse-reverse front)

-- from the last byte on, one that is no carriage return is kept
without_return_first-other : (bytes : List ℕ) → ((front : List ℕ) → reverse bytes ≢ front ++ 13 ∷ []) → without_return_first bytes ≡ bytes
without_return_first-other [] other = refl
without_return_first-other (byte ∷ bytes) other =
    let last : byte ≢ 13 = λ same. other (reverse bytes) (reverse-append (byte ∷ []) bytes ∙ ap (λ b. reverse bytes ++ b ∷ []) same) in
    grind (arith, nat_tests)

-- a line that doesn't end in a carriage return stays
pub without_return-other : (line : List ℕ) → ((front : List ℕ) → line ≢ front ++ 13 ∷ []) → without_return line ≡ line
without_return-other line other =
    ap reverse (without_return_first-other (reverse line) (λ front same. other front (sym (reverse-reverse line) ∙ same))) ∙ reverse-reverse line

-- the front that passes a test, by its length
pub take-prefix_len : {X : Type 0} (p : X → Bool) (xs : List X) → take (prefix_len p xs) xs ≡ take_while p xs
take-prefix_len p [] = refl
take-prefix_len p (x ∷ xs) = grind (arith, common_steps, take-prefix_len p xs)

-- what isn't empty is a word
pub is_word-length : (word : List ℕ) → not (length word == 0) ≡ is_word word
is_word-length [] = refl
is_word-length (byte ∷ bytes) = grind (arith, common_steps)

-- a comment begins with the one byte `#`
pub begins_comment-starts : (word : List ℕ) → starts_with nat_eq word (35 ∷ []) ≡ begins_comment word
begins_comment-starts [] = refl
begins_comment-starts (byte ∷ bytes) = grind (arith, nat_tests)

-- a text begins with the part up to the first byte that passes a test
pub split-first : (p : ℕ → Bool) (text : List ℕ) (k : ℕ) → k < length text → p (slice_index text k) ≡ true → ((i : ℕ) → i < k → p (slice_index text i) ≢ true)
    → slice_split p text ≡ take k text ∷ slice_split p (drop (k + 1) text)
split-first p [] k here passes before = absurd (omega arith)
split-first p (byte ∷ bytes) zero here passes before = rw passes refl
split-first p (byte ∷ bytes) (suc k) here passes before =
    let other : p byte ≡ false = not-true (p byte) (before 0 (omega arith)) in
    let rest = split-first p bytes k (omega arith) passes (λ i below. before (suc i) (omega arith)) in
    let behind : drop (suc k + 1) (byte ∷ bytes) ≡ drop (k + 1) bytes = ap (λ (n : ℕ). drop n (byte ∷ bytes)) {y = suc (k + 1)} (omega arith) in
    slice_split-cons_no p byte bytes other
    ∙ ap (onto_first byte) rest ∙ ap (λ l. (byte ∷ take k bytes) ∷ slice_split p l) (sym behind)

-- a text without such a byte is one part
pub split-only : (p : ℕ → Bool) (text : List ℕ) → ((i : ℕ) → i < length text → p (slice_index text i) ≢ true) → slice_split p text ≡ text ∷ []
split-only p [] none = refl
split-only p (byte ∷ bytes) none =
    let other : p byte ≡ false = not-true (p byte) (none 0 (omega arith)) in
    let rest = split-only p bytes (λ i below. none (suc i) (omega arith)) in
    slice_split-cons_no p byte bytes other ∙ ap (onto_first byte) rest
