-- Words and numbers that stand among bytes.
use Rattle.std.proofs.Common.{◌≡◌, ℕ, suc, ◌+◌, ◌*◌, ◌<◌, ◌≤◌, nat_eq, ◌&&◌, List, [], ◌∷◌, length, take, drop, get_or, arith, ap, refl, ◌∙◌}
use Rattle.std.specs.Str.{bytes_eq}
use Rattle.std.proofs.Math.Seq.{drop-cons}
use Rattle.std.proofs.lemmas.Bool.Decides.{nat_tests}
use Rattle.pcm_format.specs.Samples.{number_of}
use Rattle.pcm_wave.specs.Chunks.{number_at}

nat_eq-sym : (a b : ℕ) → nat_eq a b ≡ nat_eq b a
nat_eq-sym a b = grind (arith, nat_tests)

-- a comparison of bytes may go either way
pub bytes_eq-sym : (one other : List ℕ) → bytes_eq one other ≡ bytes_eq other one
bytes_eq-sym [] [] = refl
bytes_eq-sym [] (b ∷ other) = refl
bytes_eq-sym (a ∷ one) [] = refl
bytes_eq-sym (a ∷ one) (b ∷ other) = ap (λ t. t && bytes_eq one other) (nat_eq-sym a b) ∙ ap (λ t. nat_eq b a && t) (bytes_eq-sym one other)

-- a number of bytes begins with the lowest
number_at-first : (bytes : List ℕ) (at count : ℕ) → at < length bytes → number_at bytes at (suc count) ≡ get_or bytes at 0 + 256 * number_at bytes (at + 1) count
number_at-first bytes at count within =
    let next : suc at ≡ at + 1 = omega arith in
    ap (λ l. number_of (take (suc count) l)) (drop-cons bytes at 0 within) ∙ ap (λ n. get_or bytes at 0 + 256 * number_of (take count (drop n bytes))) next

-- a number of four bytes, byte by byte
pub number_at-four : (bytes : List ℕ) (at : ℕ) → at + 4 ≤ length bytes
    → number_at bytes at 4 ≡ get_or bytes at 0 + 256 * get_or bytes (at + 1) 0 + 65536 * get_or bytes (at + 2) 0 + 16777216 * get_or bytes (at + 3) 0
number_at-four bytes at within =
    let two : at + 1 + 1 ≡ at + 2 = omega arith in
    let three : at + 2 + 1 ≡ at + 3 = omega arith in
    let none : number_at bytes (at + 3 + 1) 0 ≡ 0 = refl in
    let first = number_at-first bytes at 3 (omega arith) in
    let second : number_at bytes (at + 1) 3 ≡ get_or bytes (at + 1) 0 + 256 * number_at bytes (at + 2) 2 =
    number_at-first bytes (at + 1) 2 (omega arith) ∙ ap (λ n. get_or bytes (at + 1) 0 + 256 * number_at bytes n 2) two in
    let third : number_at bytes (at + 2) 2 ≡ get_or bytes (at + 2) 0 + 256 * number_at bytes (at + 3) 1 =
    number_at-first bytes (at + 2) 1 (omega arith) ∙ ap (λ n. get_or bytes (at + 2) 0 + 256 * number_at bytes n 1) three in
    let last = number_at-first bytes (at + 3) 0 (omega arith) in
    omega arith
