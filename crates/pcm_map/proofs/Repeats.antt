-- A list that is filled with a sample over and over, by copies of what is filled.
use Rattle.std.proofs.Common.{◌≡◌, ℕ, ◌+◌, ◌-◌, ◌%◌, ◌<◌, ◌≤◌, List, ◌++◌, length, take, drop, get_or, inl, inr, sym, ap, ◌∙◌, arith, length-append, length-take, length-drop, get_or-append-add, get_or-take}
use Rattle.std.proofs.Math.Nat.{mod-add-mod, mod-eq_of_lt}
use Rattle.std.proofs.lemmas.Bool.{cases_lt}
use Rattle.std.proofs.lemmas.List.{get_or_append_left}

-- the first n elements are those of a sample, over and over
abbrev pub Repeats : List ℕ → ℕ → List ℕ → Type 0
Repeats sample n list = (k : ℕ) → k < n → get_or list k 0 ≡ get_or sample (k % length sample) 0

-- the sample itself, or its front
pub repeats-once : (sample front rest : List ℕ) (n : ℕ) → n ≤ length sample → front ≡ take n sample → Repeats sample n (front ++ rest)
repeats-once sample front rest n within is k below =
    let long : length front ≡ n = ap length is ∙ omega (arith, length-take n sample) in
    get_or_append_left front rest 0 k (omega (arith, long))
    ∙ ap (λ list. get_or list k 0) is
    ∙ get_or-take n sample k 0 below
    ∙ ap (λ at. get_or sample at 0) (sym (mod-eq_of_lt {n = k} {m = length sample} (omega arith)))

-- the first elements, and as many of these again
abbrev pub doubled : List ℕ → ℕ → ℕ → List ℕ
doubled list filled count = take filled list ++ (take count list ++ drop (filled + count) list)

pub length-doubled : (list : List ℕ) (filled count : ℕ) → filled + count ≤ length list → length (doubled list filled count) ≡ length list
length-doubled list filled count within =
    let tail : List ℕ = take count list ++ drop (filled + count) list in
    length-append (take filled list) tail
    ∙ omega (arith, length-append (take count list) (drop (filled + count) list), length-take filled list, length-take count list, length-drop (filled + count) list)

-- where the first ones are whole samples, what was copied goes on with them
turned : (n filled j : ℕ) → filled % n ≡ 0 → (filled + j) % n ≡ j % n
turned n filled j whole =
    sym (mod-add-mod filled n j) ∙ ap (λ m. (m + j) % n) whole ∙ (let none : 0 + j ≡ j = omega arith in ap (λ m. m % n) none)

pub repeats-doubled : (sample list : List ℕ) (filled count : ℕ) → count ≤ filled → filled + count ≤ length list → filled % length sample ≡ 0
    → Repeats sample filled list → Repeats sample (filled + count) (doubled list filled count)
repeats-doubled sample list filled count few within whole repeats k below =
    let front : List ℕ = take filled list in
    let rest : List ℕ = take count list ++ drop (filled + count) list in
    let long : length front ≡ filled = omega (arith, length-take filled list) in
    let again : length (take count list) ≡ count = omega (arith, length-take count list) in
    elim (cases_lt k filled) [
      | inl there ↦ get_or_append_left front rest 0 k (omega (arith, long)) ∙ get_or-take filled list k 0 there ∙ repeats k there
      | inr past ↦ (
          let j : ℕ = k - filled in
          let at : length front + j ≡ k = omega (arith, long) in
          let place : filled + j ≡ k = omega arith in
          ap (λ i. get_or (front ++ rest) i 0) (sym at)
          ∙ get_or-append-add front rest j 0
          ∙ get_or_append_left (take count list) (drop (filled + count) list) 0 j (omega (arith, again))
          ∙ get_or-take count list j 0 (omega arith)
          ∙ repeats j (omega arith)
          ∙ ap (λ i. get_or sample i 0) (sym (turned (length sample) filled j whole) ∙ ap (λ i. i % length sample) place))
    ]

-- twice as many are whole samples too
pub whole-doubled : (n filled : ℕ) → filled % n ≡ 0 → (filled + filled) % n ≡ 0
whole-doubled n filled whole = turned n filled filled whole ∙ whole
