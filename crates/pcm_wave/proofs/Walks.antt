-- A walk over the chunks finds what the definition says by their places.
use Rattle.std.proofs.Common.{◌≡◌, ℕ, zero, suc, ◌+◌, ◌-◌, ◌%◌, ◌<◌, ◌≤◌, Bool, true, false, nat_lt, cond, List, [], ◌∷◌, length, take, drop, Option, Some, None, Result, Ok, Err, arith, codes, refl, sym, ap, ◌∙◌}
use Rattle.std.specs.List.{find}
use Rattle.std.specs.Option.{IfSome}
use Rattle.std.proofs.lemmas.Bool.Decides.{nat_tests}
use Rattle.std.specs.Str.{bytes_eq}
use Rattle.std.proofs.lemmas.Slice.Eq.{bytes_eq-Decides}
use Rattle.pcm_format.specs.declared.settings.Settings.{Settings}
use Rattle.pcm_wave.specs.declared.wave.Wave.{Wave}
use Rattle.pcm_wave.specs.declared.wave.WaveFault.{WaveFault}
use Rattle.pcm_wave.specs.declared.wave.WaveFault.TheVariants.{NoFormat}
use Rattle.pcm_wave.specs.Chunks.{has_head, has_body, next_place, places_from, stands_at, size_at}
use Rattle.pcm_wave.specs.Walks.{known_behind, place_behind, wave_given, missing, as_known}
use Rattle.pcm_wave.specs.Waves.{format_told, body_behind, stands_before, wave_at}
use Rattle.pcm_wave.proofs.Bodies.{find-cons, find-cond}

-- ---- the places from one of them on

-- the places of all chunks from a place on
abbrev pub rest_from : List ℕ → ℕ → List ℕ
rest_from bytes p = places_from (length bytes) bytes p

-- a count that is enough for the bytes after a place gives all places
places_from-enough : (n m : ℕ) (bytes : List ℕ) (p : ℕ) → length bytes ≤ n + p → length bytes ≤ m + p → places_from n bytes p ≡ places_from m bytes p
places_from-enough zero zero bytes p few many = refl
places_from-enough zero (suc m) bytes p few many =
    let none : has_head bytes p ≡ false = grind (arith, nat_tests) in
    ap (λ b. cond b (p ∷ cond (has_body bytes p) (places_from m bytes (next_place bytes p)) []) []) (sym none)
places_from-enough (suc n) zero bytes p few many =
    let none : has_head bytes p ≡ false = grind (arith, nat_tests) in
    ap (λ b. cond b (p ∷ cond (has_body bytes p) (places_from n bytes (next_place bytes p)) []) []) none
places_from-enough (suc n) (suc m) bytes p few many =
    let next : next_place bytes p ≡ p + 8 + size_at bytes p + size_at bytes p % 2 = refl in
    ap (λ l. cond (has_head bytes p) (p ∷ cond (has_body bytes p) l []) []) (places_from-enough n m bytes (next_place bytes p) (omega arith) (omega arith))

-- where no head stands there are none
rest_from-none : (bytes : List ℕ) (p : ℕ) → has_head bytes p ≡ false → rest_from bytes p ≡ []
rest_from-none bytes p none =
    let few : length bytes < p + 8 = grind (arith, nat_tests) in
    elim (length bytes) as (λ n. places_from n bytes p ≡ []) [
      | zero ↦ refl
      | suc n ↦ ap (λ b. cond b (p ∷ cond (has_body bytes p) (places_from n bytes (next_place bytes p)) []) []) none
    ]

-- a place with a head, then the places after the chunk
rest_from-head : (bytes : List ℕ) (p : ℕ) → has_head bytes p ≡ true → rest_from bytes p ≡ p ∷ rest_from bytes (place_behind bytes p)
rest_from-head bytes p head =
    let within : p + 8 ≤ length bytes = grind (arith, nat_tests) in
    let one : length bytes ≡ suc (length bytes - 1) = omega arith in
    let next : next_place bytes p ≡ p + 8 + size_at bytes p + size_at bytes p % 2 = refl in
    let none : has_head bytes (length bytes) ≡ false = grind (arith, nat_tests) in
    let behind : cond (has_body bytes p) (places_from (length bytes - 1) bytes (next_place bytes p)) [] ≡ rest_from bytes (place_behind bytes p) =
    elim (has_body bytes p) as (λ b. cond b (places_from (length bytes - 1) bytes (next_place bytes p)) [] ≡ rest_from bytes (cond b (next_place bytes p) (length bytes))) [
      | true ↦ places_from-enough (length bytes - 1) (length bytes) bytes (next_place bytes p) (omega arith) (omega arith)
      | false ↦ sym (rest_from-none bytes (length bytes) none)
    ] in
    ap (λ n. places_from n bytes p) one
    ∙ ap (λ b. cond b (p ∷ cond (has_body bytes p) (places_from (length bytes - 1) bytes (next_place bytes p)) []) []) head
    ∙ ap (λ l. p ∷ l) behind

-- the place after a chunk is greater
place_behind-above : (bytes : List ℕ) (p : ℕ) → has_head bytes p ≡ true → p + 8 ≤ place_behind bytes p
place_behind-above bytes p head =
    let within : p + 8 ≤ length bytes = grind (arith, nat_tests) in
    elim (has_body bytes p) as (λ b. p + 8 ≤ cond b (next_place bytes p) (length bytes)) [ true ↦ omega arith | false ↦ within ]

-- ---- what is found from a place on

abbrev pub found_in : List ℕ → Option Settings → List ℕ → Result Wave WaveFault
found_in bytes None rest = wave_at bytes (find (λ p. stands_at bytes p (codes "fmt ")) rest) (find (λ p. stands_at bytes p (codes "data")) rest)
found_in bytes (Some settings) rest = body_behind bytes (Ok settings) (find (λ p. stands_at bytes p (codes "data")) rest)

-- the wave that is found from a place on, with what is known before it
abbrev pub found_from : List ℕ → Option Settings → ℕ → Result Wave WaveFault
found_from bytes known p = found_in bytes known (rest_from bytes p)

-- where no head stands, something is missing
pub found_from-end : (bytes : List ℕ) (known : Option Settings) (p : ℕ) → has_head bytes p ≡ false → found_from bytes known p ≡ Err (missing known)
found_from-end bytes None p none = ap (found_in bytes None) (rest_from-none bytes p none)
found_from-end bytes (Some settings) p none = ap (found_in bytes (Some settings)) (rest_from-none bytes p none)

-- ---- one chunk more

-- the places after a chunk are greater
find-above : (test : ℕ → Bool) (count : ℕ) (bytes : List ℕ) (p q : ℕ) → p < q → IfSome (find test (places_from count bytes q)) (λ found. p < found)
find-above test zero bytes p q below = tt
find-above test (suc count) bytes p q below =
    let rest = places_from count bytes (next_place bytes q) in
    find-cond test (λ found. p < found) (has_head bytes q) (q ∷ cond (has_body bytes q) rest [])
    (λ _. find-cons test (λ found. p < found) q (cond (has_body bytes q) rest []) below
    (find-cond test (λ found. p < found) (has_body bytes q) rest (λ _. find-above test count bytes p (next_place bytes q) (omega arith))))

-- a "data" chunk that is found after a place isn't before it
none-before : (body : Option ℕ) (p : ℕ) → IfSome body (λ found. p < found) → stands_before body p ≡ false
none-before None p above = refl
none-before (Some body) p above = grind (arith, nat_tests)

-- a "data" chunk before all "fmt " chunks has no format
wave_at-before : (bytes : List ℕ) (place : Option ℕ) (p : ℕ) → IfSome place (λ found. p < found) → wave_at bytes place (Some p) ≡ Err NoFormat
wave_at-before bytes None p above = refl
wave_at-before bytes (Some place) p above =
    let before : nat_lt p place ≡ true = grind (arith, nat_tests) in
    ap (λ b. cond b (Err NoFormat) (body_behind bytes (format_told bytes place) (Some p))) before

-- a word of four bytes is one of the two at most
one_word : (bytes : List ℕ) (p : ℕ) → stands_at bytes p (codes "data") ≡ true → stands_at bytes p (codes "fmt ") ≡ false
one_word bytes p is =
    let same : take 4 (drop p bytes) ≡ codes "data" = (bytes_eq-Decides (take 4 (drop p bytes)) (codes "data")).0 is in
    ap (λ word. bytes_eq word (codes "fmt ")) same

-- a "data" chunk gives the wave
pub found_from-data : (bytes : List ℕ) (known : Option Settings) (p : ℕ) → has_head bytes p ≡ true → stands_at bytes p (codes "data") ≡ true
    → found_from bytes known p ≡ wave_given bytes known p
found_from-data bytes None p head is =
    let rest = rest_from bytes (place_behind bytes p) in
    let above = find-above (λ q. stands_at bytes q (codes "fmt ")) (length bytes) bytes p (place_behind bytes p) (omega (arith, place_behind-above bytes p head)) in
    ap (found_in bytes None) (rest_from-head bytes p head)
    ∙ ap (λ b. wave_at bytes (cond b (Some p) (find (λ q. stands_at bytes q (codes "fmt ")) rest)) (find (λ q. stands_at bytes q (codes "data")) (p ∷ rest))) (one_word bytes p is)
    ∙ ap (λ b. wave_at bytes (find (λ q. stands_at bytes q (codes "fmt ")) rest) (cond b (Some p) (find (λ q. stands_at bytes q (codes "data")) rest))) is
    ∙ wave_at-before bytes (find (λ q. stands_at bytes q (codes "fmt ")) rest) p above
found_from-data bytes (Some settings) p head is =
    let rest = rest_from bytes (place_behind bytes p) in
    ap (found_in bytes (Some settings)) (rest_from-head bytes p head)
    ∙ ap (λ b. body_behind bytes (Ok settings) (cond b (Some p) (find (λ q. stands_at bytes q (codes "data")) rest))) is

-- what is found after another chunk, or the fault of its format
abbrev found_behind : List ℕ → Result (Option Settings) WaveFault → List ℕ → Result Wave WaveFault
found_behind bytes (Ok known) rest = found_in bytes known rest
found_behind bytes (Err fault) rest = Err fault

-- the first "fmt " chunk
found_behind-format : (bytes : List ℕ) (told : Result Settings WaveFault) (rest : List ℕ)
    → body_behind bytes told (find (λ q. stands_at bytes q (codes "data")) rest) ≡ found_behind bytes (as_known told) rest
found_behind-format bytes (Ok settings) rest = refl
found_behind-format bytes (Err fault) rest = refl

found_from-other : (bytes : List ℕ) (known : Option Settings) (p : ℕ) → has_head bytes p ≡ true → stands_at bytes p (codes "data") ≡ false
    → found_from bytes known p ≡ found_behind bytes (known_behind bytes known p) (rest_from bytes (place_behind bytes p))
found_from-other bytes None p head other =
    let rest = rest_from bytes (place_behind bytes p) in
    let body = find (λ q. stands_at bytes q (codes "data")) rest in
    let above = find-above (λ q. stands_at bytes q (codes "data")) (length bytes) bytes p (place_behind bytes p) (omega (arith, place_behind-above bytes p head)) in
    let first : wave_at bytes (Some p) body ≡ found_behind bytes (as_known (format_told bytes p)) rest =
    ap (λ b. cond b (Err NoFormat) (body_behind bytes (format_told bytes p) body)) (none-before body p above) ∙ found_behind-format bytes (format_told bytes p) rest in
    ap (found_in bytes None) (rest_from-head bytes p head)
    ∙ ap (λ b. wave_at bytes (find (λ q. stands_at bytes q (codes "fmt ")) (p ∷ rest)) (cond b (Some p) body)) other
    ∙ elim (stands_at bytes p (codes "fmt ")) as (λ b. wave_at bytes (cond b (Some p) (find (λ q. stands_at bytes q (codes "fmt ")) rest)) body ≡ found_behind bytes (cond b (as_known (format_told bytes p)) (Ok None)) rest)
    [ true ↦ first | false ↦ refl ]
found_from-other bytes (Some settings) p head other =
    let rest = rest_from bytes (place_behind bytes p) in
    ap (found_in bytes (Some settings)) (rest_from-head bytes p head)
    ∙ ap (λ b. body_behind bytes (Ok settings) (cond b (Some p) (find (λ q. stands_at bytes q (codes "data")) rest))) other

-- another chunk leaves the wave to those after it
pub found_from-next : (bytes : List ℕ) (known next : Option Settings) (p : ℕ) → has_head bytes p ≡ true → stands_at bytes p (codes "data") ≡ false
    → known_behind bytes known p ≡ Ok next → found_from bytes known p ≡ found_from bytes next (place_behind bytes p)
found_from-next bytes known next p head other is =
    found_from-other bytes known p head other ∙ ap (λ k. found_behind bytes k (rest_from bytes (place_behind bytes p))) is

-- or its format is refused
pub found_from-refused : (bytes : List ℕ) (known : Option Settings) (fault : WaveFault) (p : ℕ) → has_head bytes p ≡ true → stands_at bytes p (codes "data") ≡ false
    → known_behind bytes known p ≡ Err fault → found_from bytes known p ≡ Err fault
found_from-refused bytes known fault p head other is =
    found_from-other bytes known p head other ∙ ap (λ k. found_behind bytes k (rest_from bytes (place_behind bytes p))) is
