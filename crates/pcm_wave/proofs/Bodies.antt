-- Where the chunks and the body of a wave stand: within the bytes.
use Rattle.std.proofs.Common.{◌≡◌, ℕ, zero, suc, ◌+◌, ◌-◌, ◌≤◌, Bool, true, false, nat_le, ◌||◌, cond, List, [], ◌∷◌, length, min, Option, Some, None, Result, Ok, Err, IfOk, arith, subst, codes, refl}
use Rattle.std.specs.List.{find}
use Rattle.std.specs.Option.{IfSome}
use Rattle.std.proofs.lemmas.Bool.Decides.{nat_tests}
use Rattle.pcm_format.specs.declared.settings.Settings.{Settings}
use Rattle.pcm_wave.specs.declared.wave.Wave.{Wave}
use Rattle.pcm_wave.specs.declared.wave.WaveFault.{WaveFault}
use Rattle.pcm_wave.specs.declared.wave.WaveFault.TheVariants.{NoFormat, NotRiff, Truncated}
use Rattle.pcm_wave.specs.Chunks.{has_head, has_body, next_place, places_from, chunk_place, stands_at, body_begin, size_at, is_riff}
use Rattle.pcm_wave.specs.Waves.{format_told, body_told, body_behind, stands_before, wave_at, wave_of, wave_with, open_size}

-- a place at which the head of a chunk stands
pub record HasHead (bytes : List ℕ) (p : ℕ) : Type 0 where
  pub within : p + 8 ≤ length bytes

-- a wave whose body is within the bytes
pub record HasWave (bytes : List ℕ) (wave : Wave) : Type 0 where
  pub within : wave.at + wave.len ≤ length bytes

-- what is found passes what all items pass, a step at a time
pub find-cons : (test : ℕ → Bool) (P : ℕ → Type 0) (p : ℕ) (rest : List ℕ) → P p → IfSome (find test rest) P → IfSome (find test (p ∷ rest)) P
find-cons test P p rest here there = elim (test p) as (λ b. IfSome (cond b (Some p) (find test rest)) P) [ true ↦ here | false ↦ there ]

pub find-cond : (test : ℕ → Bool) (P : ℕ → Type 0) (b : Bool) (list : List ℕ) → (b ≡ true → IfSome (find test list) P) → IfSome (find test (cond b list [])) P
find-cond test P true list found = found refl
find-cond test P false list found = tt

has_head-within : (bytes : List ℕ) (p : ℕ) → has_head bytes p ≡ true → HasHead bytes p
has_head-within bytes p head = record { within = grind (arith, nat_tests) }

-- each place has its head
find-places_from : (test : ℕ → Bool) (count : ℕ) (bytes : List ℕ) (p : ℕ) → IfSome (find test (places_from count bytes p)) (HasHead bytes)
find-places_from test zero bytes p = tt
find-places_from test (suc count) bytes p =
    let rest = cond (has_body bytes p) (places_from count bytes (next_place bytes p)) [] in
    find-cond test (HasHead bytes) (has_head bytes p) (p ∷ rest)
    (λ head. find-cons test (HasHead bytes) p rest (has_head-within bytes p head)
    (find-cond test (HasHead bytes) (has_body bytes p) (places_from count bytes (next_place bytes p)) (λ _. find-places_from test count bytes (next_place bytes p))))

-- the body that a "data" chunk states is within the bytes
body_told-within : (bytes : List ℕ) (settings : Settings) (p : ℕ) → HasHead bytes p → IfOk (body_told bytes settings p) (HasWave bytes)
body_told-within bytes settings p head =
    let wave = wave_with settings (body_begin p) (min (size_at bytes p) (length bytes - body_begin p)) in
    let inside : HasWave bytes wave = record { within = omega arith } in
    elim (has_body bytes p || nat_le open_size (size_at bytes p)) as (λ b. IfOk (cond b (Ok wave) (Err Truncated)) (HasWave bytes)) [ true ↦ inside | false ↦ tt ]

body_behind-within : (bytes : List ℕ) (told : Result Settings WaveFault) (body : Option ℕ) → IfSome body (HasHead bytes) → IfOk (body_behind bytes told body) (HasWave bytes)
body_behind-within bytes (Err fault) body head = tt
body_behind-within bytes (Ok settings) None head = tt
body_behind-within bytes (Ok settings) (Some p) head = body_told-within bytes settings p head

wave_at-within : (bytes : List ℕ) (place body : Option ℕ) → IfSome body (HasHead bytes) → IfOk (wave_at bytes place body) (HasWave bytes)
wave_at-within bytes None body head = tt
wave_at-within bytes (Some p) body head =
    elim (stands_before body p) as (λ b. IfOk (cond b (Err NoFormat) (body_behind bytes (format_told bytes p) body)) (HasWave bytes))
    [ true ↦ tt | false ↦ body_behind-within bytes (format_told bytes p) body head ]

-- the body of a wave is within the bytes
wave_of-within : (bytes : List ℕ) → IfOk (wave_of bytes) (HasWave bytes)
wave_of-within bytes =
    let place = chunk_place bytes (codes "fmt ") in
    let body = chunk_place bytes (codes "data") in
    elim (is_riff bytes) as (λ b. IfOk (cond b (wave_at bytes place body) (Err NotRiff)) (HasWave bytes))
    [ true ↦ wave_at-within bytes place body (find-places_from (λ p. stands_at bytes p (codes "data")) (length bytes) bytes 12) | false ↦ tt ]

pub body-within : (bytes : List ℕ) (wave : Wave) → wave_of bytes ≡ Ok wave → wave.at + wave.len ≤ length bytes
body-within bytes wave is = (subst (λ r. IfOk r (HasWave bytes)) is (wave_of-within bytes)).within
