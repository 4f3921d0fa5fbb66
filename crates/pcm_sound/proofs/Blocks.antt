-- Blocks of frames, joined: what a slot adds to a block of the mix, whole.
use Rattle.std.proofs.Common.{◌≡◌, ℕ, suc, zero, ◌+◌, ◌-◌, ◌*◌, ◌<◌, ◌≤◌, ◌++◌, length, take, drop, Option, Some, None, refl, sym, ap, ◌∙◌, arith, add-zero, zero-add}
use Rattle.std.specs.List.{range_with_len, flat_map}
use Rattle.std.proofs.lemmas.List.{take_at, drop_at}
use Rattle.std.proofs.lemmas.List.Concat.{flat_map-append}
use Rattle.pcm_format.specs.Frames.{Frame}
use Rattle.pcm_format.proofs.Ranges.{range-add, flat_map-range-same, length-flat_map-range}
use Rattle.pcm_mix.specs.Mix.{mixed}
use Rattle.pcm_mix.proofs.Blocks.{mixed-append}
use Rattle.pcm_sound.specs.Mix.{adding}

-- a block of frames that are each mixed is the mix of the blocks
pub flat_map-mixed : (bits size a n : ℕ) (sum add : ℕ → Frame) → ((k : ℕ) → k < n → length (sum (a + k)) ≡ size) → ((k : ℕ) → k < n → length (add (a + k)) ≡ size)
    → flat_map (λ k. mixed bits (sum k) (add k)) (range_with_len a n) ≡ mixed bits (flat_map sum (range_with_len a n)) (flat_map add (range_with_len a n))
flat_map-mixed bits size a zero sum add s t = refl
flat_map-mixed bits size a (suc n) sum add s t =
    let first : length (sum a) ≡ length (add a) = (let p = s 0 (omega arith) in let q = t 0 (omega arith) in let p' : length (sum a) ≡ size = rw add-zero at p in let q' : length (add a) ≡ size = rw add-zero at q in omega arith) in
    let rest = flat_map-mixed bits size (a + 1) n sum add
    (λ k l. let e = s (k + 1) (omega arith) in let place : a + (k + 1) ≡ a + 1 + k = omega arith in rw place at e)
    (λ k l. let e = t (k + 1) (omega arith) in let place : a + (k + 1) ≡ a + 1 + k = omega arith in rw place at e) in
    rw rest (sym (mixed-append bits (sum a) (flat_map sum (range_with_len (a + 1) n)) (add a) (flat_map add (range_with_len (a + 1) n)) first))

-- What a slot adds to a block of n frames: its own m frames are mixed in at the front, and the rest stays.
pub adding-block : (bits size m n : ℕ) (sum : ℕ → Frame) (given : ℕ → Option Frame) (add : ℕ → Frame) → m ≤ n
    → ((k : ℕ) → k < n → length (sum k) ≡ size) → ((k : ℕ) → k < m → length (add k) ≡ size)
    → ((k : ℕ) → k < m → given k ≡ Some (add k)) → ((k : ℕ) → m ≤ k → k < n → given k ≡ None)
    → flat_map (λ k. adding bits (sum k) (given k)) (range_with_len 0 n)
    ≡ mixed bits (take (m * size) (flat_map sum (range_with_len 0 n))) (flat_map add (range_with_len 0 m)) ++ drop (m * size) (flat_map sum (range_with_len 0 n))
adding-block bits size m n sum given add h s t some none =
    let rest : ℕ = n - m in
    let split : range_with_len 0 n ≡ range_with_len 0 m ++ range_with_len m rest = ap (range_with_len 0) (let e : n ≡ m + (n - m) = omega arith in e) ∙ range-add 0 m rest ∙ ap (λ a. range_with_len 0 m ++ range_with_len a rest) (zero-add m) in
    let front_length : length (flat_map sum (range_with_len 0 m)) ≡ m * size = length-flat_map-range sum size 0 m (λ k l. rw zero-add (s k (omega arith))) in
    let cut : flat_map sum (range_with_len 0 n) ≡ flat_map sum (range_with_len 0 m) ++ flat_map sum (range_with_len m rest) = ap (flat_map sum) split ∙ flat_map-append sum (range_with_len 0 m) (range_with_len m rest) in
    let front : flat_map (λ k. adding bits (sum k) (given k)) (range_with_len 0 m) ≡ mixed bits (flat_map sum (range_with_len 0 m)) (flat_map add (range_with_len 0 m)) =
    flat_map-range-same (λ k. adding bits (sum k) (given k)) (λ k. mixed bits (sum k) (add k)) 0 m (λ k l. rw zero-add (ap (adding bits (sum k)) (some k l)))
    ∙ flat_map-mixed bits size 0 m sum add (λ k l. rw zero-add (s k (omega arith))) (λ k l. rw zero-add (t k l)) in
    let back : flat_map (λ k. adding bits (sum k) (given k)) (range_with_len m rest) ≡ flat_map sum (range_with_len m rest) =
    flat_map-range-same (λ k. adding bits (sum k) (given k)) sum m rest (λ k l. ap (adding bits (sum (m + k))) (none (m + k) (omega arith) (omega arith))) in
    ap (flat_map (λ k. adding bits (sum k) (given k))) split
    ∙ flat_map-append (λ k. adding bits (sum k) (given k)) (range_with_len 0 m) (range_with_len m rest)
    ∙ ap (λ xs. xs ++ flat_map (λ k. adding bits (sum k) (given k)) (range_with_len m rest)) front
    ∙ ap (λ xs. mixed bits (flat_map sum (range_with_len 0 m)) (flat_map add (range_with_len 0 m)) ++ xs) back
    ∙ sym (
    ap (λ xs. mixed bits (take (m * size) xs) (flat_map add (range_with_len 0 m)) ++ drop (m * size) xs) cut
    ∙ ap (λ xs. mixed bits xs (flat_map add (range_with_len 0 m)) ++ drop (m * size) (flat_map sum (range_with_len 0 m) ++ flat_map sum (range_with_len m rest))) (take_at (flat_map sum (range_with_len 0 m)) (flat_map sum (range_with_len m rest)) (m * size) front_length)
    ∙ ap (λ xs. mixed bits (flat_map sum (range_with_len 0 m)) (flat_map add (range_with_len 0 m)) ++ xs) (drop_at (flat_map sum (range_with_len 0 m)) (flat_map sum (range_with_len m rest)) (m * size) front_length))
