use Rattle.std.proofs.Common.{◌≡◌, ℕ, ◌+◌, ◌*◌, ◌-◌, ◌<◌, List, [], ◌∷◌, ◌++◌, length, take, drop, set, map, ℤ, slice_range, FitsSigned, w32, ap, sym, ◌∙◌, arith, rules}
use Rattle.std.specs.List.{range_with_len}
use Rattle.std.proofs.lemmas.Int.{to_z-of_z}
use Rattle.std.proofs.lemmas.List.{take_more_set}
use Rattle.std.proofs.lemmas.List.FromFn.{map-range_with_len_more}
use Rattle.pcm_format.specs.declared.format.Format.{Format}
use Rattle.pcm_format.specs.Formats.{bytes_of}
use Rattle.pcm_format.specs.Samples.{loaded, sample_at}
use Rattle.pcm_format.proofs.frame.load_each.Goals as goal

-- the bytes from sample i on are its own
at_place : (f : Format) (bytes : List ℕ) (i width : ℕ) → width ≡ bytes_of f
    → loaded f (slice_range bytes (i * width) (i * width + width)) ≡ sample_at f bytes i
at_place f bytes i width is =
    let long : i * width + width - i * width ≡ bytes_of f = omega arith in
    let start : i * width ≡ i * bytes_of f = ap (λ n. i * n) is in
    ap (λ n. loaded f (take n (drop (i * width) bytes))) long ∙ ap (λ n. loaded f (take (bytes_of f) (drop n bytes))) start

-- one more sample
load_more : (f : Format) (bytes : List ℕ) (out : List ℤ) (i : ℕ) (x : ℤ) → i < length out → x ≡ sample_at f bytes i
    → take i out ≡ map (sample_at f bytes) (range_with_len 0 i)
    → take (i + 1) (set out i x) ≡ map (sample_at f bytes) (range_with_len 0 (i + 1))
load_more f bytes out i x within is before =
    take_more_set out i x within ∙ ap (λ t. t ++ x ∷ []) before ∙ ap (λ y. map (sample_at f bytes) (range_with_len 0 i) ++ y ∷ []) is
    ∙ sym (map-range_with_len_more (sample_at f bytes) 0 i i (omega arith))

pub loop-i-preserved : goal.loop-i-preserved
loop-i-preserved c =
    let f = c.args.f in
    let bytes = c.args.bytes.now in
    let l = c.loop-i in
    let fits : FitsSigned w32 c.load.result = search rules in
    load_more f bytes l.out l.i _ (omega arith)
    (to_z-of_z w32 c.load.result fits ∙ c.load.ensures ∙ at_place f bytes l.i c.bytes-width.result c.bytes-width.ensures) l.invariant
