use Rattle.std.proofs.Common.{◌≡◌, ℕ, ◌+◌, ◌-◌, ◌/◌, ◌%◌, ◌<◌, suc, List, [], ◌∷◌, ◌++◌, length, take, set, ap, ◌∙◌, arith, append_assoc, length-set}
use Rattle.std.proofs.lemmas.List.{take_more_set}
use Rattle.pcm_format.specs.Samples.{low_bytes}
use Rattle.pcm_format.proofs.sample.put_low_bytes.Goals as goal

-- one more byte of the rest
put_more : (out : List ℕ) (i rest number : ℕ) → i < length out → take i out
    ++ low_bytes (length out - i) rest ≡ low_bytes (length out) number
    → take (i + 1) (set out i (rest % 256)) ++ low_bytes (length (set out i (rest % 256)) - (i + 1)) (rest / 256) ≡ low_bytes
    (length (set out i (rest % 256))) number
put_more out i rest number within before =
    let one : suc (length out - (i + 1)) ≡ length out - i = omega arith in
    let left = low_bytes (length out - (i + 1)) (rest / 256) in
    rw (length-set out i (rest % 256)) (ap (λ t. t ++ left) (take_more_set out i (rest % 256) within)
    ∙ append_assoc (take i out) (rest % 256 ∷ []) left ∙ ap (λ n. take i out ++ low_bytes n rest) one ∙ before)

pub loop-byte-preserved : goal.loop-byte-preserved
loop-byte-preserved c =
    let l = c.loop-byte in
    put_more l.out l.byte-index l.rest c.args.number (omega arith) l.invariant
