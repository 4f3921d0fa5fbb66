-- The last frames as samples: at the begin, and after more were eaten.
use Rattle.std.proofs.Common.{◌≡◌, ◌<◌, ◌≤◌, ◌+◌, ◌*◌, ◌%◌, ℕ, ℤ, zero, suc, pos, List, [], ◌++◌, length, take, drop, replicate, sym, ap, ◌∙◌, arith}
use Rattle.std.proofs.Math.Nat.{mul-mod_left}
use Rattle.std.proofs.Math.Seq.{take-append_seam}
use Rattle.std.proofs.lemmas.List.{take-replicate, replicate-append-replicate, length-replicate, length-take-le, length-drop, length-append, append-nil}
use Rattle.std.proofs.lemmas.List.Elements.{All-replicate}
use Rattle.pcm_format.specs.Frames.{Frame}
use Rattle.pcm_feeder.specs.Streams.{frames_of, interleaved, silence, moved_on}
use Rattle.pcm_feeder.proofs.Frames.{frames_of-interleaved}
use Rattle.pcm_feeder.proofs.Mapped.{frames-there}
use Rattle.pcm_feeder.proofs.Writing.{frames-moved}

-- silent frames, joined
joined : (c n : ℕ) → replicate (n * c) (pos 0) ≡ interleaved (replicate n (silence c))
joined c zero =
    let none : zero * c ≡ 0 = omega arith in
    ap (λ m. replicate m (pos 0)) none
joined c (suc n) =
    let more : suc n * c ≡ c + n * c = omega arith in
    ap (λ m. replicate m (pos 0)) more
    ∙ sym (replicate-append-replicate c (n * c) (pos 0))
    ∙ ap (λ rest. silence c ++ rest) (joined c n)

-- the first n frames of silent samples
pub silent-frames : (c n room : ℕ) → 0 < c → n * c ≤ room → frames_of c (take (n * c) (replicate room (pos 0))) ≡ replicate n (silence c)
silent-frames c n room above fits =
    let P : Frame → Type 0 = λ frame. length frame ≡ c in
    ap (frames_of c) (take-replicate (n * c) room (pos 0) fits ∙ joined c n)
    ∙ frames_of-interleaved c (replicate n (silence c)) above (All-replicate P n (silence c) (length-replicate c (pos 0)))

-- the first n frames of the samples, after a feed that had passed none
pub frames-kept : (c n eaten : ℕ) (last new input : List ℤ) (before : List Frame) → 0 < c → n * c ≤ length last → eaten * c ≤ length input
    → new ≡ drop (length (take (eaten * c) input)) (take (n * c) last ++ take (eaten * c) input) → frames_of c (take (n * c) last) ≡ before ++ []
    → frames_of c (take (n * c) (new ++ drop (n * c) last)) ≡ moved_on before (take eaten (frames_of c input))
frames-kept c n eaten last new input before above fits there is was =
    let kept = take (n * c) last in
    let more = take (eaten * c) input in
    let long : length kept ≡ n * c = length-take-le (n * c) last fits in
    let even : length kept % c ≡ 0 = ap (λ m. m % c) long ∙ mul-mod_left n c in
    let count : length new ≡ n * c = ap length is ∙ omega (arith, length-drop (length more) (kept ++ more), length-append kept more, long) in
    ap (λ m. frames_of c (take m (new ++ drop (n * c) last))) (sym count)
    ∙ ap (frames_of c) (take-append_seam new (drop (n * c) last) ∙ is)
    ∙ frames-moved c eaten kept input above even (frames-there c (length input) eaten above there)
    ∙ ap (λ tail. moved_on tail (take eaten (frames_of c input))) (was ∙ append-nil before)
