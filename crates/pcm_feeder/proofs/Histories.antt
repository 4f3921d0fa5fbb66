-- The last frames of a list, at its begin and with more after it.
use Rattle.std.proofs.Common.{◌≡◌, ℕ, List, [], ◌++◌, length, drop, replicate, sym, ap, ◌∙◌, arith}
use Rattle.std.proofs.lemmas.List.{length-append, length-drop, drop-drop, append-nil}
use Rattle.std.proofs.lemmas.List.Elements.{All-append, All-drop}
use Rattle.pcm_format.specs.Frames.{Frame}
use Rattle.pcm_feeder.specs.Streams.{silence, HaveChannels, last_frames, moved_on}
use Rattle.pcm_feeder.proofs.Streams.{history-append}

pub last-begin : (c n : ℕ) → replicate n (silence c) ≡ last_frames c n []
last-begin c n = sym (append-nil (replicate n (silence c)))

pub last-moves : (c n : ℕ) (x more : List Frame) → moved_on (last_frames c n x) more ≡ last_frames c n (x ++ more)
last-moves c n x more =
    ap (drop (length more)) (history-append n (silence c) x more)
    ∙ drop-drop (length more) (length x) (replicate n (silence c) ++ (x ++ more))
    ∙ ap (λ k. drop k (replicate n (silence c) ++ (x ++ more))) (sym (length-append x more))

pub moved-count : (tail more : List Frame) (n : ℕ) → length tail ≡ n → length (moved_on tail more) ≡ n
moved-count tail more n has = omega (arith, length-drop (length more) (tail ++ more), length-append tail more)

pub moved-channels : (c : ℕ) (tail more : List Frame) → HaveChannels c tail → HaveChannels c more → HaveChannels c (moved_on tail more)
moved-channels c tail more tails mores =
    let P : Frame → Type 0 = λ frame. length frame ≡ c in
    All-drop P (length more) (tail ++ more) (All-append P tail more tails mores)
