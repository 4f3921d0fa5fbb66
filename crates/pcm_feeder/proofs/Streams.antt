-- Lists of frames as streams: cut, with silence before them, and from a later frame on.
use Rattle.std.proofs.Common.{◌≡◌, ◌<◌, ◌≤◌, ◌+◌, ◌-◌, ℕ, suc, ℤ, pos, negsuc, neg_ℤ, ◌+ℤ◌, ◌≤ℤ◌, ◌<ℤ◌, List, ◌++◌, length, take, drop, get_or, replicate, inl, inr, refl, sym, ap, ◌∙◌, arith}
use Rattle.std.proofs.lemmas.Bool.{cases_lt}
use Rattle.std.proofs.lemmas.Int.{ints}
use Rattle.std.proofs.lemmas.List.{get_or-take, get_or-drop, get_or-append-add, get_or_append_left, get_or-replicate, get_or_past, get_or-append_right, length-replicate, append_assoc, drop-append-le, length-append}
use Rattle.pcm_format.specs.Frames.{Frame}
use Rattle.pcm_feeder.specs.Streams.{silence, stream_of, HaveChannels}

-- what is cut off after a place doesn't change it
pub stream-take : (c n : ℕ) (frames : List Frame) (place : ℤ) → place <ℤ pos n → stream_of c (take n frames) place ≡ stream_of c frames place
stream-take c n frames (pos k) below = get_or-take n frames k (silence c) (omega (arith, ints))
stream-take c n frames (negsuc k) below = refl

-- a list from a later frame on
pub stream-drop : (c n k : ℕ) (frames : List Frame) → stream_of c (drop n frames) (pos k) ≡ stream_of c frames (pos (n + k))
stream-drop c n k frames = get_or-drop n frames k (silence c)

-- silence before a list only moves it
pub stream-padded : (c t : ℕ) (frames : List Frame) (place : ℤ) → neg_ℤ (pos t) ≤ℤ place
    → stream_of c (replicate t (silence c) ++ frames) (pos t +ℤ place) ≡ stream_of c frames place
stream-padded c t frames (pos k) within =
    ap (λ n. get_or (replicate t (silence c) ++ frames) (n + k) (silence c)) (sym (length-replicate t (silence c)))
    ∙ get_or-append-add (replicate t (silence c)) frames k (silence c)
stream-padded c t frames (negsuc k) within =
    let back : pos t +ℤ negsuc k ≡ pos (t - suc k) = omega (arith, ints) in
    let here : t - suc k < length (replicate t (silence c)) = omega (arith, ints, length-replicate t (silence c)) in
    ap (stream_of c (replicate t (silence c) ++ frames)) back
    ∙ get_or_append_left (replicate t (silence c)) frames (silence c) (t - suc k) here
    ∙ get_or-replicate t (t - suc k) (silence c) (silence c) (omega (arith, ints))

-- the last frames of a list, followed by more, are the last ones of both with silence before them
pub history-append : (t : ℕ) (s : Frame) (x more : List Frame)
    → drop (length x) (replicate t s ++ x) ++ more ≡ drop (length x) (replicate t s ++ (x ++ more))
history-append t s x more =
    let within : length x ≤ length (replicate t s ++ x) = omega (arith, length-append (replicate t s) x) in
    sym (drop-append-le (length x) (replicate t s ++ x) more within) ∙ ap (drop (length x)) (append_assoc (replicate t s) x more)

-- frames after a list change no place before them
pub stream-append : (c : ℕ) (x more : List Frame) (place : ℤ) → place <ℤ pos (length x) → stream_of c (x ++ more) place ≡ stream_of c x place
stream-append c x more (pos k) below = get_or_append_left x more (silence c) k (omega (arith, ints))
stream-append c x more (negsuc k) below = refl

-- silence after a list changes no place
pub stream-silence-after : (c n : ℕ) (x : List Frame) (place : ℤ) → stream_of c (x ++ replicate n (silence c)) place ≡ stream_of c x place
stream-silence-after c n x (negsuc k) = refl
stream-silence-after c n x (pos k) =
    elim (cases_lt k (length x)) [
      | inl within ↦ get_or_append_left x (replicate n (silence c)) (silence c) k within
      | inr past ↦ get_or-append_right x (replicate n (silence c)) (length x) k (silence c) refl past ∙ get_or-silence n (k - length x) ∙ sym (get_or_past x k (silence c) past)
    ]
  where
    get_or-silence : (m i : ℕ) → get_or (replicate m (silence c)) i (silence c) ≡ silence c
    get_or-silence m i =
        elim (cases_lt i m) [
          | inl within ↦ get_or-replicate m i (silence c) (silence c) within
          | inr past ↦ get_or_past (replicate m (silence c)) i (silence c) (omega (arith, length-replicate m (silence c)))
        ]

-- a list of frames has a frame of these channels at each place
pub stream-channels : (c : ℕ) (frames : List Frame) (place : ℤ) → HaveChannels c frames → length (stream_of c frames place) ≡ c
stream-channels c frames (pos k) have =
    elim (cases_lt k (length frames)) [
      | inl within ↦ have k (silence c) within
      | inr past ↦ ap length (get_or_past frames k (silence c) past) ∙ length-replicate c (pos 0)
    ]
stream-channels c frames (negsuc k) have = length-replicate c (pos 0)
