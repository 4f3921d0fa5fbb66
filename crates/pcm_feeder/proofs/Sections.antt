-- Sections over a list, and over more frames after it.
use Rattle.std.proofs.Common.{◌≡◌, ◌<◌, ◌≤◌, ◌+◌, ◌*◌, ℕ, zero, suc, ℤ, pos, negsuc, neg_ℤ, ◌+ℤ◌, ◌-ℤ◌, ◌≤ℤ◌, ◌<ℤ◌, List, [], ◌∷◌, ◌++◌, length, map, take, drop, get_or, replicate, inl, inr, refl, sym, ap, ◌∙◌, append_assoc, arith}
use Rattle.std.specs.List.{range_with_len}
use Rattle.std.proofs.lemmas.Bool.{cases_lt}
use Rattle.std.proofs.lemmas.Int.{ints}
use Rattle.std.proofs.lemmas.List.{length-append, length-take, length-drop, length-replicate, replicate-append-replicate, take-append-drop, take_at, drop_at, take-take, append-nil, get_or-append-add, get_or_append_left}
use Rattle.std.proofs.lemmas.List.Elements.{All-append, All-drop, All-take, All-cons, All-nil}
use Rattle.std.proofs.lemmas.List.FromFn.{length-map-range_with_len, fill_by_all}
use Rattle.pcm_format.specs.Frames.{Frame}
use Rattle.pcm_feeder.specs.declared.section.Section.{Section}
use Rattle.pcm_feeder.specs.Filters.{Filters}
use Rattle.pcm_feeder.specs.Sections.{weighed, sample_of, weighed_frame, section_frame, outputs_behind, through_section, through_sections, section_at, sections_of, past_of_sections, section_on, sections_on, past_behind}
use Rattle.pcm_feeder.specs.Streams.{Stream, silence, stream_of, frames_until, last_frames, moved_on, HaveChannels}
use Rattle.pcm_feeder.proofs.Histories.{last-begin, last-moves, moved-count, moved-channels}
use Rattle.pcm_feeder.proofs.Streams.{history-append, stream-append, stream-drop, stream-padded}

-- ---- the next outputs of a section

-- the outputs after those before
abbrev pub next : Section → ℕ → List Frame → Stream → ℕ → List Frame
next s c before x zero = []
next s c before x (suc n) = next s c before x n ++ section_frame s c x (stream_of c (before ++ next s c before x n)) (pos (length before + n)) ∷ []

pub length-next : (s : Section) (c : ℕ) (before : List Frame) (x : Stream) (n : ℕ) → length (next s c before x n) ≡ n
length-next s c before x zero = refl
length-next s c before x (suc n) =
    let last = section_frame s c x (stream_of c (before ++ next s c before x n)) (pos (length before + n)) in
    omega (arith, length-append (next s c before x n) (last ∷ []), length-next s c before x n)

pub behind-next : (s : Section) (c : ℕ) (before : List Frame) (x : Stream) (n : ℕ) → outputs_behind s c before x n ≡ before ++ next s c before x n
behind-next s c before x zero = sym (append-nil before)
behind-next s c before x (suc n) =
    let y = before ++ next s c before x n in
    let long : length y ≡ length before + n = length-append before (next s c before x n) ∙ ap (λ k. length before + k) (length-next s c before x n) in
    ap (λ y. y ++ section_frame s c x (stream_of c y) (pos (length y)) ∷ []) (behind-next s c before x n)
    ∙ ap (λ k. y ++ section_frame s c x (stream_of c y) (pos k) ∷ []) long
    ∙ append_assoc before (next s c before x n) (section_frame s c x (stream_of c y) (pos (length before + n)) ∷ [])

-- each has the channels
pub next-channels : (s : Section) (c : ℕ) (before : List Frame) (x : Stream) (n : ℕ) → HaveChannels c (next s c before x n)
next-channels s c before x zero = All-nil (λ frame. length frame ≡ c)
next-channels s c before x (suc n) =
    let P : Frame → Type 0 = λ frame. length frame ≡ c in
    let y = stream_of c (before ++ next s c before x n) in
    let k = pos (length before + n) in
    let last = section_frame s c x y k in
    All-append P (next s c before x n) (last ∷ []) (next-channels s c before x n)
    (All-cons P last [] (length-map-range_with_len (λ i. weighed s (sample_of (x k) i) (sample_of (x (k -ℤ pos 1)) i) (sample_of (x (k -ℤ pos 2)) i) (sample_of (y (k -ℤ pos 1)) i) (sample_of (y (k -ℤ pos 2)) i)) 0 c) (All-nil P))

-- ---- what an output rests on

-- frames after two lists that end alike
joined-same : (c : ℕ) (before other new : List Frame) (a : ℤ) → neg_ℤ (pos 2) ≤ℤ a
    → ((b : ℤ) → neg_ℤ (pos 2) ≤ℤ b → b <ℤ pos 0 → stream_of c before (pos (length before) +ℤ b) ≡ stream_of c other (pos (length other) +ℤ b))
    → a <ℤ pos 0 → stream_of c (before ++ new) (pos (length before + length new) +ℤ a) ≡ stream_of c (other ++ new) (pos (length other + length new) +ℤ a)
joined-same c before other new a least same below = by_place (pos (length new) +ℤ a) refl
  where
    by_place : (q : ℤ) → (pos (length new) +ℤ a) ≡ q → stream_of c (before ++ new) (pos (length before + length new) +ℤ a) ≡ stream_of c (other ++ new) (pos (length other + length new) +ℤ a)
    by_place (pos i) is =
        let here : (pos (length before + length new) +ℤ a) ≡ pos (length before + i) = omega (arith, ints, is) in
        let there : (pos (length other + length new) +ℤ a) ≡ pos (length other + i) = omega (arith, ints, is) in
        ap (stream_of c (before ++ new)) here
        ∙ get_or-append-add before new i (silence c)
        ∙ sym (get_or-append-add other new i (silence c))
        ∙ ap (stream_of c (other ++ new)) (sym there)
    by_place (negsuc i) is =
        let here : (pos (length before + length new) +ℤ a) ≡ (pos (length before) +ℤ negsuc i) = omega (arith, ints, is) in
        let there : (pos (length other + length new) +ℤ a) ≡ (pos (length other) +ℤ negsuc i) = omega (arith, ints, is) in
        ap (stream_of c (before ++ new)) here
        ∙ stream-append c before new (pos (length before) +ℤ negsuc i) (omega (arith, ints))
        ∙ same (negsuc i) (omega (arith, ints, is)) (omega (arith, ints))
        ∙ sym (stream-append c other new (pos (length other) +ℤ negsuc i) (omega (arith, ints)))
        ∙ ap (stream_of c (other ++ new)) (sym there)

-- an output rests on three inputs and two outputs
frame-same : (s : Section) (c : ℕ) (x y z w : Stream) (k l : ℤ) → x k ≡ y l → x (k -ℤ pos 1) ≡ y (l -ℤ pos 1) → x (k -ℤ pos 2) ≡ y (l -ℤ pos 2)
    → z (k -ℤ pos 1) ≡ w (l -ℤ pos 1) → z (k -ℤ pos 2) ≡ w (l -ℤ pos 2) → section_frame s c x z k ≡ section_frame s c y w l
frame-same s c x y z w k l here one two first second =
    ap (λ f. weighed_frame s c f (x (k -ℤ pos 1)) (x (k -ℤ pos 2)) (z (k -ℤ pos 1)) (z (k -ℤ pos 2))) here
    ∙ ap (λ f. weighed_frame s c (y l) f (x (k -ℤ pos 2)) (z (k -ℤ pos 1)) (z (k -ℤ pos 2))) one
    ∙ ap (λ f. weighed_frame s c (y l) (y (l -ℤ pos 1)) f (z (k -ℤ pos 1)) (z (k -ℤ pos 2))) two
    ∙ ap (λ f. weighed_frame s c (y l) (y (l -ℤ pos 1)) (y (l -ℤ pos 2)) f (z (k -ℤ pos 2))) first
    ∙ ap (λ f. weighed_frame s c (y l) (y (l -ℤ pos 1)) (y (l -ℤ pos 2)) (w (l -ℤ pos 1)) f) second

-- and on no output after it
frame-longer : (s : Section) (c : ℕ) (x : Stream) (list more : List Frame) (p : ℕ) → p ≤ length list
    → section_frame s c x (stream_of c list) (pos p) ≡ section_frame s c x (stream_of c (list ++ more)) (pos p)
frame-longer s c x list more p within =
    frame-same s c x x (stream_of c list) (stream_of c (list ++ more)) (pos p) (pos p) refl refl refl
    (sym (stream-append c list more (pos p -ℤ pos 1) (omega (arith, ints)))) (sym (stream-append c list more (pos p -ℤ pos 2) (omega (arith, ints))))

-- one of the next outputs
pub next-at : (s : Section) (c : ℕ) (before : List Frame) (x : Stream) (n k : ℕ) (d : Frame) → k < n
    → get_or (next s c before x n) k d ≡ section_frame s c x (stream_of c (before ++ next s c before x n)) (pos (length before + k))
next-at s c before x zero k d below = absurd (omega (arith, below))
next-at s c before x (suc n) k d below =
    let new = next s c before x n in
    let last = section_frame s c x (stream_of c (before ++ new)) (pos (length before + n)) in
    let long = length-next s c before x n in
    let all : length (before ++ new) ≡ length before + n = omega (arith, length-append before new, long) in
    elim (cases_lt k n) [
      | inl earlier ↦
          get_or_append_left new (last ∷ []) d k (omega (arith, earlier, long))
          ∙ next-at s c before x n k d earlier
          ∙ frame-longer s c x (before ++ new) (last ∷ []) (length before + k) (omega (arith, earlier, all))
          ∙ ap (λ list. section_frame s c x (stream_of c list) (pos (length before + k))) (append_assoc before new (last ∷ []))
      | inr here ↦
          let level : k ≡ length new + 0 = omega (arith, below, here, long) in
          let same : n ≡ k = omega (arith, below, here) in
          ap (λ i. get_or (new ++ last ∷ []) i d) level
          ∙ get_or-append-add new (last ∷ []) 0 d
          ∙ frame-longer s c x (before ++ new) (last ∷ []) (length before + n) (omega (arith, all))
          ∙ ap (λ list. section_frame s c x (stream_of c list) (pos (length before + n))) (append_assoc before new (last ∷ []))
          ∙ ap (λ i. section_frame s c x (stream_of c (before ++ (new ++ last ∷ []))) (pos (length before + i))) same
    ]

-- so the next outputs rest on the inputs from two frames before on, and on the last two outputs
pub next-same : (s : Section) (c : ℕ) (before other : List Frame) (x y : Stream) (n : ℕ)
    → ((a : ℤ) → neg_ℤ (pos 2) ≤ℤ a → a <ℤ pos n → x (pos (length before) +ℤ a) ≡ y (pos (length other) +ℤ a))
    → ((b : ℤ) → neg_ℤ (pos 2) ≤ℤ b → b <ℤ pos 0 → stream_of c before (pos (length before) +ℤ b) ≡ stream_of c other (pos (length other) +ℤ b))
    → next s c before x n ≡ next s c other y n
next-same s c before other x y zero inputs outputs = refl
next-same s c before other x y (suc n) inputs outputs =
    let new = next s c before x n in
    let same : new ≡ next s c other y n = next-same s c before other x y n (λ a least most. inputs a least (omega (arith, ints))) outputs in
    let long = length-next s c before x n in
    let at : (j : ℕ) → j ≤ 2 → x (pos (length before + n) -ℤ pos j) ≡ y (pos (length other + n) -ℤ pos j) =
    λ j few. ap x (omega (arith, ints)) ∙ inputs (pos n -ℤ pos j) (omega (arith, ints)) (omega (arith, ints)) ∙ ap y (omega (arith, ints)) in
    let back : (j : ℕ) → 1 ≤ j → j ≤ 2 → stream_of c (before ++ new) (pos (length before + n) -ℤ pos j) ≡ stream_of c (other ++ new) (pos (length other + n) -ℤ pos j) =
    λ j some few. ap (stream_of c (before ++ new)) (omega (arith, ints, long))
    ∙ joined-same c before other new (neg_ℤ (pos j)) (omega (arith, ints)) outputs (omega (arith, ints))
    ∙ ap (stream_of c (other ++ new)) (omega (arith, ints, long)) in
    let here : x (pos (length before + n)) ≡ y (pos (length other + n)) = ap x (omega (arith, ints)) ∙ inputs (pos n) (omega (arith, ints)) (omega (arith, ints)) ∙ ap y (omega (arith, ints)) in
    ap (λ f. new ++ f ∷ []) (frame-same s c x y (stream_of c (before ++ new)) (stream_of c (other ++ new)) (pos (length before + n)) (pos (length other + n))
    here (at 1 (omega arith)) (at 2 (omega arith)) (back 1 (omega arith) (omega arith)) (back 2 (omega arith) (omega arith)))
    ∙ ap (λ list. list ++ section_frame s c y (stream_of c (other ++ list)) (pos (length other + n)) ∷ []) same

-- the next outputs in two parts
pub next-add : (s : Section) (c : ℕ) (before : List Frame) (x : Stream) (n m : ℕ)
    → next s c before x (n + m) ≡ next s c before x n ++ next s c (before ++ next s c before x n) x m
next-add s c before x n zero =
    let none : n + 0 ≡ n = omega arith in
    ap (next s c before x) none ∙ sym (append-nil (next s c before x n))
next-add s c before x n (suc m) =
    let front = next s c before x n in
    let rest = next s c (before ++ front) x m in
    let long : length before + (n + m) ≡ length (before ++ front) + m = omega (arith, length-append before front, length-next s c before x n) in
    let last : Frame = section_frame s c x (stream_of c ((before ++ front) ++ rest)) (pos (length (before ++ front) + m)) in
    let more : n + suc m ≡ suc (n + m) = omega arith in
    ap (next s c before x) more
    ∙ ap (λ list. list ++ section_frame s c x (stream_of c (before ++ list)) (pos (length before + (n + m))) ∷ []) (next-add s c before x n m)
    ∙ ap (λ list. (front ++ rest) ++ section_frame s c x (stream_of c list) (pos (length before + (n + m))) ∷ []) (sym (append_assoc before front rest))
    ∙ ap (λ k. (front ++ rest) ++ section_frame s c x (stream_of c ((before ++ front) ++ rest)) (pos k) ∷ []) long
    ∙ append_assoc front rest (last ∷ [])

-- ---- one section over a list

pub through-next : (s : Section) (c : ℕ) (x : List Frame) → through_section c s x ≡ next s c [] (stream_of c x) (length x)
through-next s c x = behind-next s c [] (stream_of c x) (length x)

pub length-through : (s : Section) (c : ℕ) (x : List Frame) → length (through_section c s x) ≡ length x
length-through s c x = ap length (through-next s c x) ∙ length-next s c [] (stream_of c x) (length x)

pub through-channels : (s : Section) (c : ℕ) (x : List Frame) → HaveChannels c (through_section c s x)
through-channels s c x = rw (through-next s c x) (next-channels s c [] (stream_of c x) (length x))

-- the last two frames of a list, and those after them
tail-stream : (c : ℕ) (x more : List Frame) (a : ℤ) → neg_ℤ (pos 2) ≤ℤ a → stream_of c (last_frames c 2 x ++ more) (pos 2 +ℤ a) ≡ stream_of c (x ++ more) (pos (length x) +ℤ a)
tail-stream c x more a least = by_place (pos 2 +ℤ a) refl
  where
    by_place : (q : ℤ) → (pos 2 +ℤ a) ≡ q → stream_of c (last_frames c 2 x ++ more) (pos 2 +ℤ a) ≡ stream_of c (x ++ more) (pos (length x) +ℤ a)
    by_place (negsuc k) is = absurd (omega (arith, ints, is))
    by_place (pos k) is =
        let moved : pos (length x + k) ≡ (pos 2 +ℤ (pos (length x) +ℤ a)) = omega (arith, ints, is) in
        ap (stream_of c (last_frames c 2 x ++ more)) is
        ∙ ap (λ list. stream_of c list (pos k)) (history-append 2 (silence c) x more)
        ∙ stream-drop c (length x) k (replicate 2 (silence c) ++ (x ++ more))
        ∙ ap (stream_of c (replicate 2 (silence c) ++ (x ++ more))) moved
        ∙ stream-padded c 2 (x ++ more) (pos (length x) +ℤ a) (omega (arith, ints))

last-stream : (c : ℕ) (x : List Frame) (a : ℤ) → neg_ℤ (pos 2) ≤ℤ a → stream_of c (last_frames c 2 x) (pos 2 +ℤ a) ≡ stream_of c x (pos (length x) +ℤ a)
last-stream c x a least =
    ap (λ list. stream_of c list (pos 2 +ℤ a)) (sym (append-nil (last_frames c 2 x)))
    ∙ tail-stream c x [] a least
    ∙ ap (λ list. stream_of c list (pos (length x) +ℤ a)) (append-nil x)

pub length-last : (c n : ℕ) (x : List Frame) → length (last_frames c n x) ≡ n
length-last c n x = omega (arith, length-drop (length x) (replicate n (silence c) ++ x), length-append (replicate n (silence c)) x, length-replicate n (silence c))

-- over a longer list it goes on as the last two frames of its input and of its outputs say
pub through-on : (s : Section) (c : ℕ) (x more : List Frame)
    → through_section c s (x ++ more) ≡ through_section c s x ++ section_on c s (last_frames c 2 x) (last_frames c 2 (through_section c s x)) more
through-on s c x more =
    let all = stream_of c (x ++ more) in
    let n = length x in
    let m = length more in
    let y = through_section c s x in
    let before = last_frames c 2 y in
    let window = stream_of c (last_frames c 2 x ++ more) in
    let two : length before ≡ 2 = length-last c 2 y in
    let long = length-through s c x in
    let front : next s c [] all n ≡ y =
    next-same s c [] [] all (stream_of c x) n (λ a least most. stream-append c x more (pos 0 +ℤ a) (omega (arith, ints))) (λ b least below. refl) ∙ sym (through-next s c x) in
    let rest : next s c y all m ≡ next s c before window m =
    next-same s c y before all window m
    (λ a least most. ap all (omega (arith, ints, long)) ∙ sym (tail-stream c x more a least) ∙ ap window (omega (arith, ints, two)))
    (λ b least below. sym (last-stream c y b least) ∙ ap (stream_of c before) (omega (arith, ints, two))) in
    through-next s c (x ++ more)
    ∙ ap (next s c [] all) (length-append x more)
    ∙ next-add s c [] all n m
    ∙ ap (λ list. list ++ next s c list all m) front
    ∙ ap (λ list. y ++ list) (rest ∙ sym (drop_at before (next s c before window m) 2 two) ∙ ap (drop 2) (sym (behind-next s c before window m)))

-- ---- sections, one after another

pub length-sections : (c : ℕ) (sections : List Section) (x : List Frame) → length (through_sections c sections x) ≡ length x
length-sections c [] x = refl
length-sections c (s ∷ rest) x = length-sections c rest (through_section c s x) ∙ length-through s c x

pub sections-channels : (c : ℕ) (sections : List Section) (x : List Frame) → HaveChannels c x → HaveChannels c (through_sections c sections x)
sections-channels c [] x have = have
sections-channels c (s ∷ rest) x have = sections-channels c rest (through_section c s x) (through-channels s c x)

-- what is kept begins with the last two frames of the input
past-first : (c : ℕ) (sections : List Section) (x : List Frame) → take 2 (past_of_sections c sections x) ≡ last_frames c 2 x
past-first c [] x = ap (take 2) (sym (append-nil (last_frames c 2 x))) ∙ take_at (last_frames c 2 x) [] 2 (length-last c 2 x)
past-first c (s ∷ rest) x = take_at (last_frames c 2 x) (past_of_sections c rest (through_section c s x)) 2 (length-last c 2 x)

past-rest : (c : ℕ) (s : Section) (rest : List Section) (x : List Frame) → drop 2 (past_of_sections c (s ∷ rest) x) ≡ past_of_sections c rest (through_section c s x)
past-rest c s rest x = drop_at (last_frames c 2 x) (past_of_sections c rest (through_section c s x)) 2 (length-last c 2 x)

-- a section goes on by what is kept
section-on : (c : ℕ) (s : Section) (rest : List Section) (x more : List Frame)
    → through_section c s x ++ section_on c s (take 2 (past_of_sections c (s ∷ rest) x)) (take 2 (drop 2 (past_of_sections c (s ∷ rest) x))) more ≡ through_section c s (x ++ more)
section-on c s rest x more =
    let y = through_section c s x in
    ap (λ input. y ++ section_on c s input (take 2 (drop 2 (past_of_sections c (s ∷ rest) x))) more) (past-first c (s ∷ rest) x)
    ∙ ap (λ output. y ++ section_on c s (last_frames c 2 x) output more) (ap (take 2) (past-rest c s rest x) ∙ past-first c rest y)
    ∙ sym (through-on s c x more)

-- and so do all
pub sections-go_on : (c : ℕ) (sections : List Section) (x more : List Frame)
    → through_sections c sections (x ++ more) ≡ through_sections c sections x ++ sections_on c sections (past_of_sections c sections x) more
sections-go_on c [] x more = refl
sections-go_on c (s ∷ rest) x more =
    let y = through_section c s x in
    let past = past_of_sections c (s ∷ rest) x in
    let new = section_on c s (take 2 past) (take 2 (drop 2 past)) more in
    ap (through_sections c rest) (sym (section-on c s rest x more))
    ∙ sections-go_on c rest y new
    ∙ ap (λ kept. through_sections c rest y ++ sections_on c rest kept new) (sym (past-rest c s rest x))

-- ---- what is kept

-- at the begin it is silence
pub past-silent : (c : ℕ) (sections : List Section) → replicate (2 + 2 * length sections) (silence c) ≡ past_of_sections c sections []
past-silent c [] = last-begin c 2
past-silent c (s ∷ rest) =
    let more : 2 + 2 * suc (length rest) ≡ 2 + (2 + 2 * length rest) = omega arith in
    ap (λ n. replicate n (silence c)) more
    ∙ sym (replicate-append-replicate 2 (2 + 2 * length rest) (silence c))
    ∙ ap (λ first. first ++ replicate (2 + 2 * length rest) (silence c)) (last-begin c 2)
    ∙ ap (λ list. last_frames c 2 [] ++ list) (past-silent c rest)

-- it moves on with the frames eaten
pub past-goes_on : (c : ℕ) (sections : List Section) (x more : List Frame) → past_behind c sections (past_of_sections c sections x) more ≡ past_of_sections c sections (x ++ more)
past-goes_on c [] x more = last-moves c 2 x more
past-goes_on c (s ∷ rest) x more =
    let y = through_section c s x in
    let past = past_of_sections c (s ∷ rest) x in
    let new = section_on c s (take 2 past) (take 2 (drop 2 past)) more in
    ap (λ input. moved_on input more ++ past_behind c rest (drop 2 past) new) (past-first c (s ∷ rest) x)
    ∙ ap (λ first. first ++ past_behind c rest (drop 2 past) new) (last-moves c 2 x more)
    ∙ ap (λ kept. last_frames c 2 (x ++ more) ++ past_behind c rest kept new) (past-rest c s rest x)
    ∙ ap (λ list. last_frames c 2 (x ++ more) ++ list) (past-goes_on c rest y new ∙ ap (past_of_sections c rest) (section-on c s rest x more))

-- it keeps its length
pub behind-count : (c : ℕ) (sections : List Section) (tail more : List Frame) → length tail ≡ 2 + 2 * length sections → length (past_behind c sections tail more) ≡ 2 + 2 * length sections
behind-count c [] tail more has = moved-count tail more 2 has
behind-count c (s ∷ rest) tail more has =
    let new = section_on c s (take 2 tail) (take 2 (drop 2 tail)) more in
    let first = moved-count (take 2 tail) more 2 (omega (arith, length-take 2 tail)) in
    let left = behind-count c rest (drop 2 tail) new (omega (arith, length-drop 2 tail)) in
    omega (arith, length-append (moved_on (take 2 tail) more) (past_behind c rest (drop 2 tail) new), first, left)

-- what comes of more frames has as many frames
pub length-on : (c : ℕ) (sections : List Section) (tail more : List Frame) → length tail ≡ 2 + 2 * length sections → length (sections_on c sections tail more) ≡ length more
length-on c [] tail more has = refl
length-on c (s ∷ rest) tail more has =
    let output = take 2 (drop 2 tail) in
    let window = stream_of c (take 2 tail ++ more) in
    let all = outputs_behind s c output window (length more) in
    let new = section_on c s (take 2 tail) output more in
    let left = length-drop 2 tail in
    let two : length output ≡ 2 = omega (arith, length-take 2 (drop 2 tail)) in
    let total = ap length (behind-next s c output window (length more)) ∙ length-append output (next s c output window (length more)) in
    length-on c rest (drop 2 tail) new (omega arith)
    ∙ omega (arith, length-drop 2 all, total, length-next s c output window (length more))

-- of its channels
section-channels : (c : ℕ) (s : Section) (input output more : List Frame) → HaveChannels c output → HaveChannels c (section_on c s input output more)
section-channels c s input output more have =
    let P : Frame → Type 0 = λ frame. length frame ≡ c in
    let window = stream_of c (input ++ more) in
    let new = next s c output window (length more) in
    All-drop P 2 (outputs_behind s c output window (length more))
    (rw (behind-next s c output window (length more)) (All-append P output new have (next-channels s c output window (length more))))

pub on-channels : (c : ℕ) (sections : List Section) (tail more : List Frame) → HaveChannels c tail → HaveChannels c more → HaveChannels c (sections_on c sections tail more)
on-channels c [] tail more tails mores = mores
on-channels c (s ∷ rest) tail more tails mores =
    let P : Frame → Type 0 = λ frame. length frame ≡ c in
    let left = All-drop P 2 tail tails in
    let output = take 2 (drop 2 tail) in
    on-channels c rest (drop 2 tail) (section_on c s (take 2 tail) output more) left
    (section-channels c s (take 2 tail) output more (All-take P 2 (drop 2 tail) left))

-- and what is kept has them too
pub behind-channels : (c : ℕ) (sections : List Section) (tail more : List Frame) → HaveChannels c tail → HaveChannels c more → HaveChannels c (past_behind c sections tail more)
behind-channels c [] tail more tails mores = moved-channels c tail more tails mores
behind-channels c (s ∷ rest) tail more tails mores =
    let P : Frame → Type 0 = λ frame. length frame ≡ c in
    let input = take 2 tail in
    let output = take 2 (drop 2 tail) in
    let left = All-drop P 2 tail tails in
    let new = section_on c s input output more in
    let news = section-channels c s input output more (All-take P 2 (drop 2 tail) left) in
    All-append P (moved_on input more) (past_behind c rest (drop 2 tail) new)
    (moved-channels c input more (All-take P 2 tail tails) mores)
    (behind-channels c rest (drop 2 tail) new left news)

-- there are n sections
pub length-sections_of : (tables : Filters) (n : ℕ) → length (sections_of tables n) ≡ n
length-sections_of tables n = length-map-range_with_len (section_at tables) 0 n

-- ---- as a stage

-- the first frames of a list
pub first-take : (c n : ℕ) (x : List Frame) → n ≤ length x → frames_until (stream_of c x) n ≡ take n x
first-take c n x within =
    sym (fill_by_all (λ k. stream_of c x (pos k)) (take n x) n (silence c) (omega (arith, length-take n x))
    (λ k below. sym (get_or_append_left (take n x) (drop n x) (silence c) k (omega (arith, length-take n x))) ∙ ap (λ list. get_or list k (silence c)) (take-append-drop n x)))

-- an output over the first frames is that over all
pub output-early : (c : ℕ) (sections : List Section) (x : List Frame) (n k : ℕ) → n ≤ length x → k < n
    → stream_of c (through_sections c sections (take n x)) (pos k) ≡ stream_of c (through_sections c sections x) (pos k)
output-early c sections x n k within below =
    let front = through_sections c sections (take n x) in
    let rest = sections_on c sections (past_of_sections c sections (take n x)) (drop n x) in
    sym (get_or_append_left front rest (silence c) k (omega (arith, length-sections c sections (take n x), length-take n x)))
    ∙ ap (λ list. get_or list k (silence c)) (sym (sections-go_on c sections (take n x) (drop n x)) ∙ ap (through_sections c sections) (take-append-drop n x))

-- what sections make of more frames, one by one
pub on-outputs : (c : ℕ) (sections : List Section) (x more all : List Frame) (given count : ℕ) → length x ≡ given → length more ≡ count → given + count ≤ length all → take (given + count) all ≡ x ++ more
    → sections_on c sections (past_of_sections c sections x) more
    ≡ map (λ j. stream_of c (through_sections c sections (frames_until (stream_of c all) (given + j + 1))) (pos (given + j))) (range_with_len 0 count)
on-outputs c sections x more all given count has new within front =
    let before = through_sections c sections x in
    let after = sections_on c sections (past_of_sections c sections x) more in
    let whole : before ++ after ≡ through_sections c sections (take (given + count) all) = sym (sections-go_on c sections x more) ∙ ap (through_sections c sections) (sym front) in
    let long = length-sections c sections x in
    let total : length before + length after ≡ given + count =
    sym (length-append before after) ∙ ap length whole ∙ length-sections c sections (take (given + count) all) ∙ ap length front ∙ length-append x more ∙ omega arith in
    fill_by_all (λ j. stream_of c (through_sections c sections (frames_until (stream_of c all) (given + j + 1))) (pos (given + j))) after count (silence c) (omega arith)
    (λ j below.
    let early : frames_until (stream_of c all) (given + j + 1) ≡ take (given + j + 1) (take (given + count) all) =
    first-take c (given + j + 1) all (omega arith) ∙ sym (take-take (given + j + 1) (given + count) all (omega arith)) in
    let place : length before + j ≡ given + j = omega arith in
    sym (get_or-append-add before after j (silence c))
    ∙ ap (λ k. get_or (before ++ after) k (silence c)) place
    ∙ ap (λ list. get_or list (given + j) (silence c)) whole
    ∙ sym (output-early c sections (take (given + count) all) (given + j + 1) (given + j) (omega (arith, length-take (given + count) all)) (omega arith))
    ∙ ap (λ list. stream_of c (through_sections c sections list) (pos (given + j))) (sym early))
