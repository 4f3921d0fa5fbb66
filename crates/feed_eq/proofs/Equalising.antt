-- Sections are gone through one after another: what is left to be done gives the same.
use Rattle.std.proofs.Common.{◌≡◌, ◌<◌, ◌≤◌, ◌+◌, ◌-◌, ◌*◌, ◌/◌, ℕ, zero, suc, ℤ, List, [], ◌∷◌, ◌++◌, length, take, drop, get_or, set, replicate, All, refl, sym, ap, ◌∙◌, append_assoc, arith}
use Rattle.std.proofs.Math.Nat.{mul-div_cancel}
use Rattle.std.proofs.lemmas.List.{append-nil, drop_all, drop_at, drop_more, drop-set-lt, length-take-le, take_all, take_at, take_more_set, replicate-append-replicate}
use Rattle.std.proofs.lemmas.List.Concat.{flat_map-append}
use Rattle.pcm_format.specs.Frames.{Frame}
use Rattle.pcm_feeder.specs.declared.last_frames.LastFrames.{LastFrames}
use Rattle.pcm_feeder.specs.declared.section.Section.{Section}
use Rattle.pcm_feeder.specs.LastFrames.{frames_kept, kept_after_eating}
use Rattle.pcm_feeder.specs.Sections.{section_on, sections_on, past_behind}
use Rattle.pcm_feeder.specs.Streams.{frames_of, moved_on, silence}
use Rattle.pcm_feeder.proofs.Frames.{length-frames_of}
use Rattle.feed_eq.specs.Pairs.{IsPair, pair_frames}

-- ---- pairs of frames

-- a pair has two frames
pub pair-samples : (c : ℕ) (last : LastFrames) → IsPair c last → last.frames * last.channels ≡ 2 * c
pair-samples c last is = ap (λ n. n * last.channels) is.two ∙ ap (λ n. 2 * n) is.width

pair-count : (c : ℕ) (last : LastFrames) → 0 < c → IsPair c last → length (frames_kept last) ≡ 2
pair-count c last above is =
    let size : last.len ≡ 2 * c = last.size ∙ pair-samples c last is in
    let fits : last.len ≤ length last.samples = omega (arith, size, last.room, last.limits.most, is.width) in
    length-frames_of last.channels (take last.len last.samples)
    ∙ ap (λ n. n / last.channels) (length-take-le last.len last.samples fits ∙ size)
    ∙ ap (λ n. 2 * c / n) is.width
    ∙ mul-div_cancel 2 above

-- after it has eaten all frames
pub eaten-all : (c n : ℕ) (last new : LastFrames) (samples : List ℤ) → IsPair c last → n ≡ length samples / c → frames_kept new ≡ kept_after_eating last samples n
    → frames_kept new ≡ moved_on (frames_kept last) (frames_of c samples)
eaten-all c n last new samples is all eaten =
    let long : length (frames_of c samples) ≤ n = omega (arith, length-frames_of c samples, all) in
    eaten
    ∙ ap (λ w. moved_on (frames_kept last) (take n (frames_of w samples))) is.width
    ∙ ap (moved_on (frames_kept last)) (take_all n (frames_of c samples) long)

-- ---- the first section

head-frames : (c : ℕ) (last : LastFrames) (rest : List LastFrames) → 0 < c → IsPair c last → take 2 (pair_frames (last ∷ rest)) ≡ frames_kept last
head-frames c last rest above is = take_at (frames_kept last) (pair_frames rest) 2 (pair-count c last above is)

tail-frames : (c : ℕ) (last : LastFrames) (rest : List LastFrames) → 0 < c → IsPair c last → drop 2 (pair_frames (last ∷ rest)) ≡ pair_frames rest
tail-frames c last rest above is = drop_at (frames_kept last) (pair_frames rest) 2 (pair-count c last above is)

-- what it makes
made-first : (c : ℕ) (section : Section) (input output : LastFrames) (rest : List LastFrames) (more : List Frame) → 0 < c → IsPair c input → IsPair c output
    → section_on c section (take 2 (pair_frames (input ∷ output ∷ rest))) (take 2 (drop 2 (pair_frames (input ∷ output ∷ rest)))) more
    ≡ section_on c section (frames_kept input) (frames_kept output) more
made-first c section input output rest more above first second =
    ap (λ list. section_on c section list (take 2 (drop 2 (pair_frames (input ∷ output ∷ rest)))) more) (head-frames c input (output ∷ rest) above first)
    ∙ ap (λ list. section_on c section (frames_kept input) list more) (ap (take 2) (tail-frames c input (output ∷ rest) above first) ∙ head-frames c output rest above second)

-- and what the others make of that
on-first : (c : ℕ) (section : Section) (sections : List Section) (input output : LastFrames) (rest : List LastFrames) (more : List Frame) → 0 < c → IsPair c input → IsPair c output
    → sections_on c (section ∷ sections) (pair_frames (input ∷ output ∷ rest)) more ≡ sections_on c sections (pair_frames (output ∷ rest)) (section_on c section (frames_kept input) (frames_kept output) more)
on-first c section sections input output rest more above first second =
    let all = pair_frames (input ∷ output ∷ rest) in
    ap (λ tail. sections_on c sections tail (section_on c section (take 2 all) (take 2 (drop 2 all)) more)) (tail-frames c input (output ∷ rest) above first)
    ∙ ap (sections_on c sections (pair_frames (output ∷ rest))) (made-first c section input output rest more above first second)

behind-first : (c : ℕ) (section : Section) (sections : List Section) (input output : LastFrames) (rest : List LastFrames) (more : List Frame) → 0 < c → IsPair c input → IsPair c output
    → past_behind c (section ∷ sections) (pair_frames (input ∷ output ∷ rest)) more
    ≡ moved_on (frames_kept input) more ++ past_behind c sections (pair_frames (output ∷ rest)) (section_on c section (frames_kept input) (frames_kept output) more)
behind-first c section sections input output rest more above first second =
    let all = pair_frames (input ∷ output ∷ rest) in
    let made = section_on c section (take 2 all) (take 2 (drop 2 all)) more in
    ap (λ front. moved_on front more ++ past_behind c sections (drop 2 all) made) (head-frames c input (output ∷ rest) above first)
    ∙ ap (λ tail. moved_on (frames_kept input) more ++ past_behind c sections tail made) (tail-frames c input (output ∷ rest) above first)
    ∙ ap (λ list. moved_on (frames_kept input) more ++ past_behind c sections (pair_frames (output ∷ rest)) list) (made-first c section input output rest more above first second)

-- ---- one section after another

-- the pairs from one on, of n and one
abbrev pub window : ℕ → ℕ → List LastFrames → List LastFrames
window n at lasts = take (n + 1 - at) (drop at lasts)

window-more : (n at : ℕ) (lasts : List LastFrames) (d : LastFrames) → at ≤ n → n < length lasts → window n at lasts ≡ get_or lasts at d ∷ window n (at + 1) lasts
window-more n at lasts d within room =
    let more : n + 1 - at ≡ suc (n + 1 - (at + 1)) = omega (arith, within) in
    ap (λ k. take k (drop at lasts)) more ∙ ap (take (suc (n + 1 - (at + 1)))) (drop_more lasts at d (omega (arith, within, room)))

window-set : (n at : ℕ) (lasts : List LastFrames) (new : LastFrames) → window n (at + 1) (set lasts at new) ≡ window n (at + 1) lasts
window-set n at lasts new = ap (take (n + 1 - (at + 1))) (drop-set-lt (at + 1) lasts at new (omega arith))

-- pairs up to one, with that one
pub front-more : (at : ℕ) (lasts : List LastFrames) (new : LastFrames) → at < length lasts → pair_frames (take (at + 1) (set lasts at new)) ≡ pair_frames (take at lasts) ++ frames_kept new
front-more at lasts new within =
    ap pair_frames (take_more_set lasts at new within)
    ∙ flat_map-append frames_kept (take at lasts) (new ∷ [])
    ∙ ap (λ list. pair_frames (take at lasts) ++ list) (append-nil (frames_kept new))

-- after one more section what is left gives the same
pub record GoesOn (c n at : ℕ) (sections : List Section) (lasts after : List LastFrames) (more made : List Frame) : Type 0 where
  pub left : sections_on c (drop at sections) (pair_frames (window n at lasts)) more ≡ sections_on c (drop (at + 1) sections) (pair_frames (window n (at + 1) after)) made
  pub kept : pair_frames (take at lasts) ++ past_behind c (drop at sections) (pair_frames (window n at lasts)) more
      ≡ pair_frames (take (at + 1) after) ++ past_behind c (drop (at + 1) sections) (pair_frames (window n (at + 1) after)) made

pub goes-on : (c at : ℕ) (sections : List Section) (lasts : List LastFrames) (new d : LastFrames) (e : Section) (more made : List Frame) → 0 < c → at < length sections → length sections < length lasts
    → All (IsPair c) lasts → made ≡ section_on c (get_or sections at e) (frames_kept (get_or lasts at d)) (frames_kept (get_or lasts (at + 1) d)) more
    → frames_kept new ≡ moved_on (frames_kept (get_or lasts at d)) more → GoesOn c (length sections) at sections lasts (set lasts at new) more made
goes-on c at sections lasts new d e more made above below room pairs is eaten =
    let n = length sections in
    let input = get_or lasts at d in
    let output = get_or lasts (at + 1) d in
    let rest = window n (at + 1 + 1) lasts in
    let section = get_or sections at e in
    let left = drop (at + 1) sections in
    let first = pairs at d (omega (arith, below, room)) in
    let second = pairs (at + 1) d (omega (arith, below, room)) in
    let next : window n (at + 1) lasts ≡ output ∷ rest = window-more n (at + 1) lasts d (omega (arith, below)) room in
    let here : window n at lasts ≡ input ∷ output ∷ rest = window-more n at lasts d (omega (arith, below)) room ∙ ap (λ list. input ∷ list) next in
    let after : window n (at + 1) (set lasts at new) ≡ output ∷ rest = window-set n at lasts new ∙ next in
    let cut : drop at sections ≡ section ∷ left = drop_more sections at e below in
    record {
      left =
          ap (λ list. sections_on c list (pair_frames (window n at lasts)) more) cut
          ∙ ap (λ list. sections_on c (section ∷ left) (pair_frames list) more) here
          ∙ on-first c section left input output rest more above first second
          ∙ ap (λ list. sections_on c left (pair_frames list) (section_on c section (frames_kept input) (frames_kept output) more)) (sym after)
          ∙ ap (sections_on c left (pair_frames (window n (at + 1) (set lasts at new)))) (sym is);
      kept =
          ap (λ list. pair_frames (take at lasts) ++ past_behind c list (pair_frames (window n at lasts)) more) cut
          ∙ ap (λ list. pair_frames (take at lasts) ++ past_behind c (section ∷ left) (pair_frames list) more) here
          ∙ ap (λ list. pair_frames (take at lasts) ++ list) (behind-first c section left input output rest more above first second)
          ∙ ap (λ list. pair_frames (take at lasts) ++ (list ++ past_behind c left (pair_frames (output ∷ rest)) (section_on c section (frames_kept input) (frames_kept output) more))) (sym eaten)
          ∙ sym (append_assoc (pair_frames (take at lasts)) (frames_kept new) (past_behind c left (pair_frames (output ∷ rest)) (section_on c section (frames_kept input) (frames_kept output) more)))
          ∙ ap (λ front. front ++ past_behind c left (pair_frames (output ∷ rest)) (section_on c section (frames_kept input) (frames_kept output) more)) (sym (front-more at lasts new (omega (arith, below, room))))
          ∙ ap (λ list. pair_frames (take (at + 1) (set lasts at new)) ++ past_behind c left (pair_frames list) (section_on c section (frames_kept input) (frames_kept output) more)) (sym after)
          ∙ ap (λ list. pair_frames (take (at + 1) (set lasts at new)) ++ past_behind c left (pair_frames (window n (at + 1) (set lasts at new))) list) (sym is);
    }

-- ---- after the last section

-- nothing is left to be done
pub none-left : (c : ℕ) (sections : List Section) (tail more : List Frame) → sections_on c (drop (length sections) sections) tail more ≡ more
none-left c sections tail more = ap (λ list. sections_on c list tail more) (drop_all (length sections) sections (omega arith))

-- and its own outputs are kept
pub all-kept : (c : ℕ) (sections : List Section) (lasts : List LastFrames) (new d : LastFrames) (more : List Frame) → length sections < length lasts
    → frames_kept new ≡ moved_on (frames_kept (get_or lasts (length sections) d)) more
    → pair_frames (take (length sections + 1) (set lasts (length sections) new))
    ≡ pair_frames (take (length sections) lasts) ++ past_behind c (drop (length sections) sections) (pair_frames (window (length sections) (length sections) lasts)) more
all-kept c sections lasts new d more room eaten =
    let n = length sections in
    let last = get_or lasts n d in
    let none : n + 1 - (n + 1) ≡ 0 = omega arith in
    let alone : window n n lasts ≡ last ∷ [] = window-more n n lasts d (omega arith) room ∙ ap (λ k. last ∷ take k (drop (n + 1) lasts)) none in
    front-more n lasts new room
    ∙ ap (λ list. pair_frames (take n lasts) ++ list) (eaten ∙ ap (λ list. moved_on list more) (sym (append-nil (frames_kept last))))
    ∙ ap (λ list. pair_frames (take n lasts) ++ moved_on (pair_frames list) more) (sym alone)
    ∙ ap (λ list. pair_frames (take n lasts) ++ past_behind c list (pair_frames (window n n lasts)) more) (sym (drop_all n sections (omega arith)))

-- ---- the begin

-- silent pairs, one after another
pub silent-pairs : (c n : ℕ) (last : LastFrames) → frames_kept last ≡ replicate 2 (silence c) → pair_frames (replicate n last) ≡ replicate (2 * n) (silence c)
silent-pairs c zero last is = refl
silent-pairs c (suc n) last is =
    let more : 2 + 2 * n ≡ 2 * suc n = omega arith in
    ap (λ list. list ++ pair_frames (replicate n last)) is
    ∙ ap (λ list. replicate 2 (silence c) ++ list) (silent-pairs c n last is)
    ∙ replicate-append-replicate 2 (2 * n) (silence c)
    ∙ ap (λ k. replicate k (silence c)) more

-- ---- what stands in the lists

-- the default has no part in an item that is there
pub at-any : {X : Type 0} (list : List X) (i : ℕ) (d e : X) → i < length list → get_or list i d ≡ get_or list i e
at-any [] i d e within = absurd (omega (arith, within))
at-any (x ∷ list) zero d e within = refl
at-any (x ∷ list) (suc i) d e within = at-any list i d e (omega (arith, within))

-- a pair that moved on is a pair
pub pair-on : (c : ℕ) (last new : LastFrames) → IsPair c last → new.frames ≡ last.frames → new.channels ≡ last.channels → IsPair c new
pair-on c last new is frames channels = record { two = frames ∙ is.two; width = channels ∙ is.width }

-- its samples, as they are passed to a section
pub pair-frames : (c : ℕ) (last : LastFrames) (samples : List ℤ) → IsPair c last → frames_of last.channels samples ≡ frames_kept last → frames_of c samples ≡ frames_kept last
pair-frames c last samples is same = ap (λ w. frames_of w samples) (sym is.width) ∙ same
