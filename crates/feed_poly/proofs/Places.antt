-- A frame is written twice, and the window moves on by it.
use Rattle.std.proofs.Common.{◌≡◌, ◌≢◌, ◌⊎◌, ◌<◌, ◌≤◌, ◌+◌, ℕ, zero, suc, ℤ, pos, List, [], ◌∷◌, ◌++◌, length, map, get_or, inl, inr, refl, sym, ap, ◌∙◌, arith}
use Rattle.std.specs.List.{range_with_len}
use Rattle.std.proofs.lemmas.Bool.{cases_lt}
use Rattle.std.proofs.lemmas.List.FromFn.{fill_by_all, map-range_with_len_more}
use Rattle.pcm_format.proofs.Ranges.{map-range-same, map-range-shift}
use Rattle.pcm_feeder.specs.Streams.{moved_on}
use Rattle.feed_poly.specs.Places.{window_sample, IsTwice, window_frame, frames_from, ArePut}

-- ---- what lies twice

-- both halves are written alike
pub twice-again : (taps at n : ℕ) (frame old new : List ℤ) → at < taps → taps ≤ 64 → IsTwice taps old → ArePut taps at frame n old new → IsTwice taps new
twice-again taps at n frame old new inside most h put channel place below within =
    elim (cases_lt channel n) [
      | inl less ↦ elim (cases_lt place at) [
        | inl before ↦ apart (λ e. omega (arith, e)) (λ e. omega (arith, e))
        | inr from ↦ elim (cases_lt at place) [
          | inl behind ↦ apart (λ e. omega (arith, e)) (λ e. omega (arith, e))
          | inr till ↦ let same : at ≡ place = omega arith in rw (← same) (put.again channel less ∙ sym (put.first channel less))
        ]
      ]
      | inr past ↦ put.behind channel (place + taps) (omega arith) past ∙ h channel place below within ∙ sym (put.behind channel place (omega arith) past)
    ]
  where
    apart : place ≢ at → place + taps ≢ at + taps → window_sample new channel (place + taps) ≡ window_sample new channel place
    apart here there =
        put.others channel (place + taps) (omega arith) (λ e. omega (arith, e)) there ∙ h channel place below within
        ∙ sym (put.others channel place (omega arith) here (λ e. omega (arith, e)))

-- ---- the window moves on

-- the frame that was written
frame-put : (c p : ℕ) (frame new : List ℤ) → length frame ≡ c → ((channel : ℕ) → channel < c → window_sample new channel p ≡ get_or frame channel (pos 0)) → window_frame c new p ≡ frame
frame-put c p frame new has is =
    map-range-same (λ channel. window_sample new channel p) (λ channel. get_or frame channel (pos 0)) c is
    ∙ sym (fill_by_all (λ channel. get_or frame channel (pos 0)) frame c (pos 0) has (λ k below. refl))

-- frames without the first of those before, and with a new last one
moved-by : (c t at next : ℕ) (frame old new : List ℤ) → ((i : ℕ) → i < t → window_frame c new (next + i) ≡ window_frame c old (at + (1 + i))) → window_frame c new (next + t) ≡ frame
    → frames_from c (suc t) new next ≡ moved_on (frames_from c (suc t) old at) (frame ∷ [])
moved-by c t at next frame old new same last =
    let more : suc t ≡ t + 1 = omega arith in
    ap (λ n. map (λ i. window_frame c new (next + i)) (range_with_len 0 n)) more
    ∙ map-range_with_len_more (λ i. window_frame c new (next + i)) 0 t t (omega arith)
    ∙ ap (λ list. list ++ window_frame c new (next + t) ∷ []) (map-range-same (λ i. window_frame c new (next + i)) (λ i. window_frame c old (at + (1 + i))) t same ∙ map-range-shift (λ i. window_frame c old (at + i)) 1 0 t)
    ∙ ap (λ f. map (λ i. window_frame c old (at + i)) (range_with_len 1 t) ++ f ∷ []) last

-- a frame was written for the oldest
pub put-moves : (c taps at next : ℕ) (frame old new : List ℤ) → at < taps → taps ≤ 64 → c ≤ 8 → length frame ≡ c → IsTwice taps old → ArePut taps at frame c old new
    → ((at + 1 ≡ taps) × (next ≡ 0)) ⊎ ((at + 1 ≢ taps) × (next ≡ at + 1))
    → frames_from c taps new next ≡ moved_on (frames_from c taps old at) (frame ∷ [])
put-moves c zero at next frame old new inside most channels has h put goes = absurd (omega arith)
put-moves c (suc t) at next frame old new inside most channels has h put (inl round) =
    let start : next ≡ 0 = round.1 in
    moved-by c t at next frame old new
    (λ i below. map-range-same (λ channel. window_sample new channel (next + i)) (λ channel. window_sample old channel (at + (1 + i))) c
    (λ channel less.
    let here : next + i ≡ i = omega (arith, start) in
    let there : at + (1 + i) ≡ i + suc t = omega (arith, round.0) in
    ap (window_sample new channel) here
    ∙ put.others channel i (omega arith) (λ e. omega (arith, e, round.0)) (λ e. omega (arith, e))
    ∙ sym (h channel i (omega arith) (omega arith)) ∙ ap (window_sample old channel) (sym there)))
    (frame-put c (next + t) frame new has (λ channel less. let place : next + t ≡ at = omega (arith, start, round.0) in ap (window_sample new channel) place ∙ put.first channel less))
put-moves c (suc t) at next frame old new inside most channels has h put (inr on) =
    let step : next ≡ at + 1 = on.1 in
    moved-by c t at next frame old new
    (λ i below. map-range-same (λ channel. window_sample new channel (next + i)) (λ channel. window_sample old channel (at + (1 + i))) c
    (λ channel less.
    let here : next + i ≡ at + (1 + i) = omega (arith, step) in
    ap (window_sample new channel) here ∙ put.others channel (at + (1 + i)) (omega arith) (λ e. omega (arith, e)) (λ e. omega (arith, e))))
    (frame-put c (next + t) frame new has (λ channel less. let place : next + t ≡ at + suc t = omega (arith, step) in ap (window_sample new channel) place ∙ put.again channel less))
