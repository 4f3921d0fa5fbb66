-- A frame of one or two channels is turned in its place.
use Rattle.std.proofs.Common.{◌≡◌, ◌≢◌, ◌<◌, ◌≤◌, ◌⊎◌, ◌+◌, ◌*◌, ◌/◌, ℕ, suc, ℤ, pos, ◌+ℤ◌, ◌*ℤ◌, List, length, get_or, set, inl, inr, refl, sym, ap, ◌∙◌, arith}
use Rattle.std.proofs.Math.Nat.{mul-le-mul_right, div-mul-le_self}
use Rattle.std.proofs.lemmas.Bool.{cases_lt}
use Rattle.std.proofs.lemmas.List.{get_or-set_same, get_or-set_other}
use Rattle.pcm_feeder.specs.declared.section.Section.{Section}
use Rattle.pcm_feeder.specs.Sections.{weighed}
use Rattle.pcm_feeder.specs.Sums.{scaled_down}
use Rattle.feed_eq.specs.declared.lane.Lane.{Lane}
use Rattle.feed_eq.specs.Added.{added}
use Rattle.feed_eq.specs.Lanes.{sample_in, added_by, IsLaneAt, IsPassed, HoldsChannels, PutsFrames}
use Rattle.feed_eq.proofs.Weights.{weighed-is}

-- ---- places

-- a sample of a frame that is there
pub place-within : (c n k j : ℕ) → k < n / c → j < c → k * c + j < n
place-within c n k j below within =
    let next : suc k ≤ n / c = omega (arith, below) in
    omega (arith, mul-le-mul_right c next, div-mul-le_self n c)

-- two samples have two places
places-differ : (c i j k m : ℕ) → j < c → m < c → (i ≢ k) ⊎ (j ≢ m) → i * c + j ≢ k * c + m
places-differ c i j k m first second differ same =
    elim (cases_lt i k) [
      | inl less ↦ let next : suc i ≤ k = omega (arith, less) in absurd (omega (arith, mul-le-mul_right c next, same))
      | inr least ↦ elim (cases_lt k i) [
        | inl more ↦ let next : suc k ≤ i = omega (arith, more) in absurd (omega (arith, mul-le-mul_right c next, same))
        | inr most ↦
            let level : i ≡ k = omega (arith, least, most) in
            let equal : j ≡ m = omega (arith, same, ap (λ n. n * c) level) in
            elim differ [
              | inl rows ↦ absurd (rows level)
              | inr columns ↦ absurd (columns equal)
            ]
      ]
    ]

pub set-here : (c k j place : ℕ) (samples : List ℤ) (v : ℤ) → place ≡ k * c + j → k < length samples / c → j < c → sample_in c (set samples place v) k j ≡ v
set-here c k j place samples v is below within =
    ap (λ p. get_or (set samples p v) (k * c + j) (pos 0)) is ∙ get_or-set_same samples (k * c + j) v (pos 0) (place-within c (length samples) k j below within)

pub set-other : (c i j k m place : ℕ) (samples : List ℤ) (v : ℤ) → place ≡ k * c + m → j < c → m < c → (i ≢ k) ⊎ (j ≢ m) → sample_in c (set samples place v) i j ≡ sample_in c samples i j
set-other c i j k m place samples v is first second differ =
    ap (λ p. get_or (set samples p v) (i * c + j) (pos 0)) is ∙ get_or-set_other samples (k * c + m) (i * c + j) v (pos 0) (places-differ c i j k m first second differ)

-- ---- a frame more

pub put-frame : (c from to k : ℕ) (y old samples new : List ℤ) → to ≤ c → PutsFrames c from to k y old samples
    → ((j : ℕ) → from ≤ j → j < to → sample_in c new k j ≡ sample_in c y (k + 2) j)
    → ((i j : ℕ) → j < c → (i ≢ k) ⊎ ((j < from) ⊎ (to ≤ j)) → sample_in c new i j ≡ sample_in c samples i j)
    → PutsFrames c from to (k + 1) y old new
put-frame c from to k y old samples new fits before here others = record {
  put = λ i j below least most. elim (cases_lt i k) [
    | inl earlier ↦ others i j (omega (arith, most, fits)) (inl (λ same. absurd (omega (arith, earlier, same)))) ∙ before.put i j earlier least most
    | inr now ↦
        let level : i ≡ k = omega (arith, below, now) in
        ap (λ r. sample_in c new r j) level ∙ here j least most ∙ ap (λ r. sample_in c y (r + 2) j) (sym level)
  ];
  stay = λ i j below within away. elim away [
    | inl later ↦ others i j within (inl (λ same. absurd (omega (arith, later, same)))) ∙ before.stay i j below within (inl (omega (arith, later)))
    | inr outside ↦ others i j within (inr outside) ∙ before.stay i j below within (inr outside)
  ];
}

-- before the first frame nothing is turned
pub put-none : (c from to : ℕ) (y old : List ℤ) → PutsFrames c from to 0 y old old
put-none c from to y old = record {
  put = λ k j below least most. absurd (omega (arith, below));
  stay = λ k j below within away. refl;
}

-- ---- a sample

-- what a section makes of the next sample is the next output, and the channel goes on
pub record GoesOn (section : Section) (c : ℕ) (x y : List ℤ) (k channel : ℕ) (v : ℤ) (lane : Lane) : Type 0 where
  pub made : v ≡ sample_in c y (k + 2) channel
  pub lane_is : IsLaneAt section c x y (k + 1) channel lane

pub goes-on : (section : Section) (c frames k channel : ℕ) (x y : List ℤ) (lane next : Lane) (sample v : ℤ) → IsPassed section c frames x y → k < frames → channel < c
    → IsLaneAt section c x y k channel lane → sample ≡ sample_in c x (k + 2) channel → v ≡ scaled_down section.shift (section.b0 *ℤ sample +ℤ lane.next)
    → next.next ≡ (lane.later +ℤ added section.b1 section.a1 sample v) → next.later ≡ added section.b2 section.a2 sample v → GoesOn section c x y k channel v next
goes-on section c frames k channel x y lane next sample v passed below within at is made on later =
    let two : k + 1 + 1 ≡ k + 2 = omega arith in
    let value : v ≡ sample_in c y (k + 2) channel =
    made
    ∙ ap (λ z. scaled_down section.shift (section.b0 *ℤ sample +ℤ z)) at.next
    ∙ weighed-is section sample (sample_in c x (k + 1) channel) (sample_in c x k channel) (sample_in c y (k + 1) channel) (sample_in c y k channel)
    ∙ ap (λ z. weighed section z (sample_in c x (k + 1) channel) (sample_in c x k channel) (sample_in c y (k + 1) channel) (sample_in c y k channel)) is
    ∙ sym (passed.each k channel below within) in
    let share : (b a : ℤ) → added b a sample v ≡ added_by c x y (k + 1 + 1) channel b a =
    λ b a. ap (λ z. added b a z v) is ∙ ap (added b a (sample_in c x (k + 2) channel)) value ∙ ap (λ r. added_by c x y r channel b a) (sym two) in
    record {
      made = value;
      lane_is = record {
        next = on ∙ ap (λ z. z +ℤ added section.b1 section.a1 sample v) at.later ∙ ap (λ z. added_by c x y (k + 1) channel section.b2 section.a2 +ℤ z) (share section.b1 section.a1);
        later = later ∙ share section.b2 section.a2;
      };
    }

-- the next sample is the next input
pub next-input : (c from to k j : ℕ) (x y old samples : List ℤ) → to ≤ c → HoldsChannels c from to x old → PutsFrames c from to k y old samples → k < length old / c → from ≤ j → j < to
    → sample_in c samples k j ≡ sample_in c x (k + 2) j
next-input c from to k j x y old samples fits holds before below least most =
    before.stay k j below (omega (arith, most, fits)) (inl (omega arith)) ∙ holds.each k j below least most
