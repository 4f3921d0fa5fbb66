use Rattle.std.proofs.Common.{◌≡◌, rules, ℕ, zero, suc, ◌+◌, ◌<◌, ℤ, pos, FitsSigned, w32, List, [], ◌∷◌, ◌++◌, length, map, get_or, set, take, drop, subst, sym, ap, ◌∙◌, arith}
use Rattle.std.specs.Prelude.{All}
use Rattle.std.proofs.Math.Seq.{drop-cons}
use Rattle.std.proofs.lemmas.Int.{to_z-of_z}
use Rattle.std.proofs.lemmas.List.{drop-set-lt}
use Rattle.std.proofs.lemmas.List.Elements.{All-tail}
use Rattle.pcm_num.specs.Limit.{FitsBits}
use Rattle.pcm_format.specs.Formats.{bits_of}
use Rattle.pcm_format.specs.Samples.{at_full}
use Rattle.pcm_format.proofs.depth.bring_to_full.Goals as goal

-- the samples after one that is changed still fit
still-fit : (bits : ℕ) (samples : List ℤ) (i : ℕ) (value : ℤ) → i < length samples → All (FitsBits bits) (drop i samples)
    → All (FitsBits bits) (drop (i + 1) (set samples i value))
still-fit bits samples i value h fit =
    let next : suc i ≡ i + 1 = omega arith in
    subst (All (FitsBits bits)) (sym (drop-set-lt (i + 1) samples i value (omega arith)))
    (subst (λ (k : ℕ). All (FitsBits bits) (drop k samples)) next
    (All-tail (FitsBits bits) (get_or samples i (pos 0)) (drop (suc i) samples)
    (subst (All (FitsBits bits)) (drop-cons samples i (pos 0) h) fit)))

-- one sample more is changed
one-more : (f : ℤ → ℤ) (samples : List ℤ) (i : ℕ) (value : ℤ) → i < length samples → value ≡ f (get_or samples i (pos 0))
    → take (suc i) (set samples i value) ++ map f (drop (suc i) (set samples i value)) ≡ take i samples ++ map f (drop i samples)
one-more f [] i value h is = absurd (omega arith)
one-more f (sample ∷ samples) zero value h is = ap (λ other. other ∷ map f samples) is
one-more f (sample ∷ samples) (suc i) value h is = ap (λ others. sample ∷ others) (one-more f samples i value (omega arith) is)

pub loop-i-preserved : goal.loop-i-preserved
loop-i-preserved c =
    let full : FitsSigned w32 c.at_full.result = search rules in
    let old : FitsSigned w32 (get_or c.loop-i.samples c.loop-i.i (pos 0)) = search rules in
    let i = c.loop-i.i in
    let here : i < length c.loop-i.samples = search rules in
    let next : suc i ≡ i + 1 = omega arith in
    let f : ℤ → ℤ = at_full (bits_of c.args.format) in
    let samples = c.loop-i.samples in
    let value = c.at_full.result in
    simp to_z-of_z (
      subst (λ (k : ℕ). take k (set samples i value) ++ map f (drop k (set samples i value)) ≡ map f c.args.samples.now) next
          (one-more f samples i value here (c.at_full.ensures ∙ ap f (to_z-of_z w32 (get_or samples i (pos 0)) old))
          ∙ c.loop-i.invariant.0),
      still-fit (bits_of c.args.format) samples i value here c.loop-i.invariant.1,
    )
