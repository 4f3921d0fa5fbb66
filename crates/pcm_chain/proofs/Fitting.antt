-- Boxes fitted or resumed one after another: a later one leaves the earlier ones alone.
use Rattle.std.proofs.Common.{◌≡◌, ◌≢◌, ◌<◌, ◌+◌, ℕ, zero, suc, List, [], ◌∷◌, length, take, get_or, All, sym, ap, ◌∙◌, arith}
use Rattle.std.proofs.lemmas.List.{get_or-take, length-take}
use Rattle.std.proofs.lemmas.List.Elements.{All-more}
use Rattle.pcm_feeder.specs.declared.rack.SevenOf.{SevenOf}
use Rattle.pcm_feeder.specs.declared.stage.Spec.{Spec}
use Rattle.pcm_feeder.specs.Kept.{Kept}
use Rattle.pcm_feeder.specs.Kinds.{kind_of}
use Rattle.pcm_plan.specs.Fits.{AreDistinct}
use Rattle.pcm_chain.specs.Boxes.{kept_in}

-- two stages of a plan are of two kinds
distinct-at : (specs : List Spec) (i j : ℕ) (d e : Spec) → AreDistinct specs → j < i → i < length specs → kind_of (get_or specs j d) ≢ kind_of (get_or specs i e)
distinct-at [] i j d e are below within = absurd (omega arith)
distinct-at (spec ∷ specs) zero j d e are below within = absurd (omega arith)
distinct-at (spec ∷ specs) (suc i) zero d e are below within = are.0 i e (omega arith)
distinct-at (spec ∷ specs) (suc i) (suc j) d e are below within = distinct-at specs i j d e are.1 (omega arith) (omega arith)

-- one box more keeps what its stage is to keep
pub kept-more : {B : Type 0} (kept : B → Kept) (old new : SevenOf B) (what : Spec → Kept) (specs : List Spec) (i : ℕ) (d : Spec) → AreDistinct specs → i < length specs
    → All (λ spec. kept_in kept old spec ≡ what spec) (take i specs) → kept_in kept new (get_or specs i d) ≡ what (get_or specs i d)
    → ((other : Spec) → kind_of other ≢ kind_of (get_or specs i d) → kept_in kept new other ≡ kept_in kept old other)
    → All (λ spec. kept_in kept new spec ≡ what spec) (take (i + 1) specs)
kept-more kept old new what specs i d are within before here others =
    let P : Spec → Type 0 = λ spec. kept_in kept new spec ≡ what spec in
    All-more P specs i d within
    (λ k e below.
    let early : k < i = omega (arith, length-take i specs) in
    others (get_or (take i specs) k e) (λ same. distinct-at specs i k e d are early within (sym (ap kind_of (get_or-take i specs k e early)) ∙ same))
    ∙ before k e below)
    here
