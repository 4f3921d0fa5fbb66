-- What sets the boxes of channels apart from others.
use Rattle.std.specs.Prelude.{ℕ, List, map}
use Rattle.pcm_feeder.specs.declared.rack.SevenOf.{SevenOf}
use Rattle.pcm_chain.specs.Chains.{marks_in}
use Rattle.pcm_path.specs.declared.path.PathOf.{PathOf}

-- the marks of the boxes of channels, slot by slot
abbrev pub channel_marks : {B C : Type 0} → (C → PathOf B) → (B → ℕ) → List C → List (SevenOf ℕ)
channel_marks path mark channels = map (λ channel. marks_in mark (path channel).chain) channels
