-- Parts of the bytes of a state.
use Rattle.std.specs.Prelude.{◌≡◌, ◌≤◌, ℕ, ◌+◌, ◌*◌, Bool, if◌then◌else◌, ℤ, List, [], ◌++◌, length, take, drop}
use Rattle.pcm_feeder.specs.Kept.{Kept}
use Rattle.pcm_chain.specs.declared.chain.ChainOf.{ChainOf}
use Rattle.pcm_feeder.specs.declared.stage.Spec.{Spec}
use Rattle.pcm_chain.specs.declared.past.TheConstants.{PAST_SAMPLES}
use Rattle.pcm_chain.specs.Pasts.{past_of, past_sizes}
use Rattle.pcm_path.specs.declared.path.PathOf.{PathOf}
use Rattle.pcm_state.specs.Numbers.{spelled_numbers}
use Rattle.pcm_state.specs.Samples.{sample_bytes}

-- a part of bytes, from a place on
pub record IsPart (bytes : List ℕ) (at size : ℕ) (part : List ℕ) : Type 0 where
  pub within : at + size ≤ length bytes
  pub is : part ≡ take size (drop at bytes)

-- a row of numbers stands at the front
abbrev pub HasRow : List ℕ → List ℕ → Type 0
HasRow bytes row = IsPart bytes 0 (8 * length row) (spelled_numbers row)

-- samples stand from a place on
abbrev pub HasPast : List ℕ → ℕ → List ℤ → Type 0
HasPast bytes at past = IsPart bytes at (4 * length past) (sample_bytes past)

-- the bytes of what a chain keeps of the past; of a free channel's none
abbrev pub past_bytes : {B : Type 0} → (B → Kept) → Bool → ChainOf B → List ℕ
past_bytes kept free chain = if free then [] else sample_bytes (past_of kept chain)

-- how many samples a channel keeps whose chain has these stages, which a scratch has room for
pub record IsPastOf (free : Bool) (stages : List Spec) (told : ℕ) : Type 0 where
  pub count : told ≡ (if free then 0 else past_sizes stages)
  pub most : told ≤ PAST_SAMPLES

-- the bytes of a path: what waits in its ring, and what its chain keeps of the past
abbrev pub path_bytes : {B : Type 0} → (B → Kept) → Bool → PathOf B → List ℕ
path_bytes kept free path = path.ring.bytes ++ past_bytes kept free path.chain

-- so many bytes stand from a place on, and samples behind them
pub record HasRest (bytes : List ℕ) (at size : ℕ) (waiting : List ℕ) (past : List ℤ) : Type 0 where
  pub waits : IsPart bytes at size waiting
  pub keeps : HasPast bytes (at + size) past
