-- What a run without a shortage leaves: what is heard of its clients goes by where they start and end alone.
use Rattle.std.specs.Prelude.{◌≡◌, ℕ, List, ◌++◌, min, Some, Ok}
use Rattle.pcm_config.specs.Configs.{device_seen}
use Rattle.pcm_sound.specs.Plain.{HasNoShortage, SoundAlike, plain_text}
use Rattle.pcm_sound.specs.Story.{Story, story_of}
use Rattle.pcm_verdict.specs.Judging.{Contents}
use Rattle.pcm_verdict.specs.Outputs.{Output, header_in, inputs_pool, replies_printed}
use Rattle.pcm_verdict.specs.Verdict.{Inputs, Runs, verdict}

-- the story of a run
abbrev pub story_in : Inputs → Story
story_in inputs = story_of (device_seen inputs.config) (inputs_pool inputs) inputs.script.events

-- what a run leaves, by the starts and ends of what its clients play
abbrev pub plain_output : List ℕ → Inputs → Output
plain_output name inputs = record {
  file = Some (record { name = name; bytes = header_in inputs ++ plain_text (device_seen inputs.config) (inputs_pool inputs) inputs.script.events });
  lines = replies_printed inputs;
}

-- some call is accepted as the run of these inputs
pub record IsAcceptedRun (inputs : Inputs) : Type 0 where
  pub words : List (List ℕ)
  pub contents : Contents
  pub name : List ℕ
  pub accepts : verdict words contents ≡ Ok (Runs name inputs)

-- two scripts under one configuration, both without a shortage, whose clients sound alike as far as both go
pub record PlayAlike (one other : Inputs) : Type 0 where
  pub config : other.config ≡ one.config
  pub one_whole : HasNoShortage (story_in one)
  pub other_whole : HasNoShortage (story_in other)
  pub alike : SoundAlike (device_seen one.config) (min (story_in one).desk.mixed (story_in other).desk.mixed) (story_in one) (story_in other)
