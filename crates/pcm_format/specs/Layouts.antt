-- The channel layouts.
use Rattle.std.specs.Prelude.{ℕ, Option, List, [], ◌∷◌, find, ◌==◌}
use Rattle.pcm_format.specs.declared.layout.Layout.{Layout}
use Rattle.pcm_format.specs.declared.layout.Layout.TheVariants.{One, Two, Four, Six, Eight}
use Rattle.pcm_format.specs.declared.layout.Position.{Position}
use Rattle.pcm_format.specs.declared.layout.Position.TheVariants.{M, FL, FR, FC, LFE, BL, BR, SL, SR}

-- all layouts, the least first
abbrev pub all_layouts : List Layout
all_layouts = One ∷ Two ∷ Four ∷ Six ∷ Eight ∷ []

-- how many samples a frame has
abbrev pub channels_of : Layout → ℕ
channels_of One = 1
channels_of Two = 2
channels_of Four = 4
channels_of Six = 6
channels_of Eight = 8

-- the layout with this many channels
abbrev pub layout_of : ℕ → Option Layout
layout_of channels = find (λ layout. channels_of layout == channels) all_layouts

-- the positions of a frame's channels, in order
abbrev pub positions_of : Layout → List Position
positions_of One = M ∷ []
positions_of Two = FL ∷ FR ∷ []
positions_of Four = FL ∷ FR ∷ BL ∷ BR ∷ []
positions_of Six = FL ∷ FR ∷ FC ∷ LFE ∷ BL ∷ BR ∷ []
positions_of Eight = FL ∷ FR ∷ FC ∷ LFE ∷ BL ∷ BR ∷ SL ∷ SR ∷ []
