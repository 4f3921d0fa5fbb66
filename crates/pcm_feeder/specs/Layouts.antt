-- From one layout to another, and the gain of each position.
use Rattle.std.specs.Prelude.{ℕ, ◌+◌, ◌/◌, ◌==◌, ℤ, pos, ◌*ℤ◌, List, [], ◌∷◌, map, if◌then◌else◌}
use Rattle.std.specs.Simd.Lanes.{zip2}
use Rattle.pcm_num.specs.Floor.{floor_div}
use Rattle.pcm_num.specs.Limit.{clamped}
use Rattle.pcm_format.specs.Frames.{Frame}
use Rattle.pcm_format.specs.Layouts.{positions_of}
use Rattle.pcm_format.specs.declared.layout.Layout.{Layout}
use Rattle.pcm_format.specs.declared.layout.Layout.TheVariants.{One, Two, Four, Six, Eight}
use Rattle.pcm_format.specs.declared.layout.Position.{Position}
use Rattle.pcm_format.specs.declared.layout.Position.TheVariants.{M, FL, FR, FC, LFE, BL, BR, SL, SR}
use Rattle.pcm_feeder.specs.declared.stage.Gain.{Gain}
use Rattle.pcm_feeder.specs.Sums.{sum_of}

-- a position, and the weight with which sound goes there, where 65536 is one
pub record Share : Type 0 where
  pub position : Position
  pub weight : ℕ

abbrev pub share : Position → ℕ → Share
share position weight = record { position = position; weight = weight }

-- where the sound of a position goes in a layout that has it too
abbrev pub same : Position → List Share
same position = share position 65536 ∷ []

-- where the sound of a position goes, layout by layout
abbrev pub shares : Layout → Position → List Share
shares One M = same M
shares _ M = share FL 65536 ∷ share FR 65536 ∷ []
shares One FL = share M 32768 ∷ []
shares _ FL = same FL
shares One FR = share M 32768 ∷ []
shares _ FR = same FR
shares One FC = share M 46341 ∷ []
shares Two FC = share FL 46341 ∷ share FR 46341 ∷ []
shares Four FC = share FL 46341 ∷ share FR 46341 ∷ []
shares _ FC = same FC
shares Six LFE = same LFE
shares Eight LFE = same LFE
shares _ LFE = []
shares One BL = share M 23170 ∷ []
shares Two BL = share FL 46341 ∷ []
shares _ BL = same BL
shares One BR = share M 23170 ∷ []
shares Two BR = share FR 46341 ∷ []
shares _ BR = same BR
shares One SL = share M 23170 ∷ []
shares Two SL = share FL 46341 ∷ []
shares Eight SL = same SL
shares _ SL = share BL 46341 ∷ []
shares One SR = share M 23170 ∷ []
shares Two SR = share FR 46341 ∷ []
shares Eight SR = same SR
shares _ SR = share BR 46341 ∷ []

-- a number for each position
abbrev pub position_number : Position → ℕ
position_number M = 0
position_number FL = 1
position_number FR = 2
position_number FC = 3
position_number LFE = 4
position_number BL = 5
position_number BR = 6
position_number SL = 7
position_number SR = 8

-- the weight that these shares give a position, 0 where they don't name it
abbrev pub weight_among : Position → List Share → ℕ
weight_among target [] = 0
weight_among target (given ∷ rest) =
    if position_number given.position == position_number target then given.weight
    else weight_among target rest

-- the weight with which a source position goes to a target position of a layout
abbrev pub weight : Layout → Position → Position → ℕ
weight to target source = weight_among target (shares to source)

-- the sample of a target position: the weighted sum of a frame's samples, rounded down and limited
abbrev pub gathered : Layout → Layout → Position → Frame → ℤ
gathered from to target frame =
    clamped 32 (floor_div (sum_of (zip2 (λ source sample. pos (weight to target source) *ℤ sample)
    (positions_of from) frame)) 65536)

-- a frame in another layout
abbrev pub in_layout : Layout → Layout → Frame → Frame
in_layout from to frame = map (λ target. gathered from to target frame) (positions_of to)

-- a gain of one on both sides
abbrev pub unity : Gain
unity = record { left = 65536; right = 65536 }

-- the gain of a position: that of its side, or the mean of both
abbrev pub side_gain : Gain → Position → ℕ
side_gain gain FL = gain.left
side_gain gain FR = gain.right
side_gain gain BL = gain.left
side_gain gain BR = gain.right
side_gain gain SL = gain.left
side_gain gain SR = gain.right
side_gain gain _ = (gain.left + gain.right) / 2

-- a frame times the gain of each position, rounded down
abbrev pub at_gain : Layout → Gain → Frame → Frame
at_gain layout gain frame =
    zip2 (λ position sample. floor_div (sample *ℤ pos (side_gain gain position)) 65536)
    (positions_of layout) frame
