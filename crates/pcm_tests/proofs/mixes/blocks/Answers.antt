use Rattle.std.proofs.Common.{ℕ, ℤ, pos, All, List, FitsSigned, to_z, of_z, w32, set, sym, subst, rules}
use Rattle.std.proofs.lemmas.Int.{to_z-of_z}
use Rattle.std.proofs.lemmas.List.Elements.{All-replicate, All-set}
use Rattle.pcm_num.specs.Limit.{FitsBits}
use Rattle.pcm_format.proofs.Spelling.{silence-fits}
use Rattle.pcm_tests.proofs.mixes.blocks.Goals as goal

-- a sample that fits is put into a block
put-fits : (bits : ℕ) (block : List ℤ) (at : ℕ) (sample : ℤ) → FitsSigned w32 sample → FitsBits bits sample → All (FitsBits bits) block
    → All (FitsBits bits) (set block at (to_z w32 (of_z w32 sample)))
put-fits bits block at sample small fits all =
    All-set (FitsBits bits) block at (to_z w32 (of_z w32 sample)) (subst (FitsBits bits) (sym (to_z-of_z w32 sample small)) fits) all

pub loop-at-init : goal.loop-at-init
loop-at-init c =
    let silent = All-replicate (FitsBits c.args.bits) 40 (pos 0) (silence-fits c.args.bits) in
    (silent, silent)

pub loop-at-preserved : goal.loop-at-preserved
loop-at-preserved c = (
  put-fits c.args.bits c.loop-at.acc c.loop-at.at c.clamp_bits.result (search rules) c.clamp_bits.ensures.fits c.loop-at.invariant.0,
  put-fits c.args.bits c.loop-at.add c.loop-at.at c.clamp_bits-in-loop-at.result (search rules) c.clamp_bits-in-loop-at.ensures.fits
      c.loop-at.invariant.1,
)
