-- A point on the line from one sample to the next, by its distance from the first.
use Rattle.std.specs.Prelude.{◌≡◌, ◌<◌, ◌-◌, ◌^◌, ℕ, ℤ, pos, neg_ℤ, ◌+ℤ◌, ◌-ℤ◌, ◌*ℤ◌, ◌≤ℤ◌, ◌<ℤ◌}
use Rattle.pcm_num.specs.Floor.{floor_div}

-- so many steps past a, less 2 to the power 32, is the point on the way to b, `parts` parts of d past a, rounded down
pub record IsPoint (a b : ℤ) (parts d steps : ℕ) : Type 0 where
  pub few : steps < 2 ^ 33
  pub least : neg_ℤ (pos (2 ^ 31)) ≤ℤ (a +ℤ pos steps -ℤ pos (2 ^ 32))
  pub most : (a +ℤ pos steps -ℤ pos (2 ^ 32)) <ℤ pos (2 ^ 31)
  pub value : (a +ℤ pos steps -ℤ pos (2 ^ 32)) ≡ floor_div (a *ℤ pos (d - parts) +ℤ b *ℤ pos parts) d
