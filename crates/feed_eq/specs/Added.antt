-- Sums of a section's products.
use Rattle.std.specs.Prelude.{◌*◌, ◌^◌, ℕ, ℤ, pos, neg_ℤ, ◌-ℤ◌, ◌*ℤ◌, ◌≤ℤ◌}

-- what an input and the output of its frame add to a later sum
abbrev pub added : ℤ → ℤ → ℤ → ℤ → ℤ
added b a x y = b *ℤ x -ℤ a *ℤ y

-- no farther from 0 than a sum of `products` products can be
pub record IsSumOf (products : ℕ) (sum : ℤ) : Type 0 where
  pub least : neg_ℤ (pos (products * 2 ^ 60)) ≤ℤ sum
  pub most : sum ≤ℤ pos (products * 2 ^ 60)
