-- Fractions of two numbers.
use Rattle.std.specs.Prelude.{◌≡◌, ℕ, ◌*◌}

-- `src` over `dst` is `s` over `d`, both parts multiplied by one factor
pub record HasCommonFactor (src dst s d : ℕ) : Type 0 where
  pub factor : ℕ
  pub src_is : src ≡ s * factor
  pub dst_is : dst ≡ d * factor
