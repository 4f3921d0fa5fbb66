-- Texts that are formatted piece by piece.
use Rattle.std.proofs.Common.{◌≡◌, List, ℕ, ◌++◌, IfOk, Result, Ok, Err, String, Global, string_bytes, append_assoc, ◌∙◌}
use Rattle.std.specs.declared.alloc.AllocError.{AllocError}

-- the bytes of a text, by another term for them
pub spelled : (r : Result (String Global) AllocError) (x y : List ℕ) → x ≡ y → IfOk r (λ s. string_bytes s ≡ x) → IfOk r (λ s. string_bytes s ≡ y)
spelled (Ok line) x y e h = h ∙ e
spelled (Err fault) x y e h = h

pub regrouped : (a b c d : List ℕ) → a ++ (b ++ (c ++ d)) ≡ ((a ++ b) ++ c) ++ d
regrouped a b c d = simp append_assoc
