-- Sums of products: one product more, and the definition's sum.
use Rattle.std.proofs.Common.{◌≡◌, ◌<◌, ◌+◌, ◌*◌, ◌^◌, ℕ, zero, suc, ℤ, pos, ◌+ℤ◌, ◌*ℤ◌, List, [], ◌∷◌, ◌++◌, length, take, get_or, refl, ap, ◌∙◌, arith}
use Rattle.std.specs.Simd.Lanes.{zip2}
use Rattle.std.proofs.lemmas.Int.{ints}
use Rattle.std.proofs.lemmas.List.Sums.{fold-append}
use Rattle.pcm_feeder.specs.Sums.{sum_of}
use Rattle.pcm_feeder.proofs.Products.{IsWithin}
use Rattle.feed_poly.specs.Rows.{weighted}

-- one product more of a sum
pub sum-within : (sum product : ℤ) (i : ℕ) → IsWithin (i * 2 ^ 55) sum → IsWithin (2 ^ 55) product → IsWithin ((i + 1) * 2 ^ 55) (sum +ℤ product)
sum-within sum product i h k = record {
  least = omega (arith, ints, h.least, k.least);
  most = omega (arith, ints, h.most, k.most);
}

-- one product more of two lists
zip-suc : (f : ℤ → ℤ → ℤ) (list other : List ℤ) (i : ℕ) → i < length list → i < length other
    → zip2 f (take (suc i) list) (take (suc i) other) ≡ zip2 f (take i list) (take i other) ++ f (get_or list i (pos 0)) (get_or other i (pos 0)) ∷ []
zip-suc f [] other i h k = absurd (omega arith)
zip-suc f (x ∷ list) [] i h k = absurd (omega arith)
zip-suc f (x ∷ list) (y ∷ other) zero h k = refl
zip-suc f (x ∷ list) (y ∷ other) (suc i) h k = ap (λ rest. f x y ∷ rest) (zip-suc f list other i (omega arith) (omega arith))

-- and of their sum
pub weighted-more : (coefs samples : List ℤ) (i : ℕ) → i < length coefs → i < length samples
    → weighted (take (i + 1) coefs) (take (i + 1) samples) ≡ (weighted (take i coefs) (take i samples) +ℤ (get_or coefs i (pos 0) *ℤ get_or samples i (pos 0)))
weighted-more coefs samples i h k =
    let on : i + 1 ≡ suc i = omega arith in
    ap (λ n. sum_of (zip2 ◌*ℤ◌ (take n coefs) (take n samples))) on
    ∙ ap sum_of (zip-suc ◌*ℤ◌ coefs samples i h k)
    ∙ fold-append ◌+ℤ◌ (pos 0) (zip2 ◌*ℤ◌ (take i coefs) (take i samples)) ((get_or coefs i (pos 0) *ℤ get_or samples i (pos 0)) ∷ [])
