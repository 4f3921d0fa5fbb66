-- Lists made of pieces of one length, one for each element: which elements they are is known by them.
use Rattle.std.proofs.Common.{◌≡◌, ℕ, ◌+◌, ◌*◌, ◌<◌, List, [], ◌∷◌, ◌++◌, length, take, drop, map, set, ap, sym, ◌∙◌, refl, arith}
use Rattle.std.specs.List.{flat_map}
use Rattle.std.proofs.Math.Seq.{take-add, take-append_seam, drop-append_seam}
use Rattle.std.proofs.lemmas.List.{length-append, take_more_set, flat_map_more}

-- as long as all pieces together
pub length-pieces : {X : Type 0} (f : X → List ℕ) (n : ℕ) → ((x : X) → length (f x) ≡ n) → (xs : List X) → length (flat_map f xs) ≡ n * length xs
length-pieces f n long [] = omega arith
length-pieces f n long (x ∷ xs) = omega (arith, length-append (f x) (flat_map f xs), long x, length-pieces f n long xs)

-- lists that begin with as many elements have the same front and the same rest
pub front-known : {A : Type 0} (a b c d : List A) → length a ≡ length c → a ++ b ≡ c ++ d → a ≡ c
front-known a b c d long same = sym (take-append_seam a b) ∙ ap (λ n. take n (a ++ b)) long ∙ ap (take (length c)) same ∙ take-append_seam c d

pub rest-known : {A : Type 0} (a b c d : List A) → length a ≡ length c → a ++ b ≡ c ++ d → b ≡ d
rest-known a b c d long same = sym (drop-append_seam a b) ∙ ap (λ n. drop n (a ++ b)) long ∙ ap (drop (length c)) same ∙ drop-append_seam c d

-- where each piece tells its element, all of them tell the list
pub pieces-known : {X : Type 0} (f : X → List ℕ) (n : ℕ) → 0 < n → ((x : X) → length (f x) ≡ n) → ((x y : X) → f x ≡ f y → x ≡ y)
    → (xs ys : List X) → flat_map f xs ≡ flat_map f ys → xs ≡ ys
pieces-known f n some long tells [] [] same = refl
pieces-known f n some long tells [] (y ∷ ys) same = absurd (omega (arith, ap length same, length-append (f y) (flat_map f ys), long y))
pieces-known f n some long tells (x ∷ xs) [] same = absurd (omega (arith, ap length same, length-append (f x) (flat_map f xs), long x))
pieces-known f n some long tells (x ∷ xs) (y ∷ ys) same =
    let even : length (f x) ≡ length (f y) = long x ∙ sym (long y) in
    let head : x ≡ y = tells x y (front-known (f x) (flat_map f xs) (f y) (flat_map f ys) even same) in
    let tail : xs ≡ ys = pieces-known f n some long tells xs ys (rest-known (f x) (flat_map f xs) (f y) (flat_map f ys) even same) in
    ap (λ z. z ∷ xs) head ∙ ap (λ zs. y ∷ zs) tail

-- one more element, whose piece comes next
pub piece-more : {X : Type 0} (f : X → List ℕ) (n : ℕ) (xs : List X) (bytes : List ℕ) (i : ℕ) (x : X) → i < length xs → f x ≡ take n (drop (n * i) bytes)
    → flat_map f (take i xs) ≡ take (n * i) bytes → flat_map f (take (i + 1) (set xs i x)) ≡ take (n * (i + 1)) bytes
piece-more f n xs bytes i x within is before =
    let next : n * i + n ≡ n * (i + 1) = omega arith in
    ap (flat_map f) (take_more_set xs i x within) ∙ sym (flat_map_more f [] (take i xs) x) ∙ ap (λ l. l ++ f x) before
    ∙ ap (λ p. take (n * i) bytes ++ p) is ∙ sym (take-add (n * i) n bytes) ∙ ap (λ k. take k bytes) next

-- a list is known by what its elements are known by
pub images-known : {X : Type 0} (f : X → ℕ) → ((x y : X) → f x ≡ f y → x ≡ y) → (xs ys : List X) → map f xs ≡ map f ys → xs ≡ ys
images-known f tells [] [] same = refl
images-known f tells [] (y ∷ ys) same = cc
images-known f tells (x ∷ xs) [] same = cc
images-known f tells (x ∷ xs) (y ∷ ys) same =
    let head : f x ≡ f y = cc in
    let tail : map f xs ≡ map f ys = cc in
    ap (λ z. z ∷ xs) (tells x y head) ∙ ap (λ zs. y ∷ zs) (images-known f tells xs ys tail)
