-- Lists made from a function of the index: the same, in parts, from a later index on, and joined.
use Rattle.std.proofs.Common.{◌≡◌, ℕ, zero, suc, ◌+◌, ◌*◌, ◌-◌, ◌<◌, ◌≤◌, List, ◌∷◌, ◌++◌, length, map, take, drop, arith, ap, refl, sym, ◌∙◌, add-zero, zero-add}
use Rattle.std.specs.List.{range_with_len, flat_map}
use Rattle.std.proofs.lemmas.List.{map-append, drop_at, length-append}
use Rattle.std.proofs.lemmas.List.FromFn.{length-map-range_with_len, get_or-map-range_with_len, fill_by_all, take-map-range_with_len}

-- ---- numbers

-- numbers from a on, in two parts
pub range-add : (a n m : ℕ) → range_with_len a (n + m) ≡ range_with_len a n ++ range_with_len (a + n) m
range-add a zero m = simp (zero-add, add-zero)
range-add a (suc n) m =
    let more : suc n + m ≡ suc (n + m) = omega arith in
    let next : a + 1 + n ≡ a + suc n = omega arith in
    ap (range_with_len a) more ∙ ap (λ r. a ∷ r) (range-add (a + 1) n m ∙ ap (λ b. range_with_len (a + 1) n ++ range_with_len b m) next)

-- ---- one element for each number

-- two functions that agree below n make one list
pub map-range-same : {X : Type 0} (g h : ℕ → X) (n : ℕ) → ((i : ℕ) → i < n → g i ≡ h i) → map g (range_with_len 0 n) ≡ map h (range_with_len 0 n)
map-range-same g h zero same = refl
map-range-same g h (suc n) same =
    fill_by_all h (map g (range_with_len 0 (suc n))) (suc n) (g 0) (length-map-range_with_len g 0 (suc n))
    (λ i below. get_or-map-range_with_len g 0 (suc n) i i (g 0) below (omega arith) ∙ same i below)

-- a list made from a shifted function
pub map-range-shift : {X : Type 0} (g : ℕ → X) (a b n : ℕ) → map (λ i. g (a + i)) (range_with_len b n) ≡ map g (range_with_len (a + b) n)
map-range-shift g a b zero = refl
map-range-shift g a b (suc n) =
    let next : a + (b + 1) ≡ a + b + 1 = omega arith in
    ap (λ r. g (a + b) ∷ r) (map-range-shift g a (b + 1) n ∙ ap (λ s. map g (range_with_len s n)) next)

-- a list made from a function, in two parts
pub map-range-add : {X : Type 0} (g : ℕ → X) (a n m : ℕ) → map g (range_with_len a (n + m)) ≡ map g (range_with_len a n) ++ map g (range_with_len (a + n) m)
map-range-add g a n m = ap (map g) (range-add a n m) ∙ map-append g (range_with_len a n) (range_with_len (a + n) m)

-- a part of a list made from a function
pub part-of-range : {X : Type 0} (g : ℕ → X) (a m n : ℕ) → a + m ≤ n → take m (drop a (map g (range_with_len 0 n))) ≡ map (λ i. g (a + i)) (range_with_len 0 m)
part-of-range g a m n within =
    let split : n ≡ a + (n - a) = omega arith in
    let none : a + 0 ≡ a = omega arith in
    ap (λ z. take m (drop a (map g (range_with_len 0 z)))) split
    ∙ ap (λ l. take m (drop a l)) (map-range-add g 0 a (n - a))
    ∙ ap (take m) (drop_at (map g (range_with_len 0 a)) (map g (range_with_len (0 + a) (n - a))) a (length-map-range_with_len g 0 a))
    ∙ take-map-range_with_len g (0 + a) (n - a) m (omega arith)
    ∙ ap (λ z. map g (range_with_len z m)) (omega arith)
    ∙ ap (λ z. map g (range_with_len z m)) (sym none)
    ∙ sym (map-range-shift g a 0 m)

-- ---- a list for each number, joined

-- two functions that agree on the numbers join to one list
pub flat_map-range-same : {X : Type 0} (f g : ℕ → List X) (a n : ℕ) → ((k : ℕ) → k < n → f (a + k) ≡ g (a + k)) → flat_map f (range_with_len a n) ≡ flat_map g (range_with_len a n)
flat_map-range-same f g a zero same = refl
flat_map-range-same f g a (suc n) same =
    let start = same 0 (omega arith) in
    let first : f a ≡ g a = rw add-zero at start in
    ap (λ l. l ++ flat_map f (range_with_len (a + 1) n)) first
    ∙ ap (λ l. g a ++ l) (flat_map-range-same f g (a + 1) n
    (λ k below. let here = same (k + 1) (omega arith) in let place : a + (k + 1) ≡ a + 1 + k = omega arith in rw place at here))

-- lists from a shifted function
pub flat_map-range-shift : {X : Type 0} (g : ℕ → List X) (a b n : ℕ) → flat_map (λ k. g (a + k)) (range_with_len b n) ≡ flat_map g (range_with_len (a + b) n)
flat_map-range-shift g a b zero = refl
flat_map-range-shift g a b (suc n) =
    let next : a + (b + 1) ≡ a + b + 1 = omega arith in
    ap (λ r. g (a + b) ++ r) (flat_map-range-shift g a (b + 1) n ∙ ap (λ s. flat_map g (range_with_len s n)) next)

-- lists of one length
pub length-flat_map-range : {X : Type 0} (f : ℕ → List X) (size a n : ℕ) → ((k : ℕ) → k < n → length (f (a + k)) ≡ size) → length (flat_map f (range_with_len a n)) ≡ n * size
length-flat_map-range f size a zero has = omega arith
length-flat_map-range f size a (suc n) has =
    let start = has 0 (omega arith) in
    let first : length (f a) ≡ size = rw add-zero at start in
    let rest = length-flat_map-range f size (a + 1) n
    (λ k below. let here = has (k + 1) (omega arith) in let place : a + (k + 1) ≡ a + 1 + k = omega arith in rw place at here) in
    omega (arith, length-append (f a) (flat_map f (range_with_len (a + 1) n)))

-- rows of c elements
pub rows-joined : {X : Type 0} (g : ℕ → X) (c a m : ℕ) → flat_map (λ j. map (λ i. g (j * c + i)) (range_with_len 0 c)) (range_with_len a m) ≡ map g (range_with_len (a * c) (m * c))
rows-joined g c a zero =
    let none : 0 ≡ 0 * c = omega arith in
    ap (λ n. map g (range_with_len (a * c) n)) none
rows-joined g c a (suc m) =
    let start : a * c + 0 ≡ a * c = omega arith in
    let next : a * c + c ≡ (a + 1) * c = omega arith in
    let all : suc m * c ≡ c + m * c = omega arith in
    ap (λ r. map (λ i. g (a * c + i)) (range_with_len 0 c) ++ r) (rows-joined g c (a + 1) m)
    ∙ ap (λ row. row ++ map g (range_with_len ((a + 1) * c) (m * c))) (map-range-shift g (a * c) 0 c ∙ ap (λ s. map g (range_with_len s c)) start)
    ∙ sym (ap (λ n. map g (range_with_len (a * c) n)) all ∙ map-range-add g (a * c) c (m * c) ∙ ap (λ s. map g (range_with_len (a * c) c) ++ map g (range_with_len s (m * c))) next)
