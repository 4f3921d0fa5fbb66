-- The racks of channels that are made one after another, and the parts of a list of racks.
use Rattle.std.proofs.Common.{◌≡◌, ◌≤◌, ◌+◌, ◌-◌, ◌++◌, ◌∷◌, [], ℕ, List, length, map, take, drop, sym, ap, ◌∙◌, append_assoc, arith}
use Rattle.std.proofs.lemmas.List.{append-nil, drop-append-le, drop-take, drop_all, map-append, take-take}

-- what was made and what is left are all of them, and so it is with one more
pub one-more : {X Y Z : Type 0} (f : X → Z) (g : Y → Z) (made longer : List X) (left rest : List Y) (x : X) (y : Y) (all : List Z) → map f made ++ map g left ≡ all
    → longer ≡ made ++ x ∷ [] → left ≡ y ∷ rest → f x ≡ g y → map f longer ++ map g rest ≡ all
one-more f g made longer left rest x y all before items steps same =
    ap (λ list. map f list ++ map g rest) items
    ∙ ap (λ list. list ++ map g rest) (map-append f made (x ∷ []))
    ∙ append_assoc (map f made) (f x ∷ []) (map g rest)
    ∙ ap (λ z. map f made ++ z ∷ map g rest) same
    ∙ ap (λ list. map f made ++ map g list) (sym steps)
    ∙ before

-- a part of the first ones of a list is the same part of all of it
pub part-of-first : {X : Type 0} (n m k : ℕ) (list : List X) → n + m ≤ k → take m (drop n (take k list)) ≡ take m (drop n list)
part-of-first n m k list within =
    let rest : k ≡ n + (k - n) = omega arith in
    ap (λ j. take m (drop n (take j list))) rest
    ∙ ap (take m) (drop-take n (k - n) list)
    ∙ take-take m (k - n) (drop n list) (omega arith)

-- without its first n items, a list is what stands after them
pub drop_length : {X : Type 0} (front rest : List X) (n : ℕ) → length front ≡ n → drop n (front ++ rest) ≡ rest
drop_length front rest n long =
    drop-append-le n front rest (omega (arith, long)) ∙ ap (λ list. list ++ rest) (drop_all n front (omega (arith, long)))

-- no racks are left where there are none to count
pub none-left : {X Z : Type 0} (f : X → Z) (made all : List Z) (left : List X) → length left ≡ 0 → made ++ map f left ≡ all → made ≡ all
none-left f made all [] none are = sym (append-nil made) ∙ are
none-left f made all (x ∷ left) none are = absurd (omega (arith, none))
