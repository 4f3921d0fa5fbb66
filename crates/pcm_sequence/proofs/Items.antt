-- The elements of a list of a fixed length.
use Rattle.std.proofs.Common.{◌≡◌, ◌≤◌, ℕ, List, length, set, get_or, sym, ap, ◌∙◌}
use Rattle.std.specs.Prelude.{Vec}
use Rattle.std.specs.Vec.{with_item}
use Rattle.std.proofs.Props.{props}
use Rattle.std.proofs.lemmas.List.{with_items_is, set-get_or}
use mathlib.Core.HLevel.{is_prop→PathP}
use Rattle.pcm_sequence.specs.declared.fixed.Fixed.{Fixed}
use Rattle.pcm_sequence.specs.Fixed.{fixed_items, fixed_len, with_fixed_items, with_fixed_item}

-- there are as many as its length says
pub items-count : {T : Type 0} (list : Fixed T) → length (fixed_items list) ≡ fixed_len list
items-count list = sym list.items.items.ok.0

-- as many as there are, written over all of them
pub items-written : {T : Type 0} (list : Fixed T) (items : List T) → length items ≡ fixed_len list → fixed_items (with_fixed_items list items) ≡ items
items-written list items same = with_items_is list.items.items items same

-- an element that is written back changes nothing of a vector
vec-same : {X Z : Type 0} (v : Vec X Z) (at : ℕ) (x d : X) → x ≡ get_or v.items at d → with_item v at x ≡ v
vec-same v at x d is =
    let items : set v.items at x ≡ v.items = ap (set v.items at) is ∙ set-get_or v.items at d in
    λ i. record {
      ptr = v.ptr;
      len = v.len;
      cap = v.cap;
      alloc = v.alloc;
      items = items i;
      ok = is_prop→PathP (λ j. (v.len ≡ length (items j)) × (v.len ≤ v.cap)) (λ j. hlevel props) (with_item v at x).ok v.ok i;
      small = v.small;
    }

-- nor of a list of a fixed length
pub item-kept : {T : Type 0} (list : Fixed T) (at : ℕ) (item other : T) → item ≡ get_or (fixed_items list) at other → with_fixed_item list at item ≡ list
item-kept list at item other is = λ i. record { items = record { items = vec-same list.items.items at item other is i } }
