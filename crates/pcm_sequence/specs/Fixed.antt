-- What a contract sees of a `Fixed`: its elements, and how many there are.
use Rattle.std.specs.Prelude.{ℕ, List}
use Rattle.std.specs.Borrow.{Lends, MutBor, Fml, RattleType, Array}
use Rattle.std.specs.Box.{boxed_slice_items, boxed_slice_len, boxed_slice_with_items, boxed_slice_with_item}
use Rattle.pcm_sequence.specs.declared.fixed.Fixed.{Fixed}
use Rattle.pcm_sequence.specs.contracts.fixed.Fixed.{the_row}

module _ {T : Type 0} where
  -- the elements
  abbrev pub fixed_items : Fixed T → List T
  fixed_items list = boxed_slice_items list.items

  -- how many there are
  abbrev pub fixed_len : Fixed T → ℕ
  fixed_len list = boxed_slice_len list.items

  -- the same list with these elements, cut to its length or filled up from its own
  abbrev pub with_fixed_items : Fixed T → List T → Fixed T
  with_fixed_items list items = record { items = boxed_slice_with_items list.items items }

  -- the list with another element at a place
  abbrev pub with_fixed_item : Fixed T → ℕ → T → Fixed T
  with_fixed_item list at item = record { items = boxed_slice_with_item list.items at item }

-- the list ends with the elements as their borrower left them
abbrev pub LendsItems : (R : RattleType) → MutBor (Fixed R.Denot) → MutBor (List R.Denot) → Fml
LendsItems R list items = Lends (the_row R) (Array R 0) list items (with_fixed_items list.now)

-- the list ends with one element as its borrower left it
abbrev pub LendsItem : (R : RattleType) → MutBor (Fixed R.Denot) → ℕ → MutBor R.Denot → Fml
LendsItem R list at item = Lends (the_row R) R list item (with_fixed_item list.now at)
