-- What stands in a table of TOML. A table that is left out has no key.
use Rattle.std.specs.Prelude.{ℕ, Bool, List, [], ◌∷◌, map, Option, Some, None, option_map, option_and_then, Result, Ok, String}
use Rattle.std.specs.List.{list_all, list_any}
use Rattle.std.specs.Borrow.{Bor}
use Rattle.std.specs.BTreeMap.{BTreeMap}
use Rattle.std.specs.Str.{bytes_eq}
use Rattle.std.specs.declared.alloc.Global.{Global}
use Rattle.toml.specs.Data.{Data, Items, no_items, item, Members, no_members, member, get_member, as_array, as_table}
use Rattle.toml.specs.View.{view, table_view}
use Rattle.toml.specs.declared.value.Value.{Value}
use Rattle.pcm_config.specs.declared.fault.ConfigKind.TheVariants.{Kind}
use Rattle.pcm_config.specs.declared.fault.ConfigRefusal.{ConfigRefusal}
use Rattle.pcm_config.specs.declared.place.ConfigPlace.{ConfigPlace}
use Rattle.pcm_config.specs.Judgements.{◌>>=◌, required}
use Rattle.pcm_config.specs.Places.{key_of}

-- the members of a table, if it is there
abbrev pub members_seen : Option (Bor (BTreeMap (String Global) Value)) → Members
members_seen None = no_members
members_seen (Some table) = table_view table.now

-- a value, if it is there
abbrev pub value_seen : Option (Bor Value) → Option Data
value_seen value = option_map (λ v. view v.now) value

-- the keys of a table with their values, in the byte order of the keys
abbrev pub entries_of : Members → List (List ℕ × Data)
entries_of no_members = []
entries_of (member key value others) = (key, value) ∷ entries_of others

-- the value at a place of a table
abbrev pub member_at : ConfigPlace → Members → Option Data
member_at place table = get_member (key_of place) table

-- whether a key is that of one of these places
abbrev pub is_key_of : List ConfigPlace → List ℕ → Bool
is_key_of places key = list_any (λ place. bytes_eq (key_of place) key) places

-- whether a table has no key but those of these places
abbrev pub has_only : List ConfigPlace → Members → Bool
has_only places table = list_all (λ entry. is_key_of places entry.0) (entries_of table)

-- a value as what it must be, if there is one
abbrev pub of_kind : {A : Type 0} → (Data → Option A) → ConfigPlace → Option Data → Result (Option A) ConfigRefusal
of_kind as_kind place None = Ok None
of_kind as_kind place (Some value) = required Kind place (option_map Some (as_kind value))

-- the value at a place as what it must be, if there is one
abbrev pub value_at : {A : Type 0} → (Data → Option A) → ConfigPlace → Members → Result (Option A) ConfigRefusal
value_at as_kind place table = of_kind as_kind place (member_at place table)

-- a table, or the one without keys
abbrev pub or_empty : Option Members → Members
or_empty None = no_members
or_empty (Some table) = table

-- the table that a value is, and those that values are
abbrev pub table_seen : Value → Members
table_seen value = or_empty (as_table (view value))

abbrev pub tables_seen : List Value → List Members
tables_seen values = map table_seen values

abbrev pub borrowed_tables : Bor (List Value) → List Members
borrowed_tables values = tables_seen values.now

-- the table at a place of the top
abbrev pub table_in : ConfigPlace → Members → Result Members ConfigRefusal
table_in place top = do
  found ← value_at as_table place top
  Ok (or_empty found)

-- the values of an array
abbrev pub values_of : Items → List Data
values_of no_items = []
values_of (item value others) = value ∷ values_of others

-- a value before others, if all are there
abbrev pub with_first : {B : Type 0} → Option B → Option (List B) → Option (List B)
with_first (Some value) (Some others) = Some (value ∷ others)
with_first value others = None

-- values as what they must be, if each of them is
abbrev pub each_as : {A B : Type 0} → (A → Option B) → List A → Option (List B)
each_as as_kind [] = Some []
each_as as_kind (value ∷ values) = with_first (as_kind value) (each_as as_kind values)

-- the values that the code sees as what they must be, if each of them is
abbrev pub each_in : {B : Type 0} → (Data → Option B) → List Value → Option (List B)
each_in as_kind values = each_as (λ value. as_kind (view value)) values

-- a value as an array, if it is one and each value in it is of a kind
abbrev pub as_array_of : {B : Type 0} → (Data → Option B) → Data → Option (List B)
as_array_of as_kind value = option_and_then (λ items. each_as as_kind (values_of items)) (as_array value)
