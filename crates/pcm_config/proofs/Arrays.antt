-- Arrays of TOML, value after value.
use Rattle.std.proofs.Common.{◌≡◌, Bool, true, false, ◌&&◌, cond, List, [], ◌∷◌, ◌++◌, length, drop, get_or, ℕ, ◌+◌, ◌<◌, ◌≤◌, Option, Some, None, option_map, refl, sym, ap, ◌∙◌}
use Rattle.std.proofs.lemmas.List.{append-nil, drop_all, drop_more}
use Rattle.std.specs.Prelude.{is_some}
use Rattle.std.specs.List.{list_all}
use Rattle.toml.specs.Data.{Data, Members, as_array, as_table}
use Rattle.toml.specs.View.{view, items_view}
use Rattle.toml.specs.declared.value.Value.{Value}
use Rattle.pcm_config.specs.Lookups.{as_array_of, each_as, or_empty, table_seen, tables_seen, values_of, with_first}

-- values, and more after them if those are there
abbrev pub joined : {B : Type 0} → List B → Option (List B) → Option (List B)
joined done more = option_map (λ others. done ++ others) more

-- the values from an index on that are still to be read, after those that were
abbrev pub IsRead : {A B : Type 0} → (A → Option B) → List A → ℕ → List B → Type 0
IsRead as_kind values index done = joined done (each_as as_kind (drop index values)) ≡ each_as as_kind values

-- ---- the values of an array as the code sees them

array-seen : {B : Type 0} (as_kind : Data → Option B) (values : List Value)
    → each_as as_kind (values_of (items_view values)) ≡ each_as (λ value. as_kind (view value)) values
array-seen as_kind [] = refl
array-seen as_kind (value ∷ values) = ap (with_first (as_kind (view value))) (array-seen as_kind values)

-- an array, value after value
pub array-is : {B : Type 0} (as_kind : Data → Option B) (value : Data) (values : List Value)
    → as_array value ≡ Some (items_view values) → as_array_of as_kind value ≡ each_as (λ inner. as_kind (view inner)) values
array-is as_kind value values found = rw found (array-seen as_kind values)

-- a value that is no array
pub array-none : {B : Type 0} (as_kind : Data → Option B) (value : Data) → as_array value ≡ None → as_array_of as_kind value ≡ None
array-none as_kind value none = rw none refl

-- ---- tables

table-before : (found : Option Members) (more : Option (List Members)) (test : Bool) (tables : List Members)
    → more ≡ cond test (Some tables) None → with_first found more ≡ cond (is_some found && test) (Some (or_empty found ∷ tables)) None
table-before None more test tables known = refl
table-before (Some table) more true tables known = rw known refl
table-before (Some table) more false tables known = rw known refl

-- values are tables, or one of them is none
pub tables-are : (values : List Value)
    → each_as (λ value. as_table (view value)) values ≡ cond (list_all (λ value. is_some (as_table (view value))) values) (Some (tables_seen values)) None
tables-are [] = refl
tables-are (value ∷ values) =
    table-before (as_table (view value)) (each_as (λ v. as_table (view v)) values) (list_all (λ v. is_some (as_table (view v))) values) (tables_seen values) (tables-are values)

-- a test of the tables that values are
pub all-seen : (test : Members → Bool) (values : List Value) → list_all (λ value. test (table_seen value)) values ≡ list_all test (tables_seen values)
all-seen test [] = refl
all-seen test (value ∷ values) = ap (λ b. test (table_seen value) && b) (all-seen test values)

-- an array of tables
pub all-tables : (value : Data) (values : List Value) → as_array value ≡ Some (items_view values)
    → true ≡ list_all (λ inner. is_some (as_table (view inner))) values → Some (tables_seen values) ≡ as_array_of as_table value
all-tables value values found all =
    sym (array-is as_table value values found ∙ tables-are values ∙ ap (λ test. cond test (Some (tables_seen values)) None) (sym all))

-- an array of which a value is no table
pub some-other : (value : Data) (values : List Value) → as_array value ≡ Some (items_view values)
    → false ≡ list_all (λ inner. is_some (as_table (view inner))) values → None ≡ as_array_of as_table value
some-other value values found other =
    sym (array-is as_table value values found ∙ tables-are values ∙ ap (λ test. cond test (Some (tables_seen values)) None) (sym other))

-- ---- values that are read one after another

-- the values from an index on, the first of them by itself
first-behind : {A B : Type 0} (as_kind : A → Option B) (values : List A) (index : ℕ) (done : List B) (value : A)
    → index < length values → value ≡ get_or values index value → IsRead as_kind values index done
    → joined done (with_first (as_kind value) (each_as as_kind (drop (index + 1) values))) ≡ each_as as_kind values
first-behind as_kind values index done value within at before =
    ap (λ v. joined done (with_first (as_kind v) (each_as as_kind (drop (index + 1) values)))) at
    ∙ ap (λ rest. joined done (each_as as_kind rest)) (sym (drop_more values index value within))
    ∙ before

-- one of another kind
pub value-other : {A B : Type 0} (as_kind : A → Option B) (values : List A) (index : ℕ) (done : List B) (value : A)
    → index < length values → value ≡ get_or values index value → as_kind value ≡ None → IsRead as_kind values index done
    → each_as as_kind values ≡ None
value-other as_kind values index done value within at none before =
    sym (first-behind as_kind values index done value within at before)
    ∙ ap (λ first. joined done (with_first first (each_as as_kind (drop (index + 1) values)))) none

-- the last one was read
pub all-read : {A B : Type 0} (as_kind : A → Option B) (values : List A) (index : ℕ) (done : List B)
    → length values ≤ index → IsRead as_kind values index done → each_as as_kind values ≡ Some done
all-read as_kind values index done past before =
    sym before ∙ ap (λ rest. joined done (each_as as_kind rest)) (drop_all index values past) ∙ ap Some (append-nil done)
