-- The sections of a configuration's equaliser: a table for each, what that spells, and what it settles.
use Rattle.std.specs.Prelude.{ℕ, ℤ, not, if◌then◌else◌, List, [], ◌∷◌, option_and_then, Result, Ok, codes}
use Rattle.pcm_feeder.specs.declared.limits.TheConstants.{SECTION_COEF_MOST, SECTION_SHIFT_MOST, SECTIONS}
use Rattle.pcm_feeder.specs.declared.section.Section.{Section}
use Rattle.toml.specs.Data.{Members, get_member, as_integer}
use Rattle.pcm_config.specs.declared.fault.ConfigKind.TheVariants.{Kind, Range, Missing, Coef}
use Rattle.pcm_config.specs.declared.fault.ConfigRefusal.{ConfigRefusal}
use Rattle.pcm_config.specs.declared.place.ConfigPlace.TheVariants.{Eq}
use Rattle.pcm_config.specs.declared.section.Numbers.{Numbers}
use Rattle.pcm_config.specs.Judgements.{◌>>=◌, fault_at, required}
use Rattle.pcm_config.specs.Lists.{few_read, has_each}
use Rattle.pcm_config.specs.Rows.{as_coef, in_range}

-- the keys of a section, each of which must be there
abbrev pub section_keys : List (List ℕ)
section_keys = codes "shift" ∷ codes "b0" ∷ codes "b1" ∷ codes "b2" ∷ codes "a1" ∷ codes "a2" ∷ []

-- ---- what a table spells

-- the whole number at a key
abbrev pub spelled_at : List ℕ → Members → Result ℤ ConfigRefusal
spelled_at key table = required Kind Eq (option_and_then as_integer (get_member key table))

-- what stands at the keys, each a whole number
unfoldable pub numbers_of : Members → Result Numbers ConfigRefusal
numbers_of table = do
  shift ← spelled_at (codes "shift") table
  b0 ← spelled_at (codes "b0") table
  b1 ← spelled_at (codes "b1") table
  b2 ← spelled_at (codes "b2") table
  a1 ← spelled_at (codes "a1") table
  a2 ← spelled_at (codes "a2") table
  Ok (record { shift = shift; b0 = b0; b1 = b1; b2 = b2; a1 = a1; a2 = a2 })

-- ---- what a table settles

-- the shift of a section
unfoldable pub section_shift : ℤ → Result ℕ ConfigRefusal
section_shift number = required Range Eq (in_range 1 SECTION_SHIFT_MOST number)

-- a coefficient of a section, within its limit on both sides of 0
unfoldable pub section_coef : ℤ → Result ℤ ConfigRefusal
section_coef number = required Coef Eq (as_coef SECTION_COEF_MOST number)

-- what is spelled, as a section: first the shift is in its set, and then each coefficient is within its limit
unfoldable pub settled_section : Numbers → Result Section ConfigRefusal
settled_section numbers = do
  shift ← section_shift numbers.shift
  b0 ← section_coef numbers.b0
  b1 ← section_coef numbers.b1
  b2 ← section_coef numbers.b2
  a1 ← section_coef numbers.a1
  a2 ← section_coef numbers.a2
  Ok (record { shift = shift; b0 = b0; b1 = b1; b2 = b2; a1 = a1; a2 = a2 })

-- the section of a table, which has each of the keys
unfoldable pub section_in : Members → Result Section ConfigRefusal
section_in table =
    if not (has_each section_keys table) then fault_at Missing Eq
    else numbers_of table >>= settled_section

-- the sections of tables, of which there are no more than `SECTIONS`
abbrev pub sections_in : List Members → Result (List Section) ConfigRefusal
sections_in tables = few_read SECTIONS Eq section_in tables
