-- What callers need of groups: the group of a slot after one was set, and what each slot has once a group changed.
use Rattle.std.proofs.Common.{◌≡◌, ◌≢◌, ℕ, zero, suc, ◌+◌, ◌<◌, Bool, true, false, cond, List, [], ◌∷◌, length, drop, set, get_or, inl, inr, refl, sym, ap, ◌∙◌, arith, get_or-set_same, get_or-set_other}
use Rattle.std.specs.Prelude.{eqb, ◌&&◌, ◌||◌, not}
use Rattle.std.proofs.lemmas.Bool.{and_parts, cases_lt}
use Rattle.std.proofs.lemmas.Bool.Decides.{nat_tests}
use Rattle.std.proofs.lemmas.List.{get_or_past, set_past}
use Rattle.pcm_oss.specs.declared.event.Way.{Way}
use Rattle.pcm_oss.specs.declared.event.Way.TheVariants.{Play, Record, Map}
use Rattle.pcm_group.specs.declared.sync_groups.Groups.{Groups}
use Rattle.pcm_group.specs.Groups.{all_in, change_in, dissolved, dissolved_in, group_at, is_used, with_group}

-- ---- the group of a slot

-- a slot of a list, whatever was set at another place
other_stays : (slots : List ℕ) (at slot group : ℕ) → slot ≢ at → get_or (set slots at group) slot 0 ≡ get_or slots slot 0
other_stays slots at slot group differ = get_or-set_other slots at slot group 0 differ

-- a slot that was set to none
none_there : (slots : List ℕ) (slot : ℕ) → get_or (set slots slot 0) slot 0 ≡ 0
none_there slots slot =
    elim (cases_lt slot (length slots)) [
      | inl here ↦ get_or-set_same slots slot 0 0 here
      | inr past ↦ ap (λ (l : List ℕ). get_or l slot 0) (set_past slots slot 0 past) ∙ get_or_past slots slot 0 past
    ]

pub group-left : (groups : Groups) (way : Way) (slot : ℕ) → group_at (with_group groups way slot 0) way slot ≡ 0
group-left groups Play slot = none_there groups.play slot
group-left groups Record slot = none_there groups.recording slot
group-left groups Map slot = refl

pub group-other : (groups : Groups) (way other : Way) (slot at group : ℕ) → (way ≡ other → slot ≡ at → ⊥) → group_at (with_group groups other at group) way slot ≡ group_at groups way slot
group-other groups Play Play slot at group differ = other_stays groups.play at slot group (λ same. differ refl same)
group-other groups Play Record slot at group differ = refl
group-other groups Record Play slot at group differ = refl
group-other groups Play Map slot at group differ = refl
group-other groups Record Map slot at group differ = refl
group-other groups Map other slot at group differ = none other
  where
    none : (other : Way) → group_at (with_group groups other at group) Map slot ≡ group_at groups Map slot
    none Play = refl
    none Record = refl
    none Map = refl
group-other groups Record Record slot at group differ = other_stays groups.recording at slot group (λ same. differ refl same)

-- once a group is dissolved a slot has its own, or none where it was in that one
dissolved_at : (group : ℕ) (slots : List ℕ) (slot : ℕ) → get_or (dissolved_in group slots) slot 0 ≡ cond (eqb (get_or slots slot 0) group) 0 (get_or slots slot 0)
dissolved_at group [] slot = either (eqb 0 group)
  where
    either : (b : Bool) → let none : ℕ = 0 in none ≡ cond b none none
    either true = refl
    either false = refl
dissolved_at group (its ∷ slots) zero = refl
dissolved_at group (its ∷ slots) (suc slot) = dissolved_at group slots slot

pub group-dissolved : (group : ℕ) (groups : Groups) (way : Way) (slot : ℕ) → group_at (dissolved group groups) way slot ≡ cond (eqb (group_at groups way slot) group) 0 (group_at groups way slot)
group-dissolved group groups Play slot = dissolved_at group groups.play slot
group-dissolved group groups Record slot = dissolved_at group groups.recording slot
group-dissolved group groups Map slot = dissolved_at group [] slot

-- ---- what each slot has

pub length-change_in : {B : Type 0} (group : ℕ) (how : B → B) (slots : List ℕ) (books : List B) → length (change_in group how slots books) ≡ length books
length-change_in group how [] books = refl
length-change_in group how (its ∷ slots) [] = refl
length-change_in group how (its ∷ slots) (book ∷ books) = ap suc (length-change_in group how slots books)

-- a slot in the group has changed, and another has not
pub get_or-change_in : {B : Type 0} (group : ℕ) (how : B → B) (slots : List ℕ) (books : List B) (slot : ℕ) (none : B) → 0 < group → slot < length books
    → get_or (change_in group how slots books) slot none ≡ cond (eqb (get_or slots slot 0) group) (how (get_or books slot none)) (get_or books slot none)
get_or-change_in {B = B} group how [] books slot none some there =
    let differ : eqb 0 group ≡ false = grind (arith, nat_tests) in
    rw differ refl
get_or-change_in group how (its ∷ slots) [] slot none some there = absurd (omega arith)
get_or-change_in group how (its ∷ slots) (book ∷ books) zero none some there = refl
get_or-change_in group how (its ∷ slots) (book ∷ books) (suc slot) none some there = get_or-change_in group how slots books slot none some (omega arith)

-- of the slots from one on: it is so of that one, and of those after it
pub all_in-drop : {B : Type 0} (group : ℕ) (so : B → Bool) (slots : List ℕ) (books : List B) (slot : ℕ) (none : B) → 0 < group → slot < length books
    → all_in group so (drop slot slots) (drop slot books) ≡ ((not (eqb (get_or slots slot 0) group) || so (get_or books slot none)) && all_in group so (drop (slot + 1) slots) (drop (slot + 1) books))
all_in-drop {B = B} group so [] books slot none some there =
    let differ : eqb 0 group ≡ false = grind (arith, nat_tests) in
    ap (λ (l : List ℕ). all_in group so l (drop slot books)) (nothing slot)
    ∙ sym (ap (λ (l : List ℕ). (not (eqb 0 group) || so (get_or books slot none)) && all_in group so l (drop (slot + 1) books)) (nothing (slot + 1))
    ∙ ap (λ (b : Bool). (not b || so (get_or books slot none)) && true) differ)
  where
    nothing : (n : ℕ) → let none : List ℕ = [] in drop n none ≡ none
    nothing zero = refl
    nothing (suc n) = refl
all_in-drop group so (its ∷ slots) [] slot none some there = absurd (omega arith)
all_in-drop group so (its ∷ slots) (book ∷ books) zero none some there = refl
all_in-drop {B = B} group so (its ∷ slots) (book ∷ books) (suc slot) none some there =
    let next : suc slot + 1 ≡ suc (slot + 1) = omega arith in
    all_in-drop group so slots books slot none some (omega arith)
    ∙ ap (λ (k : ℕ). (not (eqb (get_or slots slot 0) group) || so (get_or books slot none)) && all_in group so (drop k (its ∷ slots)) (drop k (book ∷ books))) (sym next)

-- what is so of all slots in the group is so of each
pub all_in-each : {B : Type 0} (group : ℕ) (so : B → Bool) (slots : List ℕ) (books : List B) (slot : ℕ) (none : B) → all_in group so slots books ≡ true → 0 < group → slot < length books → get_or slots slot 0 ≡ group
    → so (get_or books slot none) ≡ true
all_in-each group so [] books slot none all some there is = absurd (omega arith)
all_in-each group so (its ∷ slots) [] slot none all some there is = absurd (omega arith)
all_in-each group so (its ∷ slots) (book ∷ books) zero none all some there is =
    or_so (eqb its group) (and_parts (not (eqb its group) || so book) (all_in group so slots books) all).0 (grind (arith, nat_tests))
  where
    or_so : (b : Bool) → (not b || so book) ≡ true → b ≡ true → so book ≡ true
    or_so true e t = e
    or_so false e t = cc
all_in-each group so (its ∷ slots) (book ∷ books) (suc slot) none all some there is =
    all_in-each group so slots books slot none (and_parts (not (eqb its group) || so book) (all_in group so slots books) all).1 some (omega arith) is

-- a group in use is none of number 0
pub used-some : (groups : Groups) (group : ℕ) → is_used groups group ≡ true → 0 < group
used-some groups zero e = cc
used-some groups (suc group) e = omega arith
