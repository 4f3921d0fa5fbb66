-- Numbers and members that were tested one after another.
use Rattle.std.proofs.Common.{◌≡◌, ℕ, ◌<◌, ◌≤◌, ◌+◌, Bool, true, List, length, get_or, take, inl, inr, sym, ◌∙◌, subst, arith}
use Rattle.std.specs.Prelude.{slice_get, ◌==◌}
use Rattle.std.specs.List.{list_any}
use Rattle.std.proofs.lemmas.Bool.{cases_lt}
use Rattle.std.proofs.lemmas.Bool.Decides.{nat_tests}
use Rattle.std.proofs.lemmas.List.{get_or_past, length-take}
use Rattle.std.proofs.lemmas.Grind.{common_steps}
use Rattle.std.proofs.lemmas.List.Folds.{Any-from_list_any}
use Rattle.pcm_engine.specs.Judged.{StandOnce, WaitInGroups, some_is}

-- no two numbers below a place are one, but 0
abbrev pub ApartBelow : ℕ → List ℕ → Type 0
ApartBelow end numbers = (one other : ℕ) → one < end → other < end → 0 < get_or numbers one 0 → get_or numbers one 0 ≡ get_or numbers other 0 → one ≡ other

-- a number that is among those before it doesn't stand once
pub stands-twice : (numbers : List ℕ) (fd : ℕ) → list_any (λ its. its == get_or numbers fd 0) (take fd numbers) ≡ true → 0 < get_or numbers fd 0 → StandOnce numbers → ⊥
stands-twice numbers fd among some once =
    let found = Any-from_list_any (λ its. its == get_or numbers fd 0) (take fd numbers) among in
    let before : found.0 < fd = omega (arith, found.2, length-take fd numbers) in
    let is = found.4 in
    let same : found.1 ≡ get_or numbers fd 0 = grind (arith, nat_tests) in
    let its : get_or numbers found.0 0 ≡ found.1 = grind (arith, common_steps) in
    absurd (omega (arith, before, once fd found.0 some (sym (its ∙ same))))

-- each member below a place waits
abbrev pub WaitBelow : {A : Type 0} → ℕ → (A → Bool) → List ℕ → List A → Type 0
WaitBelow end waits groups channels = (slot : ℕ) → slot < end → 0 < get_or groups slot 0 → some_is waits (slice_get channels slot) ≡ true

-- and so do those up to the next place, where the one at this place does
pub wait-more : {A : Type 0} (waits : A → Bool) (groups : List ℕ) (channels : List A) (end : ℕ) → WaitBelow end waits groups channels
    → (0 < get_or groups end 0 → some_is waits (slice_get channels end) ≡ true) → WaitBelow (end + 1) waits groups channels
wait-more waits groups channels end was here slot below some =
    elim (cases_lt slot end) [
      | inl before ↦ was slot before some
      | inr at ↦
          let is : slot ≡ end = omega (arith, below, at) in
          subst (λ (s : ℕ). some_is waits (slice_get channels s) ≡ true) (sym is) (here (subst (λ (s : ℕ). 0 < get_or groups s 0) is some))
    ]

-- those below the last place are all
pub wait-all : {A : Type 0} (waits : A → Bool) (groups : List ℕ) (channels : List A) (end : ℕ) → WaitBelow end waits groups channels → length groups ≤ end → WaitInGroups waits groups channels
wait-all waits groups channels end was all slot some =
    elim (cases_lt slot (length groups)) [
      | inl there ↦ was slot (omega (arith, there, all)) some
      | inr past ↦ absurd (omega (arith, some, get_or_past groups slot 0 past))
    ]
