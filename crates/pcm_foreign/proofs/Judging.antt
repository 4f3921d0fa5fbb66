-- What holds of numbers that pass their tests.
use Rattle.std.proofs.Common.{◌≡◌, ℕ, ◌≤◌, Bool, true, List, [], ◌∷◌, map, arith}
use Rattle.std.specs.Prelude.{All}
use Rattle.std.specs.List.{list_all}
use Rattle.std.proofs.lemmas.Bool.{and_parts}
use Rattle.std.proofs.lemmas.Bool.Decides.{nat_tests}
use Rattle.std.proofs.lemmas.List.Elements.{All-nil, All-cons}
use Rattle.pcm_feeder.specs.Limits.{IsRate}
use Rattle.pcm_foreign.specs.Devices.{is_rate}

-- a rate that passes the test is within its limits
pub rate-is : (rate : ℕ) → is_rate rate ≡ true → IsRate rate
rate-is rate passes =
    let both : (4000 ≤ rate) × (rate ≤ 192000) = grind (arith, nat_tests) in
    record { least = both.0; most = both.1 }

-- what passes a test one by one is, one by one, what the test says
pub all-are : {A : Type 0} (test : A → Bool) (P : A → Type 0) → ((value : A) → test value ≡ true → P value)
    → (values : List A) → list_all test values ≡ true → All P values
all-are test P known [] passes = All-nil P
all-are test P known (value ∷ values) passes =
    let (first, others) = and_parts (test value) (list_all test values) passes in
    All-cons P value values (known value first) (all-are test P known values others)

-- and so of what is made of it
pub all-made : {A B : Type 0} (test : A → Bool) (P : B → Type 0) (make : A → B) → ((value : A) → test value ≡ true → P (make value))
    → (values : List A) → list_all test values ≡ true → All P (map make values)
all-made test P make known [] passes = All-nil P
all-made test P make known (value ∷ values) passes =
    let (first, others) = and_parts (test value) (list_all test values) passes in
    All-cons P (make value) (map make values) (known value first) (all-made test P make known values others)
