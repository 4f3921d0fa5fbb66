-- What holds after judgements one after another.
use Rattle.std.proofs.Common.{◌≡◌, ℕ, ◌≤◌, ℤ, pos, negsuc, Bool, true, false, not, ◌&&◌, nat_le, cond, List, length, Option, Some, None, Result, Ok, Err, refl, sym, subst, arith, IfOk}
use Rattle.std.specs.Prelude.{All, IfSome, neg_ℤ, int_le}
use Rattle.std.proofs.lemmas.Bool.{and_parts}
use Rattle.std.proofs.lemmas.Bool.Decides.{nat_tests}
use Rattle.std.proofs.lemmas.Int.{ints}
use Rattle.pcm_feeder.specs.Limits.{IsCoefWithin}
use Rattle.pcm_config.specs.declared.fault.ConfigFault.{ConfigFault}
use Rattle.pcm_config.specs.declared.fault.ConfigKind.{ConfigKind}
use Rattle.pcm_config.specs.declared.fault.ConfigRefusal.{ConfigRefusal}
use Rattle.pcm_config.specs.declared.place.ConfigPlace.{ConfigPlace}
use Rattle.pcm_config.specs.Answers.{Reads}
use Rattle.pcm_config.specs.Judgements.{◌>>=◌, ◌>>◌, as_seen, must_hold, required}
use Rattle.pcm_config.specs.Rows.{as_coef, in_range}

pub after-kept : {A B E : Type 0} (read : Result A E) (next : A → Result B E) (P : A → Type 0) (Q : B → Type 0)
    → IfOk read P → ((value : A) → P value → IfOk (next value) Q) → IfOk (read >>= next) Q
after-kept (Ok value) next P Q before after = after value before
after-kept (Err fault) next P Q before after = tt

pub after-any : {A B E : Type 0} (read : Result A E) (next : A → Result B E) (Q : B → Type 0)
    → ((value : A) → IfOk (next value) Q) → IfOk (read >>= next) Q
after-any (Ok value) next Q after = after value
after-any (Err fault) next Q after = tt

-- what says more of a value
pub ok-more : {A E : Type 0} (read : Result A E) (P Q : A → Type 0) → IfOk read P → ((value : A) → P value → Q value) → IfOk read Q
ok-more (Ok value) P Q known more = more value known
ok-more (Err fault) P Q known more = tt

-- what passes a test that else refuses
pub passed : {A E : Type 0} (test : Bool) (fault : E) (read : Result A E) (Q : A → Type 0) → (test ≡ false → IfOk read Q) → IfOk (cond test (Err fault) read) Q
passed true fault read Q after = tt
passed false fault read Q after = after refl

-- and what a judgement lets through that gives nothing
pub must-kept : {B : Type 0} (test : Bool) (fault : ConfigKind) (place : ConfigPlace) (next : Result B ConfigRefusal) (Q : B → Type 0)
    → (test ≡ true → IfOk next Q) → IfOk (must_hold test fault place >> next) Q
must-kept true fault place next Q after = after refl
must-kept false fault place next Q after = tt

-- what is there only where a test passes
pub some-kept : {A : Type 0} (test : Bool) (value : A) (Q : A → Type 0) → (test ≡ true → Q value) → IfSome (cond test (Some value) None) Q
some-kept true value Q known = known refl
some-kept false value Q known = tt

-- what must be there
pub required-kept : {A : Type 0} (fault : ConfigKind) (place : ConfigPlace) (found : Option A) (Q : A → Type 0) → IfSome found Q → IfOk (required fault place found) Q
required-kept fault place None Q known = tt
required-kept fault place (Some value) Q known = known

abbrev pub IsBetween : ℕ → ℕ → ℕ → Type 0
IsBetween least most number = (least ≤ number) × (number ≤ most)

range-parts : (least most number : ℕ) → (nat_le least number && nat_le number most) ≡ true → IsBetween least most number
range-parts least most number both = grind (arith, nat_tests)

-- a number in its set
pub range-kept : (least most : ℕ) (number : ℤ) → IfSome (in_range least most number) (IsBetween least most)
range-kept least most (pos number) = some-kept (nat_le least number && nat_le number most) number (IsBetween least most) (range-parts least most number)
range-kept least most (negsuc number) = tt

near-is : (most number : ℤ) → (int_le (neg_ℤ most) number && int_le number most) ≡ true → IsCoefWithin most number
near-is most number passes =
    let (low, high) = and_parts (int_le (neg_ℤ most) number) (int_le number most) passes in
    record { low = grind (arith, ints); high = grind (arith, ints) }

-- a coefficient within its limit
pub coef-kept : (most number : ℤ) → IfSome (as_coef most number) (IsCoefWithin most)
coef-kept most number = some-kept (int_le (neg_ℤ most) number && int_le number most) number (IsCoefWithin most) (near-is most number)

-- as many values, each of which is what it must be
abbrev pub AreKept : {B : Type 0} → (B → Type 0) → ℕ → List B → Type 0
AreKept P count values = (length values ≡ count) × All P values

-- what holds of what was judged holds of an answer that is that
pub answer-kept : {A B : Type 0} (seen : A → B) (answer : Result A ConfigFault) (read : Result B ConfigRefusal) (P : B → Type 0)
    → Reads (as_seen seen answer) read → IfOk read P → IfOk answer (λ value. P (seen value))
answer-kept seen (Ok value) read P same known = subst (λ judged. IfOk judged P) same known
answer-kept seen (Err fault) read P same known = tt

pub not-false : (test : Bool) → not test ≡ false → test ≡ true
not-false true passes = refl
not-false false passes = sym passes
