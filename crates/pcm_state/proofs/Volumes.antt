-- The row of a mixer: its volumes have 32 bits, and it is its parts.
use Rattle.std.proofs.Common.{◌≡◌, ℕ, true, Option, None, Some, IfSome, List, [], ◌∷◌, ◌++◌, All, length, get_or, take, drop, refl, sym, ap, subst, arith}
use Rattle.std.specs.Prelude.{is_some}
use Rattle.std.specs.List.{list_all}
use Rattle.std.proofs.lemmas.Bool.{and_parts}
use Rattle.std.proofs.lemmas.Bool.Decides.{nat_tests}
use Rattle.std.proofs.lemmas.List.Elements.{All-nil, All-cons}
use Rattle.pcm_oss.specs.Volumes.{is_volume}
use Rattle.pcm_state.specs.OpeningRows.{IsWord}
use Rattle.pcm_state.proofs.Rows.{halves-joined}

pub volume-word : (volume : ℕ) → is_volume volume ≡ true → IsWord volume
volume-word volume is = grind (arith, nat_tests)

pub volumes-words : (volumes : List ℕ) → list_all is_volume volumes ≡ true → All IsWord volumes
volumes-words [] are = All-nil IsWord
volumes-words (volume ∷ volumes) are =
    let parts = and_parts (is_volume volume) (list_all is_volume volumes) are in
    All-cons IsWord volume volumes (volume-word volume parts.0) (volumes-words volumes parts.1)

-- a row is its first number and its halves
pub parts-joined : (row : List ℕ) → length row ≡ 33 → get_or row 0 0 ∷ take 16 (drop 1 row) ++ take 16 (drop 17 row) ≡ row
parts-joined [] long = absurd (omega arith)
parts-joined (master ∷ rest) long = ap (λ l. master ∷ l) (halves-joined 16 rest (omega arith))

-- what is there, and is this one
pub some-is : {X : Type 0} (found : Option X) (x : X) → is_some found ≡ true → IfSome found (λ it. it ≡ x) → found ≡ Some x
some-is None x some same = cc
some-is (Some it) x some same = ap (λ y. Some y) same

-- what holds of the one that is there, where one is
pub from-some : {X : Type 0} (P : X → Type 0) (found : Option X) (x : X) → IfSome found (λ it. it ≡ x) → (is_some found ≡ true → P x) → IfSome found P
from-some P None x same holds = tt
from-some P (Some it) x same holds = subst P (sym same) (holds refl)
