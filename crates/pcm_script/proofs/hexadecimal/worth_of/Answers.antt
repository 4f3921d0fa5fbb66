-- The table is held against the definition at each of the 256 bytes, by computing.
use Rattle.std.proofs.Common.{◌≡◌, ℕ, zero, suc, ◌<◌, Bool, true, ◌&&◌, ◌==◌, inl, inr, List, get_or, unwrap_or, refl, arith}
use Rattle.std.proofs.lemmas.Bool.{and_parts, cases_eq, eqb-true}
use Rattle.hex.specs.Hex.{hex_digit_value}
use Rattle.pcm_script.specs.declared.hexadecimal.TheConstants.{DIGITS}
use Rattle.pcm_script.proofs.hexadecimal.worth_of.Goals as goal

-- what a byte is worth by the definition
worth : ℕ → ℕ
worth byte = unwrap_or (hex_digit_value byte) 16

-- the table says so at each place below n
all_right : List ℕ → ℕ → Bool
all_right table zero = true
all_right table (suc n) = (get_or table n 0 == worth n) && all_right table n

right-at : (table : List ℕ) (n byte : ℕ) → all_right table n ≡ true → byte < n → get_or table byte 0 ≡ worth byte
unfolding all_right
right-at table zero byte right below = absurd (omega arith)
right-at table (suc n) byte right below =
    let parts = and_parts (get_or table n 0 == worth n) (all_right table n) right in
    elim (cases_eq byte n) [
      | inl same ↦ rw same (eqb-true (get_or table n 0) (worth n) parts.0)
      | inr other ↦ right-at table n byte parts.1 (omega arith)
    ]

pub returns : goal.returns
unfolding all_right worth
returns c = right-at DIGITS 256 c.args.byte refl (omega arith)
