-- Numbers that are drawn one after another: each draw goes by a state of 64 bits, and leaves the next one.
use Rattle.std.specs.Prelude.{ℕ, ◌+◌, ◌*◌, ◌/◌, ◌%◌, ◌^◌}

-- what was drawn, and the state that is left
pub record Drawn (A : Type 0) : Type 0 where
  pub value : A
  pub state : ℕ

-- something that is drawn from a state
abbrev pub Draw : Type 0 → Type 0
Draw A = ℕ → Drawn A

-- the state that follows a state
unfoldable pub next_state : ℕ → ℕ
next_state state = (state * 6364136223846793005 + 1442695040888963407) % 2 ^ 64

-- the number of a state: its upper 31 bits
unfoldable pub state_number : ℕ → ℕ
state_number state = state / 2 ^ 33

-- the next number, modulo a bound
abbrev pub drawn_below : ℕ → Draw ℕ
drawn_below bound state = record { value = state_number (next_state state) % bound; state = next_state state }

-- a draw, and then another one that may depend on what the first gave
infixl 10 ◌>>=◌
abbrev pub ◌>>=◌ : {A B : Type 0} → Draw A → (A → Draw B) → Draw B
draw >>= next = λ state. next (draw state).value (draw state).state

-- what needs no further draw
abbrev pub without_draw : {A : Type 0} → A → Draw A
without_draw value = λ state. record { value = value; state = state }
