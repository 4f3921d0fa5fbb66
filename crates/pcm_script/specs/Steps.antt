-- Judgements one after another: the first that refuses is the result.
use Rattle.std.specs.Prelude.{Result, Ok, Err}

-- the next judgement, if this one gave a value
infixl 10 ◌>>=◌
abbrev pub ◌>>=◌ : {A B E : Type 0} → Result A E → (A → Result B E) → Result B E
Ok value >>= next = next value
Err fault >>= next = Err fault
