-- What holds after judgements one after another.
use Rattle.std.proofs.Common.{Bool, true, false, cond, Result, Ok, Err, IfOk}
use Rattle.pcm_script.specs.Steps.{◌>>=◌}

pub IfOk-then : {A B E : Type 0} (judged : Result A E) (next : A → Result B E) (P : A → Type 0) (Q : B → Type 0)
    → IfOk judged P → ((value : A) → P value → IfOk (next value) Q) → IfOk (judged >>= next) Q
IfOk-then (Ok value) next P Q before after = after value before
IfOk-then (Err fault) next P Q before after = tt

pub IfOk-after : {A B E : Type 0} (judged : Result A E) (next : A → Result B E) (Q : B → Type 0)
    → ((value : A) → IfOk (next value) Q) → IfOk (judged >>= next) Q
IfOk-after (Ok value) next Q after = after value
IfOk-after (Err fault) next Q after = tt

pub IfOk-either : {A E : Type 0} (test : Bool) (one other : Result A E) (P : A → Type 0) → IfOk one P → IfOk other P → IfOk (cond test one other) P
IfOk-either true one other P here there = here
IfOk-either false one other P here there = there
