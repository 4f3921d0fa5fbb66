-- What is answered of a session that is held.
use Rattle.std.proofs.Common.{◌≡◌, ℤ, Option, Result, Some, sym, subst, FitsSigned, w32}
use mir.Val.{of_z, to_z}
use Rattle.std.proofs.lemmas.Int.{to_z-of_z}
use Rattle.std.specs.Prelude.{IfSome}
use Rattle.pcm_engine_c.specs.declared.session.Session.{Session}
use Rattle.pcm_engine_c.specs.Told.{IsTold}

pub if-held : (held : Option Session) (one : Session) (holds : Session → Type 0) → Some one ≡ held → holds one → IfSome held holds
if-held held one holds is so = subst (λ (found : Option Session). IfSome found holds) is so

-- and the number that comes back is the one that was answered
pub told-back : {X : Type 0} (one other : Result X ℤ) (result : ℤ) (old new : X) → FitsSigned w32 result → one ≡ other → IsTold one result old new → IsTold other (to_z w32 (of_z w32 result)) old new
told-back {X} one other result old new fits same told =
    subst (λ (number : ℤ). IsTold other number old new) (sym (to_z-of_z w32 result fits))
    (subst (λ (found : Result X ℤ). IsTold found result old new) same told)
