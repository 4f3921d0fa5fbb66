-- What comes of cloning an engine, where there is one and its clone's place is empty.
use Rattle.std.proofs.Common.{◌≡◌, ℤ, pos, negsuc, neg_ℤ, Bool, true, false, Option, Some, None, refl, sym, ap, subst, true≢false}
use Rattle.std.specs.Prelude.{is_some}
use Rattle.pcm_feeder.specs.declared.kind.Kind.{Kind}
use Rattle.pcm_feeder.specs.Kept.{Kept}
use Rattle.pcm_engine.specs.declared.engine.EngineOf.{EngineOf}
use Rattle.pcm_engine.specs.Clones.{IsCloneOf}
use Rattle.pcm_foreign.specs.Answers.{fault_number}
use Rattle.pcm_foreign.specs.declared.fault.NumbersFault.TheVariants.{Memory}
use Rattle.pcm_engine_c.specs.declared.session.Session.{Session}
use Rattle.pcm_engine_c.specs.Sessions.{IsCloned}

-- a clone of an engine is one of the same engine elsewhere
pub clone-moved : {B : Type 0} (kind : B → Kind) (kept : B → Kept) (one other clone : EngineOf B) → one ≡ other → IsCloneOf kind kept one clone → IsCloneOf kind kept other clone
clone-moved kind kept one other clone same is = subst (λ (engine : EngineOf _). IsCloneOf kind kept engine clone) same is

-- nothing is held where it isn't there
pub none-there : (held : Option Session) → is_some held ≡ false → held ≡ None
none-there None is = refl
none-there (Some session) is = absurd (true≢false is)

abbrev is_below : ℤ → Bool
is_below (pos n) = false
is_below (negsuc n) = true

some-none : (one : Session) (X : Type 0) → Some one ≡ None → X
some-none one X is = absurd (true≢false (ap (λ (held : Option Session). is_some held) is))

unmade-here : (is_clone_of : Session → Session → Type 0) (one : Session) → IsCloned is_clone_of (Some one) None None (neg_ℤ (pos 6))
unmade-here is_clone_of one = record {
  none = λ is. some-none one _ is;
  there = λ is. absurd (true≢false (sym is));
  made = λ is. absurd (true≢false (ap is_below is));
  unmade = λ no. refl;
  memory = λ has empty no. refl;
}

made-here : (is_clone_of : Session → Session → Type 0) (one other : Session) → is_clone_of one other → IsCloned is_clone_of (Some one) None (Some other) (pos 0)
made-here is_clone_of one other is = record {
  none = λ no. some-none one _ no;
  there = λ no. absurd (true≢false (sym no));
  made = λ zero. is;
  unmade = λ no. absurd (no refl);
  memory = λ has empty no. absurd (no refl);
}

-- there was no memory
pub unmade : (is_clone_of : Session → Session → Type 0) (one : Session) (engine old : Option Session) (result : ℤ) → Some one ≡ engine → is_some old ≡ false → result ≡ fault_number Memory
    → IsCloned is_clone_of engine old old result
unmade is_clone_of one engine old result is empty told =
    subst (λ (held : Option Session). IsCloned is_clone_of held old old result) is
    (subst (λ (place : Option Session). IsCloned is_clone_of (Some one) place place result) (sym (none-there old empty))
    (subst (λ (number : ℤ). IsCloned is_clone_of (Some one) None None number) (sym told) (unmade-here is_clone_of one)))

-- and here there was
pub made : (is_clone_of : Session → Session → Type 0) (one other : Session) (engine old new : Option Session) → Some one ≡ engine → is_some old ≡ false → new ≡ Some other
    → is_clone_of one other → IsCloned is_clone_of engine old new (pos 0)
made is_clone_of one other engine old new is empty put so =
    subst (λ (held : Option Session). IsCloned is_clone_of held old new (pos 0)) is
    (subst (λ (place : Option Session). IsCloned is_clone_of (Some one) place new (pos 0)) (sym (none-there old empty))
    (subst (λ (place : Option Session). IsCloned is_clone_of (Some one) None place (pos 0)) (sym put) (made-here is_clone_of one other so)))
