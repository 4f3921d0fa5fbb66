-- What comes of loading a state.
use Rattle.std.proofs.Common.{◌≡◌, ℕ, ℤ, pos, negsuc, List, Bool, true, false, Option, Some, None, refl, sym, ap, ◌∙◌, subst, true≢false}
use Rattle.std.specs.Prelude.{is_some}
use Rattle.pcm_feeder.specs.declared.kind.Kind.{Kind}
use Rattle.pcm_feeder.specs.Kept.{Kept}
use Rattle.pcm_engine.specs.declared.engine.EngineOf.{EngineOf}
use Rattle.pcm_engine.specs.declared.load_fault.LoadFault.{LoadFault}
use Rattle.pcm_engine.specs.declared.load_fault.LoadFault.TheVariants.{Memory}
use Rattle.pcm_foreign.specs.Answers.{call_fault_number}
use Rattle.pcm_foreign.specs.declared.call_fault.CallFault.TheVariants.{Engine}
use Rattle.pcm_session.specs.States.{GoesOnFrom, IsCauseFor, load_fault_number}
use Rattle.pcm_engine_c.specs.declared.session.Session.{Session}
use Rattle.pcm_engine_c.specs.Sessions.{IsLoaded}

abbrev is_below : ℤ → Bool
is_below (pos n) = false
is_below (negsuc n) = true

-- the number of every fault is below 0
fault-below : (fault : LoadFault) → is_below (load_fault_number fault) ≡ true
fault-below Memory = refl
fault-below _ = refl

some-none : (one : Session) (X : Type 0) → Some one ≡ None → X
some-none one X is = absurd (true≢false (ap (λ (held : Option Session). is_some held) is))

-- there is no engine
pub none-loaded : (goes_on : Session → Session → Type 0) (cause : Session → LoadFault → Type 0) (old new : Option Session) (result : ℤ) → old ≡ None → new ≡ None → result ≡ call_fault_number Engine → IsLoaded goes_on cause old new result
none-loaded goes_on cause old new result none empty told = record {
  none = λ is. (empty, told);
  loaded = λ some. absurd (true≢false (sym some ∙ ap (λ (held : Option Session). is_some held) none));
  refused = λ some. absurd (true≢false (sym some ∙ ap (λ (held : Option Session). is_some held) none));
}

loaded-here : (goes_on : Session → Session → Type 0) (cause : Session → LoadFault → Type 0) (one other : Session) → goes_on one other → IsLoaded goes_on cause (Some one) (Some other) (pos 0)
loaded-here goes_on cause one other goes = record {
  none = λ is. some-none one _ is;
  loaded = λ some zero. goes;
  refused = λ some no. absurd (no refl);
}

-- there is one, which goes on
pub loaded : (goes_on : Session → Session → Type 0) (cause : Session → LoadFault → Type 0) (one other : Session) (old new : Option Session) → Some one ≡ old → new ≡ Some other → goes_on one other → IsLoaded goes_on cause old new (pos 0)
loaded goes_on cause one other old new was put goes =
    subst (λ (held : Option Session). IsLoaded goes_on cause held new (pos 0)) was
    (subst (λ (held : Option Session). IsLoaded goes_on cause (Some one) held (pos 0)) (sym put) (loaded-here goes_on cause one other goes))

refused-here : (goes_on : Session → Session → Type 0) (cause : Session → LoadFault → Type 0) (one : Session) (fault : LoadFault) → cause one fault → IsLoaded goes_on cause (Some one) (Some one) (load_fault_number fault)
refused-here goes_on cause one fault is = record {
  none = λ is. some-none one _ is;
  loaded = λ some zero. absurd (true≢false (sym (fault-below fault) ∙ ap is_below zero));
  refused = λ some no. (refl, (fault, refl, is));
}

-- or which stays
pub refused : (goes_on : Session → Session → Type 0) (cause : Session → LoadFault → Type 0) (one : Session) (old new : Option Session) (fault : LoadFault) (result : ℤ) → Some one ≡ old → new ≡ Some one → result ≡ load_fault_number fault → cause one fault → IsLoaded goes_on cause old new result
refused goes_on cause one old new fault result was put told is =
    subst (λ (held : Option Session). IsLoaded goes_on cause held new result) was
    (subst (λ (held : Option Session). IsLoaded goes_on cause (Some one) held result) (sym put)
    (subst (λ (number : ℤ). IsLoaded goes_on cause (Some one) (Some one) number) (sym told) (refused-here goes_on cause one fault is)))

-- it goes on from the same engine elsewhere
pub goes-moved : {B : Type 0} (kind : B → Kind) (kept : B → Kept) (bytes : List ℕ) (one other loaded : EngineOf B) → one ≡ other → GoesOnFrom kind kept bytes one loaded → GoesOnFrom kind kept bytes other loaded
goes-moved kind kept bytes one other loaded same goes = subst (λ (engine : EngineOf _). GoesOnFrom kind kept bytes engine loaded) same goes

-- and so is the cause of a refusal
pub cause-moved : {B : Type 0} (kind : B → Kind) (kept : B → Kept) (bytes : List ℕ) (one other : EngineOf B) (fault : LoadFault) → one ≡ other → IsCauseFor kind kept bytes one fault → IsCauseFor kind kept bytes other fault
cause-moved kind kept bytes one other fault same is = subst (λ (engine : EngineOf _). IsCauseFor kind kept bytes engine fault) same is
