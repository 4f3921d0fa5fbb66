-- What holds of an engine that is another one: as that one it is ready, new, and takes interrupts.
use Rattle.std.proofs.Common.{◌≡◌, ℕ, ℤ, List, Option, Some, sym, subst}
use Rattle.pcm_feeder.specs.declared.kind.Kind.{Kind}
use Rattle.pcm_feeder.specs.Kept.{Kept}
use Rattle.pcm_engine.specs.declared.engine.EngineOf.{EngineOf}
use Rattle.pcm_engine.specs.Engines.{AreReady}
use Rattle.pcm_foreign.specs.declared.device.DeviceNumbers.{DeviceNumbers}
use Rattle.pcm_foreign.specs.declared.filters.FilterNumbers.{FilterNumbers}
use Rattle.pcm_foreign.specs.declared.sections.SectionNumbers.{SectionNumbers}
use Rattle.pcm_session.specs.declared.session.SessionOf.{SessionOf}
use Rattle.pcm_session.specs.Calls.{Discards, Interrupts}
use Rattle.pcm_engine_c.specs.declared.session.Session.{Session}
use Rattle.pcm_engine_c.specs.Calls.{OnHeld}
use Rattle.pcm_engine_c.specs.Sessions.{IsNew}

pub ready-moved : {B : Type 0} (kind : B → Kind) (kept : B → Kept) (one other : EngineOf B) → one ≡ other → AreReady kind kept other → AreReady kind kept one
ready-moved kind kept one other same ready = subst (AreReady kind kept) (sym same) ready

-- and it is the new one of numbers as that one is
pub new-moved : {B : Type 0} (kept : B → Kept) (device : DeviceNumbers) (filters : List FilterNumbers) (coefs : List ℤ) (sections : List SectionNumbers) (one other : EngineOf B) → one ≡ other → IsNew kept device filters coefs sections other
    → IsNew kept device filters coefs sections one
new-moved kept device filters coefs sections one other same is = subst (IsNew kept device filters coefs sections) (sym same) is

-- an interrupt of a session is one of the same session elsewhere
pub interrupts-moved : {B : Type 0} (kind : B → Kind) (kept : B → Kept) (frames : ℕ) (samples : List ℤ) (out : List ℕ) (one other new : SessionOf B) → one ≡ other → Interrupts kind kept frames samples out other new → Interrupts kind kept frames samples out one new
interrupts-moved kind kept frames samples out one other new same interrupts = subst (λ (session : SessionOf _). Interrupts kind kept frames samples out session new) (sym same) interrupts

-- so it is of one whose bytes nobody hears
pub discards-moved : {B : Type 0} (kind : B → Kind) (kept : B → Kept) (frames : ℕ) (samples : List ℤ) (one other new : SessionOf B) → one ≡ other → Discards kind kept frames samples other new → Discards kind kept frames samples one new
discards-moved kind kept frames samples one other new same discards = subst (λ (session : SessionOf _). Discards kind kept frames samples session new) (sym same) discards

-- what is done to a session is done to what is held
pub on-some : (old new : Option Session) (one other : Session) (does : Session → Session → Type 0) → Some one ≡ old → new ≡ Some other → does one other → OnHeld old new does
on-some old new one other does was is done = subst (λ (o : Option Session). OnHeld o new does) was (subst (λ (n : Option Session). OnHeld (Some one) n does) (sym is) done)
