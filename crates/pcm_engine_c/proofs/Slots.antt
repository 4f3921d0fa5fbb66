-- A slot, as the machine has it.
--     Held                    a slot
--     slot_in, slot_out       it owns what its pointer does, if it is of a session
--     slot_is, slot_typed     its machine value is known, and is of its type
--     session_laws             the laws of the session's type
use Rattle.std.proofs.Common.{◌≡◌, List, [], ◌∷◌, refl, Option, Some, None, IsSome, sym, true≢false}
use seplogic.Ra.Ura.{Ura}
use mir.Val.{Val}
use types.Logic.{Logic}
use types.Kit.{Item, Goal, Seq, Step, step, ‵, ◌$◌, drop, fsplit, fjoin, fpack, feq_i}
use denote.Builtin.{RawPtr}
use denote.Laws.{Is, Tells, Typed}
use denote.Param.Laws.{Laws}
use denote.RattleType.{RattleType, Valss}
use denote.RawPtr.{Ptr, ptr_val}
use denote.Steps.{nothing}
use denote.Struct.Owning.{shape}
use denote.Struct.Struct.{within}
use Rattle.raw_box.proofs.Pieces.{alone}
use Rattle.pcm_engine_c.proofs.session.Session.TheLaws.{the_row_laws}
use Rattle.pcm_engine_c.specs.declared.session.Session.{Session}
use Rattle.pcm_engine_c.specs.Held.{session_row, owned}
use Rattle.pcm_engine_c.specs.contracts.handle.Slot as slot
use Rattle.pcm_engine_c.proofs.handle.Slot.TheLaws as of_slot

abbrev pub session_laws : Laws session_row
session_laws = the_row_laws

abbrev pub Held : RattleType
Held = slot.the_row

module _ {M : Type 1} {𝓤 : Ura M} {𝓛 : Logic 𝓤} {K : Type 0} {Γ : List (Item 𝓤)} {G : Goal 𝓤 𝓛.H} where
  pub slot_in : K → (p : Ptr) (e : Option Session) → Step K 𝓛 (‵ (Held.own_val (record { at = p; session = e }) (alone p ∷ [])) ∷ Γ) G (‵ (slot.the_heap (record { at = p; session = e })) ∷ Γ) G
  slot_in t p e = step (λ s. nothing t $ feq_i t (List Val) (ptr_val p ∷ []) (ptr_val p ∷ []) refl $ fjoin t $ feq_i t (List Val) (alone p ∷ []) (alone p ∷ []) refl $ fjoin t $
      fpack t (Valss (RawPtr ∷ [])) (within (shape slot.the_type) (p, tt) (alone p ∷ [])) (ptr_val p ∷ [], tt) $ fjoin t $ s)

  pub slot_out : K → (h : Held.Denot) (ws : List Val) → Step K 𝓛 (‵ (slot.the_heap h) ∷ Γ) G (‵ (Held.own_val h ws) ∷ Γ) G
  slot_out t h ws = step (λ s. fsplit t $ drop t $ s)

  -- there is a session
  pub owned_some : K → (ready : Session → Type 0) (p : Ptr) (o : Option Session) → IsSome o → ((e : Session) → o ≡ Some e → Seq K 𝓛 (‵ (owned ready p (Some e)) ∷ Γ) G) → Seq K 𝓛 (‵ (owned ready p o) ∷ Γ) G
  owned_some t ready p None is k = absurd (true≢false (sym is))
  owned_some t ready p (Some e) is k = k e refl

pub slot_is : Tells Held (Is Held) (λ h. alone h.at ∷ [])
slot_is = (of_slot.lowers).val_is

pub slot_typed : {M : Type 1} {𝓤 : Ura M} (𝓛 : Logic 𝓤) (h : Held.Denot) (ws : List Val) → Is Held h ws → Typed Held.mir ws
slot_typed 𝓛 = ((of_slot.the_field_loose).lawful 𝓛).typed
