-- What a slot of a session owns goes to a box out of Rust's hands.
use Rattle.std.proofs.Common.{[], ◌∷◌, refl, sym, IsSome}
use base.Fml.{ftrue, fsep}
use contract.Monad.{fact}
use types.Kit.{‵, raw, ◌⊛◌, ◌$◌, ◌∵◌, !, qed, move, keep, drop, split, fsplit, fjoin, fpick, join, suffices, done}
use types.Part.{agg, sub, whole}
use types.Run.{stop, fld, no_more, and_then, of_opd, returns, enter}
use types.ByLocal.{alloc_all, pass_all, free_all, look_at, get, get_in, sets}
use denote.Exit.{yes}
use denote.Laws.{Is, shows}
use denote.RawPtr.{ptr_val, rawptr_Lawful}
use denote.Signature.{plain}
use denote.Steps.{nothing, heard, peeks}
use denote.Triple.Walked.{Stays, stay_dropped, says, ends_at}
use Rattle.std.proofs.alloc.Calls.{Goes-blank}
use Rattle.std.proofs.raw_atomic.Walks.{proved}
use Rattle.raw_box.proofs.Pieces.{Raw, alone, raw_in, raw_typed}
use Rattle.pcm_engine_c.specs.Held.{session_row}
use Rattle.pcm_engine_c.proofs.Slots.{Held, session_laws, slot_is, slot_out, slot_typed, owned_some}
use Rattle.pcm_engine_c.specs.contracts.handle.Slot.into_raw as f
use Rattle.pcm_engine_c.specs.contracts.handle.Slot.into_raw.Key.{name as key}
use Rattle.pcm_engine_c.proofs.handle.Slot.into_raw.Statement.{statement}
use Rattle.pcm_engine_c.proofs.handle.Slot.into_raw.Code as code

pub into_raw_spec : {M : Type 1} → statement M
into_raw_spec 𝓤 𝓛 𝓜 𝓡 wired =
    let c = f.clauses 𝓛 𝓜.mem 𝓡.returns in
    let stays : Stays f.ended.signature.params f.ended.kept = (stay_dropped (plain (λ _. Held)) yes, tt) in
    proved 𝓛 f.ended stays c 𝓜 𝓡 (Goes-blank 𝓛 0 (plain (λ _. Held)) yes (λ κs x w. tt), tt) key code.function (code.unfolded 𝓤 𝓛.H 𝓜 𝓡 wired)
    (λ κs. ((λ h. alone h.at ∷ []), tt)) (λ κs. (slot_is, tt)) (λ κs qs bounds a g are.
    let h : Held.Denot = a.0 in let p = h.at in let pointer = ((rawptr_Lawful 𝓛).typed p (ptr_val p ∷ []) refl).0 in
    qed 𝓛 ((‵ ftrue ⊛ ‵ (fsep (Held.own_val h (alone p ∷ [])) ftrue)) ∷ raw (fact 𝓤 (IsSome h.session)) ∷ []) ∵ move ! (1 ∷ []) $ heard ! (IsSome h.session) (λ there.
    split ! $ drop ! $ fsplit ! $ slot_out ! h (alone p ∷ []) $ owned_some ! _ p h.session there (λ e is_session. fpick ! (λ ready.
    let r : (Raw session_row).Denot = record { at = p; value = e } in
    raw_in session_row ! p e $ peeks ! (Raw session_row) (Is (Raw session_row)) (shows 𝓛 (Raw session_row)) r (alone p ∷ []) (λ is.
    enter ! _ _ _ _ _ $ alloc_all ! (λ l. pass_all ! refl ((slot_typed 𝓛 h (alone p ∷ []) are.0).0, tt) $
    sets ! (of_opd ! (get_in ! (fld ! refl (stop !)) (sub ! 0 refl (whole !)))) refl pointer $ sets ! (of_opd ! (get ! refl)) refl pointer $
    sets ! (agg ! (and_then ! (get ! refl) (no_more !))) refl (raw_typed session_row session_laws 𝓛 r (alone p ∷ []) is).0 $ returns ! (look_at ! 0 refl) $ free_all ! refl $ keep ! (0 ∷ []) $
    suffices ! _ (ends_at 𝓛 f.ended stays c ((κs, qs, bounds, a, (alone p ∷ [], tt)), tt) (alone p) r (tt, tt) (tt, tt)) $ says ! (sym is_session, ready) $
    nothing ! $ nothing ! $ fjoin ! $ join ! $ nothing ! $ join ! $ done !))))))
