-- A slot owns what a box out of Rust's hands does.
use Rattle.std.proofs.Common.{[], ◌∷◌, refl, Some}
use base.Fml.{ftrue, fsep}
use contract.Monad.{fact}
use types.Kit.{‵, raw, ◌⊛◌, ◌$◌, ◌∵◌, !, qed, move, keep, drop, split, fsplit, fjoin, fpack, join, suffices, done}
use types.Part.{agg, sub, whole}
use types.Run.{stop, fld, no_more, and_then, of_opd, returns, enter}
use types.ByLocal.{alloc_all, pass_all, free_all, look_at, get, get_in, sets}
use denote.Exit.{yes}
use denote.Laws.{Is, shows}
use denote.RawPtr.{ptr_val, rawptr_Lawful}
use denote.Signature.{plain}
use denote.Steps.{nothing, heard, peeks}
use denote.Triple.Walked.{Stays, stay_dropped, says, ends_at}
use Rattle.std.proofs.alloc.Calls.{Goes-blank}
use Rattle.std.proofs.raw_atomic.Walks.{proved}
use Rattle.raw_box.proofs.Pieces.{Raw, alone, raw_out, raw_is, raw_typed}
use Rattle.pcm_engine_c.specs.Held.{session_row}
use Rattle.pcm_engine_c.proofs.Slots.{Held, session_laws, slot_in, slot_typed}
use Rattle.pcm_engine_c.specs.contracts.handle.Slot.of as f
use Rattle.pcm_engine_c.specs.contracts.handle.Slot.of.Key.{name as key}
use Rattle.pcm_engine_c.proofs.handle.Slot.of.Statement.{statement}
use Rattle.pcm_engine_c.proofs.handle.Slot.of.Code as code

pub of_spec : {M : Type 1} → statement M
of_spec 𝓤 𝓛 𝓜 𝓡 wired =
    let c = f.clauses 𝓛 𝓜.mem 𝓡.returns in
    let stays : Stays f.ended.signature.params f.ended.kept = (stay_dropped (plain (λ _. Raw session_row)) yes, tt) in
    proved 𝓛 f.ended stays c 𝓜 𝓡 (Goes-blank 𝓛 0 (plain (λ _. Raw session_row)) yes (λ κs x w. tt), tt) key code.function (code.unfolded 𝓤 𝓛.H 𝓜 𝓡 wired)
    (λ κs. ((λ r. alone r.at ∷ []), tt)) (λ κs. (raw_is session_row session_laws, tt)) (λ κs qs bounds a g are.
    let r : (Raw session_row).Denot = a.0 in let p = r.at in let pointer = ((rawptr_Lawful 𝓛).typed p (ptr_val p ∷ []) refl).0 in
    let h : Held.Denot = record { at = p; session = Some r.value } in
    qed 𝓛 ((‵ ftrue ⊛ ‵ (fsep ((Raw session_row).own_val r (alone p ∷ [])) ftrue)) ∷ raw (fact 𝓤 _) ∷ []) ∵ move ! (1 ∷ []) $ heard ! _ (λ ready. split ! $ drop ! $ fsplit ! $ raw_out session_row ! r (alone p ∷ []) $
    fpack ! _ _ ready $
    slot_in ! p (Some r.value) $ peeks ! Held (Is Held) (shows 𝓛 Held) h (alone p ∷ []) (λ is.
    enter ! _ _ _ _ _ $ alloc_all ! (λ l. pass_all ! refl ((raw_typed session_row session_laws 𝓛 r (alone p ∷ []) are.0).0, tt) $
    sets ! (of_opd ! (get_in ! (fld ! refl (stop !)) (sub ! 0 refl (whole !)))) refl pointer $ sets ! (of_opd ! (get ! refl)) refl pointer $
    sets ! (agg ! (and_then ! (get ! refl) (no_more !))) refl (slot_typed 𝓛 h (alone p ∷ []) is).0 $ returns ! (look_at ! 0 refl) $ free_all ! refl $ keep ! (0 ∷ []) $
    suffices ! _ (ends_at 𝓛 f.ended stays c ((κs, qs, bounds, a, (alone p ∷ [], tt)), tt) (alone p) h (tt, tt) (tt, tt)) $ says ! refl $
    nothing ! $ nothing ! $ fjoin ! $ join ! $ nothing ! $ join ! $ done !))))
