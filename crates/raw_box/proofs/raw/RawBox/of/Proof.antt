-- `of` keeps the pointer and what it owns that `into_raw` gives.
use Rattle.std.proofs.Common.{List, [], ◌∷◌, ◌++◌, refl, ap}
use mir.Syntax.{a_type, dcons, dnil}
use mir.Val.{Val}
use mir.MapTy.{inst_fn}
use base.Logic.{ent, id⊢, emp}
use base.Fraction.{full_share}
use base.Fml.{ftrue, fsep, flft}
use contract.Monad.{fact, fact_i}
use contract.BorrowLft.{◌⊑◌, ⊑_refl}
use contract.Running.{tables, tables_of}
use prog.Wp.{WpFn}
use types.Kit.{‵, raw, ◌⊛◌, some, later, ◌$◌, ◌∵◌, !, qed, move, drop, use0, use1, split, split3, join, fjoin, pick, await, feq_l, suffices, done}
use types.Run.{of_opd, no_more, and_then, returns, enter}
use types.ByLocal.{alloc_all, pass_all, free_all, look_at, get, sets, lands_as}
use types.Part.{agg}
use denote.Builtin.{RawPtr}
use denote.Exit.{no}
use denote.Laws.{Is, shows}
use denote.Param.{layout, bounded, param}
use denote.Param.Laws.{param_laws}
use denote.Param.Steps.{one_value}
use denote.RawPtr.{Ptr, ptr_val, rawptr_Lawful}
use denote.Signature.{plain}
use denote.Steps.{nothing, only, peeks}
use denote.Triple.Call.{calls_at}
use denote.Triple.Clauses.{Lasts, lasts}
use denote.Triple.Spec.{triple_of}
use denote.Triple.Table.{framed}
use denote.Triple.Walked.{Stays, stay_dropped, walk_of, says, ends_at}
use Rattle.std.proofs.alloc.Calls.{Goes-blank}
use Rattle.std.proofs.boxed.Box.into_raw.Met.{met}
use Rattle.std.proofs.impls.GlobalAllocator.TheImpl.Met.{passed}
use Rattle.std.proofs.raw_atomic.Walks.{proved_at}
use Rattle.std.specs.contracts.boxed.Box.into_raw as into_raw
use Rattle.std.specs.contracts.impls.GlobalAllocator.TheImpl.{ghosts, dict}
use Rattle.raw_box.specs.Heap.{heap_owns}
use Rattle.raw_box.proofs.Pieces.{Raw, Boxed, alone, raw_in, raw_typed, box_typed, Heap, heap_laws, no_drop, heap_let_go}
use Rattle.raw_box.specs.contracts.raw.RawBox.of as f
use Rattle.raw_box.specs.contracts.raw.RawBox.of.Key.{name as key}
use Rattle.raw_box.proofs.raw.RawBox.of.Statement.{statement}
use Rattle.raw_box.proofs.raw.RawBox.of.Code as code

pub of_spec : {M : Type 1} → statement M
unfolding tables_of
of_spec {M} 𝓤 𝓛 𝓜 𝓡 wired T laws drops glue =
    let c = f.clauses T drops 𝓛 𝓜.mem 𝓡.returns in let ended = f.ended T drops in let 𝓣 = tables 𝓤 𝓛.H 𝓜 𝓡 𝓡.env in let R = param 0 T in let held = param_laws 0 T laws in
    let types = bounded (a_type ∷ []) (T, tt) (dcons drops dnil) in let fn = inst_fn types code.function in
    let stays : Stays ended.signature.params ended.kept = (stay_dropped (plain (λ _. Boxed R)) no, tt) in
    let Into = triple_of 𝓛 (into_raw.signature T Heap ghosts dict no_drop drops) (into_raw.spec T Heap ghosts dict no_drop drops 𝓛 𝓜.mem 𝓡.returns) in
    let called = met 𝓤 𝓛 𝓜 𝓡 (code.calls-std::boxed::Box::into_raw 𝓡.env wired) T Heap laws heap_laws ghosts dict no_drop drops
    (passed 𝓡.env (code.calls-std::impls::GlobalAllocator::allocate 𝓡.env wired) (code.calls-std::impls::GlobalAllocator::deallocate 𝓡.env wired)
    (code.calls-std::impls::GlobalAllocator::grow 𝓡.env wired) (code.calls-std::impls::GlobalAllocator::shrink 𝓡.env wired) M 𝓤 𝓛 𝓜 𝓡)
    (heap_let_go 𝓡.env (code.calls-raw_box::Destruct++none::drop 𝓡.env wired) M 𝓤 𝓛 𝓜 𝓡) glue in
    proved_at 𝓛 ended stays c 𝓜 𝓡 (Goes-blank 𝓛 1 (plain (λ _. Boxed R)) no (λ κs x w. tt), tt)
    (key types) fn (code.unfolded 𝓤 𝓛.H 𝓜 𝓡 wired (T, tt) drops) (λ y are.
    let W = walk_of 𝓛 ended stays c in let b : (Boxed R).Denot = y.0.3.0 in let κs = y.0.0 in let qs = y.0.1 in
    let token = ‵ (flft κs.0 qs.0) in let lives = κs.0 ⊑ T.lives in let always = [] ⊑ Heap.lives in
    let at : List Val → W.Ghost = λ ws. ((κs, qs, y.0.2, y.0.3, (ws, tt)), tt) in
    one_value (layout (Boxed R)) (λ ws. ent 𝓤 (W.pre (at ws)) (WpFn 𝓤 𝓛.H 𝓣.C 𝓣.Λ fn (ws ++ []) (W.post (at ws)))) y.0.4.0 (box_typed R held 𝓛 b y.0.4.0 are.0) (λ v good.
    let z : Into.Ghost = (((κs.0, ([], tt)), (qs.0, (full_share, tt)), tt, (b, tt), (v ∷ [], tt)), tt) in
    qed 𝓛 (((token ⊛ ‵ ftrue) ⊛ ‵ (fsep ((Boxed R).own_val b (v ∷ [])) ftrue)) ∷ (raw (fact 𝓤 lives) ⊛ ‵ ftrue) ∷ []) ∵
    -- the heap outlives all that is asked of it
    split ! $ move ! (2 ∷ []) $ split ! $ move ! (1 ∷ []) $ use0 𝓛 (raw (fact 𝓤 always)) (fact_i 𝓤 always (emp 𝓤) (⊑_refl [])) $ join ! $ move ! (1 ∷ []) $ join ! $
    move ! (1 ∷ []) $ split ! $ move ! (1 ∷ []) $ use0 𝓛 (‵ (flft [] full_share)) (𝓛.lfts.lft-nil full_share) $ join ! $ move ! (1 ∷ []) $ join ! $
    move ! (0 ∷ 2 ∷ []) $ join ! $ join ! $ use1 𝓛 (raw (Into.pre z)) (id⊢ 𝓤 _) $
    enter ! 𝓣.C 𝓣.Λ fn _ _ $ alloc_all ! (λ l. pass_all ! refl (good, tt) $ sets ! (of_opd ! (get ! refl)) refl good $
    calls_at ! (framed 𝓤 𝓛.H 𝓜 𝓣) Into called z (and_then ! (get ! refl) (no_more !)) (λ u.
    use1 𝓛 (later (some (λ (p : Ptr). ((token ⊛ ‵ (flft [] full_share) ⊛ ‵ ftrue) ⊛ ‵ (RawPtr.own_val p (u ∷ []))) ⊛
    some (λ (ls : Lasts (into_raw.ended T Heap ghosts dict no_drop drops) z.0.0 z.0.3). ‵ (lasts (into_raw.ended T Heap ghosts dict no_drop drops) z.0.0 z.0.3 ls) ⊛ ‵ (heap_owns R p b.value))))) (id⊢ 𝓤 (Into.post z u)) $
    await ! tt $ pick ! (λ p. split ! $ split ! $ move ! (2 ∷ []) $ pick ! (λ ls. split ! $ drop ! $ raw_in R ! p b.value $
    -- [the pointer with what it owns; the tokens; the result]
    move ! (2 ∷ []) $ feq_l ! (λ is. lands_as ! (ap only is) refl ((rawptr_Lawful 𝓛).typed p (ptr_val p ∷ []) refl).0 $
    let r : (Raw R).Denot = record { at = p; value = b.value } in
    peeks ! (Raw R) (Is (Raw R)) (shows 𝓛 (Raw R)) r (alone p ∷ []) (λ is_raw.
    sets ! (agg ! (and_then ! (get ! refl) (no_more !))) refl (raw_typed R held 𝓛 r (alone p ∷ []) is_raw).0 $ returns ! (look_at ! 0 refl) $ free_all ! refl $
    suffices ! _ (ends_at 𝓛 ended stays c (at (v ∷ [])) (alone p) r (tt, tt) (tt, tt)) $ says ! refl $
    nothing ! $ nothing ! $ fjoin ! $ join ! $
    move ! (1 ∷ []) $ split3 ! $ move ! (1 ∷ []) $ drop ! $ join ! $ join ! $ done !))))))))
