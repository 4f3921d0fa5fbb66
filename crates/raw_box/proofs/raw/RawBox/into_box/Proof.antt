-- `into_box` hands the pointer and what it owns to `from_raw`.
use Rattle.std.proofs.Common.{◌≡◌, List, [], ◌∷◌, refl}
use mir.Syntax.{a_type, dcons, dnil}
use mir.Val.{Val}
use mir.MapTy.{inst_fn}
use base.Logic.{id⊢, emp}
use base.Fraction.{full_share}
use base.Fml.{ftrue, flft}
use contract.Monad.{fact, fact_i}
use contract.BorrowLft.{◌⊑◌, ⊑_refl}
use contract.Running.{tables, tables_of}
use types.Kit.{‵, raw, ◌⊛◌, some, later, at_ret, ◌$◌, ◌∵◌, !, qed, move, drop, use0, use1, split, split3, join, fsplit3, fjoin, pick, await, feq_i, suffices, done}
use types.Run.{stop, fld, of_opd, no_more, and_then, first, blocks, exec, returns, enter}
use types.ByLocal.{alloc_all, pass_all, free_all, look_at, get, get_in, sets, lands_last, env}
use types.Part.{sub, whole}
use denote.Exit.{yes, no}
use denote.Laws.{Is, shows}
use denote.RawPtr.{ptr_val, rawptr_Lawful}
use denote.Param.{bounded, param}
use denote.Param.Laws.{param_laws}
use denote.RattleType.{owns}
use denote.Signature.{plain, types_at}
use denote.Steps.{nothing, heard, peeks}
use denote.Triple.Call.{calls_at_last}
use denote.Triple.Clauses.{Lasts, lasts}
use denote.Triple.Spec.{triple_of}
use denote.Triple.Table.{framed}
use denote.Triple.Walked.{Stays, stay_dropped, Goes-dropped, walk_of, says, ends_at}
use Rattle.std.proofs.alloc.Calls.{Goes-blank}
use Rattle.std.proofs.Handle.{heap_val, heap_Tells}
use Rattle.std.proofs.VecSteps.Shapes.{after}
use Rattle.std.proofs.boxed.Box.from_raw.Met.{met}
use Rattle.std.proofs.impls.GlobalAllocator.TheImpl.Met.{passed}
use Rattle.std.proofs.raw_atomic.Walks.{proved}
use Rattle.std.specs.contracts.alloc.Global as heap
use Rattle.std.specs.contracts.boxed.Box.from_raw as from_raw
use Rattle.std.specs.contracts.impls.GlobalAllocator.TheImpl.{ghosts, dict}
use Rattle.raw_box.proofs.Pieces.{Raw, Boxed, alone, raw_out, raw_is, raw_typed, box_typed, Heap, heap_laws, no_drop, heap_let_go}
use Rattle.raw_box.specs.contracts.raw.RawBox.into_box as f
use Rattle.raw_box.specs.contracts.raw.RawBox.into_box.Key.{name as key}
use Rattle.raw_box.proofs.raw.RawBox.into_box.Statement.{statement}
use Rattle.raw_box.proofs.raw.RawBox.into_box.Code as code

pub into_box_spec : {M : Type 1} → statement M
unfolding tables_of
into_box_spec {M} 𝓤 𝓛 𝓜 𝓡 wired T laws drops glue =
    let c = f.clauses T drops 𝓛 𝓜.mem 𝓡.returns in let ended = f.ended T drops in let 𝓣 = tables 𝓤 𝓛.H 𝓜 𝓡 𝓡.env in let R = param 0 T in let held = param_laws 0 T laws in
    let types = bounded (a_type ∷ []) (T, tt) (dcons drops dnil) in let fn = inst_fn types code.function in
    let stays : Stays ended.signature.params ended.kept = (stay_dropped (plain (λ _. Raw R)) no, (stay_dropped (plain (λ _. heap.the_row)) yes, tt)) in
    let From = triple_of 𝓛 (from_raw.signature T Heap ghosts dict no_drop) (from_raw.spec T Heap ghosts dict no_drop 𝓛 𝓜.mem 𝓡.returns) in
    let called = met 𝓤 𝓛 𝓜 𝓡 (code.calls-std::boxed::Box::from_raw 𝓡.env wired) T Heap laws heap_laws ghosts dict no_drop
    (passed 𝓡.env (code.calls-std::impls::GlobalAllocator::allocate 𝓡.env wired) (code.calls-std::impls::GlobalAllocator::deallocate 𝓡.env wired)
    (code.calls-std::impls::GlobalAllocator::grow 𝓡.env wired) (code.calls-std::impls::GlobalAllocator::shrink 𝓡.env wired) M 𝓤 𝓛 𝓜 𝓡)
    (heap_let_go 𝓡.env (code.calls-raw_box::Destruct++none::drop 𝓡.env wired) M 𝓤 𝓛 𝓜 𝓡) in
    proved 𝓛 ended stays c 𝓜 𝓡 (Goes-blank 𝓛 1 (plain (λ _. Raw R)) no (λ κs x w. tt), (Goes-dropped 𝓛 1 (plain (λ _. heap.the_row)) yes (λ κs x w. refl), tt))
    (key types) fn (code.unfolded 𝓤 𝓛.H 𝓜 𝓡 wired (T, tt) drops)
    (λ κs. ((λ r. alone r.at ∷ []), ((λ _. heap_val ∷ []), tt))) (λ κs. (raw_is R held, (heap_Tells, tt))) (λ κs qs bounds a g are.
    let r : (Raw R).Denot = a.0 in let h = a.1.0 in let p = r.at in
    let token = ‵ (flft κs.0 qs.0) in let lives = κs.0 ⊑ T.lives in let always = [] ⊑ (heap.the_row).lives in
    let y : (walk_of 𝓛 ended stays c).Ghost = ((κs, qs, bounds, a, (alone p ∷ [], (heap_val ∷ [], tt))), tt) in
    let z : From.Ghost = (((κs.0, ([], tt)), (qs.0, (full_share, tt)), tt, (h, (p, tt)), (heap_val ∷ [], (ptr_val p ∷ [], tt))), r.value) in
    let pointer = ((rawptr_Lawful 𝓛).typed p (ptr_val p ∷ []) refl).0 in
    qed 𝓛 (((token ⊛ ‵ ftrue) ⊛ ‵ (owns (types_at ended.signature.params κs) a y.0.4)) ∷ raw ((c κs a).requires g) ∷ []) ∵
    split ! $ move ! (1 ∷ []) $ fsplit3 ! $ raw_out R ! r (alone p ∷ []) $
    -- [what the pointer owns; the heap; nothing; the token; what is required]
    move ! (4 ∷ []) $ use1 𝓛 (raw (fact 𝓤 lives) ⊛ ‵ ftrue) (id⊢ 𝓤 _) $ split ! $ move ! (1 ∷ []) $ drop ! $
    move ! (1 ∷ []) $ use0 𝓛 (raw (fact 𝓤 always)) (fact_i 𝓤 always (emp 𝓤) (⊑_refl [])) $ join ! $ move ! (1 ∷ []) $ join ! $
    -- [what `from_raw` requires; the heap; nothing; the token]
    move ! (2 ∷ []) $ feq_i ! (List Val) (ptr_val p ∷ []) (ptr_val p ∷ []) refl $ fjoin ! $ move ! (2 ∷ []) $ fjoin ! $
    move ! (2 ∷ []) $ split ! $ move ! (1 ∷ []) $ use0 𝓛 (‵ (flft [] full_share)) (𝓛.lfts.lft-nil full_share) $ join ! $ move ! (1 ∷ []) $ join ! $
    join ! $ join ! $ use1 𝓛 (raw (From.pre z)) (id⊢ 𝓤 _) $
    enter ! 𝓣.C 𝓣.Λ fn _ _ $ alloc_all ! (λ l. pass_all ! refl ((raw_typed R held 𝓛 r (alone p ∷ []) are.0).0, ((tt, ((tt, tt), tt)), tt)) $
    sets ! (of_opd ! (get_in ! (fld ! refl (stop !)) (sub ! 0 refl (whole !)))) refl pointer $
    first ! $ blocks ! $
    calls_at_last ! (framed 𝓤 𝓛.H 𝓜 𝓣) From called z (and_then ! (get ! refl) (and_then ! (get ! refl) (no_more !))) (λ u.
    use1 𝓛 (later (some (λ (b : (Boxed R).Denot). ((token ⊛ ‵ (flft [] full_share) ⊛ ‵ ftrue) ⊛ ‵ ((Boxed R).own_val b (u ∷ []))) ⊛
    some (λ (ls : Lasts (from_raw.ended T Heap ghosts dict no_drop) z.0.0 z.0.3). ‵ (lasts (from_raw.ended T Heap ghosts dict no_drop) z.0.0 z.0.3 ls) ⊛ raw (fact 𝓤 (b.value ≡ r.value)) ⊛ raw (fact 𝓤 (b.alloc ≡ h)))))) (id⊢ 𝓤 (From.post z u)) $
    await ! tt $ pick ! (λ b. split ! $ split ! $ move ! (2 ∷ []) $ pick ! (λ ls. split ! $ drop ! $ split ! $ move ! (1 ∷ []) $ drop ! $ heard ! (b.value ≡ r.value) (λ same.
    move ! (1 ∷ []) $ peeks ! (Boxed R) (Is (Boxed R)) (shows 𝓛 (Boxed R)) b (u ∷ []) (λ is. let good = (box_typed R held 𝓛 b (u ∷ []) is).0 in
    lands_last ! refl good $ exec ! 𝓣.C 𝓣.Λ (env fn.locals l) (after 2 fn.body) (at_ret (env fn.locals l) ((walk_of 𝓛 ended stays c).post y)) $
    sets ! (of_opd ! (get ! refl)) refl good $ returns ! (look_at ! 0 refl) $ free_all ! refl $
    -- [the box; the tokens]
    suffices ! _ (ends_at 𝓛 ended stays c y u b (tt, (tt, tt)) (tt, (tt, tt))) $ says ! same $
    nothing ! $ nothing ! $ fjoin ! $ nothing ! $ fjoin ! $ join ! $
    move ! (1 ∷ []) $ split3 ! $ move ! (1 ∷ []) $ drop ! $ join ! $ join ! $ done !)))))))
