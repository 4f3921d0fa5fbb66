-- A pointer with what it owns, and the heap at a call, as the machine has them.
--     Raw, alone              a `RawBox` of a row, and its machine value
--     raw_in, raw_out         it owns what the pointer does, and no more
--     raw_is, raw_typed       its machine value is known, and is of its type
--     Boxed, box_typed        a box of the heap;  its machine values are of its type
--     Heap, heap_laws         the heap as the type argument of a call
--     no_drop, heap_let_go    it is let go without a drop
use Rattle.std.proofs.Common.{List, [], ◌∷◌, refl}
use seplogic.Ra.Ura.{Ura}
use mir.Syntax.{Dict, impl, tcons, tnil, dnil}
use mir.Raw.{raw as bare}
use mir.Val.{Val, vstruct, vcons, vnil}
use prog.Routine.{Env}
use prog.Wired.{Wired}
use types.Logic.{Logic}
use types.Kit.{Item, Goal, Step, step, ‵, ◌$◌, drop, fsplit, fjoin, fpack, feq_i}
use denote.RattleType.{RattleType, Valss}
use denote.Builtin.{RawPtr}
use denote.Exit.{no}
use denote.Laws.{Is, Tells, Typed}
use denote.Param.{layout, arg}
use denote.Param.Glue.{Bound}
use denote.Param.Laws.{Laws, arg_laws}
use denote.Param.NoDrop.{glues}
use denote.RawPtr.{Ptr, ptr_val}
use denote.Steps.{nothing}
use denote.Struct.Struct.{within}
use denote.Struct.Owning.{shape}
use Rattle.std.proofs.alloc.Global.TheLaws as of_heap
use Rattle.std.proofs.boxed.Box.TheLaws as of_box
use Rattle.std.specs.contracts.alloc.Global as heap
use Rattle.std.specs.contracts.boxed.Box as box
use Rattle.std.specs.contracts.impls.GlobalAllocator.TheImpl.{ghosts}
use Rattle.raw_box.specs.Heap.{heap_owns}
use Rattle.raw_box.specs.contracts.raw.RawBox as raw_box
use Rattle.raw_box.proofs.Destruct++none.drop.Code as no_code
use Rattle.raw_box.proofs.raw.RawBox.TheLaws as of_raw

abbrev pub Raw : RattleType → RattleType
Raw = raw_box.the_row

abbrev pub Boxed : RattleType → RattleType
Boxed R = box.the_row R heap.the_row ghosts

abbrev pub alone : Ptr → Val
alone p = vstruct (vcons (ptr_val p) vnil)

module _ (R : RattleType) {M : Type 1} {𝓤 : Ura M} {𝓛 : Logic 𝓤} {K : Type 0} {Γ : List (Item 𝓤)} {G : Goal 𝓤 𝓛.H} where
  pub raw_in : K → (p : Ptr) (x : R.Denot) → Step K 𝓛 (‵ ((Raw R).own_val (record { at = p; value = x }) (alone p ∷ [])) ∷ Γ) G (‵ (heap_owns R p x) ∷ Γ) G
  raw_in t p x = step (λ s. nothing t $ feq_i t (List Val) (ptr_val p ∷ []) (ptr_val p ∷ []) refl $ fjoin t $ feq_i t (List Val) (alone p ∷ []) (alone p ∷ []) refl $ fjoin t $
      fpack t (Valss (RawPtr ∷ [])) (within (shape (raw_box.the_type R)) (p, tt) (alone p ∷ [])) (ptr_val p ∷ [], tt) $ fjoin t $ s)

  pub raw_out : K → (r : (Raw R).Denot) (ws : List Val) → Step K 𝓛 (‵ (heap_owns R r.at r.value) ∷ Γ) G (‵ ((Raw R).own_val r ws) ∷ Γ) G
  raw_out t r ws = step (λ s. fsplit t $ drop t $ s)

module _ (R : RattleType) (laws : Laws R) where
  pub raw_is : Tells (Raw R) (Is (Raw R)) (λ r. alone r.at ∷ [])
  raw_is = (of_raw.lowers R laws).val_is

  module _ {M : Type 1} {𝓤 : Ura M} (𝓛 : Logic 𝓤) where
    pub raw_typed : (r : (Raw R).Denot) (ws : List Val) → Is (Raw R) r ws → Typed (Raw R).mir ws
    raw_typed = ((of_raw.the_field_loose R laws).lawful 𝓛).typed

    pub box_typed : (b : (Boxed R).Denot) (ws : List Val) → Is (Boxed R) b ws → Typed (Boxed R).mir ws
    box_typed = ((of_box.the_field_loose R heap.the_row ghosts laws of_heap.the_row_laws).lawful 𝓛).typed

abbrev pub Heap : RattleType
Heap = arg (bare (layout heap.the_row)) no heap.the_row

abbrev pub heap_laws : Laws Heap
heap_laws = arg_laws (bare (layout heap.the_row)) no heap.the_row of_heap.the_row_laws refl

abbrev pub no_drop : Dict
no_drop = impl ("raw_box::Destruct++none::drop" ∷ []) (tcons (layout Heap) tnil) dnil

pub heap_let_go : (γ : Env) → Wired γ no_code.code → Bound γ Heap no_drop
unfolding no_code.code
heap_let_go γ wired = glues "raw_box::Destruct++none::drop" γ wired Heap heap_laws
