use Rattle.std.proofs.Common.{rules, ap, sym, ◌∙◌, FitsSigned, w32}
use Rattle.std.proofs.lemmas.Int.{to_z-of_z}
use Rattle.pcm_engine_c.specs.declared.session.Session.{Session}
use Rattle.pcm_engine_c.proofs.Cloning.{clone-moved, made, none-there, unmade}
use Rattle.pcm_engine_c.proofs.dsp_raw_clone.Goals as goal

pub put-requires-2-clause-empty : goal.put-requires-2-clause-empty
put-requires-2-clause-empty c = none-there _ (sym c.if-is_there.ensures)

pub returns-in_default-made-clause-made : goal.returns-in_default-made-clause-made
returns-in_default-made-clause-made c =
    let fits : FitsSigned w32 c.fault_number.result = search rules in
    unmade _ c.in-Some.session.value _ _ _ c.in-Some.ensures.value (sym c.if-is_there.ensures)
    (to_z-of_z w32 c.fault_number.result fits ∙ c.fault_number.ensures)

pub returns-clause-made : goal.returns-clause-made
returns-clause-made c =
    made _ c.in-Some.session.value c.in-Ok.made.value _ _ _ c.in-Some.ensures.value (sym c.if-is_there.ensures) c.put-2.ensures
    (clone-moved _ _ _ _ _ (ap (λ (session : Session). session.of.engine) c.deref.ensures) c.in-Ok.ensures)
