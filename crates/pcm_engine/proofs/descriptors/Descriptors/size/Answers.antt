use Rattle.std.proofs.Common.{sym, ap, length, ◌∙◌, arith}
use Rattle.std.proofs.lemmas.List.{length-append}
use Rattle.pcm_state.specs.GroupRows.{groups_row}
use Rattle.pcm_state.specs.HeldRows.{held_row}
use Rattle.pcm_state.specs.Numbers.{spelled_numbers}
use Rattle.pcm_engine.proofs.Saving.{length-groups, length-held}
use Rattle.pcm_engine.proofs.descriptors.Descriptors.size.Goals as goal

pub returns-clause-whole : goal.returns-clause-whole
returns-clause-whole c = record { groups = c.groups_row-row.ensures.fits; held = ap length (sym c.all_held.ensures.is) ∙ c.all_held.ensures.count }

pub returns-clause-is : goal.returns-clause-is
returns-clause-is c = omega (arith, c.all_held.ensures.count)

pub returns-clause-size : goal.returns-clause-size
returns-clause-size c =
    let descriptors = c.args.self.now in
    let whole = returns-clause-whole c in
    omega (
      arith,
      c.all_held.ensures.count,
      length-append (spelled_numbers (groups_row descriptors.groups)) (spelled_numbers (held_row descriptors.held.value)),
      length-groups descriptors whole,
      length-held descriptors whole,
    )
