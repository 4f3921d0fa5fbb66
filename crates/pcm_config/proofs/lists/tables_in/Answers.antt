use Rattle.std.proofs.Common.{sym, ap, ◌∙◌, option_map}
use Rattle.toml.specs.View.{array_view, view}
use Rattle.pcm_config.proofs.Arrays.{all-tables, array-none, some-other}
use Rattle.pcm_config.proofs.lists.tables_in.Goals as goal
use Rattle.pcm_config.proofs.lists.tables_in.Goals.{in_default-via-in-Some+else-are_tables, in_default-via-in_default}

pub returns-in-Some : goal.returns-in-Some
returns-in-Some c =
    let found = sym c.as_array.ensures ∙ ap (option_map (λ v. array_view v.now)) c.in-Some.is in
    rw c.as_slice.ensures.value (all-tables (view c.args.value.now) c.in-Some.values.now.items found
    (rw (← c.deref.ensures.value) c.if-are_tables.ensures))

pub returns-in_default : goal.returns-in_default
returns-in_default c =
    elim c.in_default.branch [
      | in_default-via-in-Some+else-are_tables w ↦
          let found = sym c.as_array.ensures ∙ ap (option_map (λ v. array_view v.now)) w.in-Some.is in
          some-other (view c.args.value.now) w.in-Some.values.now.items found (rw (← w.deref.ensures.value) w.if-are_tables.ensures)
      | in_default-via-in_default w ↦ sym (array-none _ (view c.args.value.now)
          (sym c.as_array.ensures ∙ ap (option_map (λ v. array_view v.now)) w.in_default.is))
    ]
