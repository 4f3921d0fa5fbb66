use Rattle.std.proofs.Common.{sym, ap, ◌∙◌, option_map}
use Rattle.toml.specs.View.{array_view, view}
use Rattle.pcm_config.specs.Filters.{numbers_in}
use Rattle.pcm_config.proofs.Arrays.{array-is}
use Rattle.pcm_config.proofs.rows.rows_in.Goals as goal

pub returns-in-Some : goal.returns-in-Some
returns-in-Some c =
    let found = sym c.as_array.ensures ∙ ap (option_map (λ v. array_view v.now)) c.in-Some.is in
    rw (array-is numbers_in (view c.args.value.now) c.in-Some.rows.now.items found, ← c.as_slice.ensures.value) c.each_row.ensures
