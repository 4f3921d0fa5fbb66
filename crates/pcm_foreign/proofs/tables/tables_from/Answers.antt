use Rattle.std.proofs.Common.{◌∙◌, sym}
use Rattle.pcm_foreign.proofs.TableLimits.{tables-are}
use Rattle.pcm_foreign.proofs.tables.tables_from.Goals as goal

pub new-requires : goal.new-requires
new-requires c =
    rw (c.in_ok-list.ensures, c.in_ok-sections.ensures)
    (tables-are c.args.filters.now c.args.coefs.now c.args.sections.now (sym c.are_tables.ensures ∙ c.if-not-are_tables.false))
