use Rattle.std.proofs.Common.{◌++◌, ap, ◌∙◌}
use Rattle.pcm_state.specs.Numbers.{spelled_numbers}
use Rattle.pcm_state.specs.RecordRows.{record_book_row}
use Rattle.pcm_save.specs.Parts.{path_bytes}
use Rattle.pcm_save.proofs.record.RecordChannelOfSaved.save.Goals as goal

pub returns-clause-saved : goal.returns-clause-saved
returns-clause-saved g c =
    let kept = g.B.Feeder.kept in
    let channel = c.args.self.now in
    ap (λ front. front ++ c.put_path.new.out) (c.put_numbers.ensures.spelled ∙ ap spelled_numbers c.record_row-row.ensures.row)
    ∙ ap (λ rest. spelled_numbers (record_book_row channel.book) ++ rest) (c.put_path.ensures ∙ ap (λ free. path_bytes kept free channel.path) c.is_free.ensures)
