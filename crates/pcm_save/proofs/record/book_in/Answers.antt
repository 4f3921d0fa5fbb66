use Rattle.std.proofs.Common.{rules, ◌≡◌, length, sym}
use Rattle.pcm_state.specs.RecordRows.{record_book_row}
use Rattle.pcm_save.proofs.Taken.{found-ok, rows-same}
use Rattle.pcm_save.proofs.record.book_in.Goals as goal

pub returns-clause-taken : goal.returns-clause-taken
returns-clause-taken c = λ book fits is.
    let many : length c.load_row.new.row ≡ 13 = search rules in
    let same = rows-same c.args.bytes.now c.load_row.new.row (record_book_row book) (sym many) c.in_ok-load_row.ensures.row is in
    found-ok c.record_from_row.result book _ c.ok_or.result c.ok_or.ensures.value (c.record_from_row.ensures.some book fits same)
