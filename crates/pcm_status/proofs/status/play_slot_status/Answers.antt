use Rattle.std.proofs.Common.{sym, ap, ◌∙◌}
use Rattle.pcm_desk.specs.declared.play_book.PlayBook.{PlayBook}
use Rattle.pcm_desk.specs.PlayBooks.{is_play_free}
use Rattle.pcm_status.proofs.Held.{started-taken}
use Rattle.pcm_status.proofs.status.play_slot_status.Goals as goal

pub play_rate-requires : goal.play_rate-requires
play_rate-requires g c = record {
  ready = c.requires.ready;
  there = c.requires.there;
  taken = ap (λ (book : PlayBook). is_play_free book.state) (sym c.play_book-book.ensures.is)
      ∙ started-taken c.play_book-book.result.state (sym c.is_started.ensures ∙ c.if-is_started.true);
}
