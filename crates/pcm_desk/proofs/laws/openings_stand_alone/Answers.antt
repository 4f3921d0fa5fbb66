use Rattle.pcm_desk.proofs.Isolation.{isolated}
use Rattle.pcm_desk.proofs.OwnEvents.{alike-books, alike-told, begun-own, book-own, holds-own, replies-own}
use Rattle.pcm_desk.proofs.laws.openings_stand_alone.Goals as goal

pub returns : goal.returns
returns c = record {
  isolated = isolated;
  begun = begun-own;
  told = replies-own;
  holds = holds-own;
  book = book-own;
  alike = alike-told;
  books_alike = alike-books;
}
