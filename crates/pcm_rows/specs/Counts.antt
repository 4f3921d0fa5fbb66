-- Books of one run.
use Rattle.pcm_desk.specs.declared.play_book.PlayBook.{PlayBook}
use Rattle.pcm_desk.specs.declared.play_book.PlayState.TheVariants.{Running}
use Rattle.pcm_rows.specs.Calls.{usual_book}

-- ten frames of four bytes were written, and two were given
abbrev pub plain_book : PlayBook
plain_book = usual_book Running 40 2 2

-- nine are eaten for the two
abbrev pub eager_book : PlayBook
eager_book = record plain_book { eaten = 9 }
