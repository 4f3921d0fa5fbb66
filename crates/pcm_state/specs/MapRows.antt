-- What is kept of a mapped book, as a row of numbers.
use Rattle.std.specs.Prelude.{ℕ, List, [], ◌∷◌, ◌++◌}
use Rattle.pcm_desk.specs.declared.map_book.MapBook.{MapBook}
use Rattle.pcm_state.specs.Numbers.{IsNumber}
use Rattle.pcm_state.specs.OpeningRows.{opening_row, FitsOpening, IsWord}
use Rattle.pcm_state.specs.RecordRows.{run_code}

-- the row of a book
abbrev pub map_book_row : MapBook → List ℕ
map_book_row book = opening_row book.opening ++ book.volume ∷ run_code book.state ∷ book.eaten ∷ book.given ∷ []

-- each number of a book has as many bits as its type keeps
pub record FitsMap (book : MapBook) : Type 0 where
  pub opening : FitsOpening book.opening
  pub volume : IsWord book.volume
  pub eaten : IsNumber book.eaten
  pub given : IsNumber book.given
