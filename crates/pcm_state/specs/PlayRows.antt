-- What is kept of a book that plays, as a row of numbers.
use Rattle.std.specs.Prelude.{ℕ, ◌+◌, List, [], ◌∷◌, ◌++◌}
use Rattle.pcm_desk.specs.declared.play_book.PlayBook.{PlayBook}
use Rattle.pcm_desk.specs.declared.play_book.PlayState.{PlayState}
use Rattle.pcm_desk.specs.declared.play_book.PlayState.TheVariants.{Free, Setup, Primed, Running, Draining}
use Rattle.pcm_state.specs.Numbers.{IsNumber}
use Rattle.pcm_state.specs.OpeningRows.{flag, opening_row, FitsOpening, IsWord}

-- a state as a number
abbrev pub play_code : PlayState → ℕ
play_code Free = 0
play_code Setup = 1
play_code Primed = 2
play_code Running = 3
play_code (Draining closed) = 4 + flag closed

-- the row of a book
abbrev pub play_book_row : PlayBook → List ℕ
play_book_row book = opening_row book.opening
    ++ book.volume ∷ play_code book.state ∷ book.written ∷ book.eaten ∷ book.given ∷ book.done ∷ book.underruns ∷ book.last ∷ []

-- each number of a book has as many bits as its type keeps
pub record FitsPlay (book : PlayBook) : Type 0 where
  pub opening : FitsOpening book.opening
  pub volume : IsWord book.volume
  pub written : IsNumber book.written
  pub eaten : IsNumber book.eaten
  pub given : IsNumber book.given
  pub done : IsNumber book.done
  pub underruns : IsWord book.underruns
  pub last : IsNumber book.last
