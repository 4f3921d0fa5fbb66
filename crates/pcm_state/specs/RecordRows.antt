-- What is kept of a book that records, as a row of numbers.
use Rattle.std.specs.Prelude.{ℕ, List, [], ◌∷◌, ◌++◌}
use Rattle.pcm_desk.specs.declared.record_book.RecordBook.{RecordBook}
use Rattle.pcm_desk.specs.declared.run_state.RunState.{RunState}
use Rattle.pcm_desk.specs.declared.run_state.RunState.TheVariants.{Free, Setup, Running}
use Rattle.pcm_state.specs.Numbers.{IsNumber}
use Rattle.pcm_state.specs.OpeningRows.{opening_row, FitsOpening, IsWord}

-- a state as a number
abbrev pub run_code : RunState → ℕ
run_code Free = 0
run_code Setup = 1
run_code Running = 2

-- the row of a book
abbrev pub record_book_row : RecordBook → List ℕ
record_book_row book = opening_row book.opening
    ++ run_code book.state ∷ book.captured ∷ book.given ∷ book.kept ∷ book.read ∷ book.overruns ∷ []

-- each number of a book has as many bits as its type keeps
pub record FitsRecord (book : RecordBook) : Type 0 where
  pub opening : FitsOpening book.opening
  pub captured : IsNumber book.captured
  pub given : IsNumber book.given
  pub kept : IsNumber book.kept
  pub read : IsNumber book.read
  pub overruns : IsWord book.overruns
