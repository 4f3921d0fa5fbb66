-- Data files by their names.
use Rattle.std.specs.Prelude.{◌≡◌, Bool, true, List, length}
use Rattle.std.specs.Cmp.Lexicographic.{slice_cmp}
use Rattle.std.specs.List.{AllAdjacentBelow}
use Rattle.std.specs.Ordering.{is_lt, nat_cmp}
use Rattle.pcm_wave.specs.DataFiles.{DataFileSeen}

-- a file's name is before another's in byte order
abbrev pub is_before : DataFileSeen → DataFileSeen → Bool
is_before one next = is_lt (slice_cmp nat_cmp one.name next.name)

-- each file's name is before the next one's
abbrev pub AreRising : List DataFileSeen → Type 0
AreRising files = AllAdjacentBelow (λ one next. is_before one next ≡ true) files (length files)
