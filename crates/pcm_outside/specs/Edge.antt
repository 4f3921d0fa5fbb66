-- What a contract sees of the real forms, which show no contents, and of a writer.
use Rattle.std.specs.Prelude.{◌≡◌, ◌≤◌, ◌<◌, ℕ, Bool, false, List, [], ◌++◌, Option, None, length}
use Rattle.std.specs.Io.KnownBytes.{Appends, Consumes, IsAtEnd}
use Rattle.pcm_outside.specs.Files.{FilesSeen, IsPrefixOf}
use Rattle.pcm_outside.specs.Sink.{SinkSeen}

-- of files that show no contents: whether one stands created, the two counts, and the name whose read failed last
abbrev pub untold_files : Bool → ℕ → ℕ → Option (List ℕ) → FilesSeen
untold_files stands read_faults write_faults failed = record {
  tells = false;
  content = λ _. None;
  created = None;
  stands = stands;
  read_faults = read_faults;
  write_faults = write_faults;
  failed = failed;
}

-- of a sink that shows no bytes: how often a put failed
abbrev pub untold_sink : ℕ → SinkSeen
untold_sink faults = record { tells = false; bytes = []; faults = faults }

-- the bytes that a writer shows grew by a part of the piece
pub record AppendsPart (old new : Option (List ℕ)) (piece : List ℕ) : Type 0 where
  pub part : List ℕ
  pub front : IsPrefixOf part piece
  pub grows : Appends old new part

-- the bytes so far grew by what a reader shows next, to `most` bytes, or to its end
pub record ReadsOn (old new : Option (List ℕ)) (before after : List ℕ) (most : ℕ) : Type 0 where
  pub more : List ℕ
  pub joined : after ≡ before ++ more
  pub taken : Consumes old new more
  pub within : length after ≤ most
  pub end : length after < most → IsAtEnd new
