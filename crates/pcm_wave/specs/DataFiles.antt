-- What a contract sees of a data file.
use Rattle.std.specs.Prelude.{ℕ, List, take, drop}
use Rattle.pcm_wave.specs.declared.wave.Wave.{Wave}

-- a file's name, all its bytes, and the wave that they are
pub record DataFileSeen : Type 0 where
  pub name : List ℕ
  pub bytes : List ℕ
  pub wave : Wave

-- the bytes of the wave's body
abbrev pub body_of : DataFileSeen → List ℕ
body_of file = take file.wave.len (drop file.wave.at file.bytes)
