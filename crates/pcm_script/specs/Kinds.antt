-- The words that name the kinds of faults.
use Rattle.std.specs.Prelude.{ℕ, List, codes}
use Rattle.pcm_script.specs.declared.fault.ScriptKind.{ScriptKind}
use Rattle.pcm_script.specs.declared.fault.ScriptKind.TheVariants.{Word, Count, Number, Name, Hex, Range, Long}

-- the word that names a kind
abbrev pub kind_word : ScriptKind → List ℕ
kind_word Word = codes "word"
kind_word Count = codes "count"
kind_word Number = codes "number"
kind_word Name = codes "name"
kind_word Hex = codes "hex"
kind_word Range = codes "range"
kind_word Long = codes "long"
