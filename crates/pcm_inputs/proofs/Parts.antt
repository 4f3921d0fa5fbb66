-- Parts of a call, one after another.
use Rattle.std.proofs.Common.{◌≡◌, ℕ, zero, suc, List, [], ◌∷◌, ◌++◌, None, Some, Result, Ok, Err, IsTrue, slice_get, refl, sym, ap, ◌∙◌, subst, arith}
use Rattle.pcm_outside.specs.Counts.{Rose}
use Rattle.pcm_outside.specs.Files.{FilesSeen, FailsToRead, NoReadFails, OnlyReads}
use Rattle.pcm_outside.specs.Sink.{SinkSeen, FailsToPut, Puts}
use Rattle.pcm_verdict.specs.Faults.{Fault, cannot_read_line, fault_line}
use Rattle.pcm_verdict.specs.Judging.{◌>>=◌, Contents, Judged, came_after, names_after}
use Rattle.pcm_inputs.specs.declared.ending.Ending.{Ending}
use Rattle.pcm_inputs.specs.declared.ending.Ending.TheVariants.{Usage, CannotRead, BadConfig, BadScript, BadWave, CannotWrite, NoMemory}
use Rattle.pcm_inputs.specs.Outside.{Outside}
use Rattle.pcm_inputs.specs.Reads.{Comes, Ends, IsAmong, IsLine, IsRead, OfFault, OfRead, OnlyHasRead, Part, RefusesPart}

-- ---- names

-- the place of a name after others
abbrev place-behind : List (List ℕ) → ℕ → ℕ
place-behind [] place = place
place-behind (first ∷ front) place = suc (place-behind front place)

among-behind : (name : List ℕ) (front names : List (List ℕ)) (place : ℕ) → slice_get names place ≡ Some name → slice_get (front ++ names) (place-behind front place) ≡ Some name
among-behind name [] names place is = is
among-behind name (first ∷ front) names place is = among-behind name front names place is

among-before : (name : List ℕ) (names more : List (List ℕ)) (place : ℕ) → slice_get names place ≡ Some name → slice_get (names ++ more) place ≡ Some name
among-before name [] more place is = absurd (let e : None ≡ Some name = is in cc)
among-before name (first ∷ names) more zero is = is
among-before name (first ∷ names) more (suc place) is = among-before name names more place is

-- ---- one part leads to another

-- what comes of a part comes of the whole, and what it reads is read in the whole
pub record LeadsTo {A B : Type 0} (whole : Part A) (part : Part B) (files : FilesSeen) : Type 0 where
  pub fault : (fault : Fault) → Comes part (Err fault) files → Comes whole (Err fault) files
  pub names : (name : List ℕ) → IsTrue files.tells → IsAmong name (part.judged files.content).names → IsAmong name (whole.judged files.content).names
  pub may : (name : List ℕ) → part.may name → whole.may name

-- two contents that are the same
contents-same : {A B : Type 0} (whole : Part A) (part : Part B) (before between : FilesSeen) → OnlyReads before between → LeadsTo whole part before
    → (name : List ℕ) → IsRead part between name → IsRead whole before name
contents-same whole part before between only leads name read = record {
  may = leads.may name read.may;
  among = λ told. leads.names name told (subst (λ (content : Contents). IsAmong name (part.judged content).names) only.content (read.among (only.tells ∙ told)));
}

pub comes-before : {A : Type 0} (part : Part A) (came : Result A Fault) (before between : FilesSeen) → OnlyReads before between → Comes part came between → Comes part came before
comes-before part came before between only comes = λ told.
    subst (λ (content : Contents). (part.judged content).came ≡ came) only.content (comes (only.tells ∙ told))

rose-later : (a b c : ℕ) → b ≡ a → Rose b c → Rose a c
rose-later a b c same rose = subst (λ n. Rose n c) same rose

pub reads-later : (a b c : FilesSeen) → OnlyReads a b → OnlyReads b c → OnlyReads a c
reads-later a b c one two = record {
  tells = two.tells ∙ one.tells;
  content = two.content ∙ one.content;
  created = two.created ∙ one.created;
  stands = two.stands ∙ one.stands;
  write_faults = two.write_faults ∙ one.write_faults;
  read_faults = omega (arith, one.read_faults, two.read_faults);
}

fails-later : (a b c : FilesSeen) (name : List ℕ) → NoReadFails a b → FailsToRead b c name → FailsToRead a c name
fails-later a b c name kept fails = record { rose = rose-later _ _ _ kept.read_faults fails.rose; failed = fails.failed }

pub has_read-later : (a b c : Outside) → OnlyHasRead a b → OnlyHasRead b c → OnlyHasRead a c
has_read-later a b c one two = record {
  files = reads-later _ _ _ one.files two.files;
  kept = record { read_faults = two.kept.read_faults ∙ one.kept.read_faults; failed = two.kept.failed ∙ one.kept.failed };
  sink = two.sink ∙ one.sink;
}

refuses-later : {A B : Type 0} (whole : Part A) (part : Part B) (ending : Ending) (before between after : Outside) → OnlyHasRead before between → LeadsTo whole part before.files
    → RefusesPart part ending between after → RefusesPart whole ending before after
refuses-later whole part ending before between after only leads refuses = record {
  fault = refuses.fault;
  ended = refuses.ended;
  came = leads.fault refuses.fault (comes-before part (Err refuses.fault) _ _ only.files refuses.came);
  files = reads-later _ _ _ only.files refuses.files;
  line = subst (λ (sink : SinkSeen). Puts sink after.sink (fault_line refuses.fault)) only.sink refuses.line;
}

line-later : {A B : Type 0} (whole : Part A) (part : Part B) (before between after : Outside) (line : List ℕ) → OnlyHasRead before between → LeadsTo whole part before.files
    → IsLine part between.files after.files line → IsLine whole before.files after.files line
line-later whole part before between after line only leads (OfFault fault came is) = OfFault fault (leads.fault fault (comes-before part (Err fault) _ _ only.files came)) is
line-later whole part before between after line only leads (OfRead name read fails is) =
    OfRead name (contents-same whole part before.files between.files only.files leads name read) (fails-later _ _ _ name only.kept fails) is

-- an end of a part that follows others is an end of the whole
pub ends-later : {A B : Type 0} (whole : Part A) (part : Part B) (ending : Ending) (before between after : Outside) → OnlyHasRead before between → LeadsTo whole part before.files
    → Ends part between after ending → Ends whole before after ending
ends-later whole part Usage before between after only leads ends = ends
ends-later whole part CannotRead before between after only leads ends = record {
  name = ends.name;
  is_read = contents-same whole part before.files between.files only.files leads ends.name ends.is_read;
  read = fails-later _ _ _ ends.name only.kept ends.read;
  files = reads-later _ _ _ only.files ends.files;
  line = subst (λ (sink : SinkSeen). Puts sink after.sink (cannot_read_line ends.name)) only.sink ends.line;
}
ends-later whole part BadConfig before between after only leads ends = refuses-later whole part BadConfig before between after only leads ends
ends-later whole part BadScript before between after only leads ends = refuses-later whole part BadScript before between after only leads ends
ends-later whole part BadWave before between after only leads ends = refuses-later whole part BadWave before between after only leads ends
ends-later whole part CannotWrite before between after only leads ends = record {
  line = ends.line;
  is = line-later whole part before between after ends.line only leads ends.is;
  files = reads-later _ _ _ only.files ends.files;
  put = subst (λ (sink : SinkSeen). FailsToPut sink after.sink ends.line) only.sink ends.put;
}
ends-later whole part NoMemory before between after only leads ends = record {
  files = reads-later _ _ _ only.files ends.files;
  sink = ends.sink ∙ only.sink;
}

-- nothing was done yet
pub reads-nothing : (files : FilesSeen) → OnlyReads files files
reads-nothing files = record { tells = refl; content = refl; created = refl; stands = refl; write_faults = refl; read_faults = omega arith }

pub nothing : (outside : Outside) → OnlyHasRead outside outside
nothing outside = record { files = reads-nothing outside.files; kept = record { read_faults = refl; failed = refl }; sink = refl }

-- an end of a part is an end of the whole that begins with it
pub ends-as : {A B : Type 0} (whole : Part A) (part : Part B) (ending : Ending) (before after : Outside) → LeadsTo whole part before.files → Ends part before after ending → Ends whole before after ending
ends-as whole part ending before after leads ends = ends-later whole part ending before before after (nothing before) leads ends

-- ---- judgements one after another

-- a part, and then what its value leads to
pub then : {A B : Type 0} → Part A → (Contents → A → Judged B) → (List ℕ → Type 0) → Part B
then first next may = record { judged = λ content. first.judged content >>= next content; may = may }

-- a whole leads to what it begins with
pub leads-first : {A B : Type 0} (first : Part A) (next : Contents → A → Judged B) (may : List ℕ → Type 0) (files : FilesSeen) → ((name : List ℕ) → first.may name → may name)
    → LeadsTo (record { judged = λ content. first.judged content >>= next content; may = may }) first files
leads-first first next may files allows = record {
  fault = λ fault came told. ap (λ (r : Result _ Fault). came_after r (next files.content)) (came told);
  names = λ name told among. record {
    place = among.place;
    is = among-before name (first.judged files.content).names (names_after (first.judged files.content).came (next files.content)) among.place among.is;
  };
  may = allows;
}

-- and to what follows a value that the first part gave
pub leads-next : {A B : Type 0} (first : Part A) (next : Contents → A → Judged B) (may behind : List ℕ → Type 0) (files : FilesSeen) (value : A) → Comes first (Ok value) files → ((name : List ℕ) → behind name → may name)
    → LeadsTo (record { judged = λ content. first.judged content >>= next content; may = may }) (record { judged = λ content. next content value; may = behind }) files
leads-next first next may behind files value came allows = record {
  fault = λ fault later told. ap (λ (r : Result _ Fault). came_after r (next files.content)) (came told) ∙ later told;
  names = λ name told among. record {
    place = place-behind (first.judged files.content).names among.place;
    is = among-behind name (first.judged files.content).names (names_after (first.judged files.content).came (next files.content)) among.place
        (subst (λ (r : Result _ Fault). slice_get (names_after r (next files.content)) among.place ≡ Some name) (sym (came told)) among.is);
  };
  may = allows;
}

pub leads-on : {A B C : Type 0} (one : Part A) (two : Part B) (three : Part C) (files : FilesSeen) → LeadsTo one two files → LeadsTo two three files → LeadsTo one three files
leads-on one two three files first next = record {
  fault = λ fault came. first.fault fault (next.fault fault came);
  names = λ name told among. first.names name told (next.names name told among);
  may = λ name allowed. first.may name (next.may name allowed);
}

-- the result of the second part, where the first gave a value
pub comes-next : {A B : Type 0} (first : Part A) (next : Contents → A → Judged B) (may : List ℕ → Type 0) (files : FilesSeen) (value : A) (came : Result B Fault) → Comes first (Ok value) files
    → (IsTrue files.tells → (next files.content value).came ≡ came) → Comes (record { judged = λ content. first.judged content >>= next content; may = may }) came files
comes-next first next may files value came here there = λ told. ap (λ (r : Result _ Fault). came_after r (next files.content)) (here told) ∙ there told
