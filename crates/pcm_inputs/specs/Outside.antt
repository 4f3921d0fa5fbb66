-- The outside of a call: its files and its sink.
use denote.Triple.Both.{Both}
use Rattle.std.specs.Prelude.{◌≡◌, ◌⊎◌}
use Rattle.std.specs.Borrow.{MutBor}
use Rattle.pcm_outside.specs.Counts.{Rose}
use Rattle.pcm_outside.specs.Files.{FilesSeen}
use Rattle.pcm_outside.specs.Sink.{SinkSeen}

-- what is seen of both at one moment
pub record Outside : Type 0 where
  pub files : FilesSeen
  pub sink : SinkSeen

abbrev pub outside : FilesSeen → SinkSeen → Outside
outside files sink = record { files = files; sink = sink }

-- what is seen of both before and after a call
pub record Change : Type 0 where
  pub before : Outside
  pub after : Outside

-- a parameter that is lent to a call, as a clause names it: as the call begins, and as it ends
abbrev pub Lent : Type 0 → Type 0
Lent T = Both (MutBor T) (MutBor T)

-- what a call did to the files and the sink that were lent to it
abbrev pub both : {F K : Type 0} → (F → FilesSeen) → (K → SinkSeen) → Lent F → Lent K → Change
both seen heard files out = record {
  before = outside (seen files.entry.now) (heard out.entry.now);
  after = outside (seen files.exit.now) (heard out.exit.now);
}

-- a relation of what was before and what is after, over a change
infixl 5 ◌over◌
abbrev pub ◌over◌ : {R : Type 1} → (Outside → Outside → R) → Change → R
relation over change = relation change.before change.after

-- no read, no write and no put failed
pub record NoneRose (before after : Outside) : Type 0 where
  pub reads : after.files.read_faults ≡ before.files.read_faults
  pub writes : after.files.write_faults ≡ before.files.write_faults
  pub puts : after.sink.faults ≡ before.sink.faults

-- the files or the sink failed to write
abbrev pub WriteRose : Outside → Outside → Type 0
WriteRose before after = Rose before.files.write_faults after.files.write_faults ⊎ Rose before.sink.faults after.sink.faults

-- the files failed to read, or the files or the sink to write
abbrev pub OneRose : Outside → Outside → Type 0
OneRose before after = Rose before.files.read_faults after.files.read_faults ⊎ WriteRose before after
