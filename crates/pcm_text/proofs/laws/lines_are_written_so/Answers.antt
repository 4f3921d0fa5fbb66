use Rattle.std.proofs.Common.{refl}
use Rattle.std.specs.Fmt.{digits}
use Rattle.hex.specs.Hex.{encode_with}
use Rattle.pcm_text.proofs.laws.lines_are_written_so.Goals as goal

pub returns-clause-open : goal.returns-clause-open
unfolding digits encode_with
returns-clause-open c = refl

pub returns-clause-record : goal.returns-clause-record
unfolding digits encode_with
returns-clause-record c = refl

pub returns-clause-map : goal.returns-clause-map
unfolding digits encode_with
returns-clause-map c = refl

pub returns-clause-write : goal.returns-clause-write
unfolding digits encode_with
returns-clause-write c = refl

pub returns-clause-empty : goal.returns-clause-empty
unfolding digits encode_with
returns-clause-empty c = refl

pub returns-clause-send : goal.returns-clause-send
unfolding digits encode_with
returns-clause-send c = refl

pub returns-clause-poke : goal.returns-clause-poke
unfolding digits encode_with
returns-clause-poke c = refl

pub returns-clause-nothing : goal.returns-clause-nothing
unfolding digits encode_with
returns-clause-nothing c = refl

pub returns-clause-read : goal.returns-clause-read
unfolding digits encode_with
returns-clause-read c = refl

pub returns-clause-format : goal.returns-clause-format
unfolding digits encode_with
returns-clause-format c = refl

pub returns-clause-greatest : goal.returns-clause-greatest
unfolding digits encode_with
returns-clause-greatest c = refl

pub returns-clause-sync : goal.returns-clause-sync
unfolding digits encode_with
returns-clause-sync c = refl

pub returns-clause-join : goal.returns-clause-join
unfolding digits encode_with
returns-clause-join c = refl

pub returns-clause-start : goal.returns-clause-start
unfolding digits encode_with
returns-clause-start c = refl

pub returns-clause-close : goal.returns-clause-close
unfolding digits encode_with
returns-clause-close c = refl

pub returns-clause-set_master : goal.returns-clause-set_master
unfolding digits encode_with
returns-clause-set_master c = refl

pub returns-clause-get_master : goal.returns-clause-get_master
unfolding digits encode_with
returns-clause-get_master c = refl

pub returns-clause-set_slot : goal.returns-clause-set_slot
unfolding digits encode_with
returns-clause-set_slot c = refl

pub returns-clause-get_slot : goal.returns-clause-get_slot
unfolding digits encode_with
returns-clause-get_slot c = refl

pub returns-clause-mute : goal.returns-clause-mute
unfolding digits encode_with
returns-clause-mute c = refl

pub returns-clause-interrupt : goal.returns-clause-interrupt
unfolding digits encode_with
returns-clause-interrupt c = refl

pub returns-clause-several : goal.returns-clause-several
unfolding digits encode_with
returns-clause-several c = refl
