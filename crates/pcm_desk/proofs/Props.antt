-- The sets for `by { Prim.hlevel book_props }` and `by { Prim.hlevel record_props }` after a ghost field: that the counts of a book are
-- in order has one proof at most.
use Rattle.std.proofs.Props.{props}
use Rattle.pcm_desk.specs.Types.{MapBook, PlayBook, PlayState, Rate, RecordBook, RunState}
use Rattle.pcm_desk.specs.declared.play_book.PlayState.TheVariants.{Free}
use Rattle.pcm_desk.specs.declared.run_state.RunState.TheVariants as run_states
use Rattle.pcm_desk.specs.Desk.{Desk}
use Rattle.pcm_desk.specs.Own.{HoldApart}
use Rattle.pcm_desk.specs.PlaySafe.{IsPlayInOrder, PlayIsSafe}
use Rattle.pcm_desk.specs.MapSafe.{IsMapInOrder, MapIsSafe}
use Rattle.pcm_desk.specs.RecordSafe.{IsRecordInOrder, RecordIsSafe}

pub IsInOrder-prop : (rate : Rate) (state : PlayState) (book : PlayBook) → IsProp (IsPlayInOrder rate state book)
IsInOrder-prop rate Free book = Prim.hlevel props
IsInOrder-prop rate state book = Prim.hlevel props

pub PlayIsSafe-prop : (rate : Rate) (book : PlayBook) → IsProp (PlayIsSafe rate book)
PlayIsSafe-prop rate book = Prim.hlevel (IsInOrder-prop, props)

pub ruleset book_props = (PlayIsSafe-prop, props)

pub record-IsInOrder-prop : (state : RunState) (book : RecordBook) → IsProp (IsRecordInOrder state book)
record-IsInOrder-prop run_states.Running book = Prim.hlevel props
record-IsInOrder-prop state book = Prim.hlevel props

pub RecordIsSafe-prop : (rate : Rate) (book : RecordBook) → IsProp (RecordIsSafe rate book)
RecordIsSafe-prop rate book = Prim.hlevel (record-IsInOrder-prop, props)

pub ruleset record_props = (RecordIsSafe-prop, props)

pub map-IsInOrder-prop : (state : RunState) (book : MapBook) → IsProp (IsMapInOrder state book)
map-IsInOrder-prop run_states.Running book = Prim.hlevel props
map-IsInOrder-prop state book = Prim.hlevel props

pub MapIsSafe-prop : (rate : Rate) (book : MapBook) → IsProp (MapIsSafe rate book)
MapIsSafe-prop rate book = Prim.hlevel (map-IsInOrder-prop, props)

pub ruleset map_props = (MapIsSafe-prop, props)

pub HoldApart-prop : (desk : Desk) → IsProp (HoldApart desk)
HoldApart-prop desk = Prim.hlevel props

pub ruleset hold_props = (HoldApart-prop, props)
