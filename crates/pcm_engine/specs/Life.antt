-- How long an engine lasts: no count of a desk runs ahead of the frames that were mixed and given to the device.
use Rattle.std.specs.Prelude.{ℕ, ◌+◌, ◌*◌, ◌≤◌, All}
use Rattle.pcm_oss.specs.declared.fragments.TheConstants.{RING_BYTES}
use Rattle.pcm_engine.specs.Types.{MapBook, PlayBook, RecordBook}
use Rattle.pcm_desk.specs.Desk.{Desk}
use Rattle.pcm_engine.specs.declared.limits.TheConstants.{BYTES_FOR_FRAME}

-- the most bytes that play for one frame of the mix: 48 frames of a client, of 32 bytes each
abbrev pub bytes_for_frame : ℕ
bytes_for_frame = BYTES_FOR_FRAME

-- The runs of a slot that were played whole, and the one that plays, gave no frame that wasn't mixed, and had no more bytes than that.
pub record PlayKeepsPace (mixed : ℕ) (book : PlayBook) : Type 0 where
  pub played : book.done + bytes_for_frame * book.given ≤ bytes_for_frame * mixed

-- A recording captures no more frames than the device was given, and keeps at most the bytes of a ring for each.
pub record RecordKeepsPace (handed : ℕ) (book : RecordBook) : Type 0 where
  pub captured : book.captured ≤ handed
  pub kept : book.kept ≤ RING_BYTES * handed

-- a mapped run gives no frame that isn't mixed
pub record MapKeepsPace (mixed : ℕ) (book : MapBook) : Type 0 where
  pub given : book.given ≤ mixed

-- every book does
pub record KeepsPace (desk : Desk) : Type 0 where
  pub playing : All (PlayKeepsPace desk.mixed) desk.play
  pub recording : All (RecordKeepsPace desk.handed) desk.recording
  pub mapped : All (MapKeepsPace desk.mixed) desk.mapped
