use Rattle.std.proofs.Common.{◌≡◌, ◌+◌, ◌-◌, ◌*◌, ◌≤◌, length, sym, ◌∙◌, ap, arith, length-take-le}
use Rattle.pcm_format.specs.declared.settings.Settings.{Settings}
use Rattle.pcm_convert.specs.declared.conversion.TheConstants.{BLOCK}
use Rattle.pcm_convert.specs.Conversions.{block_count, converted_frames}
use Rattle.pcm_convert.specs.Stands.{source_in, target_in}
use Rattle.pcm_format.specs.Frames.{frame_bytes}
use Rattle.pcm_convert_command.proofs.Blocks.{all-appended, begins, block-within, fails-in, goes-on, next-gives}
use Rattle.pcm_convert_command.proofs.Appending.{appends-only}
use Rattle.pcm_convert_command.proofs.convert.append_body.Goals as goal

pub loop-left-init : goal.loop-left-init
loop-left-init g c = record {
  within = omega arith;
  room = c.requires.room;
  has = begins g.B.Feeder.kept c.args.conversion.now c.args.body.now (c.args.frames - c.args.frames) _ c.requires.created (omega arith)
      c.requires.stands;
}

pub next_block-size-requires-clause-stands : goal.next_block-size-requires-clause-stands
next_block-size-requires-clause-stands g c = (c.args.frames - c.loop-left.left, c.loop-left.invariant.has.stands)

pub next_block-size-requires-clause-room : goal.next_block-size-requires-clause-room
next_block-size-requires-clause-room g c =
    omega (arith, c.loop-left.invariant.room, ap (λ (s : Settings). BLOCK * frame_bytes s) c.loop-left.invariant.has.target_is)

-- what was given is within the buffer
pub slice_bounds-append-end : goal.slice_bounds-append-end
slice_bounds-append-end g c =
    let old = c.args.conversion.now in
    let has = c.loop-left.invariant.has in
    let given = c.args.frames - c.loop-left.left in
    let size = c.next_block-size.result in
    let next = c.next_block-size.ensures in
    let gives = next-gives g.B.Feeder.kept c.loop-left.conversion c.next_block-size.new.self (source_in old) (target_in old) c.args.body.now
    given size c.next_block-size.new.out _
    _ _ has next.count next.block next.stands in
    let most = block-within g.B.Feeder.kept c.next_block-size.new.self (source_in old) (target_in old) c.args.body.now given size
    c.next_block-size.new.out _ gives in
    let room : length c.next_block-size.new.out ≡ BLOCK * frame_bytes (target_in old) = c.next_block-size.auto.out
    ∙ c.loop-left.invariant.room in
    omega (arith, most, room)

pub slice_bounds-append-end-in-loop-left : goal.slice_bounds-append-end-in-loop-left
slice_bounds-append-end-in-loop-left g c =
    let old = c.args.conversion.now in
    let has = c.loop-left.invariant.has in
    let given = c.args.frames - c.loop-left.left in
    let size = c.next_block-size.result in
    let next = c.next_block-size.ensures in
    let gives = next-gives g.B.Feeder.kept c.loop-left.conversion c.next_block-size.new.self (source_in old) (target_in old) c.args.body.now
    given size c.next_block-size.new.out _
    _ _ has next.count next.block next.stands in
    let most = block-within g.B.Feeder.kept c.next_block-size.new.self (source_in old) (target_in old) c.args.body.now given size
    c.next_block-size.new.out _ gives in
    let room : length c.next_block-size.new.out ≡ BLOCK * frame_bytes (target_in old) = c.next_block-size.auto.out
    ∙ c.loop-left.invariant.room in
    sym (length-take-le size c.next_block-size.new.out (omega (arith, most, room)))

pub append-requires : goal.append-requires
append-requires g c = c.loop-left.invariant.has.only.stands

pub returns-in_default : goal.returns-in_default
returns-in_default g c =
    let old = c.args.conversion.now in
    let has = c.loop-left.invariant.has in
    let given = c.args.frames - c.loop-left.left in
    let size = c.next_block-size.result in
    let next = c.next_block-size.ensures in
    let gives = next-gives g.B.Feeder.kept c.loop-left.conversion c.next_block-size.new.self (source_in old) (target_in old) c.args.body.now
    given size c.next_block-size.new.out _
    _ _ has next.count next.block next.stands in
    record {
      only = appends-only _ _ _ has.only c.in_default.ensures.only;
      ok = tt;
      err = fails-in g.B.Feeder.kept c.loop-left.conversion c.next_block-size.new.self (source_in old) (target_in old) c.args.body.now given
          size c.next_block-size.new.out _ _ _ _ old.source_rate old.target_rate gives c.in_default.ensures.err has;
    }

pub loop-left-preserved : goal.loop-left-preserved
loop-left-preserved g c =
    let old = c.args.conversion.now in
    let has = c.loop-left.invariant.has in
    let given = c.args.frames - c.loop-left.left in
    let size = c.next_block-size.result in
    let next = c.next_block-size.ensures in
    let gives = next-gives g.B.Feeder.kept c.loop-left.conversion c.next_block-size.new.self (source_in old) (target_in old) c.args.body.now
    given size c.next_block-size.new.out _
    _ _ has next.count next.block next.stands in
    let left = c.loop-left.left - c.min-left.result in
    let within : left ≤ c.args.frames = omega (arith, c.loop-left.invariant.within) in
    let now : given + block_count (source_in old) (target_in old) c.args.body.now given ≡ c.args.frames - left =
    omega (arith, c.loop-left.invariant.within, c.min-left.ensures, c.requires.count) in
    record {
      within = within;
      room = c.next_block-size.auto.out ∙ c.loop-left.invariant.room;
      has = goes-on g.B.Feeder.kept c.loop-left.conversion c.next_block-size.new.self (source_in old) (target_in old) c.args.body.now given
          (c.args.frames - left) size c.next_block-size.new.out _
          _ _ _ old.source_rate old.target_rate c.next_block-size.ensures.source c.next_block-size.ensures.target now gives
          c.in-Ok.ensures.only c.in-Ok.ensures.ok has;
    }

pub returns : goal.returns
returns g c =
    let old = c.args.conversion.now in
    let all : converted_frames (source_in old) (target_in old) c.args.body.now ≤ c.args.frames -
    c.loop-left.left = omega (arith, c.requires.count) in
    record {
      only = c.loop-left.invariant.has.only;
      ok = all-appended g.B.Feeder.kept c.loop-left.conversion (source_in old) (target_in old) c.args.body.now
          (c.args.frames - c.loop-left.left) _ _ old.source_rate old.target_rate all c.loop-left.invariant.has;
      err = tt;
    }
