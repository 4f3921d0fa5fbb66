-- The window moves on to the frames around the output, which is what its row makes of them.
use Rattle.std.proofs.Common.{◌≡◌, ◌<◌, ◌≤◌, ◌+◌, ◌-ℤ◌, ◌+ℤ◌, ◌/◌, pos, [], ◌++◌, length, get_or, ap, ◌∙◌, arith}
use Rattle.std.proofs.lemmas.List.{get_or_read}
use Rattle.pcm_feeder.specs.declared.table.Table.{Table}
use Rattle.pcm_feeder.specs.Limits.{IsTable}
use Rattle.pcm_feeder.specs.Stages.{table_at, filtered_frame}
use Rattle.pcm_feeder.specs.Streams.{frames_of, stream_of}
use Rattle.pcm_feeder.proofs.Frames.{length-frames_of}
use Rattle.pcm_feeder.proofs.Mapped.{frames-there}
use Rattle.feed_poly.specs.Rows.{row_frame}
use Rattle.feed_poly.specs.Window.{window_frames}
use Rattle.feed_poly.proofs.Outputs.{output-is, window-taps, table-there, table-has}
use Rattle.feed_poly.proofs.Windows.{eaten-on}
use Rattle.feed_poly.proofs.poly.PolyphaseInterpolator.put_frame.Goals as goal

pub returns-clause-frame : goal.returns-clause-frame
returns-clause-frame c before was =
    let poly = c.args.self.now in
    let channels = poly.window.channels in
    let taps = poly.window.taps in
    let tables = c.args.tables.now in
    let needed = c.args.point.needed in
    let point = c.args.point in
    let list = frames_of channels c.args.input.now in
    let now = window_frames c.eat.new.self in
    let filter = c.index-list-self.result in
    let row = c.of-row.result in
    let none : Table = record { src = 0; dst = 0; phases = 1; taps = 2; shift = 1; coefs = [] } in
    let there = table-there tables.list poly.table (λ table. table.taps ≡ taps) c.requires.filter in
    let below : poly.table < length c.list.result.now = omega (arith, there, ap length c.list.ensures.value) in
    let read : filter ≡ get_or c.list.result.now poly.table none = get_or_read c.list.result.now poly.table filter below
    c.index-list-self.is none in
    let found : filter ≡ table_at tables poly.table = read ∙ ap (λ tables. get_or tables poly.table none) c.list.ensures.value in
    let is : IsTable filter = rw found (c.list.ensures.limits.each poly.table none (omega (arith, there))) in
    let has : filter.taps ≡ taps = rw found (table-has tables.list poly.table (λ table. table.taps ≡ taps) none c.requires.filter) in
    let moved = eaten-on before (window_frames poly.window) now list poly.passed needed c.requires.order was c.eat.ensures.frames in
    let above : 0 < channels = omega (arith, poly.window.limits.least) in
    let within : needed ≤ length list = omega (
      arith,
      length-frames_of channels c.args.input.now,
      frames-there channels
          (length c.args.input.now) needed above c.requires.there,
    ) in
    c.put_frame.ensures
    ∙ ap (λ n. row_frame row.shift row.coefs.now n now) c.eat.ensures.channels
    ∙ output-is filter taps channels point.whole.divisor point.parts c.row_at.result row.shift needed row.coefs.now before now list is has
    (window-taps c.eat.new.self ∙ c.eat.ensures.taps) within moved
    c.row_at.ensures.value c.row_at.ensures.there c.of-row.ensures.coefs c.of-row.ensures.shift
    ∙ ap (λ table. filtered_frame table taps channels point.whole.divisor point.parts
    (λ a. stream_of channels (before ++ list) (pos (taps + needed) -ℤ pos (1 + taps / 2) +ℤ a))) found

pub returns-clause-tail : goal.returns-clause-tail
returns-clause-tail c before was =
    let poly = c.args.self.now in
    eaten-on before (window_frames poly.window) (window_frames c.eat.new.self) (frames_of poly.window.channels c.args.input.now) poly.passed
    c.args.point.needed c.requires.order was c.eat.ensures.frames
