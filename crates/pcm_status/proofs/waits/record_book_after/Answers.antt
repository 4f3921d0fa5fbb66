use Rattle.std.proofs.Common.{◌+◌, ◌*◌, ◌<◌, ◌^◌, get_or, refl, sym, ap, ◌∙◌, subst, arith}
use Rattle.pcm_rate.specs.declared.rate.Rate.{Rate}
use Rattle.pcm_sequence.proofs.Items.{items-count}
use Rattle.pcm_feeder.specs.Limits.{IsRate}
use Rattle.pcm_format.specs.Frames.{frame_bytes}
use Rattle.pcm_bus.proofs.Channels.{some_channel}
use Rattle.pcm_desk.specs.declared.record_book.RecordBook.{RecordBook}
use Rattle.pcm_desk.specs.Channels.{record_rate_at}
use Rattle.pcm_desk.specs.Desk.{record_at}
use Rattle.pcm_desk.specs.RecordBooks.{captured, coming, keeping}
use Rattle.pcm_desk.proofs.Ratios.{record-few}
use Rattle.pcm_record.proofs.Capturing.{given-most, kept-most}
use Rattle.pcm_vchan.specs.Parents.{record_channels}
use Rattle.pcm_engine.specs.Engines.{desk_of, device_of}
use Rattle.pcm_engine.proofs.Recording.{record_at-books}
use Rattle.pcm_status.proofs.Held.{record-safe}
use Rattle.pcm_status.proofs.Passing.{captured-after, some-of}
use Rattle.pcm_status.proofs.waits.record_book_after.Goals as goal

pub captured-requires : goal.captured-requires
captured-requires g c =
    let engine = c.args.engine.now in
    let device = device_of engine in
    let desk = desk_of engine in
    let book = c.record_book-book.result in
    let n = c.args.frames in
    let recorders = record_channels engine.parent in
    let limits = c.requires.ready.limits.device_is in
    let slots = engine.parent.recorders_count in
    let within = c.requires.there in
    let there : c.args.slot < _ = omega (arith, within, slots, items-count engine.parent.recorders) in
    let channel = some_channel recorders c.args.slot there in
    let found = get_or recorders c.args.slot channel in
    let client : IsRate book.opening.settings.rate =
    subst (λ (b : RecordBook). IsRate b.opening.settings.rate)
    (sym (c.record_book-book.ensures.is ∙ record_at-books device desk recorders c.args.slot channel refl there)) found.serves.rate in
    let own = c.record_rate.ensures.is ∙ ap (λ (b : RecordBook). record_rate_at device b) (sym c.record_book-book.ensures.is) in
    let safe = record-safe g.B.Feeder.kind g.B.Feeder.kept engine c.args.slot book c.requires.ready c.record_book-book.ensures.is in
    let few = c.ranges.frames in
    let captured = c.record_book-book.ensures.captured in
    let kept = c.record_book-book.ensures.kept in
    let most = record-few device book.opening.settings (book.captured + n) limits client in
    let given = given-most device n book limits client safe (omega (arith, most, captured, few)) in
    let bytes = kept-most device n book (sym c.if-not-is_running.ensures) safe in
    record {
      keeps = record {
        ratio = c.record_rate.ensures.near.ratio;
        captured = omega (arith, captured, few);
        read = safe.read;
        fill = safe.fill;
        fragments = safe.fragments;
      };
      given = subst (λ (rate : Rate). book.given + coming rate n book < 2 ^ 64) (sym own) given;
      kept = subst (λ (rate : Rate). book.kept + keeping rate n book * frame_bytes book.opening.settings < 2 ^ 64) (sym own)
          (omega (arith, bytes, kept));
    }

pub returns : goal.returns
returns g c =
    let device = device_of c.args.engine.now in
    let desk = desk_of c.args.engine.now in
    c.captured.ensures
    ∙ ap (λ (rate : Rate). captured rate c.args.frames c.record_book-book.result) c.record_rate.ensures.is
    ∙ ap (λ (book : RecordBook). captured (record_rate_at device (record_at device desk c.args.slot)) c.args.frames book)
    c.record_book-book.ensures.is
    ∙ captured-after device desk c.args.frames c.args.slot (some-of c.args.frames c.if-frames-eq0.false)
