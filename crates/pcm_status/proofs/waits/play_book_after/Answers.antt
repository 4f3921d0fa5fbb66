use Rattle.std.proofs.Common.{ℕ, ◌+◌, ◌-◌, sym, ap, ◌∙◌, subst, arith}
use Rattle.std.specs.Prelude.{ℤ}
use Rattle.pcm_rate.proofs.Counts.{need_grows}
use Rattle.pcm_desk.specs.declared.here.Here.{Here}
use Rattle.pcm_desk.specs.declared.play_book.PlayBook.{PlayBook}
use Rattle.pcm_desk.specs.Device.{mixed_for, parent_rate}
use Rattle.pcm_desk.specs.Channels.{mixing, play_rate_at}
use Rattle.pcm_desk.specs.PlayBooks.{play_settled}
use Rattle.pcm_desk.specs.PlaySafe.{PlayIsSafe}
use Rattle.pcm_desk.proofs.PlaySafe.{safe-settled}
use Rattle.pcm_desk.proofs.Ratios.{parent-ratio}
use Rattle.pcm_engine.specs.Engines.{desk_of, device_of}
use Rattle.pcm_status.proofs.Held.{play-safe}
use Rattle.pcm_status.proofs.Passing.{safe-mixing, settled-after, some-of}
use Rattle.pcm_status.proofs.waits.play_book_after.Goals as goal

pub overflow_sub-after : goal.overflow_sub-after
overflow_sub-after g c =
    let device = device_of c.args.engine.now in
    let handed = c.args.engine.now.parent.handed in
    let before = ap (λ (here : Here). here.mixed) c.here-mixed.ensures.is in
    let after = ap (λ (here : Here). here.mixed) c.here_after-after.ensures.is in
    let grows = need_grows (parent_rate device) handed (handed + c.args.frames) (parent-ratio device c.requires.ready.limits.device_is).dst
    (omega arith) in
    omega (arith, before, after, grows)

pub returns-clause-is : goal.returns-clause-is
returns-clause-is g c =
    let device = device_of c.args.engine.now in
    let desk = desk_of c.args.engine.now in
    let handed = c.args.engine.now.parent.handed in
    let rate = c.play_rate-rate.result in
    let book = c.play_book-book.result in
    let before = ap (λ (here : Here). here.mixed) c.here-mixed.ensures.is in
    let after = ap (λ (here : Here). here.mixed) c.here_after-after.ensures.is in
    let more = c.here_after-after.result.mixed - c.here-mixed.result.mixed in
    let own = c.play_rate-rate.ensures.is ∙ ap (λ (b : PlayBook). play_rate_at device b) (sym c.play_book-book.ensures.is) in
    c.settled.ensures
    ∙ ap (λ (passed : ℤ). play_settled rate passed c.book_mixed.result) (ap (λ (here : Here). here.passed) c.here_after-after.ensures.is)
    ∙ settled-after device desk c.args.frames c.args.slot more rate c.book_mixed.result (some-of c.args.frames c.if-frames-eq0.false)
    c.play_rate-rate.ensures.is
    (ap (λ (m : ℕ). m - c.here-mixed.result.mixed) after ∙ ap (λ (m : ℕ). mixed_for device (handed + c.args.frames) - m) before)
    (c.book_mixed.ensures.opening ∙ ap (λ (b : PlayBook). b.opening) c.play_book-book.ensures.is)
    (c.book_mixed.ensures.is device own
    ∙ ap (λ (m : ℕ). mixing device m more book) before
    ∙ ap (λ (b : PlayBook). mixing device (mixed_for device handed) more b) c.play_book-book.ensures.is)

pub returns-clause-fragments : goal.returns-clause-fragments
returns-clause-fragments g c =
    let device = device_of c.args.engine.now in
    let rate = c.play_rate-rate.result in
    let book = c.play_book-book.result in
    let own = c.play_rate-rate.ensures.is ∙ ap (λ (b : PlayBook). play_rate_at device b) (sym c.play_book-book.ensures.is) in
    let safe = subst (λ (r : _). PlayIsSafe r book) (sym own)
    (play-safe g.B.Feeder.kind g.B.Feeder.kept c.args.engine.now c.args.slot book c.requires.ready c.play_book-book.ensures.is) in
    let mixed = subst (PlayIsSafe rate) (sym (c.book_mixed.ensures.is device own))
    (safe-mixing device rate c.here-mixed.result.mixed (c.here_after-after.result.mixed - c.here-mixed.result.mixed) book own
    c.play_rate-rate.ensures.near.ratio safe) in
    (subst (PlayIsSafe rate) (sym c.settled.ensures)
    (safe-settled rate c.here_after-after.result.passed c.book_mixed.result mixed)).fragments
