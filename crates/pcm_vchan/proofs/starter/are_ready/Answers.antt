use Rattle.std.proofs.Common.{ℕ, Bool, drop, ◌+◌, sym, ap, ◌∙◌, arith}
use Rattle.std.specs.Prelude.{eqb, ◌&&◌, ◌||◌, not}
use Rattle.std.proofs.lemmas.List.{length-map}
use Rattle.pcm_group.specs.Groups.{all_in}
use Rattle.pcm_desk.specs.PlayBooks.{play_is_ready}
use Rattle.pcm_play.specs.declared.channel.PlayChannelOf.{PlayChannelOf}
use Rattle.pcm_bus.specs.Slots.{play_books_of}
use Rattle.pcm_vchan.proofs.Starting.{ready-end, ready-step}
use Rattle.pcm_vchan.proofs.starter.are_ready.Goals as goal

pub returns-then-not-is_ready_if : goal.returns-then-not-is_ready_if
returns-then-not-is_ready_if g c =
    let i = c.loop-slot.slot in
    let channel = c.index-channels-slot.result in
    let rest : Bool = all_in c.args.group play_is_ready (drop (i + 1) c.args.groups.now.play)
    (drop (i + 1) (play_books_of c.args.channels.now)) in
    let tested = c.is_ready_if.ensures ∙ ap (λ (k : ℕ). not (eqb k c.args.group) || play_is_ready channel.book) c.of.ensures in
    sym (sym c.loop-slot.invariant ∙ ready-step c.args.group c.args.groups.now.play c.args.channels.now i channel c.requires.some
    c.loop-slot-test.true c.index-channels-slot.is
    ∙ ap (λ (b : Bool). b && rest) (sym tested ∙ c.if-not-is_ready_if.true))

pub loop-slot-preserved : goal.loop-slot-preserved
loop-slot-preserved g c =
    let i = c.loop-slot.slot in
    let channel = c.index-channels-slot.result in
    let rest : Bool = all_in c.args.group play_is_ready (drop (i + 1) c.args.groups.now.play)
    (drop (i + 1) (play_books_of c.args.channels.now)) in
    let tested = c.is_ready_if.ensures ∙ ap (λ (k : ℕ). not (eqb k c.args.group) || play_is_ready channel.book) c.of.ensures in
    sym (sym c.loop-slot.invariant ∙ ready-step c.args.group c.args.groups.now.play c.args.channels.now i channel c.requires.some
    c.loop-slot-test.true c.index-channels-slot.is
    ∙ ap (λ (b : Bool). b && rest) (sym tested ∙ c.if-not-is_ready_if.false))

pub returns : goal.returns
returns g c =
    sym (sym c.loop-slot.invariant
    ∙ ready-end c.args.group c.loop-slot.slot c.args.groups.now.play (play_books_of c.args.channels.now)
    (omega (arith, c.loop-slot-test.false, length-map c.args.channels.now (λ (channel : PlayChannelOf _). channel.book))))
