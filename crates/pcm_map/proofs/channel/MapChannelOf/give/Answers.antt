use Rattle.std.proofs.Common.{◌≡◌, ◌≤◌, ◌+◌, ◌-◌, ◌*◌, ◌++◌, length, take, drop, sym, ap, ◌∙◌, subst, arith}
use Rattle.std.proofs.Math.Nat.{mul-le-mul_right}
use Rattle.pcm_format.specs.Layouts.{channels_of}
use Rattle.pcm_map.specs.Pieces.{MapGives}
use Rattle.pcm_map.proofs.Held.{running-held}
use Rattle.pcm_map.proofs.Pieces.{counts-left, gives-more, gives-nothing, put-behind, ready-given}
use Rattle.pcm_map.proofs.channel.MapChannelOf.give.Goals as goal

pub loop-done-init : goal.loop-done-init
loop-done-init g c = record {
  within = omega arith;
  gives = gives-nothing g.B.Feeder.kind g.B.Feeder.kept c.args.tables.now c.args.self.now c.args.frames.now
      (c.requires.ready.planned (running-held c.args.self.now.book.state c.requires.running));
}

pub give_piece-requires-clause-ready : goal.give_piece-requires-clause-ready
give_piece-requires-clause-ready g c =
    ready-given g.B.Feeder.kind g.B.Feeder.kept c.args.tables.now c.loop-done.done c.args.self.now c.loop-done.self c.loop-done.frames
    c.requires.running c.requires.ready c.loop-done.invariant.gives

pub give_piece-requires-clause-count : goal.give_piece-requires-clause-count
give_piece-requires-clause-count g c =
    counts-left g.B.Feeder.kind g.B.Feeder.kept c.args.tables.now c.loop-done.done c.min-piece.result c.args.n c.args.self.now
    c.loop-done.self c.loop-done.frames
    (c.requires.ready.planned (running-held c.args.self.now.book.state c.requires.running))
    (omega (arith, c.min-piece.ensures, c.loop-done.invariant.within)) c.loop-done.invariant.gives c.requires.count

pub loop-done-preserved : goal.loop-done-preserved
loop-done-preserved g c =
    let l = c.loop-done in
    let old = c.args.self.now in
    let size = channels_of old.path.device.mix.layout in
    let piece = c.give_piece.new.frames in
    let up = mul-le-mul_right {m = l.done} {n = c.args.n} size l.invariant.within in
    let room : l.done * size ≤ length l.frames = omega (arith, up, c.requires.room, l.auto.frames) in
    record {
      within = omega (arith, c.min-piece.ensures);
      gives = subst (MapGives g.B.Feeder.kind g.B.Feeder.kept c.args.tables.now (l.done + c.min-piece.result) old c.give_piece.new.self)
          (sym (ap (λ k. take (l.done * k) l.frames ++ (piece ++ drop (length l.frames - l.done * k) (drop (l.done * k) l.frames)))
          c.channels-channels.ensures ∙ put-behind (l.done * size) l.frames piece))
          (gives-more g.B.Feeder.kind g.B.Feeder.kept c.args.tables.now l.done c.min-piece.result old l.self c.give_piece.new.self l.frames
          piece (c.requires.ready.planned (running-held c.args.self.now.book.state c.requires.running)) l.invariant.gives
          c.give_piece.ensures.gives room);
    }

pub returns : goal.returns
returns g c =
    let l = c.loop-done in
    let all : l.done ≡ c.args.n = omega (arith, l.invariant.within) in
    record {
      gives = subst (λ k. MapGives g.B.Feeder.kind g.B.Feeder.kept c.args.tables.now k c.args.self.now l.self l.frames) all
          l.invariant.gives;
    }
