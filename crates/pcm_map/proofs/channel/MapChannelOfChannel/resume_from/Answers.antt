use Rattle.std.proofs.Common.{◌≡◌, not, take, refl, ap, ◌∙◌, subst}
use Rattle.pcm_sequence.proofs.Items.{items-written}
use Rattle.pcm_desk.specs.Openings.{ring_bytes}
use Rattle.pcm_path.proofs.Paths.{ratio-resumed}
use Rattle.pcm_map.proofs.Resuming.{resumed, safe-resumed}
use Rattle.pcm_map.proofs.channel.MapChannelOfChannel.resume_from.Goals as goal

pub invariant_of-self-clause-ratio : goal.invariant_of-self-clause-ratio
invariant_of-self-clause-ratio g c =
    ratio-resumed g.B.Feeder.kind g.B.Feeder.kept g.B.Feeder.mark _ c.args.other.now.path c.args.self.now.path c.resume_from.new.self
    c.resume_from.ensures c.args.self.now.ratio c.args.other.now.ratio

pub invariant_of-self-clause-safe : goal.invariant_of-self-clause-safe
invariant_of-self-clause-safe g c =
    safe-resumed g.B.Feeder.kind g.B.Feeder.kept g.B.Feeder.mark _ c.args.other.now c.args.self.now.path c.resume_from.new.self
    (λ used. ap not (c.is_free.ensures ∙ used)) c.resume_from.ensures

pub returns : goal.returns
returns g c =
    let old = c.args.self.now in
    let other = c.args.other.now in
    let size = ring_bytes other.book.opening in
    resumed g.B.Feeder.kind g.B.Feeder.kept g.B.Feeder.mark _ other old _ (λ used. ap not (c.is_free.ensures ∙ used)) c.requires.device refl
    c.resume_from.ensures
    (ap (take size) (items-written old.area c.copy_front.new.area (c.copy_front.auto.area ∙ c.deref_mut.ensures.len))
    ∙ subst (λ n. take n c.copy_front.new.area ≡ take n c.deref.result.now) c.size-size.ensures c.copy_front.ensures
    ∙ ap (take size) c.deref.ensures.value)
