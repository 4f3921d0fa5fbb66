use Rattle.std.proofs.Common.{Bool, get_or, sym, ◌∙◌, subst}
use Rattle.pcm_desk.proofs.Grouping.{is-other, is-this}
use Rattle.pcm_vchan.specs.Starts.{Starts, is_in}
use Rattle.pcm_vchan.proofs.Starting.{starts-none}
use Rattle.pcm_vchan.proofs.starter.GroupStartVisitPlayChannelOf.visit.Goals as goal

pub returns-then-of-self : goal.returns-then-of-self
returns-then-of-self g c =
    let start = c.args.self.now in
    subst (λ (member : Bool). Starts g.B.Feeder.kind g.B.Feeder.kept start.tables.now start.here member c.args.channel.now
    c.start.new.channel)
    (sym (is-this (get_or start.groups.now.play c.args.slot 0) start.group (sym c.of.ensures ∙ c.if-of-self.true))) c.start.ensures.started

pub returns-else-of-self : goal.returns-else-of-self
returns-else-of-self g c =
    let start = c.args.self.now in
    starts-none g.B.Feeder.kind g.B.Feeder.kept start.tables.now start.here (is_in start.groups.now.play start.group c.args.slot)
    c.args.channel.now
    (is-other (get_or start.groups.now.play c.args.slot 0) start.group (λ same. c.if-of-self.false (c.of.ensures ∙ same)))
