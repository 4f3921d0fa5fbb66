use Rattle.std.proofs.Common.{rules, ◌≡◌, ◌+◌, sym, ap, ◌∙◌, subst, refl, length, take, arith, length-append, length-take}
use Rattle.std.proofs.lemmas.Grind.{common_steps}
use Rattle.pcm_ring.specs.Ring.{Ring}
use Rattle.pcm_desk.specs.declared.play_book.PlayBook.{PlayBook}
use Rattle.pcm_plan.specs.Plans.{rate_in_plan}
use Rattle.pcm_chain.specs.Chains.{plan_in}
use Rattle.pcm_desk.specs.PlayBooks.{accepting, play_fill_of}
use Rattle.pcm_path.proofs.Paths.{serves-as}
use Rattle.pcm_desk.proofs.PlayLeaves.{accepting-adds}
use Rattle.pcm_desk.proofs.PlaySafe.{safe-accepting, undrained}
use Rattle.pcm_sound.proofs.Slots.{accepts}
use Rattle.pcm_desk.specs.PlaySafe.{PlayIsSafe}
use Rattle.pcm_play.proofs.Held.{taking-held}
use Rattle.pcm_play.proofs.Moving.{fill_of-accepting, within-accepting, moves-nothing, moves-taking, takes-written}
use Rattle.pcm_play.proofs.channel.PlayChannelOf.write.Goals as goal

pub invariant_of-self : goal.invariant_of-self
invariant_of-self g c =
    let old = c.args.self.now in
    let accepted = c.put.result in
    let count = c.put.ensures.count in
    let written = takes-written old c.args.here (length c.args.bytes.now) accepted c.write-turn.result c.in_ok-answer.answer
    c.write-turn.ensures c.in_ok-answer.was count in
    let is : c.write-turn.result.book ≡ accepting c.args.here.mixed accepted old.book = written.is in
    let a = accepts c.args.here.mixed accepted old.book in
    let settings : c.write-turn.result.book.opening.settings ≡ old.book.opening.settings = ap (λ (b : PlayBook). b.opening.settings) is
    ∙ a.settings in
    let fragments : c.write-turn.result.book.opening.fragments ≡ old.book.opening.fragments = ap (λ (b : PlayBook). b.opening.fragments) is
    ∙ (accepting-adds c.args.here.mixed accepted old.book).fragments in
    let length_is : length c.put.new.self.bytes ≡ length old.path.ring.bytes + accepted =
    ap (λ (ring : Ring). length ring.bytes) c.put.ensures.kept
    ∙ omega (arith, length-append old.path.ring.bytes (take accepted c.args.bytes.now), length-take accepted c.args.bytes.now) in
    record {
      serves = serves-as old.book.opening c.write-turn.result.book.opening old.path (record old.path { ring = c.put.new.self }) _ refl refl
          c.put.ensures.kept settings fragments old.serves;
      fill = length_is ∙ ap (λ n. n + accepted) old.fill ∙ sym (fill_of-accepting c.args.here.mixed accepted old.book old.within)
          ∙ sym (ap play_fill_of is);
      within = rw is (within-accepting c.args.here.mixed accepted old.book old.within);
      safe = subst (PlayIsSafe (rate_in_plan (plan_in old.path.chain))) (sym is)
          (safe-accepting (rate_in_plan (plan_in old.path.chain)) c.args.here.mixed accepted old.book old.serves.ratio written.more
          (let size = old.serves.size in let fill = old.fill in omega (arith, count)) old.safe);
    }

pub returns : goal.returns
returns g c = record {
  book = search rules;
  reply = search rules;
  device = refl;
  refused = search rules;
  moves = λ filters.
      let old = c.args.self.now in
      let count = c.put.ensures.count in
      let written = takes-written old c.args.here (length c.args.bytes.now) c.put.result c.write-turn.result c.in_ok-answer.answer
      c.write-turn.ensures c.in_ok-answer.was count in
      moves-taking g.B.Feeder.kind g.B.Feeder.kept filters c.args.bytes.now c.args.here.mixed c.put.result old _ refl refl
      (ap (λ (ring : Ring). ring.bytes) c.put.ensures.kept) written.is
      (omega (arith, count)) (let size = old.serves.size in omega (arith, count, size, old.safe.fragments.fits))
      (undrained old.book.state written.more) (taking-held old.book.state written.more) old.within;
}

pub returns-in_err-answer : goal.returns-in_err-answer
returns-in_err-answer g c =
    record {
      book = grind (arith, common_steps);
      reply = search rules;
      device = refl;
      refused = search rules;
      moves =
          λ filters. moves-nothing g.B.Feeder.kind g.B.Feeder.kept filters c.args.bytes.now 0 c.args.self.now;
    }
