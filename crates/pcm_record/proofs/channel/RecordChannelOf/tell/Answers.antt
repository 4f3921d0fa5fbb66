use Rattle.std.proofs.Common.{rules, ◌≡◌, true, false, sym, subst}
use Rattle.pcm_desk.specs.RunStates.{is_unheld}
use Rattle.pcm_desk.specs.RecordSafe.{RecordIsSafe}
use Rattle.pcm_oss.specs.declared.event.Way.TheVariants.{Record}
use Rattle.pcm_path.proofs.Telling.{rate-told}
use Rattle.pcm_record.proofs.Telling.{can-tell, told, told-free}
use Rattle.pcm_record.proofs.channel.RecordChannelOf.tell.Goals as goal

pub tell-requires : goal.tell-requires
tell-requires g c =
    let used : is_unheld c.args.book.state ≡ false = search rules in
    can-tell g.B.Feeder.kind c.args.tables.now c.args.book c.args.waiting.now c.args.past.now c.args.self.now c.requires used

pub invariant_of-self-else-is_free-clause-safe : goal.invariant_of-self-else-is_free-clause-safe
invariant_of-self-else-is_free-clause-safe g c =
    let book = c.args.book in
    subst (λ r. RecordIsSafe r book)
    (sym (rate-told g.B.Feeder.kind g.B.Feeder.kept g.B.Feeder.mark Record c.args.tables.now book.opening c.args.waiting.now book.captured book.given c.args.past.now c.args.self.now.path c.tell.new.self c.tell.ensures))
    c.requires.safe

pub returns-then-is_free : goal.returns-then-is_free
returns-then-is_free g c =
    let free : is_unheld c.args.book.state ≡ true = search rules in
    told-free g.B.Feeder.kind g.B.Feeder.kept g.B.Feeder.mark c.args.tables.now c.args.waiting.now c.args.past.now c.args.self.now _ free c.requires.waiting c.begin.ensures

pub returns-else-is_free : goal.returns-else-is_free
returns-else-is_free g c =
    told g.B.Feeder.kind g.B.Feeder.kept g.B.Feeder.mark c.args.tables.now c.args.waiting.now c.args.past.now c.args.self.now _ c.tell.ensures
