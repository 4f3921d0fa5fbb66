use Rattle.std.proofs.Common.{rules, ◌≡◌, [], true, false, refl, sym, ◌∙◌, subst}
use Rattle.pcm_oss.specs.declared.fragments.TheConstants.{RING_BYTES}
use Rattle.pcm_desk.specs.RunStates.{is_unheld}
use Rattle.pcm_desk.specs.MapSafe.{MapIsSafe}
use Rattle.pcm_oss.specs.declared.event.Way.TheVariants.{Map}
use Rattle.pcm_path.proofs.Telling.{rate-told}
use Rattle.pcm_map.proofs.Telling.{all-room, can-tell, told, told-free}
use Rattle.pcm_map.proofs.channel.MapChannelOf.tell.Goals as goal

pub tell-requires : goal.tell-requires
tell-requires g c =
    let used : is_unheld c.args.book.state ≡ false = search rules in
    can-tell g.B.Feeder.kind c.args.tables.now c.args.book c.args.past.now c.args.self.now c.requires used

pub invariant_of-self-else-is_free : goal.invariant_of-self-else-is_free
invariant_of-self-else-is_free g c =
    let t = c.tell.ensures in
    let serves = t.serves in
    let book = c.args.book in
    record {
      rates = serves.device;
      rate = c.requires.rate;
      ratio = serves.ratio;
      ring = c.set_size.ensures ∙ all-room c.tell.new.self.ring RING_BYTES t.ring serves.room;
      safe = subst (λ r. MapIsSafe r book)
          (sym (rate-told g.B.Feeder.kind g.B.Feeder.kept g.B.Feeder.mark Map c.args.tables.now book.opening [] book.eaten book.given c.args.past.now c.args.self.now.path c.tell.new.self t))
          c.requires.safe;
      size = c.args.self.now.size;
    }

pub returns-then-is_free : goal.returns-then-is_free
returns-then-is_free g c =
    let free : is_unheld c.args.book.state ≡ true = search rules in
    let begun = c.begin_run.ensures in
    told-free g.B.Feeder.kind g.B.Feeder.kept g.B.Feeder.mark c.args.tables.now c.args.past.now c.args.self.now _ free refl begun.device begun.kinds begun.marks

pub returns-else-is_free : goal.returns-else-is_free
returns-else-is_free g c =
    told g.B.Feeder.kind g.B.Feeder.kept g.B.Feeder.mark c.args.tables.now c.args.past.now c.args.self.now _ c.tell.new.self refl refl refl c.tell.ensures
