-- What a channel is that goes on where another one is.
use Rattle.std.proofs.Common.{◌≡◌, ℕ, Bool, true, false, sym, ap, ◌∙◌, subst}
use Rattle.pcm_feeder.specs.declared.kind.Kind.{Kind}
use Rattle.pcm_feeder.specs.Kept.{Kept}
use Rattle.pcm_ring.specs.Ring.{Ring}
use Rattle.pcm_oss.specs.declared.event.Way.TheVariants.{Play}
use Rattle.pcm_desk.specs.declared.play_book.PlayBook.{PlayBook}
use Rattle.pcm_desk.specs.PlayBooks.{is_play_free}
use Rattle.pcm_path.specs.declared.path.PathOf.{PathOf}
use Rattle.pcm_path.specs.Resumes.{ChannelResumes, PathResumes}
use Rattle.pcm_path.proofs.Paths.{planned-resumed}
use Rattle.pcm_play.specs.declared.channel.PlayChannelOf.{PlayChannelOf}
use Rattle.pcm_play.specs.Channels.{PlayStands, PlayStandsAs}

-- by the other's book, and with a path that goes on where the other's is, it is as far, and stands for what the other stands for
stands-resumed : {B : Type 0} (kind : B → Kind) (kept : B → Kept) (mark : B → ℕ) (held : Bool) (other new : PlayChannelOf B) (old : PathOf B) → (is_play_free other.book.state ≡ false → held ≡ true)
    → other.path.device ≡ old.device → new.book ≡ other.book → PathResumes kind kept mark held other.path old new.path → PlayStandsAs kept other new
stands-resumed kind kept mark held other new old taken device book r = record {
  book = book;
  planned = λ filters served used.
      let busy = sym (ap (λ (b : PlayBook). is_play_free b.state) book) ∙ used in
      planned-resumed kind kept mark held Play filters _ _ other.path old new.path (taken busy) device (ap (λ (b : PlayBook). b.opening.settings) book) r (served busy);
  far = λ filters f. record {
    zeros = f.zeros;
    chain_is = rw book (λ used. (r.goes (taken used)).far filters other.book.eaten f.zeros other.book.given (f.chain_is used));
    ended = rw book f.ended;
  };
  stands = λ filters bytes s. subst (λ (b : PlayBook). PlayStands kept filters new b bytes) (sym book) (record {
    book_is = book;
    count = s.count;
    ring_is = ap (λ (ring : Ring). ring.bytes) r.ring ∙ s.ring_is;
    zeros = s.zeros;
    chain_is = λ used. (r.goes (taken used)).stands filters _ s.zeros other.book.given (s.chain_is used);
    ended = s.ended;
  });
}

-- and is of its device and has its boxes still
pub resumed : {B : Type 0} (kind : B → Kind) (kept : B → Kept) (mark : B → ℕ) (held : Bool) (other old new : PlayChannelOf B) → (is_play_free other.book.state ≡ false → held ≡ true) → other.path.device ≡ old.path.device → new.book ≡ other.book
    → PathResumes kind kept mark held other.path old.path new.path → ChannelResumes (λ channel. channel.path) (PlayStandsAs kept) kind mark other old new
resumed kind kept mark held other old new taken device book r = record { device_same = r.device; kinds = r.kinds; marks = r.marks; stands = stands-resumed kind kept mark held other new old.path taken device book r }
