-- What a channel is that goes on where another one is.
use Rattle.std.proofs.Common.{◌≡◌, ℕ, Bool, true, false, inl, inr, sym, ap, ◌∙◌, subst}
use Rattle.std.proofs.lemmas.Bool.{cases_Bool}
use Rattle.pcm_feeder.specs.declared.kind.Kind.{Kind}
use Rattle.pcm_feeder.specs.Kept.{Kept}
use Rattle.pcm_chain.specs.Far.{ChainIsSoFar}
use Rattle.pcm_oss.specs.declared.event.Way.TheVariants.{Map}
use Rattle.pcm_plan.specs.Plans.{PlanSeen, rate_in_plan}
use Rattle.pcm_desk.specs.declared.map_book.MapBook.{MapBook}
use Rattle.pcm_desk.specs.RunStates.{is_unheld}
use Rattle.pcm_desk.specs.MapSafe.{MapIsSafe}
use Rattle.pcm_path.specs.declared.path.PathOf.{PathOf}
use Rattle.pcm_path.specs.Paths.{path_rate}
use Rattle.pcm_path.specs.Resumes.{ChannelResumes, PathResumes}
use Rattle.pcm_path.proofs.Paths.{planned-resumed}
use Rattle.pcm_map.specs.declared.channel.MapChannelOf.{MapChannelOf}
use Rattle.pcm_map.specs.Channels.{area_of, MapStands, MapStandsAs}
use Rattle.pcm_map.proofs.Held.{safe-any}

-- its book is safe at the rate of its chain: at the other's unless it is free, and at every rate if it is
pub safe-resumed : {B : Type 0} (kind : B → Kind) (kept : B → Kept) (mark : B → ℕ) (held : Bool) (other : MapChannelOf B) (old new : PathOf B) → (is_unheld other.book.state ≡ false → held ≡ true)
    → PathResumes kind kept mark held other.path old new → MapIsSafe (path_rate new) other.book
safe-resumed kind kept mark held other old new taken r =
    elim (cases_Bool (is_unheld other.book.state)) [
      | inl free ↦ safe-any (path_rate other.path) (path_rate new) other.book free other.safe
      | inr used ↦ subst (λ (p : PlanSeen). MapIsSafe (rate_in_plan p) other.book) (sym (r.goes (taken used)).plan) other.safe
    ]

-- by the other's book, with its area and a path that goes on where the other's is, it stands for what the other stands for
stands-resumed : {B : Type 0} (kind : B → Kind) (kept : B → Kept) (mark : B → ℕ) (held : Bool) (other new : MapChannelOf B) (old : PathOf B) → (is_unheld other.book.state ≡ false → held ≡ true)
    → other.path.device ≡ old.device → new.book ≡ other.book → PathResumes kind kept mark held other.path old new.path → area_of new ≡ area_of other → MapStandsAs kept other new
stands-resumed kind kept mark held other new old taken device book r area = record {
  book = book;
  area = area;
  planned = λ filters served used.
      let busy = sym (ap (λ (b : MapBook). is_unheld b.state) book) ∙ used in
      planned-resumed kind kept mark held Map filters _ _ other.path old new.path (taken busy) device (ap (λ (b : MapBook). b.opening.settings) book) r (served busy);
  far = λ filters far used.
      let busy = sym (ap (λ (b : MapBook). is_unheld b.state) book) ∙ used in
      subst (λ (b : MapBook). ChainIsSoFar kept filters new.path.chain b.eaten 0 b.given) (sym book)
      ((r.goes (taken busy)).far filters other.book.eaten 0 other.book.given (far busy));
  stands = λ filters bytes s. subst (λ (b : MapBook). MapStands kept filters new b bytes) (sym book) (record {
    book_is = book;
    count = s.count;
    chain_is = λ used. (r.goes (taken used)).stands filters _ 0 other.book.given (s.chain_is used);
  });
}

-- and is of its device and has its boxes still
pub resumed : {B : Type 0} (kind : B → Kind) (kept : B → Kept) (mark : B → ℕ) (held : Bool) (other old new : MapChannelOf B) → (is_unheld other.book.state ≡ false → held ≡ true) → other.path.device ≡ old.path.device → new.book ≡ other.book
    → PathResumes kind kept mark held other.path old.path new.path → area_of new ≡ area_of other → ChannelResumes (λ channel. channel.path) (MapStandsAs kept) kind mark other old new
resumed kind kept mark held other old new taken device book r area = record { device_same = r.device; kinds = r.kinds; marks = r.marks; stands = stands-resumed kind kept mark held other new old.path taken device book r area }
