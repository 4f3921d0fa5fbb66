-- What a channel is that goes on where another one is.
use Rattle.std.proofs.Common.{◌≡◌, ℕ, Bool, true, false, inl, inr, sym, ap, ◌∙◌, subst}
use Rattle.std.proofs.lemmas.Bool.{cases_Bool}
use Rattle.pcm_feeder.specs.declared.kind.Kind.{Kind}
use Rattle.pcm_feeder.specs.Kept.{Kept}
use Rattle.pcm_oss.specs.declared.event.Way.TheVariants.{Record}
use Rattle.pcm_ring.specs.Ring.{Ring}
use Rattle.pcm_rate.specs.Rates.{can}
use Rattle.pcm_chain.specs.Chains.{plan_in}
use Rattle.pcm_chain.specs.Far.{ChainIsSoFar}
use Rattle.pcm_chain.specs.Pushes.{HasRecordedFar}
use Rattle.pcm_plan.specs.Plans.{PlanSeen, rate_in_plan}
use Rattle.pcm_desk.specs.declared.record_book.RecordBook.{RecordBook}
use Rattle.pcm_desk.specs.RunStates.{is_unheld}
use Rattle.pcm_desk.specs.RecordSafe.{RecordIsSafe}
use Rattle.pcm_path.specs.declared.path.PathOf.{PathOf}
use Rattle.pcm_path.specs.Paths.{path_rate}
use Rattle.pcm_path.specs.Resumes.{ChannelResumes, PathResumes}
use Rattle.pcm_path.proofs.Paths.{planned-resumed}
use Rattle.pcm_record.specs.declared.channel.RecordChannelOf.{RecordChannelOf}
use Rattle.pcm_record.specs.Channels.{RecordStands, RecordStandsAs}
use Rattle.pcm_record.proofs.Held.{safe-any}

-- its book is safe at the rate of its chain: at the other's unless it is free, and at every rate if it is
pub safe-resumed : {B : Type 0} (kind : B → Kind) (kept : B → Kept) (mark : B → ℕ) (held : Bool) (other : RecordChannelOf B) (old new : PathOf B) → (is_unheld other.book.state ≡ false → held ≡ true)
    → PathResumes kind kept mark held other.path old new → RecordIsSafe (path_rate new) other.book
safe-resumed kind kept mark held other old new taken r =
    elim (cases_Bool (is_unheld other.book.state)) [
      | inl free ↦ safe-any (path_rate other.path) (path_rate new) other.book free other.safe
      | inr used ↦ subst (λ (p : PlanSeen). RecordIsSafe (rate_in_plan p) other.book) (sym (r.goes (taken used)).plan) other.safe
    ]

-- by the other's book, and with a path that goes on where the other's is, it stands for what the other stands for
stands-resumed : {B : Type 0} (kind : B → Kind) (kept : B → Kept) (mark : B → ℕ) (held : Bool) (other new : RecordChannelOf B) (old : PathOf B) → (is_unheld other.book.state ≡ false → held ≡ true)
    → other.path.device ≡ old.device → new.book ≡ other.book → PathResumes kind kept mark held other.path old new.path → RecordStandsAs kept other new
stands-resumed kind kept mark held other new old taken device book r = record {
  book = book;
  planned = λ filters served used.
      let busy = sym (ap (λ (b : RecordBook). is_unheld b.state) book) ∙ used in
      planned-resumed kind kept mark held Record filters _ _ other.path old new.path (taken busy) device (ap (λ (b : RecordBook). b.opening.settings) book) r (served busy);
  far = λ filters far used.
      let busy = sym (ap (λ (b : RecordBook). is_unheld b.state) book) ∙ used in
      let goes = r.goes (taken busy) in
      subst (λ (b : RecordBook). HasRecordedFar kept filters new.path.chain b.captured) (sym book)
      (subst (λ (p : PlanSeen). ChainIsSoFar kept filters new.path.chain other.book.captured 0 (can (rate_in_plan p) other.book.captured)) (sym goes.plan)
      (goes.far filters other.book.captured 0 (can (rate_in_plan (plan_in other.path.chain)) other.book.captured) (far busy)));
  stands = λ filters bytes frames s. subst (λ (b : RecordBook). RecordStands kept filters new b bytes frames) (sym book) (record {
    book_is = book;
    count = s.count;
    ring_is = ap (λ (ring : Ring). ring.bytes) r.ring ∙ s.ring_is;
    captured = s.captured;
    bits = s.bits;
    records = λ used. (r.goes (taken used)).records filters frames (s.records used);
  });
}

-- and is of its device and has its boxes still
pub resumed : {B : Type 0} (kind : B → Kind) (kept : B → Kept) (mark : B → ℕ) (held : Bool) (other old new : RecordChannelOf B) → (is_unheld other.book.state ≡ false → held ≡ true) → other.path.device ≡ old.path.device → new.book ≡ other.book
    → PathResumes kind kept mark held other.path old.path new.path → ChannelResumes (λ channel. channel.path) (RecordStandsAs kept) kind mark other old new
resumed kind kept mark held other old new taken device book r = record { device_same = r.device; kinds = r.kinds; marks = r.marks; stands = stands-resumed kind kept mark held other new old.path taken device book r }
