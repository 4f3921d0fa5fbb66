-- What the calls on a channel move, from what they leave of its book, its ring and its chain.
use Rattle.std.proofs.Common.{◌≡◌, ℕ, ℤ, ◌+◌, ◌-◌, ◌*◌, ◌≤◌, min, false, Ok, List, [], ◌++◌, length, take, length-take, refl, sym, ap, ◌∙◌, subst, inl, inr, arith}
use Rattle.std.proofs.Math.Seq.{take-append-add}
use Rattle.std.proofs.lemmas.Bool.{cases_Bool}
use Rattle.std.proofs.lemmas.List.{take_at}
use Rattle.pcm_format.specs.Frames.{frame_bytes, whole_frames}
use Rattle.pcm_format.proofs.Whole.{frames_there}
use Rattle.pcm_feeder.specs.declared.kind.Kind.{Kind}
use Rattle.pcm_feeder.specs.Filters.{Filters}
use Rattle.pcm_feeder.specs.Kept.{Kept}
use Rattle.pcm_feeder.specs.Racks.{HaveKinds}
use Rattle.pcm_oss.specs.declared.fragments.TheConstants.{RING_BYTES}
use Rattle.pcm_oss.specs.declared.request.Request.{Request}
use Rattle.pcm_rate.specs.declared.rate.Rate.{Rate}
use Rattle.pcm_rate.specs.Rates.{IsRatio}
use Rattle.pcm_plan.specs.Plans.{PlanSeen, rate_in_plan}
use Rattle.pcm_chain.specs.Chains.{boxes_in, plan_in}
use Rattle.pcm_path.specs.Paths.{IsEmpty, path_rate}
use Rattle.pcm_oss.specs.declared.event.Way.TheVariants.{Play}
use Rattle.pcm_path.proofs.Paths.{device-served, planned-as}
use Rattle.pcm_desk.specs.declared.here.Here.{Here}
use Rattle.pcm_desk.specs.declared.play_book.PlayBook.{PlayBook}
use Rattle.pcm_desk.specs.Device.{DeviceSeen, IsDevice, seen}
use Rattle.pcm_desk.specs.Channels.{asking, closing, play_rate_at}
use Rattle.pcm_desk.specs.Openings.{ring_bytes}
use Rattle.pcm_desk.specs.PlayBooks.{accepting, close_turn, is_draining, is_play_free, play_fill_of, play_free_of, play_settled, takes_none, write_turn}
use Rattle.pcm_desk.proofs.Refused.{write-done}
use Rattle.pcm_ring.specs.Ring.{free_bytes}
use Rattle.pcm_oss.specs.declared.reply.Answer.{Answer}
use Rattle.pcm_desk.specs.declared.turn.Turn.{Turn}
use Rattle.pcm_desk.specs.PlayRequests.{play_ask}
use Rattle.pcm_desk.specs.PlaySafe.{PlayIsHere, PlayIsSafe}
use Rattle.pcm_desk.proofs.PlaySafe.{none-written, safe-close, safe-settled}
use Rattle.pcm_desk.proofs.PlayLeaves.{Keeps, Leaves, Stays, accepting-adds, ask-leaves, close-keeps, close-leaves, settle-keeps, settle-leaves}
use Rattle.pcm_sound.proofs.Slots.{accepts}
use Rattle.pcm_sound.proofs.Rates.{ask-rate}
use Rattle.pcm_sound.proofs.Stories.{IsSafeAt, safe-asking}
use Rattle.pcm_feeder.specs.Limits.{IsRate}
use Rattle.pcm_format.specs.declared.settings.Settings.{Settings}
use Rattle.pcm_play.specs.declared.channel.PlayChannelOf.{PlayChannelOf}
use Rattle.pcm_play.specs.Channels.{IsPlayHere, PlayStands, IsPlayPlanned, IsPlayServed, PlayMoves}
use Rattle.pcm_sound.proofs.Sounding.{frames-front}
use Rattle.pcm_play.proofs.Held.{ask-any, close-any, here-any, safe-any, written-held}
use Rattle.pcm_desk.proofs.PlaySafeAsking.{safe-ask}
use Rattle.pcm_play.proofs.Stands.{play-far, far-state, far-taking, stands-taking, stands-empty, stands-state, nothing-more}

-- a channel that stays stands for what it stood for
pub moves-nothing : {B : Type 0} (kind : B → Kind) (kept : B → Kept) (filters : Filters) (more : List ℕ) (frames : ℕ) (channel : PlayChannelOf B) → PlayMoves kind kept filters more frames channel channel
moves-nothing kind kept filters more frames channel = record {
  kinds = λ h. h;
  planned = λ p. p;
  far = λ f. f;
  stands = λ bytes s. subst (PlayStands kept filters channel channel.book) (sym (take_at bytes more channel.book.written s.count)) s;
  written = omega arith;
  counted = omega arith;
  grown = omega arith;
  given = omega arith;
}

-- a channel that begins, or whose run is over
pub moves-ended : {B : Type 0} (kind : B → Kind) (kept : B → Kept) (filters : Filters) (more : List ℕ) (frames : ℕ) (old new : PlayChannelOf B) → HaveKinds kind (boxes_in new.path.chain) → (IsPlayServed filters old → IsPlayServed filters new) → new.book.written ≡ 0 → new.book.eaten ≡ 0 → new.book.given ≡ 0
    → IsEmpty kept new.path → new.book.done ≤ old.book.done + old.book.written → PlayMoves kind kept filters more frames old new
moves-ended kind kept filters more frames old new kinds planned written eaten given empty done = record {
  kinds = λ h. kinds;
  planned = planned;
  far = λ f. play-far kept filters new [] (stands-empty kept filters new written eaten given empty);
  stands = λ bytes s. subst (PlayStands kept filters new new.book) (sym (ap (λ n. take n (bytes ++ more)) written)) (stands-empty kept filters new written eaten given empty);
  written = omega (arith, written);
  counted = omega (arith, written, done);
  grown = omega (arith, written, done);
  given = omega (arith, given);
}

-- a book that counts no bytes counts nothing
pub ended : (rate : Rate) (book : PlayBook) → IsRatio rate → PlayIsSafe rate book → book.written ≡ 0 → (book.eaten ≡ 0) × (book.given ≡ 0) × (book.eaten * frame_bytes book.opening.settings ≤ book.written) × (0 ≡ play_fill_of book)
ended rate book ratio safe written =
    let none = none-written rate book ratio written safe in
    let eaten = none.eaten_none in
    let product : book.eaten * frame_bytes book.opening.settings ≡ 0 = ap (λ n. n * frame_bytes book.opening.settings) eaten ∙ (let zero : 0 * frame_bytes book.opening.settings ≡ 0 = omega arith in zero) in
    (eaten, none.given_none, omega arith, omega arith)

-- a channel whose state alone changed
pub moves-state : {B : Type 0} (kind : B → Kind) (kept : B → Kept) (filters : Filters) (old new : PlayChannelOf B) → new.path.device ≡ old.path.device → new.path.chain ≡ old.path.chain → new.path.ring.bytes ≡ old.path.ring.bytes → Stays old.book new.book → (new.book.written ≡ 0 → ⊥) → PlayMoves kind kept filters [] 0 old new
moves-state {B = B} kind kept filters old new device chain ring st some = record {
  kinds = λ h. rw chain h;
  planned = λ p used. planned-as Play filters _ _ old.path new.path device (ap plan_in chain) st.settings (p held);
  far = far-state kept filters old new chain st held;
  stands = λ bytes s. subst (PlayStands kept filters new new.book) (sym (nothing-more new.book.written bytes (s.count ∙ sym st.written)))
      (stands-state kept filters old new bytes chain ring st held s);
  written = omega (arith, st.written);
  counted = omega (arith, st.written, st.done);
  grown = omega (arith, st.written, st.done);
  given = omega (arith, st.given);
}
  where
    held : is_play_free old.book.state ≡ false
    held = written-held (path_rate old.path) old.book old.safe (λ none. some (st.written ∙ none))

-- what a close or a request leaves of a book whose rate is then this one
pub record Left (now : Rate) (old new : PlayBook) : Type 0 where
  pub rate : IsRate new.opening.settings.rate
  pub safe : PlayIsSafe now new
  -- where no bytes are counted, nothing is
  pub ended : new.written ≡ 0 → (new.eaten ≡ 0) × (new.given ≡ 0) × (new.eaten * frame_bytes new.opening.settings ≤ new.written) × (0 ≡ play_fill_of new)
  pub done : new.written ≡ 0 → new.done ≤ old.done + old.written
  -- where some are, the counts are the old ones
  pub goes : (new.written ≡ 0 → ⊥) → Stays old new

leaves_left : (now : Rate) (old new : PlayBook) → IsRatio now → IsRate new.opening.settings.rate → PlayIsSafe now new → Leaves old new → Left now old new
leaves_left now old new ratio rate safe leaves = record {
  rate = rate;
  safe = safe;
  ended = ended now new ratio safe;
  done = λ none. elim leaves.counts [ inl kept ↦ omega (arith, kept.done) | inr over ↦ over.done ];
  goes = λ some. elim leaves.counts [ inl kept ↦ kept | inr over ↦ absurd (some over.written) ];
}

-- a close or a hand-over, which leave settings and fragments besides
pub record Closed (now : Rate) (old new : PlayBook) : Type 0 where
  pub left : Left now old new
  pub keeps : Keeps old new

pub book-closed : {B : Type 0} (old : PlayChannelOf B) (here : Here) (new : PlayBook) (between : Rate) (plan : PlanSeen)
    → new ≡ close_turn between here old.book → between ≡ rate_in_plan plan → plan ≡ plan_in old.path.chain → Closed (rate_in_plan (plan_in old.path.chain)) old.book new
book-closed old here new between plan turned rate_is plan_is =
    let now : Rate = rate_in_plan (plan_in old.path.chain) in
    let is : new ≡ close_turn now here old.book = turned ∙ ap (λ (r : Rate). close_turn r here old.book) (rate_is ∙ ap (λ (p : PlanSeen). rate_in_plan p) plan_is) in
    let keeps : Keeps old.book new = subst (Keeps old.book) (sym is) (close-keeps now here old.book) in
    record {
      left = leaves_left now old.book new old.serves.ratio (subst (λ (s : Settings). IsRate s.rate) (sym keeps.settings) old.serves.rate)
          (subst (PlayIsSafe now) (sym is) (safe-close now here old.book old.serves.ratio old.safe)) (subst (Leaves old.book) (sym is) (close-leaves now here old.book));
      keeps = keeps;
    }

-- a hand-over leaves them too
pub book-settled : {B : Type 0} (old : PlayChannelOf B) (passed : ℤ) (new : PlayBook) (between : Rate) (plan : PlanSeen)
    → new ≡ play_settled between passed old.book → between ≡ rate_in_plan plan → plan ≡ plan_in old.path.chain → Closed (rate_in_plan (plan_in old.path.chain)) old.book new
book-settled old passed new between plan turned rate_is plan_is =
    let now : Rate = rate_in_plan (plan_in old.path.chain) in
    let is : new ≡ play_settled now passed old.book = turned ∙ ap (λ (r : Rate). play_settled r passed old.book) (rate_is ∙ ap (λ (p : PlanSeen). rate_in_plan p) plan_is) in
    let keeps : Keeps old.book new = subst (Keeps old.book) (sym is) (settle-keeps now passed old.book) in
    record {
      left = leaves_left now old.book new old.serves.ratio (subst (λ (s : Settings). IsRate s.rate) (sym keeps.settings) old.serves.rate)
          (subst (PlayIsSafe now) (sym is) (safe-settled now passed old.book old.safe)) (subst (Leaves old.book) (sym is) (settle-leaves now passed old.book));
      keeps = keeps;
    }

-- a channel that goes by the plan of some filters: its device, and its book by the device's rate
pub device-is : {B : Type 0} (filters : Filters) (channel : PlayChannelOf B) → IsPlayPlanned filters channel → IsDevice (seen filters channel.path.device)
device-is filters channel p = device-served Play filters channel.book.opening channel.book.opening.settings channel.path channel.serves p

pub safe-at : {B : Type 0} (filters : Filters) (channel : PlayChannelOf B) → IsPlayPlanned filters channel → IsSafeAt (seen filters channel.path.device) channel.book
safe-at filters channel p = subst (λ (plan : PlanSeen). PlayIsSafe (rate_in_plan plan) channel.book) p.plan_is channel.safe

-- and so a channel's that may be free
pub safe-served : {B : Type 0} (filters : Filters) (channel : PlayChannelOf B) → IsPlayServed filters channel → IsSafeAt (seen filters channel.path.device) channel.book
safe-served filters channel served =
    elim (cases_Bool (is_play_free channel.book.state)) [
      | inl free ↦ safe-any (path_rate channel.path) (play_rate_at (seen filters channel.path.device) channel.book) channel.book free channel.safe
      | inr used ↦ safe-at filters channel (served used)
    ]

-- a request, by the rate of the chain's plan
pub asked-is : {B : Type 0} (filters : Filters) (here : Here) (request : Request) (old : PlayChannelOf B) (turn : Turn PlayBook) (between : Rate) (plan : PlanSeen) → IsPlayServed filters old
    → turn ≡ play_ask between old.path.device.mix.rate here request old.book → between ≡ rate_in_plan plan → plan ≡ plan_in old.path.chain → turn ≡ asking (seen filters old.path.device) here request old.book
asked-is filters here request old turn between plan served turned rate_is plan_is =
    elim (cases_Bool (is_play_free old.book.state)) [
      | inl free ↦ turned ∙ ask-any between (play_rate_at (seen filters old.path.device) old.book) old.path.device.mix.rate here request old.book free
      | inr used ↦ (
          let p = served used in
          turned ∙ ap (λ (r : Rate). play_ask r old.path.device.mix.rate here request old.book) (rate_is ∙ ap (λ (q : PlanSeen). rate_in_plan q) (plan_is ∙ p.plan_is)))
    ]

-- and where it stands by that rate
pub asked-here : {B : Type 0} (filters : Filters) (here : Here) (old : PlayChannelOf B) (between : Rate) (plan : PlanSeen) → IsPlayServed filters old → between ≡ rate_in_plan plan → plan ≡ plan_in old.path.chain → IsPlayHere filters here old
    → PlayIsHere between here old.book
asked-here filters here old between plan served rate_is plan_is at =
    elim (cases_Bool (is_play_free old.book.state)) [
      | inl free ↦ here-any between here old.book free
      | inr used ↦ (
          let p = served used in
          subst (λ (rate : Rate). PlayIsHere rate here old.book) (sym (rate_is ∙ ap (λ (q : PlanSeen). rate_in_plan q) (plan_is ∙ p.plan_is))) at)
    ]

-- a close, by the rate of the chain's plan
pub closed-is : {B : Type 0} (filters : Filters) (here : Here) (old : PlayChannelOf B) (new : PlayBook) (between : Rate) (plan : PlanSeen) → IsPlayServed filters old
    → new ≡ close_turn between here old.book → between ≡ rate_in_plan plan → plan ≡ plan_in old.path.chain → new ≡ closing (seen filters old.path.device) here old.book
closed-is filters here old new between plan served closed rate_is plan_is =
    elim (cases_Bool (is_play_free old.book.state)) [
      | inl free ↦ closed ∙ close-any between (play_rate_at (seen filters old.path.device) old.book) here old.book free
      | inr used ↦ (
          let p = served used in
          closed ∙ ap (λ (r : Rate). close_turn r here old.book) (rate_is ∙ ap (λ (q : PlanSeen). rate_in_plan q) (plan_is ∙ p.plan_is)))
    ]

-- what it leaves, at the rate of the chain's plan
pub book-asked : {B : Type 0} (here : Here) (request : Request) (old : PlayChannelOf B) (turn : Turn PlayBook) (between : Rate) (plan : PlanSeen)
    → turn ≡ play_ask between old.path.device.mix.rate here request old.book → between ≡ rate_in_plan plan → plan ≡ plan_in old.path.chain → Left (rate_in_plan (plan_in old.path.chain)) old.book turn.book
book-asked here request old turn between plan turned rate_is plan_is =
    let now : Rate = rate_in_plan (plan_in old.path.chain) in
    let mix_rate : ℕ = old.path.device.mix.rate in
    let book : PlayBook = old.book in
    let is : turn.book ≡ (play_ask now mix_rate here request book).book =
    ap (λ (t : Turn PlayBook). t.book) (turned ∙ ap (λ (r : Rate). play_ask r mix_rate here request book) (rate_is ∙ ap (λ (q : PlanSeen). rate_in_plan q) plan_is)) in
    leaves_left now book turn.book old.serves.ratio (subst (λ (b : PlayBook). IsRate b.opening.settings.rate) (sym is) (ask-rate now mix_rate here request book old.serves.rate))
    (subst (PlayIsSafe now) (sym is) (safe-ask now now mix_rate here request book old.serves.ratio old.safe (λ e. refl)))
    (subst (Leaves book) (sym is) (ask-leaves now mix_rate here request book old.safe))

-- and at the rate that the book has after it
pub safe-asked : {B : Type 0} (filters : Filters) (here : Here) (request : Request) (old : PlayChannelOf B) (turn : Turn PlayBook) → IsDevice (seen filters old.path.device) → IsPlayServed filters old → turn ≡ asking (seen filters old.path.device) here request old.book
    → IsSafeAt (seen filters old.path.device) turn.book
safe-asked filters here request old turn d served asked =
    let device : DeviceSeen = seen filters old.path.device in
    subst (IsSafeAt device) (sym (ap (λ (t : Turn PlayBook). t.book) asked)) (safe-asking device here request old.book d old.serves.rate (safe-served filters old served))

-- ---- writes

-- the bytes that wait after a write
pub fill_of-accepting : (mixed accepted : ℕ) (book : PlayBook) → book.eaten * frame_bytes book.opening.settings ≤ book.written → play_fill_of (accepting mixed accepted book) ≡ play_fill_of book + accepted
fill_of-accepting mixed accepted book h =
    let g = accepts mixed accepted book in
    let size : frame_bytes (accepting mixed accepted book).opening.settings ≡ frame_bytes book.opening.settings = ap frame_bytes g.settings in
    rw (g.written, g.eaten, size) (omega arith)

pub within-accepting : (mixed accepted : ℕ) (book : PlayBook) → book.eaten * frame_bytes book.opening.settings ≤ book.written → (accepting mixed accepted book).eaten * frame_bytes (accepting mixed accepted book).opening.settings ≤ (accepting mixed accepted book).written
within-accepting mixed accepted book h =
    let g = accepts mixed accepted book in
    let size : frame_bytes (accepting mixed accepted book).opening.settings ≡ frame_bytes book.opening.settings = ap frame_bytes g.settings in
    rw (g.written, g.eaten, size) (omega arith)

-- a write that isn't refused: the book accepts as many bytes as the ring takes
pub record IsTaken (mixed accepted : ℕ) (old new : PlayBook) : Type 0 where
  pub more : takes_none old.state ≡ false
  pub is : new ≡ accepting mixed accepted old

pub takes-written : {B : Type 0} (old : PlayChannelOf B) (here : Here) (count accepted : ℕ) (turn : Turn PlayBook) (answer : Answer) → turn ≡ write_turn here count old.book → turn.reply ≡ Ok answer → accepted ≡ min count (free_bytes old.path.ring)
    → IsTaken here.mixed accepted old.book turn.book
takes-written old here count accepted turn answer is ok taken =
    let done = write-done here count old.book answer (ap (λ (t : Turn PlayBook). t.reply) (sym is) ∙ ok) in
    let free : free_bytes old.path.ring ≡ play_free_of old.book = ap (λ k. k - length old.path.ring.bytes) old.serves.size ∙ ap (λ k. ring_bytes old.book.opening - k) old.fill in
    record {
      more = done.more;
      is = ap (λ (t : Turn PlayBook). t.book) is ∙ done.is ∙ ap (λ n. accepting here.mixed n old.book) (sym (taken ∙ ap (min count) free));
    }

-- a channel that took `accepted` bytes from the front of `more`
pub moves-taking : {B : Type 0} (kind : B → Kind) (kept : B → Kept) (filters : Filters) (more : List ℕ) (mixed accepted : ℕ) (old new : PlayChannelOf B) → new.path.device ≡ old.path.device → new.path.chain ≡ old.path.chain → new.path.ring.bytes ≡ old.path.ring.bytes ++ take accepted more → new.book ≡ accepting mixed accepted old.book
    → accepted ≤ length more → accepted ≤ RING_BYTES → is_draining old.book.state ≡ false → is_play_free old.book.state ≡ false → old.book.eaten * frame_bytes old.book.opening.settings ≤ old.book.written → PlayMoves kind kept filters more 0 old new
moves-taking {B = B} kind kept filters more mixed accepted old new device chain ring is within room busy held there =
    let a = accepts mixed accepted old.book in
    let written : new.book.written ≡ old.book.written + accepted = ap (λ (b : PlayBook). b.written) is ∙ a.written in
    let given : new.book.given ≡ old.book.given = ap (λ (b : PlayBook). b.given) is ∙ (let e : (accepting mixed accepted old.book).given ≡ old.book.given = omega (arith, a.given, a.given_same) in e) in
    let settings : new.book.opening.settings ≡ old.book.opening.settings = ap (λ (b : PlayBook). b.opening.settings) is ∙ a.settings in
    let eaten : new.book.eaten ≡ old.book.eaten = ap (λ (b : PlayBook). b.eaten) is ∙ a.eaten in
    let long : length (take accepted more) ≡ accepted = omega (arith, length-take accepted more) in
    record {
      kinds = λ h. rw chain h;
      planned = λ p used. planned-as Play filters _ _ old.path new.path device (ap plan_in chain) settings (p held);
      far = far-taking kept filters old new chain eaten given busy held;
      stands = λ bytes s.
          let front : take new.book.written (bytes ++ more) ≡ bytes ++ take accepted more =
          ap (λ n. take n (bytes ++ more)) (written ∙ (let count = s.count in let e : old.book.written + accepted ≡ length bytes + accepted = omega arith in e)) ∙ take-append-add bytes more accepted in
          let frames_within : old.book.eaten ≤ whole_frames old.book.opening.settings (length bytes) = frames_there old.book.opening.settings (length bytes) old.book.eaten (omega (arith, s.count)) in
          subst (PlayStands kept filters new new.book) (sym front)
          (stands-taking kept filters old new bytes (take accepted more) chain settings eaten given (omega (arith, written, long)) busy held there ring
          (frames-front old.book.opening.settings bytes (take accepted more) old.book.eaten frames_within) s);
      written = omega arith;
      counted = omega (arith, (accepting-adds mixed accepted old.book).done, ap (λ (b : PlayBook). b.done) is);
      grown = omega (arith, (accepting-adds mixed accepted old.book).done, ap (λ (b : PlayBook). b.done) is);
      given = omega arith;
    }
