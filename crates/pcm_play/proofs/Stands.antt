-- What a channel stands for after each call, and how far it is then.
use Rattle.std.proofs.Common.{◌≡◌, ℕ, ◌+◌, ◌-◌, ◌*◌, ◌<◌, ◌≤◌, true, false, List, [], ◌++◌, length, take, drop, inl, inr, refl, sym, ap, ◌∙◌, subst, arith, length-append}
use Rattle.std.proofs.lemmas.Bool.{cases_lt}
use Rattle.std.proofs.Math.Seq.{take-add}
use Rattle.std.proofs.lemmas.List.{drop-drop, take_all, append-nil, drop-append-le}
use Rattle.pcm_format.specs.declared.settings.Settings.{Settings}
use Rattle.pcm_format.specs.Frames.{Frame, frame_bytes, frames, whole_frames}
use Rattle.pcm_format.proofs.Whole.{frames_there}
use Rattle.pcm_rate.specs.declared.rate.Rate.{Rate}
use Rattle.pcm_feeder.specs.Filters.{Filters}
use Rattle.pcm_feeder.specs.Kept.{Kept}
use Rattle.pcm_chain.specs.declared.chain.Pulled.{Pulled}
use Rattle.pcm_path.specs.Paths.{IsEmpty}
use Rattle.pcm_chain.specs.Far.{ChainIsSoFar}
use Rattle.pcm_chain.specs.Pulls.{IsFarBehind, StandsBehind}
use Rattle.pcm_chain.proofs.Far.{chain-far}
use Rattle.pcm_desk.specs.declared.play_book.PlayBook.{PlayBook}
use Rattle.pcm_desk.specs.PlayBooks.{is_draining, is_play_free, frames_written}
use Rattle.pcm_desk.proofs.PlayLeaves.{Stays}
use Rattle.pcm_play.specs.declared.channel.PlayChannelOf.{PlayChannelOf}
use Rattle.pcm_play.specs.Channels.{waiting_of, PlayIsSoFar, PlayStands}
use Rattle.pcm_play.proofs.Refills.{Goes, PullsAsCounted, length-eaten, length-waiting}

-- ---- how far a channel is

-- one that stands for some bytes is as far as its book says
pub play-far : {B : Type 0} (kept : B → Kept) (filters : Filters) (channel : PlayChannelOf B) (bytes : List ℕ) → PlayStands kept filters channel channel.book bytes → PlayIsSoFar kept filters channel
play-far kept filters channel bytes s =
    let book : PlayBook = channel.book in
    let settings : Settings = book.opening.settings in
    let there : book.eaten * frame_bytes settings ≤ length bytes = (let within = channel.within in omega (arith, within, s.count)) in
    let eaten = length-eaten settings bytes book.eaten (frames_there settings (length bytes) book.eaten there) in
    record {
      zeros = s.zeros;
      chain_is = λ used. subst (λ n. ChainIsSoFar kept filters channel.path.chain n s.zeros book.given) eaten
          (chain-far kept filters channel.path.chain (take book.eaten (frames settings bytes)) s.zeros book.given (s.chain_is used));
      ended = s.ended;
    }

-- silence is eaten only after the last frame that a book counts
abbrev EndsFirst : ℕ → PlayBook → Type 0
EndsFirst silent book = 0 < silent → (is_draining book.state ≡ true) × (book.eaten ≡ frames_written book)

-- one whose chain was pulled
ended-pulled : (rate : Rate) (n : ℕ) (old new : PlayBook) (pulled : Pulled) (silent : ℕ) → old.eaten ≤ frames_written old → Goes rate n old new → PullsAsCounted rate n old pulled
    → (0 < silent → (is_draining old.state ≡ true) × (pulled.eaten ≡ frames_written old - old.eaten)) → EndsFirst silent new
ended-pulled rate n old new pulled silent within go counted ends some =
    let over = ends some in
    let same : frames_written new ≡ frames_written old = ap (λ (r : Settings). whole_frames r new.written) go.settings ∙ ap (whole_frames old.opening.settings) go.written in
    (go.draining ∙ over.0, omega (arith, over.1, same, go.eaten, counted.eaten))

pub far-pulled : {B : Type 0} (kept : B → Kept) (filters : Filters) (old new : PlayChannelOf B) (rate : Rate) (n : ℕ) (pulled : Pulled) → old.book.eaten ≤ frames_written old.book → Goes rate n old.book new.book → PullsAsCounted rate n old.book pulled
    → IsFarBehind kept filters (is_draining old.book.state) (frames_written old.book - old.book.eaten) new.path.chain old.book.eaten old.book.given pulled → PlayIsSoFar kept filters new
far-pulled kept filters old new rate n pulled within go counted behind =
    let eaten : new.book.eaten ≡ old.book.eaten + pulled.eaten = go.eaten ∙ sym counted.eaten in
    let given : new.book.given ≡ old.book.given + pulled.given = go.given ∙ ap (λ m. old.book.given + m) (sym counted.given) in
    record {
      zeros = behind.zeros;
      chain_is = λ used. rw (eaten, given) behind.far;
      ended = ended-pulled rate n old.book new.book pulled behind.zeros within go counted behind.ends;
    }

-- one that takes bytes was fed no silence
none-fed : (book : PlayBook) (silent : ℕ) → EndsFirst silent book → is_draining book.state ≡ false → silent ≡ 0
none-fed book silent ended busy = elim (cases_lt 0 silent) [
  | inl some ↦ (let over = ended some in let clash : true ≡ false = sym over.0 ∙ busy in cc)
  | inr none ↦ omega arith
]

pub far-taking : {B : Type 0} (kept : B → Kept) (filters : Filters) (old new : PlayChannelOf B) → new.path.chain ≡ old.path.chain → new.book.eaten ≡ old.book.eaten → new.book.given ≡ old.book.given
    → is_draining old.book.state ≡ false → is_play_free old.book.state ≡ false → PlayIsSoFar kept filters old → PlayIsSoFar kept filters new
far-taking kept filters old new chain eaten given busy held far = record {
  zeros = 0;
  chain_is = λ used. rw (chain, eaten, given) (rw (none-fed old.book far.zeros far.ended busy) at (far.chain_is held));
  ended = λ some. absurd (omega arith);
}

-- one whose state alone changed
ended-state : (old new : PlayBook) (silent : ℕ) → Stays old new → EndsFirst silent old → EndsFirst silent new
ended-state old new silent st ended some =
    let over = ended some in
    let same : frames_written new ≡ frames_written old = ap (λ (r : Settings). whole_frames r new.written) st.settings ∙ ap (whole_frames old.opening.settings) st.written in
    (st.drains over.0, st.eaten ∙ over.1 ∙ sym same)

pub far-state : {B : Type 0} (kept : B → Kept) (filters : Filters) (old new : PlayChannelOf B) → new.path.chain ≡ old.path.chain → Stays old.book new.book → is_play_free old.book.state ≡ false → PlayIsSoFar kept filters old → PlayIsSoFar kept filters new
far-state kept filters old new chain st held far = record {
  zeros = far.zeros;
  chain_is = λ used. rw (chain, st.eaten, st.given) (far.chain_is held);
  ended = ended-state old.book new.book far.zeros st far.ended;
}

-- ---- the bytes that it stands for

-- a channel that begins, or whose run is over, stands for no bytes
pub stands-empty : {B : Type 0} (kept : B → Kept) (filters : Filters) (channel : PlayChannelOf B) → channel.book.written ≡ 0 → channel.book.eaten ≡ 0 → channel.book.given ≡ 0 → IsEmpty kept channel.path
    → PlayStands kept filters channel channel.book []
stands-empty kept filters channel written eaten given empty = record {
  book_is = refl;
  count = sym written;
  ring_is = empty.ring ∙ nothing-left;
  zeros = 0;
  chain_is = λ used. rw (eaten, given) (empty.begins filters);
  ended = λ some. absurd (omega arith);
}
  where
    nothing-left : [] ≡ waiting_of channel.book []
    nothing-left = let none : 0 * frame_bytes channel.book.opening.settings ≡ 0 = omega arith in rw (eaten, none) refl

-- a channel whose run goes on stands for the same bytes, once its chain was pulled
pub stands-pulled : {B : Type 0} (kept : B → Kept) (filters : Filters) (old new : PlayChannelOf B) (rate : Rate) (n : ℕ) (pulled : Pulled) (bytes : List ℕ) → old.book.eaten ≤ frames_written old.book
    → Goes rate n old.book new.book → PullsAsCounted rate n old.book pulled → new.path.ring.bytes ≡ drop (pulled.eaten * frame_bytes old.book.opening.settings) old.path.ring.bytes
    → StandsBehind kept filters (is_draining old.book.state) (drop old.book.eaten (frames old.book.opening.settings bytes)) new.path.chain (take old.book.eaten (frames old.book.opening.settings bytes)) old.book.given pulled
    → PlayStands kept filters old old.book bytes → PlayStands kept filters new new.book bytes
stands-pulled kept filters old new rate n pulled bytes within go counted ring behind s =
    let settings : Settings = old.book.opening.settings in
    let z : ℕ = frame_bytes settings in
    let e : ℕ = old.book.eaten in
    let p : ℕ = pulled.eaten in
    let all : List Frame = frames settings bytes in
    let eaten : new.book.eaten ≡ e + p = go.eaten ∙ sym counted.eaten in
    let given : new.book.given ≡ old.book.given + pulled.given = go.given ∙ ap (λ m. old.book.given + m) (sym counted.given) in
    let sum : e * z + p * z ≡ (e + p) * z = omega arith in
    record {
      book_is = refl;
      count = s.count ∙ sym go.written;
      ring_is = ring ∙ ap (drop (p * z)) s.ring_is ∙ drop-drop (p * z) (e * z) bytes ∙ ap (λ m. drop m bytes) sum
          ∙ ap (λ m. drop (m * z) bytes) (sym eaten) ∙ ap (λ (r : Settings). drop (new.book.eaten * frame_bytes r) bytes) (sym go.settings);
      zeros = behind.zeros;
      chain_is = λ used. rw (go.settings, eaten, given, take-add e p all) behind.stands;
      ended = ended-pulled rate n old.book new.book pulled behind.zeros within go counted (λ some.
          let over = behind.ends some in
          (over.0, over.1 ∙ length-waiting settings bytes e ∙ ap (λ m. whole_frames settings m - e) s.count));
    }

-- a channel that took bytes stands for these too
pub stands-taking : {B : Type 0} (kept : B → Kept) (filters : Filters) (old new : PlayChannelOf B) (bytes more : List ℕ) → new.path.chain ≡ old.path.chain → new.book.opening.settings ≡ old.book.opening.settings → new.book.eaten ≡ old.book.eaten → new.book.given ≡ old.book.given
    → new.book.written ≡ old.book.written + length more → is_draining old.book.state ≡ false → is_play_free old.book.state ≡ false
    → old.book.eaten * frame_bytes old.book.opening.settings ≤ old.book.written → new.path.ring.bytes ≡ old.path.ring.bytes ++ more
    → take old.book.eaten (frames old.book.opening.settings (bytes ++ more)) ≡ take old.book.eaten (frames old.book.opening.settings bytes)
    → PlayStands kept filters old old.book bytes → PlayStands kept filters new new.book (bytes ++ more)
stands-taking kept filters old new bytes more chain settings eaten given written busy held within ring front s = record {
  book_is = refl;
  count = omega (arith, length-append bytes more, s.count);
  ring_is = ring ∙ ap (λ waiting. waiting ++ more) s.ring_is
      ∙ sym (drop-append-le (old.book.eaten * frame_bytes old.book.opening.settings) bytes more (omega (arith, s.count)))
      ∙ ap (λ m. drop (m * frame_bytes old.book.opening.settings) (bytes ++ more)) (sym eaten) ∙ ap (λ (r : Settings). drop (new.book.eaten * frame_bytes r) (bytes ++ more)) (sym settings);
  zeros = 0;
  chain_is = λ used. rw (chain, settings, eaten, given, front) (rw (none-fed old.book s.zeros s.ended busy) at (s.chain_is held));
  ended = λ some. absurd (omega arith);
}

-- a channel whose state alone changed stands for the same bytes
pub stands-state : {B : Type 0} (kept : B → Kept) (filters : Filters) (old new : PlayChannelOf B) (bytes : List ℕ) → new.path.chain ≡ old.path.chain → new.path.ring.bytes ≡ old.path.ring.bytes → Stays old.book new.book → is_play_free old.book.state ≡ false
    → PlayStands kept filters old old.book bytes → PlayStands kept filters new new.book bytes
stands-state kept filters old new bytes chain ring st held s = record {
  book_is = refl;
  count = s.count ∙ sym st.written;
  ring_is = ring ∙ s.ring_is ∙ ap (λ m. drop (m * frame_bytes old.book.opening.settings) bytes) (sym st.eaten) ∙ ap (λ (r : Settings). drop (new.book.eaten * frame_bytes r) bytes) (sym st.settings);
  zeros = s.zeros;
  chain_is = λ used. rw (chain, st.settings, st.eaten, st.given) (s.chain_is held);
  ended = ended-state old.book new.book s.zeros st s.ended;
}

-- bytes and nothing more
pub nothing-more : (n : ℕ) (bytes : List ℕ) → length bytes ≡ n → take n (bytes ++ []) ≡ bytes
nothing-more n bytes count = ap (take n) (append-nil bytes) ∙ take_all n bytes (omega arith)
