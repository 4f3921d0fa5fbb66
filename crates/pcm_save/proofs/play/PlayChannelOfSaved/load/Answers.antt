use Rattle.std.proofs.Common.{◌≡◌, ℕ, ◌+◌, ◌*◌, if◌then◌else◌, List, ◌++◌, length, take, refl, sym, ap, ◌∙◌, subst, rules, true≢false}
use Rattle.pcm_rate.specs.declared.rate.Rate.{Rate}
use Rattle.pcm_plan.specs.Plans.{PlanSeen, rate_in_plan}
use Rattle.pcm_chain.specs.Pasts.{past_sizes}
use Rattle.pcm_desk.specs.PlaySafe.{PlayIsSafe}
use Rattle.pcm_order.specs.Orders.{PlayCanBe}
use Rattle.pcm_save.specs.Playing.{play_books_seen, play_parts}
use Rattle.pcm_save.proofs.Loading.{length-part, parts-told, past-long}
use Rattle.pcm_rate.specs.Rates.{IsRatio}
use Rattle.pcm_feeder.specs.declared.kind.Kind.{Kind}
use Rattle.pcm_feeder.specs.Filters.{Filters}
use Rattle.pcm_feeder.specs.Kept.{Kept}
use Rattle.pcm_feeder.specs.Limits.{IsRate}
use Rattle.pcm_oss.specs.declared.event.Way.TheVariants.{Play}
use Rattle.pcm_desk.specs.declared.device.Device.{Device}
use Rattle.pcm_desk.specs.declared.play_book.PlayBook.{PlayBook}
use Rattle.pcm_desk.specs.Channels.{play_rate_at}
use Rattle.pcm_desk.specs.Device.{seen}
use Rattle.pcm_desk.specs.PlayBooks.{is_play_free, play_fill_of}
use Rattle.pcm_path.specs.Ways.{plan_between}
use Rattle.pcm_play.specs.Channels.{IsPlayReady}
use Rattle.pcm_play.specs.declared.channel.PlayChannelOf.{PlayChannelOf}
use Rattle.pcm_play.proofs.Moving.{safe-served}
use Rattle.pcm_state.specs.PlayRows.{FitsPlay}
use Rattle.pcm_save.specs.Joined.{parts_bytes}
use Rattle.pcm_save.specs.Parts.{HasRow}
use Rattle.pcm_save.specs.States.{CanBeLoaded}
use Rattle.pcm_save.proofs.Taken.{book-front, books-same, front-left, front-room, parts-long, past-planned, samples-read}
use Rattle.pcm_save.proofs.play.PlayChannelOfSaved.load.Goals as goal

pub tell-requires : goal.tell-requires
tell-requires g c =
    let book = c.in_ok-book.book in
    let can : PlayCanBe c.rate.result book = c.play_is_in_order.ensures.0 (search rules) in
    let rate = c.rate.ensures.value ∙ ap rate_in_plan c.in_ok-plan.ensures.plan in
    let long : length c.load_rest.new.past ≡ c.past_samples.result = search rules in
    record {
      kinds = c.requires.kinds;
      rate = can.client;
      safe = subst (λ (r : Rate). PlayIsSafe r book) rate can.safe;
      within = can.within;
      waiting = length-part c.args.bytes.now 120 c.fill.result c.in_ok-waiting.waiting.now c.in_ok-waiting.ensures.rest.waits ∙ c.fill.ensures;
      past = λ held. past-long long c.past_samples.ensures.count (c.is_free.ensures ∙ held) c.in_ok-plan.ensures.plan;
    }

pub returns-clause-loaded : goal.returns-clause-loaded
returns-clause-loaded g c =
    let told = c.tell.ensures in
    let long : length c.load_rest.new.past ≡ c.past_samples.result = search rules in
    let front = parts-told g.B.Feeder.kept play_books_seen c.args.bytes.now c.fill.result (past_sizes c.in_ok-plan.plan.stages) c.in_ok-book.book c.in_ok-waiting.waiting.now c.load_rest.new.past (play_parts c.tell.new.self)
    c.in_ok-book.ensures.book c.in_ok-waiting.ensures.rest (past-long {plan = c.in_ok-plan.plan} long c.past_samples.ensures.count c.is_free.ensures refl) told.book_is told.ring_is told.keeps in
    record { within = front.within; told = front.told; is_ready = told.ready; device_same = told.device_same; marks = told.marks }

-- ---- what was saved is taken

-- its book is read,
same-book : {B : Type 0} (kept : B → Kept) (saved : PlayChannelOf B) (book : PlayBook) (bytes rest : List ℕ) → bytes ≡ parts_bytes kept play_books_seen (play_parts saved) ++ rest → HasRow bytes (play_books_seen.row book) → book ≡ saved.book
same-book kept saved book bytes rest front read = books-same play_books_seen bytes saved.book book (book-front kept play_books_seen (play_parts saved) bytes rest front) read

-- and is in order by the rate of its plan
can-be : {B : Type 0} (kind : B → Kind) (kept : B → Kept) (filters : Filters) (saved channel : PlayChannelOf B) (rate : Rate) (book : PlayBook) → CanBeLoaded (λ it. it.path) (IsPlayReady kind kept) (λ it. FitsPlay it.book) filters saved channel
    → IsRatio rate → rate ≡ play_rate_at (seen filters channel.path.device) book → book ≡ saved.book → PlayCanBe rate book
can-be kind kept filters saved channel rate book can ratio is same =
    let by : rate ≡ play_rate_at (seen filters saved.path.device) saved.book =
    is ∙ ap (play_rate_at (seen filters channel.path.device)) same ∙ ap (λ (d : Device). play_rate_at (seen filters d) saved.book) (sym can.device) in
    subst (PlayCanBe rate) (sym same) (record { ratio = ratio; client = saved.serves.rate; safe = subst (λ (r : Rate). PlayIsSafe r saved.book) (sym by) (safe-served filters saved can.is_ready.planned); within = saved.within })

pub returns-in_err-book-clause-taken : goal.returns-in_err-book-clause-taken
returns-in_err-book-clause-taken g c = λ saved rest can front.
    absurd (true≢false (sym (c.in_err-book.ensures.taken saved.book can.fit (book-front g.B.Feeder.kept play_books_seen (play_parts saved) c.args.bytes.now rest front))))

pub returns-in_err-plan-clause-taken : goal.returns-in_err-plan-clause-taken
returns-in_err-plan-clause-taken g c = λ saved rest can front.
    let is = same-book g.B.Feeder.kept saved c.in_ok-book.book c.args.bytes.now rest front c.in_ok-book.ensures.book in
    absurd (true≢false (sym (c.in_err-plan.ensures.taken (subst (λ (book : PlayBook). IsRate book.opening.settings.rate) (sym is) saved.serves.rate))))

pub returns-then-not-play_is_in_order-clause-taken : goal.returns-then-not-play_is_in_order-clause-taken
returns-then-not-play_is_in_order-clause-taken g c = λ saved rest can front.
    let is = same-book g.B.Feeder.kept saved c.in_ok-book.book c.args.bytes.now rest front c.in_ok-book.ensures.book in
    let order = c.play_is_in_order.ensures.1 (can-be g.B.Feeder.kind g.B.Feeder.kept c.args.tables.now saved c.args.self.now c.rate.result c.in_ok-book.book can c.rate.ensures.ratio (c.rate.ensures.value ∙ ap rate_in_plan c.in_ok-plan.ensures.plan) is) in
    absurd (true≢false (sym order ∙ search rules))

-- and its state has as many bytes as are read
as-long : {B : Type 0} (kind : B → Kind) (kept : B → Kept) (filters : Filters) (saved channel : PlayChannelOf B) (book : PlayBook) (plan : PlanSeen) (size samples : ℕ) → CanBeLoaded (λ it. it.path) (IsPlayReady kind kept) (λ it. FitsPlay it.book) filters saved channel
    → book ≡ saved.book → plan ≡ plan_between Play (seen filters channel.path.device) book.opening.settings → size ≡ play_fill_of book → samples ≡ (if is_play_free book.state then 0 else past_sizes plan.stages)
    → 120 + size + 4 * samples ≡ length (parts_bytes kept play_books_seen (play_parts saved))
as-long kind kept filters saved channel book plan size samples can same planned waits few =
    let its : plan ≡ plan_between Play (seen filters channel.path.device) saved.book.opening.settings =
    planned ∙ ap (λ (b : PlayBook). plan_between Play (seen filters channel.path.device) b.opening.settings) same in
    parts-long kept play_books_seen (play_parts saved) size (past_sizes plan.stages) samples (saved.fill ∙ ap play_fill_of (sym same) ∙ sym waits)
    (λ held. past-planned kept Play filters channel.path.device saved.book.opening.settings saved.path plan (can.is_ready.far.chain_is held) (can.is_ready.planned held) can.device its)
    (few ∙ ap (λ (b : PlayBook). if is_play_free b.state then 0 else past_sizes plan.stages) same)

pub returns-in_err-waiting-clause-taken : goal.returns-in_err-waiting-clause-taken
returns-in_err-waiting-clause-taken g c = λ saved rest can front.
    let is = same-book g.B.Feeder.kept saved c.in_ok-book.book c.args.bytes.now rest front c.in_ok-book.ensures.book in
    let long = as-long g.B.Feeder.kind g.B.Feeder.kept c.args.tables.now saved c.args.self.now c.in_ok-book.book c.in_ok-plan.plan c.fill.result (length (take c.past_samples.result c.args.past.now)) can is c.in_ok-plan.ensures.plan c.fill.ensures
    (samples-read c.args.past.now c.past_samples.result (past_sizes c.in_ok-plan.plan.stages) 2560 c.past_samples.ensures.most c.requires.room c.past_samples.ensures.count c.is_free.ensures) in
    absurd (true≢false (sym (c.in_err-waiting.ensures.taken (front-room c.args.bytes.now (parts_bytes g.B.Feeder.kept play_books_seen (play_parts saved)) rest _ front long))))

pub returns-clause-taken : goal.returns-clause-taken
returns-clause-taken g c = λ saved rest can front.
    let is = same-book g.B.Feeder.kept saved c.in_ok-book.book c.args.bytes.now rest front c.in_ok-book.ensures.book in
    let waits = length-part c.args.bytes.now 120 c.fill.result c.in_ok-waiting.waiting.now c.in_ok-waiting.ensures.rest.waits in
    let long = as-long g.B.Feeder.kind g.B.Feeder.kept c.args.tables.now saved c.args.self.now c.in_ok-book.book c.in_ok-plan.plan (length c.in_ok-waiting.waiting.now) (length c.load_rest.new.past) can is c.in_ok-plan.ensures.plan (waits ∙ c.fill.ensures)
    (c.load_rest.ensures.len ∙ samples-read c.args.past.now c.past_samples.result (past_sizes c.in_ok-plan.plan.stages) 2560 c.past_samples.ensures.most c.requires.room c.past_samples.ensures.count c.is_free.ensures) in
    front-left c.args.bytes.now (parts_bytes g.B.Feeder.kept play_books_seen (play_parts saved)) rest _ front long
