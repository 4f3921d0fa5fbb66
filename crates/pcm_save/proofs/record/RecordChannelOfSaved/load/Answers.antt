use Rattle.std.proofs.Common.{◌≡◌, ℕ, ◌+◌, ◌*◌, if◌then◌else◌, List, ◌++◌, length, take, refl, sym, ap, ◌∙◌, subst, rules, true≢false}
use Rattle.pcm_rate.specs.declared.rate.Rate.{Rate}
use Rattle.pcm_plan.specs.Plans.{PlanSeen, rate_in_plan}
use Rattle.pcm_chain.specs.Pasts.{past_sizes}
use Rattle.pcm_desk.specs.RecordSafe.{RecordIsSafe}
use Rattle.pcm_order.specs.Orders.{RecordCanBe}
use Rattle.pcm_save.specs.Recording.{record_books_seen, record_parts}
use Rattle.pcm_save.proofs.Loading.{length-part, parts-told, past-long}
use Rattle.pcm_rate.specs.Rates.{IsRatio}
use Rattle.pcm_feeder.specs.declared.kind.Kind.{Kind}
use Rattle.pcm_feeder.specs.Filters.{Filters}
use Rattle.pcm_feeder.specs.Kept.{Kept}
use Rattle.pcm_feeder.specs.Limits.{IsRate}
use Rattle.pcm_oss.specs.declared.event.Way.TheVariants.{Record}
use Rattle.pcm_desk.specs.declared.device.Device.{Device}
use Rattle.pcm_desk.specs.declared.record_book.RecordBook.{RecordBook}
use Rattle.pcm_desk.specs.Channels.{record_rate_at}
use Rattle.pcm_desk.specs.Device.{seen}
use Rattle.pcm_desk.specs.RunStates.{is_unheld}
use Rattle.pcm_desk.specs.RecordBooks.{record_fill_of}
use Rattle.pcm_path.specs.Ways.{plan_between}
use Rattle.pcm_record.specs.Channels.{IsRecordReady}
use Rattle.pcm_record.specs.declared.channel.RecordChannelOf.{RecordChannelOf}
use Rattle.pcm_record.proofs.Moving.{safe-served}
use Rattle.pcm_state.specs.RecordRows.{FitsRecord}
use Rattle.pcm_save.specs.Joined.{parts_bytes}
use Rattle.pcm_save.specs.Parts.{HasRow}
use Rattle.pcm_save.specs.States.{CanBeLoaded}
use Rattle.pcm_save.proofs.Taken.{book-front, books-same, front-left, front-room, parts-long, past-planned, samples-read}
use Rattle.pcm_save.proofs.record.RecordChannelOfSaved.load.Goals as goal

pub tell-requires : goal.tell-requires
tell-requires g c =
    let book = c.in_ok-book.book in
    let can : RecordCanBe c.rate.result book = c.record_is_in_order.ensures.0 (search rules) in
    let rate = c.rate.ensures.value ∙ ap rate_in_plan c.in_ok-plan.ensures.plan in
    let long : length c.load_rest.new.past ≡ c.past_samples.result = search rules in
    record {
      kinds = c.requires.kinds;
      rate = can.client;
      safe = subst (λ (r : Rate). RecordIsSafe r book) rate can.safe;
      within = can.within;
      waiting = length-part c.args.bytes.now 104 c.fill.result c.in_ok-waiting.waiting.now c.in_ok-waiting.ensures.rest.waits ∙ c.fill.ensures;
      past = λ held. past-long long c.past_samples.ensures.count (c.is_free.ensures ∙ held) c.in_ok-plan.ensures.plan;
    }

pub returns-clause-loaded : goal.returns-clause-loaded
returns-clause-loaded g c =
    let told = c.tell.ensures in
    let long : length c.load_rest.new.past ≡ c.past_samples.result = search rules in
    let front = parts-told g.B.Feeder.kept record_books_seen c.args.bytes.now c.fill.result (past_sizes c.in_ok-plan.plan.stages) c.in_ok-book.book c.in_ok-waiting.waiting.now c.load_rest.new.past (record_parts c.tell.new.self)
    c.in_ok-book.ensures.book c.in_ok-waiting.ensures.rest (past-long {plan = c.in_ok-plan.plan} long c.past_samples.ensures.count c.is_free.ensures refl) told.book_is told.ring_is told.keeps in
    record { within = front.within; told = front.told; is_ready = told.ready; device_same = told.device_same; marks = told.marks }

-- ---- what was saved is taken

-- its book is read,
same-book : {B : Type 0} (kept : B → Kept) (saved : RecordChannelOf B) (book : RecordBook) (bytes rest : List ℕ) → bytes ≡ parts_bytes kept record_books_seen (record_parts saved) ++ rest → HasRow bytes (record_books_seen.row book) → book ≡ saved.book
same-book kept saved book bytes rest front read = books-same record_books_seen bytes saved.book book (book-front kept record_books_seen (record_parts saved) bytes rest front) read

-- and is in order by the rate of its plan
can-be : {B : Type 0} (kind : B → Kind) (kept : B → Kept) (filters : Filters) (saved channel : RecordChannelOf B) (rate : Rate) (book : RecordBook) → CanBeLoaded (λ it. it.path) (IsRecordReady kind kept) (λ it. FitsRecord it.book) filters saved channel
    → IsRatio rate → rate ≡ record_rate_at (seen filters channel.path.device) book → book ≡ saved.book → RecordCanBe rate book
can-be kind kept filters saved channel rate book can ratio is same =
    let by : rate ≡ record_rate_at (seen filters saved.path.device) saved.book =
    is ∙ ap (record_rate_at (seen filters channel.path.device)) same ∙ ap (λ (d : Device). record_rate_at (seen filters d) saved.book) (sym can.device) in
    subst (RecordCanBe rate) (sym same) (record { ratio = ratio; client = saved.serves.rate; safe = subst (λ (r : Rate). RecordIsSafe r saved.book) (sym by) (safe-served filters saved can.is_ready.planned); within = saved.within })

pub returns-in_err-book-clause-taken : goal.returns-in_err-book-clause-taken
returns-in_err-book-clause-taken g c = λ saved rest can front.
    absurd (true≢false (sym (c.in_err-book.ensures.taken saved.book can.fit (book-front g.B.Feeder.kept record_books_seen (record_parts saved) c.args.bytes.now rest front))))

pub returns-in_err-plan-clause-taken : goal.returns-in_err-plan-clause-taken
returns-in_err-plan-clause-taken g c = λ saved rest can front.
    let is = same-book g.B.Feeder.kept saved c.in_ok-book.book c.args.bytes.now rest front c.in_ok-book.ensures.book in
    absurd (true≢false (sym (c.in_err-plan.ensures.taken (subst (λ (book : RecordBook). IsRate book.opening.settings.rate) (sym is) saved.serves.rate))))

pub returns-then-not-record_is_in_order-clause-taken : goal.returns-then-not-record_is_in_order-clause-taken
returns-then-not-record_is_in_order-clause-taken g c = λ saved rest can front.
    let is = same-book g.B.Feeder.kept saved c.in_ok-book.book c.args.bytes.now rest front c.in_ok-book.ensures.book in
    let order = c.record_is_in_order.ensures.1 (can-be g.B.Feeder.kind g.B.Feeder.kept c.args.tables.now saved c.args.self.now c.rate.result c.in_ok-book.book can c.rate.ensures.ratio (c.rate.ensures.value ∙ ap rate_in_plan c.in_ok-plan.ensures.plan) is) in
    absurd (true≢false (sym order ∙ search rules))

-- and its state has as many bytes as are read
as-long : {B : Type 0} (kind : B → Kind) (kept : B → Kept) (filters : Filters) (saved channel : RecordChannelOf B) (book : RecordBook) (plan : PlanSeen) (size samples : ℕ) → CanBeLoaded (λ it. it.path) (IsRecordReady kind kept) (λ it. FitsRecord it.book) filters saved channel
    → book ≡ saved.book → plan ≡ plan_between Record (seen filters channel.path.device) book.opening.settings → size ≡ record_fill_of book → samples ≡ (if is_unheld book.state then 0 else past_sizes plan.stages)
    → 104 + size + 4 * samples ≡ length (parts_bytes kept record_books_seen (record_parts saved))
as-long kind kept filters saved channel book plan size samples can same planned waits few =
    let its : plan ≡ plan_between Record (seen filters channel.path.device) saved.book.opening.settings =
    planned ∙ ap (λ (b : RecordBook). plan_between Record (seen filters channel.path.device) b.opening.settings) same in
    parts-long kept record_books_seen (record_parts saved) size (past_sizes plan.stages) samples (saved.fill ∙ ap record_fill_of (sym same) ∙ sym waits)
    (λ held. past-planned kept Record filters channel.path.device saved.book.opening.settings saved.path plan (can.is_ready.far held) (can.is_ready.planned held) can.device its)
    (few ∙ ap (λ (b : RecordBook). if is_unheld b.state then 0 else past_sizes plan.stages) same)

pub returns-in_err-waiting-clause-taken : goal.returns-in_err-waiting-clause-taken
returns-in_err-waiting-clause-taken g c = λ saved rest can front.
    let is = same-book g.B.Feeder.kept saved c.in_ok-book.book c.args.bytes.now rest front c.in_ok-book.ensures.book in
    let long = as-long g.B.Feeder.kind g.B.Feeder.kept c.args.tables.now saved c.args.self.now c.in_ok-book.book c.in_ok-plan.plan c.fill.result (length (take c.past_samples.result c.args.past.now)) can is c.in_ok-plan.ensures.plan c.fill.ensures
    (samples-read c.args.past.now c.past_samples.result (past_sizes c.in_ok-plan.plan.stages) 2560 c.past_samples.ensures.most c.requires.room c.past_samples.ensures.count c.is_free.ensures) in
    absurd (true≢false (sym (c.in_err-waiting.ensures.taken (front-room c.args.bytes.now (parts_bytes g.B.Feeder.kept record_books_seen (record_parts saved)) rest _ front long))))

pub returns-clause-taken : goal.returns-clause-taken
returns-clause-taken g c = λ saved rest can front.
    let is = same-book g.B.Feeder.kept saved c.in_ok-book.book c.args.bytes.now rest front c.in_ok-book.ensures.book in
    let waits = length-part c.args.bytes.now 104 c.fill.result c.in_ok-waiting.waiting.now c.in_ok-waiting.ensures.rest.waits in
    let long = as-long g.B.Feeder.kind g.B.Feeder.kept c.args.tables.now saved c.args.self.now c.in_ok-book.book c.in_ok-plan.plan (length c.in_ok-waiting.waiting.now) (length c.load_rest.new.past) can is c.in_ok-plan.ensures.plan (waits ∙ c.fill.ensures)
    (c.load_rest.ensures.len ∙ samples-read c.args.past.now c.past_samples.result (past_sizes c.in_ok-plan.plan.stages) 2560 c.past_samples.ensures.most c.requires.room c.past_samples.ensures.count c.is_free.ensures) in
    front-left c.args.bytes.now (parts_bytes g.B.Feeder.kept record_books_seen (record_parts saved)) rest _ front long
