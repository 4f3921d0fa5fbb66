use Rattle.std.proofs.Common.{◌≡◌, ℕ, ◌+◌, ◌*◌, if◌then◌else◌, List, ◌++◌, length, take, refl, sym, ap, ◌∙◌, subst, rules, true≢false}
use Rattle.pcm_sequence.specs.declared.fixed.Fixed.{Fixed}
use Rattle.pcm_sequence.specs.Fixed.{fixed_items}
use Rattle.pcm_sequence.proofs.Items.{items-written}
use Rattle.pcm_rate.specs.declared.rate.Rate.{Rate}
use Rattle.pcm_plan.specs.Plans.{PlanSeen, rate_in_plan}
use Rattle.pcm_chain.specs.Pasts.{past_sizes}
use Rattle.pcm_desk.specs.Openings.{ring_bytes}
use Rattle.pcm_desk.specs.MapSafe.{MapIsSafe}
use Rattle.pcm_map.specs.Channels.{area_of, IsMapReady}
use Rattle.pcm_order.specs.Orders.{MapCanBe}
use Rattle.pcm_save.specs.Mapping.{area-long, map_books_seen, map_parts}
use Rattle.pcm_save.proofs.Loading.{length-part, parts-told, past-long}
use Rattle.pcm_rate.specs.Rates.{IsRatio}
use Rattle.pcm_feeder.specs.declared.kind.Kind.{Kind}
use Rattle.pcm_feeder.specs.Filters.{Filters}
use Rattle.pcm_feeder.specs.Kept.{Kept}
use Rattle.pcm_feeder.specs.Limits.{IsRate}
use Rattle.pcm_oss.specs.declared.event.Way.TheVariants.{Map}
use Rattle.pcm_desk.specs.declared.device.Device.{Device}
use Rattle.pcm_desk.specs.declared.map_book.MapBook.{MapBook}
use Rattle.pcm_desk.specs.Channels.{map_rate_at}
use Rattle.pcm_desk.specs.Device.{seen}
use Rattle.pcm_desk.specs.RunStates.{is_unheld}
use Rattle.pcm_path.specs.Ways.{plan_between}
use Rattle.pcm_map.specs.declared.channel.MapChannelOf.{MapChannelOf}
use Rattle.pcm_map.proofs.Books.{safe-served}
use Rattle.pcm_state.specs.MapRows.{FitsMap}
use Rattle.pcm_save.specs.Joined.{parts_bytes}
use Rattle.pcm_save.specs.Parts.{HasRow}
use Rattle.pcm_save.specs.States.{CanBeLoaded}
use Rattle.pcm_save.proofs.Taken.{book-front, books-same, front-left, front-room, parts-long, past-planned, samples-read}
use Rattle.pcm_save.proofs.map.MapChannelOfSaved.load.Goals as goal

pub tell-requires : goal.tell-requires
tell-requires g c =
    let book = c.in_ok-book.book in
    let can : MapCanBe c.rate.result book = c.map_is_in_order.ensures.0 (search rules) in
    let rate = c.rate.ensures.value ∙ ap rate_in_plan c.in_ok-plan.ensures.plan in
    let long : length c.load_rest.new.past ≡ c.past_samples.result = search rules in
    record {
      kinds = c.requires.kinds;
      rate = can.client;
      safe = subst (λ (r : Rate). MapIsSafe r book) rate can.safe;
      past = λ held. past-long long c.past_samples.ensures.count (c.is_free.ensures ∙ held) c.in_ok-plan.ensures.plan;
    }

pub returns-clause-loaded : goal.returns-clause-loaded
returns-clause-loaded g c =
    let told = c.tell.ensures in
    let long : length c.load_rest.new.past ≡ c.past_samples.result = search rules in
    let book = c.in_ok-book.book in
    let new = c.tell.new.self in
    let size = length-part c.args.bytes.now 88 c.area_size.result c.in_ok-area.area.now c.in_ok-area.ensures.rest.waits in
    let area : area_of new ≡ c.in_ok-area.area.now =
    ap (λ (b : MapBook). take (ring_bytes b.opening) (fixed_items new.area)) told.book_is
    ∙ ap (λ (a : Fixed ℕ). take (ring_bytes book.opening) (fixed_items a)) told.area_same
    ∙ ap (take (ring_bytes book.opening)) (items-written c.args.self.now.area c.put_front.new.area (c.put_front.auto.area ∙ c.deref_mut.ensures.len))
    ∙ ap (λ n. take n c.put_front.new.area) (sym (size ∙ c.area_size.ensures)) ∙ c.put_front.ensures in
    let front = parts-told g.B.Feeder.kept map_books_seen c.args.bytes.now c.area_size.result (past_sizes c.in_ok-plan.plan.stages) c.in_ok-book.book c.in_ok-area.area.now c.load_rest.new.past (map_parts c.tell.new.self)
    c.in_ok-book.ensures.book c.in_ok-area.ensures.rest (past-long {plan = c.in_ok-plan.plan} long c.past_samples.ensures.count c.is_free.ensures refl) told.book_is area told.keeps in
    record { within = front.within; told = front.told; is_ready = told.ready; device_same = told.device_same; marks = told.marks }

-- ---- what was saved is taken

-- its book is read,
same-book : {B : Type 0} (kept : B → Kept) (saved : MapChannelOf B) (book : MapBook) (bytes rest : List ℕ) → bytes ≡ parts_bytes kept map_books_seen (map_parts saved) ++ rest → HasRow bytes (map_books_seen.row book) → book ≡ saved.book
same-book kept saved book bytes rest front read = books-same map_books_seen bytes saved.book book (book-front kept map_books_seen (map_parts saved) bytes rest front) read

-- and is in order by the rate of its plan
can-be : {B : Type 0} (kind : B → Kind) (kept : B → Kept) (filters : Filters) (saved channel : MapChannelOf B) (rate : Rate) (book : MapBook) → CanBeLoaded (λ it. it.path) (IsMapReady kind kept) (λ it. FitsMap it.book) filters saved channel
    → IsRatio rate → rate ≡ map_rate_at (seen filters channel.path.device) book → book ≡ saved.book → MapCanBe rate book
can-be kind kept filters saved channel rate book can ratio is same =
    let by : rate ≡ map_rate_at (seen filters saved.path.device) saved.book =
    is ∙ ap (map_rate_at (seen filters channel.path.device)) same ∙ ap (λ (d : Device). map_rate_at (seen filters d) saved.book) (sym can.device) in
    subst (MapCanBe rate) (sym same) (record { ratio = ratio; client = saved.rate; safe = subst (λ (r : Rate). MapIsSafe r saved.book) (sym by) (safe-served filters saved can.is_ready.planned) })

pub returns-in_err-book-clause-taken : goal.returns-in_err-book-clause-taken
returns-in_err-book-clause-taken g c = λ saved rest can front.
    absurd (true≢false (sym (c.in_err-book.ensures.taken saved.book can.fit (book-front g.B.Feeder.kept map_books_seen (map_parts saved) c.args.bytes.now rest front))))

pub returns-in_err-plan-clause-taken : goal.returns-in_err-plan-clause-taken
returns-in_err-plan-clause-taken g c = λ saved rest can front.
    let is = same-book g.B.Feeder.kept saved c.in_ok-book.book c.args.bytes.now rest front c.in_ok-book.ensures.book in
    absurd (true≢false (sym (c.in_err-plan.ensures.taken (subst (λ (book : MapBook). IsRate book.opening.settings.rate) (sym is) saved.rate))))

pub returns-then-not-map_is_in_order-clause-taken : goal.returns-then-not-map_is_in_order-clause-taken
returns-then-not-map_is_in_order-clause-taken g c = λ saved rest can front.
    let is = same-book g.B.Feeder.kept saved c.in_ok-book.book c.args.bytes.now rest front c.in_ok-book.ensures.book in
    let order = c.map_is_in_order.ensures.1 (can-be g.B.Feeder.kind g.B.Feeder.kept c.args.tables.now saved c.args.self.now c.rate.result c.in_ok-book.book can c.rate.ensures.ratio (c.rate.ensures.value ∙ ap rate_in_plan c.in_ok-plan.ensures.plan) is) in
    absurd (true≢false (sym order ∙ search rules))

-- and its state has as many bytes as are read
as-long : {B : Type 0} (kind : B → Kind) (kept : B → Kept) (filters : Filters) (saved channel : MapChannelOf B) (book : MapBook) (plan : PlanSeen) (size samples : ℕ) → CanBeLoaded (λ it. it.path) (IsMapReady kind kept) (λ it. FitsMap it.book) filters saved channel
    → book ≡ saved.book → plan ≡ plan_between Map (seen filters channel.path.device) book.opening.settings → size ≡ ring_bytes book.opening → samples ≡ (if is_unheld book.state then 0 else past_sizes plan.stages)
    → 88 + size + 4 * samples ≡ length (parts_bytes kept map_books_seen (map_parts saved))
as-long kind kept filters saved channel book plan size samples can same planned waits few =
    let its : plan ≡ plan_between Map (seen filters channel.path.device) saved.book.opening.settings =
    planned ∙ ap (λ (b : MapBook). plan_between Map (seen filters channel.path.device) b.opening.settings) same in
    parts-long kept map_books_seen (map_parts saved) size (past_sizes plan.stages) samples (area-long saved ∙ ap (λ (b : MapBook). ring_bytes b.opening) (sym same) ∙ sym waits)
    (λ held. past-planned kept Map filters channel.path.device saved.book.opening.settings saved.path plan (can.is_ready.far held) (can.is_ready.planned held) can.device its)
    (few ∙ ap (λ (b : MapBook). if is_unheld b.state then 0 else past_sizes plan.stages) same)

pub returns-in_err-area-clause-taken : goal.returns-in_err-area-clause-taken
returns-in_err-area-clause-taken g c = λ saved rest can front.
    let is = same-book g.B.Feeder.kept saved c.in_ok-book.book c.args.bytes.now rest front c.in_ok-book.ensures.book in
    let long = as-long g.B.Feeder.kind g.B.Feeder.kept c.args.tables.now saved c.args.self.now c.in_ok-book.book c.in_ok-plan.plan c.area_size.result (length (take c.past_samples.result c.args.past.now)) can is c.in_ok-plan.ensures.plan c.area_size.ensures
    (samples-read c.args.past.now c.past_samples.result (past_sizes c.in_ok-plan.plan.stages) 2560 c.past_samples.ensures.most c.requires.room c.past_samples.ensures.count c.is_free.ensures) in
    absurd (true≢false (sym (c.in_err-area.ensures.taken (front-room c.args.bytes.now (parts_bytes g.B.Feeder.kept map_books_seen (map_parts saved)) rest _ front long))))

pub returns-clause-taken : goal.returns-clause-taken
returns-clause-taken g c = λ saved rest can front.
    let is = same-book g.B.Feeder.kept saved c.in_ok-book.book c.args.bytes.now rest front c.in_ok-book.ensures.book in
    let waits = length-part c.args.bytes.now 88 c.area_size.result c.in_ok-area.area.now c.in_ok-area.ensures.rest.waits in
    let long = as-long g.B.Feeder.kind g.B.Feeder.kept c.args.tables.now saved c.args.self.now c.in_ok-book.book c.in_ok-plan.plan (length c.in_ok-area.area.now) (length c.load_rest.new.past) can is c.in_ok-plan.ensures.plan (waits ∙ c.area_size.ensures)
    (c.load_rest.ensures.len ∙ samples-read c.args.past.now c.past_samples.result (past_sizes c.in_ok-plan.plan.stages) 2560 c.past_samples.ensures.most c.requires.room c.past_samples.ensures.count c.is_free.ensures) in
    front-left c.args.bytes.now (parts_bytes g.B.Feeder.kept map_books_seen (map_parts saved)) rest _ front long
