-- What the stages of a plan are: they fit each other, and their filters are there.
use Rattle.std.specs.List.{position_or_len}
use Rattle.std.proofs.Common.{subst, nat_lt, Bool, ◌≡◌, ◌≢◌, ◌≤◌, ◌<◌, ◌+◌, ◌/◌, ◌==◌, ℕ, nat_le, Option, Some, None, List, [], ◌∷◌, ◌++◌, length, refl, sym, ap, ◌∙◌, arith, cond}
use Rattle.std.specs.Prelude.{IfSome, All, position}
use Rattle.std.proofs.lemmas.Bool.{cond_both, eqb-true, eqb-false, ltb-true}
use Rattle.std.proofs.lemmas.List.{append_assoc, length-append}
use Rattle.std.proofs.lemmas.List.Elements.{All-nil, All-cons, All-head, All-tail, All-append, All-weaker}
use Rattle.std.proofs.lemmas.Option.{slice_get-get_or}
use Rattle.pcm_format.specs.declared.format.Format.{Format}
use Rattle.pcm_format.specs.declared.format.Format.TheVariants.{U8}
use Rattle.pcm_format.specs.declared.layout.Layout.{Layout}
use Rattle.pcm_format.specs.declared.layout.Layout.TheVariants.{One}
use Rattle.pcm_format.specs.declared.settings.Settings.{Settings}
use Rattle.pcm_format.specs.Formats.{bits_of}
use Rattle.pcm_format.specs.Layouts.{channels_of}
use Rattle.pcm_rate.specs.declared.rate.Rate.{Rate}
use Rattle.pcm_rate.specs.Rates.{unchanged, IsRatio}
use Rattle.pcm_feeder.specs.declared.kind.Kind.{Kind}
use Rattle.pcm_feeder.specs.declared.kind.Kind.TheVariants as kinds
use Rattle.pcm_feeder.specs.declared.stage.Spec.{Spec}
use Rattle.pcm_feeder.specs.declared.stage.Spec.TheVariants.{Matrix, Hold, Linear, Poly, Volume, Depth, Eq}
use Rattle.pcm_feeder.specs.declared.table.Table.{Table}
use Rattle.pcm_feeder.specs.Filters.{Filters}
use Rattle.pcm_feeder.specs.Kinds.{kind_of}
use Rattle.pcm_feeder.specs.Limits.{IsRate, AreTaps, AreFilters, AreChannels, IsChange, IsSpec, HasTable}
use Rattle.pcm_feeder.specs.Stages.{rate_of, channels_in, channels_out, table_at}
use Rattle.pcm_feeder.proofs.Outputs.{src-above, dst-above}
use Rattle.pcm_plan.specs.Plans.{PlanSeen, matrix_stages, is_for, or_else, filter_for, filter_or_line, converter_of, rate_stages, equaliser_stages, depth_stages, converting, plan_play, plan_record, rate_among, rate_in_plan}
use Rattle.pcm_plan.specs.Fits.{Follow, AreDistinct, IsUnrated, HaveOneRate, TurnsEach, GainIsLate, IsPlan, HaveTables, HaveNoVolume}

-- ---- the rate of stages

-- both rates of each stage are above 0
abbrev HaveRatios : List Spec → Type 0
HaveRatios specs = All (λ spec. IsRatio (rate_of spec)) specs

rate-ratio : (specs : List Spec) → HaveRatios specs → IsRatio (rate_among specs)
rate-ratio [] have = record { src = omega arith; dst = omega arith }
rate-ratio (Matrix from to ∷ specs) have = rate-ratio specs (All-tail (λ spec. IsRatio (rate_of spec)) (Matrix from to) specs have)
rate-ratio (Hold src dst channels ∷ specs) have = All-head (λ spec. IsRatio (rate_of spec)) (Hold src dst channels) specs have
rate-ratio (Linear src dst channels ∷ specs) have = All-head (λ spec. IsRatio (rate_of spec)) (Linear src dst channels) specs have
rate-ratio (Poly src dst channels table taps ∷ specs) have = All-head (λ spec. IsRatio (rate_of spec)) (Poly src dst channels table taps) specs have
rate-ratio (Volume layout ∷ specs) have = rate-ratio specs (All-tail (λ spec. IsRatio (rate_of spec)) (Volume layout) specs have)
rate-ratio (Depth bits channels ∷ specs) have = rate-ratio specs (All-tail (λ spec. IsRatio (rate_of spec)) (Depth bits channels) specs have)
rate-ratio (Eq channels sections ∷ specs) have = rate-ratio specs (All-tail (λ spec. IsRatio (rate_of spec)) (Eq channels sections) specs have)

-- both rates of a plan are above 0
pub ratio-in : (plan : PlanSeen) → IsPlan plan → IsRatio (rate_in_plan plan)
ratio-in plan is =
    rate-ratio plan.stages (All-weaker IsSpec (λ spec. IsRatio (rate_of spec)) (λ spec limits. record { src = src-above spec limits; dst = dst-above spec limits }) plan.stages is.specs)

-- ---- stages in two parts

follow-append : (a : ℕ) (before after : List Spec) (b c : ℕ) → Follow a before b → Follow b after c → Follow a (before ++ after) c
follow-append a [] after b c first second = subst (λ (n : ℕ). Follow n after c) (sym first) second
follow-append a (spec ∷ before) after b c first second = (first.0, follow-append (channels_out spec) before after b c first.1 second)

-- no stage of the one list is of the kind of a stage of the other
abbrev Differ : List Spec → List Spec → Type 0
Differ before after = All (λ spec. All (λ other. kind_of spec ≢ kind_of other) after) before

distinct-append : (before after : List Spec) → AreDistinct before → AreDistinct after → Differ before after → AreDistinct (before ++ after)
distinct-append [] after first second differ = second
distinct-append (spec ∷ before) after first second differ =
    let Others : List Spec → Spec → Type 0 = λ (l : List Spec) (s : Spec). All (λ other. kind_of s ≢ kind_of other) l in
    let Other : Spec → Type 0 = λ (other : Spec). kind_of spec ≢ kind_of other in (
      All-append Other before after first.0 (All-head (Others after) spec before differ),
      distinct-append before after first.1 second (All-tail (Others after) spec before differ),
    )

-- 0 for a matrix, 1 for a converter, 2 for the others
abbrev rank_of : Kind → ℕ
rank_of kinds.Matrix = 0
rank_of kinds.Hold = 1
rank_of kinds.Linear = 1
rank_of kinds.Poly = 1
rank_of kinds.Volume = 2
rank_of kinds.Depth = 2
rank_of kinds.Eq = 2

abbrev HaveRank : ℕ → List Spec → Type 0
HaveRank n specs = All (λ spec. rank_of (kind_of spec) ≡ n) specs

differ : (n m : ℕ) (before after : List Spec) → n ≢ m → HaveRank n before → HaveRank m after → Differ before after
differ n m before after other first second k d within i e below same =
    other (sym (first k d within) ∙ ap rank_of same ∙ second i e below)

-- one stage at most changes the rate, where none does
pub one-rate-unrated : (specs : List Spec) → All IsUnrated specs → HaveOneRate specs
one-rate-unrated [] all = tt
one-rate-unrated (Matrix from to ∷ specs) all = one-rate-unrated specs (All-tail IsUnrated (Matrix from to) specs all)
one-rate-unrated (Hold src dst channels ∷ specs) all = All-tail IsUnrated (Hold src dst channels) specs all
one-rate-unrated (Linear src dst channels ∷ specs) all = All-tail IsUnrated (Linear src dst channels) specs all
one-rate-unrated (Poly src dst channels table taps ∷ specs) all = All-tail IsUnrated (Poly src dst channels table taps) specs all
one-rate-unrated (Volume layout ∷ specs) all = one-rate-unrated specs (All-tail IsUnrated (Volume layout) specs all)
one-rate-unrated (Depth bits channels ∷ specs) all = one-rate-unrated specs (All-tail IsUnrated (Depth bits channels) specs all)
one-rate-unrated (Eq channels sections ∷ specs) all = one-rate-unrated specs (All-tail IsUnrated (Eq channels sections) specs all)

one-rate-append : (before after : List Spec) → HaveOneRate before → All IsUnrated after → HaveOneRate (before ++ after)
one-rate-append [] after one all = one-rate-unrated after all
one-rate-append (Matrix from to ∷ before) after one all = one-rate-append before after one all
one-rate-append (Hold src dst channels ∷ before) after one all = All-append IsUnrated before after one all
one-rate-append (Linear src dst channels ∷ before) after one all = All-append IsUnrated before after one all
one-rate-append (Poly src dst channels table taps ∷ before) after one all = All-append IsUnrated before after one all
one-rate-append (Volume layout ∷ before) after one all = one-rate-append before after one all
one-rate-append (Depth bits channels ∷ before) after one all = one-rate-append before after one all
one-rate-append (Eq channels sections ∷ before) after one all = one-rate-append before after one all

one-rate-single : (spec : Spec) → HaveOneRate (spec ∷ [])
one-rate-single (Matrix from to) = tt
one-rate-single (Hold src dst channels) = All-nil IsUnrated
one-rate-single (Linear src dst channels) = All-nil IsUnrated
one-rate-single (Poly src dst channels table taps) = All-nil IsUnrated
one-rate-single (Volume layout) = tt
one-rate-single (Depth bits channels) = tt
one-rate-single (Eq channels sections) = tt

-- ---- each stage of a plan

-- the place of a filter that is there, if there is one
abbrev IsPlace : Filters → Option ℕ → Type 0
IsPlace tables place = IfSome place (λ at. at < length tables.list)

-- a fact of each converter, of a filter that is there too
pub each-converter : (P : Spec → Type 0) (tables : Filters) (quality src dst channels : ℕ) → P (Hold src dst channels) → P (Linear src dst channels)
    → ((place : ℕ) → place < length tables.list → P (Poly src dst channels place (table_at tables place).taps))
    → P (converter_of tables quality src dst channels)
each-converter P tables quality src dst channels hold line filter =
    let other = filter_or_line tables src dst channels (filter_for tables src dst) in
    cond_both (quality == 0) (Hold src dst channels) (cond (quality == 1) (Linear src dst channels) other) P (λ first. hold)
    (λ next. cond_both (quality == 1) (Linear src dst channels) other P (λ second. line)
    (λ last. found (filter_for tables src dst) (either (position (is_for src dst) tables.list) (position (is_for 0 0) tables.list) (within (is_for src dst)) (within (is_for 0 0)))))
  where
    within : (p : Table → Bool) → IsPlace tables (position p tables.list)
    within p =
        let first = position_or_len p tables.list in
        cond_both (nat_lt first (length tables.list)) (Some first) None (IsPlace tables) (λ below. ltb-true first (length tables.list) below) (λ past. tt)

    either : (first second : Option ℕ) → IsPlace tables first → IsPlace tables second → IsPlace tables (or_else first second)
    either None second a b = b
    either (Some place) second a b = a

    found : (place : Option ℕ) → IsPlace tables place → P (filter_or_line tables src dst channels place)
    found None below = line
    found (Some place) below = filter place below

-- a fact of each stage that changes layout or rate
pub each-converting : (P : Spec → Type 0) (tables : Filters) (quality : ℕ) (source target : Settings) → P (Matrix source.layout target.layout)
    → ((layout : Layout) → source.rate ≢ target.rate → P (converter_of tables quality source.rate target.rate (channels_of layout)))
    → All P (converting tables quality source target)
each-converting P tables quality source target matrix converter =
    let up = rate_stages tables quality source.rate target.rate (channels_of source.layout) in
    let down = rate_stages tables quality source.rate target.rate (channels_of target.layout) in
    let moved = matrix_stages source.layout target.layout in
    cond_both (nat_le (channels_of target.layout) (channels_of source.layout)) (moved ++ down) (up ++ moved) (All P)
    (λ fewer. All-append P moved down first (second target.layout)) (λ more. All-append P up moved (second source.layout) first)
  where
    one : (spec : Spec) → P spec → All P (spec ∷ [])
    one spec has = All-cons P spec [] has (All-nil P)

    first : All P (matrix_stages source.layout target.layout)
    first =
        cond_both (channels_of source.layout == channels_of target.layout) [] (Matrix source.layout target.layout ∷ []) (All P)
        (λ same. All-nil P) (λ other. one (Matrix source.layout target.layout) matrix)

    second : (layout : Layout) → All P (rate_stages tables quality source.rate target.rate (channels_of layout))
    second layout =
        let spec = converter_of tables quality source.rate target.rate (channels_of layout) in
        cond_both (source.rate == target.rate) [] (spec ∷ []) (All P)
        (λ same. All-nil P) (λ other. one spec (converter layout (λ same. eqb-false source.rate target.rate other same)))

-- a fact of the stage to fewer bits
pub each-depth : (P : Spec → Type 0) (bits channels : ℕ) → P (Depth bits channels) → All P (depth_stages bits channels)
each-depth P bits channels depth =
    cond_both (bits == 32) [] (Depth bits channels ∷ []) (All P) (λ whole. All-nil P) (λ fewer. All-cons P (Depth bits channels) [] depth (All-nil P))

-- a fact of the equaliser
pub each-equaliser : (P : Spec → Type 0) (tables : Filters) (channels : ℕ) → (length tables.sections ≢ 0 → P (Eq channels (length tables.sections))) → All P (equaliser_stages tables channels)
each-equaliser P tables channels equaliser =
    let n = length tables.sections in
    cond_both (n == 0) [] (Eq channels n ∷ []) (All P) (λ none. All-nil P) (λ some. All-cons P (Eq channels n) [] (equaliser (λ same. eqb-false n 0 some same)) (All-nil P))

-- a fact of each stage that a plan may have
each-stage : (P : Spec → Type 0) (tables : Filters) (quality : ℕ) (client device : Settings) → P (Matrix client.layout device.layout)
    → ((layout : Layout) → client.rate ≢ device.rate → P (converter_of tables quality client.rate device.rate (channels_of layout)))
    → (length tables.sections ≢ 0 → P (Eq (channels_of device.layout) (length tables.sections)))
    → P (Volume device.layout) → P (Depth (bits_of device.format) (channels_of device.layout))
    → All P (plan_play tables quality client device).stages
each-stage P tables quality client device matrix converter equaliser volume depth =
    let c = channels_of device.layout in
    let last = depth_stages (bits_of device.format) c in
    All-append P (converting tables quality client device) (equaliser_stages tables c ++ Volume device.layout ∷ last)
    (each-converting P tables quality client device matrix converter)
    (All-append P (equaliser_stages tables c) (Volume device.layout ∷ last) (each-equaliser P tables c equaliser)
    (All-cons P (Volume device.layout) last volume (each-depth P (bits_of device.format) c depth)))

-- the plan of a client that records has the stages of one that plays from its device's settings to its own, but for the equaliser and the volume
each-recorded : (P : Spec → Type 0) (tables : Filters) (quality : ℕ) (client device : Settings) → All P (plan_play tables quality device client).stages
    → All P (plan_record tables quality client device).stages
each-recorded P tables quality client device all =
    let way = converting tables quality device client in
    let last = depth_stages (bits_of client.format) (channels_of client.layout) in
    let equaliser = equaliser_stages tables (channels_of client.layout) in
    All-append P way last (front way (equaliser ++ Volume client.layout ∷ last) all)
    (All-tail P (Volume client.layout) last (behind equaliser (Volume client.layout ∷ last) (behind way (equaliser ++ Volume client.layout ∷ last) all)))
  where
    front : (before after : List Spec) → All P (before ++ after) → All P before
    front [] after have = All-nil P
    front (spec ∷ before) after have = All-cons P spec before (All-head P spec (before ++ after) have) (front before after (All-tail P spec (before ++ after) have))

    behind : (before after : List Spec) → All P (before ++ after) → All P after
    behind [] after have = have
    behind (spec ∷ before) after have = behind before after (All-tail P spec (before ++ after) have)

-- ---- the limits of each stage

-- the channels of a layout
channels-within : (layout : Layout) → AreChannels (channels_of layout)
channels-within One = record { least = omega arith; most = omega arith }
channels-within _ = record { least = omega arith; most = omega arith }

-- the bits of a format
bits-within : (format : Format) → (1 ≤ bits_of format) × (bits_of format ≤ 32)
bits-within U8 = (omega arith, omega arith)
bits-within _ = (omega arith, omega arith)

-- the taps of a filter that is there
taps-within : (tables : Filters) (place : ℕ) → AreFilters tables → place < length tables.list → AreTaps (table_at tables place).taps
taps-within tables place are below = (are.each place (record { src = 0; dst = 0; phases = 1; taps = 2; shift = 1; coefs = [] }) below).taps

has-table : (tables : Filters) (src dst channels place : ℕ) → place < length tables.list → HasTable (Poly src dst channels place (table_at tables place).taps) tables
has-table tables src dst channels place below =
    rw (slice_get-get_or tables.list place (record { src = 0; dst = 0; phases = 1; taps = 2; shift = 1; coefs = [] }) below) refl

play-specs : (tables : Filters) (quality : ℕ) (client device : Settings) → AreFilters tables → IsRate client.rate → IsRate device.rate
    → All IsSpec (plan_play tables quality client device).stages
play-specs tables quality client device are from to =
    each-stage IsSpec tables quality client device tt (λ layout differs. converter layout)
    (λ some. record { within = channels-within device.layout; least = omega (arith, some); most = are.few }) tt
    (record { least = (bits-within device.format).0; most = (bits-within device.format).1; within = channels-within device.layout })
  where
    change : (layout : Layout) → IsChange client.rate device.rate (channels_of layout)
    change layout = record { source = from; target = to; within = channels-within layout }

    converter : (layout : Layout) → IsSpec (converter_of tables quality client.rate device.rate (channels_of layout))
    converter layout =
        each-converter IsSpec tables quality client.rate device.rate (channels_of layout) (change layout) (change layout)
        (λ place below. record { change = change layout; row = taps-within tables place are below })

-- the tables have the filter of a client's plan
pub play-tables : (tables : Filters) (quality : ℕ) (client device : Settings) → AreFilters tables → IsRate client.rate → IsRate device.rate
    → HaveTables (plan_play tables quality client device).stages tables
play-tables tables quality client device are from to =
    each-stage (λ spec. HasTable spec tables) tables quality client device tt
    (λ layout differs. each-converter (λ spec. HasTable spec tables) tables quality client.rate device.rate (channels_of layout) tt tt
    (λ place below. has-table tables client.rate device.rate (channels_of layout) place below)) (λ some. refl) tt tt

-- both rates of its converter are above 0
pub play-ratio : (tables : Filters) (quality : ℕ) (client device : Settings) → IsRate client.rate → IsRate device.rate → IsRatio (rate_in_plan (plan_play tables quality client device))
play-ratio tables quality client device from to =
    rate-ratio (plan_play tables quality client device).stages
    (each-stage (λ spec. IsRatio (rate_of spec)) tables quality client device level
    (λ layout differs. each-converter (λ spec. IsRatio (rate_of spec)) tables quality client.rate device.rate (channels_of layout) (above 0) (above 1)
    (λ place below. above ((table_at tables place).taps / 2))) (λ some. level) level level)
  where
    level : IsRatio unchanged
    level = record { src = omega arith; dst = omega arith }

    above : (lookahead : ℕ) → IsRatio (record { src = client.rate; dst = device.rate; lookahead = lookahead })
    above lookahead = record { src = omega (arith, from.least); dst = omega (arith, to.least) }

-- ---- the order of the stages

-- at most `most` stages, which lead from one number of channels to another
record IsRow (from to most : ℕ) (row : List Spec) : Type 0 where
  follow : Follow from row to
  distinct : AreDistinct row
  one_rate : HaveOneRate row
  count : length row ≤ most

row-none : (from to : ℕ) → from ≡ to → IsRow from to 1 []
row-none from to same = record { follow = same; distinct = tt; one_rate = tt; count = omega arith }

row-one : (spec : Spec) → IsRow (channels_in spec) (channels_out spec) 1 (spec ∷ [])
row-one spec = record {
  follow = (refl, refl);
  distinct = (All-nil (λ other. kind_of spec ≢ kind_of other), tt);
  one_rate = one-rate-single spec;
  count = omega arith;
}

row-append : (from middle to n m : ℕ) (before after : List Spec) → IsRow from middle n before → IsRow middle to m after → Differ before after → HaveOneRate (before ++ after)
    → IsRow from to (n + m) (before ++ after)
row-append from middle to n m before after first second other one = record {
  follow = follow-append from before after middle to first.follow second.follow;
  distinct = distinct-append before after first.distinct second.distinct other;
  one_rate = one;
  count = omega (arith, length-append before after, first.count, second.count);
}

-- a part of a plan: a row whose stages have one rank
record IsPart (from to most rank : ℕ) (specs : List Spec) : Type 0 where
  row : IsRow from to most specs
  ranks : HaveRank rank specs

part-none : (from to rank : ℕ) → from ≡ to → IsPart from to 1 rank []
part-none from to rank same = record { row = row-none from to same; ranks = All-nil (λ spec. rank_of (kind_of spec) ≡ rank) }

part-one : (rank : ℕ) (spec : Spec) → rank_of (kind_of spec) ≡ rank → IsPart (channels_in spec) (channels_out spec) 1 rank (spec ∷ [])
part-one rank spec ranked = record {
  row = row-one spec;
  ranks = All-cons (λ s. rank_of (kind_of s) ≡ rank) spec [] ranked (All-nil (λ s. rank_of (kind_of s) ≡ rank));
}

-- the matrix
matrix-part : (from to : Layout) → IsPart (channels_of from) (channels_of to) 1 0 (matrix_stages from to)
matrix-part from to =
    cond_both (channels_of from == channels_of to) [] (Matrix from to ∷ []) (IsPart (channels_of from) (channels_of to) 1 0)
    (λ same. part-none (channels_of from) (channels_of to) 0 (eqb-true (channels_of from) (channels_of to) same)) (λ other. part-one 0 (Matrix from to) refl)

matrix-unrated : (from to : Layout) → All IsUnrated (matrix_stages from to)
matrix-unrated from to =
    cond_both (channels_of from == channels_of to) [] (Matrix from to ∷ []) (All IsUnrated)
    (λ same. All-nil IsUnrated) (λ other. All-cons IsUnrated (Matrix from to) [] refl (All-nil IsUnrated))

one-rate-matrix : (from to : Layout) (rest : List Spec) → HaveOneRate rest → HaveOneRate (matrix_stages from to ++ rest)
one-rate-matrix from to rest one =
    cond_both (channels_of from == channels_of to) [] (Matrix from to ∷ []) (λ row. HaveOneRate (row ++ rest)) (λ same. one) (λ other. one)

-- the converter
rate-part : (tables : Filters) (quality src dst channels : ℕ) → IsPart channels channels 1 1 (rate_stages tables quality src dst channels)
rate-part tables quality src dst channels =
    cond_both (src == dst) [] (converter_of tables quality src dst channels ∷ []) (IsPart channels channels 1 1)
    (λ same. part-none channels channels 1 refl)
    (λ other. each-converter (λ spec. IsPart channels channels 1 1 (spec ∷ [])) tables quality src dst channels (part-one 1 (Hold src dst channels) refl) (part-one 1 (Linear src dst channels) refl)
    (λ place below. part-one 1 (Poly src dst channels place (table_at tables place).taps) refl))

-- both, in either order
record IsWay (from to : ℕ) (way : List Spec) : Type 0 where
  row : IsRow from to 2 way
  other : (after : List Spec) → HaveRank 2 after → Differ way after

way-append : (from middle to n m : ℕ) (before after : List Spec) → n ≢ m → n < 2 → m < 2 → IsPart from middle 1 n before → IsPart middle to 1 m after → HaveOneRate (before ++ after)
    → IsWay from to (before ++ after)
way-append from middle to n m before after other n_low m_low first second one = record {
  row = row-append from middle to 1 1 before after first.row second.row (differ n m before after other first.ranks second.ranks) one;
  other = λ behind last.
      All-append (λ (spec : Spec). All (λ s. kind_of spec ≢ kind_of s) behind) before after
      (differ n 2 before behind (omega arith) first.ranks last) (differ m 2 after behind (omega arith) second.ranks last);
}

converting-way : (tables : Filters) (quality : ℕ) (source target : Settings) → IsWay (channels_of source.layout) (channels_of target.layout) (converting tables quality source target)
converting-way tables quality source target =
    let c = channels_of source.layout in
    let d = channels_of target.layout in
    let up = rate_stages tables quality source.rate target.rate c in
    let down = rate_stages tables quality source.rate target.rate d in
    let moved = matrix_stages source.layout target.layout in
    let matrix = matrix-part source.layout target.layout in
    let before = rate-part tables quality source.rate target.rate c in
    let behind = rate-part tables quality source.rate target.rate d in
    cond_both (nat_le d c) (moved ++ down) (up ++ moved) (IsWay c d)
    (λ fewer. way-append c d d 0 1 moved down (omega arith) (omega arith) (omega arith) matrix behind (one-rate-matrix source.layout target.layout down behind.row.one_rate))
    (λ more. way-append c c d 1 0 up moved (omega arith) (omega arith) (omega arith) before matrix
    (one-rate-append up moved before.row.one_rate (matrix-unrated source.layout target.layout)))

-- the end of a plan: the depth, or the equaliser, the volume and the depth
record IsEnd (channels most : ℕ) (row : List Spec) : Type 0 where
  part : IsPart channels channels most 2 row
  unrated : All IsUnrated row

depth-end : (bits channels : ℕ) → IsEnd channels 1 (depth_stages bits channels)
depth-end bits channels =
    cond_both (bits == 32) [] (Depth bits channels ∷ []) (IsEnd channels 1)
    (λ whole. record { part = part-none channels channels 2 refl; unrated = All-nil IsUnrated })
    (λ fewer. record { part = part-one 2 (Depth bits channels) refl; unrated = All-cons IsUnrated (Depth bits channels) [] refl (All-nil IsUnrated) })

volume-end : (layout : Layout) (bits : ℕ) → IsEnd (channels_of layout) 2 (Volume layout ∷ depth_stages bits (channels_of layout))
volume-end layout bits =
    let c = channels_of layout in
    let rest = depth_stages bits c in
    let last = depth-end bits c in
    let Others : Spec → Type 0 = λ (spec : Spec). All (λ s. kind_of spec ≢ kind_of s) rest in
    let differs : kinds.Volume ≢ kinds.Depth = λ (same : kinds.Volume ≡ kinds.Depth). cc in
    let other = each-depth (λ spec. kinds.Volume ≢ kind_of spec) bits c differs in
    record {
      part = record {
        row = row-append c c c 1 1 (Volume layout ∷ []) rest (row-one (Volume layout)) last.part.row (All-cons Others (Volume layout) [] other (All-nil Others)) (one-rate-unrated rest last.unrated);
        ranks = All-cons (λ spec. rank_of (kind_of spec) ≡ 2) (Volume layout) rest refl last.part.ranks;
      };
      unrated = All-cons IsUnrated (Volume layout) rest refl last.unrated;
    }

play-end : (tables : Filters) (layout : Layout) (bits : ℕ) → IsEnd (channels_of layout) 3 (equaliser_stages tables (channels_of layout) ++ Volume layout ∷ depth_stages bits (channels_of layout))
play-end tables layout bits =
    let c = channels_of layout in
    let n = length tables.sections in
    let rest = Volume layout ∷ depth_stages bits c in
    let last = volume-end layout bits in
    let Others : Spec → Type 0 = λ (spec : Spec). All (λ s. kind_of spec ≢ kind_of s) rest in
    let volume : kinds.Eq ≢ kinds.Volume = λ (same : kinds.Eq ≡ kinds.Volume). cc in
    let depth : kinds.Eq ≢ kinds.Depth = λ (same : kinds.Eq ≡ kinds.Depth). cc in
    let other = All-cons (λ spec. kinds.Eq ≢ kind_of spec) (Volume layout) (depth_stages bits c) volume (each-depth (λ spec. kinds.Eq ≢ kind_of spec) bits c depth) in
    let part : IsPart c c 1 2 (equaliser_stages tables c) =
    cond_both (n == 0) [] (Eq c n ∷ []) (IsPart c c 1 2) (λ none. part-none c c 2 refl) (λ some. part-one 2 (Eq c n) refl) in
    let level = each-equaliser IsUnrated tables c (λ some. refl) in
    record {
      part = record {
        row = row-append c c c 1 2 (equaliser_stages tables c) rest part.row last.part.row (each-equaliser Others tables c (λ some. other)) (one-rate-append (equaliser_stages tables c) rest part.row.one_rate last.unrated);
        ranks = All-append (λ spec. rank_of (kind_of spec) ≡ 2) (equaliser_stages tables c) rest part.ranks last.part.ranks;
      };
      unrated = All-append IsUnrated (equaliser_stages tables c) rest level last.unrated;
    }

-- the gain comes after the converter
late-matrix : (from to : Layout) (rest : List Spec) → GainIsLate rest → GainIsLate (matrix_stages from to ++ rest)
late-matrix from to rest late =
    cond_both (channels_of from == channels_of to) [] (Matrix from to ∷ []) (λ row. GainIsLate (row ++ rest)) (λ same. late) (λ other. late)

late-rate : (tables : Filters) (quality src dst channels : ℕ) (rest : List Spec) → GainIsLate rest → GainIsLate (rate_stages tables quality src dst channels ++ rest)
late-rate tables quality src dst channels rest late =
    cond_both (src == dst) [] (converter_of tables quality src dst channels ∷ []) (λ row. GainIsLate (row ++ rest)) (λ same. late)
    (λ other. each-converter (λ spec. GainIsLate (spec ∷ rest)) tables quality src dst channels late late (λ place below. late))

late-equaliser : (tables : Filters) (channels : ℕ) (rest : List Spec) → GainIsLate rest → GainIsLate (equaliser_stages tables channels ++ rest)
late-equaliser tables channels rest late =
    let n = length tables.sections in
    cond_both (n == 0) [] (Eq channels n ∷ []) (λ row. GainIsLate (row ++ rest)) (λ none. late) (λ some. late)

late-converting : (tables : Filters) (quality : ℕ) (source target : Settings) (rest : List Spec) → GainIsLate rest → GainIsLate (converting tables quality source target ++ rest)
late-converting tables quality source target rest late =
    let up = rate_stages tables quality source.rate target.rate (channels_of source.layout) in
    let down = rate_stages tables quality source.rate target.rate (channels_of target.layout) in
    let moved = matrix_stages source.layout target.layout in
    cond_both (nat_le (channels_of target.layout) (channels_of source.layout)) (moved ++ down) (up ++ moved) (λ row. GainIsLate (row ++ rest))
    (λ fewer. subst GainIsLate (sym (append_assoc moved down rest))
    (late-matrix source.layout target.layout (down ++ rest) (late-rate tables quality source.rate target.rate (channels_of target.layout) rest late)))
    (λ more. subst GainIsLate (sym (append_assoc up moved rest))
    (late-rate tables quality source.rate target.rate (channels_of source.layout) (moved ++ rest) (late-matrix source.layout target.layout rest late)))

-- the stages of a client's plan fit each other
pub play-fits : (tables : Filters) (quality : ℕ) (client device : Settings) → AreFilters tables → IsRate client.rate → IsRate device.rate
    → IsPlan (plan_play tables quality client device)
play-fits tables quality client device are from to =
    let c = channels_of client.layout in
    let d = channels_of device.layout in
    let way = converting tables quality client device in
    let depth = depth_stages (bits_of device.format) d in
    let behind = equaliser_stages tables d ++ Volume device.layout ∷ depth in
    let first = converting-way tables quality client device in
    let last = play-end tables device.layout (bits_of device.format) in
    let late = late-equaliser tables d (Volume device.layout ∷ depth) (each-depth TurnsEach (bits_of device.format) d (record { unrated = refl; nothing = refl })) in
    let row = row-append c d d 2 3 way behind first.row last.part.row (first.other behind last.part.ranks) (one-rate-append way behind first.row.one_rate last.unrated) in
    record { follow = row.follow; specs = play-specs tables quality client device are from to; distinct = row.distinct; one_rate = row.one_rate; late_gain = late-converting tables quality client device behind late; count = row.count }

-- ---- the plan of a client that records

-- the gain is late where there is none
late-depth : (bits channels : ℕ) → GainIsLate (depth_stages bits channels)
late-depth bits channels = cond_both (bits == 32) [] (Depth bits channels ∷ []) GainIsLate (λ whole. tt) (λ fewer. tt)

-- its stages fit each other
pub record-fits : (tables : Filters) (quality : ℕ) (client device : Settings) → AreFilters tables → IsRate client.rate → IsRate device.rate
    → IsPlan (plan_record tables quality client device)
record-fits tables quality client device are to from =
    let c = channels_of device.layout in
    let d = channels_of client.layout in
    let bits = bits_of client.format in
    let way = converting tables quality device client in
    let first = converting-way tables quality device client in
    let last = depth-end bits d in
    let row = row-append c d d 2 1 way (depth_stages bits d) first.row last.part.row (first.other (depth_stages bits d) last.part.ranks) (one-rate-append way (depth_stages bits d) first.row.one_rate last.unrated) in
    record {
      follow = row.follow;
      specs = each-recorded IsSpec tables quality client device (play-specs tables quality device client are from to);
      distinct = row.distinct;
      one_rate = row.one_rate;
      late_gain = late-converting tables quality device client (depth_stages bits d) (late-depth bits d);
      count = omega (arith, row.count);
    }

-- the tables have its filter
pub record-tables : (tables : Filters) (quality : ℕ) (client device : Settings) → AreFilters tables → IsRate client.rate → IsRate device.rate
    → HaveTables (plan_record tables quality client device).stages tables
record-tables tables quality client device are to from =
    each-recorded (λ spec. HasTable spec tables) tables quality client device (play-tables tables quality device client are from to)

-- both rates of its converter are above 0
pub record-ratio : (tables : Filters) (quality : ℕ) (client device : Settings) → AreFilters tables → IsRate client.rate → IsRate device.rate
    → IsRatio (rate_in_plan (plan_record tables quality client device))
record-ratio tables quality client device are to from = ratio-in (plan_record tables quality client device) (record-fits tables quality client device are to from)

-- it has no volume
pub record-volume : (tables : Filters) (quality : ℕ) (client device : Settings) → HaveNoVolume (plan_record tables quality client device).stages
record-volume tables quality client device =
    let P : Spec → Type 0 = λ spec. kind_of spec ≢ kinds.Volume in
    let matrix : kinds.Matrix ≢ kinds.Volume = λ (same : kinds.Matrix ≡ kinds.Volume). cc in
    let hold : kinds.Hold ≢ kinds.Volume = λ (same : kinds.Hold ≡ kinds.Volume). cc in
    let line : kinds.Linear ≢ kinds.Volume = λ (same : kinds.Linear ≡ kinds.Volume). cc in
    let filter : kinds.Poly ≢ kinds.Volume = λ (same : kinds.Poly ≡ kinds.Volume). cc in
    let depth : kinds.Depth ≢ kinds.Volume = λ (same : kinds.Depth ≡ kinds.Volume). cc in
    All-append P (converting tables quality device client) (depth_stages (bits_of client.format) (channels_of client.layout))
    (each-converting P tables quality device client matrix
    (λ layout differs. each-converter P tables quality device.rate client.rate (channels_of layout) hold line (λ place below. filter)))
    (each-depth P (bits_of client.format) (channels_of client.layout) depth)

-- ---- how a client that records changes the rate

-- where both rates are equal, no stage changes it
pub record-level : (tables : Filters) (quality : ℕ) (client device : Settings) → device.rate ≡ client.rate → rate_in_plan (plan_record tables quality client device) ≡ unchanged
record-level tables quality client device level =
    let c = channels_of client.layout in
    passed (plan_record tables quality client device).stages
    (All-append Passes (converting tables quality device client) (depth_stages (bits_of client.format) c)
    (each-converting Passes tables quality device client (λ rest. refl) (λ layout differs. absurd (differs level)))
    (each-depth Passes (bits_of client.format) c (λ rest. refl)))
  where
    Passes : Spec → Type 0
    Passes spec = (rest : List Spec) → rate_among (spec ∷ rest) ≡ rate_among rest

    passed : (specs : List Spec) → All Passes specs → rate_among specs ≡ unchanged
    passed [] all = refl
    passed (spec ∷ specs) all = All-head Passes spec specs all specs ∙ passed specs (All-tail Passes spec specs all)

-- a rate between these two, which reads ahead no further than the widest filter
pub record IsBetween (src dst : ℕ) (rate : Rate) : Type 0 where
  pub src_is : rate.src ≡ src
  pub dst_is : rate.dst ≡ dst
  pub lookahead : rate.lookahead ≤ 32

-- where they differ, the one stage that changes it does so from the one to the other
pub record-changes : (tables : Filters) (quality : ℕ) (client device : Settings) → AreFilters tables → device.rate ≢ client.rate
    → IsBetween device.rate client.rate (rate_in_plan (plan_record tables quality client device))
record-changes tables quality client device are differ =
    let depth = depth_stages (bits_of client.format) (channels_of client.layout) in
    let matrix = matrix_stages device.layout client.layout in
    let up = rate_stages tables quality src dst (channels_of device.layout) in
    let down = rate_stages tables quality src dst (channels_of client.layout) in
    cond_both (nat_le (channels_of client.layout) (channels_of device.layout)) (matrix ++ down) (up ++ matrix) (λ way. IsBetween src dst (rate_among (way ++ depth)))
    (λ fewer. subst (λ way. IsBetween src dst (rate_among way)) (sym (append_assoc matrix down depth)) (behind (down ++ depth) (rated client.layout depth)))
    (λ more. subst (λ way. IsBetween src dst (rate_among way)) (sym (append_assoc up matrix depth)) (rated device.layout (matrix ++ depth)))
  where
    src : ℕ
    src = device.rate

    dst : ℕ
    dst = client.rate

    Changes : Spec → Type 0
    Changes spec = (rest : List Spec) → IsBetween src dst (rate_among (spec ∷ rest))

    converter : (layout : Layout) → Changes (converter_of tables quality src dst (channels_of layout))
    converter layout =
        each-converter Changes tables quality src dst (channels_of layout)
        (λ rest. record { src_is = refl; dst_is = refl; lookahead = omega arith }) (λ rest. record { src_is = refl; dst_is = refl; lookahead = omega arith })
        (λ place below rest. (let taps = taps-within tables place are below in record { src_is = refl; dst_is = refl; lookahead = omega (arith, taps.even, taps.most) }))

    rated : (layout : Layout) (rest : List Spec) → IsBetween src dst (rate_among (rate_stages tables quality src dst (channels_of layout) ++ rest))
    rated layout rest =
        let spec = converter_of tables quality src dst (channels_of layout) in
        cond_both (src == dst) [] (spec ∷ []) (λ way. IsBetween src dst (rate_among (way ++ rest)))
        (λ same. absurd (differ (eqb-true src dst same))) (λ other. converter layout rest)

    behind : (rest : List Spec) → IsBetween src dst (rate_among rest) → IsBetween src dst (rate_among (matrix_stages device.layout client.layout ++ rest))
    behind rest is =
        cond_both (channels_of device.layout == channels_of client.layout) [] (Matrix device.layout client.layout ∷ []) (λ way. IsBetween src dst (rate_among (way ++ rest))) (λ same. is) (λ other. is)
