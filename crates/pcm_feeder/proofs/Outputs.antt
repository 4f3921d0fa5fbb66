-- Which frames an output uses.
use Rattle.std.proofs.Common.{◌≡◌, ◌≢◌, refl, ◌<◌, ◌+◌, ◌*◌, ◌/◌, ◌%◌, ◌++◌, map, sym, ℕ, suc, ℤ, pos, ◌+ℤ◌, ◌-ℤ◌, ◌*ℤ◌, ◌≤ℤ◌, ◌<ℤ◌, ap, ◌∙◌, arith, get_or}
use Rattle.std.specs.List.{range_with_len}
use Rattle.std.proofs.lemmas.Int.{ints}
use Rattle.pcm_rate.proofs.Counts.{need_grows, need-unchanged}
use Rattle.pcm_format.proofs.Ranges.{map-range-same, map-range-shift, map-range-add}
use Rattle.pcm_feeder.specs.declared.stage.Gain.{Gain}
use Rattle.pcm_feeder.specs.declared.stage.Spec.{Spec}
use Rattle.pcm_feeder.specs.declared.stage.Spec.TheVariants.{Matrix, Hold, Linear, Poly, Volume, Depth, Eq}
use Rattle.pcm_feeder.specs.declared.table.Table.{Table}
use Rattle.pcm_feeder.specs.Filters.{Filters}
use Rattle.pcm_feeder.specs.Kinds.{kind_of}
use Rattle.pcm_feeder.specs.declared.kind.Kind.TheVariants as kinds
use Rattle.pcm_feeder.specs.Layouts.{in_layout, at_gain}
use Rattle.pcm_feeder.specs.Sums.{sum_of, scaled_down}
use Rattle.pcm_feeder.specs.Limits.{IsSpec, AreTaps}
use Rattle.pcm_rate.specs.declared.rate.Rate.{Rate}
use Rattle.pcm_rate.specs.Rates.{need}
use Rattle.pcm_feeder.specs.Stages.{rate_of, at_bits, blended, table_at, coef, filtered, Converter, held, on_line, filtered_frame, converted, conv, outputs}
use Rattle.pcm_feeder.specs.Sections.{sections_of, through_sections}
use Rattle.pcm_feeder.specs.Streams.{Stream, stream_of}

-- ---- limits

-- both rates are above 0
pub src-above : (spec : Spec) → IsSpec spec → 0 < (rate_of spec).src
src-above (Matrix from to) is = omega arith
src-above (Hold src dst channels) is = omega (arith, is.source.least)
src-above (Linear src dst channels) is = omega (arith, is.source.least)
src-above (Poly src dst channels table taps) is = omega (arith, is.change.source.least)
src-above (Volume layout) is = omega arith
src-above (Depth bits channels) is = omega arith
src-above (Eq channels sections) is = omega arith

pub dst-above : (spec : Spec) → IsSpec spec → 0 < (rate_of spec).dst
dst-above (Matrix from to) is = omega arith
dst-above (Hold src dst channels) is = omega (arith, is.target.least)
dst-above (Linear src dst channels) is = omega (arith, is.target.least)
dst-above (Poly src dst channels table taps) is = omega (arith, is.change.target.least)
dst-above (Volume layout) is = omega arith
dst-above (Depth bits channels) is = omega arith
dst-above (Eq channels sections) is = omega arith

-- ---- outputs

-- a converter's output uses the frames from `first` to `last`, counted from the one under it, and no other
abbrev pub Uses : Converter → ℤ → ℕ → Type 0
Uses converter first last = (f : ℕ) (x y : Stream) → ((a : ℤ) → first ≤ℤ a → a ≤ℤ pos last → x a ≡ y a) → converter f x ≡ converter f y

pub hold-uses : Uses held (pos 0) 0
hold-uses f x y same = same (pos 0) (omega (arith, ints)) (omega (arith, ints))

pub line-uses : (dst : ℕ) → Uses (on_line dst) (pos 0) 1
line-uses dst f x y same =
    ap (λ frame. blended dst f frame (x (pos 1))) (same (pos 0) (omega (arith, ints)) (omega (arith, ints)))
    ∙ ap (blended dst f (y (pos 0))) (same (pos 1) (omega (arith, ints)) (omega (arith, ints)))

-- one channel of a filter
filtered-same : (table : Table) (taps row : ℕ) (x y : Stream) (channel : ℕ)
    → ((j : ℕ) → j < taps → x (pos (j + 1) -ℤ pos (taps / 2)) ≡ y (pos (j + 1) -ℤ pos (taps / 2)))
    → filtered table taps row x channel ≡ filtered table taps row y channel
filtered-same table taps row x y channel same =
    ap (λ list. scaled_down table.shift (sum_of list))
    (map-range-same (λ j. coef table row j *ℤ get_or (x (pos (j + 1) -ℤ pos (taps / 2))) channel (pos 0))
    (λ j. coef table row j *ℤ get_or (y (pos (j + 1) -ℤ pos (taps / 2))) channel (pos 0)) taps
    (λ j below. ap (λ frame. coef table row j *ℤ get_or frame channel (pos 0)) (same j below)))

pub filter-uses : (table : Table) (taps channels dst : ℕ) → AreTaps taps → Uses (filtered_frame table taps channels dst) (pos 1 -ℤ pos (taps / 2)) (taps / 2)
filter-uses table taps channels dst are f x y same =
    let row = f * table.phases / dst in
    map-range-same (filtered table taps row x) (filtered table taps row y) channels
    (λ channel within. filtered-same table taps row x y channel
    (λ j below. same (pos (j + 1) -ℤ pos (taps / 2)) (omega (arith, ints)) (omega (arith, ints, are))))

-- output k of a converter uses the first need (k + 1) frames of a stream, and what lies before them
converted-local : (converter : Converter) (first : ℤ) (rate : Rate) (x y : Stream) (k : ℕ) → Uses converter first rate.lookahead
    → ((place : ℤ) → place <ℤ pos (need rate (k + 1)) → x place ≡ y place)
    → converted converter rate x k ≡ converted converter rate y k
converted-local converter first rate x y k uses same =
    let i = k * rate.src / rate.dst in
    let next : k + 1 ≡ suc k = omega arith in
    let count : need rate (k + 1) ≡ i + 1 + rate.lookahead = ap (need rate) next in
    uses (k * rate.src % rate.dst) (λ a. x (pos i +ℤ a)) (λ a. y (pos i +ℤ a)) (λ a least most. same (pos i +ℤ a) (omega (arith, ints)))

-- and so does output k of each stage
pub conv-local : (spec : Spec) (tables : Filters) (gain : Gain) (x y : Stream) (k : ℕ) → IsSpec spec
    → ((place : ℤ) → place <ℤ pos (need (rate_of spec) (k + 1)) → x place ≡ y place)
    → conv spec tables gain x k ≡ conv spec tables gain y k
unfolding conv
conv-local (Matrix from to) tables gain x y k is same = ap (in_layout from to) (same (pos k) (omega (arith, ints, need-unchanged (k + 1))))
conv-local (Hold src dst channels) tables gain x y k is same = converted-local held (pos 0) (rate_of (Hold src dst channels)) x y k hold-uses same
conv-local (Linear src dst channels) tables gain x y k is same = converted-local (on_line dst) (pos 0) (rate_of (Linear src dst channels)) x y k (line-uses dst) same
conv-local (Poly src dst channels table taps) tables gain x y k is same =
    converted-local (filtered_frame (table_at tables table) taps channels dst) (pos 1 -ℤ pos (taps / 2)) (rate_of (Poly src dst channels table taps)) x y k
    (filter-uses (table_at tables table) taps channels dst is.row) same
conv-local (Volume layout) tables gain x y k is same = ap (at_gain layout gain) (same (pos k) (omega (arith, ints, need-unchanged (k + 1))))
conv-local (Depth bits channels) tables gain x y k is same = ap (at_bits bits) (same (pos k) (omega (arith, ints, need-unchanged (k + 1))))
conv-local (Eq channels sections) tables gain x y k is same =
    ap (λ list. stream_of channels (through_sections channels (sections_of tables sections) list) (pos k))
    (map-range-same (λ j. x (pos j)) (λ j. y (pos j)) (k + 1) (λ j below. same (pos j) (omega (arith, ints, need-unchanged (k + 1)))))

-- outputs in two parts
pub outputs-add : (spec : Spec) (tables : Filters) (gain : Gain) (x : Stream) (from n m : ℕ)
    → outputs spec tables gain x from (n + m) ≡ outputs spec tables gain x from n ++ outputs spec tables gain x (from + n) m
outputs-add spec tables gain x from n m = map-range-add (conv spec tables gain x) from n m

-- outputs use only the frames that their counts name
pub outputs-local : (spec : Spec) (tables : Filters) (gain : Gain) (x y : Stream) (from count : ℕ) → IsSpec spec
    → ((place : ℤ) → place <ℤ pos (need (rate_of spec) (from + count)) → x place ≡ y place)
    → outputs spec tables gain x from count ≡ outputs spec tables gain y from count
outputs-local spec tables gain x y from count is same =
    let none : from + 0 ≡ from = omega arith in
    ap (λ s. map (conv spec tables gain x) (range_with_len s count)) (sym none)
    ∙ sym (map-range-shift (conv spec tables gain x) from 0 count)
    ∙ map-range-same (λ j. conv spec tables gain x (from + j)) (λ j. conv spec tables gain y (from + j)) count
    (λ j below. conv-local spec tables gain x y (from + j) is
    (λ place within. same place (omega (arith, ints, need_grows (rate_of spec) (from + j + 1) (from + count) (dst-above spec is) (omega arith)))))
    ∙ map-range-shift (conv spec tables gain y) from 0 count
    ∙ ap (λ s. map (conv spec tables gain y) (range_with_len s count)) none

-- the gain counts for a volume stage alone
pub conv-gain : (spec : Spec) (tables : Filters) (gain other : Gain) (x : Stream) (k : ℕ) → kind_of spec ≢ kinds.Volume
    → conv spec tables gain x k ≡ conv spec tables other x k
unfolding conv
conv-gain (Matrix from to) tables gain other x k not = refl
conv-gain (Hold src dst channels) tables gain other x k not = refl
conv-gain (Linear src dst channels) tables gain other x k not = refl
conv-gain (Poly src dst channels table taps) tables gain other x k not = refl
conv-gain (Volume layout) tables gain other x k not = absurd (not refl)
conv-gain (Depth bits channels) tables gain other x k not = refl
conv-gain (Eq channels sections) tables gain other x k not = refl
