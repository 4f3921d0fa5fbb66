-- What a feed of the equaliser does.
use Rattle.std.proofs.Common.{◌≡◌, ◌<◌, ◌≤◌, ◌+◌, ◌*◌, ◌/◌, ◌%◌, min, ℕ, ℤ, pos, ◌+ℤ◌, ◌-ℤ◌, List, length, take, Some, refl, sym, ap, ◌∙◌, arith}
use Rattle.std.proofs.Math.Nat.{mul-le-mul_right, div-mul-le_self}
use Rattle.std.proofs.lemmas.Int.{ints}
use Rattle.std.proofs.lemmas.List.Elements.{All-take}
use Rattle.std.proofs.lemmas.List.FromFn.{fill_by_all}
use Rattle.pcm_format.specs.Frames.{Frame}
use Rattle.pcm_feeder.specs.declared.stage.Gain.{Gain}
use Rattle.pcm_feeder.specs.declared.stage.Spec.TheVariants.{Eq}
use Rattle.pcm_feeder.specs.Filters.{Filters}
use Rattle.pcm_feeder.specs.Kept.{Kept}
use Rattle.pcm_feeder.specs.Sections.{section_at, sections_of, sections_on, past_behind}
use Rattle.pcm_feeder.specs.Streams.{frames_of, interleaved}
use Rattle.pcm_feeder.specs.Turns.{Turn, turn_of, fed}
use Rattle.pcm_feeder.proofs.Frames.{length-frames_of, interleaved-take, frames_of-interleaved, frames_of-channels}
use Rattle.pcm_feeder.proofs.Turns.{fed-fitted, turn-fitted}
use Rattle.pcm_feeder.proofs.Unrated.{eaten-unrated, given-unrated}

-- as many sections as there are
all-sections : (tables : Filters) (n : ℕ) → length tables.sections ≡ n → sections_of tables n ≡ tables.sections
all-sections tables n long = sym (fill_by_all (section_at tables) tables.sections n _ long (λ k below. refl))

-- a feeder of the equaliser that keeps these frames
abbrev pub keeps : ℕ → ℕ → List Frame → Kept
keeps c n tail = record { spec = Some (Eq c n); phase = 0; ahead = pos 0; tail = tail }

-- it keeps no count
kept-at : (c n : ℕ) (phase : ℕ) (ahead : ℤ) (tail list : List Frame) → phase ≡ 0 → ahead ≡ pos 0 → tail ≡ list → record { spec = Some (Eq c n); phase = phase; ahead = ahead; tail = tail } ≡ keeps c n list
kept-at c n phase ahead tail list p a t =
    ap (λ p. let k : Kept = record { spec = Some (Eq c n); phase = p; ahead = ahead; tail = tail } in k) p
    ∙ ap (λ a. let k : Kept = record { spec = Some (Eq c n); phase = 0; ahead = a; tail = tail } in k) a
    ∙ ap (keeps c n) t

-- m frames go through all sections
pub record Does (c n : ℕ) (tables : Filters) (tail input : List Frame) (m : ℕ) (turned : Turn) : Type 0 where
  pub eaten : turned.eaten ≡ m
  pub given : turned.given ≡ m
  pub frames : turned.frames ≡ sections_on c tables.sections tail (take m input)
  pub kept : turned.kept ≡ keeps c n (past_behind c tables.sections tail (take m input))

does-of : (c n : ℕ) (tables : Filters) (gain : Gain) (tail input : List Frame) (want m : ℕ) → length tables.sections ≡ n → m ≡ min want (length input)
    → Does c n tables tail input m (turn_of (Eq c n) (keeps c n tail) tables gain input want)
does-of c n tables gain tail input want m count is =
    let turned = turn_of (Eq c n) (keeps c n tail) tables gain input want in
    let all = all-sections tables n count in
    let eaten : turned.eaten ≡ m = eaten-unrated (length input) want ∙ sym is in
    let given : turned.given ≡ m = given-unrated (length input) want ∙ sym is in
    record {
      eaten = eaten;
      given = given;
      frames = ap (λ list. sections_on c list tail (take turned.given input)) all ∙ ap (λ k. sections_on c tables.sections tail (take k input)) given;
      kept = kept-at c n ((0 + turned.given * 1) % 1) (pos 0 +ℤ pos turned.eaten -ℤ pos ((0 + turned.given * 1) / 1)) (past_behind c (sections_of tables n) tail (take turned.eaten input)) (past_behind c tables.sections tail (take m input))
          (omega arith) (omega (arith, ints, eaten, given))
          (ap (λ list. past_behind c list tail (take turned.eaten input)) all ∙ ap (λ k. past_behind c tables.sections tail (take k input)) eaten);
    }

pub does : (c n : ℕ) (tables : Filters) (gain : Gain) (tail : List Frame) (samples : List ℤ) (want m : ℕ) → length tables.sections ≡ n → m ≡ min want (length samples / c)
    → Does c n tables tail (frames_of c samples) m (fed (keeps c n tail) tables gain samples want)
does c n tables gain tail samples want m count is =
    let kept = keeps c n tail in
    let input = frames_of c samples in
    rw (fed-fitted (Eq c n) kept tables gain samples want refl) (rw (turn-fitted (Eq c n) kept tables gain input want refl)
    (does-of c n tables gain tail input want m count (is ∙ ap (min want) (sym (length-frames_of c samples)))))

-- the first frames of samples are there, and are whole
pub front-within : (c m : ℕ) (samples : List ℤ) → m ≤ length samples / c → m * c ≤ length samples
front-within c m samples within = omega (arith, mul-le-mul_right c within, div-mul-le_self (length samples) c)

pub front-frames : (c m : ℕ) (samples : List ℤ) → 0 < c → m ≤ length samples / c → frames_of c (take (m * c) samples) ≡ take m (frames_of c samples)
front-frames c m samples above within = ap (frames_of c) (sym (interleaved-take c m samples within)) ∙ cut
  where
    cut : frames_of c (interleaved (take m (frames_of c samples))) ≡ take m (frames_of c samples)
    cut = frames_of-interleaved c (take m (frames_of c samples)) above (All-take (λ (frame : Frame). length frame ≡ c) m (frames_of c samples) (frames_of-channels c samples))
