-- What has a row is known by it.
use Rattle.std.proofs.Common.{arith, ◌≡◌, ℕ, Bool, true, false, Option, None, Some, List, [], ◌∷◌, ◌++◌, length, ◌<◌, lit<, get_or, map, refl, sym, ap, ◌∙◌}
use Rattle.pcm_format.specs.declared.format.Format.{Format}
use Rattle.pcm_format.specs.declared.format.Format.TheVariants.{U8}
use Rattle.pcm_format.specs.declared.layout.Layout.{Layout}
use Rattle.pcm_format.specs.declared.layout.Layout.TheVariants.{One}
use Rattle.pcm_format.specs.Formats.{code_of, format_with_code}
use Rattle.pcm_format.specs.Layouts.{channels_of, layout_of}
use Rattle.pcm_group.specs.declared.sync_groups.Groups.{Groups}
use Rattle.pcm_mixdev.specs.Mixers.{Levels}
use Rattle.pcm_oss.specs.declared.event.Way.{Way}
use Rattle.pcm_oss.specs.declared.event.Way.TheVariants.{Play, Record, Map}
use Rattle.pcm_desk.specs.declared.device.Held.{Held}
use Rattle.pcm_desk.specs.declared.map_book.MapBook.{MapBook}
use Rattle.pcm_desk.specs.declared.opening.Opening.{Opening}
use Rattle.pcm_desk.specs.declared.play_book.PlayBook.{PlayBook}
use Rattle.pcm_desk.specs.declared.play_book.PlayState.{PlayState}
use Rattle.pcm_desk.specs.declared.play_book.PlayState.TheVariants.{Free, Setup, Primed, Running, Draining}
use Rattle.pcm_desk.specs.declared.record_book.RecordBook.{RecordBook}
use Rattle.pcm_desk.specs.declared.run_state.RunState.{RunState}
use Rattle.pcm_desk.specs.declared.run_state.RunState.TheVariants.{Free as RunFree, Setup as RunSetup, Running as RunRunning}
use Rattle.pcm_state.specs.GroupRows.{groups_row, FitsGroups}
use Rattle.pcm_state.specs.HeldRows.{held_number, held_row, way_code}
use Rattle.pcm_state.specs.MapRows.{map_book_row}
use Rattle.pcm_state.specs.MixerRows.{mixer_row, FitsMixer}
use Rattle.pcm_state.specs.OpeningRows.{flag, opening_row}
use Rattle.pcm_state.specs.PlayRows.{play_code, play_book_row}
use Rattle.pcm_state.specs.RecordRows.{record_book_row, run_code}
use Rattle.pcm_state.proofs.Pieces.{front-known, images-known, rest-known}

format-coded : (format : Format) → format_with_code (code_of format) ≡ Some format
format-coded U8 = refl
format-coded _ = refl

layout-counted : (layout : Layout) → layout_of (channels_of layout) ≡ Some layout
layout-counted One = refl
layout-counted _ = refl

format-known : (one other : Format) → code_of one ≡ code_of other → one ≡ other
format-known one other same = let e : Some one ≡ Some other = sym (format-coded one) ∙ ap format_with_code same ∙ format-coded other in cc

layout-known : (one other : Layout) → channels_of one ≡ channels_of other → one ≡ other
layout-known one other same = let e : Some one ≡ Some other = sym (layout-counted one) ∙ ap layout_of same ∙ layout-counted other in cc

pub flag-known : (one other : Bool) → flag one ≡ flag other → one ≡ other
flag-known true true same = refl
flag-known true false same = cc
flag-known false true same = cc
flag-known false false same = refl

pub flags-known : (one other : List Bool) → map flag one ≡ map flag other → one ≡ other
flags-known = images-known flag flag-known

-- the states, each at the place of its number
abbrev play_states : List PlayState
play_states = Free ∷ Setup ∷ Primed ∷ Running ∷ Draining false ∷ Draining true ∷ []

play_state-at : (state : PlayState) → get_or play_states (play_code state) Free ≡ state
play_state-at (Draining false) = refl
play_state-at (Draining true) = refl
play_state-at Free = refl
play_state-at _ = refl

play_state-known : (one other : PlayState) → play_code one ≡ play_code other → one ≡ other
play_state-known one other same = sym (play_state-at one) ∙ ap (λ code. get_or play_states code Free) same ∙ play_state-at other

abbrev run_states : List RunState
run_states = RunFree ∷ RunSetup ∷ RunRunning ∷ []

run_state-at : (state : RunState) → get_or run_states (run_code state) RunFree ≡ state
run_state-at RunFree = refl
run_state-at _ = refl

run_state-known : (one other : RunState) → run_code one ≡ run_code other → one ≡ other
run_state-known one other same = sym (run_state-at one) ∙ ap (λ code. get_or run_states code RunFree) same ∙ run_state-at other

-- ---- openings and books

abbrev opening_with : Format → ℕ → Layout → ℕ → ℕ → Bool → ℕ → Opening
opening_with format rate layout count log trigger told = record {
  settings = record { format = format; layout = layout; rate = rate };
  fragments = record { log = log; count = count };
  trigger = trigger;
  told = told;
}

pub opening-known : (one other : Opening) → opening_row one ≡ opening_row other → one ≡ other
opening-known one other same =
    let format = format-known one.settings.format other.settings.format cc in
    let layout = layout-known one.settings.layout other.settings.layout cc in
    let trigger = flag-known one.trigger other.trigger cc in
    let e : opening_with one.settings.format one.settings.rate one.settings.layout one.fragments.count one.fragments.log one.trigger one.told
    ≡ opening_with other.settings.format other.settings.rate other.settings.layout other.fragments.count other.fragments.log other.trigger other.told = cc in
    e

abbrev play_with : Opening → ℕ → PlayState → ℕ → ℕ → ℕ → ℕ → ℕ → ℕ → PlayBook
play_with opening volume state written eaten given done underruns last = record {
  opening = opening;
  volume = volume;
  state = state;
  written = written;
  eaten = eaten;
  given = given;
  done = done;
  underruns = underruns;
  last = last;
}

pub play-known : (one other : PlayBook) → play_book_row one ≡ play_book_row other → one ≡ other
play-known one other same =
    let opening = opening-known one.opening other.opening cc in
    let state = play_state-known one.state other.state cc in
    let e : play_with one.opening one.volume one.state one.written one.eaten one.given one.done one.underruns one.last
    ≡ play_with other.opening other.volume other.state other.written other.eaten other.given other.done other.underruns other.last = cc in
    e

abbrev record_with : Opening → RunState → ℕ → ℕ → ℕ → ℕ → ℕ → RecordBook
record_with opening state captured given kept read overruns = record {
  opening = opening;
  state = state;
  captured = captured;
  given = given;
  kept = kept;
  read = read;
  overruns = overruns;
}

pub record-known : (one other : RecordBook) → record_book_row one ≡ record_book_row other → one ≡ other
record-known one other same =
    let opening = opening-known one.opening other.opening cc in
    let state = run_state-known one.state other.state cc in
    let e : record_with one.opening one.state one.captured one.given one.kept one.read one.overruns
    ≡ record_with other.opening other.state other.captured other.given other.kept other.read other.overruns = cc in
    e

abbrev map_with : Opening → ℕ → RunState → ℕ → ℕ → MapBook
map_with opening volume state eaten given = record { opening = opening; volume = volume; state = state; eaten = eaten; given = given }

pub map-known : (one other : MapBook) → map_book_row one ≡ map_book_row other → one ≡ other
map-known one other same =
    let opening = opening-known one.opening other.opening cc in
    let state = run_state-known one.state other.state cc in
    let e : map_with one.opening one.volume one.state one.eaten one.given ≡ map_with other.opening other.volume other.state other.eaten other.given = cc in
    e

-- ---- mixers, groups and descriptors

abbrev mixer_with : ℕ → List ℕ → List Bool → Levels
mixer_with master volumes muted = record { master = master; volumes = volumes; muted = muted }

pub mixer-known : (one other : Levels) → FitsMixer one → FitsMixer other → mixer_row one ≡ mixer_row other → one ≡ other
mixer-known one other fits its same =
    let even : length one.volumes ≡ length other.volumes = fits.volumes ∙ sym its.volumes in
    let master : one.master ≡ other.master = cc in
    let rest : one.volumes ++ map flag one.muted ≡ other.volumes ++ map flag other.muted = cc in
    let volumes = front-known one.volumes (map flag one.muted) other.volumes (map flag other.muted) even rest in
    let muted = flags-known one.muted other.muted (rest-known one.volumes (map flag one.muted) other.volumes (map flag other.muted) even rest) in
    let e : mixer_with one.master one.volumes one.muted ≡ mixer_with other.master other.volumes other.muted = cc in
    e

abbrev groups_with : List ℕ → List ℕ → Groups
groups_with play recording = record { play = play; recording = recording }

pub groups-known : (one other : Groups) → FitsGroups one → FitsGroups other → groups_row one ≡ groups_row other → one ≡ other
groups-known one other fits its same =
    let even : length one.play ≡ length other.play = fits.play.count ∙ sym its.play.count in
    let play = front-known one.play one.recording other.play other.recording even same in
    let recording = rest-known one.play one.recording other.play other.recording even same in
    let e : groups_with one.play one.recording ≡ groups_with other.play other.recording = cc in
    e

abbrev ways : List Way
ways = Play ∷ Record ∷ Map ∷ []

way-at : (way : Way) → get_or ways (way_code way) Play ≡ way
way-at Play = refl
way-at _ = refl

way-known : (one other : Way) → way_code one ≡ way_code other → one ≡ other
way-known one other same = sym (way-at one) ∙ ap (λ code. get_or ways code Play) same ∙ way-at other

way-below : (way : Way) → way_code way < 3
way-below Play = lit< tt
way-below _ = lit< tt

abbrev held_with : Way → ℕ → Option Held
held_with way slot = Some (record { way = way; slot = slot })

held_number-known : (one other : Option Held) → held_number one ≡ held_number other → one ≡ other
held_number-known None None same = refl
held_number-known None (Some other) same = absurd (omega arith)
held_number-known (Some one) None same = absurd (omega arith)
held_number-known (Some one) (Some other) same =
    let small = way-below one.way in
    let less = way-below other.way in
    let slot : one.slot ≡ other.slot = omega arith in
    let code : way_code one.way ≡ way_code other.way = omega arith in
    let way = way-known one.way other.way code in
    let e : held_with one.way one.slot ≡ held_with other.way other.slot = cc in
    e

pub held-known : (one other : List (Option Held)) → held_row one ≡ held_row other → one ≡ other
held-known = images-known held_number held_number-known
