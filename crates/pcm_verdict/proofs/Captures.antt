-- A file that was judged has the shape of the device, if it is recorded from: what is recorded is in the device's layout.
use Rattle.std.proofs.Common.{◌≡◌, ℕ, Bool, true, false, ◌&&◌, not, cond, List, Option, None, Some, Result, Ok, Err, All, IfSome, position, slice_get, refl, sym, ap, ◌∙◌, subst, arith}
use Rattle.std.proofs.lemmas.List.Quantifiers.{position-Some}
use Rattle.std.proofs.lemmas.Bool.Decides.{nat_tests}
use Rattle.std.proofs.lemmas.Option.{get_or_from_slice_get, slice_get_within}
use Rattle.pcm_format.specs.declared.layout.Layout.{Layout}
use Rattle.pcm_format.specs.declared.layout.Layout.TheVariants.{One, Two, Four, Six, Eight}
use Rattle.pcm_format.specs.Layouts.{channels_of, layout_of}
use Rattle.pcm_format.specs.declared.settings.Settings.{Settings}
use Rattle.pcm_wave.specs.declared.wave.Wave.{Wave}
use Rattle.pcm_wave.specs.declared.wave.WaveFault.{WaveFault}
use Rattle.pcm_wave.specs.DataFiles.{DataFileSeen}
use Rattle.pcm_wave.specs.Pools.{IsCaptureIn, file_at}
use Rattle.pcm_config.specs.declared.config.Config.{Config}
use Rattle.pcm_config.specs.declared.config.FilePath.{FilePath}
use Rattle.pcm_verdict.specs.Captures.{IsShaped, capture_place, has_name}
use Rattle.pcm_verdict.specs.Faults.{Fault, BadWave, NoWave, Shape}
use Rattle.pcm_verdict.specs.Outputs.{inputs_pool}
use Rattle.pcm_verdict.specs.Verdict.{Inputs, file_of, has_shape, is_capture}

-- ---- the shape of a wave

-- the layout with the channels of a layout is that layout
layout-known : (layout : Layout) → layout_of (channels_of layout) ≡ Some layout
layout-known One = refl
layout-known Two = refl
layout-known Four = refl
layout-known Six = refl
layout-known Eight = refl

-- two layouts with as many channels are one
layouts-same : (one other : Layout) → channels_of one ≡ channels_of other → one ≡ other
layouts-same one other same =
    let e : Some one ≡ Some other = sym (layout-known one) ∙ ap layout_of same ∙ layout-known other in cc

-- a wave of the shape of settings has their layout
shape-layout : (settings : Settings) (wave : Wave) → has_shape settings wave ≡ true → wave.layout ≡ settings.layout
shape-layout settings wave shaped =
    layouts-same wave.layout settings.layout (let e : channels_of wave.layout ≡ channels_of settings.layout = grind (arith, nat_tests) in e)

-- ---- a file that was judged

-- the file of a judgement, or another
abbrev made_or : DataFileSeen → Result DataFileSeen Fault → DataFileSeen
made_or other (Ok made) = made
made_or other (Err fault) = other

-- whether a judgement gave a file
abbrev is_made : Result DataFileSeen Fault → Bool
is_made (Ok made) = true
is_made (Err fault) = false

-- a refusal is no file
refused-not : (fault : Fault) (made : DataFileSeen) (P : Type 0) → (r : Result DataFileSeen Fault) → r ≡ Err fault → r ≡ Ok made → P
refused-not fault made P r refused is = absurd (let e : false ≡ true = sym (ap is_made refused) ∙ ap is_made is in cc)

either : (b shaped : Bool) (one made : DataFileSeen) (fault : Fault) (P : DataFileSeen → Type 0) → cond (b && not shaped) (Err fault) (Ok one) ≡ Ok made → ((b ≡ true → shaped ≡ true) → P one) → P made
either false shaped one made fault P is holds = subst P (ap (made_or one) is) (holds (λ t. absurd (let e : false ≡ true = t in cc)))
either true true one made fault P is holds = subst P (ap (made_or one) is) (holds (λ t. refl))
either true false one made fault P is holds = refused-not fault made (P made) (Err fault) refl is

-- a file that was judged has the shape that it is to have
pub file_of-shaped : (config : Config) (file : FilePath) (bytes : List ℕ) (r : Result Wave WaveFault) (made : DataFileSeen) → file_of config file bytes r ≡ Ok made → IsShaped config made
file_of-shaped config file bytes (Err fault) made is = refused-not (BadWave file.path (NoWave fault)) made (IsShaped config made) (Err (BadWave file.path (NoWave fault))) refl is
file_of-shaped config file bytes (Ok wave) made is =
    either (is_capture config.capture file.name) (has_shape config.device.settings wave) (record { name = file.name; bytes = bytes; wave = wave }) made (BadWave file.path Shape) (IsShaped config) is (λ holds. holds)

-- ---- the file that is recorded from

found-file : (P : DataFileSeen → Type 0) (found : Option DataFileSeen) → ((file : DataFileSeen) → found ≡ Some file → P file) → IfSome found P
found-file P None each = tt
found-file P (Some file) each = each file refl

found-at : (P : DataFileSeen → Type 0) (files : List DataFileSeen) (place : Option ℕ) → ((at : ℕ) (file : DataFileSeen) → place ≡ Some at → slice_get files at ≡ Some file → P file) → IfSome (file_at files place) P
found-at P files None each = tt
found-at P files (Some at) each = found-file P (slice_get files at) (λ file there. each at file refl there)

-- the file at the place of a name has that name
has_name-found : (name : List ℕ) (files : List DataFileSeen) (at : ℕ) (file : DataFileSeen) → position (has_name name) files ≡ Some at → slice_get files at ≡ Some file → has_name name file ≡ true
has_name-found name files at file is there =
    subst (λ (found : DataFileSeen). has_name name found ≡ true) (get_or_from_slice_get files at file file there) (position-Some (has_name name) files at file is).1

-- what is recorded is in a layout, where each file that may be recorded from has it
capture-shaped : (config : Config) (capture : Option (List ℕ)) (files : List DataFileSeen) → config.capture ≡ capture → All (IsShaped config) files
    → IfSome (file_at files (capture_place capture files)) (λ file. file.wave.layout ≡ config.device.settings.layout)
capture-shaped config None files same shaped = tt
capture-shaped config (Some name) files same shaped =
    found-at (λ file. file.wave.layout ≡ config.device.settings.layout) files (position (has_name name) files)
    (λ at file is there.
    let shape : IsShaped config file = subst (IsShaped config) (get_or_from_slice_get files at file file there) (shaped at file (slice_get_within files at file there)) in
    let named : is_capture config.capture file.name ≡ true = ap (λ (c : Option (List ℕ)). is_capture c file.name) same ∙ has_name-found name files at file is there in
    shape-layout config.device.settings file.wave (shape named))

-- what a script is run on is recorded in the layout of the device
pub captures-in : (inputs : Inputs) → All (IsShaped inputs.config) inputs.files → IsCaptureIn inputs.config.device.settings.layout (inputs_pool inputs)
captures-in inputs shaped = capture-shaped inputs.config inputs.config.capture inputs.files refl shaped
