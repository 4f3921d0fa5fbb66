-- What comes of a file of each kind that was read, and what its part begins with.
use Rattle.std.proofs.Common.{◌≡◌, ℕ, ◌+◌, ◌-◌, ◌<◌, ◌≤◌, List, length, slice_get, Option, None, Some, Result, Ok, Err, sym, ◌∙◌, ap, subst, arith}
use Rattle.std.proofs.lemmas.Bool.Decides.{nat_tests}
use Rattle.pcm_format.specs.declared.settings.Settings.{Settings}
use Rattle.pcm_outside.specs.Files.{FilesSeen, ReadsFile}
use Rattle.pcm_wave.specs.DataFiles.{DataFileSeen}
use Rattle.pcm_wave.specs.Waves.{wave_of}
use Rattle.pcm_wave.specs.declared.pool.TheConstants.{DATA_BYTES}
use Rattle.pcm_config.specs.declared.config.Config.{Config}
use Rattle.pcm_config.specs.declared.config.FilePath.{FilePath}
use Rattle.pcm_config.specs.declared.fault.ConfigKind.TheVariants as config_kinds
use Rattle.pcm_config.specs.declared.limits.TheConstants.{CONFIG_BYTES}
use Rattle.pcm_config.specs.declared.place.ConfigPlace.TheVariants as places
use Rattle.pcm_config.specs.Configs.{config_read, usual_config}
use Rattle.pcm_desk.specs.Device.{unfiltered}
use Rattle.pcm_script.specs.declared.limits.TheConstants.{TEXT_BYTES}
use Rattle.pcm_script.specs.declared.script.Script.{Script}
use Rattle.pcm_script.specs.Lines.{script_read}
use Rattle.pcm_script.proofs.Reading.{script_read-long}
use Rattle.pcm_verdict.specs.Faults.{Fault, BadWave, Long}
use Rattle.pcm_verdict.specs.Judging.{judge}
use Rattle.pcm_verdict.specs.Verdict.{Conversion, bytes_held, conversion_from, conversion_of, file_behind, file_of, or_bad_config, or_bad_script}
use Rattle.pcm_inputs.specs.Commands.{MayNameFiles}
use Rattle.pcm_inputs.specs.Faults.{file_kind_seen}
use Rattle.pcm_inputs.specs.declared.fault.FileKind.{FileKind}
use Rattle.pcm_inputs.specs.Parts.{FileJudged, IsConfig, IsPath, config_part, conversion_part, data_part, file_part, script_part}
use Rattle.pcm_inputs.specs.Reads.{Comes}
use Rattle.pcm_inputs.proofs.Fronts.{comes-judged}
use Rattle.pcm_inputs.proofs.Parts.{LeadsTo, leads-first}

-- ---- the configuration

config_read-long : (text : List ℕ) → CONFIG_BYTES < length text → config_read text ≡ Err (record { kind = config_kinds.Long; place = places.Top })
unfolding config_read
config_read-long text long = grind (arith, nat_tests)

pub config-comes : (config : Option (List ℕ)) (name bytes : List ℕ) (files : FilesSeen) (came : Result Config Fault) → config ≡ Some name → ReadsFile files name (CONFIG_BYTES + 1) bytes
    → or_bad_config (config_read bytes) ≡ came → Comes (config_part config) came files
config-comes config name bytes files came named reads is = subst (λ (c : Option (List ℕ)). Comes (config_part c) came files) (sym named)
    (comes-judged (λ text. or_bad_config (config_read text)) name (IsConfig (Some name)) CONFIG_BYTES files bytes came
    (record { long = λ one other first second. ap or_bad_config (config_read-long one first) ∙ sym (ap or_bad_config (config_read-long other second)) }) reads is)

pub config-begins : (config : Option (List ℕ)) (name : List ℕ) (files : FilesSeen) → config ≡ Some name → LeadsTo (config_part config) (file_part name) files
config-begins config name files named = subst (λ (c : Option (List ℕ)). LeadsTo (config_part c) (file_part name) files) (sym named)
    (leads-first (file_part name) (λ content text. judge (or_bad_config (config_read text))) (IsConfig (Some name)) files (λ other same. same))

-- the usual configuration names no files
pub no-paths : (config : Config) (path : List ℕ) → config ≡ usual_config → IsPath config path → ⊥
no-paths config path usual is = let none : None ≡ Some is.file = subst (λ (c : Config). slice_get c.files is.place ≡ Some is.file) usual is.there in cc

-- with a name, a configuration may name files
pub may-name : (config : Option (List ℕ)) (name : List ℕ) → config ≡ Some name → MayNameFiles config
may-name config name named = subst MayNameFiles (sym named) tt

-- ---- the script

pub script-comes : (config : Config) (waves : List DataFileSeen) (name bytes : List ℕ) (files : FilesSeen) (came : Result Script Fault) → ReadsFile files name (TEXT_BYTES + 1) bytes
    → or_bad_script (script_read (unfiltered config.device) waves bytes) ≡ came → Comes (script_part config waves name) came files
script-comes config waves name bytes files came reads is =
    comes-judged (λ text. or_bad_script (script_read (unfiltered config.device) waves text)) name (λ other. other ≡ name) TEXT_BYTES files bytes came
    (record { long = λ one other first second. ap or_bad_script (script_read-long (unfiltered config.device) waves one first) ∙ sym (ap or_bad_script (script_read-long (unfiltered config.device) waves other second)) })
    reads is

pub script-begins : (config : Config) (waves : List DataFileSeen) (name : List ℕ) (files : FilesSeen) → LeadsTo (script_part config waves name) (file_part name) files
script-begins config waves name files =
    leads-first (file_part name) (λ content text. judge (or_bad_script (script_read (unfiltered config.device) waves text))) (λ other. other ≡ name) files (λ other same. same)

-- ---- the wave that is to be converted

pub conversion-long : (name : List ℕ) (target : Settings) (bytes : List ℕ) → DATA_BYTES < length bytes → conversion_of name target bytes ≡ Err (BadWave name Long)
conversion-long name target bytes long = grind (arith, nat_tests)

pub conversion-short : (name : List ℕ) (target : Settings) (bytes : List ℕ) → length bytes ≤ DATA_BYTES → conversion_of name target bytes ≡ conversion_from name target bytes (wave_of bytes)
conversion-short name target bytes short = grind (arith, nat_tests)

pub conversion-comes : (name : List ℕ) (target : Settings) (bytes : List ℕ) (files : FilesSeen) (came : Result Conversion Fault) → ReadsFile files name (DATA_BYTES + 1) bytes
    → conversion_of name target bytes ≡ came → Comes (conversion_part name target) came files
conversion-comes name target bytes files came reads is = comes-judged (conversion_of name target) name (λ other. other ≡ name) DATA_BYTES files bytes came
    (record { long = λ one other first second. conversion-long name target one first ∙ sym (conversion-long name target other second) }) reads is

pub conversion-begins : (name : List ℕ) (target : Settings) (files : FilesSeen) → LeadsTo (conversion_part name target) (file_part name) files
conversion-begins name target files = leads-first (file_part name) (λ content bytes. judge (conversion_of name target bytes)) (λ other. other ≡ name) files (λ other same. same)

-- ---- a data file after others

pub file-long : (config : Config) (before : List DataFileSeen) (file : FilePath) (bytes : List ℕ) → DATA_BYTES - bytes_held before < length bytes → file_behind config before file bytes ≡ Err (BadWave file.path Long)
file-long config before file bytes long = grind (arith, nat_tests)

pub file-short : (config : Config) (before : List DataFileSeen) (file : FilePath) (bytes : List ℕ) → length bytes ≤ DATA_BYTES - bytes_held before
    → file_behind config before file bytes ≡ file_of config file bytes (wave_of bytes)
file-short config before file bytes short = grind (arith, nat_tests)

pub file-comes : (config : Config) (before : List DataFileSeen) (file : FilePath) (path : List ℕ) (most : ℕ) (bytes : List ℕ) (files : FilesSeen) (came : Result DataFileSeen Fault)
    → path ≡ file.path → most ≡ DATA_BYTES - bytes_held before → ReadsFile files path (most + 1) bytes → file_behind config before file bytes ≡ came → Comes (data_part config before file) came files
file-comes config before file path most bytes files came same_path same_most reads is =
    comes-judged (file_behind config before file) file.path (λ name. name ≡ file.path) most files bytes came
    (record {
      long = λ one other first second. file-long config before file one (omega (arith, same_most)) ∙ sym (file-long config before file other (omega (arith, same_most)));
    })
    (subst (λ (p : List ℕ). ReadsFile files p (most + 1) bytes) same_path reads) is

pub file-begins : (config : Config) (before : List DataFileSeen) (file : FilePath) (path : List ℕ) (files : FilesSeen) → path ≡ file.path → LeadsTo (data_part config before file) (file_part path) files
file-begins config before file path files same_path = subst (λ (p : List ℕ). LeadsTo (data_part config before file) (file_part p) files) (sym same_path)
    (leads-first (file_part file.path) (λ content bytes. judge (file_behind config before file bytes)) (λ name. name ≡ file.path) files (λ other same. same))

-- what is judged of a file's bytes under its name
pub file-judged : (config : Config) (before : List DataFileSeen) (file : FilePath) (name bytes : List ℕ) (made : DataFileSeen) → name ≡ file.name → length bytes ≤ DATA_BYTES - bytes_held before
    → FileJudged config name bytes (Ok made) → file_behind config before file bytes ≡ Ok made
file-judged config before file name bytes made same short judged =
    file-short config before file bytes short ∙ subst (λ (own : List ℕ). file_of config (record { name = own; path = file.path }) bytes (wave_of bytes) ≡ Ok made) same (judged file.path)

pub file-refused : (config : Config) (before : List DataFileSeen) (file : FilePath) (name bytes : List ℕ) (kind : FileKind) → name ≡ file.name → length bytes ≤ DATA_BYTES - bytes_held before
    → FileJudged config name bytes (Err kind) → file_behind config before file bytes ≡ Err (BadWave file.path (file_kind_seen kind))
file-refused config before file name bytes kind same short judged =
    file-short config before file bytes short
    ∙ subst (λ (own : List ℕ). file_of config (record { name = own; path = file.path }) bytes (wave_of bytes) ≡ Err (BadWave file.path (file_kind_seen kind))) same (judged file.path)
