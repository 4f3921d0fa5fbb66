-- All that a script is run on: its configuration, the data files of that, and then the script.
use Rattle.std.proofs.Common.{◌≡◌, ◌⊎◌, ℕ, List, [], Option, None, Some, Ok, refl, sym, subst, inl, inr}
use Rattle.pcm_outside.specs.Files.{FilesSeen}
use Rattle.pcm_wave.specs.DataFiles.{DataFileSeen}
use Rattle.pcm_config.specs.declared.config.Config.{Config}
use Rattle.pcm_script.specs.declared.script.Script.{Script}
use Rattle.pcm_verdict.specs.Judging.{◌>>=◌, Contents, Judged, given}
use Rattle.pcm_verdict.specs.Verdict.{Inputs, inputs_under, script_judged}
use Rattle.pcm_inputs.specs.Commands.{MayNameFiles}
use Rattle.pcm_inputs.specs.Parts.{IsConfig, IsPath, config_part, data_behind, inputs_part, script_part}
use Rattle.pcm_inputs.specs.Reads.{Comes}
use Rattle.pcm_inputs.proofs.Parts.{LeadsTo, comes-next, leads-first, leads-next, leads-on}

-- the names that are read for a script
abbrev AreNames : List ℕ → Option (List ℕ) → List ℕ → Type 0
AreNames script config name = (name ≡ script) ⊎ MayNameFiles config

-- a script after its configuration and data files
abbrev script_then : Config → List ℕ → Contents → List DataFileSeen → Judged Inputs
script_then settled name content files = script_judged content settled files name >>= (λ script. given (record { config = settled; files = files; script = script }))

config-allowed : (script : List ℕ) (config : Option (List ℕ)) (name : List ℕ) → IsConfig config name → AreNames script config name
config-allowed script None name is = absurd is
config-allowed script (Some config) name is = inr tt

-- the whole begins with the configuration
pub leads-config : (script : List ℕ) (config : Option (List ℕ)) (files : FilesSeen) → LeadsTo (inputs_part script config) (config_part config) files
leads-config script config files = leads-first (config_part config) (λ content settled. inputs_under content settled script) (AreNames script config) files (config-allowed script config)

-- to what follows it
leads-under : (script : List ℕ) (config : Option (List ℕ)) (settled : Config) (files : FilesSeen) → Comes (config_part config) (Ok settled) files
    → LeadsTo (inputs_part script config) (record { judged = λ content. inputs_under content settled script; may = AreNames script config }) files
leads-under script config settled files came =
    leads-next (config_part config) (λ content made. inputs_under content made script) (AreNames script config) (AreNames script config) files settled came (λ name allowed. allowed)

-- its data files
pub leads-files : (script : List ℕ) (config : Option (List ℕ)) (settled : Config) (files : FilesSeen) → Comes (config_part config) (Ok settled) files
    → ((path : List ℕ) → IsPath settled path → MayNameFiles config) → LeadsTo (inputs_part script config) (data_behind settled [] settled.files) files
leads-files script config settled files came paths =
    leads-on (inputs_part script config) (record { judged = λ content. inputs_under content settled script; may = AreNames script config }) (data_behind settled [] settled.files) files
    (leads-under script config settled files came)
    (leads-first (data_behind settled [] settled.files) (script_then settled script) (AreNames script config) files (λ name is. inr (paths name is)))

-- and the script, with the data files by another term for them
pub leads-script : (script : List ℕ) (config : Option (List ℕ)) (settled : Config) (waves list : List DataFileSeen) (files : FilesSeen) → Comes (config_part config) (Ok settled) files
    → Comes (data_behind settled [] settled.files) (Ok waves) files → list ≡ waves → LeadsTo (inputs_part script config) (script_part settled list script) files
leads-script script config settled waves list files came came_files same =
    subst (λ (l : List DataFileSeen). LeadsTo (inputs_part script config) (script_part settled l script) files) (sym same)
    (leads-on (inputs_part script config) (record { judged = λ content. inputs_under content settled script; may = AreNames script config }) (script_part settled waves script) files
    (leads-under script config settled files came)
    (leads-on (record { judged = λ content. inputs_under content settled script; may = AreNames script config }) (record { judged = λ content. script_then settled script content waves; may = AreNames script config }) (script_part settled waves script) files
    (leads-next (data_behind settled [] settled.files) (script_then settled script) (AreNames script config) (AreNames script config) files waves came_files (λ name allowed. allowed))
    (leads-first (script_part settled waves script) (λ content made. given (record { config = settled; files = waves; script = made })) (AreNames script config) files (λ name is. inl is))))

-- all three gave values
pub inputs-come : (script : List ℕ) (config : Option (List ℕ)) (settled : Config) (waves list : List DataFileSeen) (made : Script) (files : FilesSeen) → Comes (config_part config) (Ok settled) files
    → Comes (data_behind settled [] settled.files) (Ok waves) files → list ≡ waves → Comes (script_part settled list script) (Ok made) files
    → Comes (inputs_part script config) (Ok (record { config = settled; files = waves; script = made })) files
inputs-come script config settled waves list made files came came_files same came_script =
    comes-next (config_part config) (λ content s. inputs_under content s script) (AreNames script config) files settled (Ok (record { config = settled; files = waves; script = made })) came
    (comes-next (data_behind settled [] settled.files) (script_then settled script) (AreNames script config) files waves (Ok (record { config = settled; files = waves; script = made })) came_files
    (comes-next (script_part settled waves script) (λ content s. given (record { config = settled; files = waves; script = s })) (AreNames script config) files made (Ok (record { config = settled; files = waves; script = made }))
    (subst (λ (l : List DataFileSeen). Comes (script_part settled l script) (Ok made) files) same came_script) (λ told. refl)))
