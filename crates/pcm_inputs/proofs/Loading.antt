-- The data files of a configuration, one after another.
use Rattle.std.proofs.Common.{◌≡◌, ℕ, ◌+◌, ◌<◌, ◌≤◌, List, [], ◌∷◌, ◌++◌, length, drop, slice_get, Some, Ok, refl, sym, subst}
use Rattle.std.proofs.lemmas.List.{drop_all, drop_more}
use Rattle.std.proofs.lemmas.Option.{get_or_from_slice_get}
use Rattle.pcm_wave.specs.DataFiles.{DataFileSeen}
use Rattle.pcm_config.specs.declared.config.Config.{Config}
use Rattle.pcm_config.specs.declared.config.FilePath.{FilePath}
use Rattle.pcm_verdict.specs.Verdict.{files_behind}
use Rattle.pcm_inputs.specs.declared.ending.Ending.{Ending}
use Rattle.pcm_inputs.specs.Outside.{Outside}
use Rattle.pcm_inputs.specs.Parts.{IsPath, data_behind, data_part}
use Rattle.pcm_inputs.specs.Reads.{Comes, Ends, GivesValue, OnlyHasRead}
use Rattle.pcm_inputs.proofs.Parts.{LeadsTo, comes-before, comes-next, ends-later, has_read-later, leads-first, leads-next, leads-on, nothing}

-- the first `at` data files of a configuration were read
pub record HasLoaded (config : Config) (at : ℕ) (loaded : List DataFileSeen) (before now : Outside) : Type 0 where
  pub leads : LeadsTo (data_behind config [] config.files) (data_behind config loaded (drop at config.files)) before.files
  pub comes : (read : List DataFileSeen) → Comes (data_behind config loaded (drop at config.files)) (Ok read) before.files → Comes (data_behind config [] config.files) (Ok read) before.files
  pub only : OnlyHasRead before now

-- none was read yet
pub has_loaded-none : (config : Config) (outside : Outside) → HasLoaded config 0 [] outside outside
has_loaded-none config outside = record {
  leads = record { fault = λ fault came. came; names = λ name told among. among; may = λ name allowed. allowed };
  comes = λ read came. came;
  only = nothing outside;
}

-- the files that are left, at a file
left-at : (files : List FilePath) (at : ℕ) (file : FilePath) → at < length files → slice_get files at ≡ Some file → drop at files ≡ file ∷ drop (at + 1) files
left-at files at file within there = subst (λ (first : FilePath). drop at files ≡ first ∷ drop (at + 1) files) (get_or_from_slice_get files at file file there) (drop_more files at file within)

-- the whole leads to the files that are left
leads-left : (config : Config) (at : ℕ) (loaded : List DataFileSeen) (file : FilePath) (before now : Outside) → at < length config.files → slice_get config.files at ≡ Some file → HasLoaded config at loaded before now
    → LeadsTo (data_behind config [] config.files) (data_behind config loaded (file ∷ drop (at + 1) config.files)) before.files
leads-left config at loaded file before now within there sofar =
    subst (λ (files : List FilePath). LeadsTo (data_behind config [] config.files) (data_behind config loaded files) before.files) (left-at config.files at file within there) sofar.leads

-- one file more
pub has_loaded-next : (config : Config) (at : ℕ) (loaded : List DataFileSeen) (file : FilePath) (next : DataFileSeen) (before now after : Outside) → at < length config.files → slice_get config.files at ≡ Some file
    → HasLoaded config at loaded before now → GivesValue (data_part config loaded file) next now after → HasLoaded config (at + 1) (loaded ++ next ∷ []) before after
has_loaded-next config at loaded file next before now after within there sofar gives =
    let rest : List FilePath = drop (at + 1) config.files in
    let came : Comes (data_part config loaded file) (Ok next) before.files = comes-before (data_part config loaded file) (Ok next) before.files now.files sofar.only.files gives.came in
    record {
      leads = leads-on (data_behind config [] config.files) (data_behind config loaded (file ∷ rest)) (data_behind config (loaded ++ next ∷ []) rest) before.files
          (leads-left config at loaded file before now within there sofar)
          (leads-next (data_part config loaded file) (λ content found. files_behind content config (loaded ++ found ∷ []) rest) (IsPath config) (IsPath config) before.files next came (λ name allowed. allowed));
      comes = λ read later. sofar.comes read
          (subst (λ (files : List FilePath). Comes (data_behind config loaded files) (Ok read) before.files) (sym (left-at config.files at file within there))
          (comes-next (data_part config loaded file) (λ content found. files_behind content config (loaded ++ found ∷ []) rest) (IsPath config) before.files next (Ok read) came later));
      only = has_read-later before now after sofar.only gives.only;
    }

-- all were read
pub has_loaded-all : (config : Config) (at : ℕ) (loaded : List DataFileSeen) (before now : Outside) → length config.files ≤ at → HasLoaded config at loaded before now
    → GivesValue (data_behind config [] config.files) loaded before now
has_loaded-all config at loaded before now past sofar = record {
  came = sofar.comes loaded (subst (λ (files : List FilePath). Comes (data_behind config loaded files) (Ok loaded) before.files) (sym (drop_all at config.files past)) (λ told. refl));
  only = sofar.only;
}

-- one ended the call
pub has_loaded-ends : (config : Config) (at : ℕ) (loaded : List DataFileSeen) (file : FilePath) (ending : Ending) (before now after : Outside) → at < length config.files → slice_get config.files at ≡ Some file
    → HasLoaded config at loaded before now → Ends (data_part config loaded file) now after ending → Ends (data_behind config [] config.files) before after ending
has_loaded-ends config at loaded file ending before now after within there sofar ends =
    let rest : List FilePath = drop (at + 1) config.files in
    ends-later (data_behind config [] config.files) (data_part config loaded file) ending before now after sofar.only
    (leads-on (data_behind config [] config.files) (data_behind config loaded (file ∷ rest)) (data_part config loaded file) before.files
    (leads-left config at loaded file before now within there sofar)
    (leads-first (data_part config loaded file) (λ content found. files_behind content config (loaded ++ found ∷ []) rest) (IsPath config) before.files
    (λ name same. record { place = at; file = file; there = there; is = same })))
    ends
