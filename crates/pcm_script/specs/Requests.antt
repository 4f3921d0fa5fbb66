-- What is asked of a channel or of a group, by its name.
use Rattle.std.specs.Prelude.{ℕ, List, [], ◌∷◌, Option, Some, None, Result, Ok, Err, find}
use Rattle.std.specs.Str.{bytes_eq}
use Rattle.pcm_oss.specs.declared.event.Event.{Event}
use Rattle.pcm_oss.specs.declared.event.Event.TheVariants.{Ioctl, Join, StartGroup}
use Rattle.pcm_oss.specs.declared.request.Request.{Request}
use Rattle.pcm_oss.specs.declared.request.Request.TheVariants as requests
use Rattle.pcm_script.specs.declared.fault.ScriptKind.{ScriptKind}
use Rattle.pcm_script.specs.declared.fault.ScriptKind.TheVariants.{Count}
use Rattle.pcm_script.specs.declared.request.Named.{Named}
use Rattle.pcm_script.specs.declared.request.Named.TheVariants.{Plain, Full}
use Rattle.pcm_script.specs.declared.request.Setter.{Setter}
use Rattle.pcm_script.specs.declared.request.Setter.TheVariants as setters
use Rattle.pcm_script.specs.Names.{join_name, request_name, start_group_name}

-- what a line asks by a name, of a descriptor and with an argument
abbrev pub asked_with : Setter → ℕ → ℕ → Event
asked_with setters.SetFmt fd argument = Ioctl fd (requests.SetFmt argument)
asked_with setters.Speed fd argument = Ioctl fd (requests.Speed argument)
asked_with setters.Channels fd argument = Ioctl fd (requests.Channels argument)
asked_with setters.SetFragment fd argument = Ioctl fd (requests.SetFragment argument)
asked_with setters.SetTrigger fd argument = Ioctl fd (requests.SetTrigger argument)
asked_with setters.SetPlayVol fd argument = Ioctl fd (requests.SetPlayVol argument)
asked_with setters.Join fd group = Join fd group
asked_with setters.StartGroup fd group = StartGroup fd group

-- the name by which an event asks, whatever its argument; that of another command has none
abbrev pub name_asked : Event → List ℕ
name_asked (Ioctl fd request) = request_name request
name_asked (Join fd group) = join_name
name_asked (StartGroup fd group) = start_group_name
name_asked event = []

-- all that a name can stand for
abbrev pub all_requests : List Named
all_requests =
    Full setters.SetFmt
    ∷ Full setters.Speed
    ∷ Full setters.Channels
    ∷ Plain requests.GetFmts
    ∷ Plain requests.GetCaps
    ∷ Plain requests.GetBlkSize
    ∷ Full setters.SetFragment
    ∷ Plain requests.GetOSpace
    ∷ Plain requests.GetISpace
    ∷ Plain requests.GetOPtr
    ∷ Plain requests.GetIPtr
    ∷ Plain requests.GetODelay
    ∷ Plain requests.GetError
    ∷ Full setters.SetTrigger
    ∷ Plain requests.GetTrigger
    ∷ Full setters.SetPlayVol
    ∷ Plain requests.GetPlayVol
    ∷ Plain requests.Post
    ∷ Plain requests.Sync
    ∷ Plain requests.Halt
    ∷ Full setters.Join
    ∷ Full setters.StartGroup
    ∷ []

-- the word that names it
abbrev pub name_in_table : Named → List ℕ
name_in_table (Plain request) = request_name request
name_in_table (Full setter) = name_asked (asked_with setter 0 0)

-- what a name stands for, if a request has it
abbrev pub request_named : List ℕ → Option Named
request_named name = find (λ named. bytes_eq (name_in_table named) name) all_requests

-- A name that nothing follows: a request that has an argument has too few words then.
abbrev pub as_plain : Option Named → Result (Option Request) ScriptKind
as_plain None = Ok None
as_plain (Some (Plain request)) = Ok (Some request)
as_plain (Some (Full setter)) = Err Count

-- A name that an argument follows: a request that has none has too many words then.
abbrev pub as_full : Option Named → Result (Option Setter) ScriptKind
as_full None = Ok None
as_full (Some (Plain request)) = Err Count
as_full (Some (Full setter)) = Ok (Some setter)
