-- The words of a script's language: commands, ways, requests, what is asked of groups and of the mixer device, each with the one word that names it.
use Rattle.std.specs.Prelude.{ℕ, List, [], ◌∷◌, Option, find, codes}
use Rattle.std.specs.Str.{bytes_eq}
use Rattle.pcm_oss.specs.declared.event.Way.{Way}
use Rattle.pcm_oss.specs.declared.event.Way.TheVariants.{Play, Record, Map}
use Rattle.pcm_oss.specs.declared.request.Request.{Request}
use Rattle.pcm_oss.specs.declared.request.Request.TheVariants as requests
use Rattle.pcm_script.specs.declared.names.Command.{Command}
use Rattle.pcm_script.specs.declared.names.Command.TheVariants.{Open, Write, Send, Poke, Read, Ioctl, Close, Mixer, Intr}
use Rattle.pcm_script.specs.declared.names.Control.{Control}
use Rattle.pcm_script.specs.declared.names.Control.TheVariants.{Master, Slot, Mute}

-- the word that names a command
abbrev pub command_name : Command → List ℕ
command_name Open = codes "open"
command_name Write = codes "write"
command_name Send = codes "send"
command_name Poke = codes "poke"
command_name Read = codes "read"
command_name Ioctl = codes "ioctl"
command_name Close = codes "close"
command_name Mixer = codes "mixer"
command_name Intr = codes "intr"

abbrev pub all_commands : List Command
all_commands = Open ∷ Write ∷ Send ∷ Poke ∷ Read ∷ Ioctl ∷ Close ∷ Mixer ∷ Intr ∷ []

-- the command that a word names
abbrev pub command_named : List ℕ → Option Command
command_named word = find (λ command. bytes_eq (command_name command) word) all_commands

-- the word that names a way
abbrev pub way_name : Way → List ℕ
way_name Play = codes "play"
way_name Record = codes "rec"
way_name Map = codes "map"

abbrev pub all_ways : List Way
all_ways = Play ∷ Record ∷ Map ∷ []

-- the way that a word names
abbrev pub way_named : List ℕ → Option Way
way_named word = find (λ way. bytes_eq (way_name way) word) all_ways

-- the word that names a request, whatever its argument
abbrev pub request_name : Request → List ℕ
request_name (requests.SetFmt argument) = codes "setfmt"
request_name (requests.Speed argument) = codes "speed"
request_name (requests.Channels argument) = codes "channels"
request_name requests.GetFmts = codes "getfmts"
request_name requests.GetCaps = codes "getcaps"
request_name requests.GetBlkSize = codes "getblksize"
request_name (requests.SetFragment argument) = codes "setfragment"
request_name requests.GetOSpace = codes "getospace"
request_name requests.GetISpace = codes "getispace"
request_name requests.GetOPtr = codes "getoptr"
request_name requests.GetIPtr = codes "getiptr"
request_name requests.GetODelay = codes "getodelay"
request_name requests.GetError = codes "geterror"
request_name (requests.SetTrigger argument) = codes "settrigger"
request_name requests.GetTrigger = codes "gettrigger"
request_name (requests.SetPlayVol argument) = codes "setplayvol"
request_name requests.GetPlayVol = codes "getplayvol"
request_name requests.Post = codes "post"
request_name requests.Sync = codes "sync"
request_name requests.Halt = codes "halt"

-- the word by which a client's channel becomes a member of a group
abbrev pub join_name : List ℕ
join_name = codes "syncgroup"

-- the word by which a client starts all members of a group
abbrev pub start_group_name : List ℕ
start_group_name = codes "syncstart"

-- the word that names what is asked of the mixer device
abbrev pub control_name : Control → List ℕ
control_name Master = codes "master"
control_name Slot = codes "slot"
control_name Mute = codes "mute"

abbrev pub all_controls : List Control
all_controls = Master ∷ Slot ∷ Mute ∷ []

-- what a word names of it
abbrev pub control_named : List ℕ → Option Control
control_named word = find (λ control. bytes_eq (control_name control) word) all_controls
