-- The events that groups have a part in, by what each is refused for.
use Rattle.std.proofs.Common.{◌≡◌, ℕ, Bool, true, false, cond, Option, Some, Result, Ok, Err, refl, ap, ◌∙◌, None, sym}
use Rattle.std.specs.Prelude.{not}
use Rattle.std.specs.Result.{IsErr, IsErrAnd}
use Rattle.pcm_engine.specs.Types.{Answer, Errno, Groups, Held, Request, Turn}
use Rattle.pcm_oss.specs.declared.reply.Answer.TheVariants.{Done, Number}
use Rattle.pcm_oss.specs.declared.reply.Errno.TheVariants.{Busy, Inval}
use Rattle.pcm_group.specs.Groups.{all_in, is_used, joining, may_join, groups_joined, with_group}
use Rattle.pcm_desk.specs.Device.{DeviceSeen}
use Rattle.pcm_desk.specs.PlayBooks.{play_is_ready}
use Rattle.pcm_desk.specs.Channels.{join_result, rests, Channel, member_refusal, own_join, own_request}
use Rattle.pcm_desk.specs.Desk.{Desk, DeskTurn, group_started, refusing, start_on, start_turn, channel_at, channel_turn, desk_here, is_member, left_by, with_channel_at}
use Rattle.pcm_desk.proofs.Channels.{put-again}
use Rattle.pcm_engine.specs.Desks.{channel_asked}
use Rattle.pcm_oss.specs.declared.event.Event.TheVariants.{Ioctl, Join}
use Rattle.pcm_oss.specs.declared.request.Request.TheVariants.{SetTrigger, Sync}

-- ---- a request

-- what is refused to a member leaves no group
refused_stays : (member : Bool) (request : Request) (held : Held) (groups : Groups) (errno : Errno) → member_refusal member request ≡ Some errno → left_by request held groups ≡ groups
refused_stays true Sync held groups errno e = cc
refused_stays false Sync held groups errno e = cc
refused_stays member _ held groups errno e = refl

-- a request by what it is refused for
abbrev requested : DeviceSeen → Desk → Held → Request → Option Errno → Groups → DeskTurn
requested device desk held request refusal groups =
    let turn : Turn Channel = own_request device (desk_here device desk) request refusal (channel_at device desk held) in
    record { desk = record (with_channel_at desk held.slot turn.book) { groups = groups }; reply = turn.reply }

request_is : (device : DeviceSeen) (desk : Desk) (fd : ℕ) (request : Request) (found : Option Held) (held : Held) (refusal : Option Errno) → found ≡ Some held → member_refusal (is_member desk held) request ≡ refusal
    → channel_turn device desk (Ioctl fd request) found ≡ requested device desk held request refusal (left_by request held desk.groups)
request_is device desk fd request found held refusal e r =
    ap (channel_turn device desk (Ioctl fd request)) e ∙ ap (λ (o : Option Errno). requested device desk held request o (left_by request held desk.groups)) r

pub request-refused : (device : DeviceSeen) (desk : Desk) (fd : ℕ) (request : Request) (found : Option Held) (held : Held) (errno : Errno) → found ≡ Some held → member_refusal (is_member desk held) request ≡ Some errno
    → channel_turn device desk (Ioctl fd request) found ≡ refusing desk errno
request-refused device desk fd request found held errno e r =
    request_is device desk fd request found held (Some errno) e r
    ∙ ap (λ (groups : Groups). requested device desk held request (Some errno) groups) (refused_stays (is_member desk held) request held desk.groups errno r)
    ∙ ap (λ (d : Desk). refusing d errno) (put-again device desk held)

-- otherwise the channel is asked, once a sync has left the group
pub request-asks : (device : DeviceSeen) (desk : Desk) (fd : ℕ) (request : Request) (found : Option Held) (held : Held) → found ≡ Some held → member_refusal (is_member desk held) request ≡ None
    → channel_asked device (record desk { groups = left_by request held desk.groups }) request found ≡ channel_turn device desk (Ioctl fd request) found
request-asks device desk fd request found held e r =
    ap (channel_asked device (record desk { groups = left_by request held desk.groups }) request) e ∙ sym (request_is device desk fd request found held None e r)

-- ---- a join

-- a join by what the groups say
abbrev joined : DeviceSeen → Desk → Held → Result ℕ Errno → DeskTurn
joined device desk held result =
    let turn : Turn Channel = own_join device (desk_here device desk) result (channel_at device desk held) in
    record { desk = record (with_channel_at desk held.slot turn.book) { groups = groups_joined desk.groups held.way held.slot result }; reply = turn.reply }

join_is : (device : DeviceSeen) (desk : Desk) (fd : ℕ) (found : Option Held) (held : Held) (group : ℕ) (result : Result ℕ Errno) → found ≡ Some held → join_result (joining desk.groups held.way held.slot group) (rests (channel_at device desk held)) ≡ result
    → channel_turn device desk (Join fd group) found ≡ joined device desk held result
join_is device desk fd found held group result e j = ap (channel_turn device desk (Join fd group)) e ∙ ap (joined device desk held) j

join_not : (device : DeviceSeen) (desk : Desk) (fd : ℕ) (found : Option Held) (held : Held) (group : ℕ) (errno : Errno) → found ≡ Some held → join_result (joining desk.groups held.way held.slot group) (rests (channel_at device desk held)) ≡ Err errno
    → channel_turn device desk (Join fd group) found ≡ refusing desk errno
join_not device desk fd found held group errno e j = join_is device desk fd found held group (Err errno) e j ∙ ap (λ (d : Desk). refusing d errno) (put-again device desk held)

pub join-refused : (device : DeviceSeen) (desk : Desk) (fd : ℕ) (found : Option Held) (held : Held) (group : ℕ) (errno : Errno) → found ≡ Some held → joining desk.groups held.way held.slot group ≡ Err errno → channel_turn device desk (Join fd group) found ≡ refusing desk errno
join-refused device desk fd found held group errno e j = join_not device desk fd found held group errno e (ap (λ (r : Result ℕ Errno). join_result r (rests (channel_at device desk held))) j)

join_rests : (device : DeviceSeen) (desk : Desk) (held : Held) (group number : ℕ) (resting : Bool) → joining desk.groups held.way held.slot group ≡ Ok number → rests (channel_at device desk held) ≡ resting
    → join_result (joining desk.groups held.way held.slot group) (rests (channel_at device desk held)) ≡ join_result (Ok number) resting
join_rests device desk held group number resting j r = ap (λ (x : Result ℕ Errno). join_result x (rests (channel_at device desk held))) j ∙ ap (join_result (Ok number)) r

pub join-busy : (device : DeviceSeen) (desk : Desk) (fd : ℕ) (found : Option Held) (held : Held) (group number : ℕ) → found ≡ Some held → joining desk.groups held.way held.slot group ≡ Ok number → rests (channel_at device desk held) ≡ false
    → channel_turn device desk (Join fd group) found ≡ refusing desk Busy
join-busy device desk fd found held group number e j r = join_not device desk fd found held group Busy e (join_rests device desk held group number false j r)

-- it is in the group, with its trigger off
pub join-done : (device : DeviceSeen) (desk : Desk) (fd : ℕ) (found : Option Held) (held : Held) (group number : ℕ) → found ≡ Some held → joining desk.groups held.way held.slot group ≡ Ok number → rests (channel_at device desk held) ≡ true
    → channel_turn device desk (Join fd group) found ≡ record { desk = record (channel_asked device desk (SetTrigger 0) (Some held)).desk { groups = with_group desk.groups held.way held.slot number }; reply = Ok (Number number) }
join-done device desk fd found held group number e j r = join_is device desk fd found held group (Ok number) e (join_rests device desk held group number true j r)

-- ---- a start

-- by a channel that joins groups, of a group that is used and whose members are ready
pub start-done : (device : DeviceSeen) (desk : Desk) (found : Option Held) (held : Held) (group : ℕ) → found ≡ Some held → may_join held.way ≡ true → is_used desk.groups group ≡ true → all_in group play_is_ready desk.groups.play desk.play ≡ true
    → start_on device found desk group ≡ record { desk = group_started device desk group; reply = Ok Done }
start-done device desk found held group e joins used ready =
    let done : DeskTurn = record { desk = group_started device desk group; reply = Ok Done } in
    ap (λ (h : Option Held). start_on device h desk group) e
    ∙ ap (λ (b : Bool). cond {A = DeskTurn} b (start_turn device desk group) (refusing desk Inval)) joins
    ∙ ap (λ (b : Bool). cond {A = DeskTurn} (not b) (refusing desk Inval) (cond {A = DeskTurn} (not (all_in group play_is_ready desk.groups.play desk.play)) (refusing desk Busy) done)) used
    ∙ ap (λ (b : Bool). cond {A = DeskTurn} (not b) (refusing desk Busy) done) ready

-- ---- what `?` hands on

pub handed-on : (result : Result Answer Errno) (errno : Errno) → IsErr result → IsErrAnd result (λ found. found ≡ errno) → result ≡ Err errno
handed-on (Ok answer) errno is same = cc
handed-on (Err found) errno is same = ap (λ (e : Errno). Err e) same
