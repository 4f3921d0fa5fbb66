-- Groups of slots: which slot is in which, what a slot gets that asks for one, and what a start changes.
use Rattle.std.specs.Prelude.{ℕ, Bool, true, false, not, ◌&&◌, ◌||◌, nat_lt, nat_le, ◌==◌, if◌then◌else◌, List, [], ◌∷◌, map, find, replicate, slice_index_or, slice_set, Option, Some, None, Result, Ok, Err}
use Rattle.std.specs.List.{list_any, range_with_len}
use Rattle.pcm_oss.specs.declared.event.Way.{Way}
use Rattle.pcm_oss.specs.declared.event.Way.TheVariants.{Play, Record, Map}
use Rattle.pcm_oss.specs.declared.event.TheConstants.{SLOTS}
use Rattle.pcm_oss.specs.declared.reply.Errno.{Errno}
use Rattle.pcm_oss.specs.declared.reply.Errno.TheVariants.{Busy, Inval}
use Rattle.pcm_group.specs.declared.sync_groups.Groups.{Groups}
use Rattle.pcm_group.specs.declared.sync_groups.TheConstants.{GROUPS}

-- no slot has a group
abbrev pub no_groups : Groups
no_groups = record { play = replicate SLOTS 0; recording = replicate SLOTS 0 }

-- a channel of a mapped area is in no group
abbrev pub may_join : Way → Bool
may_join Map = false
may_join way = true

-- the group of each slot of a way, where 0 is none
abbrev pub groups_of : Groups → Way → List ℕ
groups_of groups Play = groups.play
groups_of groups Record = groups.recording
groups_of groups Map = []

-- the group of a slot
abbrev pub group_at : Groups → Way → ℕ → ℕ
group_at groups way slot = slice_index_or (groups_of groups way) slot 0

-- the groups once a slot has another
abbrev pub with_group : Groups → Way → ℕ → ℕ → Groups
with_group groups Play slot group = record groups { play = slice_set groups.play slot group }
with_group groups Record slot group = record groups { recording = slice_set groups.recording slot group }
with_group groups Map slot group = groups

-- some slot has the group
abbrev pub has_group : ℕ → List ℕ → Bool
has_group group slots = list_any (λ its. its == group) slots

-- one of the groups, that some slot has
abbrev pub is_used : Groups → ℕ → Bool
is_used groups group = nat_lt 0 group && nat_le group GROUPS && (has_group group groups.play || has_group group groups.recording)

-- the least group that no slot has
abbrev pub least_unused : Groups → Option ℕ
least_unused groups = find (λ group. not (is_used groups group)) (range_with_len 1 GROUPS)

-- ---- a join

abbrev pub group_or_busy : Option ℕ → Result ℕ Errno
group_or_busy None = Err Busy
group_or_busy (Some group) = Ok group

-- What a slot gets that asks for a group: a way that joins none gets none; a group that nobody is in isn't there, and a slot that has one gets no other. 0 asks for a new one.
abbrev pub joining : Groups → Way → ℕ → ℕ → Result ℕ Errno
joining groups way slot group =
    if not (may_join way) || nat_lt 0 group && not (is_used groups group) then Err Inval
    else if nat_lt 0 (group_at groups way slot) then Err Busy
    else if group == 0 then group_or_busy (least_unused groups)
    else Ok group

-- the groups then
abbrev pub groups_joined : Groups → Way → ℕ → Result ℕ Errno → Groups
groups_joined groups way slot (Err errno) = groups
groups_joined groups way slot (Ok group) = with_group groups way slot group

-- ---- the members of a group

-- the groups once its members have none
abbrev pub dissolved_in : ℕ → List ℕ → List ℕ
dissolved_in group slots = map (λ its. if its == group then 0 else its) slots

abbrev pub dissolved : ℕ → Groups → Groups
dissolved group groups = record { play = dissolved_in group groups.play; recording = dissolved_in group groups.recording }

-- ---- what each slot has, beside its group

-- it is so of each slot in the group
abbrev pub all_in : {B : Type 0} → ℕ → (B → Bool) → List ℕ → List B → Bool
all_in group so (its ∷ slots) (book ∷ books) = (not (its == group) || so book) && all_in group so slots books
all_in group so slots books = true

-- what each slot in the group has changes
abbrev pub change_in : {B : Type 0} → ℕ → (B → B) → List ℕ → List B → List B
change_in group how (its ∷ slots) (book ∷ books) = (if its == group then how book else book) ∷ change_in group how slots books
change_in group how slots books = books
