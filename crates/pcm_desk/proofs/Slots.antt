-- The book of a slot after an interrupt.
use Rattle.std.proofs.Common.{◌≡◌, ℕ, zero, suc, List, [], ◌∷◌, get_or, map, refl, sym, arith}
use Rattle.pcm_desk.specs.Device.{DeviceSeen}
use Rattle.pcm_desk.specs.Channels.{capturing, map_passing, mixing, play_passing}
use Rattle.pcm_desk.specs.Desk.{Desk, interrupt_turn, map_at, map_unopened, play_at, play_unopened, record_at, record_unopened}

-- what leaves a book that nobody has opened leaves one that isn't there
get_or-all : {B : Type 0} (how : B → B) (books : List B) (slot : ℕ) (none : B) → how none ≡ none → get_or (map how books) slot none ≡ how (get_or books slot none)
get_or-all how [] slot none same = sym same
get_or-all how (book ∷ books) zero none same = refl
get_or-all how (book ∷ books) (suc slot) none same = get_or-all how books slot none same

mixing_unopened : (device : DeviceSeen) (mixed frames : ℕ) → mixing device mixed frames (play_unopened device) ≡ play_unopened device
mixing_unopened device mixed frames = grind arith

-- the book of a slot that plays
pub play_at-passing : (device : DeviceSeen) (desk : Desk) (n slot : ℕ) → play_at device (interrupt_turn device desk n).desk slot ≡ play_passing device desk.handed n (play_at device desk slot)
play_at-passing device desk n slot = get_or-all (play_passing device desk.handed n) desk.play slot (play_unopened device) (simp mixing_unopened)

-- of one that records
pub record_at-capturing : (device : DeviceSeen) (desk : Desk) (n slot : ℕ) → record_at device (interrupt_turn device desk n).desk slot ≡ capturing device n (record_at device desk slot)
record_at-capturing device desk n slot = get_or-all (capturing device n) desk.recording slot (record_unopened device) refl

-- and of a mapped one
pub map_at-passing : (device : DeviceSeen) (desk : Desk) (n slot : ℕ) → map_at device (interrupt_turn device desk n).desk slot ≡ map_passing device desk.handed n (map_at device desk slot)
map_at-passing device desk n slot = get_or-all (map_passing device desk.handed n) desk.mapped slot (map_unopened device) (grind arith)
