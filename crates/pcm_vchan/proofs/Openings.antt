-- What an opening in the slots of one way is to their books and their device.
use Rattle.std.proofs.Common.{◌≡◌, ℕ, ◌+◌, ◌<◌, Bool, true, cond, List, [], ◌∷◌, length, map, set, get_or, Option, Some, None, All, refl, sym, ap, ◌∙◌, subst, arith}
use Rattle.std.specs.Prelude.{not, nat_lt, position, IfOk, Result, Ok}
use Rattle.std.specs.List.{position_or_len, prefix_len}
use Rattle.std.proofs.lemmas.List.{map-set, length-map}
use Rattle.std.proofs.lemmas.List.Quantifiers.{position-Some}
use Rattle.pcm_oss.specs.declared.reply.Errno.{Errno}
use Rattle.pcm_desk.specs.declared.device.Device.{Device}
use Rattle.pcm_path.specs.declared.path.PathOf.{PathOf}
use Rattle.pcm_bus.specs.Slots.{Each}
use Rattle.pcm_vchan.specs.Openings.{Begins, BeginsIn, books_begun, slot_or_busy}
use Rattle.pcm_vchan.specs.Slots.{ChannelMoves}
use Rattle.pcm_vchan.proofs.Channels.{each_set, own_set}

prefix_len-map : {X Y : Type 0} (p : Y → Bool) (f : X → Y) (xs : List X) → prefix_len p (map f xs) ≡ prefix_len (λ x. p (f x)) xs
prefix_len-map p f [] = refl
prefix_len-map p f (x ∷ xs) = ap (λ rest. cond (p (f x)) (1 + rest) 0) (prefix_len-map p f xs)

position-map : {X Y : Type 0} (p : Y → Bool) (f : X → Y) (xs : List X) → position p (map f xs) ≡ position (λ x. p (f x)) xs
position-map p f xs =
    ap (λ (at : ℕ). cond (nat_lt at (length (map f xs))) (Some at) None) (prefix_len-map (λ y. not (p y)) f xs)
    ∙ ap (λ (n : ℕ). cond (nat_lt (position_or_len (λ x. p (f x)) xs) n) (Some (position_or_len (λ x. p (f x)) xs)) None) (length-map xs f)

-- the slot that an opening found was free: so it begins as one does that is free
pub begins-free : {C : Type 0} (free : C → Bool) (begins keeps : C → C → Type 0) (least : Option ℕ) (old new : List C)
    → ((before after : C) → free before ≡ true → begins before after → keeps before after)
    → position free old ≡ least → BeginsIn begins least old new → BeginsIn keeps least old new
begins-free free begins keeps None old new frees is same = same
begins-free free begins keeps (Some slot) old new frees is b = record {
  before = b.before;
  after = b.after;
  there = b.there;
  held = b.held;
  holds = b.holds;
  begun = frees b.before b.after (ap free b.held ∙ (position-Some free old slot b.before is).1) b.begun;
}

-- the channels of a device, whose books tell which are free, once an opening began in one of them if there is one
pub record Opened {B C Book : Type 0} (path : C → PathOf B) (book : C → Book) (free : Book → Bool) (number : ℕ → ℕ) (begun : Book) (keeps : C → C → Type 0) (device : Device) (old new : List C) (result : Result ℕ Errno) : Type 0 where
  pub begins : Begins number (length old) (position free (map book old)) begun (map book old) (map book new) result
  pub own : All (λ channel. (path channel).device ≡ device) new
  pub kept : Each keeps old new

pub opened : {B C Book : Type 0} (path : C → PathOf B) (book : C → Book) (free : Book → Bool) (number : ℕ → ℕ) (begun : Book) (keeps : C → C → Type 0) (device : Device) (old new : List C) (result : Result ℕ Errno) (first : ℕ) (least : Option ℕ)
    → ((place : ℕ) → first + place ≡ number place) → ((channel : C) → keeps channel channel) → All (λ channel. (path channel).device ≡ device) old → position (λ channel. free (book channel)) old ≡ least → result ≡ slot_or_busy (λ place. first + place) least
    → BeginsIn (ChannelMoves path book begun keeps) least old new → Opened path book free number begun keeps device old new result
opened path book free number begun keeps device old new result first None numbers stays own is told same =
    let none : position free (map book old) ≡ None = position-map free book old ∙ is in
    record {
      begins = record {
        found = told ∙ sym (ap (slot_or_busy number) none);
        books = ap (map book) same ∙ sym (ap (λ (found : Option ℕ). books_begun found begun (map book old)) none);
        there = subst (λ (told : Result ℕ Errno). IfOk told (λ slot. slot < number (length old))) (sym told) tt;
      };
      own = subst (All (λ channel. (path channel).device ≡ device)) (sym same) own;
      kept = subst (Each keeps old) (sym same) (λ slot other there. stays (get_or old slot other));
    }
opened path book free number begun keeps device old new result first (Some slot) numbers stays own is told b =
    let found : position free (map book old) ≡ Some slot = position-map free book old ∙ is in
    let named : result ≡ Ok (number slot) = told ∙ ap (λ (told : ℕ). Ok told) (numbers slot) in
    record {
      begins = record {
        found = named ∙ sym (ap (slot_or_busy number) found);
        books = ap (map book) b.holds ∙ map-set book old slot b.after ∙ ap (set (map book old) slot) b.begun.book
            ∙ sym (ap (λ (found : Option ℕ). books_begun found begun (map book old)) found);
        there = subst (λ (told : Result ℕ Errno). IfOk told (λ slot. slot < number (length old))) (sym named) (omega (arith, numbers slot, numbers (length old), b.there));
      };
      own = subst (All (λ channel. (path channel).device ≡ device)) (sym b.holds) (own_set (λ channel. (path channel).device) device old slot b.before b.after b.there b.held b.begun.device_same own);
      kept = subst (Each keeps old) (sym b.holds) (each_set keeps old slot b.before b.after b.there b.held b.begun.moves stays);
    }
