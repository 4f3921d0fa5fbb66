-- The first words of a line say as much as all of them.
use Rattle.std.proofs.Common.{◌≡◌, ℕ, zero, suc, ◌+◌, ◌≤◌, true, false, not, List, [], ◌∷◌, ◌++◌, length, take, filter, take_while, Option, Some, None, Result, Ok, Err, Bor, MatchOption, refl, sym, ap, ◌∙◌, arith}
use Rattle.std.specs.List.{slice_split}
use Rattle.std.proofs.lemmas.List.{append_assoc, append-nil, take-append-le, take_all}
use Rattle.pcm_wave.specs.DataFiles.{DataFileSeen}
use Rattle.pcm_desk.specs.Device.{DeviceSeen}
use Rattle.pcm_script.specs.declared.fault.ScriptKind.{ScriptKind}
use Rattle.pcm_script.specs.declared.fault.ScriptKind.TheVariants.{Count, Word}
use Rattle.pcm_script.specs.declared.line_event.LineEvent.{LineEvent}
use Rattle.pcm_script.specs.declared.names.Command.{Command}
use Rattle.pcm_script.specs.declared.names.Command.TheVariants as commands
use Rattle.pcm_script.specs.declared.words.TheConstants.{KEPT}
use Rattle.pcm_script.specs.Steps.{◌>>=◌}
use Rattle.pcm_script.specs.Names.{command_named}
use Rattle.pcm_script.specs.Commands.{asked_by, command_line, line_event, open_line, write_line, send_line, poke_line, read_line, ioctl_line, close_line, mixer_line, interrupt_line, or_fault}
use Rattle.pcm_script.specs.Words.{begins_comment, is_blank, is_word}

-- the words among the parts of a line, up to its comment
abbrev pub words_in : List (List ℕ) → List (List ℕ)
words_in parts = take_while (λ word. not (begins_comment word)) (filter is_word parts)

-- what is kept of words and of the parts after them
abbrev pub with_parts : List (List ℕ) → List (List ℕ) → List (List ℕ)
with_parts kept parts = take KEPT (kept ++ words_in parts)

-- what is dropped after the first ones makes no difference to them
take-first : {X : Type 0} (n : ℕ) (xs ys : List X) → take n (take n xs ++ ys) ≡ take n (xs ++ ys)
take-first zero xs ys = refl
take-first (suc n) [] ys = refl
take-first (suc n) (x ∷ xs) ys = ap (λ l. x ∷ l) (take-first n xs ys)

take-one_more : {X : Type 0} (n : ℕ) (x : X) (xs : List X) → take (1 + n) (x ∷ xs) ≡ x ∷ take n xs
take-one_more n x xs =
    let more : 1 + n ≡ suc n = omega arith in
    ap (λ (m : ℕ). take m (x ∷ xs)) more

-- a word in front of more parts
words_in-word : (byte : ℕ) (bytes : List ℕ) (parts : List (List ℕ)) → begins_comment (byte ∷ bytes) ≡ false
    → words_in ((byte ∷ bytes) ∷ parts) ≡ (byte ∷ bytes) ∷ words_in parts
words_in-word byte bytes parts other =
    rw other (take-one_more _ (byte ∷ bytes) (filter is_word parts))

-- a part more
pub with_parts-more : (kept parts : List (List ℕ)) (part : List ℕ) → begins_comment part ≡ false
    → with_parts (take KEPT (kept ++ filter is_word (part ∷ []))) parts ≡ with_parts kept (part ∷ parts)
with_parts-more kept parts [] other =
    take-first KEPT (kept ++ []) (words_in parts) ∙ ap (λ l. take KEPT (l ++ words_in parts)) (append-nil kept)
with_parts-more kept parts (byte ∷ bytes) other =
    take-first KEPT (kept ++ (byte ∷ bytes) ∷ []) (words_in parts)
    ∙ ap (take KEPT) (append_assoc kept ((byte ∷ bytes) ∷ []) (words_in parts) ∙ ap (λ l. kept ++ l) (sym (words_in-word byte bytes parts other)))

-- the comment
pub with_parts-comment : (kept parts : List (List ℕ)) (part : List ℕ) → begins_comment part ≡ true → with_parts kept (part ∷ parts) ≡ take KEPT kept
with_parts-comment kept parts [] is = cc is
with_parts-comment kept parts (byte ∷ bytes) is = rw is (ap (take KEPT) (append-nil kept))

-- no part
pub with_parts-end : (kept : List (List ℕ)) → with_parts kept [] ≡ take KEPT kept
with_parts-end kept = ap (take KEPT) (append-nil kept)

-- the parts of what is left of a line, if something is
abbrev pub parts_of : Option (Bor (List ℕ)) → List (List ℕ)
parts_of None = []
parts_of (Some text) = slice_split is_blank text.now

-- the first part of a text, and those after it
pub parts_of-first : (text part : List ℕ) (behind : Option (Bor (List ℕ)))
    → MatchOption behind (slice_split is_blank text ≡ part ∷ []) (λ more. slice_split is_blank text ≡ part ∷ slice_split is_blank more.now)
    → slice_split is_blank text ≡ part ∷ parts_of behind
parts_of-first text part None cut = cut
parts_of-first text part (Some more) cut = cut

-- where there is no room, no part changes what is kept
pub kept-full : (kept : List (List ℕ)) (part : List ℕ) → length kept ≡ KEPT → kept ≡ take KEPT (kept ++ filter is_word (part ∷ []))
kept-full kept part full =
    sym (take-append-le KEPT kept (filter is_word (part ∷ [])) (omega (arith, full)) ∙ take_all KEPT kept (omega (arith, full)))

-- what is empty is never kept
pub kept-empty : (kept : List (List ℕ)) (part : List ℕ) → is_word part ≡ false → length kept ≤ KEPT → kept ≡ take KEPT (kept ++ filter is_word (part ∷ []))
kept-empty kept part empty short = rw empty (sym (ap (take KEPT) (append-nil kept) ∙ take_all KEPT kept short))

-- no command has six words after it
asked_by-six : (device : DeviceSeen) (files : List DataFileSeen) (command : Command) (a b c d e f : List ℕ) (more : List (List ℕ))
    → asked_by device files command (a ∷ b ∷ c ∷ d ∷ e ∷ f ∷ more) ≡ Err Count
unfolding open_line write_line send_line poke_line read_line ioctl_line close_line mixer_line interrupt_line
asked_by-six device files commands.Open a b c d e f more = refl
asked_by-six device files commands.Write a b c d e f more = refl
asked_by-six device files commands.Send a b c d e f more = refl
asked_by-six device files commands.Poke a b c d e f more = refl
asked_by-six device files commands.Read a b c d e f more = refl
asked_by-six device files commands.Ioctl a b c d e f more = refl
asked_by-six device files commands.Close a b c d e f more = refl
asked_by-six device files commands.Mixer a b c d e f more = refl
asked_by-six device files commands.Intr a b c d e f more = refl

-- so the first seven say as much as all of them
asked_by-first : (device : DeviceSeen) (files : List DataFileSeen) (command : Command) (arguments : List (List ℕ))
    → asked_by device files command (take 7 arguments) ≡ asked_by device files command arguments
asked_by-first device files command [] = refl
asked_by-first device files command (a ∷ []) = refl
asked_by-first device files command (a ∷ b ∷ []) = refl
asked_by-first device files command (a ∷ b ∷ c ∷ []) = refl
asked_by-first device files command (a ∷ b ∷ c ∷ d ∷ []) = refl
asked_by-first device files command (a ∷ b ∷ c ∷ d ∷ e ∷ []) = refl
asked_by-first device files command (a ∷ b ∷ c ∷ d ∷ e ∷ f ∷ more) =
    asked_by-six device files command a b c d e f (take 1 more) ∙ sym (asked_by-six device files command a b c d e f more)

-- two ways to go on that agree
next-same : {A B : Type 0} (r : Result A ScriptKind) (f g : A → Result B ScriptKind) → ((a : A) → f a ≡ g a) → (r >>= f) ≡ (r >>= g)
next-same (Ok value) f g same = same value
next-same (Err kind) f g same = refl

-- what a line asks for, by the words that are kept
pub line_event-first : (device : DeviceSeen) (files : List DataFileSeen) (words : List (List ℕ))
    → line_event device files (take KEPT words) ≡ line_event device files words
unfolding line_event command_line
line_event-first device files [] = refl
line_event-first device files (word ∷ arguments) =
    ap (λ (asked : Result LineEvent ScriptKind). asked >>= (λ event. Ok (Option.Some event)))
    (next-same (or_fault (command_named word) Word) (λ command. asked_by device files command (take 7 arguments)) (λ command. asked_by device files command arguments) (λ command. asked_by-first device files command arguments))
