-- A text is lines, and a line is words.
use Rattle.std.specs.Prelude.{ℕ, Bool, true, false, not, ◌==◌, ◌||◌, if◌then◌else◌, List, [], ◌∷◌, map, filter, take_while, reverse}
use Rattle.std.specs.Borrow.{Bor}
use Rattle.std.specs.List.{slice_split}

-- a text is cut at each line feed
abbrev pub lines_of : List ℕ → List (List ℕ)
lines_of text = slice_split (λ byte. byte == 10) text

-- a line from its last byte to its first, with one carriage return at that end dropped
abbrev pub without_return_first : List ℕ → List ℕ
without_return_first [] = []
without_return_first (byte ∷ bytes) = if byte == 13 then bytes else byte ∷ bytes

-- a line with one carriage return at its end dropped
abbrev pub without_return : List ℕ → List ℕ
without_return line = reverse (without_return_first (reverse line))

-- space and tab
abbrev pub is_blank : ℕ → Bool
is_blank byte = byte == 32 || byte == 9

abbrev pub is_word : List ℕ → Bool
is_word [] = false
is_word (byte ∷ bytes) = true

-- where a comment starts, the words of a line are over
abbrev pub begins_comment : List ℕ → Bool
begins_comment [] = false
begins_comment (byte ∷ bytes) = byte == 35

-- words that are lent
abbrev pub lent : List (Bor (List ℕ)) → List (List ℕ)
lent words = map (λ word. word.now) words

-- the words of a line, up to its comment
abbrev pub words_of : List ℕ → List (List ℕ)
words_of line = take_while (λ word. not (begins_comment word)) (filter is_word (slice_split is_blank (without_return line)))
