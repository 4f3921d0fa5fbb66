-- The chunks of a RIFF file, by the places where they stand. Numbers have their lowest byte first.
use Rattle.std.specs.Prelude.{ℕ, zero, suc, ◌+◌, ◌%◌, Bool, ◌&&◌, nat_le, if◌then◌else◌, List, [], ◌∷◌, length, take, drop, codes, Option, find}
use Rattle.std.specs.Str.{bytes_eq}
use Rattle.pcm_format.specs.Samples.{number_of}

-- the number that `count` bytes spell, from a place on
abbrev pub number_at : List ℕ → ℕ → ℕ → ℕ
number_at bytes at count = number_of (take count (drop at bytes))

-- whether a word stands at a place
abbrev pub stands_at : List ℕ → ℕ → List ℕ → Bool
stands_at bytes at word = bytes_eq (take (length word) (drop at bytes)) word

-- the size of the chunk at a place, as its head states it
abbrev pub size_at : List ℕ → ℕ → ℕ
size_at bytes p = number_at bytes (p + 4) 4

-- whether the head of a chunk stands at a place: its id and its size
abbrev pub has_head : List ℕ → ℕ → Bool
has_head bytes p = nat_le (p + 8) (length bytes)

-- where the body of the chunk at a place begins
abbrev pub body_begin : ℕ → ℕ
body_begin p = p + 8

-- where the body ends, by the chunk's size
abbrev pub body_end : List ℕ → ℕ → ℕ
body_end bytes p = body_begin p + size_at bytes p

-- whether the body is all there
abbrev pub has_body : List ℕ → ℕ → Bool
has_body bytes p = nat_le (body_end bytes p) (length bytes)

-- the place after a chunk: a byte of padding follows a body of an odd size
abbrev pub next_place : List ℕ → ℕ → ℕ
next_place bytes p = body_end bytes p + size_at bytes p % 2

-- the places of at most `count` chunks, from a place on; a body that isn't all there is followed by none
abbrev pub places_from : ℕ → List ℕ → ℕ → List ℕ
places_from zero bytes p = []
places_from (suc count) bytes p =
    if has_head bytes p then p ∷ (if has_body bytes p then places_from count bytes (next_place bytes p) else []) else []

-- the places of all chunks, the least first: a chunk has eight bytes or more, so there are no more chunks than bytes
abbrev pub places : List ℕ → List ℕ
places bytes = places_from (length bytes) bytes 12

-- the least place of a chunk with an id
abbrev pub chunk_place : List ℕ → List ℕ → Option ℕ
chunk_place bytes id = find (λ p. stands_at bytes p id) (places bytes)

-- whether the bytes begin as a RIFF file of the form WAVE; the size of the file isn't looked at
abbrev pub is_riff : List ℕ → Bool
is_riff bytes = stands_at bytes 0 (codes "RIFF") && stands_at bytes 8 (codes "WAVE")
