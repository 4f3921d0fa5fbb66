-- A line of words that are one word each is cut into these words again.
use Rattle.std.proofs.Common.{◌≡◌, ℕ, ◌+◌, ◌==◌, Bool, true, false, not, cond, ◌&&◌, length, take, List, [], ◌∷◌, ◌++◌, refl, sym, ap, ◌∙◌, arith, filter, take_while, reverse, append-nil}
use Rattle.std.specs.List.{list_all, onto_first, prefix_len, slice_split}
use Rattle.std.proofs.lemmas.List.{take_all}
use Rattle.std.proofs.lemmas.Bool.{and_from, and_parts}
use Rattle.std.proofs.lemmas.Bool.Decides.{nat_tests}
use mathlib.Core.List.{reverse-cons, reverse-reverse}
use Rattle.std.proofs.lemmas.List.Folds.{list_all-append}
use Rattle.std.proofs.lemmas.List.Splits.{slice_split-cons_no, slice_split-cons_yes}
use Rattle.pcm_script.specs.Words.{begins_comment, is_blank, is_word, without_return, without_return_first, words_of}
use Rattle.pcm_text.specs.Texts.{spaced}
use Rattle.pcm_text.specs.ReadBack.{is_one_word, is_plain}

-- ---- tests of all bytes

pub list_all-weaker : (p q : ℕ → Bool) → ((b : ℕ) → p b ≡ true → q b ≡ true) → (xs : List ℕ) → list_all p xs ≡ true → list_all q xs ≡ true
list_all-weaker p q each [] all = refl
list_all-weaker p q each (x ∷ xs) all =
    let parts = and_parts (p x) (list_all p xs) all in
    and_from (q x) (list_all q xs) (each x parts.0) (list_all-weaker p q each xs parts.1)

pub list_all-both : (p : ℕ → Bool) (xs ys : List ℕ) → list_all p xs ≡ true → list_all p ys ≡ true → list_all p (xs ++ ys) ≡ true
list_all-both p xs ys one other = list_all-append p xs ys ∙ and_from (list_all p xs) (list_all p ys) one other

-- ---- one word

pub plain-blank : (b : ℕ) → is_plain b ≡ true → is_blank b ≡ false
plain-blank b plain = grind (arith, nat_tests)

pub plain-no_feed : (b : ℕ) → is_plain b ≡ true → (b == 10) ≡ false
plain-no_feed b plain = grind (arith, nat_tests)

-- the three tests of one word
pub record IsOneWord (word : List ℕ) : Type 0 where
  pub some : is_word word ≡ true
  pub uncut : not (begins_comment word) ≡ true
  pub plain : list_all is_plain word ≡ true

pub one-word : (word : List ℕ) → is_one_word word ≡ true → IsOneWord word
one-word word test =
    let parts = and_parts (is_word word) (not (begins_comment word) && list_all is_plain word) test in
    let rest = and_parts (not (begins_comment word)) (list_all is_plain word) parts.1 in
    record { some = parts.0; uncut = rest.0; plain = rest.1 }

-- ---- cutting at a byte

-- bytes in front of the first cut
cut-after : (p : ℕ → Bool) (word : List ℕ) (y : ℕ) (rest : List ℕ) → list_all (λ b. not (p b)) word ≡ true → p y ≡ true
    → slice_split p (word ++ y ∷ rest) ≡ word ∷ slice_split p rest
cut-after p [] y rest all cut = slice_split-cons_yes p y rest cut
cut-after p (b ∷ word) y rest all cut =
    let parts = and_parts (not (p b)) (list_all (λ c. not (p c)) word) all in
    slice_split-cons_no p b (word ++ y ∷ rest) (not-held (p b) parts.0) ∙ ap (onto b) (cut-after p word y rest parts.1 cut)
  where
    onto : ℕ → List (List ℕ) → List (List ℕ)
    onto b parts = onto_first b parts

    not-held : (t : Bool) → not t ≡ true → t ≡ false
    not-held true e = sym e
    not-held false e = refl

-- bytes without a cut
cut-none : (p : ℕ → Bool) (word : List ℕ) → list_all (λ b. not (p b)) word ≡ true → slice_split p word ≡ word ∷ []
cut-none p [] all = refl
cut-none p (b ∷ word) all =
    let parts = and_parts (not (p b)) (list_all (λ c. not (p c)) word) all in
    slice_split-cons_no p b word (not-held (p b) parts.0) ∙ ap (onto b) (cut-none p word parts.1)
  where
    onto : ℕ → List (List ℕ) → List (List ℕ)
    onto b parts = onto_first b parts

    not-held : (t : Bool) → not t ≡ true → t ≡ false
    not-held true e = sym e
    not-held false e = refl

-- ---- a line of words

-- each is one word
abbrev pub AreWords : List (List ℕ) → Type 0
AreWords [] = Unit {0}
AreWords (word ∷ words) = IsOneWord word × AreWords words

no-blank : (word : List ℕ) → list_all is_plain word ≡ true → list_all (λ b. not (is_blank b)) word ≡ true
no-blank word plain = list_all-weaker is_plain (λ b. not (is_blank b)) (λ b e. ap not (plain-blank b e)) word plain

pub words-cut : (word : List ℕ) (words : List (List ℕ)) → IsOneWord word → AreWords words → slice_split is_blank (word ++ spaced words) ≡ word ∷ words
words-cut word [] one all = ap (slice_split is_blank) (append-nil word) ∙ cut-none is_blank word (no-blank word one.plain)
words-cut word (next ∷ words) one all =
    cut-after is_blank word 32 (next ++ spaced words) (no-blank word one.plain) refl ∙ ap (λ rest. word ∷ rest) (words-cut next words all.0 all.1)

all-kept : (words : List (List ℕ)) → AreWords words → filter is_word words ≡ words
all-kept [] all = refl
all-kept (word ∷ words) all = rw (all.0.some, all-kept words all.1) refl

all-front : (words : List (List ℕ)) → AreWords words → prefix_len (λ word. not (begins_comment word)) words ≡ length words
all-front [] all = refl
all-front (word ∷ words) all =
    ap (λ test. cond test (1 + prefix_len (λ next. not (begins_comment next)) words) 0) all.0.uncut ∙ omega (arith, all-front words all.1)

none-comment : (words : List (List ℕ)) → AreWords words → take_while (λ word. not (begins_comment word)) words ≡ words
none-comment words all = ap (λ n. take n words) (all-front words all) ∙ take_all (length words) words (omega arith)

-- the bytes of a line end no line
pub line-plain : (p : ℕ → Bool) → ((b : ℕ) → is_plain b ≡ true → p b ≡ true) → p 32 ≡ true → (word : List ℕ) (words : List (List ℕ))
    → IsOneWord word → AreWords words → list_all p (word ++ spaced words) ≡ true
line-plain p each blank word [] one all = list_all-both p word [] (list_all-weaker is_plain p each word one.plain) refl
line-plain p each blank word (next ∷ words) one all =
    list_all-both p word (32 ∷ next ++ spaced words) (list_all-weaker is_plain p each word one.plain)
    (and_from (p 32) (list_all p (next ++ spaced words)) blank (line-plain p each blank next words all.0 all.1))

-- ---- the end of a line

list_all-reverse : (p : ℕ → Bool) (xs : List ℕ) → list_all p xs ≡ true → list_all p (reverse xs) ≡ true
list_all-reverse p [] all = refl
list_all-reverse p (x ∷ xs) all =
    let parts = and_parts (p x) (list_all p xs) all in
    ap (list_all p) (reverse-cons x xs) ∙ list_all-both p (reverse xs) (x ∷ []) (list_all-reverse p xs parts.1) (and_from (p x) true parts.0 refl)

no-return : (line : List ℕ) → list_all (λ b. not (b == 13)) line ≡ true → without_return_first line ≡ line
no-return [] all = refl
no-return (b ∷ line) all =
    let parts = and_parts (not (b == 13)) (list_all (λ c. not (c == 13)) line) all in
    grind (arith, nat_tests, parts.0)

pub whole-line : (line : List ℕ) → list_all (λ b. not (b == 13)) line ≡ true → without_return line ≡ line
whole-line line all =
    ap reverse (no-return (reverse line) (list_all-reverse (λ b. not (b == 13)) line all)) ∙ reverse-reverse line

plain-no_return : (b : ℕ) → is_plain b ≡ true → not (b == 13) ≡ true
plain-no_return b plain = grind (arith, nat_tests)

-- the words of a line of words
pub words-read : (word : List ℕ) (words : List (List ℕ)) → IsOneWord word → AreWords words → words_of (word ++ spaced words) ≡ word ∷ words
words-read word words one all =
    let line : List ℕ = word ++ spaced words in
    let whole = whole-line line (line-plain (λ b. not (b == 13)) plain-no_return refl word words one all) in
    let cut = words-cut word words one all in
    let kept = all-kept (word ∷ words) (one, all) in
    let uncut = none-comment (word ∷ words) (one, all) in
    ap (λ l. take_while (λ w. not (begins_comment w)) (filter is_word (slice_split is_blank l))) whole
    ∙ ap (λ ws. take_while (λ w. not (begins_comment w)) (filter is_word ws)) cut
    ∙ ap (λ ws. take_while (λ w. not (begins_comment w)) ws) kept ∙ uncut

-- a text of lines is cut at their ends
pub line-cut : (line rest : List ℕ) → list_all (λ b. not (b == 10)) line ≡ true → slice_split (λ b. b == 10) (line ++ 10 ∷ rest) ≡ line ∷ slice_split (λ b. b == 10) rest
line-cut line rest all = cut-after (λ b. b == 10) line 10 rest all refl

pub plain-feed : (b : ℕ) → is_plain b ≡ true → not (b == 10) ≡ true
plain-feed b plain = ap not (plain-no_feed b plain)
