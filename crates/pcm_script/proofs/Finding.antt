-- A file that is looked for by halves is the first of its name.
use Rattle.std.proofs.Common.{◌≡◌, ◌<◌, ◌≤◌, ◌+◌, ◌-◌, ℕ, zero, suc, Bool, true, false, List, length, get_or, Some, None, Result, Ok, Err, Less, Equal, Greater, Ordering, nat_cmp, cond, nat_lt, refl, sym, ap, subst, ◌∙◌, arith, position}
use Rattle.std.specs.Cmp.Lexicographic.{slice_cmp}
use Rattle.std.specs.List.{position_or_len}
use Rattle.std.specs.List.Sorted.{IsBinarySearchResult, IsNonDecreasingBy, IsSearchInRange}
use Rattle.std.specs.Ordering.{is_eq, is_lt, ordering_index, ordering_reverse}
use Rattle.std.specs.Result.{result_ok}
use Rattle.std.proofs.lemmas.Bool.{false≢true}
use Rattle.std.proofs.lemmas.Bool.Decides.{nat_tests}
use Rattle.std.proofs.lemmas.Cmp.{alike_right, nat_list_cmp_total}
use Rattle.std.proofs.lemmas.List.Sums.{position_or_len_is}
use Rattle.std.proofs.lemmas.Map.Text.{is_eq-slice_cmp}
use Rattle.pcm_wave.specs.DataFiles.{DataFileSeen}
use Rattle.pcm_script.specs.Commands.{is_file_named}
use Rattle.pcm_script.specs.Listed.{AreRising}
use Rattle.pcm_script.proofs.Asked.{some_file}

-- ---- two names

abbrev order : List ℕ → List ℕ → Ordering
order one next = slice_cmp nat_cmp one next

less : (o : Ordering) → is_lt o ≡ true → o ≡ Less
less Less is = refl
less Equal is = absurd (false≢true is)
less Greater is = absurd (false≢true is)

-- names that rise rise over any distance
apart : (files : List DataFileSeen) (i g : ℕ) (d : DataFileSeen) → AreRising files → i + g + 1 < length files
    → order (get_or files i d).name (get_or files (i + g + 1) d).name ≡ Less
apart files i zero d rising within =
    let at : i + 1 ≡ i + 0 + 1 = omega arith in
    subst (λ n. order (get_or files i d).name (get_or files n d).name ≡ Less) at (less _ (rising i d (omega arith)))
apart files i (suc g) d rising within =
    let at : i + g + 1 + 1 ≡ i + suc g + 1 = omega arith in
    let further = less _ (rising (i + g + 1) d (omega arith)) in
    subst (λ n. order (get_or files i d).name (get_or files n d).name ≡ Less) at
    (nat_list_cmp_total.trans (get_or files i d).name (get_or files (i + g + 1) d).name (get_or files (i + g + 1 + 1) d).name (apart files i g d rising (omega arith)) further)

rising-apart : (files : List DataFileSeen) (i j : ℕ) (d : DataFileSeen) → AreRising files → i < j → j < length files
    → order (get_or files i d).name (get_or files j d).name ≡ Less
rising-apart files i j d rising before within =
    let at : i + (j - (i + 1)) + 1 ≡ j = omega arith in
    subst (λ n. order (get_or files i d).name (get_or files n d).name ≡ Less) at (apart files i (j - (i + 1)) d rising (omega arith))

-- whatever a name is to a word, a later one is that or further on
after : (one next word : List ℕ) → order one next ≡ Less → (o : Ordering) → order one word ≡ o → ordering_index o ≤ ordering_index (order next word)
after one next word before Less is = omega arith
after one next word before Equal is =
    let past : order word next ≡ Less = sym (nat_list_cmp_total.congr one word next is) ∙ before in
    let two : ordering_index (order next word) ≡ 2 = ap ordering_index (nat_list_cmp_total.antisymm next word ∙ ap ordering_reverse past) in
    omega (arith, two)
after one next word before Greater is =
    let under : order word one ≡ Less = nat_list_cmp_total.antisymm word one ∙ ap ordering_reverse is in
    let past : order word next ≡ Less = nat_list_cmp_total.trans word one next under before in
    let two : ordering_index (order next word) ≡ 2 = ap ordering_index (nat_list_cmp_total.antisymm next word ∙ ap ordering_reverse past) in
    omega (arith, two)

rising-answers : (files : List DataFileSeen) (word : List ℕ) → AreRising files → IsNonDecreasingBy (λ file. ordering_index (order file.name word)) files
rising-answers files word rising i j d upto within = at (nat_lt i j) refl
  where
    at : (b : Bool) → nat_lt i j ≡ b → ordering_index (order (get_or files i d).name word) ≤ ordering_index (order (get_or files j d).name word)
    at true is =
        let before : i < j = grind (arith, nat_tests) in
        after _ _ word (rising-apart files i j d rising before within) _ refl
    at false is =
        let same : i ≡ j = grind (arith, nat_tests) in
        subst (λ n. ordering_index (order (get_or files i d).name word) ≤ ordering_index (order (get_or files n d).name word)) same (omega arith)

-- ---- which file a word names

named : (file : DataFileSeen) (word : List ℕ) (o : Ordering) → order file.name word ≡ o → is_file_named word file ≡ is_eq o
named file word o is = sym (is_eq-slice_cmp file.name word) ∙ ap is_eq is

place-at : (p : DataFileSeen → Bool) (files : List DataFileSeen) (i : ℕ) → i < length files → p (get_or files i some_file) ≡ true
    → ((k : ℕ) → k < i → p (get_or files k some_file) ≡ false) → position p files ≡ Some i
place-at p files i within at before =
    let first : position_or_len p files ≡ i = position_or_len_is p files i some_file (omega arith) before (λ below. at) in
    let inside : nat_lt i (length files) ≡ true = grind (arith, nat_tests) in
    ap (λ n. cond (nat_lt n (length files)) (Some n) None) first ∙ ap (λ b. cond b (Some i) None) inside

no-place : (p : DataFileSeen → Bool) (files : List DataFileSeen) → ((k : ℕ) → k < length files → p (get_or files k some_file) ≡ false) → position p files ≡ None
no-place p files none =
    let end : position_or_len p files ≡ length files = position_or_len_is p files (length files) some_file (omega arith) none (λ below. absurd (omega arith)) in
    let outside : nat_lt (length files) (length files) ≡ false = grind (arith, nat_tests) in
    ap (λ n. cond (nat_lt n (length files)) (Some n) None) end ∙ ap (λ b. cond b (Some (length files)) None) outside

-- what a search by halves finds is the first of its name
pub found-by_halves : (files : List DataFileSeen) (word : List ℕ) (r : Result ℕ ℕ) → AreRising files → IsSearchInRange r (length files)
    → IsBinarySearchResult (λ file. slice_cmp nat_cmp file.name word) files r → result_ok r ≡ position (is_file_named word) files
found-by_halves files word (Ok i) rising within at =
    let name : ℕ → List ℕ = λ k. (get_or files k some_file).name in
    let lower : (k : ℕ) → k < i → order (name k) word ≡ Less = λ k before.
    sym (alike_right nat_list_cmp_total (name i) word (name k) (at some_file)) ∙ rising-apart files k i some_file rising before within in
    sym (place-at (is_file_named word) files i within (named (get_or files i some_file) word Equal (at some_file))
    (λ k before. named (get_or files k some_file) word Less (lower k before)))
found-by_halves files word (Err i) rising within split = sym (no-place (is_file_named word) files (λ k below. each k below (nat_lt k i) refl))
  where
    each : (k : ℕ) → k < length files → (b : Bool) → nat_lt k i ≡ b → is_file_named word (get_or files k some_file) ≡ false
    each k below true is =
        let before : k < i = grind (arith, nat_tests) in
        named (get_or files k some_file) word Less ((split (rising-answers files word rising)).0 k some_file (omega arith) before)
    each k below false is =
        let from : i ≤ k = grind (arith, nat_tests) in
        named (get_or files k some_file) word Greater ((split (rising-answers files word rising)).1 k some_file from below)
