-- Texts that are put one after another.
use Rattle.std.proofs.Common.{◌≡◌, ℕ, ◌+◌, ◌-◌, ◌*◌, ◌≤◌, List, ◌++◌, take, drop, length, sym, subst, ◌∙◌, ap, arith, append_assoc}
use Rattle.std.proofs.Math.Seq.{drop-drop}
use Rattle.std.proofs.lemmas.Slice.{take-put_mid, drop-put_mid}
use borrow.Rule.Slice.PartMut.{put_mid}
use Rattle.hex.specs.Hex.{encode_lower, lower_digits}
use Rattle.hex.proofs.HexLemmas.{length-encode_with}
use Rattle.pcm_report.specs.Texts.{IsPut}

-- what is the same from one place on is the same from a later one on
same-later : (xs ys : List ℕ) (from to : ℕ) → from ≤ to → drop from xs ≡ drop from ys → drop to xs ≡ drop to ys
same-later xs ys from to onward same =
    let on : to ≡ from + (to - from) = omega arith in
    ap (λ (n : ℕ). drop n xs) on ∙ sym (drop-drop (to - from) from xs) ∙ ap (drop (to - from)) same ∙ drop-drop (to - from) from ys ∙ ap (λ (n : ℕ). drop n ys) (sym on)

-- one text, and then another
pub put-next : {first next old between new : List ℕ} {from middle to : ℕ} → IsPut first from middle old between → IsPut next middle to between new → IsPut (first ++ next) from to old new
put-next {first} {next} {old} {between} {new} {from} {middle} {to} one two = record {
  onward = omega (arith, one.onward, two.onward);
  front = two.front ∙ ap (λ (front : List ℕ). front ++ next) one.front ∙ append_assoc (take from old) first next;
  rest = two.rest ∙ same-later between old middle to two.onward one.rest;
}

-- a text is copied to its place
pub put-part : (text copied old : List ℕ) (at : ℕ) → copied ≡ text → at + length text ≤ length old
    → IsPut text at (at + length text) old (put_mid at (at + length text - at) old copied)
put-part text copied old at copy room = subst (λ (bytes : List ℕ). IsPut text at (at + length text) old (put_mid at (at + length text - at) old bytes)) (sym copy) (record {
  onward = omega arith;
  front = take-put_mid at (at + length text - at) old text (at + length text) (omega arith) (omega arith);
  rest = drop-put_mid at (at + length text - at) old text (at + length text) (omega arith) (omega arith) (omega arith);
})

-- bytes are spelled in hexadecimal at their place
pub put-hexadecimal : (bytes spelled old : List ℕ) (at : ℕ) → spelled ≡ encode_lower bytes → at + 2 * length bytes ≤ length old
    → IsPut (encode_lower bytes) at (at + 2 * length bytes) old (put_mid at (at + 2 * length bytes - at) old spelled)
put-hexadecimal bytes spelled old at same room =
    let twice = length-encode_with lower_digits bytes in
    subst (λ (count : ℕ). IsPut (encode_lower bytes) at (at + count) old (put_mid at (at + count - at) old spelled)) twice
    (put-part (encode_lower bytes) spelled old at same (omega arith))
