use Rattle.std.proofs.Common.{◌≡◌, ℕ, ◌+◌, ◌*◌, ◌-◌, ◌<◌, ◌≤◌, List, [], ◌++◌, length, take, get_or, ℤ, pos, FitsSigned, w32, ap, sym, ◌∙◌, arith, rules}
use Rattle.std.specs.List.{flat_map}
use Rattle.std.proofs.Math.Nat.{mul-le-mul_right}
use Rattle.std.proofs.lemmas.List.{take_more, flat_map_more}
use Rattle.std.proofs.lemmas.Int.{to_z-of_z}
use Rattle.std.proofs.lemmas.Slice.{take-put_mid}
use borrow.Rule.Slice.PartMut.{put_mid}
use Rattle.pcm_format.specs.declared.format.Format.{Format}
use Rattle.pcm_format.specs.Formats.{bytes_of}
use Rattle.pcm_format.specs.Samples.{spelled}
use Rattle.pcm_format.proofs.Spelling.{length-spelled}
use Rattle.pcm_format.proofs.frame.spell_each.Goals as goal

-- one more value
spell_more : (f : Format) (values : List ℤ) (out piece : List ℕ) (i width : ℕ) → i < length values → length out ≡ length values * bytes_of f
    → width ≡ bytes_of f
    → piece ≡ spelled f (get_or values i (pos 0)) → take (i * bytes_of f) out ≡ flat_map (spelled f) (take i values)
    → take ((i + 1) * bytes_of f) (put_mid (i * width) (i * width + width - i * width) out piece) ≡ flat_map (spelled f)
    (take (i + 1) values)
spell_more f values out piece i width within all is piece_is before =
    let value = get_or values i (pos 0) in
    let start : i * width ≡ i * bytes_of f = ap (λ n. i * n) is in
    let up : i ≤ length values = omega arith in
    let room : i * bytes_of f ≤ length values * bytes_of f = mul-le-mul_right (bytes_of f) up in
    let long : length piece ≡ bytes_of f = ap length piece_is ∙ length-spelled f value in
    take-put_mid (i * width) (i * width + width - i * width) out piece ((i + 1) * bytes_of f) (omega arith) (omega arith)
    ∙ ap (λ n. take n out ++ piece) start ∙ ap (λ t. t ++ piece) before ∙ ap (λ p. flat_map (spelled f) (take i values) ++ p) piece_is
    ∙ flat_map_more (spelled f) [] (take i values) value ∙ ap (flat_map (spelled f)) (sym (take_more values i (pos 0) within))

pub loop-i-preserved : goal.loop-i-preserved
loop-i-preserved c =
    let f = c.args.f in
    let l = c.loop-i in
    let value = get_or c.args.values.now l.i (pos 0) in
    let fits : FitsSigned w32 value = search rules in
    spell_more f c.args.values.now l.out c.spell.new.out l.i c.bytes-width.result (omega arith) (omega (arith, c.requires.lengths))
    c.bytes-width.ensures
    (c.spell.ensures ∙ ap (spelled f) (to_z-of_z w32 value fits)) l.invariant
