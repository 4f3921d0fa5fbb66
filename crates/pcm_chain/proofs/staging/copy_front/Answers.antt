use Rattle.std.proofs.Common.{rules, ◌≡◌, ◌+◌, ◌++◌, suc, [], ◌∷◌, pos, take, get_or, slice_set, All, FitsSigned, to_z, of_z, w32, take-suc, take-suc-set, ap, ◌∙◌, sym, subst, arith}
use Rattle.std.proofs.lemmas.Int.{to_z-of_z}
use Rattle.std.proofs.lemmas.List.{length-set}
use Rattle.std.proofs.lemmas.List.Elements.{All-nil, All-cons, All-append}
use Rattle.pcm_num.specs.Limit.{FitsBits}
use Rattle.pcm_num.proofs.Limits.{FitsBits-from_signed}
use Rattle.pcm_chain.proofs.staging.copy_front.Goals as goal

pub loop-i-preserved : goal.loop-i-preserved
loop-i-preserved c =
    let l = c.loop-i in
    let all = c.args.samples.now in
    let v = get_or all l.i (pos 0) in
    let small : FitsSigned w32 (get_or all l.i (pos 0)) = search rules in
    let next : l.i + 1 ≡ suc l.i = omega arith in
    let whole : take (l.i + 1) all ≡ take l.i all ++ v ∷ [] = ap (λ n. take n all) next ∙ take-suc all l.i (pos 0) c.loop-i-test.true in
    let copied : to_z w32 (of_z w32 v) ≡ v = to_z-of_z w32 v small in
    record {
      size = length-set l.frames l.i (to_z w32 (of_z w32 v)) ∙ l.invariant.size;
      loaded = ap (λ n. take n (slice_set l.frames l.i (to_z w32 (of_z w32 v)))) next
          ∙ take-suc-set l.frames l.i (to_z w32 (of_z w32 v)) (omega (arith, l.invariant.size, c.requires.within, c.loop-i-test.true))
          ∙ ap (λ z. take l.i l.frames ++ z ∷ []) copied
          ∙ ap (λ list. list ++ v ∷ []) l.invariant.loaded
          ∙ sym whole;
      fits = subst (All (FitsBits 32)) (sym whole)
          (All-append (FitsBits 32) (take l.i all) (v ∷ []) l.invariant.fits
          (All-cons (FitsBits 32) v [] (FitsBits-from_signed v small) (All-nil (FitsBits 32))));
    }
