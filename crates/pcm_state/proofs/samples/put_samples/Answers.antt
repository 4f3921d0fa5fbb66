use Rattle.std.proofs.Common.{◌≡◌, ◌+◌, ◌*◌, ◌-◌, ◌++◌, [], pos, w32, FitsSigned, to_z, of_z, length, take, get_or, sym, ap, ◌∙◌, arith, rules}
use Rattle.std.proofs.lemmas.Int.{to_z-of_z}
use Rattle.std.proofs.lemmas.List.{flat_map_more, take_more}
use Rattle.std.proofs.lemmas.Slice.{take-put_mid}
use Rattle.pcm_state.specs.Samples.{sample_bytes, spelled_sample}
use Rattle.pcm_state.proofs.Spelled.{length-sample}
use Rattle.pcm_state.proofs.samples.put_samples.Goals as goal

pub loop-i-preserved : goal.loop-i-preserved
loop-i-preserved c =
    let l = c.loop-i in
    let samples = c.args.samples.now in
    let sample = get_or samples l.i (pos 0) in
    let small : FitsSigned w32 sample = search rules in
    let is : c.put_sample.new.out ≡ spelled_sample sample = c.put_sample.ensures ∙ ap spelled_sample (to_z-of_z w32 sample small) in
    let long = ap length is ∙ length-sample sample in
    take-put_mid (4 * l.i) (4 * l.i + 4 - 4 * l.i) l.out c.put_sample.new.out (4 * (l.i + 1)) (omega (arith, long)) (omega (arith, c.requires, l.auto.out))
    ∙ ap (λ front. front ++ c.put_sample.new.out) l.invariant
    ∙ ap (λ back. sample_bytes (take l.i samples) ++ back) is
    ∙ flat_map_more spelled_sample [] (take l.i samples) sample
    ∙ ap sample_bytes (sym (take_more samples l.i (pos 0) c.loop-i-test.true))
