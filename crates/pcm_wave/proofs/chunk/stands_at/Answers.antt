use Rattle.std.proofs.Common.{◌≡◌, ◌-◌, take, drop, length, ap, ◌∙◌, nat_eq, arith, length-drop}
use Rattle.std.specs.List.{starts_with}
use Rattle.std.proofs.lemmas.List.{take_all}
use Rattle.pcm_wave.proofs.Words.{bytes_eq-sym}
use Rattle.pcm_wave.proofs.chunk.stands_at.Goals as goal

pub returns-in-Some : goal.returns-in-Some
returns-in-Some c =
    let bytes = c.args.bytes.now in
    let word = c.args.word.now in
    let rest : c.in-Some.rest.now ≡ drop c.args.place bytes =
    c.in-Some.ensures.lookup.0.2 ∙ take_all (length bytes - c.args.place) (drop c.args.place bytes)
    (omega (arith, length-drop c.args.place bytes)) in
    c.starts_with.ensures.value ∙ ap (λ r. starts_with nat_eq r word) rest
    ∙ bytes_eq-sym word (take (length word) (drop c.args.place bytes))
