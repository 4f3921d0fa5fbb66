-- The samples eaten are enough.
use Rattle.std.proofs.Common.{◌≡◌, ◌+◌, ◌-◌, ◌++◌, length, drop, sym, ap, ◌∙◌, arith}
use Rattle.std.proofs.lemmas.List.{length-drop, take_all}
use Rattle.std.proofs.Math.Seq.{drop-append-add}
use Rattle.pcm_feeder.proofs.history.move_on.Goals as goal

pub returns-else-more-count : goal.returns-else-more-count
returns-else-more-count c =
    let kept = c.args.kept.now in
    let eaten = c.args.eaten.now in
    let all : length kept + (length eaten - length kept) ≡ length eaten = omega (arith, c.if-more-count.false) in
    let last = drop (length eaten - length kept) eaten in
    c.copy_from_slice-else-more-count.ensures.after
    ∙ take_all (length eaten - (length eaten - length kept)) last (omega (arith, length-drop (length eaten - length kept) eaten))
    ∙ sym (drop-append-add kept eaten (length eaten - length kept)) ∙ ap (λ n. drop n (kept ++ eaten)) all
