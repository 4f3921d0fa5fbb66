use Rattle.std.proofs.Common.{rules, arith, sym, ap, ◌∙◌}
use Rattle.std.proofs.lemmas.List.{take-take}
use Rattle.pcm_script.specs.declared.words.TheConstants.{KEPT}
use Rattle.pcm_script.specs.Words.{lent}
use Rattle.pcm_script.proofs.FirstWords.{parts_of, parts_of-first, with_parts, with_parts-comment, with_parts-end, with_parts-more}
use Rattle.pcm_script.proofs.words.first_words.Goals as goal

pub returns-then-begins_comment : goal.returns-then-begins_comment
returns-then-begins_comment c =
    let kept = lent c.loop-rest.words.items in
    let held = rw c.in-Some.is at c.loop-rest.invariant.1 in
    let cut = parts_of-first c.in-Some.text.now c.first_part.result.0.now c.first_part.result.1 c.first_part.ensures.parts in
    sym c.loop-rest.invariant.0 ∙ sym (with_parts-comment kept (parts_of c.first_part.result.1) c.first_part.result.0.now (search rules))
    ∙ sym (ap (with_parts kept) cut) ∙ held

pub loop-rest-preserved : goal.loop-rest-preserved
loop-rest-preserved c =
    let kept = lent c.loop-rest.words.items in
    let held = rw c.in-Some.is at c.loop-rest.invariant.1 in
    let cut = parts_of-first c.in-Some.text.now c.first_part.result.0.now c.first_part.result.1 c.first_part.ensures.parts in (
      rw c.keep.ensures (take-take KEPT KEPT _ (omega arith)),
      rw c.keep.ensures (with_parts-more kept (parts_of c.first_part.result.1) c.first_part.result.0.now (search rules)
          ∙ sym (ap (with_parts kept) cut) ∙ held),
    )

pub returns : goal.returns
returns c =
    let held = rw c.in_default.is at c.loop-rest.invariant.1 in
    sym c.loop-rest.invariant.0 ∙ sym (with_parts-end (lent c.loop-rest.words.items)) ∙ held
