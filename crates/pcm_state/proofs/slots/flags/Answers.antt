use Rattle.std.proofs.Common.{◌≡◌, ◌<◌, false, Some, length, map, take, get_or, sym, ap, ◌∙◌, arith}
use Rattle.std.proofs.lemmas.List.{get_or-map, length-map, take_all}
use Rattle.std.proofs.lemmas.Option.{none-some}
use Rattle.pcm_state.specs.OpeningRows.{flag}
use Rattle.pcm_state.proofs.Known.{flags-known}
use Rattle.pcm_state.proofs.slots.flags.Goals as goal

pub returns-in_err-flags-clause-some : goal.returns-in_err-flags-clause-some
returns-in_err-flags-clause-some c = λ flags same.
    let slot = c.loop-slot.slot in
    let numbers = c.args.numbers.now in
    let there : slot < length flags = omega (arith, length-map flags flag, ap length same, c.requires) in
    absurd (none-some (get_or flags slot false) (c.in_err-flags.ensures.some (get_or flags slot false) (sym (get_or-map flag flags slot false 0 there) ∙ ap (λ l. get_or l slot 0) same)))

pub returns-clause-some : goal.returns-clause-some
returns-clause-some c = λ flags same.
    let l = c.loop-slot in
    let numbers = c.args.numbers.now in
    let front : map flag (take l.slot l.flags) ≡ take l.slot numbers = l.invariant.0 in
    let all : map flag l.flags ≡ numbers =
    ap (map flag) (sym (take_all l.slot l.flags (omega (arith, l.invariant.1)))) ∙ front ∙ take_all l.slot numbers (omega (arith, c.requires)) in
    ap (λ made. Some made) (flags-known l.flags flags (all ∙ sym same))
