use Rattle.std.proofs.Common.{◌≡◌, ◌≤◌, ◌++◌, length, drop, ◌+◌, ◌%◌, ap, subst, sym, ◌∙◌, arith, length-append, length-take, length-drop}
use Rattle.std.specs.Prelude.{slice_index_or}
use Rattle.std.proofs.Math.Nat.{mod_self}
use Rattle.std.proofs.lemmas.List.FromFn.{fill_by_all}
use Rattle.pcm_map.proofs.Repeats.{Repeats, length-doubled, repeats-doubled, repeats-once, whole-doubled}
use Rattle.pcm_map.proofs.area.repeat.Goals as goal

pub loop-filled-init : goal.loop-filled-init
loop-filled-init c =
    let first = c.min-first.result in
    let front = c.copy_from_slice.new.self in
    let rest = drop first c.args.bytes.now in
    let long : length front ≡ first = c.copy_from_slice.ensures.len
    ∙ omega (arith, length-take first c.args.bytes.now, c.min-first.ensures) in
    let size : length (front ++ rest) ≡ length
    c.args.bytes.now = omega (arith, length-append front rest, long, length-drop first c.args.bytes.now, c.min-first.ensures) in
    record {
      size = size;
      some = λ more. omega (arith, c.min-first.ensures, c.requires, size, more);
      within = omega (arith, size, c.min-first.ensures);
      whole = λ more.
          let all : first ≡ length c.args.sample.now = omega (arith, c.min-first.ensures, size, more) in
          ap (λ n. n % length c.args.sample.now) all ∙ mod_self (length c.args.sample.now);
      repeated = repeats-once c.args.sample.now front rest first (omega (arith, c.min-first.ensures)) c.copy_from_slice.ensures.after;
    }

pub loop-filled-preserved : goal.loop-filled-preserved
loop-filled-preserved c =
    let l = c.loop-filled in
    let count = c.double-filled.result in
    let room : l.filled + count ≤ length l.bytes = omega (arith, c.double-filled.ensures.count, c.loop-filled-test.true) in
    let size = ap length c.double-filled.ensures.bytes ∙ length-doubled l.bytes l.filled count room in
    record {
      size = size ∙ l.invariant.size;
      some = λ more. omega (arith, l.invariant.some c.loop-filled-test.true);
      within = omega (arith, size, room);
      whole = λ more.
          let twice : count ≡ l.filled = omega (arith, c.double-filled.ensures.count, size, more) in
          ap (λ n. (l.filled + n) % length c.args.sample.now) twice
          ∙ whole-doubled (length c.args.sample.now) l.filled (l.invariant.whole c.loop-filled-test.true);
      repeated = subst (Repeats c.args.sample.now (l.filled + count)) (sym c.double-filled.ensures.bytes)
          (repeats-doubled c.args.sample.now l.bytes l.filled count (omega (arith, c.double-filled.ensures.count)) room
          (l.invariant.whole c.loop-filled-test.true) l.invariant.repeated);
    }

pub returns : goal.returns
returns c =
    fill_by_all (λ b. slice_index_or c.args.sample.now (b % length c.args.sample.now) 0) c.loop-filled.bytes (length c.args.bytes.now) 0
    c.loop-filled.invariant.size (λ k below. c.loop-filled.invariant.repeated k (omega (arith, c.loop-filled-test.false)))
