use Rattle.std.proofs.Common.{◌≡◌, ◌+◌, ◌-◌, ◌++◌, min, length, take, drop, refl, sym, ap, ◌∙◌, arith, length-append, length-take, length-drop}
use Rattle.std.proofs.Math.Nat.{mod-lt}
use Rattle.std.proofs.lemmas.List.{append_assoc, take_all}
use Rattle.pcm_ring.specs.Ring.{Ring}
use Rattle.pcm_sound.specs.Areas.{area_bytes}
use Rattle.pcm_map.proofs.Areas.{area-split, area-turned}
use Rattle.pcm_map.proofs.area.put_round.Goals as goal

pub loop-left-init : goal.loop-left-init
loop-left-init c = record {
  place = mod-lt c.args.from c.requires.some;
  room = c.requires.room;
  ring = refl;
  bytes = ap (λ taken. c.args.ring.now.bytes ++ taken) (area-turned c.args.area.now c.args.from c.args.count);
}

pub loop-left-preserved : goal.loop-left-preserved
loop-left-preserved c =
    let l = c.loop-left in
    let area = c.args.area.now in
    let part = c.min-part.result in
    let some = c.loop-left-test.true in
    let there = l.invariant.place in
    let room = l.invariant.room in
    let part_is : part ≡ min l.left (length area - l.place) = c.min-part.ensures in
    let here : l.place + part - l.place ≡ part = omega arith in
    let piece = take (l.place + part - l.place) (drop l.place area) in
    let long : length piece ≡ part = omega (
      arith,
      length-take (l.place + part - l.place) (drop l.place area),
      length-drop l.place area,
      here,
      part_is,
    ) in
    let count : c.put.result ≡ part = omega (arith, c.put.ensures.count, long, room, part_is) in
    let bytes = ap (λ (ring : Ring). ring.bytes) c.put.ensures.kept in
    let row : take c.put.result piece ≡ take (min l.left (length area - l.place)) (drop l.place area) =
    take_all c.put.result piece (omega (arith, long, count)) ∙ ap (λ k. take k (drop l.place area)) (here ∙ part_is) in
    record {
      place = omega arith;
      room = omega (
        arith,
        ap length bytes,
        ap (λ (ring : Ring). ring.size) c.put.ensures.kept,
        c.put.ensures.count,
        count,
        long,
        length-append l.ring.bytes (take c.put.result piece),
        length-take c.put.result piece,
      );
      ring = c.put.ensures.kept ∙ ap (λ (ring : Ring). record ring { bytes = l.ring.bytes ++ take c.put.result piece }) l.invariant.ring
          ∙ ap (λ list. record c.args.ring.now { bytes = list }) (sym bytes);
      bytes = ap (λ list. list ++ area_bytes area 0 (l.left - part)) (bytes ∙ ap (λ list. l.ring.bytes ++ list) row)
          ∙ append_assoc l.ring.bytes (take (min l.left (length area - l.place)) (drop l.place area)) (area_bytes area 0 (l.left - part))
          ∙ ap (λ k. l.ring.bytes ++ (take (min l.left (length area - l.place)) (drop l.place area) ++ area_bytes area 0 (l.left - k)))
          part_is
          ∙ ap (λ list. l.ring.bytes ++ list) (area-split area l.place l.left there)
          ∙ l.invariant.bytes;
    }
