use Rattle.std.proofs.Common.{◌≡◌, List, [], ◌∷◌, ◌++◌, map, sym, ap, ◌∙◌, append_assoc}
use Rattle.std.proofs.lemmas.List.{map-append}
use Rattle.std.proofs.lemmas.List.Elements.{All-push, All-map, All-same}
use Rattle.pcm_feeder.specs.Racks.{HaveKinds, IsRack, boxes_of}
use Rattle.pcm_feeder.proofs.rack.RackOf.of_each.Goals as goal

-- the next of those left, between those before and the rest
next-split : {X : Type 0} (all before left rest : List X) (x : X) → all ≡ before ++ left → left ≡ x ∷ rest → all ≡ before ++ x ∷ rest
next-split all before left rest x split next = split ∙ ap (λ l. before ++ l) next

-- and with it at the end of those before
one-more : {X : Type 0} (all before left rest : List X) (x : X) → all ≡ before ++ left → left ≡ x ∷ rest → all ≡ (before ++ x ∷ []) ++ rest
one-more all before left rest x split next = next-split all before left rest x split next ∙ sym (append_assoc before (x ∷ []) rest)

pub loop-seven-preserved : goal.loop-seven-preserved
loop-seven-preserved g c =
    let racks = c.loop-seven.racks.items in
    let rack = c.in-Ok.rack in
    record {
      kinds = rw c.in_ok-push-in-Ok.ensures.items
          (All-push (IsRack g.B.Feeder.kind) racks rack c.loop-seven.invariant.kinds c.in-Ok.ensures.kinds);
      same = rw c.in_ok-push-in-Ok.ensures.items
          (map-append boxes_of racks (rack ∷ []) ∙ rw (c.loop-seven.invariant.same, c.in-Ok.ensures.same));
      left = one-more c.args.boxes.items c.loop-seven.yielded c.loop-seven.seven-iterator.rest.items c.next.new.self.rest.items
          c.in-Some.seven c.loop-seven.invariant.left c.in-Some.ensures.steps.0;
    }

pub returns-in-Err-clause-fault : goal.returns-in-Err-clause-fault
returns-in-Err-clause-fault g c =
    let racks = c.loop-seven.racks.items in
    let yielded = c.loop-seven.yielded in
    record {
      before = yielded;
      seven = c.in-Some.seven;
      after = c.next.new.self.rest.items;
      split = next-split c.args.boxes.items yielded c.loop-seven.seven-iterator.rest.items c.next.new.self.rest.items c.in-Some.seven
          c.loop-seven.invariant.left c.in-Some.ensures.steps.0;
      right = All-same (HaveKinds g.B.Feeder.kind) yielded (map boxes_of racks) (sym c.loop-seven.invariant.same)
          (All-map (HaveKinds g.B.Feeder.kind) boxes_of racks c.loop-seven.invariant.kinds);
      wrong = c.in-Err.ensures.wrong;
    }
