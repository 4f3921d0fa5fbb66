use Rattle.std.proofs.Common.{◌+◌, ◌++◌, ◌∷◌, [], List, length, ap, ◌∙◌}
use Rattle.std.proofs.lemmas.List.{length_push}
use Rattle.std.proofs.lemmas.List.Elements.{All-push, All-same}
use Rattle.pcm_feeder.specs.declared.rack.SevenOf.{SevenOf}
use Rattle.feed_stages.proofs.Cases.{HaveTheirKinds}
use Rattle.feed_stages.proofs.racks.sevens.Goals as goal

pub loop-preserved : goal.loop-preserved
loop-preserved c =
    let before = c.loop.sevens.items in
    let seven = c.in_ok-seven_stages.field-0 in
    let items = c.in_ok-push.ensures.items in
    record {
      kinds = All-same HaveTheirKinds c.push.new.self.items (before ++ seven ∷ []) items
          (All-push HaveTheirKinds before seven c.loop.invariant.kinds c.in_ok-seven_stages.ensures.kinds);
      count = ap (λ (list : List (SevenOf _)). length list) items ∙ length_push before seven ∙ ap (λ n. n + 1) c.loop.invariant.count;
    }
