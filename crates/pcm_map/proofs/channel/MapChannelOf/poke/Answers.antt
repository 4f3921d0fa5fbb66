use Rattle.std.proofs.Common.{rules, ◌≡◌, ◌+◌, ◌-◌, ◌∙◌, ◌++◌, [], ℕ, List, length, take, drop, refl, ap, arith, length-append, length-take, length-drop}
use Rattle.std.proofs.lemmas.Grind.{common_steps}
use Rattle.std.proofs.lemmas.List.{drop-drop}
use Rattle.pcm_sequence.specs.Fixed.{fixed_items}
use Rattle.pcm_sequence.proofs.Items.{items-count, items-written}
use Rattle.pcm_desk.specs.Openings.{ring_bytes}
use Rattle.pcm_map.proofs.Areas.{front-poked, poked-within}
use Rattle.pcm_map.proofs.Books.{poke-fits}
use Rattle.pcm_map.proofs.Moving.{moves-kept, moves-nothing}
use Rattle.pcm_map.proofs.channel.MapChannelOf.poke.Goals as goal

pub returns : goal.returns
returns g c =
    let old = c.args.self.now in
    let bytes = c.args.bytes.now in
    let items = fixed_items old.area in
    let size = ring_bytes old.book.opening in
    let list = c.deref_mut.result.now in
    let offset = c.args.offset in
    let fits = poke-fits offset (length bytes) old.book c.in_ok-answer.answer c.poke-turn.result c.poke-turn.ensures c.in_ok-answer.was in
    let room = old.safe.fragments.fits in
    let count : length items ≡ 131072 = items-count old.area ∙ old.size in
    let copied = c.copy_from_slice.ensures.after in
    let list_is : list ≡ items = c.deref_mut.ensures.value in
    let rest : offset + length bytes - offset ≡ length bytes = omega arith in
    let new : take offset list ++ (c.copy_from_slice.new.self ++ drop (offset + length bytes - offset) (drop offset list)) ≡ take offset
    items ++ (bytes ++ drop (offset + length bytes) items) =
    ap (λ (front : List ℕ). take offset list ++ (front ++ drop (offset + length bytes - offset) (drop offset list))) copied
    ∙ ap (λ (l : List ℕ). take offset l ++ (bytes ++ drop (offset + length bytes - offset) (drop offset l))) list_is
    ∙ ap (λ k. take offset items ++ (bytes ++ drop k (drop offset items))) rest
    ∙ ap (λ (back : List ℕ). take offset items ++ (bytes ++ back)) (drop-drop (length bytes) offset items) in
    let long : length (take offset items ++ (bytes ++ drop (offset + length bytes) items)) ≡ length items =
    omega (
      arith,
      length-append (take offset items) (bytes ++ drop (offset + length bytes) items),
      length-append bytes
          (drop (offset + length bytes) items),
      length-take offset items,
      length-drop (offset + length bytes) items,
      fits,
      room,
      count,
    ) in
    record {
      book = search rules;
      reply = search rules;
      device = refl;
      area = ap (take size) (items-written old.area _ (ap length new ∙ long ∙ items-count old.area) ∙ new)
          ∙ front-poked items bytes size offset (omega (arith, room, count)) fits
          ∙ poked-within offset bytes (take size items) (omega (arith, length-take size items, fits, room, count));
      refused = search rules;
      moves = λ filters. moves-kept g.B.Feeder.kind g.B.Feeder.kept filters [] 0 old _ refl refl refl refl refl (λ used. used);
    }

pub returns-in_err-answer : goal.returns-in_err-answer
returns-in_err-answer g c = record {
  book = grind (arith, common_steps);
  reply = search rules;
  device = refl;
  area = grind (arith, common_steps);
  refused = search rules;
  moves = λ filters. moves-nothing g.B.Feeder.kind g.B.Feeder.kept filters [] 0 c.args.self.now;
}
