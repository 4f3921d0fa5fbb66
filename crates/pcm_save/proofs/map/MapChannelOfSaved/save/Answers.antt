use Rattle.std.proofs.Common.{◌≡◌, take, ap, ◌∙◌}
use Rattle.pcm_sequence.specs.Fixed.{fixed_items}
use Rattle.pcm_desk.specs.RunStates.{is_unheld}
use Rattle.pcm_map.specs.Channels.{area_of}
use Rattle.pcm_state.specs.Numbers.{spelled_numbers}
use Rattle.pcm_state.specs.MapRows.{map_book_row}
use Rattle.pcm_save.specs.Parts.{past_bytes}
use Rattle.pcm_save.proofs.Loading.{join}
use Rattle.pcm_save.proofs.map.MapChannelOfSaved.save.Goals as goal

pub returns-clause-saved : goal.returns-clause-saved
returns-clause-saved g c =
    let kept = g.B.Feeder.kept in
    let channel = c.args.self.now in
    let area : c.copy_from_slice.new.self ≡ area_of channel =
    c.copy_from_slice.ensures.after ∙ ap (take c.area_size-size.result) c.deref.ensures.value ∙ ap (λ n. take n (fixed_items channel.area)) c.area_size-size.ensures in
    join c.put_numbers.new.out c.copy_from_slice.new.self c.put_past.new.out
    (spelled_numbers (map_book_row channel.book)) (area_of channel) (past_bytes kept (is_unheld channel.book.state) channel.path.chain)
    (c.put_numbers.ensures.spelled ∙ ap spelled_numbers c.map_row-row.ensures.row) area
    (c.put_past.ensures ∙ ap (λ free. past_bytes kept free channel.path.chain) c.is_free.ensures)
