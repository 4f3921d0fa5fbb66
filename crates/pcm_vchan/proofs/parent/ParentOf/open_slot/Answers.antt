use Rattle.std.proofs.Common.{[], refl, ap, ◌∙◌, arith}
use Rattle.pcm_sequence.specs.Fixed.{fixed_items}
use Rattle.pcm_oss.specs.declared.event.Way.TheVariants.{Play, Record, Map}
use Rattle.pcm_desk.specs.Desk.{slot_number}
use Rattle.pcm_desk.specs.declared.map_book.MapBook.{MapBook}
use Rattle.pcm_desk.specs.declared.play_book.PlayBook.{PlayBook}
use Rattle.pcm_desk.specs.declared.record_book.RecordBook.{RecordBook}
use Rattle.pcm_desk.specs.PlayBooks.{is_play_free, play_begun}
use Rattle.pcm_desk.specs.RunStates.{is_unheld}
use Rattle.pcm_desk.specs.RecordBooks.{record_begun}
use Rattle.pcm_desk.specs.MapBooks.{map_begun}
use Rattle.pcm_play.specs.declared.channel.PlayChannelOf.{PlayChannelOf}
use Rattle.pcm_play.specs.Channels.{PlayMoves}
use Rattle.pcm_play.proofs.Moving as players
use Rattle.pcm_record.specs.declared.channel.RecordChannelOf.{RecordChannelOf}
use Rattle.pcm_record.specs.Channels.{RecordMoves}
use Rattle.pcm_record.proofs.Moving as recorders
use Rattle.pcm_map.specs.declared.channel.MapChannelOf.{MapChannelOf}
use Rattle.pcm_vchan.specs.Parents.{map_channels, play_channels, record_channels}
use Rattle.pcm_vchan.specs.Slots.{MapKeeps}
use Rattle.pcm_vchan.proofs.Channels.{map-begins, map-keeps-nothing}
use Rattle.pcm_vchan.proofs.Openings.{begins-free, opened}
use Rattle.pcm_vchan.proofs.parent.ParentOf.open_slot.Goals as goal

pub returns-in-Play-clause-play : goal.returns-in-Play-clause-play
returns-in-Play-clause-play g c = λ way.
    let kind = g.B.Feeder.kind in
    let kept = g.B.Feeder.kept in
    let filters = c.args.tables.now in
    let old = c.args.self.now in
    let told = c.number_of-first.ensures ∙ ap (λ way. slot_number old.device.play_slots way 0) c.in-Play.is in
    let o = opened (λ (channel : PlayChannelOf _). channel.path) (λ channel. channel.book) (λ (book : PlayBook). is_play_free book.state)
    (slot_number old.device.play_slots Play) (play_begun c.args.settings) (PlayMoves kind kept filters [] 0) old.device
    (play_channels old) (fixed_items c.open_in.new.channels) c.open_in.result c.number_of-first.result _ (λ place. omega (arith, told))
    (players.moves-nothing kind kept filters [] 0) c.requires.served.own refl c.open_in.ensures.told c.open_in.ensures.begins in
    record { begins = o.begins; own = o.own; moves = o.kept; others = refl; mapped = refl }

pub returns-in-Record-clause-recording : goal.returns-in-Record-clause-recording
returns-in-Record-clause-recording g c = λ way.
    let kind = g.B.Feeder.kind in
    let kept = g.B.Feeder.kept in
    let filters = c.args.tables.now in
    let old = c.args.self.now in
    let told = c.number_of-first.ensures ∙ ap (λ way. slot_number old.device.play_slots way 0) c.in-Record.is in
    let o = opened (λ (channel : RecordChannelOf _). channel.path) (λ channel. channel.book) (λ (book : RecordBook). is_unheld book.state)
    (slot_number old.device.play_slots Record) (record_begun c.args.settings) (RecordMoves kind kept filters [] 0) old.device
    (record_channels old) (fixed_items c.open_in-in-Record.new.channels) c.open_in-in-Record.result c.number_of-first.result _
    (λ place. omega (arith, told)) (recorders.moves-nothing kind kept filters [] 0) c.requires.served.recorders_own refl
    c.open_in-in-Record.ensures.told c.open_in-in-Record.ensures.begins in
    record { begins = o.begins; own = o.own; moves = o.kept; others = refl; mapped = refl }

pub returns-in-Map-clause-mapped : goal.returns-in-Map-clause-mapped
returns-in-Map-clause-mapped g c = λ way.
    let kind = g.B.Feeder.kind in
    let kept = g.B.Feeder.kept in
    let filters = c.args.tables.now in
    let old = c.args.self.now in
    let told = c.number_of-first.ensures ∙ ap (λ way. slot_number old.device.play_slots way 0) c.in-Map.is in
    let o = opened (λ (channel : MapChannelOf _). channel.path) (λ channel. channel.book) (λ (book : MapBook). is_unheld book.state)
    (slot_number old.device.play_slots Map) (map_begun c.args.settings) (MapKeeps kind kept filters (λ area. area)) old.device
    (map_channels old) (fixed_items c.open_in-in-Map.new.channels) c.open_in-in-Map.result c.number_of-first.result _
    (λ place. omega (arith, told)) (map-keeps-nothing kind kept filters) c.requires.served.maps_own refl
    c.open_in-in-Map.ensures.told
    (begins-free (λ (channel : MapChannelOf _). is_unheld channel.book.state) _ _ _ _ _ (map-begins kind kept filters c.args.settings) refl
    c.open_in-in-Map.ensures.begins) in
    record { begins = o.begins; own = o.own; keeps = o.kept; others = refl; recording = refl }
