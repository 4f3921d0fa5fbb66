use Rattle.std.proofs.Common.{sym, ◌∙◌}
use Rattle.std.proofs.lemmas.List.Folds.{list_all-map}
use Rattle.pcm_desk.specs.PlayBooks.{is_play_free}
use Rattle.pcm_desk.specs.RunStates.{is_unheld}
use Rattle.pcm_engine.specs.Types.{MapBook, PlayBook, RecordBook}
use Rattle.pcm_play.specs.declared.channel.PlayChannelOf.{PlayChannelOf}
use Rattle.pcm_record.specs.declared.channel.RecordChannelOf.{RecordChannelOf}
use Rattle.pcm_map.specs.declared.channel.MapChannelOf.{MapChannelOf}
use Rattle.pcm_vchan.specs.Parents.{map_channels, play_channels, record_channels}
use Rattle.pcm_engine.specs.Engines.{desk_of}
use Rattle.pcm_engine.proofs.engine.EngineOf.is_idle.Goals as goal

pub returns : goal.returns
returns g c =
    let parent = c.args.self.now.parent in
    let desk = desk_of c.args.self.now in
    let plays = c.plays_none.ensures ∙ sym (list_all-map (λ (book : PlayBook). is_play_free book.state)
    (λ (channel : PlayChannelOf _). channel.book) (play_channels parent)) in
    let records = c.records_none.ensures ∙ sym
    (list_all-map (λ (book : RecordBook). is_unheld book.state) (λ (channel : RecordChannelOf _). channel.book)
    (record_channels parent)) in
    let maps = c.maps_none.ensures ∙ sym (list_all-map (λ (book : MapBook). is_unheld book.state)
    (λ (channel : MapChannelOf _). channel.book) (map_channels parent)) in
    cc (plays, records, maps)
