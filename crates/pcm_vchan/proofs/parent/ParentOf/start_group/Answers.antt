use Rattle.std.proofs.Common.{cond, get_or, sym, ap, ◌∙◌}
use Rattle.pcm_sequence.specs.Fixed.{fixed_items}
use Rattle.pcm_sequence.proofs.Items.{items-count}
use Rattle.pcm_desk.specs.Channels.{play_starting, record_starting}
use Rattle.pcm_desk.specs.declared.device.Device.{Device}
use Rattle.pcm_desk.specs.Device.{seen}
use Rattle.pcm_play.specs.declared.channel.PlayChannelOf.{PlayChannelOf}
use Rattle.pcm_record.specs.declared.channel.RecordChannelOf.{RecordChannelOf}
use Rattle.pcm_vchan.specs.Parents.{play_channels, record_channels}
use Rattle.pcm_vchan.specs.Starts.{is_in}
use Rattle.pcm_vchan.proofs.Starting.{books-started}
use Rattle.pcm_vchan.proofs.parent.ParentOf.start_group.Goals as goal

pub returns-clause-books : goal.returns-clause-books
returns-clause-books g c =
    let old = c.args.self.now in
    let new = c.walk.new.channels in
    let slots = c.args.groups.now.play in
    books-started (λ (channel : PlayChannelOf _). channel.book) (play_starting (seen c.args.tables.now old.device) c.args.here) c.args.group
    slots (play_channels old) (fixed_items new) c.requires.some
    (items-count new ∙ c.walk.ensures.len ∙ sym (items-count old.channels))
    (λ slot other there.
    let channel = get_or (play_channels old) slot other in
    (c.walk.ensures.each slot other there).book
    ∙ ap (λ (device : Device). cond (is_in slots c.args.group slot) (play_starting (seen c.args.tables.now device) c.args.here channel.book)
    channel.book)
    (c.requires.served.own slot other there))

pub returns-clause-records : goal.returns-clause-records
returns-clause-records g c =
    let old = c.args.self.now in
    let new = c.walk-2.new.channels in
    books-started (λ (channel : RecordChannelOf _). channel.book) record_starting c.args.group c.args.groups.now.recording
    (record_channels old) (fixed_items new) c.requires.some
    (items-count new ∙ c.walk-2.ensures.len ∙ sym (items-count old.recorders))
    (λ slot other there. (c.walk-2.ensures.each slot other there).book)
