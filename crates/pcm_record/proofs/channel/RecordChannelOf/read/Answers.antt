use Rattle.std.proofs.Common.{rules, ◌≡◌, [], ℕ, ap, sym, ◌∙◌, length, take, drop, refl, arith}
use Rattle.std.proofs.lemmas.Grind.{common_steps}
use Rattle.std.proofs.lemmas.List.{length-take-le, take_at}
use Rattle.std.proofs.lemmas.Slice.{drop-append-drop}
use Rattle.pcm_ring.specs.Ring.{Ring}
use Rattle.pcm_oss.specs.Replies.{bytes_due}
use Rattle.pcm_desk.specs.declared.record_book.RecordBook.{RecordBook}
use Rattle.pcm_desk.specs.declared.turn.Turn.{Turn}
use Rattle.pcm_desk.specs.RecordBooks.{read_turn}
use Rattle.pcm_desk.specs.RunStates.{is_unheld}
use Rattle.pcm_record.specs.Channels.{unread_of}
use Rattle.pcm_record.proofs.Moving.{moves-nothing, moves-read, takes-read}
use Rattle.pcm_record.proofs.Stands.{reads-count}
use Rattle.pcm_record.proofs.channel.RecordChannelOf.read.Goals as goal

pub returns : goal.returns
returns g c =
    let old = c.args.self.now in
    let count = c.take.result in
    let waiting = old.path.ring.bytes in
    let out = c.args.out.now in
    let taken = takes-read old (length out) count c.read-turn.result c.in_ok-answer.answer c.read-turn.ensures c.in_ok-answer.was
    c.take.ensures.count in
    record {
      book = search rules;
      reply = search rules;
      within = search rules;
      bytes = λ bytes s.
          ap (λ (n : ℕ). take n c.take.new.out) taken.due
          ∙ ap (take count) c.take.ensures.moved
          ∙ take_at (take count waiting) (drop count out) count (length-take-le count waiting (omega (arith, c.take.ensures.count)))
          ∙ ap (take count) s.ring_is
          ∙ ap (λ (n : ℕ). take n (drop old.book.read bytes)) (sym taken.due);
      rest = ap (λ (n : ℕ). drop n c.take.new.out) taken.due
          ∙ ap (drop count) c.take.ensures.moved
          ∙ drop-append-drop count out (take count waiting) count (omega arith)
          (length-take-le count waiting (omega (arith, c.take.ensures.count)))
          ∙ ap (λ (n : ℕ). drop n out) (sym taken.due);
      refused = search rules;
      kept = search rules;
      device = refl;
      moves = λ filters.
          moves-read g.B.Feeder.kind g.B.Feeder.kept filters count old _ refl refl (ap (λ (ring : Ring). ring.bytes) c.take.ensures.left)
          (reads-count count old.book c.read-turn.result.book taken.is)
          (λ used. ap (λ (b : RecordBook). is_unheld b.state) (sym taken.is) ∙ used);
    }

pub returns-in_err-answer : goal.returns-in_err-answer
returns-in_err-answer g c =
    let old = c.args.self.now in
    let out = c.args.out.now in
    let reply : c.from_residual.result ≡ (read_turn (length out) old.book).reply = search rules in
    let none : bytes_due c.from_residual.result ≡ 0 = ap bytes_due
    (reply ∙ ap (λ (t : Turn RecordBook). t.reply) (sym c.read-turn.ensures) ∙ c.in_err-answer.was) in
    record {
      book = grind (arith, common_steps);
      reply = reply;
      within = omega (arith, none);
      bytes = λ bytes s. ap (λ n. take n out) none ∙ sym (ap (λ n. take n (unread_of old.book bytes)) none);
      rest = refl;
      refused = search rules;
      kept = search rules;
      device = refl;
      moves = λ filters. moves-nothing g.B.Feeder.kind g.B.Feeder.kept filters [] 0 old;
    }
