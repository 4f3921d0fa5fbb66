use Rattle.std.proofs.Common.{◌≡◌, ◌+◌, ◌-◌, [], ◌∷◌, ◌++◌, arith, ap, sym, ◌∙◌}
use Rattle.std.proofs.lemmas.List.Sums.{sum_by-append}
use Rattle.pcm_desk.specs.Events.{all_frames_taken, frames_taken}
use Rattle.pcm_soak.specs.declared.limits.TheConstants.{DRAWN_EVENTS}
use Rattle.pcm_soak.specs.Events.{drawn_event}
use Rattle.pcm_soak.specs.Soak.{drawn_events, first_events, soak_events}
use Rattle.pcm_soak.proofs.Drawn.{drawn_events-more, drawn_events-none, soak_script-parts}
use Rattle.pcm_soak.proofs.script.soak_script.Goals as goal

pub loop-init : goal.loop-init
unfolding soak_events
loop-init c = record {
  events = ap (λ front. front ++ drawn_events DRAWN_EVENTS c.from.result) c.in_ok-events.ensures
      ∙ ap (λ state. first_events ++ drawn_events DRAWN_EVENTS state) c.from.ensures;
  frames = sym (ap all_frames_taken c.in_ok-events.ensures);
  few = omega arith;
}

pub loop-preserved : goal.loop-preserved
loop-preserved c =
    let l = c.loop in
    let drawn = c.drawn_event-event in
    let state = l.draws.state in
    let before = l.events.items in
    let left : DRAWN_EVENTS - (l.counter + 1) ≡ DRAWN_EVENTS - l.counter - 1 = omega arith in
    let rest = DRAWN_EVENTS - (l.counter + 1) in
    let pushed = c.in_ok-push.ensures.items in
    record {
      events = ap (λ list. list ++ drawn_events rest drawn.new.draws.state) pushed
          ∙ ap (λ event. (before ++ event ∷ []) ++ drawn_events rest drawn.new.draws.state) drawn.ensures.event
          ∙ ap (λ next. (before ++ (drawn_event state).value ∷ []) ++ drawn_events rest next) drawn.ensures.state
          ∙ ap (λ n. (before ++ (drawn_event state).value ∷ []) ++ drawn_events n (drawn_event state).state) left
          ∙ sym (drawn_events-more before (DRAWN_EVENTS - l.counter) state (omega arith))
          ∙ l.invariant.events;
      frames = omega (
        arith,
        l.invariant.frames,
        c.frames_of.ensures,
        sum_by-append frames_taken before (drawn.result ∷ []),
        ap
            all_frames_taken pushed,
      );
      few = omega (arith, l.invariant.few, c.frames_of.ensures, drawn.ensures.few);
    }

pub returns : goal.returns
returns c =
    let l = c.loop in
    let none : DRAWN_EVENTS - l.counter ≡ 0 = omega arith in
    let all : l.events.items ≡ soak_events c.args.n =
    sym (drawn_events-none l.events.items l.draws.state)
    ∙ ap (λ n. l.events.items ++ drawn_events n l.draws.state) (sym none)
    ∙ l.invariant.events in
    record {
      made = soak_script-parts c.args.n c.new.result c.new-2.result l.device_frames (c.new.ensures ∙ all)
          (c.new-2.ensures ∙ c.in_ok-inline_bytes.ensures)
          (l.invariant.frames ∙ ap all_frames_taken (sym c.new.ensures));
    }
