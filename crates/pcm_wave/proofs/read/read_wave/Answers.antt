use Rattle.std.proofs.Common.{◌≡◌, Err, ap, sym, ◌∙◌, rules}
use Rattle.pcm_wave.specs.Waves.{wave_of}
use Rattle.pcm_wave.proofs.Walks.{found_from, found_from-data, found_from-next, found_from-refused}
use Rattle.pcm_wave.proofs.read.read_wave.Goals as goal

pub returns-then-is : goal.returns-then-is
returns-then-is c =
    let l = c.loop-chunk in
    let chunk = c.in-Some.chunk in
    let bytes = chunk.bytes.now in
    let from : wave_of c.args.bytes.now ≡ found_from bytes l.known chunk.place =
    l.invariant ∙ ap (λ b. found_from b l.known l.place) (sym c.in-Some.ensures.bytes)
    ∙ ap (found_from bytes l.known) (sym c.in-Some.ensures.place) in
    c.wave_given.ensures ∙ sym (from ∙ found_from-data bytes l.known chunk.place chunk.head (sym c.is.ensures ∙ c.if-is.true))

pub returns-in_err-known : goal.returns-in_err-known
returns-in_err-known c =
    let l = c.loop-chunk in
    let chunk = c.in-Some.chunk in
    let bytes = chunk.bytes.now in
    let fault = c.in_err-known.field-0.0 in
    let refused : wave_of c.args.bytes.now ≡ Err fault =
    l.invariant ∙ ap (λ b. found_from b l.known l.place) (sym c.in-Some.ensures.bytes)
    ∙ ap (found_from bytes l.known) (sym c.in-Some.ensures.place)
    ∙ found_from-refused bytes l.known fault chunk.place chunk.head (sym c.is.ensures ∙ c.if-is.false)
    (sym c.known_behind.ensures ∙ c.in_err-known.was) in
    search rules

pub loop-chunk-preserved : goal.loop-chunk-preserved
loop-chunk-preserved c =
    let l = c.loop-chunk in
    let chunk = c.in-Some.chunk in
    let bytes = chunk.bytes.now in
    let known = c.in_ok-known.known in
    let place = c.place_behind-place.result in
    l.invariant ∙ ap (λ b. found_from b l.known l.place) (sym c.in-Some.ensures.bytes)
    ∙ ap (found_from bytes l.known) (sym c.in-Some.ensures.place)
    ∙ found_from-next bytes l.known known chunk.place chunk.head (sym c.is.ensures ∙ c.if-is.false)
    (sym c.known_behind.ensures ∙ c.in_ok-known.was)
    ∙ ap (found_from bytes known) (sym c.place_behind-place.ensures) ∙ ap (λ b. found_from b known place) c.in-Some.ensures.bytes
