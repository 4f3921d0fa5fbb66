use Rattle.std.proofs.Common.{◌≡◌, ℕ, List, length, drop, sym, ap, ◌∙◌, subst}
use Rattle.std.proofs.lemmas.List.{drop_at, take_at}
use Rattle.pcm_engine.specs.Saved.{HasState}
use Rattle.pcm_session.proofs.session.SessionOf.save.Goals as goal

pub returns : goal.returns
returns g c =
    let engine = c.args.self.now.engine in
    let count = c.state_size-size.result in
    let new = c.save.new.out in
    let state = c.save.ensures.state in
    let long : length new ≡ count = ap length state.is ∙ sym c.state_size-size.ensures.size in
    let rest : List ℕ = drop count c.args.out.now in
    record {
      size = c.state_size-size.ensures.size;
      fits = c.save.ensures.fits;
      state = subst (λ (bytes : List ℕ). HasState g.B.Feeder.kind g.B.Feeder.kept bytes engine) (sym (take_at new rest count long)) state;
      rest = drop_at new rest count long;
    }
