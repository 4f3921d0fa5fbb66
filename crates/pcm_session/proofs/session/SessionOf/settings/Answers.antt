use Rattle.std.proofs.Common.{sym, ◌∙◌}
use Rattle.pcm_session.proofs.Numbers.{status-few}
use Rattle.pcm_session.proofs.session.SessionOf.settings.Goals as goal

pub settings_numbers-requires-clause-slot : goal.settings_numbers-requires-clause-slot
settings_numbers-requires-clause-slot g c = status-few c.args.self.now.engine _ c.in-Some.status
    (sym c.client_status.ensures.is ∙ c.in-Some.is)
