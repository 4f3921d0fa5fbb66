use Rattle.std.proofs.Common.{◌≡◌, ℕ, false, [], Option, Some, None, refl, sym, ap, ◌∙◌, subst, true≢false}
use Rattle.std.specs.Prelude.{is_some}
use Rattle.pcm_format.specs.declared.settings.Settings.{Settings}
use Rattle.pcm_oss.specs.declared.event.Event.{Event}
use Rattle.pcm_oss.specs.declared.event.Event.TheVariants.{Open}
use Rattle.pcm_oss.specs.declared.event.Way.{Way}
use Rattle.pcm_foreign.specs.Devices.{◌>>=◌, stream_settings, way_from}
use Rattle.pcm_session.specs.Calls.{MakesCall}
use Rattle.pcm_session.specs.Events.{descriptor_from, event_for_open}
use Rattle.pcm_session.proofs.calls.open.Goals as goal

-- an open with frames that no channel can have is no event
none_of : (fd : Option ℕ) (way : Option Way) (settings : Option Settings) → is_some settings ≡ false
    → (fd >>= (λ f. way >>= (λ w. settings >>= (λ s. Some (Open f w s))))) ≡ None
none_of None way settings none = refl
none_of (Some fd) None settings none = refl
none_of (Some fd) (Some way) None none = refl
none_of (Some fd) (Some way) (Some settings) none = absurd (true≢false none)

opens_none : (fd way format channels rate : ℕ) → is_some (stream_settings format channels rate) ≡ false
    → event_for_open fd way format channels rate ≡ None
unfolding event_for_open
opens_none fd way format channels rate none = none_of (descriptor_from fd) (way_from way) (stream_settings format channels rate) none

pub returns-then-is_none-clause-makes : goal.returns-then-is_none-clause-makes
returns-then-is_none-clause-makes g c =
    subst (λ (event : Option Event). MakesCall g.B.Feeder.kind g.B.Feeder.kept event [] c.args.session.now c.args.session.now)
    (sym (opens_none c.args.fd c.args.way c.args.format c.args.channels c.args.rate
    (ap (λ (settings : Option Settings). is_some settings) (sym c.settings_from.ensures.value) ∙ c.if-is_none.ensures)))
    (record { ready = c.requires.ready; step = tt; same = refl })
