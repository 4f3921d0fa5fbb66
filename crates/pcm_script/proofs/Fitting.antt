-- What fits a device and a pool fits the same device with filters, and a pool that has more, or records another file.
use Rattle.std.proofs.Common.{◌≡◌, ℕ, ◌+◌, ◌<◌, ◌≤◌, All, List, length, slice_get, Option, arith, refl, subst}
use Rattle.std.proofs.lemmas.List.Elements.{All-weaker}
use Rattle.pcm_oss.specs.declared.event.Event.{Event}
use Rattle.pcm_oss.specs.declared.event.Event.TheVariants.{Open, Write, Poke, Read, Ioctl, Join, StartGroup, Close, Mixer, Intr}
use Rattle.pcm_wave.specs.declared.pool.Pool.{Pool}
use Rattle.pcm_wave.specs.declared.pool.Source.{Source}
use Rattle.pcm_wave.specs.declared.pool.Source.TheVariants.{Inline, File}
use Rattle.pcm_wave.specs.DataFiles.{DataFileSeen}
use Rattle.pcm_wave.specs.Pools.{HasBytes, body_in}
use Rattle.pcm_feeder.specs.Filters.{Filters}
use Rattle.pcm_desk.specs.declared.device.Device.{Device}
use Rattle.pcm_desk.specs.Device.{DeviceSeen, seen, unfiltered}
use Rattle.pcm_desk.specs.Events.{Fits}
use Rattle.pcm_script.specs.declared.script.Script.{Script}
use Rattle.pcm_script.specs.Lines.{AllFit, pool_of}

-- ---- filters

-- an event that fits a device without filters fits it with any
pub Fits-filtered : (filters : Filters) (device : Device) (pool : Pool) (event : Event) → Fits (unfiltered device) pool event → Fits (seen filters device) pool event
Fits-filtered filters device pool (Open fd way settings) fits = fits
Fits-filtered filters device pool (Write fd source at count) fits = fits
Fits-filtered filters device pool (Poke fd offset at count) fits = fits
Fits-filtered filters device pool (Read fd count) fits = fits
Fits-filtered filters device pool (Ioctl fd request) fits = fits
Fits-filtered filters device pool (Join fd group) fits = fits
Fits-filtered filters device pool (StartGroup fd group) fits = fits
Fits-filtered filters device pool (Close fd) fits = fits
Fits-filtered filters device pool (Mixer request) fits = fits
Fits-filtered filters device pool (Intr frames) fits = fits

-- the same of all events of a script
pub AllFit-filtered : (filters : Filters) (device : Device) (files : List DataFileSeen) (script : Script) → AllFit (unfiltered device) files script → AllFit (seen filters device) files script
AllFit-filtered filters device files script fit =
    All-weaker (Fits (unfiltered device) (pool_of files script)) (Fits (seen filters device) (pool_of files script))
    (Fits-filtered filters device (pool_of files script)) script.events fit

-- ---- pools

-- a pool with more bytes in its lines has what the other has
HasBytes-more : (few many : Pool) (source : Source) (at count : ℕ) → few.files ≡ many.files → length few.inline_bytes ≤ length many.inline_bytes
    → HasBytes few source at count → HasBytes many source at count
HasBytes-more few many Inline at count same more has = record { has = has.has; within = omega (arith, has.within) }
HasBytes-more few many (File place) at count same more has = record {
  has = subst (λ (files : List DataFileSeen). place < length files) same has.has;
  within = subst (λ (files : List DataFileSeen). at + count ≤ length (body_in (slice_get files place))) same has.within;
}

-- what fits with the one fits with the other
pub Fits-more : (device : DeviceSeen) (few many : Pool) (event : Event) → few.files ≡ many.files → length few.inline_bytes ≤ length many.inline_bytes
    → Fits device few event → Fits device many event
Fits-more device few many (Open fd way settings) same more fits = fits
Fits-more device few many (Write fd source at count) same more fits = (fits.0, fits.1, HasBytes-more few many source at count same more fits.2)
Fits-more device few many (Poke fd offset at count) same more fits = (fits.0, fits.1, HasBytes-more few many Inline at count same more fits.2)
Fits-more device few many (Read fd count) same more fits = fits
Fits-more device few many (Ioctl fd request) same more fits = fits
Fits-more device few many (Join fd group) same more fits = fits
Fits-more device few many (StartGroup fd group) same more fits = fits
Fits-more device few many (Close fd) same more fits = fits
Fits-more device few many (Mixer request) same more fits = fits
Fits-more device few many (Intr frames) same more fits = fits

-- another file that is recorded from changes nothing of what fits
pub Fits-captured : (device : DeviceSeen) (pool : Pool) (capture : Option ℕ) (event : Event) → Fits device pool event → Fits device (record pool { capture = capture }) event
Fits-captured device pool capture event fits = Fits-more device pool (record pool { capture = capture }) event refl (omega arith) fits

-- the same of all events of a script
pub AllFit-captured : (device : DeviceSeen) (files : List DataFileSeen) (script : Script) (capture : Option ℕ) → AllFit device files script
    → All (Fits device (record (pool_of files script) { capture = capture })) script.events
AllFit-captured device files script capture fit =
    All-weaker (Fits device (pool_of files script)) (Fits device (record (pool_of files script) { capture = capture }))
    (Fits-captured device (pool_of files script) capture) script.events fit
