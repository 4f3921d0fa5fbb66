-- An event of a script is what a call asks, wherever its bytes stand; and what an event brings.
use Rattle.std.proofs.Common.{◌≡◌, ℕ, length, drop, length-drop, length-take-le, refl, sym, subst, arith}
use Rattle.pcm_engine.specs.Types.{Event, Pool}
use Rattle.pcm_oss.specs.declared.event.Event.TheVariants.{Open, Write, Poke, Read, StartGroup, Intr}
use Rattle.pcm_wave.specs.declared.pool.Source.{Source}
use Rattle.pcm_wave.specs.declared.pool.Source.TheVariants.{Inline}
use Rattle.pcm_wave.specs.Pools.{source_bytes}
use Rattle.pcm_desk.specs.Device.{DeviceSeen}
use Rattle.pcm_desk.specs.Events.{Fits, IsDescriptor}
use Rattle.pcm_desk.specs.Own.{descriptor_of}
use Rattle.pcm_sound.proofs.Stories.{OpensWithin}
use Rattle.pcm_engine.specs.Brought.{HasNamed, IsAllowed, bytes_brought, bytes_asked, placeless}

-- what holds of a write, or of a poke, wherever its bytes stand
abbrev OfWrites : (Event → Type 0) → Type 0
OfWrites holds = (fd : ℕ) (one other : Source) (at place count : ℕ) → holds (Write fd one at count) → holds (Write fd other place count)

abbrev OfPokes : (Event → Type 0) → Type 0
OfPokes holds = (fd offset at place count : ℕ) → holds (Poke fd offset at count) → holds (Poke fd offset place count)

to_placeless : (holds : Event → Type 0) → OfWrites holds → OfPokes holds → (event : Event) → holds event → holds (placeless event)
to_placeless holds write poke (Write fd source at count) h = write fd source _ at 0 count h
to_placeless holds write poke (Poke fd offset at count) h = poke fd offset at 0 count h
to_placeless holds write poke event h = h

of_placeless : (holds : Event → Type 0) → OfWrites holds → OfPokes holds → (event : Event) → holds (placeless event) → holds event
of_placeless holds write poke (Write fd source at count) h = write fd _ source 0 at count h
of_placeless holds write poke (Poke fd offset at count) h = poke fd offset 0 at count h
of_placeless holds write poke event h = h

-- What holds of an event wherever its bytes stand, holds of each that is the same.
pub wherever : (holds : Event → Type 0) → OfWrites holds → OfPokes holds → (event named : Event) → placeless named ≡ placeless event → holds event → holds named
wherever holds write poke event named same h = of_placeless holds write poke named (subst holds (sym same) (to_placeless holds write poke event h))

-- an event that fits names a descriptor that there can be, if any
pub descriptor-fits : (device : DeviceSeen) (pool : Pool) (event : Event) → Fits device pool event → IsDescriptor (descriptor_of event)
descriptor-fits device pool (Open fd way settings) fits = fits.0
descriptor-fits device pool (Write fd source at count) fits = fits.0
descriptor-fits device pool (Poke fd offset at count) fits = fits.0
descriptor-fits device pool (Read fd count) fits = fits.0
descriptor-fits device pool (StartGroup fd group) fits = tt
descriptor-fits device pool (Intr frames) fits = tt
descriptor-fits device pool event fits = fits

-- an event that fits keeps the limits, and its bytes are there
pub allowed-fits : (device : DeviceSeen) (pool : Pool) (event : Event) → Fits device pool event → IsAllowed device event
allowed-fits device pool (Write fd source at count) fits = fits.0
allowed-fits device pool (Poke fd offset at count) fits = fits.0
allowed-fits device pool event fits = fits

pub named-fits : (device : DeviceSeen) (pool : Pool) (event : Event) → Fits device pool event → HasNamed pool event
named-fits device pool (Write fd source at count) fits = fits.2
named-fits device pool (Poke fd offset at count) fits = fits.2
named-fits device pool event fits = tt

-- an event brings as many bytes as it names
pub length-brought : (pool : Pool) (event : Event) → HasNamed pool event → length (bytes_brought pool event) ≡ bytes_asked event
length-brought pool (Write fd source at count) named =
    let behind = length-drop at (source_bytes pool source) in
    let within = named.within in
    length-take-le count (drop at (source_bytes pool source)) (omega (arith, behind, within))
length-brought pool (Poke fd offset at count) named =
    let behind = length-drop at (source_bytes pool Inline) in
    let within = named.within in
    length-take-le count (drop at (source_bytes pool Inline)) (omega (arith, behind, within))
length-brought pool event named = refl

-- what it opens has a rate within the limits
pub opens-allowed : (device : DeviceSeen) (event : Event) → IsAllowed device event → OpensWithin event
opens-allowed device (Open fd way settings) within = within.1
opens-allowed device event within = tt
