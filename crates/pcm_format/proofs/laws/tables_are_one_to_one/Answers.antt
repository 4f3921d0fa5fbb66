use Rattle.std.proofs.Common.{◌≡◌, refl, Some}
use Rattle.pcm_format.specs.declared.format.Format.{Format}
use Rattle.pcm_format.specs.declared.format.Format.TheVariants.{U8}
use Rattle.pcm_format.specs.declared.layout.Layout.{Layout}
use Rattle.pcm_format.specs.declared.layout.Layout.TheVariants.{One}
use Rattle.pcm_format.specs.Formats.{code_of, name_of, format_named, format_with_code}
use Rattle.pcm_format.specs.Layouts.{channels_of, layout_of}
use Rattle.pcm_format.proofs.Streams.{length-positions}
use Rattle.pcm_format.proofs.laws.tables_are_one_to_one.Goals as goal

named : (f : Format) → format_named (name_of f) ≡ Some f
named U8 = refl
named _ = refl

coded : (f : Format) → format_with_code (code_of f) ≡ Some f
coded U8 = refl
coded _ = refl

counted : (layout : Layout) → layout_of (channels_of layout) ≡ Some layout
counted One = refl
counted _ = refl

pub returns-clause-names : goal.returns-clause-names
returns-clause-names c = named

pub returns-clause-codes : goal.returns-clause-codes
returns-clause-codes c = coded

pub returns-clause-channels : goal.returns-clause-channels
returns-clause-channels c = counted

pub returns-clause-positions : goal.returns-clause-positions
returns-clause-positions c = length-positions
