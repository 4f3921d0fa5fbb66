use Rattle.std.proofs.Common.{◌≡◌, take, map}
use Rattle.pcm_foreign.specs.Sections.{section_with}
use Rattle.pcm_foreign.proofs.sections.sections_with.Given as goal

abbrev pub invariant-loop-section : goal.invariant-loop-section
invariant-loop-section l = l.list.items ≡ map section_with (take l.section-index l.sections)
