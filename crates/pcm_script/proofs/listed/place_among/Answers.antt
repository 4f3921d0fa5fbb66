use Rattle.std.proofs.Common.{nat_cmp, rules}
use Rattle.std.specs.Cmp.Lexicographic.{slice_cmp}
use Rattle.std.proofs.lemmas.Fn.{always_returns_same}
use Rattle.pcm_script.proofs.Finding.{found-by_halves}
use Rattle.pcm_script.proofs.listed.place_among.Goals as goal

pub returns : goal.returns
returns c =
    let facts = c.binary_search_by.ensures in
    let by_name = facts.position (λ file. slice_cmp nat_cmp file.name c.args.word.now)
    (always_returns_same _ _ _ (λ a r g called. search rules)) in
    let found = found-by_halves c.args.files.now c.args.word.now c.binary_search_by.result c.requires.rising facts.bound by_name in
    record { value = search (found, rules); within = search (found, rules) }
