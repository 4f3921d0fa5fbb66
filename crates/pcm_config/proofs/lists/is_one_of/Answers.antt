use Rattle.std.proofs.Common.{◌∙◌, rules, tests}
use Rattle.std.specs.Str.{bytes_eq}
use Rattle.std.proofs.lemmas.Iterator.{YieldsList-from_slice}
use Rattle.std.proofs.lemmas.Iterator.Search.{any_from_yields_List}
use Rattle.pcm_config.proofs.Entries.{any-seen}
use Rattle.pcm_config.proofs.lists.is_one_of.Goals as goal

pub returns : goal.returns
returns c =
    let key = c.args.key.now in
    let ran = any_from_yields_List (λ known. bytes_eq known.now key) _ _ c.any.result c.any.ensures.ran
    (YieldsList-from_slice c.args.keys.now cc) (λ x b q k. search (rules, tests)) in
    ran ∙ any-seen (λ known. bytes_eq known key) c.args.keys.now
