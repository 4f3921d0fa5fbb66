use Rattle.std.proofs.Common.{◌∙◌, rules, string_bytes, tests}
use Rattle.std.proofs.lemmas.Iterator.Consumers.{YieldsList-from_rest}
use Rattle.std.proofs.lemmas.Iterator.Search.{all_from_yields_List}
use Rattle.pcm_config.specs.Lookups.{is_key_of}
use Rattle.pcm_config.proofs.Entries.{keys-seen}
use Rattle.pcm_config.proofs.lookup.has_only.Goals as goal

pub returns-in-Some : goal.returns-in-Some
returns-in-Some c =
    let places = c.args.places.now in
    let ran = all_from_yields_List (λ key. is_key_of places (string_bytes key)) _ _ c.all.result c.all.ensures.ran
    (YieldsList-from_rest _ c.keys.ensures.rest) (λ x b q k. search (rules, tests)) in
    ran ∙ rw c.in-Some.is (keys-seen (is_key_of places) c.in-Some.table.now.entries)
