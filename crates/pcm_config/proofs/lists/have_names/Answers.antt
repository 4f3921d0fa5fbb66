use Rattle.std.proofs.Common.{◌∙◌, rules, string_bytes, tests}
use Rattle.std.proofs.lemmas.Iterator.Consumers.{YieldsList-from_rest}
use Rattle.std.proofs.lemmas.Iterator.Search.{all_from_yields_List}
use Rattle.pcm_config.specs.Lists.{is_one_of, keys_seen}
use Rattle.pcm_config.proofs.Entries.{keys-seen}
use Rattle.pcm_config.proofs.lists.have_names.Goals as goal

pub returns : goal.returns
returns c =
    let keys = keys_seen c.args.keys.now in
    let ran = all_from_yields_List (λ key. is_one_of keys (string_bytes key)) _ _ c.all.result c.all.ensures.ran
    (YieldsList-from_rest _ c.keys.ensures.rest) (λ x b q k. search (rules, tests)) in
    ran ∙ keys-seen (is_one_of keys) c.args.table.now.entries
