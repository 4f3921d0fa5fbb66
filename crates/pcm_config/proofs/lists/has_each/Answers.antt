use Rattle.std.proofs.Common.{◌∙◌, rules, sym, tests}
use Rattle.std.specs.Prelude.{is_some}
use Rattle.std.proofs.lemmas.Iterator.{YieldsList-from_slice}
use Rattle.std.proofs.lemmas.Iterator.Search.{all_from_yields_List}
use Rattle.std.proofs.lemmas.List.Folds.{list_all-map}
use Rattle.toml.specs.Data.{get_member}
use Rattle.pcm_config.specs.Lookups.{members_seen}
use Rattle.pcm_config.proofs.lists.has_each.Goals as goal

pub returns : goal.returns
returns c =
    let table = members_seen c.args.table in
    let ran = all_from_yields_List (λ key. is_some (get_member key.now table)) _ _ c.all.result c.all.ensures.ran
    (YieldsList-from_slice c.args.keys.now cc) (λ x b q k. search (rules, tests)) in
    ran ∙ sym (list_all-map (λ key. is_some (get_member key table)) (λ key. key.now) c.args.keys.now)
