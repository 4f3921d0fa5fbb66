use Rattle.std.proofs.Common.{◌≡◌, Some, option_copied, sym, ap, ◌∙◌, subst, rules}
use Rattle.toml.specs.Data.{as_str}
use Rattle.toml.specs.View.{view}
use Rattle.pcm_config.proofs.Entries.{files_seen, seen-more}
use Rattle.pcm_config.proofs.Arrays.{joined}
use Rattle.pcm_config.proofs.Order.{files-in-order}
use Rattle.pcm_config.proofs.files.paths_of.Goals as goal

pub loop-name-preserved : goal.loop-name-preserved
loop-name-preserved c =
    let files = c.loop-name.files.items in
    let all = files_seen c.args.table.now.entries in
    let text : as_str (view c.in-Some.path.now) ≡ Some c.in-Some-as_str.path.now = sym c.as_str.ensures
    ∙ ap option_copied c.in-Some-as_str.is in
    let before = subst (λ entries. joined files (files_seen entries) ≡ all) c.in-Some.ensures.steps c.loop-name.invariant in
    rw (c.in_ok-push.ensures.items, c.in_ok-file_path.ensures, c.as_str-in-loop-name.ensures.value)
    (seen-more files (c.in-Some.name.now, c.in-Some.path.now) c.next.new.self c.in-Some-as_str.path.now all text before)

pub returns : goal.returns
returns c =
    let files = c.loop-name.files.items in
    let entries = c.args.table.now.entries in
    let all = subst (λ left. joined files (files_seen left) ≡ files_seen entries) c.in-None.ensures.steps.0 c.loop-name.invariant in
    record {
      read = search rules;
      order = rw c.new.ensures
          (files-in-order entries files c.into_iter-name-iterator.ensures.into_iter_gives.5 all);
    }
