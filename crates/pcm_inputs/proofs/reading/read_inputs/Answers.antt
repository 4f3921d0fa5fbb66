use Rattle.std.proofs.Common.{List, ℕ, [], Bor, option_map}
use Rattle.pcm_inputs.specs.Parts.{config_part, data_behind, inputs_part, script_part}
use Rattle.pcm_verdict.proofs.Captures.{captures-in}
use Rattle.pcm_inputs.proofs.Ordering.{inputs-come, leads-config, leads-files, leads-script}
use Rattle.pcm_inputs.proofs.Parts.{comes-before, ends-as, ends-later, has_read-later}
use Rattle.pcm_inputs.proofs.Refusing.{err-as}
use Rattle.pcm_inputs.proofs.reading.read_inputs.Goals as goal

-- the configuration ended the call
pub returns-in_err-config-clause-err : goal.returns-in_err-config-clause-err
returns-in_err-config-clause-err g c =
    let config = option_map (λ (n : Bor (List ℕ)). n.now) c.args.config in
    err-as _ c.in_err-config.field-0.0 c.from_residual.result c.from_residual.ensures.1
    (ends-as (inputs_part c.args.script.now config) (config_part config) _ _ _ (leads-config c.args.script.now config _)
    c.in_err-config.ensures.err)

-- a data file ended the call
pub returns-in_err-waves-clause-err : goal.returns-in_err-waves-clause-err
returns-in_err-waves-clause-err g c =
    let config = option_map (λ (n : Bor (List ℕ)). n.now) c.args.config in
    let settled = c.in_ok-config.config in
    let first = c.in_ok-config.ensures.ok in
    err-as _ c.in_err-waves.field-0.0 c.from_residual-in_err-waves.result c.from_residual-in_err-waves.ensures.1
    (ends-later (inputs_part c.args.script.now config) (data_behind settled [] settled.files) _ _ _ _ first.only
    (leads-files c.args.script.now config settled (g.F.Files.seen c.args.files.now) first.came c.in_ok-config.ensures.paths)
    c.in_err-waves.ensures.err)

-- the script ended the call
pub returns-in_err-script-clause-err : goal.returns-in_err-script-clause-err
returns-in_err-script-clause-err g c =
    let config = option_map (λ (n : Bor (List ℕ)). n.now) c.args.config in
    let settled = c.in_ok-config.config in
    let waves = c.in_ok-waves.waves in
    let first = c.in_ok-config.ensures.ok in
    let second = c.in_ok-waves.ensures.ok in
    let came = comes-before (data_behind settled [] settled.files) _ _ _ first.only.files second.came in
    err-as _ c.in_err-script.field-0.0 c.from_residual-in_err-script.result c.from_residual-in_err-script.ensures.1
    (ends-later (inputs_part c.args.script.now config) (script_part settled c.as_slice.result.now c.args.script.now) _ _ _ _
    (has_read-later _ _ _ first.only second.only)
    (leads-script c.args.script.now config settled waves c.as_slice.result.now (g.F.Files.seen c.args.files.now) first.came came
    c.as_slice.ensures) c.in_err-script.ensures.err)

-- all three were read
pub returns-clause-ok : goal.returns-clause-ok
returns-clause-ok g c =
    let config = option_map (λ (n : Bor (List ℕ)). n.now) c.args.config in
    let settled = c.in_ok-config.config in
    let waves = c.in_ok-waves.waves in
    let first = c.in_ok-config.ensures.ok in
    let second = c.in_ok-waves.ensures.ok in
    let third = c.in_ok-script.ensures.ok in
    let only = has_read-later _ _ _ first.only second.only in
    let came = comes-before (data_behind settled [] settled.files) _ _ _ first.only.files second.came in
    let came_script = comes-before (script_part settled c.as_slice.result.now c.args.script.now) _ _ _ only.files third.came in
    record {
      came = inputs-come c.args.script.now config settled waves c.as_slice.result.now c.in_ok-script.script
          (g.F.Files.seen c.args.files.now) first.came came c.as_slice.ensures came_script;
      only = has_read-later _ _ _ only third.only;
    }

-- what is recorded is in the layout of the device
pub returns-clause-captures : goal.returns-clause-captures
returns-clause-captures g c =
    captures-in (record { config = c.in_ok-config.config; files = c.in_ok-waves.waves; script = c.in_ok-script.script })
    c.in_ok-waves.ensures.shaped
