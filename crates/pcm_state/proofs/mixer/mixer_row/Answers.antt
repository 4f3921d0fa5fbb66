use Rattle.std.proofs.Common.{rules, ◌≡◌, true, ◌∷◌, ◌++◌, All, length, map, refl, sym, ap, ◌∙◌, subst}
use Rattle.std.specs.Prelude.{replicate}
use Rattle.std.proofs.lemmas.Bool.{and_from}
use Rattle.std.proofs.lemmas.List.Sums.{list_all-from_AllPass}
use Rattle.pcm_oss.specs.Volumes.{is_volume}
use Rattle.pcm_state.specs.OpeningRows.{flag}
use Rattle.pcm_state.proofs.Rows.{halves-put}
use Rattle.pcm_state.proofs.mixer.mixer_row.Goals as goal

pub returns-clause-row : goal.returns-clause-row
returns-clause-row c =
    let mixer = c.args.mixer.now in
    let volumes = c.put_words.new.out in
    let muted = c.put_flags.new.out in
    let long : length volumes ≡ 16 = search rules in
    let master : c.from.result ≡ mixer.master = search rules in
    ap (λ l. c.from.result ∷ l) (halves-put 16 volumes (replicate 16 0) muted long refl)
    ∙ ap (λ n. n ∷ volumes ++ muted) master
    ∙ ap (λ l. mixer.master ∷ l ++ muted) (c.put_words.ensures.put ∙ c.volumes.ensures.value)
    ∙ ap (λ l. mixer.master ∷ mixer.volumes ++ l) (c.put_flags.ensures ∙ ap (map flag) c.muted.ensures)

pub returns-clause-fits : goal.returns-clause-fits
returns-clause-fits c =
    let mixer = c.args.mixer.now in
    let volumes : length c.volumes.result ≡ 16 = search rules in
    let muted : length c.muted.result ≡ 16 = search rules in
    record {
      volumes = ap length (sym c.volumes.ensures.value) ∙ volumes;
      muted = ap length (sym c.muted.ensures) ∙ muted;
      valid = and_from _ _ (ap is_volume (sym c.volume.ensures.value) ∙ c.volume.ensures.valid)
          (list_all-from_AllPass is_volume mixer.volumes (subst (All (λ volume. is_volume volume ≡ true)) c.volumes.ensures.value c.volumes.ensures.valid));
    }
