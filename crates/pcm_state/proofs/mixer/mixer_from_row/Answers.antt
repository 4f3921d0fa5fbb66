use Rattle.std.proofs.Common.{rules, ◌≡◌, ℕ, Bool, List, ◌∷◌, ◌++◌, All, length, map, get_or, take, drop, refl, sym, subst, ap, ◌∙◌}
use Rattle.std.proofs.lemmas.Bool.{and_parts}
use Rattle.std.proofs.lemmas.List.{length-map}
use Rattle.std.proofs.lemmas.Option.{IfSome_then, none-some}
use Rattle.std.specs.List.{list_all}
use Rattle.pcm_mixdev.specs.Mixers.{are_volumes, Levels}
use Rattle.pcm_oss.specs.Volumes.{is_volume}
use Rattle.pcm_state.specs.MixerRows.{mixer_row, FitsMixer}
use Rattle.pcm_state.specs.OpeningRows.{flag, IsWord}
use Rattle.pcm_state.proofs.Known.{flags-known}
use Rattle.pcm_state.proofs.Rows.{first-half, second-half}
use Rattle.pcm_state.proofs.Volumes.{from-some, parts-joined, some-is, volumes-words}
use Rattle.pcm_state.proofs.mixer.mixer_from_row.Goals as goal

-- the parts of the row of a mixer
volumes-in : (mixer : Levels) (row : List ℕ) → FitsMixer mixer → mixer_row mixer ≡ row → take 16 (drop 1 row) ≡ mixer.volumes
volumes-in mixer row fits same = first-half 16 mixer.volumes (map flag mixer.muted) (drop 1 row) fits.volumes (ap (drop 1) same)

muted-in : (mixer : Levels) (row : List ℕ) → FitsMixer mixer → mixer_row mixer ≡ row → take 16 (drop 17 row) ≡ map flag mixer.muted
muted-in mixer row fits same =
    ap (λ l. take 16 (drop 17 l)) (sym same)
    ∙ second-half 16 mixer.volumes (map flag mixer.muted) (mixer.volumes ++ map flag mixer.muted) fits.volumes (length-map mixer.muted flag ∙ fits.muted) refl

pub returns-in_err-volumes-clause-some : goal.returns-in_err-volumes-clause-some
returns-in_err-volumes-clause-some c = λ mixer fits same.
    let each = volumes-words mixer.volumes (and_parts (is_volume mixer.master) (list_all is_volume mixer.volumes) fits.valid).1 in
    absurd (none-some _ (c.in_err-volumes.ensures.some (subst (All IsWord) (sym (volumes-in mixer c.args.row.now fits same)) each)))

pub returns-in_err-muted-clause-some : goal.returns-in_err-muted-clause-some
returns-in_err-muted-clause-some c = λ mixer fits same.
    absurd (none-some _ (c.in_err-muted.ensures.some mixer.muted (sym (muted-in mixer c.args.row.now fits same))))

pub returns-clause-row : goal.returns-clause-row
returns-clause-row c =
    let row = c.args.row.now in
    let long : length row ≡ 33 = search rules in
    let master : c.in_ok-word.field-0 ≡ get_or row 0 0 = c.in_ok-word.ensures.same in
    IfSome_then c.with_levels.result c.with_levels.ensures.made
    (λ made is. ap mixer_row is ∙ ap (λ n. n ∷ c.in_ok-volumes.volumes ++ map flag c.in_ok-muted.muted) master
    ∙ ap (λ l. get_or row 0 0 ∷ l ++ map flag c.in_ok-muted.muted) c.in_ok-volumes.ensures.same
    ∙ ap (λ l. get_or row 0 0 ∷ take 16 (drop 1 row) ++ l) c.in_ok-muted.ensures.same ∙ parts-joined row long)

abbrev mixer_with : ℕ → List ℕ → List Bool → Levels
mixer_with master volumes muted = record { master = master; volumes = volumes; muted = muted }

pub returns-clause-some : goal.returns-clause-some
returns-clause-some c = λ mixer fits same.
    let row = c.args.row.now in
    let master : c.in_ok-word.field-0 ≡ mixer.master = c.in_ok-word.ensures.same ∙ ap (λ l. get_or l 0 0) (sym same) in
    let volumes : c.in_ok-volumes.volumes ≡ mixer.volumes = c.in_ok-volumes.ensures.same ∙ volumes-in mixer row fits same in
    let muted : c.in_ok-muted.muted ≡ mixer.muted = flags-known c.in_ok-muted.muted mixer.muted (c.in_ok-muted.ensures.same ∙ muted-in mixer row fits same) in
    let level : mixer_with c.in_ok-word.field-0 c.in_ok-volumes.volumes c.in_ok-muted.muted ≡ mixer =
    ap (λ n. mixer_with n c.in_ok-volumes.volumes c.in_ok-muted.muted) master
    ∙ ap (λ l. mixer_with mixer.master l c.in_ok-muted.muted) volumes ∙ ap (λ l. mixer_with mixer.master mixer.volumes l) muted in
    let there = c.with_levels.ensures.some ∙ ap (λ n. are_volumes n c.in_ok-volumes.volumes) master ∙ ap (λ l. are_volumes mixer.master l) volumes ∙ fits.valid in
    some-is c.with_levels.result mixer there (IfSome_then c.with_levels.result c.with_levels.ensures.made (λ made is. is ∙ level))

pub returns-clause-fits : goal.returns-clause-fits
returns-clause-fits c =
    let volumes : length c.in_ok-volumes.volumes ≡ 16 = search rules in
    let muted : length c.in_ok-muted.muted ≡ 16 = search rules in
    from-some FitsMixer c.with_levels.result (mixer_with c.in_ok-word.field-0 c.in_ok-volumes.volumes c.in_ok-muted.muted) c.with_levels.ensures.made
    (λ there. record { volumes = volumes; muted = muted; valid = sym c.with_levels.ensures.some ∙ there })
