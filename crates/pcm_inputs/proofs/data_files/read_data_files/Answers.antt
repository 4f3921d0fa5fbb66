use Rattle.std.proofs.Common.{◌≡◌, ◌≤◌, ◌+◌, [], ◌∷◌, All, ℕ, List, Some, ap, arith, length, refl, slice_get, subst, sym}
use Rattle.std.proofs.lemmas.Option.{slice_get_read, slice_get_within}
use Rattle.pcm_config.specs.declared.config.FilePath.{FilePath}
use Rattle.std.proofs.lemmas.List.Elements.{All-append, All-cons, All-nil}
use Rattle.pcm_wave.specs.DataFiles.{DataFileSeen}
use Rattle.pcm_verdict.specs.Captures.{IsShaped}
use Rattle.pcm_inputs.specs.Outside.{outside}
use Rattle.pcm_inputs.specs.Parts.{data_behind}
use Rattle.pcm_inputs.specs.Reads.{GivesValue}
use Rattle.pcm_inputs.proofs.Loading.{HasLoaded, has_loaded-all, has_loaded-ends, has_loaded-next}
use Rattle.pcm_inputs.proofs.Refusing.{err-as}
use Rattle.pcm_inputs.proofs.data_files.read_data_files.Goals as goal

-- the file at a place of a list, by another term for the list
file-at : (paths files : List FilePath) (at : ℕ) (file : FilePath) → paths ≡ files → slice_get paths at ≡ Some file
    → slice_get files at ≡ Some file
file-at paths files at file same there = subst (λ (list : List FilePath). slice_get list at ≡ Some file) same there

-- one ended the call
pub returns-in_err-read_next-clause-err : goal.returns-in_err-read_next-clause-err
returns-in_err-read_next-clause-err g c =
    let files = c.args.config.now.files in
    let file = c.index-paths-at.result in
    let there : slice_get files c.loop-at.at ≡ Some file = file-at c.as_slice-paths.result.now files c.loop-at.at file
    c.as_slice-paths.ensures
    (slice_get_read c.as_slice-paths.result.now (length c.as_slice-paths.result.now) c.loop-at.at file refl (omega arith)
    c.index-paths-at.is) in
    err-as _ c.in_err-read_next.field-0.0 c.from_residual.result c.from_residual.ensures.1
    (has_loaded-ends c.args.config.now c.loop-at.at c.loop-at.loaded.files.items file c.in_err-read_next.field-0.0 _ _ _
    (slice_get_within files c.loop-at.at file there) there
    c.loop-at.invariant.loaded c.in_err-read_next.ensures.err)

-- one file more
pub loop-at-preserved : goal.loop-at-preserved
loop-at-preserved g c =
    let files = c.args.config.now.files in
    let file = c.index-paths-at.result in
    let adds = c.in_ok-read_next.ensures.ok in
    let there : slice_get files c.loop-at.at ≡ Some file = file-at c.as_slice-paths.result.now files c.loop-at.at file
    c.as_slice-paths.ensures
    (slice_get_read c.as_slice-paths.result.now (length c.as_slice-paths.result.now) c.loop-at.at file refl (omega arith)
    c.index-paths-at.is) in
    record {
      loaded = subst (λ (loaded : List DataFileSeen). HasLoaded c.args.config.now (c.loop-at.at + 1) loaded
          (outside (g.F.Files.seen c.args.files.now) (g.K.Sink.seen c.args.out.now))
          (outside (g.F.Files.seen c.read_next.new.files) (g.K.Sink.seen c.read_next.new.out)))
          (sym adds.files)
          (has_loaded-next c.args.config.now c.loop-at.at c.loop-at.loaded.files.items file adds.next _ _ _
          (slice_get_within files c.loop-at.at file there) there c.loop-at.invariant.loaded adds.gives);
      shaped = subst (All (IsShaped c.args.config.now)) (sym adds.files)
          (All-append (IsShaped c.args.config.now) c.loop-at.loaded.files.items (adds.next ∷ []) c.loop-at.invariant.shaped
          (All-cons (IsShaped c.args.config.now) adds.next [] adds.shaped (All-nil (IsShaped c.args.config.now))));
    }

-- all were read
pub returns-clause-ok : goal.returns-clause-ok
returns-clause-ok g c =
    let past : length c.args.config.now.files ≤ c.loop-at.at = omega (arith, ap length c.as_slice-paths.ensures) in
    subst (λ (read : List DataFileSeen). GivesValue (data_behind c.args.config.now [] c.args.config.now.files) read
    (outside (g.F.Files.seen c.args.files.now) (g.K.Sink.seen c.args.out.now))
    (outside (g.F.Files.seen c.loop-at.files) (g.K.Sink.seen c.loop-at.out)))
    (sym c.into_files.ensures)
    (has_loaded-all c.args.config.now c.loop-at.at c.loop-at.loaded.files.items _ _ past c.loop-at.invariant.loaded)

-- and all have the shape that they are to have
pub returns-clause-shaped : goal.returns-clause-shaped
returns-clause-shaped g c = subst (All (IsShaped c.args.config.now)) (sym c.into_files.ensures) c.loop-at.invariant.shaped
