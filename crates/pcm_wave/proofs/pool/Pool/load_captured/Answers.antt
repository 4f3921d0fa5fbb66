use Rattle.std.proofs.Common.{◌≡◌, ℕ, List, ap, ◌∙◌, pos, replicate}
use Rattle.std.specs.List.{flat_map, range_with_len}
use Rattle.pcm_format.specs.declared.settings.Settings.{Settings}
use Rattle.pcm_wave.specs.Pools.{frame_or_silence}
use Rattle.pcm_wave.specs.Waves.{settings_of}
use Rattle.pcm_wave.proofs.Captures.{captured-file, captured-silence}
use Rattle.pcm_wave.proofs.pool.Pool.load_captured.Goals as goal

pub returns-in-Some-clause-loaded : goal.returns-in-Some-clause-loaded
returns-in-Some-clause-loaded c =
    let file = c.in-Some.file.now in
    let same : c.settings.result ≡ settings_of file.wave = c.settings.ensures ∙ ap settings_of c.wave.ensures.value in
    c.load_from.ensures.loaded
    ∙ ap (λ (s : Settings). flat_map (frame_or_silence s c.body.result.now) (range_with_len c.args.from c.args.frames)) same
    ∙ ap (λ (body : List ℕ). flat_map (frame_or_silence (settings_of file.wave) body) (range_with_len c.args.from c.args.frames))
    c.body.ensures.bytes
    ∙ captured-file c.args.layout c.args.self.now file c.args.from c.args.frames c.in-Some.ensures c.requires.captures

pub returns-in-None-clause-loaded : goal.returns-in-None-clause-loaded
returns-in-None-clause-loaded c =
    c.fill.ensures.after (λ y same. same)
    ∙ ap (λ n. replicate n (pos 0)) c.requires.room
    ∙ captured-silence c.args.layout c.args.self.now c.args.from c.args.frames c.in-None.ensures
