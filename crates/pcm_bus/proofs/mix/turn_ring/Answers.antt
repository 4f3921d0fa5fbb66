use Rattle.std.proofs.Common.{◌≡◌, ◌≤◌, ◌*◌, ◌++◌, ◌-◌, min, ℕ, List, length, take, drop, sym, ap, ◌∙◌, arith, length-take, length-drop, length-append}
use Rattle.std.proofs.Math.Nat.{mul_assoc}
use Rattle.std.proofs.lemmas.List.{append-nil, drop_all, take_all}
use Rattle.pcm_ring.specs.Ring.{Ring}
use Rattle.pcm_format.specs.Formats.{bytes_of}
use Rattle.pcm_format.specs.Frames.{frame_bytes}
use Rattle.pcm_format.specs.Layouts.{channels_of}
use Rattle.pcm_bus.specs.Blocks.{block_bytes}
use Rattle.pcm_bus.proofs.mix.turn_ring.Goals as goal

-- how many bytes leave a full ring
taken : (took want there room size : ℕ) → took ≡ min want there → want ≡ size → there ≡ room → size ≤ room → took ≡ size
taken took want there room size is all full within = omega arith

-- and as many come in
put-back : (put block free left there room size : ℕ) → put ≡ min block free → block ≡ size → free ≡ room - left → left ≡ there - size
    → there ≡ room → size ≤ room → put ≡ size
put-back put block free left there room size is whole leaves after full within = omega arith

pub spell_frames-requires-clause-lengths : goal.spell_frames-requires-clause-lengths
spell_frames-requires-clause-lengths c =
    let settings = c.args.settings in
    let width : c.args.n * c.frame_bytes.result ≡ c.args.n * frame_bytes settings = ap (λ k. c.args.n * k) c.frame_bytes.ensures in
    let whole : length (take (c.args.n * c.frame_bytes.result) c.args.bytes.now) ≡ c.args.n * frame_bytes
    settings = omega (arith, length-take (c.args.n * c.frame_bytes.result) c.args.bytes.now, width, c.requires.bytes) in
    whole ∙ sym (mul_assoc c.args.n (channels_of settings.layout) (bytes_of settings.format))
    ∙ sym (ap (λ k. k * bytes_of settings.format) c.requires.block)

pub returns-clause-size : goal.returns-clause-size
returns-clause-size c = ap (λ (ring : Ring). ring.size) c.put.ensures.kept ∙ ap (λ (ring : Ring). ring.size) c.take.ensures.left

pub returns-clause-out : goal.returns-clause-out
returns-clause-out c =
    let old = c.args.ring.now in
    let size : ℕ = c.args.n * frame_bytes c.args.settings in
    let took = taken c.take.result (length c.args.out.now) (length old.bytes) old.size size c.take.ensures.count c.requires.out
    c.requires.full c.requires.within in
    c.take.ensures.moved ∙ ap (λ k. take k old.bytes ++ drop k c.args.out.now) took
    ∙ ap (λ (rest : List ℕ). take size old.bytes ++ rest) (drop_all size c.args.out.now (omega (arith, c.requires.out)))
    ∙ append-nil (take size old.bytes)

pub returns-clause-ring : goal.returns-clause-ring
returns-clause-ring c =
    let old = c.args.ring.now in
    let size : ℕ = c.args.n * frame_bytes c.args.settings in
    let block : List ℕ = c.spell_frames.new.out in
    let took = taken c.take.result (length c.args.out.now) (length old.bytes) old.size size c.take.ensures.count c.requires.out
    c.requires.full c.requires.within in
    let left : length c.take.new.self.bytes ≡ length old.bytes - size = ap (λ (ring : Ring). length ring.bytes) c.take.ensures.left
    ∙ ap (λ k. length (drop k old.bytes)) took ∙ length-drop size old.bytes in
    let free : c.take.new.self.size - length c.take.new.self.bytes ≡ old.size - length c.take.new.self.bytes = ap
    (λ (ring : Ring). ring.size - length c.take.new.self.bytes) c.take.ensures.left in
    let width : c.args.n * c.frame_bytes.result ≡ size = ap (λ k. c.args.n * k) c.frame_bytes.ensures in
    let whole : length block ≡ size = omega (
      arith,
      c.spell_frames.auto.out,
      length-take (c.args.n * c.frame_bytes.result) c.args.bytes.now,
      width,
      c.requires.bytes,
    ) in
    let put = put-back c.put.result (length block) (c.take.new.self.size - length c.take.new.self.bytes) (length c.take.new.self.bytes)
    (length old.bytes) old.size size c.put.ensures.count whole free left c.requires.full c.requires.within in
    ap (λ (ring : Ring). ring.bytes) c.put.ensures.kept
    ∙ ap (λ (ring : Ring). ring.bytes ++ take c.put.result block) c.take.ensures.left
    ∙ ap (λ k. drop k old.bytes ++ take c.put.result block) took
    ∙ ap (λ (bytes : List ℕ). drop size old.bytes ++ bytes)
    (take_all c.put.result block (omega (arith, put, whole)) ∙ c.spell_frames.ensures)

pub returns-clause-full : goal.returns-clause-full
returns-clause-full c =
    let size : ℕ = c.args.n * frame_bytes c.args.settings in
    let width : c.args.n * c.frame_bytes.result ≡ size = ap (λ k. c.args.n * k) c.frame_bytes.ensures in
    let block : length (block_bytes c.args.settings c.args.block.now) ≡ size = sym (ap length c.spell_frames.ensures)
    ∙ omega (arith, c.spell_frames.auto.out, length-take (c.args.n * c.frame_bytes.result) c.args.bytes.now, width, c.requires.bytes) in
    ap length (returns-clause-ring c)
    ∙ omega (
      arith,
      length-append (drop size c.args.ring.now.bytes)
          (block_bytes c.args.settings c.args.block.now),
      length-drop size c.args.ring.now.bytes,
      block,
      c.requires.full,
      c.requires.within,
    )
