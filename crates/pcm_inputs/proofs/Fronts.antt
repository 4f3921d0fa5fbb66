-- What is judged of the front of a file that was read.
use Rattle.std.proofs.Common.{◌≡◌, ℕ, ◌+◌, ◌<◌, ◌≤◌, List, length, take, sym, ◌∙◌, ap, arith, inl, inr, length-take-le, Option, Result}
use Rattle.std.proofs.lemmas.Bool.{cases_lt}
use Rattle.std.proofs.lemmas.List.{take_all}
use Rattle.pcm_outside.specs.Files.{FilesSeen, ReadsFile}
use Rattle.pcm_verdict.specs.Faults.{Fault}
use Rattle.pcm_verdict.specs.Judging.{◌>>=◌, came_after, judge, or_missing, read_file}
use Rattle.pcm_inputs.specs.Reads.{Comes}

-- a judgement that is the same for all bytes that are longer than they may be
pub record CutsAt {A : Type 0} (judged : List ℕ → Result A Fault) (most : ℕ) : Type 0 where
  pub long : (one other : List ℕ) → most < length one → most < length other → judged one ≡ judged other

-- the front of bytes is judged as all of them
pub judged-front : {A : Type 0} (judged : List ℕ → Result A Fault) (most : ℕ) (bytes : List ℕ) → CutsAt judged most → judged (take (most + 1) bytes) ≡ judged bytes
judged-front judged most bytes cuts =
    elim (cases_lt (most + 1) (length bytes)) [
      | inl more ↦ (let within : most + 1 ≤ length bytes = omega arith in
          cuts.long (take (most + 1) bytes) bytes (omega (arith, length-take-le (most + 1) bytes within)) (omega arith))
      | inr all ↦ ap judged (take_all (most + 1) bytes all)
    ]

-- a file that was read, and then judged
pub comes-judged : {A : Type 0} (judged : List ℕ → Result A Fault) (name : List ℕ) (may : List ℕ → Type 0) (most : ℕ) (files : FilesSeen) (bytes : List ℕ) (came : Result A Fault) → CutsAt judged most
    → ReadsFile files name (most + 1) bytes → judged bytes ≡ came
    → Comes (record { judged = λ content. read_file content name >>= (λ whole. judge (judged whole)); may = may }) came files
comes-judged judged name may most files bytes came cuts reads is = λ told.
    let front = reads told in
    ap (λ (content : Option (List ℕ)). came_after (or_missing name content) (λ whole. judge (judged whole))) front.there
    ∙ sym (judged-front judged most front.whole cuts) ∙ ap judged (sym front.front) ∙ is
