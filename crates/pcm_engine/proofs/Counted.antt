-- The bytes that a slot's book counts, through every event.
use Rattle.std.proofs.Common.{◌≡◌, ℕ, zero, suc, ◌+◌, ◌-◌, ◌<◌, ◌≤◌, Bool, true, false, cond, eqb, List, [], ◌∷◌, ◌++◌, length, take, drop, inl, inr, refl, sym, ap, ◌∙◌, arith, length-append, length-take}
use Rattle.std.proofs.lemmas.List.{take_all, take-take, append-nil, length-drop}
use Rattle.std.proofs.Math.Seq.{take-append-add}
use Rattle.std.proofs.lemmas.Bool.{cases_lt}
use Rattle.std.proofs.lemmas.Bool.Decides.{nat_tests}
use Rattle.pcm_engine.specs.Types.{MapBook, PlayBook, Pool}
use Rattle.pcm_wave.specs.declared.pool.Source.{Source}
use Rattle.pcm_wave.specs.Pools.{bytes_at, source_bytes}
use Rattle.pcm_desk.specs.Device.{DeviceSeen}
use Rattle.pcm_desk.specs.RunStates.{is_running}
use Rattle.pcm_desk.specs.MapBooks.{taken_of}
use Rattle.pcm_sound.specs.Runs.{Run, begun_run, taking, newest_bytes}
use Rattle.pcm_sound.specs.Valid.{IsNewest, MapIsNewest, MapIsValid, SlotIsValid}

newest_length : (book : PlayBook) (runs : List Run) → IsNewest book runs → length (newest_bytes runs) ≡ book.written
newest_length book [] h = absurd h
newest_length book (run ∷ runs) h = h.1

-- there are as many as the book counts
pub length-counted : (device : DeviceSeen) (mixed : ℕ) (book : PlayBook) (runs : List Run) → SlotIsValid device mixed book runs → length (take book.written (newest_bytes runs)) ≡ book.written
length-counted device mixed book runs v =
    elim (cases_lt 0 book.written) [
      | inl some ↦ (let is = newest_length book runs (v.newest some) in omega (arith, length-take book.written (newest_bytes runs)))
      | inr none ↦ omega (arith, length-take book.written (newest_bytes runs))
    ]

-- they are those of the newest run, where there are any
pub counted-newest : (device : DeviceSeen) (mixed : ℕ) (book : PlayBook) (runs : List Run) → SlotIsValid device mixed book runs → 0 < book.written → take book.written (newest_bytes runs) ≡ newest_bytes runs
counted-newest device mixed book runs v some =
    let is = newest_length book runs (v.newest some) in
    take_all book.written (newest_bytes runs) (omega arith)

-- those that a mapped book has taken are those of the newest run, where it runs
newest_taken : (book : MapBook) (runs : List Run) → MapIsNewest book runs → length (newest_bytes runs) ≡ taken_of book
newest_taken book [] h = absurd h
newest_taken book (run ∷ runs) h = h.1

pub counted-taken : (device : DeviceSeen) (mixed : ℕ) (book : MapBook) (runs : List Run) → MapIsValid device mixed book runs → is_running book.state ≡ true → take (taken_of book) (newest_bytes runs) ≡ newest_bytes runs
counted-taken device mixed book runs v on =
    let is = newest_taken book runs (v.newest on) in
    take_all (taken_of book) (newest_bytes runs) (omega arith)

-- what is not above 0 is 0
none_above : (n : ℕ) → (0 < n → ⊥) → n ≡ 0
none_above zero h = refl
none_above (suc n) h = absurd (h (omega arith))

counted-taking_at : (b : Bool) (byte : ℕ) (bytes : List ℕ) (old : PlayBook) (written : ℕ) (run : Run) (runs : List Run) → eqb old.written 0 ≡ b → written ≡ old.written + length (byte ∷ bytes) → (0 < old.written → IsNewest old (run ∷ runs))
    → take written (newest_bytes (cond b (begun_run old (byte ∷ bytes) ∷ run ∷ runs) (record run { bytes = run.bytes ++ byte ∷ bytes } ∷ runs))) ≡ take old.written run.bytes ++ byte ∷ bytes
counted-taking_at true byte bytes old written run runs e w newest =
    let zero_is : old.written ≡ 0 = grind (arith, nat_tests) in
    rw zero_is (take_all written (byte ∷ bytes) (omega arith))
counted-taking_at false byte bytes old written run runs e w newest =
    let above : 0 < old.written = grind (arith, nat_tests) in
    let is = newest above in
    let size = is.1 in
    take_all written (run.bytes ++ byte ∷ bytes) (omega (arith, length-append run.bytes (byte ∷ bytes)))
    ∙ ap (λ bs. bs ++ byte ∷ bytes) (sym (take_all old.written run.bytes (omega arith)))

-- bytes that are taken stand after those that are counted
counted-taking : (more : List ℕ) (old : PlayBook) (written : ℕ) (runs : List Run) → written ≡ old.written + length more → (0 < old.written → IsNewest old runs)
    → take written (newest_bytes (taking more old runs)) ≡ take old.written (newest_bytes runs) ++ more
counted-taking [] old written runs w newest = ap (λ n. take n (newest_bytes runs)) (w ∙ (let e : old.written + 0 ≡ old.written = omega arith in e)) ∙ sym (append-nil (take old.written (newest_bytes runs)))
counted-taking (byte ∷ bytes) old written [] w newest =
    let none : old.written ≡ 0 = none_above old.written newest in
    take_all written (byte ∷ bytes) (omega arith) ∙ rw none refl
counted-taking (byte ∷ bytes) old written (run ∷ runs) w newest = counted-taking_at (eqb old.written 0) byte bytes old written run runs refl w newest

-- a write: the bytes that a book accepts are the front of those that were brought
pub counted-written : (device : DeviceSeen) (mixed : ℕ) (pool : Pool) (source : Source) (at count accepted : ℕ) (old : PlayBook) (written : ℕ) (runs : List Run) → SlotIsValid device mixed old runs → at + count ≤ length (source_bytes pool source)
    → written ≡ old.written + accepted → accepted ≤ count
    → take written (newest_bytes (taking (bytes_at pool source at (written - old.written)) old runs)) ≡ take written (take old.written (newest_bytes runs) ++ bytes_at pool source at count)
counted-written device mixed pool source at count accepted old written runs v fits grew within =
    let same : written - old.written ≡ accepted = omega arith in
    let front : List ℕ = take old.written (newest_bytes runs) in
    let more : List ℕ = bytes_at pool source at accepted in
    let long : length more ≡ accepted = omega (arith, length-take accepted (drop at (source_bytes pool source)), length-drop at (source_bytes pool source)) in
    let all : written ≡ length front + accepted = omega (arith, length-counted device mixed old runs v) in
    ap (λ n. take written (newest_bytes (taking (bytes_at pool source at n) old runs))) same
    ∙ counted-taking more old written runs (omega arith) v.newest
    ∙ ap (λ bytes. front ++ bytes) (sym (take-take accepted count (drop at (source_bytes pool source)) within))
    ∙ sym (take-append-add front (bytes_at pool source at count) accepted)
    ∙ ap (λ n. take n (front ++ bytes_at pool source at count)) (sym all)

-- another event: no more is counted than before
pub counted-kept : (old : PlayBook) (written : ℕ) (newest : List ℕ) → written ≤ old.written → take written newest ≡ take written (take old.written newest ++ [])
counted-kept old written newest less =
    sym (ap (take written) (append-nil (take old.written newest)) ∙ take-take written old.written newest less)
