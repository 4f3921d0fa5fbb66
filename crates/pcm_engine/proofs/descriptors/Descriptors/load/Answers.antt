use Rattle.std.proofs.Common.{rules, ◌≡◌, ℕ, List, ◌*◌, ◌-◌, ◌++◌, length, take, drop, sym, ap, ◌∙◌, subst, arith, append_assoc, true≢false}
use Rattle.std.proofs.lemmas.Option.{none-some}
use Rattle.pcm_state.specs.GroupRows.{groups_row}
use Rattle.pcm_state.specs.HeldRows.{held_row}
use Rattle.pcm_state.specs.Numbers.{spelled_numbers}
use Rattle.pcm_state.proofs.Spelled.{length-numbers}
use Rattle.pcm_save.specs.Parts.{HasRow, IsPart}
use Rattle.pcm_save.proofs.Joining.{behind}
use Rattle.pcm_save.proofs.Taken.{front-left, row-front, rows-same}
use Rattle.pcm_engine.specs.declared.descriptors.Descriptors.{Descriptors}
use Rattle.pcm_engine.specs.Judged.{StandOnce}
use Rattle.pcm_engine.specs.Saved.{descriptors_state, AreWhole}
use Rattle.pcm_engine.proofs.Saving.{length-groups, length-held, two-parts}
use Rattle.pcm_engine.proofs.descriptors.Descriptors.load.Goals as goal

pub returns-clause-state : goal.returns-clause-state
returns-clause-state c =
    let bytes = c.args.bytes.now in
    let row = c.load_row.new.row in
    let numbers = c.load_row-2.new.row in
    let groups : groups_row c.in_ok-groups.groups ≡ row = search rules in
    let many : length row ≡ 32 = search rules in
    let all : length numbers ≡ 64 = search rules in
    let held = c.load_held.ensures in
    subst (λ (descriptors : Descriptors). IsPart bytes 0 768 (descriptors_state descriptors)) (sym c.regroup.ensures)
    (subst (IsPart bytes 0 768) (ap (λ (l : List ℕ). spelled_numbers l ++ spelled_numbers numbers) (sym groups) ∙ ap (λ (l : List ℕ). spelled_numbers (groups_row c.in_ok-groups.groups) ++ spelled_numbers l) (sym held))
    (two-parts bytes (spelled_numbers row) (spelled_numbers numbers) 256 512
    (subst (λ (n : ℕ). IsPart bytes 0 (8 * n) (spelled_numbers row)) many c.in_ok-load_row.ensures.row)
    (subst (λ (n : ℕ). IsPart (take (length bytes - 256) (drop 256 bytes)) 0 (8 * n) (spelled_numbers numbers)) all c.in_ok-load_row-2.ensures.row)))

-- ---- what was saved is taken

-- the bytes of the groups come first, then those of what is held
parts-front : (saved : Descriptors) (bytes rest : List ℕ) → bytes ≡ descriptors_state saved ++ rest → bytes ≡ spelled_numbers (groups_row saved.groups) ++ (spelled_numbers (held_row saved.held.value) ++ rest)
parts-front saved bytes rest front = front ∙ append_assoc (spelled_numbers (groups_row saved.groups)) (spelled_numbers (held_row saved.held.value)) rest

groups-front : (saved : Descriptors) (bytes rest : List ℕ) → bytes ≡ descriptors_state saved ++ rest → HasRow bytes (groups_row saved.groups)
groups-front saved bytes rest front = row-front (groups_row saved.groups) (spelled_numbers (held_row saved.held.value) ++ rest) bytes (parts-front saved bytes rest front)

held-front : (saved : Descriptors) (bytes rest : List ℕ) → AreWhole saved → bytes ≡ descriptors_state saved ++ rest → HasRow (take (length bytes - 256) (drop 256 bytes)) (held_row saved.held.value)
held-front saved bytes rest whole front =
    row-front (held_row saved.held.value) rest (take (length bytes - 256) (drop 256 bytes))
    (behind bytes 256 ∙ front-left bytes (spelled_numbers (groups_row saved.groups)) (spelled_numbers (held_row saved.held.value) ++ rest) 256 (parts-front saved bytes rest front) (sym (length-groups saved whole)))

row-long : (saved : Descriptors) → AreWhole saved → length (groups_row saved.groups) ≡ 32
row-long saved whole = omega (arith, length-groups saved whole, length-numbers (groups_row saved.groups))

held-long : (saved : Descriptors) → AreWhole saved → length (held_row saved.held.value) ≡ 64
held-long saved whole = omega (arith, length-held saved whole, length-numbers (held_row saved.held.value))

pub returns-in_err-load_row-clause-taken : goal.returns-in_err-load_row-clause-taken
returns-in_err-load_row-clause-taken c = λ saved rest whole once front.
    let is = groups-front saved c.args.bytes.now rest front in
    absurd (true≢false (sym (c.in_err-load_row.ensures.taken (omega (arith, is.within, row-long saved whole)))))

pub returns-in_err-groups-clause-taken : goal.returns-in_err-groups-clause-taken
returns-in_err-groups-clause-taken c = λ saved rest whole once front.
    let many : length c.load_row.new.row ≡ 32 = search rules in
    let same = rows-same c.args.bytes.now c.load_row.new.row (groups_row saved.groups) (row-long saved whole ∙ sym many) c.in_ok-load_row.ensures.row (groups-front saved c.args.bytes.now rest front) in
    absurd (none-some saved.groups (search rules ∙ c.groups_from_row.ensures.some saved.groups whole.groups same))

pub returns-in_err-load_row-2-clause-taken : goal.returns-in_err-load_row-2-clause-taken
returns-in_err-load_row-2-clause-taken c = λ saved rest whole once front.
    let is = held-front saved c.args.bytes.now rest whole front in
    absurd (true≢false (sym (c.in_err-load_row-2.ensures.taken (omega (arith, is.within, held-long saved whole)))))

pub returns-in_err-ordered-clause-taken : goal.returns-in_err-ordered-clause-taken
returns-in_err-ordered-clause-taken c = λ saved rest whole once front.
    let bytes = c.args.bytes.now in
    let all : length c.load_row-2.new.row ≡ 64 = search rules in
    let same = rows-same (take (length bytes - 256) (drop 256 bytes)) c.load_row-2.new.row (held_row saved.held.value) (held-long saved whole ∙ sym all) c.in_ok-load_row-2.ensures.row (held-front saved bytes rest whole front) in
    absurd (true≢false (sym (c.in_err-ordered.ensures.taken (c.are_apart.ensures.1 (subst StandOnce same once)))))
