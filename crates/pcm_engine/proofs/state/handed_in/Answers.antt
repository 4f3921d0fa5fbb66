use Rattle.std.proofs.Common.{rules, ◌≡◌, ℕ, List, ◌∷◌, [], length, get_or, refl, sym, ap, ◌∙◌, subst, arith, true≢false}
use Rattle.std.proofs.lemmas.Bool.Decides.{nat_tests}
use Rattle.pcm_engine.specs.Types.{Device, Filters}
use Rattle.pcm_digest.specs.Digests.{digest_of}
use Rattle.pcm_save.specs.Parts.{HasRow}
use Rattle.pcm_save.proofs.Taken.{rows-same}
use Rattle.pcm_engine.specs.LoadFaults.{IsForeign, IsOfOther}
use Rattle.pcm_engine.proofs.Saving.{three-read}
use Rattle.pcm_engine.proofs.state.handed_in.Goals as goal

pub returns-clause-head : goal.returns-clause-head
returns-clause-head c =
    let row = c.load_row.new.row in
    let long : length row ≡ 3 = search rules in
    let digest = c.if-digest-digest_of.false ∙ c.digest_of.ensures in
    subst (HasRow c.args.bytes.now) (sym (three-read row long)
    ∙ ap (λ (version : ℕ). version ∷ get_or row 1 0 ∷ get_or row 2 0 ∷ []) c.if-version-ne-STATE_VERSION.false
    ∙ ap (λ (number : ℕ). 1 ∷ number ∷ get_or row 2 0 ∷ []) digest) c.in_ok-load_row.ensures.row

-- three numbers at the front of bytes are those that were read there
read-as : (bytes row : List ℕ) (a b d : ℕ) → length row ≡ 3 → HasRow bytes row → HasRow bytes (a ∷ b ∷ d ∷ []) → row ≡ a ∷ b ∷ d ∷ []
read-as bytes row a b d long read is = rows-same bytes (a ∷ b ∷ d ∷ []) row long is read

pub returns-in_err-load_row-clause-taken : goal.returns-in_err-load_row-clause-taken
returns-in_err-load_row-clause-taken c = λ handed is few. absurd (true≢false (sym (c.in_err-load_row.ensures.taken (omega (arith, is.within)))))

pub returns-in_err-load_row-clause-named : goal.returns-in_err-load_row-clause-named
returns-in_err-load_row-clause-named c = record {
  foreign = λ is. (let within = is.row.within in absurd (true≢false (sym (c.in_err-load_row.ensures.taken (omega (arith, within))))));
  other = λ is. (let within = is.row.within in absurd (true≢false (sym (c.in_err-load_row.ensures.taken (omega (arith, within))))));
}

-- what was read tells the version and the digest
not-foreign : (bytes row : List ℕ) → length row ≡ 3 → HasRow bytes row → get_or row 0 0 ≡ 1 → IsForeign bytes → ⊥
not-foreign bytes row long read version is = is.other (ap (λ list. get_or list 0 0) (sym (read-as bytes row is.version is.digest is.handed long read is.row)) ∙ version)

not-other : (filters : Filters) (device : Device) (bytes row : List ℕ) → length row ≡ 3 → HasRow bytes row → get_or row 1 0 ≡ digest_of filters device → IsOfOther filters device bytes → ⊥
not-other filters device bytes row long read digest is = is.other (ap (λ list. get_or list 1 0) (sym (read-as bytes row 1 is.digest is.handed long read is.row)) ∙ digest)

pub returns-then-version-ne-STATE_VERSION-clause-taken : goal.returns-then-version-ne-STATE_VERSION-clause-taken
returns-then-version-ne-STATE_VERSION-clause-taken c = λ handed is few.
    let long : length c.load_row.new.row ≡ 3 = search rules in
    absurd (c.if-version-ne-STATE_VERSION.true (ap (λ list. get_or list 0 0) (read-as c.args.bytes.now c.load_row.new.row 1 _ handed long c.in_ok-load_row.ensures.row is)))

pub returns-then-version-ne-STATE_VERSION-clause-named : goal.returns-then-version-ne-STATE_VERSION-clause-named
returns-then-version-ne-STATE_VERSION-clause-named c =
    let long : length c.load_row.new.row ≡ 3 = search rules in
    record {
      foreign = λ is. refl;
      other = λ is. absurd (c.if-version-ne-STATE_VERSION.true (ap (λ list. get_or list 0 0) (read-as c.args.bytes.now c.load_row.new.row 1 is.digest is.handed long c.in_ok-load_row.ensures.row is.row)));
    }

pub returns-then-digest-digest_of-clause-taken : goal.returns-then-digest-digest_of-clause-taken
returns-then-digest-digest_of-clause-taken c = λ handed is few.
    let long : length c.load_row.new.row ≡ 3 = search rules in
    absurd (c.if-digest-digest_of.true (ap (λ list. get_or list 1 0) (read-as c.args.bytes.now c.load_row.new.row 1 _ handed long c.in_ok-load_row.ensures.row is) ∙ sym c.digest_of.ensures))

pub returns-then-digest-digest_of-clause-named : goal.returns-then-digest-digest_of-clause-named
returns-then-digest-digest_of-clause-named c =
    let long : length c.load_row.new.row ≡ 3 = search rules in
    record {
      foreign = λ is. absurd (not-foreign c.args.bytes.now c.load_row.new.row long c.in_ok-load_row.ensures.row c.if-version-ne-STATE_VERSION.false is);
      other = λ is. refl;
    }

pub returns-in_err-ordered-clause-taken : goal.returns-in_err-ordered-clause-taken
returns-in_err-ordered-clause-taken c = λ handed is few.
    let long : length c.load_row.new.row ≡ 3 = search rules in
    let at : get_or c.load_row.new.row 2 0 ≡ handed = ap (λ list. get_or list 2 0) (read-as c.args.bytes.now c.load_row.new.row 1 _ handed long c.in_ok-load_row.ensures.row is) in
    absurd (true≢false (sym (c.in_err-ordered.ensures.taken (grind (arith, nat_tests)))))

pub returns-in_err-ordered-clause-named : goal.returns-in_err-ordered-clause-named
returns-in_err-ordered-clause-named c =
    let long : length c.load_row.new.row ≡ 3 = search rules in
    record {
      foreign = λ is. absurd (not-foreign c.args.bytes.now c.load_row.new.row long c.in_ok-load_row.ensures.row c.if-version-ne-STATE_VERSION.false is);
      other = λ is. absurd (not-other c.args.tables.now c.args.device.now c.args.bytes.now c.load_row.new.row long c.in_ok-load_row.ensures.row (c.if-digest-digest_of.false ∙ c.digest_of.ensures) is);
    }

pub returns-clause-named : goal.returns-clause-named
returns-clause-named c =
    let long : length c.load_row.new.row ≡ 3 = search rules in
    record {
      foreign = λ is. absurd (not-foreign c.args.bytes.now c.load_row.new.row long c.in_ok-load_row.ensures.row c.if-version-ne-STATE_VERSION.false is);
      other = λ is. absurd (not-other c.args.tables.now c.args.device.now c.args.bytes.now c.load_row.new.row long c.in_ok-load_row.ensures.row (c.if-digest-digest_of.false ∙ c.digest_of.ensures) is);
    }
