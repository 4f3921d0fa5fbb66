-- Tables that are read one after another, each wholly before the next.
use Rattle.std.proofs.Common.{◌≡◌, ℕ, suc, ◌+◌, ◌<◌, ◌≤◌, false, nat_lt, List, [], ◌∷◌, ◌++◌, length, drop, get_or, Result, Ok, Err, refl, sym, ap, ◌∙◌, append_assoc, arith, IfOk}
use Rattle.std.proofs.lemmas.Bool.Decides.{nat_tests}
use Rattle.std.proofs.lemmas.List.{drop_more}
use Rattle.std.proofs.lemmas.List.Elements.{All-nil, All-cons}
use Rattle.toml.specs.Data.{Members}
use Rattle.toml.specs.declared.value.Value.{Value}
use Rattle.pcm_config.specs.declared.fault.ConfigFault.{ConfigFault}
use Rattle.pcm_config.specs.declared.fault.ConfigFault.TheVariants.{Refused, Memory}
use Rattle.pcm_config.specs.declared.fault.ConfigRefusal.{ConfigRefusal}
use Rattle.pcm_config.specs.declared.place.ConfigPlace.{ConfigPlace}
use Rattle.pcm_config.specs.Answers.{Reads}
use Rattle.pcm_config.specs.Lists.{AreFew, each_read, few, few_read}
use Rattle.pcm_config.specs.Judgements.{◌>>=◌}
use Rattle.pcm_config.specs.Lookups.{table_seen, tables_seen}
use Rattle.pcm_config.proofs.Judging.{AreKept, after-kept, ok-more, passed}

-- how a table is read
abbrev pub Reader : Type 0 → Type 0
Reader A = Members → Result A ConfigRefusal

-- what is read of tables, with one more before them
abbrev with_one : {A : Type 0} → Result A ConfigRefusal → Result (List A) ConfigRefusal → Result (List A) ConfigRefusal
with_one one others = one >>= (λ first. others >>= (λ rest. Ok (first ∷ rest)))

-- what was read, and more after it if that isn't refused
abbrev pub with_more : {A : Type 0} → List A → Result (List A) ConfigRefusal → Result (List A) ConfigRefusal
with_more done (Ok others) = Ok (done ++ others)
with_more done (Err refusal) = Err refusal

-- the tables from an index on are still to be read, after those before
abbrev pub AreRead : {A : Type 0} → Reader A → List Value → ℕ → List A → Type 0
AreRead read values index done = with_more done (each_read read (tables_seen (drop index values))) ≡ each_read read (tables_seen values)

more-behind : {A : Type 0} (done : List A) (one : A) (others : Result (List A) ConfigRefusal)
    → with_more (done ++ one ∷ []) others ≡ with_more done (with_one (Ok one) others)
more-behind done one (Ok others) = ap Ok (append_assoc done (one ∷ []) others)
more-behind done one (Err refusal) = refl

-- the tables from an index on, the first of them by itself
first-behind : {A : Type 0} (read : Reader A) (values : List Value) (index : ℕ) (done : List A) (value : Value)
    → index < length values → value ≡ get_or values index value → AreRead read values index done
    → with_more done (with_one (read (table_seen value)) (each_read read (tables_seen (drop (index + 1) values)))) ≡ each_read read (tables_seen values)
first-behind read values index done value within at before =
    ap (λ v. with_more done (with_one (read (table_seen v)) (each_read read (tables_seen (drop (index + 1) values))))) at
    ∙ ap (λ rest. with_more done (each_read read (tables_seen rest))) (sym (drop_more values index value within))
    ∙ before

-- one table more
pub table-more : {A : Type 0} (read : Reader A) (values : List Value) (index : ℕ) (done : List A) (value : Value) (one : A)
    → index < length values → value ≡ get_or values index value → read (table_seen value) ≡ Ok one → AreRead read values index done
    → AreRead read values (index + 1) (done ++ one ∷ [])
table-more read values index done value one within at known before =
    more-behind done one (each_read read (tables_seen (drop (index + 1) values)))
    ∙ ap (λ first. with_more done (with_one first (each_read read (tables_seen (drop (index + 1) values))))) (sym known)
    ∙ first-behind read values index done value within at before

-- the first that is refused refuses all
pub table-refused : {A : Type 0} (read : Reader A) (values : List Value) (index : ℕ) (done : List A) (value : Value) (refusal : ConfigRefusal)
    → index < length values → value ≡ get_or values index value → read (table_seen value) ≡ Err refusal → AreRead read values index done
    → each_read read (tables_seen values) ≡ Err refusal
table-refused read values index done value refusal within at known before =
    sym (first-behind read values index done value within at before)
    ∙ ap (λ first. with_more done (with_one first (each_read read (tables_seen (drop (index + 1) values))))) known

-- the fault of the first table that isn't read is the fault of all
pub all-refused : {A : Type 0} (read : Reader A) (values : List Value) (index : ℕ) (done : List A) (value : Value) (fault : ConfigFault)
    → index < length values → value ≡ get_or values index value → Reads {A = A} (Err fault) (read (table_seen value)) → AreRead read values index done
    → Reads {A = List A} (Err fault) (each_read read (tables_seen values))
all-refused read values index done value (Refused refusal) within at known before = table-refused read values index done value refusal within at known before
all-refused read values index done value Memory within at known before = tt

-- ---- what holds of what is read

each-kept : {A : Type 0} (P : A → Type 0) (read : Reader A) → ((table : Members) → IfOk (read table) P)
    → (tables : List Members) → IfOk (each_read read tables) (AreKept P (length tables))
each-kept P read known [] = (refl, All-nil P)
each-kept P read known (table ∷ tables) =
    after-kept (read table) _ P _ (known table) (λ first f.
    after-kept (each_read read tables) _ (AreKept P (length tables)) _ (each-kept P read known tables) (λ others o.
    (ap suc o.0, All-cons P first others f o.1)))

within : (most count found : ℕ) → nat_lt most count ≡ false → found ≡ count → found ≤ most
within most count found few same = grind (arith, nat_tests)

few-are : {A : Type 0} (P : A → Type 0) (most count : ℕ) (list : List A) → nat_lt most count ≡ false → AreKept P count list → AreFew most P list
few-are P most count list few kept = record { count = within most count (length list) few kept.0; each = kept.1 }

-- at most `most` were read, each of which is what it must be
pub few-kept : {A : Type 0} (most : ℕ) (place : ConfigPlace) (P : A → Type 0) (read : Reader A) → ((table : Members) → IfOk (read table) P)
    → (tables : List Members) → IfOk (few_read most place read tables) (AreFew most P)
few-kept most place P read known tables =
    after-kept (few most place tables) _ (λ counted. nat_lt most (length counted) ≡ false) (AreFew most P)
    (passed (nat_lt most (length tables)) _ (Ok tables) _ (λ counted. counted)) (λ counted passes.
    ok-more (each_read read counted) (AreKept P (length counted)) (AreFew most P) (each-kept P read known counted)
    (λ list kept. few-are P most (length counted) list passes kept))
