-- A converted body that is appended block by block.
use Rattle.std.proofs.Common.{◌≡◌, ℕ, ◌+◌, ◌-◌, ◌*◌, ◌≤◌, List, Result, Ok, Err, OnErr, OnOk, append_assoc, [], ◌++◌, length, take, drop, IsTrue, refl, sym, ◌∙◌, ap, subst, arith, length-take-le}
use Rattle.std.proofs.Math.Nat.{mul-le-mul_right, mul-sub}
use Rattle.std.proofs.Math.Seq.{take-append_seam}
use Rattle.std.proofs.lemmas.List.{length-drop, take-append-drop}
use Rattle.pcm_outside.specs.Files.{FilesSeen, Appends, FailsToAppend, OnlyAppends}
use Rattle.pcm_format.specs.declared.settings.Settings.{Settings}
use Rattle.pcm_format.specs.Frames.{frame_bytes}
use Rattle.pcm_feeder.specs.Kept.{Kept}
use Rattle.pcm_feeder.specs.Limits.{IsRate}
use Rattle.pcm_convert.specs.declared.conversion.ConversionOf.{ConversionOf}
use Rattle.pcm_convert.specs.declared.conversion.TheConstants.{BLOCK}
use Rattle.pcm_convert.specs.Conversions.{block_after, block_count, converted_body, converted_frames}
use Rattle.pcm_convert.specs.Stands.{ConversionStands, source_in, target_in}
use Rattle.pcm_convert.proofs.Bytes.{block-joined, blocks-whole, length-body}
use Rattle.pcm_convert_command.proofs.Appending.{appends-on, appends-only, fails-before, fails-behind, grows-nothing}

-- the bytes of the first frames of a converted body
abbrev pub first_frames : Settings → Settings → List ℕ → ℕ → List ℕ
first_frames source target body given = take (given * frame_bytes target) (converted_body source target body)

-- the first `given` frames of a body were converted, and their bytes were appended
pub record HasAppended {B : Type 0} (kept : B → Kept) (conversion : ConversionOf B) (source target : Settings) (body : List ℕ) (given : ℕ) (old new : FilesSeen) : Type 0 where
  pub source_is : source_in conversion ≡ source
  pub target_is : target_in conversion ≡ target
  pub stands : ConversionStands kept conversion body given
  pub only : OnlyAppends old new
  pub appended : Appends old new (first_frames source target body given)

-- `left` frames are left of a body, and the buffer has room for a block
pub record IsAppending {B : Type 0} (kept : B → Kept) (conversion : ConversionOf B) (block : List ℕ) (source target : Settings) (body : List ℕ) (frames left : ℕ) (old new : FilesSeen) : Type 0 where
  pub within : left ≤ frames
  pub room : length block ≡ BLOCK * frame_bytes target
  pub has : HasAppended kept conversion source target body (frames - left) old new

-- what a conversion gave as the next block, and what it stands for then
pub record GivesBlock {B : Type 0} (kept : B → Kept) (next : ConversionOf B) (source target : Settings) (body : List ℕ) (given size : ℕ) (bytes rest : List ℕ) : Type 0 where
  pub count : size ≡ block_count source target body given * frame_bytes target
  pub block : bytes ≡ block_after source target body given ++ rest
  pub stands : ConversionStands kept next body (given + block_count source target body given)

-- the next block, in the settings that the conversion had at first
pub next-gives : {B : Type 0} (kept : B → Kept) (conversion next : ConversionOf B) (source target : Settings) (body : List ℕ) (given size : ℕ) (block rest : List ℕ) (old between : FilesSeen)
    → HasAppended kept conversion source target body given old between
    → ((n : ℕ) → ConversionStands kept conversion body n → size ≡ block_count (source_in conversion) (target_in conversion) body n * frame_bytes (target_in conversion))
    → ((n : ℕ) → ConversionStands kept conversion body n → block ≡ block_after (source_in conversion) (target_in conversion) body n ++ rest)
    → ((n : ℕ) → ConversionStands kept conversion body n → ConversionStands kept next body (n + block_count (source_in conversion) (target_in conversion) body n))
    → GivesBlock kept next source target body given size block rest
next-gives kept conversion next source target body given size block rest old between has counts blocks stands =
    let gives : GivesBlock kept next (source_in conversion) (target_in conversion) body given size block rest =
    record { count = counts given has.stands; block = blocks given has.stands; stands = stands given has.stands } in
    subst (λ (t : Settings). GivesBlock kept next source t body given size block rest) has.target_is
    (subst (λ (s : Settings). GivesBlock kept next s (target_in conversion) body given size block rest) has.source_is gives)

-- nothing was appended yet
pub begins : {B : Type 0} (kept : B → Kept) (conversion : ConversionOf B) (body : List ℕ) (given : ℕ) (files : FilesSeen) → IsTrue files.stands → given ≡ 0 → ConversionStands kept conversion body 0
    → HasAppended kept conversion (source_in conversion) (target_in conversion) body given files files
begins kept conversion body given files created none stands =
    let empty : [] ≡ first_frames (source_in conversion) (target_in conversion) body given =
    ap (λ (n : ℕ). take n (converted_body (source_in conversion) (target_in conversion) body)) (let e : 0 ≡ given * frame_bytes (target_in conversion) = rw none (omega arith) in e) in
    record {
      source_is = refl;
      target_is = refl;
      stands = subst (λ (n : ℕ). ConversionStands kept conversion body n) (sym none) stands;
      only = record { writes = record { tells = refl; read_faults = refl; failed = refl; write_faults = omega arith }; created = refl; stands = created };
      appended = subst (λ (piece : List ℕ). Appends files files piece) empty (record { grows = grows-nothing files; write_faults = refl });
    }

-- a block has as many bytes as its frames have
length-block : (source target : Settings) (body : List ℕ) (given : ℕ) → IsRate source.rate → IsRate target.rate
    → length (block_after source target body given) ≡ block_count source target body given * frame_bytes target
length-block source target body given from to =
    let z = frame_bytes target in
    let all = converted_frames source target body in
    let n = block_count source target body given in
    let whole : length (converted_body source target body) ≡ all * z = length-body source target body from to in
    let few : n ≤ all - given = omega arith in
    let bytes = mul-le-mul_right z few in
    let less = mul-sub z all given in
    let left : length (drop (given * z) (converted_body source target body)) ≡ length (converted_body source target body) - given * z =
    length-drop (given * z) (converted_body source target body) in
    length-take-le (n * z) (drop (given * z) (converted_body source target body)) (omega (arith, whole, bytes, less, left))

-- a block has room in the buffer
pub block-within : {B : Type 0} (kept : B → Kept) (next : ConversionOf B) (source target : Settings) (body : List ℕ) (given size : ℕ) (block rest : List ℕ)
    → GivesBlock kept next source target body given size block rest → size ≤ BLOCK * frame_bytes target
block-within kept next source target body given size block rest gives =
    let few : block_count source target body given ≤ BLOCK = omega arith in
    omega (arith, gives.count, mul-le-mul_right (frame_bytes target) few)

-- the front of the buffer is the block
pub piece-is : {B : Type 0} (kept : B → Kept) (next : ConversionOf B) (source target : Settings) (body : List ℕ) (given size : ℕ) (block rest : List ℕ) → IsRate source.rate → IsRate target.rate
    → GivesBlock kept next source target body given size block rest → take size block ≡ block_after source target body given
piece-is kept next source target body given size block rest from to gives =
    let bytes : List ℕ = block_after source target body given in
    let whole : length bytes ≡ size = length-block source target body given from to ∙ sym gives.count in
    ap (λ (b : List ℕ). take size b) gives.block
    ∙ ap (λ (n : ℕ). take n (bytes ++ rest)) (sym whole) ∙ take-append_seam bytes rest

-- one block more was appended
pub goes-on : {B : Type 0} (kept : B → Kept) (conversion next : ConversionOf B) (source target : Settings) (body : List ℕ) (given now size : ℕ) (block rest : List ℕ) (old between new : FilesSeen) → IsRate source.rate → IsRate target.rate
    → source_in next ≡ source_in conversion → target_in next ≡ target_in conversion
    → given + block_count source target body given ≡ now → GivesBlock kept next source target body given size block rest → OnlyAppends between new → Appends between new (take size block)
    → HasAppended kept conversion source target body given old between → HasAppended kept next source target body now old new
goes-on kept conversion next source target body given now size block rest old between new from to keeps_source keeps_target count gives only appends has =
    let piece = piece-is kept next source target body given size block rest from to gives in
    let joined : first_frames source target body given ++ take size block ≡ first_frames source target body now =
    ap (λ (b : List ℕ). first_frames source target body given ++ b) piece ∙ block-joined source target body given
    ∙ ap (λ (n : ℕ). first_frames source target body n) count in
    record {
      source_is = keeps_source ∙ has.source_is;
      target_is = keeps_target ∙ has.target_is;
      stands = subst (λ (n : ℕ). ConversionStands kept next body n) count gives.stands;
      only = appends-only old between new has.only only;
      appended = subst (λ (b : List ℕ). Appends old new b) joined
          (appends-on old between new (first_frames source target body given) (take size block) has.only has.appended appends);
    }

-- the append of one block more failed
pub fails-in : {B : Type 0} (kept : B → Kept) (conversion next : ConversionOf B) (source target : Settings) (body : List ℕ) (given size : ℕ) (block rest : List ℕ) (old between new : FilesSeen) → IsRate source.rate → IsRate target.rate
    → GivesBlock kept next source target body given size block rest → FailsToAppend between new (take size block)
    → HasAppended kept conversion source target body given old between → FailsToAppend old new (converted_body source target body)
fails-in kept conversion next source target body given size block rest old between new from to gives fails has =
    let whole = converted_body source target body in
    let now = (given + block_count source target body given) * frame_bytes target in
    let piece = piece-is kept next source target body given size block rest from to gives in
    let joined : first_frames source target body given ++ take size block ≡ take now whole =
    ap (λ (b : List ℕ). first_frames source target body given ++ b) piece ∙ block-joined source target body given in
    subst (λ (b : List ℕ). FailsToAppend old new b) (take-append-drop now whole)
    (fails-before old new (take now whole) (drop now whole)
    (subst (λ (b : List ℕ). FailsToAppend old new b) joined
    (fails-behind old between new (first_frames source target body given) (take size block) has.only has.appended fails)))

-- all frames were appended
pub all-appended : {B : Type 0} (kept : B → Kept) (conversion : ConversionOf B) (source target : Settings) (body : List ℕ) (given : ℕ) (old new : FilesSeen) → IsRate source.rate → IsRate target.rate
    → converted_frames source target body ≤ given → HasAppended kept conversion source target body given old new → Appends old new (converted_body source target body)
all-appended kept conversion source target body given old new from to all has =
    subst (λ (b : List ℕ). Appends old new b) (blocks-whole source target body given from to all) has.appended

-- ---- the padding after a body

pub padded : {E : Type 0} (r : Result (Unit {0}) E) (old between new : FilesSeen) (head body padding padding_as : List ℕ) → OnlyAppends old between → Appends old between (head ++ body) → padding ≡ padding_as
    → OnOk r (Appends between new padding) → OnOk r (Appends old new (head ++ (body ++ padding_as)))
padded (Ok done) old between new head body padding padding_as only first same next =
    subst (λ (b : List ℕ). Appends old new b) (append_assoc head body padding ∙ ap (λ (p : List ℕ). head ++ (body ++ p)) same)
    (appends-on old between new (head ++ body) padding only first next)
padded (Err fault) old between new head body padding padding_as only first same next = next

pub padding-fails : {T E : Type 0} (r : Result T E) (old between new : FilesSeen) (head body padding padding_as : List ℕ) → OnlyAppends old between → Appends old between (head ++ body) → padding ≡ padding_as
    → OnErr r (FailsToAppend between new padding) → OnErr r (FailsToAppend old new (head ++ (body ++ padding_as)))
padding-fails (Ok done) old between new head body padding padding_as only first same next = next
padding-fails (Err fault) old between new head body padding padding_as only first same next =
    subst (λ (b : List ℕ). FailsToAppend old new b) (append_assoc head body padding ∙ ap (λ (p : List ℕ). head ++ (body ++ p)) same)
    (fails-behind old between new (head ++ body) padding only first next)
