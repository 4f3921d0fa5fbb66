-- How a part ends that is refused for a fault, whose line was to be put.
use Rattle.std.proofs.Common.{◌≡◌, ℕ, List, Result, Ok, Err, IfErr, IsErrAnd, OnErr, OnOk, refl, sym, subst}
use Rattle.pcm_outside.specs.Files.{FailsToRead, OnlyReads}
use Rattle.pcm_outside.specs.Sink.{SinkSeen}
use Rattle.pcm_config.specs.declared.fault.ConfigRefusal.{ConfigRefusal}
use Rattle.pcm_script.specs.declared.fault.Refusal.{Refusal}
use Rattle.pcm_verdict.specs.Faults.{Fault, FileKind, Missing, BadConfig, BadWave, BadScript, fault_line}
use Rattle.pcm_inputs.specs.declared.ending.Ending.{Ending}
use Rattle.pcm_inputs.specs.Faults.{TellsFault, Told, Cut, Lost, ending_of}
use Rattle.pcm_inputs.specs.Outside.{Outside}
use Rattle.pcm_inputs.specs.Parts.{file_part}
use Rattle.pcm_inputs.specs.Reads.{Comes, CutsLine, Ends, Lacks, OfFault, OfRead, OnlyHasRead, Part, RefusesPart}

-- a fault of a part, of which the line was put, or cut, or not made
told : {A : Type 0} (part : Part A) (fault : Fault) (ending : Ending) (before after : Outside) → (RefusesPart part (ending_of fault) before after → Ends part before after (ending_of fault))
    → Comes part (Err fault) before.files → OnlyReads before.files after.files → TellsFault fault ending before.sink after.sink → Ends part before after ending
told part fault ending before after refuses came files (Told same line) = subst (λ (e : Ending). Ends part before after e) (sym same)
    (refuses (record { fault = fault; ended = refl; came = came; files = files; line = line }))
told part fault ending before after refuses came files (Cut same put) = subst (λ (e : Ending). Ends part before after e) (sym same)
    (let cut : CutsLine part before after = record { line = fault_line fault; is = OfFault fault came refl; files = files; put = put } in cut)
told part fault ending before after refuses came files (Lost same stays) = subst (λ (e : Ending). Ends part before after e) (sym same)
    (let lacks : Lacks before after = record { files = files; sink = stays } in lacks)

pub config-refused : {A : Type 0} (part : Part A) (refusal : ConfigRefusal) (ending : Ending) (before after : Outside) → Comes part (Err (BadConfig refusal)) before.files → OnlyReads before.files after.files
    → TellsFault (BadConfig refusal) ending before.sink after.sink → Ends part before after ending
config-refused part refusal ending before after came files tells = told part (BadConfig refusal) ending before after (λ refuses. refuses) came files tells

pub script-refused : {A : Type 0} (part : Part A) (refusal : Refusal) (ending : Ending) (before after : Outside) → Comes part (Err (BadScript refusal)) before.files → OnlyReads before.files after.files
    → TellsFault (BadScript refusal) ending before.sink after.sink → Ends part before after ending
script-refused part refusal ending before after came files tells = told part (BadScript refusal) ending before after (λ refuses. refuses) came files tells

pub wave-refused : {A : Type 0} (part : Part A) (name : List ℕ) (kind : FileKind) (ending : Ending) (before after : Outside) → Comes part (Err (BadWave name kind)) before.files → OnlyReads before.files after.files
    → TellsFault (BadWave name kind) ending before.sink after.sink → Ends part before after ending
wave-refused part name kind ending before after came files tells = told part (BadWave name kind) ending before after (λ refuses. refuses) came files tells

-- a file that could not be read
pub unread : (name : List ℕ) (ending : Ending) (before after : Outside) → FailsToRead before.files after.files name → OnlyReads before.files after.files
    → TellsFault (Missing name) ending before.sink after.sink → Ends (file_part name) before after ending
unread name ending before after fails files (Told same line) = subst (λ (e : Ending). Ends (file_part name) before after e) (sym same)
    (record { name = name; is_read = record { may = refl; among = λ told. record { place = 0; is = refl } }; read = fails; files = files; line = line })
unread name ending before after fails files (Cut same put) = subst (λ (e : Ending). Ends (file_part name) before after e) (sym same)
    (let cut : CutsLine (file_part name) before after =
    record { line = fault_line (Missing name); is = OfRead name (record { may = refl; among = λ told. record { place = 0; is = refl } }) fails refl; files = files; put = put } in cut)
unread name ending before after fails files (Lost same stays) = subst (λ (e : Ending). Ends (file_part name) before after e) (sym same)
    (let lacks : Lacks before after = record { files = files; sink = stays } in lacks)

-- what holds of an ending holds of the result that it is
pub err-as : {T E : Type 0} (P : E → Type 0) (ending : E) (r : Result T E) → IsErrAnd r (λ found. found ≡ ending) → P ending → IfErr r P
err-as P ending (Ok made) same holds = tt
err-as P ending (Err found) same holds = subst P (sym same) holds

-- the line of a fault, put after files were only read
pub tells-behind : (fault : Fault) (ending : Ending) (before between : Outside) (sink : SinkSeen) → OnlyHasRead before between → TellsFault fault ending between.sink sink → TellsFault fault ending before.sink sink
tells-behind fault ending before between sink only tells = subst (λ (old : SinkSeen). TellsFault fault ending old sink) only.sink tells

-- the line of a wave's fault, by another term for its name
pub tells-named : (name other : List ℕ) (kind : FileKind) (ending : Ending) (old new : SinkSeen) → name ≡ other → TellsFault (BadWave name kind) ending old new → TellsFault (BadWave other kind) ending old new
tells-named name other kind ending old new same tells = subst (λ (n : List ℕ). TellsFault (BadWave n kind) ending old new) same tells

-- what follows of something that holds where all went well
pub on-ok : {T E P Q : Type 0} (r : Result T E) → OnOk r P → (P → Q) → OnOk r Q
on-ok (Ok made) holds next = next holds
on-ok (Err found) holds next = tt

pub on-err : {T E P Q : Type 0} (r : Result T E) → OnErr r P → (P → Q) → OnErr r Q
on-err (Ok made) holds next = tt
on-err (Err found) holds next = next holds
