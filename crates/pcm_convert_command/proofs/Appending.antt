-- What is left of a file that was created, and that pieces are appended to.
use Rattle.std.proofs.Common.{◌≡◌, ℕ, ◌++◌, List, [], Some, append_assoc, append-nil, refl, sym, ◌∙◌, ap, subst, arith}
use Rattle.pcm_outside.specs.Counts.{Rose}
use Rattle.pcm_outside.specs.Files.{FilesSeen, Appends, Creates, FailsToAppend, Grows, OnlyAppends, OnlyWrites}
use Rattle.pcm_convert_command.specs.Written.{HasWritten}

-- a file that was created, and that a piece was appended to
pub has_written : (name piece : List ℕ) (old made new : FilesSeen) → OnlyWrites old made → Creates old made name → Grows made new piece → HasWritten name piece old new
has_written name piece old made new only creates grows = record {
  file = λ told. grows.bytes name [] (only.tells ∙ told) (creates.empty told);
  others = λ told other ne. grows.others name (creates.empty told).created other ne ∙ creates.others other ne;
}

-- a count that rose after it had stood
pub rose_later : (a b c : ℕ) → b ≡ a → Rose b c → Rose a c
rose_later a b c same rose = subst (λ n. Rose n c) same rose

-- ---- appended pieces

pub grows-on : (a b c : FilesSeen) (one two : List ℕ) → OnlyAppends a b → Grows a b one → Grows b c two → Grows a c (one ++ two)
grows-on a b c one two only first next = record {
  bytes = λ name bytes told has. let both = next.bytes name (bytes ++ one) (only.writes.tells ∙ told) (first.bytes name bytes told has) in
      record { created = both.created; content = both.content ∙ ap (λ (b : List ℕ). Some b) (append_assoc bytes one two) };
  others = λ name created other ne. next.others name (only.created ∙ created) other ne ∙ first.others name created other ne;
}

pub grows-nothing : (a : FilesSeen) → Grows a a []
grows-nothing a = record {
  bytes = λ name bytes told has. record { created = has.created; content = has.content ∙ ap (λ (b : List ℕ). Some b) (sym (append-nil bytes)) };
  others = λ name created other ne. refl;
}

pub appends-only : (a b c : FilesSeen) → OnlyAppends a b → OnlyAppends b c → OnlyAppends a c
appends-only a b c one two = record {
  writes = record {
    tells = two.writes.tells ∙ one.writes.tells;
    read_faults = two.writes.read_faults ∙ one.writes.read_faults;
    failed = two.writes.failed ∙ one.writes.failed;
    write_faults = omega (arith, one.writes.write_faults, two.writes.write_faults);
  };
  created = two.created ∙ one.created;
  stands = two.stands;
}

pub appends-on : (a b c : FilesSeen) (one two : List ℕ) → OnlyAppends a b → Appends a b one → Appends b c two → Appends a c (one ++ two)
appends-on a b c one two only first next = record { grows = grows-on a b c one two only first.grows next.grows; write_faults = next.write_faults ∙ first.write_faults }

-- an append that failed after one that didn't
pub fails-behind : (a b c : FilesSeen) (one two : List ℕ) → OnlyAppends a b → Appends a b one → FailsToAppend b c two → FailsToAppend a c (one ++ two)
fails-behind a b c one two only first fails = record {
  rose = rose_later _ _ _ first.write_faults fails.rose;
  part = one ++ fails.part;
  front = record { rest = fails.front.rest; joined = ap (λ (b : List ℕ). one ++ b) fails.front.joined ∙ sym (append_assoc one fails.part fails.front.rest) };
  grows = grows-on a b c one fails.part only first.grows fails.grows;
}

-- one that failed before more was to come
pub fails-before : (a b : FilesSeen) (one two : List ℕ) → FailsToAppend a b one → FailsToAppend a b (one ++ two)
fails-before a b one two fails = record {
  rose = fails.rose;
  part = fails.part;
  front = record { rest = fails.front.rest ++ two; joined = ap (λ (b : List ℕ). b ++ two) fails.front.joined ∙ append_assoc fails.part fails.front.rest two };
  grows = fails.grows;
}
