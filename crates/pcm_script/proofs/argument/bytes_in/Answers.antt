use Rattle.std.proofs.Common.{◌≡◌, false, Some, None, codes, rules, arith}
use Rattle.std.specs.Str.{bytes_eq}
use Rattle.std.specs.Result.{result_ok}
use Rattle.hex.specs.Hex.{decode_of}
use Rattle.pcm_script.proofs.Digits.{short_bytes-long, short_bytes-some, short_bytes-none}
use Rattle.pcm_script.proofs.argument.bytes_in.Goals as goal

pub returns-then-word : goal.returns-then-word
returns-then-word c =
    let other : bytes_eq c.args.word.now (codes "-") ≡ false = search rules in
    rw other (short_bytes-long c.args.word.now (omega arith))

pub returns-in-Some : goal.returns-in-Some
returns-in-Some c =
    let other : bytes_eq c.args.word.now (codes "-") ≡ false = search rules in
    let some : result_ok (decode_of c.args.word.now) ≡ Some c.in-Some.bytes.items = search rules in
    rw other (short_bytes-some c.args.word.now c.in-Some.bytes.items some (omega arith))

pub returns-in-None : goal.returns-in-None
returns-in-None c =
    let other : bytes_eq c.args.word.now (codes "-") ≡ false = search rules in
    let none : result_ok (decode_of c.args.word.now) ≡ None = search rules in
    rw other (short_bytes-none (decode_of c.args.word.now) none)
