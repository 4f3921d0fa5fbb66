-- The line that states the reply to an event.
use Rattle.std.specs.Prelude.{ℕ, List, [], ◌∷◌, ◌++◌, Result, Ok, Err, codes}
use Rattle.std.specs.Fmt.{decimal}
use Rattle.hex.specs.Hex.{encode_lower}
use Rattle.pcm_oss.specs.declared.reply.Answer.{Answer}
use Rattle.pcm_oss.specs.declared.reply.Answer.TheVariants.{Done, Number, Space, Pointer, Errors, Got}
use Rattle.pcm_oss.specs.declared.reply.Errno.{Errno}
use Rattle.pcm_oss.specs.declared.reply.Errno.TheVariants.{Again, Busy, Inval, BadF, Exist}
use Rattle.pcm_oss.specs.Replies.{Reply}

-- the word of a refusal
abbrev pub errno_word : Errno → List ℕ
errno_word Again = codes "again"
errno_word Busy = codes "busy"
errno_word Inval = codes "inval"
errno_word BadF = codes "badf"
errno_word Exist = codes "exist"

-- one of several numbers, after its name
abbrev pub field : List ℕ → ℕ → List ℕ
field name number = codes " " ++ name ++ codes "=" ++ decimal number

-- the bytes that a read got, in hexadecimal, and a dash for none
abbrev pub bytes_text : List ℕ → List ℕ
bytes_text [] = codes "-"
bytes_text (byte ∷ bytes) = encode_lower (byte ∷ bytes)

-- the text of the answer to an accepted event, and of the bytes that it got
abbrev pub answer_text : Answer → List ℕ → List ℕ
answer_text Done read = codes "ok"
answer_text (Number number) read = codes "ok " ++ decimal number
answer_text (Space fragments fragstotal fragsize bytes) read =
    codes "ok" ++ field (codes "fragments") fragments ++ field (codes "fragstotal") fragstotal
    ++ field (codes "fragsize") fragsize ++ field (codes "bytes") bytes
answer_text (Pointer bytes blocks ptr) read =
    codes "ok" ++ field (codes "bytes") bytes ++ field (codes "blocks") blocks ++ field (codes "ptr") ptr
answer_text (Errors underruns overruns) read =
    codes "ok" ++ field (codes "underruns") underruns ++ field (codes "overruns") overruns
answer_text (Got count) read = codes "ok " ++ decimal count ++ codes " " ++ bytes_text read

-- and of an answer without bytes
abbrev pub plain_answer : Answer → List ℕ
plain_answer answer = answer_text answer []

-- the text of a result, and of the bytes that come with it
abbrev pub result_text : Result Answer Errno → List ℕ → List ℕ
result_text (Ok answer) read = answer_text answer read
result_text (Err errno) read = codes "refused " ++ errno_word errno

-- the text of a reply
abbrev pub reply_text : Reply → List ℕ
reply_text reply = result_text reply.result reply.bytes

-- the line of a reply: its number among the events, and its text
abbrev pub reply_line : ℕ → Reply → List ℕ
reply_line number reply = decimal number ++ codes ": " ++ reply_text reply ++ codes "\n"
