-- The answer to an event, as numbers.
use Rattle.std.specs.Prelude.{ℕ, ℤ, pos, neg_ℤ}
use Rattle.pcm_oss.specs.declared.reply.Answer.{Answer}
use Rattle.pcm_oss.specs.declared.reply.Answer.TheVariants.{Done, Number, Space, Pointer, Errors, Got}
use Rattle.pcm_oss.specs.declared.reply.Errno.{Errno}
use Rattle.pcm_oss.specs.declared.reply.Errno.TheVariants.{Again, Busy, Inval, BadF, Exist}
use Rattle.pcm_foreign.specs.declared.answers.AnswerNumbers.{AnswerNumbers}
use Rattle.pcm_foreign.specs.declared.call_fault.CallFault.{CallFault}
use Rattle.pcm_foreign.specs.declared.call_fault.CallFault.TheVariants.{Argument, Engine, Room, Worn}
use Rattle.pcm_foreign.specs.declared.fault.NumbersFault.{NumbersFault}
use Rattle.pcm_foreign.specs.declared.fault.NumbersFault.TheVariants as faults
use Rattle.pcm_foreign.specs.declared.fault.NumbersFault.TheVariants.{Memory}

-- four numbers
abbrev pub four : ℕ → ℕ → ℕ → ℕ → AnswerNumbers
four first second third fourth = record { first = first; second = second; third = third; fourth = fourth }

-- the numbers of an answer, in the order of its fields, and 0 after them
abbrev pub answer_numbers : Answer → AnswerNumbers
answer_numbers Done = four 0 0 0 0
answer_numbers (Number number) = four number 0 0 0
answer_numbers (Space fragments fragstotal fragsize bytes) = four fragments fragstotal fragsize bytes
answer_numbers (Pointer bytes blocks ptr) = four bytes blocks ptr 0
answer_numbers (Errors underruns overruns) = four underruns overruns 0 0
answer_numbers (Got count) = four count 0 0 0

-- the number of a refusal
abbrev pub refusal_number : Errno → ℤ
refusal_number Again = neg_ℤ (pos 1)
refusal_number Busy = neg_ℤ (pos 2)
refusal_number Inval = neg_ℤ (pos 3)
refusal_number BadF = neg_ℤ (pos 4)
refusal_number Exist = neg_ℤ (pos 5)

-- the number of a call that no engine takes
abbrev pub call_fault_number : CallFault → ℤ
call_fault_number Argument = neg_ℤ (pos 7)
call_fault_number Engine = neg_ℤ (pos 9)
call_fault_number Room = neg_ℤ (pos 10)
call_fault_number Worn = neg_ℤ (pos 11)

-- the number of a fault
abbrev pub fault_number : NumbersFault → ℤ
fault_number Memory = neg_ℤ (pos 6)
fault_number faults.Argument = neg_ℤ (pos 7)
