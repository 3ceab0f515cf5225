-- The numbers of statuses.
use Rattle.std.specs.Prelude.{ℕ}
use Rattle.whole_call.specs.declared.status.AnswerStatus.{AnswerStatus}
use Rattle.whole_call.specs.declared.status.AnswerStatus.TheVariants.{Done, Words, Source, Trap, Entangled, Fuel, Pool, Trace, Races, Image, CutOff}
use Rattle.whole_call.specs.declared.status.CallStatus.{CallStatus}
use Rattle.whole_call.specs.declared.status.CallStatus.TheVariants.{Answered, ReadFault, WriteFault, NoMemory}

abbrev pub code_of_answer : AnswerStatus → ℕ
code_of_answer Done = 0
code_of_answer Words = 2
code_of_answer Source = 3
code_of_answer Trap = 4
code_of_answer Entangled = 5
code_of_answer Fuel = 6
code_of_answer Pool = 7
code_of_answer Trace = 11
code_of_answer Races = 12
code_of_answer Image = 13
code_of_answer CutOff = 14

-- exit statuses
abbrev pub code_of_status : CallStatus → ℕ
code_of_status (Answered s) = code_of_answer s
code_of_status ReadFault = 8
code_of_status WriteFault = 9
code_of_status NoMemory = 10
