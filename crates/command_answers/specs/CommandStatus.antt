-- Statuses and their numbers.
use Rattle.std.specs.Prelude.{◌≡◌, ℕ}
use Rattle.command_answers.specs.Common.{End, Done as MachineDone, Trapped, Entangled as MachineEntangled, RunEnd, Machine, Fuel as FuelEnd, Pool as PoolEnd, end_status, Refusal, Words as WordsRefused, Source as SourceRefused, Line, Entry, Image as ImageRefused}
use Rattle.command_answers.specs.declared.answer.CommandStatus.{CommandStatus}
use Rattle.command_answers.specs.declared.answer.CommandStatus.TheVariants.{Done, Words, Source, Trap, Entangled, Fuel, Pool, ReadFault, WriteFault, NoMemory, Trace, Races, Image}

-- exit statuses
abbrev pub code_of_status : CommandStatus → ℕ
code_of_status Done = 0
code_of_status Words = 2
code_of_status Source = 3
code_of_status Trap = 4
code_of_status Entangled = 5
code_of_status Fuel = 6
code_of_status Pool = 7
code_of_status ReadFault = 8
code_of_status WriteFault = 9
code_of_status NoMemory = 10
code_of_status Trace = 11
code_of_status Races = 12
code_of_status Image = 13

-- the status of a run, by its end
abbrev pub status_of_machine : End → CommandStatus
status_of_machine MachineDone = Done
status_of_machine (Trapped kind t at) = Trap
status_of_machine (MachineEntangled reader owner) = Entangled

abbrev pub status_of_end : RunEnd → CommandStatus
status_of_end (Machine e) = status_of_machine e
status_of_end (FuelEnd steps) = Fuel
status_of_end (PoolEnd chunks) = Pool

-- the status of a refusal
abbrev pub status_of_refusal : Refusal → CommandStatus
status_of_refusal WordsRefused = Words
status_of_refusal (SourceRefused r) = Source
status_of_refusal (Line n) = Trace
status_of_refusal (Entry r) = Trace
status_of_refusal (ImageRefused f) = Image

-- the number of an end's status is that of the end
abbrev pub StatusesOfEnds : Type 0
StatusesOfEnds = (e : RunEnd) → code_of_status (status_of_end e) ≡ end_status e
