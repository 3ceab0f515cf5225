-- Other threads may see the turn, if the value may be sent to them.
use denote.RattleType.{RattleType}
use denote.Param.Send.{IsSend, IsSync}
use mir.Syntax.{Dict}
use Rattle.std.specs.contracts.snapshot.Snapshot as Snapshot
use Rattle.copied_part_laws.specs.below.run_trace.EntryContracts as Entry
use Rattle.copied_part_laws.specs.below.task_machine.PrivateContracts as Private
use Rattle.turn_entries.specs.contracts.run.Run as Run
use Rattle.turn_entries.specs.contracts.run.Setup as Setup
use Rattle.worker_run.proofs.Common.{ghosts, EntryCallsGhosts}
use Rattle.turn_entries.specs.below.turn_lock.TurnContracts as Turn
use Rattle.turn_entries.proofs.below.turn_lock.TurnSendSync as turn
use Rattle.turn_entries.proofs.run.Run.TheSendSync as run

-- only clauses see its parts
pub turn_sync : (P : RattleType) → IsSend P → (calls : EntryCallsGhosts P.Denot) (dict : Dict) → IsSync (Turn.the_row (Run.the_row P) Entry.the_row (Snapshot.the_row Private.the_row) Setup.the_row (ghosts P calls dict))
turn_sync P sent calls dict = turn.the_sync (Run.the_row P) Entry.the_row (Snapshot.the_row Private.the_row) Setup.the_row (ghosts P calls dict) (run.the_send P sent)
