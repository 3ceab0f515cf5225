use Rattle.std.proofs.Common.{refl}
use Rattle.log_tasks.proofs.Log.{small_log, rows_well, fault_there, log_refused, log_made}
use Rattle.log_tasks.proofs.tasks.log_tasks.Goals as goal

pub rows_of-requires-clause-small : goal.rows_of-requires-clause-small
rows_of-requires-clause-small c = small_log c.in_ok-told.told c.args.texts.now _ c.requires.pieces c.requires.whole c.in_ok-told.ensures c.in_ok-numbers.numbers c.as_slice.result.now c.as_slice.ensures (c.in_ok-numbers.ensures.kept, c.in_ok-numbers.ensures.no_other) c.in_ok-numbers.ensures.ascending

pub first_task_fault-requires-clause-spawns : goal.first_task_fault-requires-clause-spawns
first_task_fault-requires-clause-spawns c = rows_well c.in_ok-told.told c.args.texts.now _ c.requires.pieces c.requires.whole c.in_ok-told.ensures c.in_ok-numbers.numbers c.as_slice.result.now c.as_slice.ensures (c.in_ok-numbers.ensures.kept, c.in_ok-numbers.ensures.no_other) c.in_ok-numbers.ensures.ascending c.in_ok-rows.rows c.in_ok-rows.ensures.rows

pub in_log-requires : goal.in_log-requires
in_log-requires c = fault_there c.in_ok-told.told c.args.texts.now _ c.requires.pieces c.requires.whole c.in_ok-told.ensures c.in_ok-numbers.numbers c.as_slice.result.now c.as_slice.ensures (c.in_ok-numbers.ensures.kept, c.in_ok-numbers.ensures.no_other) c.in_ok-numbers.ensures.ascending c.in_ok-rows.rows c.in_ok-rows.ensures.rows c.args.extent c.in_ok-fault.field-0 c.in_ok-fault.ensures c.in-Some.fault c.in-Some.is

pub returns-in-Some-clause-refused : goal.returns-in-Some-clause-refused
returns-in-Some-clause-refused c = log_refused c.in_ok-told.told c.args.texts.now _ c.requires.pieces c.requires.whole c.in_ok-told.ensures c.in_ok-numbers.numbers c.as_slice.result.now c.as_slice.ensures (c.in_ok-numbers.ensures.kept, c.in_ok-numbers.ensures.no_other) c.in_ok-numbers.ensures.ascending c.in_ok-rows.rows c.in_ok-rows.ensures.rows c.args.extent c.in_ok-fault.field-0 c.in_ok-fault.ensures c.in-Some.fault c.in_log.result c.in-Some.is c.in_log.ensures

pub returns-clause-tasks : goal.returns-clause-tasks
returns-clause-tasks c =
    log_made c.in_ok-told.told c.args.texts.now _ c.requires.pieces c.requires.whole c.in_ok-told.ensures c.in_ok-numbers.numbers c.as_slice.result.now c.as_slice.ensures (c.in_ok-numbers.ensures.kept, c.in_ok-numbers.ensures.no_other) c.in_ok-numbers.ensures.ascending c.in_ok-rows.rows c.in_ok-rows.ensures.rows c.args.extent c.in_ok-fault.field-0 c.in_ok-fault.ensures c.in_default.is c.in_ok-rows.ensures.small
    (record { numbers = c.in_ok-numbers.numbers; turns = c.in_ok-turns.turns; known = c.in_ok-known.known }) refl c.in_ok-turns.ensures c.in_ok-known.ensures
