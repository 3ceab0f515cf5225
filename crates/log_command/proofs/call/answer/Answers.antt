use Rattle.log_command.proofs.Answered.{answered_without_memory, answered_without_input, answered_log}
use Rattle.log_command.proofs.call.answer.Goals as goal

pub returns-in-Err-Fault : goal.returns-in-Err-Fault
returns-in-Err-Fault g c = answered_without_input _ _ _ _ _ _ c.in-Err-Fault.ensures.some (c.in-Err-Fault.ensures.failed c.in-Err-Fault.field-0-is)

pub returns-in-Err-NoMemory : goal.returns-in-Err-NoMemory
returns-in-Err-NoMemory g c = answered_without_memory _ _ _ _ _ _ c.in-Err-NoMemory.ensures.some

pub returns-in-Ok : goal.returns-in-Ok
returns-in-Ok g c =
    answered_log c.args.view.now _ _ _ _ c.in-Ok.texts c.as_slice.result.now c.show_log.result c.give.result _ _ c.in-Ok.ensures.texts c.as_slice.ensures c.show_log.ensures
    c.give.ensures.given c.give.ensures.read c.give.ensures.fault
