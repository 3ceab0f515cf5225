use Rattle.command_core.proofs.Common.{ℕ, List, subst, Some, SourceState, AnswersInput}
use Rattle.command_core.proofs.Calls.{has_read, is_read, nothing_read, served, without_input, without_memory}
use Rattle.command_core.proofs.top_call.answer.Goals as goal

pub returns-in-Err-Fault : goal.returns-in-Err-Fault
returns-in-Err-Fault g c =
    let before : SourceState = record { left = g.S.Source.left c.args.source.now; named = g.S.Source.named c.args.source.now; faults = g.S.Source.faults c.args.source.now } in
    let after : SourceState = record { left = g.S.Source.left c.read_input.new.source; named = g.S.Source.named c.read_input.new.source; faults = g.S.Source.faults c.read_input.new.source } in
    let fault = c.in-Err-Fault.ensures.failed c.in-Err-Fault.field-0-is in
    without_input (Some c.args.line.now) c.nothing.result before after (g.K.Sink.written c.args.sink.now) _ c.nothing.ensures (is_read c.args.line.now fault.0) fault.1

pub returns-in-Err-NoMemory : goal.returns-in-Err-NoMemory
returns-in-Err-NoMemory g c =
    let before : SourceState = record { left = g.S.Source.left c.args.source.now; named = g.S.Source.named c.args.source.now; faults = g.S.Source.faults c.args.source.now } in
    let after : SourceState = record { left = g.S.Source.left c.read_input.new.source; named = g.S.Source.named c.read_input.new.source; faults = g.S.Source.faults c.read_input.new.source } in
    without_memory (Some c.args.line.now) c.nothing-in-Err-NoMemory.result before after (g.K.Sink.written c.args.sink.now) _ c.nothing-in-Err-NoMemory.ensures (nothing_read before after c.args.line.now c.read_input.ensures.untouched)

pub returns-in-Ok : goal.returns-in-Ok
returns-in-Ok g c =
    let before : SourceState = record { left = g.S.Source.left c.args.source.now; named = g.S.Source.named c.args.source.now; faults = g.S.Source.faults c.args.source.now } in
    let after : SourceState = record { left = g.S.Source.left c.read_input.new.source; named = g.S.Source.named c.read_input.new.source; faults = g.S.Source.faults c.read_input.new.source } in
    served (Some c.args.line.now) c.serve.result before after (g.K.Sink.written c.args.sink.now) (g.K.Sink.written c.serve.new.sink) _ c.in-Ok.input.items
    (has_read before after c.in-Ok.input.items c.args.line.now c.in-Ok.ensures.within c.in-Ok.ensures.input c.in-Ok.ensures.taken c.read_input.ensures.untouched)
    (subst (λ (input : List ℕ). AnswersInput (Some c.args.line.now) input c.serve.result (g.K.Sink.written c.args.sink.now) (g.K.Sink.written c.serve.new.sink)) c.as_slice.ensures.value c.serve.ensures.answer) c.serve.ensures.read
    c.serve.ensures.write_fault
