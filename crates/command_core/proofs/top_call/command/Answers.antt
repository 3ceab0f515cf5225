use Rattle.command_core.proofs.Common.{◌≡◌, ◌∙◌, sym, map, None, string_bytes, command_line, SourceState}
use Rattle.command_core.proofs.Calls.{refused, unread_words}
use Rattle.command_core.proofs.top_call.command.Goals as goal

pub returns-in-Err : goal.returns-in-Err
returns-in-Err g c =
    let source : SourceState = record { left = g.S.Source.left c.args.source.now; named = g.S.Source.named c.args.source.now; faults = g.S.Source.faults c.args.source.now } in
    unread_words (command_line (map string_bytes c.args.words.now)) c.nothing.result source (g.K.Sink.written c.args.sink.now) _ c.nothing.ensures

pub returns-in-Ok-None : goal.returns-in-Ok-None
returns-in-Ok-None g c =
    let source : SourceState = record { left = g.S.Source.left c.args.source.now; named = g.S.Source.named c.args.source.now; faults = g.S.Source.faults c.args.source.now } in
    let none : command_line (map string_bytes c.args.words.now) ≡ None = sym c.in-Ok-None.ensures.meaning ∙ c.in-Ok-None.field-0-is in
    refused (command_line (map string_bytes c.args.words.now)) c.refuse_words.result source (g.K.Sink.written c.args.sink.now) (g.K.Sink.written c.refuse_words.new.sink) _ none c.refuse_words.ensures.answer c.refuse_words.ensures.read
    c.refuse_words.ensures.write_fault
