-- The reply to refused command-line arguments, or to a refused input.
use Rattle.refusal_lines.specs.declared.refusal.Refusal.{Refusal}
use Rattle.refusal_lines.specs.declared.refusal.Refusal.TheVariants.{Words as WordsRefused, Source as SourceRefused, Line, Entry, Image as ImageRefused}
use Rattle.refusal_lines.specs.Refusals.{refusal_line}
use Rattle.whole_call.specs.declared.status.AnswerStatus.{AnswerStatus}
use Rattle.whole_call.specs.declared.status.AnswerStatus.TheVariants.{Words, Source, Trace, Image}
use Rattle.whole_call.specs.declared.reply.Reply.{Reply}
use Rattle.whole_call.specs.Output.{Says}

abbrev pub status_of_refusal : Refusal → AnswerStatus
status_of_refusal WordsRefused = Words
status_of_refusal (SourceRefused r) = Source
status_of_refusal (Line n) = Trace
status_of_refusal (Entry r) = Trace
status_of_refusal (ImageRefused f) = Image

abbrev pub RepliesRefusal : Refusal → Reply → Type 0
RepliesRefusal r = Says (status_of_refusal r) (refusal_line r)
