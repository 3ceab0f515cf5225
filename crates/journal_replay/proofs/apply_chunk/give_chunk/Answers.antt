use Rattle.journal_replay.proofs.Making.{answers_part, holds_heap}
use Rattle.journal_replay.proofs.apply_chunk.give_chunk.Goals as goal

pub returns : goal.returns
returns g c =
    answers_part (g.S.LegalCalls.value c.args.shared.now) (g.S.LegalCalls.value c.chunk-answer.new.self) c.args.worker _ c.chunk-answer.new.part c.chunk-answer.result c.chunk-answer.ensures.refused c.chunk-answer.ensures.same c.chunk-answer.ensures.enters c.chunk-answer.ensures.others
    (holds_heap (g.S.LegalCalls.value c.chunk-answer.new.self) (g.S.LegalCalls.value c.args.shared.now) c.args.worker c.args.part c.chunk-answer.new.part c.chunk-answer.ensures.rest c.requires.holds c.chunk-answer.ensures.fits)
