use Rattle.log_pieces.proofs.Common.{◌≡◌, ◌∙◌, ◌+◌, [], sym, subst, get_or_read, text_at}
use Rattle.log_pieces.proofs.OverFiles.{Has, has_more}
use Rattle.log_pieces.proofs.walk.LineWalk.take_files.Goals as goal

pub loop-file-preserved : goal.loop-file-preserved
loop-file-preserved c =
    let h = c.loop-file.invariant in
    let t : text_at c.args.texts.now c.loop-file.file ≡ c.as_slice.result.now = sym (get_or_read c.args.texts.now c.loop-file.file c.index-texts-file.result c.loop-file-test.true c.index-texts-file.is []) ∙ sym c.as_slice.ensures in
    let now = c.in-None.is in
    subst (λ cut. Has c.take_file.new.self cut c.args.texts.now (c.loop-file.file + 1)) (sym c.either-cut.ensures)
    (has_more c.loop-file.self c.loop-file.cut c.args.texts.now c.loop-file.file c.as_slice.result.now h c.loop-file-test.true t c.take_file.new.self
    (sym now ∙ c.in_ok-found.ensures.found h.before h.knows)
    (c.in_ok-found.ensures.after now h.before h.knows)
    (c.in_ok-found.ensures.pieces now h.before h.knows c.args.texts.now t h.pieces))
