use Rattle.std.proofs.Common.{◌∙◌, arith, refl, string_bytes, Global}
use Rattle.log_request.proofs.Leading.{names_are, cut_is}
use Rattle.log_request.proofs.words.from_names.Goals as goal

pub returns : goal.returns
returns c =
    c.with_left.ensures
    ∙ names_are (string_bytes {Z = Global}) c.args.words.now _ _ c.args.options c.take_words.new.self c.names_end-end.result c.in_ok-taken.taken _ (grind arith) (cut_is c.args.words.now c.names_end-end.result) c.names_end-end.ensures.end c.in_ok-taken.ensures.options refl
