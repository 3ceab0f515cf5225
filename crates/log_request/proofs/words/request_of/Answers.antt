use Rattle.std.proofs.Common.{◌∙◌, ◌-◌, length, take, drop, string_bytes, Global}
use Rattle.std.proofs.lemmas.Result.{IfOk-weaker}
use Rattle.log_request.proofs.Leading.{asked_is, cut_is}
use Rattle.log_request.proofs.words.request_of.Goals as goal

pub returns : goal.returns
returns c =
    IfOk-weaker c.from_names.result _ _
    (λ r e. e ∙ asked_is (string_bytes {Z = Global}) c.args.words.now (take (length c.args.words.now - c.in_ok-first.first) (drop c.in_ok-first.first c.args.words.now)) c.new-options.result c.take_words.new.self c.in_ok-first.first c.new-options.ensures c.in_ok-first.ensures.options (cut_is c.args.words.now c.in_ok-first.first)) c.from_names.ensures
