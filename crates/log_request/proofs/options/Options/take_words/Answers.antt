use Rattle.std.proofs.Common.{◌∙◌, string_bytes, Global}
use Rattle.log_request.proofs.Leading.{taken, ended}
use Rattle.log_request.proofs.options.Options.take_words.Goals as goal

pub loop-i-preserved : goal.loop-i-preserved
loop-i-preserved c = c.loop-i.invariant ∙ taken (string_bytes {Z = Global}) c.args.words.now c.loop-i.i c.index-words-i.result c.as_str.result.now c.loop-i-test.true c.index-words-i.is c.as_str.ensures.value c.loop-i.self c.take.new.self c.in_ok-take.field-0 c.if-not-branch.false c.in_ok-take.ensures.option

pub returns-then-not-branch-clause-options : goal.returns-then-not-branch-clause-options
returns-then-not-branch-clause-options c =
    c.loop-i.invariant ∙ ended (string_bytes {Z = Global}) c.args.words.now c.loop-i.i c.index-words-i.result c.as_str.result.now c.loop-i-test.true c.index-words-i.is c.as_str.ensures.value c.loop-i.self c.take.new.self c.in_ok-take.field-0 c.if-not-branch.true c.in_ok-take.ensures.option (c.in_ok-take.ensures.kept c.if-not-branch.true)
