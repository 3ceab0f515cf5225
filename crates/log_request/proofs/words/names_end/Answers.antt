use Rattle.std.proofs.Common.{◌∙◌, ap, sym, below_more, string_bytes, Global}
use Rattle.log_request.specs.Request.{is_other}
use Rattle.log_request.proofs.Leading.{text_is, first_is, none_is}
use Rattle.log_request.proofs.words.names_end.Goals as goal

pub loop-i-preserved : goal.loop-i-preserved
loop-i-preserved c =
    below_more _ _ c.loop-i.invariant
    (ap is_other (text_is (string_bytes {Z = Global}) c.args.words.now c.loop-i.i c.index-words-i.result c.as_str.result.now c.loop-i-test.true c.index-words-i.is c.as_str.ensures.value) ∙ sym c.is_other.ensures ∙ c.if-is_other.false)

pub returns-then-is_other-clause-end : goal.returns-then-is_other-clause-end
returns-then-is_other-clause-end c =
    first_is (string_bytes {Z = Global}) c.args.words.now c.loop-i.i c.index-words-i.result c.as_str.result.now c.loop-i-test.true c.index-words-i.is c.as_str.ensures.value is_other c.loop-i.invariant
    (sym c.is_other.ensures ∙ c.if-is_other.true)

pub returns-clause-end : goal.returns-clause-end
returns-clause-end c = none_is (string_bytes {Z = Global}) c.args.words.now c.loop-i.i is_other c.loop-i-test.false c.loop-i.invariant
