use Rattle.program_reader.proofs.Common.{◌<◌, ◌≡◌, ◌≤◌, ◌+◌, length, drop, take, ap, sym, arith, ◌∙◌, true, false, length-drop, words_of, head_of_line, operands_of_line, label_line, ends_body}
use Rattle.program_reader.proofs.LabelSteps.{labels_end, labels_more, labels_last, next_at_most}
use Rattle.program_reader.proofs.labels.read_labels.Goals as goal

pub returns-then-is_end : goal.returns-then-is_end
returns-then-is_end c =
    let line = take c.line_end-end.result c.loop-rest.rest.now in
    let ended : ends_body (head_of_line line) ≡ true = ap ends_body (sym c.split_line-head.ensures.head) ∙ sym c.is_end.ensures ∙ c.if-is_end.true in
    labels_end c.loop-rest.labels c.line_end-end.result c.loop-rest.rest.now c.line_end-end.ensures.end c.line_end-end.ensures.within ended ∙ c.loop-rest.invariant.value

pub returns-then-end-rest : goal.returns-then-end-rest
returns-then-end-rest c =
    let line = take c.line_end-end.result c.loop-rest.rest.now in
    let on : ends_body (head_of_line line) ≡ false = ap ends_body (sym c.split_line-head.ensures.head) ∙ sym c.is_end.ensures ∙ c.if-is_end.false in
    let added : c.add_line.new.self ≡ label_line c.split_line-head.result.0 (words_of c.split_line-head.result.1.now) c.loop-rest.labels = c.in_ok-add_line.ensures in
    let same : label_line c.split_line-head.result.0 (words_of c.split_line-head.result.1.now) c.loop-rest.labels ≡ label_line (head_of_line line) (operands_of_line line) c.loop-rest.labels = rw (c.split_line-head.ensures.head, c.split_line-head.ensures.operands) in
    added ∙ same ∙ labels_last c.loop-rest.labels c.line_end-end.result c.loop-rest.rest.now c.line_end-end.ensures.end c.if-end-rest.true on ∙ c.loop-rest.invariant.value

pub loop-rest-preserved : goal.loop-rest-preserved
loop-rest-preserved c =
    let line = take c.line_end-end.result c.loop-rest.rest.now in
    let on : ends_body (head_of_line line) ≡ false = ap ends_body (sym c.split_line-head.ensures.head) ∙ sym c.is_end.ensures ∙ c.if-is_end.false in
    let added : c.add_line.new.self ≡ label_line c.split_line-head.result.0 (words_of c.split_line-head.result.1.now) c.loop-rest.labels = c.in_ok-add_line.ensures in
    let same : label_line c.split_line-head.result.0 (words_of c.split_line-head.result.1.now) c.loop-rest.labels ≡ label_line (head_of_line line) (operands_of_line line) c.loop-rest.labels = rw (c.split_line-head.ensures.head, c.split_line-head.ensures.operands) in
    let lt : c.line_end-end.result < length c.loop-rest.rest.now = omega (arith, c.line_end-end.ensures.within, c.if-end-rest.false) in
    let len : length c.behind-rest.result.now ≡ length (drop (c.line_end-end.result + 1) c.loop-rest.rest.now) = ap length c.behind-rest.ensures in
    let most : (label_line (head_of_line line) (operands_of_line line) c.loop-rest.labels).next ≤ c.loop-rest.labels.next + 1 = next_at_most (head_of_line line) (operands_of_line line) c.loop-rest.labels in
    let next : c.add_line.new.self.next ≡ (label_line (head_of_line line) (operands_of_line line) c.loop-rest.labels).next = ap (λ s. s.next) (added ∙ same) in
    record {
      value = rw (c.behind-rest.ensures, added ∙ same) (labels_more c.loop-rest.labels c.line_end-end.result c.loop-rest.rest.now c.line_end-end.ensures.end lt on ∙ c.loop-rest.invariant.value);
      counted = grind (arith, len, lt, most, next, length-drop, c.loop-rest.invariant.counted);
    }
