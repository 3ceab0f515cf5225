use Rattle.program_reader.proofs.Common.{sym, ◌∙◌, words_of, spot_in}
use Rattle.program_reader.proofs.Causes.{gives_no_end, gives_two_names, gives_no_name, gives_no_label, gives_no_main, gives_too_many, gives_none}
use Rattle.program_reader.proofs.reader.Reader.fault.Goals as goal

pub returns-then-stays_open : goal.returns-then-stays_open
returns-then-stays_open c =
    gives_no_end c.args.outline.now (spot_in c.args.outline.now c.args.self.now c.args.last) c.args.head (words_of c.args.rest.now) c.args.sense.now
    (sym c.misplaced.ensures ∙ c.if-misplaced.false)
    (sym c.wrong_operand.ensures ∙ c.if-wrong_operand.false)
    (sym (c.stays_open.ensures c.args.outline.now) ∙ c.if-stays_open.true)

pub returns-then-is_again : goal.returns-then-is_again
returns-then-is_again c =
    gives_two_names c.args.outline.now (spot_in c.args.outline.now c.args.self.now c.args.last) c.args.head (words_of c.args.rest.now) c.args.sense.now
    (sym c.misplaced.ensures ∙ c.if-misplaced.false)
    (sym c.wrong_operand.ensures ∙ c.if-wrong_operand.false)
    (sym (c.stays_open.ensures c.args.outline.now) ∙ c.if-stays_open.false)
    (sym (c.is_again.ensures c.args.last) ∙ c.if-is_again.true)

pub returns-then-no_function : goal.returns-then-no_function
returns-then-no_function c =
    gives_no_name c.args.outline.now (spot_in c.args.outline.now c.args.self.now c.args.last) c.args.head (words_of c.args.rest.now) c.args.sense.now
    (sym c.misplaced.ensures ∙ c.if-misplaced.false)
    (sym c.wrong_operand.ensures ∙ c.if-wrong_operand.false)
    (sym (c.stays_open.ensures c.args.outline.now) ∙ c.if-stays_open.false)
    (sym (c.is_again.ensures c.args.last) ∙ c.if-is_again.false)
    (sym c.no_function.ensures ∙ c.if-no_function.true)

pub returns-then-no_label : goal.returns-then-no_label
returns-then-no_label c =
    gives_no_label c.args.outline.now (spot_in c.args.outline.now c.args.self.now c.args.last) c.args.head (words_of c.args.rest.now) c.args.sense.now
    (sym c.misplaced.ensures ∙ c.if-misplaced.false)
    (sym c.wrong_operand.ensures ∙ c.if-wrong_operand.false)
    (sym (c.stays_open.ensures c.args.outline.now) ∙ c.if-stays_open.false)
    (sym (c.is_again.ensures c.args.last) ∙ c.if-is_again.false)
    (sym c.no_function.ensures ∙ c.if-no_function.false)
    (sym c.no_label.ensures ∙ c.if-no_label.true)

pub returns-then-main_is_missing : goal.returns-then-main_is_missing
returns-then-main_is_missing c =
    gives_no_main c.args.outline.now (spot_in c.args.outline.now c.args.self.now c.args.last) c.args.head (words_of c.args.rest.now) c.args.sense.now
    (sym c.misplaced.ensures ∙ c.if-misplaced.false)
    (sym c.wrong_operand.ensures ∙ c.if-wrong_operand.false)
    (sym (c.stays_open.ensures c.args.outline.now) ∙ c.if-stays_open.false)
    (sym (c.is_again.ensures c.args.last) ∙ c.if-is_again.false)
    (sym c.no_function.ensures ∙ c.if-no_function.false)
    (sym c.no_label.ensures ∙ c.if-no_label.false)
    (sym c.main_is_missing.ensures ∙ c.if-main_is_missing.true)

pub returns-then-passes_limit : goal.returns-then-passes_limit
returns-then-passes_limit c =
    gives_too_many c.args.outline.now (spot_in c.args.outline.now c.args.self.now c.args.last) c.args.head (words_of c.args.rest.now) c.args.sense.now
    (sym c.misplaced.ensures ∙ c.if-misplaced.false)
    (sym c.wrong_operand.ensures ∙ c.if-wrong_operand.false)
    (sym (c.stays_open.ensures c.args.outline.now) ∙ c.if-stays_open.false)
    (sym (c.is_again.ensures c.args.last) ∙ c.if-is_again.false)
    (sym c.no_function.ensures ∙ c.if-no_function.false)
    (sym c.no_label.ensures ∙ c.if-no_label.false)
    (sym c.main_is_missing.ensures ∙ c.if-main_is_missing.false)
    (sym (c.passes_limit.ensures c.args.outline.now c.args.last) ∙ c.if-passes_limit.true)

pub returns-else-passes_limit : goal.returns-else-passes_limit
returns-else-passes_limit c =
    gives_none c.args.outline.now (spot_in c.args.outline.now c.args.self.now c.args.last) c.args.head (words_of c.args.rest.now) c.args.sense.now
    (sym c.misplaced.ensures ∙ c.if-misplaced.false)
    (sym c.wrong_operand.ensures ∙ c.if-wrong_operand.false)
    (sym (c.stays_open.ensures c.args.outline.now) ∙ c.if-stays_open.false)
    (sym (c.is_again.ensures c.args.last) ∙ c.if-is_again.false)
    (sym c.no_function.ensures ∙ c.if-no_function.false)
    (sym c.no_label.ensures ∙ c.if-no_label.false)
    (sym c.main_is_missing.ensures ∙ c.if-main_is_missing.false)
    (sym (c.passes_limit.ensures c.args.outline.now c.args.last) ∙ c.if-passes_limit.false)
