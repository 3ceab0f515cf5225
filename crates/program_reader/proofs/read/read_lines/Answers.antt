use Rattle.program_reader.proofs.Common.{◌<◌, ◌≡◌, ◌≤◌, ◌+◌, false, length, drop, take, ap, arith, sym, subst, ◌∙◌, eq-eqb, nat_eq, Option, Some, None, IfNone, length-drop, ne_eqb, lines_of, Cause, line_taken}
use Rattle.program_reader.proofs.Endings.{refuses, goes_on, form, done, faultless}
use Rattle.program_reader.proofs.Rounds.{IsReading, at_first}
use Rattle.program_reader.proofs.read.read_lines.Goals as goal

if_none : (f : Option Cause) (P : Type 0) → f ≡ None → IfNone f P → P
if_none None P e h = h
if_none (Some x) P e h = absurd (cc)

pub loop-cause-init : goal.loop-cause-init
loop-cause-init c = record {
  reading = subst (λ r. IsReading c.args.outline.now c.args.text.now r 1 (lines_of c.args.text.now)) (sym c.requires.nothing) (at_first c.args.text.now c.args.outline.now c.requires.outline);
  fits = omega arith;
}

pub returns-in-Some-clause-fault : goal.returns-in-Some-clause-fault
returns-in-Some-clause-fault c =
    let fault = sym c.in_ok-cause.ensures.fault ∙ c.in-Some.is in
    sym (refuses c.args.outline.now c.args.text.now c.loop-cause.reader c.loop-cause.number c.line_end-end.result c.loop-cause.rest.now (nat_eq c.line_end-end.result (length c.loop-cause.rest.now)) c.loop-cause.invariant.reading c.line_end-end.ensures.end c.line_end-end.ensures.within (λ j. nat_eq c.line_end-end.result (length c.loop-cause.rest.now)) c.in-Some.cause fault)

pub returns-in-None : goal.returns-in-None
returns-in-None c =
    let line = take c.line_end-end.result c.loop-cause.rest.now in
    let below : lines_of c.behind-below.result.now ≡ lines_of (drop (c.line_end-end.result + 1) c.loop-cause.rest.now) = ap lines_of c.behind-below.ensures in
    let fault = sym c.in_ok-cause.ensures.fault ∙ c.in-None.is in
    let first : c.read_line.new.self ≡ line_taken c.args.outline.now c.loop-cause.reader c.loop-cause.number line (lines_of c.behind-below.result.now) = if_none c.in_ok-cause.field-0 _ c.in-None.is c.in_ok-cause.ensures.taken in
    let taken = first ∙ ap (line_taken c.args.outline.now c.loop-cause.reader c.loop-cause.number line) below in
    let few : c.loop-cause.number ≤ 16777217 = omega (arith, c.loop-cause.invariant.fits, c.requires.sized) in
    let at_end = eq-eqb c.line_end-end.result (length c.loop-cause.rest.now) c.if-last.true in
    record {
      fault = faultless c.args.outline.now c.args.text.now c.loop-cause.reader c.loop-cause.number c.line_end-end.result c.loop-cause.rest.now (nat_eq c.line_end-end.result (length c.loop-cause.rest.now)) c.loop-cause.invariant.reading c.line_end-end.ensures.end c.line_end-end.ensures.within (λ j. nat_eq c.line_end-end.result (length c.loop-cause.rest.now)) c.read_line.new.self few fault taken at_end;
      form = form c.args.outline.now c.args.text.now c.loop-cause.reader c.loop-cause.number c.line_end-end.result c.loop-cause.rest.now (nat_eq c.line_end-end.result (length c.loop-cause.rest.now)) c.loop-cause.invariant.reading c.line_end-end.ensures.end c.line_end-end.ensures.within (λ j. nat_eq c.line_end-end.result (length c.loop-cause.rest.now)) c.read_line.new.self few fault taken at_end c.requires.small;
      functions = done c.args.outline.now c.args.text.now c.loop-cause.reader c.loop-cause.number c.line_end-end.result c.loop-cause.rest.now (nat_eq c.line_end-end.result (length c.loop-cause.rest.now)) c.loop-cause.invariant.reading c.line_end-end.ensures.end c.line_end-end.ensures.within (λ j. nat_eq c.line_end-end.result (length c.loop-cause.rest.now)) c.read_line.new.self few fault taken at_end;
    }

pub loop-cause-preserved : goal.loop-cause-preserved
loop-cause-preserved c =
    let line = take c.line_end-end.result c.loop-cause.rest.now in
    let below : lines_of c.behind-below.result.now ≡ lines_of (drop (c.line_end-end.result + 1) c.loop-cause.rest.now) = ap lines_of c.behind-below.ensures in
    let len : length c.behind-below.result.now ≡ length (drop (c.line_end-end.result + 1) c.loop-cause.rest.now) = ap length c.behind-below.ensures in
    let lt : c.line_end-end.result < length c.loop-cause.rest.now = omega (arith, c.line_end-end.ensures.within, c.if-last.false) in
    let fault = sym c.in_ok-cause.ensures.fault ∙ c.in-None.is in
    let first : c.read_line.new.self ≡ line_taken c.args.outline.now c.loop-cause.reader c.loop-cause.number line (lines_of c.behind-below.result.now) = if_none c.in_ok-cause.field-0 _ c.in-None.is c.in_ok-cause.ensures.taken in
    let taken = first ∙ ap (line_taken c.args.outline.now c.loop-cause.reader c.loop-cause.number line) below in
    let few : c.loop-cause.number ≤ 16777217 = omega (arith, c.loop-cause.invariant.fits, c.requires.sized) in
    record {
      reading = subst (IsReading c.args.outline.now c.args.text.now c.read_line.new.self (c.loop-cause.number + 1)) (sym below)
          (goes_on c.args.outline.now c.args.text.now c.loop-cause.reader c.loop-cause.number c.line_end-end.result c.loop-cause.rest.now (nat_eq c.line_end-end.result (length c.loop-cause.rest.now)) c.loop-cause.invariant.reading c.line_end-end.ensures.end c.line_end-end.ensures.within (λ j. nat_eq c.line_end-end.result (length c.loop-cause.rest.now)) c.read_line.new.self few fault taken (ne_eqb c.line_end-end.result (length c.loop-cause.rest.now) c.if-last.false));
      fits = grind (arith, len, lt, length-drop, c.loop-cause.invariant.fits);
    }
