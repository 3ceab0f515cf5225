use Rattle.program_reader.proofs.Common.{◌<◌, ◌≡◌, ◌≤◌, ◌+◌, ◌-◌, length, drop, take, ap, arith, ◌∙◌, length-drop, outline_line}
use Rattle.program_reader.proofs.Outlines.{outline_more, outline_last, short_more, short_small}
use Rattle.program_reader.proofs.sense.Outline.add_lines.Goals as goal

pub returns-then-end-rest : goal.returns-then-end-rest
returns-then-end-rest c =
    let line = take c.line_end-end.result c.loop-rest.rest.now in
    let next : c.add_line.new.self ≡ outline_line c.loop-rest.number c.loop-rest.self line = c.in_ok-add_line.ensures in
    let counted : c.loop-rest.number ≡ c.loop-rest.number - 1 + 1 = omega (arith, c.loop-rest.invariant.counted) in
    let short = short_more c.loop-rest.self c.add_line.new.self (c.loop-rest.number - 1) c.loop-rest.number c.loop-rest.number line next counted c.loop-rest.invariant.short in
    let fits : c.loop-rest.number ≤ 16777217 = omega (arith, c.loop-rest.invariant.above, c.requires.sized) in
    record {
      value = next ∙ outline_last c.loop-rest.self c.loop-rest.number c.line_end-end.result c.loop-rest.rest.now c.line_end-end.ensures.end c.if-end-rest.true ∙ c.loop-rest.invariant.value;
      small = short_small c.add_line.new.self c.loop-rest.number short fits;
    }

pub loop-rest-preserved : goal.loop-rest-preserved
loop-rest-preserved c =
    let line = take c.line_end-end.result c.loop-rest.rest.now in
    let lt : c.line_end-end.result < length c.loop-rest.rest.now = omega (arith, c.line_end-end.ensures.within, c.if-end-rest.false) in
    let len : length c.behind-rest.result.now ≡ length (drop (c.line_end-end.result + 1) c.loop-rest.rest.now) = ap length c.behind-rest.ensures in
    let next : c.add_line.new.self ≡ outline_line c.loop-rest.number c.loop-rest.self line = c.in_ok-add_line.ensures in
    let counted : c.loop-rest.number + 1 - 1 ≡ c.loop-rest.number - 1 + 1 = omega (arith, c.loop-rest.invariant.counted) in
    record {
      value = rw (c.behind-rest.ensures, next) (outline_more c.loop-rest.self c.loop-rest.number c.line_end-end.result c.loop-rest.rest.now c.line_end-end.ensures.end lt ∙ c.loop-rest.invariant.value);
      above = grind (arith, len, lt, length-drop, c.loop-rest.invariant.above);
      short = short_more c.loop-rest.self c.add_line.new.self (c.loop-rest.number - 1) c.loop-rest.number (c.loop-rest.number + 1 - 1) line next counted c.loop-rest.invariant.short;
      counted = omega arith;
    }
