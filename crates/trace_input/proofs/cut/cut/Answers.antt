use Rattle.trace_input.proofs.Common.{◌≡◌, ◌+◌, ◌≤◌, ◌∷◌, length, false, arith, sym, ◌∙◌, lines_of, is_trace_line}
use Rattle.trace_input.proofs.Cuts.{counted_more, traced_more, fed_more, parts_more}
use Rattle.trace_input.proofs.cut.cut.Goals as goal

pub loop-lines-preserved : goal.loop-lines-preserved
loop-lines-preserved c =
    let input = c.args.input.now in
    let rest = c.loop-lines.rest.now in
    let below = c.in-Some.below.now in
    let line = c.next_line.result.0.now in
    let lines : lines_of rest ≡ line ∷ lines_of below = rw c.in-Some.is at c.next_line.ensures.lines in
    let short : length line + 1 + length below ≡ length rest = rw c.in-Some.is at c.next_line.ensures.shorter in
    let no : is_trace_line line ≡ false = sym c.begins_trace.ensures ∙ c.if-begins_trace.false in
    let i = c.loop-lines.invariant in
    let w : c.loop-lines.number + length rest ≤ length input + 1 = i.within in
    record {
      counted = i.counted ∙ counted_more input rest line below lines no c.loop-lines.number;
      traced = i.traced ∙ traced_more input rest line below lines no;
      fed = fed_more input rest line below lines no i.parts _ i.fed;
      parts = parts_more input rest line below lines no i.parts;
      within = omega (arith, w, short);
    }
