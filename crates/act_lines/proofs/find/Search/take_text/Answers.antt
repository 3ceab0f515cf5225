use Rattle.act_lines.proofs.Common.{◌≡◌, ◌+◌, ◌++◌, ◌∙◌, ℕ, ap, sym, Option, IfSome, List, Bor, length, subst, arith, append_assoc, line_of, LogPosition, lines_in, ActLine, act_line_at, act_lines_from, HasFound}
use Rattle.act_lines.proofs.Searching.{all_before}
use Rattle.act_lines.proofs.Lines.{lines_next, acts_next}
use Rattle.act_lines.proofs.find.Search.take_text.Goals as goal

pub returns-then-len-numbers : goal.returns-then-len-numbers
returns-then-len-numbers c = λ seen h.
    let d = c.lines.invariant.done in
    let rest = act_lines_from c.args.file c.lines.line (lines_in c.lines.left.now) in
    subst (λ (ls : List ActLine). HasFound c.args.numbers.now ls c.lines.self)
    (append_assoc seen d.0 rest ∙ ap (λ (ls : List ActLine). seen ++ ls) d.1)
    (all_before c.args.numbers.now (seen ++ d.0) rest c.lines.self (d.2 seen h) (sym c.len.ensures ∙ c.if-len-numbers.true))

pub lines-preserved : goal.lines-preserved
lines-preserved c =
    let at : LogPosition = record { file = c.args.file; line = c.lines.line } in
    let now = act_line_at at (line_of c.next_line.result.0.now) in
    let d = c.lines.invariant.done in
    let e = lines_next (λ (r : Bor (List ℕ)). r.now) c.next_line.result.1 c.lines.left.now c.next_line.result.0.now c.in-Some.rest c.in-Some.is c.next_line.ensures.lines in
    let s = c.lines.invariant.search in
    record {
      search = (s.0 ++ now, c.in_ok-take_line-in-Some.ensures s.0 s.1);
      few = (let l = subst (λ (o : Option (Bor (List ℕ))). IfSome o (λ r. length c.next_line.result.0.now + 1 + length r.now ≡ length c.lines.left.now)) c.in-Some.is c.next_line.ensures.shorter in omega (arith, l, c.lines.invariant.few));
      done = (
        d.0 ++ now,
        acts_next c.args.file c.lines.line (act_lines_from c.args.file 1 (lines_in c.args.text.now)) d.0 (lines_in c.lines.left.now) c.next_line.result.0.now (lines_in c.in-Some.rest.now) e d.1,
        λ seen h. subst (λ (ls : List ActLine). HasFound c.args.numbers.now ls c.take_line.new.self) (append_assoc seen d.0 now) (c.in_ok-take_line-in-Some.ensures (seen ++ d.0) (d.2 seen h)),
      );
    }
