use Rattle.log_refusals.proofs.Common.{◌≡◌, ◌∙◌, ◌+◌, ◌^◌, ◌≤◌, length, arith, List, ℕ, Bor, sym, ap, subst, fold, option_map, GraphStrand, line_of, position, placed_said, later_of, open_strand, IsUpTo}
use Rattle.log_refusals.proofs.Lines.{at_some, at_none, found_next, found_last}
use Rattle.log_refusals.proofs.search.Search.take_text.Goals as goal

pub lines-preserved : goal.lines-preserved
lines-preserved c =
    let line = c.next_line.result.0.now in
    let e = at_some (λ (r : Bor (List ℕ)). r.now) c.next_line.result.1 c.lines.left.now line c.in-Some.rest c.in-Some.is c.next_line.ensures.lines in
    let here = option_map open_strand c.lines.self.here in
    let n : 2 ^ 31 + c.lines.line + 1 ≡ 2 ^ 31 + (c.lines.line + 1) = omega arith in
    record {
      found =
          found_next c.args.self.now.strand c.args.file here c.lines.line c.lines.left.now line c.in-Some.rest.now c.lines.self.found c.take_line.new.self.found _ e
          (c.take_line.ensures.found ∙ ap (λ (u : GraphStrand). fold (later_of u) c.lines.self.found (placed_said (position c.args.file c.lines.line) here (line_of line))) c.lines.invariant.strand)
          c.take_line.ensures.here
          ∙ c.lines.invariant.found;
      strand = c.take_line.ensures.strand ∙ c.lines.invariant.strand;
      below = subst (λ k. IsUpTo k c.take_line.new.self.here) n (c.take_line.ensures.next (2 ^ 31 + c.lines.line) (omega arith) c.lines.invariant.below);
      count = (let m = rw c.in-Some.is at c.next_line.ensures.shorter in omega (arith, m, c.lines.invariant.count));
    }
