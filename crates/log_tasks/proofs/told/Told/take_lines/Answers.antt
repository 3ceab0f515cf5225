use Rattle.log_tasks.proofs.Common.{◌≡◌, ◌∙◌, ◌||◌, ℕ, Bool, true, false, List, refl, sym, Bor, at_some}
use Rattle.log_tasks.proofs.Lines.{ends_next, tasks_next, first_told, rest_told}
use Rattle.log_tasks.proofs.told.Told.take_lines.Goals as goal

-- one of two, each of which leads to it
by_either : (P : Type 0) (a b r : Bool) → r ≡ (a || b) → (a ≡ true → P) → (b ≡ true → P) → r ≡ true → P
by_either P true b r e f g t = f refl
by_either P false b r e f g t = g (sym e ∙ t)

pub lines-preserved : goal.lines-preserved
lines-preserved c =
    let e = at_some (λ (r : Bor (List ℕ)). r.now) c.next_line.result.1 c.lines.left.now c.next_line.result.0.now c.in-Some.rest c.in-Some.is c.next_line.ensures.lines in
    record {
      all = λ t i. ends_next c.lines.self c.take_line.new.self c.args.strand c.lines.left.now c.next_line.result.0.now c.in-Some.rest.now e c.in_ok-here.ensures.ends t i ∙ c.lines.invariant.all t i;
      tasks = λ t. tasks_next c.lines.self c.take_line.new.self c.args.strand c.lines.left.now c.next_line.result.0.now c.in-Some.rest.now e c.in_ok-here.ensures.tasks t ∙ c.lines.invariant.tasks t;
      tops = c.in_ok-here.ensures.tops ∙ c.lines.invariant.tops;
      told =
          by_either _ c.lines.ends c.in_ok-here.here c.either-ends.result c.either-ends.ensures c.lines.invariant.told
          (λ t. c.lines.invariant.rest (first_told (λ (r : Bor (List ℕ)). r.now) c.next_line.result.1 c.lines.left.now c.next_line.result.0.now c.next_line.ensures.lines (c.in_ok-here.ensures.told t)));
      rest = λ t. c.lines.invariant.rest (rest_told c.lines.left.now c.next_line.result.0.now c.in-Some.rest.now e t);
    }
