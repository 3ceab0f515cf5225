-- After lines without a fault each task stands once, after its parent.
use Rattle.image_check.proofs.Common.{◌≡◌, ◌∙◌, ℕ, Bool, true, false, cond, List, [], ◌∷◌, refl, ap, sym, Option, Some, None, not-false, ImageTask, ImageLine, Nothing, Wrong, Title, OfTask, OfChunk, OfObject, OfRemembered, OfEnd, Read, Whole, NoTask, line_meaning, has, nothing_read, after_line, lacks_parent, cause_on, after_lines, AreClear, TasksAreRelated}
use Rattle.image_check.proofs.Paths.{AreOrdered, task_more, ordered_more, related}
use Rattle.image_check.proofs.Steps.{formed, cond_none}

none_yet : AreOrdered []
none_yet = record { apart = λ i j e f g h s. absurd cc; behind = λ i e p g h. absurd cc }

parent_there : (r : Read) (m : Option ℕ) (q : ℕ) → lacks_parent r m ≡ false → m ≡ Some q → has r.tasks q ≡ true
parent_there r None q e h = absurd cc
parent_there r (Some p) q e h = let s : p ≡ q = cc in ap (has r.tasks) (sym s) ∙ not-false (has r.tasks p) e

task_by : (r : Read) (t : ImageTask) → AreOrdered r.tasks → lacks_parent r t.parent ≡ false → (b : Bool) → has r.tasks t.number ≡ b → AreOrdered (cond b r.tasks (task_more r.tasks t.number t))
task_by r t o e true h = o
task_by r t o e false h = ordered_more r.tasks t.number t o h (λ q g. parent_there r t.parent q e g)

line_ordered : (w : Whole) (r : Read) (s : ImageLine) → AreOrdered r.tasks → cause_on w r false s ≡ None → AreOrdered (after_line r s).tasks
line_ordered w r Nothing o e = o
line_ordered w r Wrong o e = o
line_ordered w r Title o e = o
line_ordered w r (OfTask t) o e = task_by r t o (cond_none (lacks_parent r t.parent) NoTask None (formed w r false (OfTask t) e).1).0 (has r.tasks t.number) refl
line_ordered w r (OfChunk c) o e = o
line_ordered w r (OfObject x) o e = o
line_ordered w r (OfRemembered f) o e = o
line_ordered w r (OfEnd n) o e = o

lines_ordered : (w : Whole) (r : Read) (ls : List (List ℕ)) → AreOrdered r.tasks → AreClear w r ls → AreOrdered (after_lines r ls).tasks
lines_ordered w r [] o h = o
lines_ordered w r (l ∷ ls) o h = lines_ordered w (after_line r (line_meaning l)) ls (line_ordered w r (line_meaning l) o h.0) h.1

pub tasks_are_related : TasksAreRelated
tasks_are_related w ls h t u = related (after_lines nothing_read ls).tasks (lines_ordered w nothing_read ls none_yet h) t u
