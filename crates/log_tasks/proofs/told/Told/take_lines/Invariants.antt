use Rattle.log_tasks.proofs.Common.{◌≡◌, ℕ, true, length, ◌||◌, list_any, spawns, acts_in, first_end, is_told, end_after, task_told}
use Rattle.log_tasks.proofs.told.Told.take_lines.Given as goal

abbrev pub invariant-lines : goal.invariant-lines
invariant-lines l = record {
  all : (t i : ℕ) → end_after l.self l.strand (first_end (acts_in l.left)) t i ≡ end_after l.fn.self l.strand (first_end (acts_in l.fn.text)) t i;
  tasks : (t : ℕ) → (task_told l.self t || list_any (spawns t) (acts_in l.left)) ≡ (task_told l.fn.self t || list_any (spawns t) (acts_in l.fn.text));
  tops : l.self.tops ≡ l.fn.self.tops;
  told : l.ends ≡ true → is_told (acts_in l.fn.text) ≡ true;
  rest : is_told (acts_in l.left) ≡ true → is_told (acts_in l.fn.text) ≡ true;
}

abbrev pub decreases-lines : goal.decreases-lines
decreases-lines l = length l.left
