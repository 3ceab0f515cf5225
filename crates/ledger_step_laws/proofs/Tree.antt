-- Ancestors: no task but itself is below a running task.
use Rattle.ledger_step_laws.proofs.Common.{◌≡◌, ℕ, true, false, Some, ◌∷◌, slice_get, length, inl, inr, refl, ap, ◌∙◌, cases_eq, both_ways, Name, TaskStatus, Running, Waiting, Ended, Joined, Task, names_from, task_names, is_waiting, is_joined, is_over, is_on_path, parents, joined, waiting, joins_in, not_above, owner_not_joined, Ledger, SoundLedger, In, own}

module _ (l : Ledger) (S : SoundLedger l) where
  pub own_live : (n : Name) → is_joined (slice_get l.machine.tasks (own l n)) ≡ false
  own_live n = owner_not_joined (length l.machine.tasks) (parents l.machine.tasks) (joined l.machine.tasks) (waiting l.machine.tasks) (joins_in l.machine.tasks) l.machine.edges S.fork_join.tree n.task

  -- a task that doesn't wait is an ancestor of no other live task
  pub leaf_alone : (t u : ℕ) → is_waiting (slice_get l.machine.tasks t) ≡ false → is_joined (slice_get l.machine.tasks u) ≡ false → is_on_path l.machine.tasks t u ≡ true → t ≡ u
  leaf_alone t u w live h = elim (cases_eq t u) [
    | inl e ↦ e
    | inr ne ↦ absurd (both_ways (is_on_path l.machine.tasks t u) (not_above (length l.machine.tasks) (parents l.machine.tasks) (joined l.machine.tasks) (waiting l.machine.tasks) (joins_in l.machine.tasks) l.machine.edges S.fork_join.tree t u live ne w) h)
  ]

  -- a task that holds a name hasn't joined
  pub holder_live : (u : ℕ) (x : Task) (n : Name) → slice_get l.machine.tasks u ≡ Some x → In (task_names x) n → is_joined (slice_get l.machine.tasks u) ≡ false
  holder_live u x n is i = ap is_joined is ∙ holder_live_by_cases x.status i
    where
      holder_live_by_cases : (s : TaskStatus) → In (names_from s (x.top ∷ x.below)) n → is_over s ≡ false
      holder_live_by_cases Running i = refl
      holder_live_by_cases Waiting i = refl
      holder_live_by_cases (Ended k r) i = refl
      holder_live_by_cases Joined i = absurd i
