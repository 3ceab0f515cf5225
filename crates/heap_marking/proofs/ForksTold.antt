-- What the shared value says of forks and markings, before the run's end.
use Rattle.heap_marking.proofs.Common.{◌≡◌, ℕ, ◌<◌, ◌&&◌, not, Bool, true, false, Option, Some, None, option_map, slice_get, inl, inr, refl, ap, sym, subst, ◌∙◌, ◌-◌, ◌^◌, arith, is_some, is_none, nat_le, ap₂, false≢true, both_ways, and_parts, cases_lt, le-leb, false_from_ne_true, none_is, TaskStatus, Running, Waiting, Ended, Joined, MachineState, is_joined, is_over, is_waiting, joined, parents, waiting, field_limit, EntryValue, Ledger, NotMarking, NotWaiting, Swept, after, refused_unless, heap_of, words_in, ledger_of, tasks_of, machine_is_run, legal_sound, saturating_words, TaskNode, state_of as state_in, StandsFor, state_by, or_else, Enters, IsSharedValue, SharedValue, accounts, marks_at, noted_in, tree_counts_of, value_of, accounts_then, node_now, stands_now, parent_is, option_is, marking_cause, waiting_cause, IsForkIn, IsForkOf, KeepsPace, PacesStay, is_going, is_live_child, is_state_joined, is_to_begin}
use Rattle.heap_marking.specs.declared.pace.Fork.{Fork}
use Rattle.heap_marking.proofs.ForksStay.{entry_moves}
use Rattle.heap_marking.proofs.MarkCauses.{marked_by, waits_told}
use Rattle.heap_marking.proofs.PaceKeeps.{child_from, child_tells, fork_from, keeps_moves, lives_below}
use Rattle.heap_marking.proofs.StepsKeepForks.{runs_have_live}

-- JOINED TASKS
by_status : (s : TaskStatus) (o : Option ℕ) → is_state_joined (Some (state_by s o)) ≡ is_over s
by_status Running None = refl
by_status Running (Some w) = refl
by_status Waiting o = refl
by_status (Ended n r) o = refl
by_status Joined o = refl

free_by : (a k s : Bool) → k ≡ (a && not s) → is_none (refused_unless a NotWaiting (refused_unless k Swept None)) ≡ (a && not s)
free_by false k s e = refl
free_by true k s e = is_free k ∙ e
  where
    is_free : (k : Bool) → is_none (refused_unless k Swept None) ≡ k
    is_free true = refl
    is_free false = refl

counted_le : (a n : ℕ) → a < 2 ^ 32 → nat_le a (saturating_words n) ≡ nat_le a n
counted_le a n few = elim (cases_lt n (2 ^ 64 - 1)) [
  | inl lt ↦ ap (nat_le a) (let q : saturating_words n ≡ n = omega (arith, lt) in q)
  | inr ge ↦ le-leb a (saturating_words n) (omega (arith, ge, few)) ∙ sym (le-leb a n (omega (arith, few, ge)))
]

module _ (w : SharedValue) (I : IsSharedValue w) (on : (accounts w).end ≡ None) where
  abbrev l : Ledger
  l = accounts w

  abbrev S : StandsFor (value_of w) (tree_counts_of w) l
  S = stands_now w I on

  pub joined_is : (t : ℕ) → is_state_joined (state_in w.tree t) ≡ joined l.machine.tasks t
  joined_is t = node_now w I (λ n x. is_state_joined (option_map (λ (m : TaskNode). m.state) n) ≡ is_joined x) refl (λ x worker. by_status x.status worker) t

  keeps_is : (t : ℕ) → (noted_in (slice_get w.sets t)).keeps ≡ (is_waiting (slice_get l.machine.tasks t) && not (heap_of l t).swept)
  keeps_is t = S.keeps t

  marked_is : (t : ℕ) → (noted_in (slice_get w.sets t)).keeps ≡ true → is_some (heap_of l t).marked ≡ is_some (marks_at w.marks t)
  marked_is t k = marked_by (value_of w) l t (marks_at w.marks t) (S.marks t k)

  pub free_is : (t : ℕ) → is_none (waiting_cause w t) ≡ (is_waiting (slice_get l.machine.tasks t) && not (heap_of l t).swept)
  free_is t =
      ap (λ a. is_none (refused_unless a NotWaiting (refused_unless (noted_in (slice_get w.sets t)).keeps Swept None))) (waits_told w I t)
      ∙ free_by (is_waiting (slice_get l.machine.tasks t)) (noted_in (slice_get w.sets t)).keeps (heap_of l t).swept (keeps_is t)

  -- THE MARKING after a fork
  pub joined_stops : (f : Fork) → joined l.machine.tasks f.left ≡ true → is_going l f ≡ false
  joined_stops f j = ap (λ b. not b && (is_waiting (slice_get l.machine.tasks f.task) && not (heap_of l f.task).swept)) j

  pub goes_free : (f : Fork) → joined l.machine.tasks f.left ≡ false → is_going l f ≡ is_none (waiting_cause w f.task)
  goes_free f j = ap (λ b. not b && (is_waiting (slice_get l.machine.tasks f.task) && not (heap_of l f.task).swept)) j ∙ sym (free_is f.task)

  going_parts : (f : Fork) → is_going l f ≡ true → (not (joined l.machine.tasks f.left) ≡ true) × ((is_waiting (slice_get l.machine.tasks f.task) && not (heap_of l f.task).swept) ≡ true)
  going_parts f on = and_parts (not (joined l.machine.tasks f.left)) (is_waiting (slice_get l.machine.tasks f.task) && not (heap_of l f.task).swept) on

  pub going_free : (f : Fork) → is_going l f ≡ true → waiting_cause w f.task ≡ None
  going_free f on = none_is (waiting_cause w f.task) (free_is f.task ∙ (going_parts f on).1)

  going_keeps : (f : Fork) → is_going l f ≡ true → (noted_in (slice_get w.sets f.task)).keeps ≡ true
  going_keeps f on = keeps_is f.task ∙ (going_parts f on).1

  -- that goes on
  pub marked_free : (f : Fork) → is_going l f ≡ true → is_some (heap_of l f.task).marked ≡ true → marking_cause w f.task ≡ None
  marked_free f on m =
      ap (λ o. or_else o (refused_unless (is_some (marks_at w.marks f.task)) NotMarking None)) (going_free f on)
      ∙ ap (λ b. refused_unless b NotMarking None) (sym (marked_is f.task (going_keeps f on)) ∙ m)

  -- that is to begin
  stops_by : (j a s m n : Bool) → (not j && (a && not s)) ≡ false → (not j && (a && ((m && not s) && n))) ≡ false
  stops_by true a s m n e = refl
  stops_by false false s m n e = refl
  stops_by false true false m n e = absurd (false≢true (sym e))
  stops_by false true true false n e = refl
  stops_by false true true true n e = refl

  pub begin_stops : (f : Fork) → is_going l f ≡ false → is_to_begin w.settings l f ≡ false
  begin_stops f off = stops_by (joined l.machine.tasks f.left) (is_waiting (slice_get l.machine.tasks f.task)) (heap_of l f.task).swept (is_none (heap_of l f.task).marked) (nat_le w.settings.inner (words_in l.machine (heap_of l f.task))) off

  begins_by : (j a s m n : Bool) → (not j && (a && not s)) ≡ true → (not j && (a && ((m && not s) && n))) ≡ (m && n)
  begins_by true a s m n e = absurd (false≢true e)
  begins_by false false s m n e = absurd (false≢true e)
  begins_by false true true m n e = absurd (false≢true e)
  begins_by false true false true n e = refl
  begins_by false true false false n e = refl

  not_some : (o : Option ℕ) → is_none o ≡ not (is_some o)
  not_some None = refl
  not_some (Some k) = refl

  begins_with : (f : Fork) → is_going l f ≡ true → is_to_begin w.settings l f ≡ (not (is_some (marks_at w.marks f.task)) && nat_le w.settings.inner (words_in l.machine (heap_of l f.task)))
  begins_with f on =
      begins_by (joined l.machine.tasks f.left) (is_waiting (slice_get l.machine.tasks f.task)) (heap_of l f.task).swept (is_none (heap_of l f.task).marked) (nat_le w.settings.inner (words_in l.machine (heap_of l f.task))) on
      ∙ ap (λ b. b && nat_le w.settings.inner (words_in l.machine (heap_of l f.task))) (not_some (heap_of l f.task).marked ∙ ap not (marked_is f.task (going_keeps f on)))

  pub begin_marked : (f : Fork) → is_going l f ≡ true → is_some (marks_at w.marks f.task) ≡ true → is_to_begin w.settings l f ≡ false
  begin_marked f on m = begins_with f on ∙ ap (λ b. not b && nat_le w.settings.inner (words_in l.machine (heap_of l f.task))) m

  pub begin_words : (f : Fork) → is_going l f ≡ true → is_some (marks_at w.marks f.task) ≡ false → is_to_begin w.settings l f ≡ nat_le w.settings.inner (words_in l.machine (heap_of l f.task))
  begin_words f on m = begins_with f on ∙ ap (λ b. not b && nat_le w.settings.inner (words_in l.machine (heap_of l f.task))) m

  -- the words saturate at 64 bits
  pub begin_counted : (f : Fork) → is_going l f ≡ true → is_some (marks_at w.marks f.task) ≡ false → is_to_begin w.settings l f ≡ nat_le w.settings.inner (saturating_words (words_in l.machine (heap_of l f.task)))
  begin_counted f on m = begin_words f on m ∙ sym (counted_le w.settings.inner (words_in l.machine (heap_of l f.task)) (let h = I.settings.inner.1 in omega (arith, h)))

  -- THE FORK on which a task waits
  child_is : (t c : ℕ) → is_live_child w.tree t c ≡ lives_below l.machine.tasks t c
  child_is t c = ap₂ (λ o j. option_is o t && not j) (parent_is w I c) (joined_is c)

  live_waits : (t c : ℕ) → lives_below l.machine.tasks t c ≡ true → IsForkOf l t (Some (record { task = t; left = c })) (slice_get l.machine.tasks t)
  live_waits t c h = let q = child_tells l.machine.tasks t c h in fork_from l t c q.0 q.1 ((legal_sound w.program w.settings w.journal.items I.legal).fork_join.tree.waits c t q.0 q.1)

  has_live : (t : ℕ) → is_waiting (slice_get l.machine.tasks t) ≡ true → (c : ℕ) × (lives_below l.machine.tasks t c ≡ true)
  has_live t q =
      let c = subst (λ (m : MachineState). waiting m.tasks t ≡ true → (c : ℕ) × (parents m.tasks c ≡ Some t) × (joined m.tasks c ≡ false)) (sym (machine_is_run w.program w.settings w.journal.items))
      (runs_have_live w.program (field_limit w.settings.version) (tasks_of w.journal.items) t) q in
      (c.0, child_from l.machine.tasks t c.0 c.1 c.2)

  pub fork_is : (t : ℕ) (o : Option Fork) → IsForkIn w.tree t o → IsForkOf l t o (slice_get l.machine.tasks t)
  fork_is t None none =
      false_from_ne_true (is_waiting (slice_get l.machine.tasks t))
      (λ q. let c = has_live t q in both_ways (lives_below l.machine.tasks t c.0) (sym (child_is t c.0) ∙ none (waits_told w I t ∙ q) c.0) c.1)
  fork_is t (Some f) h = subst (λ u. IsForkOf l t (Some (record { task = u; left = f.left })) (slice_get l.machine.tasks t)) (sym h.0) (live_waits t f.left (sym (child_is t f.left) ∙ h.1))

-- THE LAW
pub entered_accounts : (w w' : SharedValue) (e : EntryValue) → Enters w w' e → accounts w' ≡ after w.program w.settings (accounts w) e
entered_accounts w w' e E =
    ap (λ p. ledger_of p w'.settings w'.journal.items) E.program
    ∙ (ap (λ s. ledger_of w.program s w'.journal.items) E.settings
    ∙ (ap (λ j. ledger_of w.program w.settings j) E.journal ∙ accounts_then w.program w.settings w.journal.items e))

pub paces_stay : PacesStay
paces_stay w w' e q x I E free K =
    subst (λ l. KeepsPace l q x) (sym (entered_accounts w w' e E))
    (keeps_moves (accounts w) (after w.program w.settings (accounts w) e) (entry_moves w.program w.settings (accounts w) e (legal_sound w.program w.settings w.journal.items I.legal) free) q x K)
