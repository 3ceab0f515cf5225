-- The record of a worker's entries stays right after entries that keep forks and touched heaps, and is right after one
-- more entry of the worker.
use Rattle.heap_marking.proofs.Common.{◌≡◌, ◌⊎◌, ℕ, ◌<◌, ◌≤◌, ◌==◌, ◌&&◌, not, Bool, true, false, cond, Option, Some, None, List, [], ◌∷◌, ◌++◌, slice_get, inl, inr, refl, ap, sym, subst, ◌∙◌, arith, is_some, eq-eqb, both_ways, and_from, and_parts, eqb-true, not-true, Strand, Task, is_waiting, joined, parents, strand_of, waits, wait_task, Heap, Ledger, Previous, Other as OtherEntry, Forked as ForkedEntry, WorkerPace, heap_of, fork_of, previous_by, waits_on, waits_since, waits_tells as since_tells, Touched, option_is, held_is, Pace, PreviousKind, HasGoneOn, IsForkOf, IsOver, KeepsMarks, KeepsPace, KeepsPrevious, TellsFork, TellsMark, previous_of}
use Rattle.core_invariant.specs.below.run_ledger.{Ran as RanEntry}
use Rattle.heap_marking.specs.declared.pace.Fork.{Fork}
use Rattle.heap_marking.specs.declared.pace.PreviousKind.TheVariants.{Other, Ran, Forked}
use Rattle.heap_marking.proofs.ForksStay.{Moves}

-- WAITING ON A FORK
pub waits_tells : (l : Ledger) (s : Strand) → waits_on l s ≡ true → (x : Task) × (slice_get l.machine.tasks s.task ≡ Some x) × (waits x.status ≡ true) × (x.joins ≡ s.joins)
waits_tells l s h = since_tells (slice_get l.machine.tasks s.task) s.joins h

pub waits_from : (l : Ledger) (s : Strand) (x : Task) → slice_get l.machine.tasks s.task ≡ Some x → waits x.status ≡ true → x.joins ≡ s.joins → waits_on l s ≡ true
waits_from l s x at w j = ap (λ o. waits_since o s.joins) at ∙ and_from (waits x.status) (x.joins == s.joins) w (eq-eqb x.joins s.joins j)

pub gone_waits : (l : Ledger) (s : Strand) → HasGoneOn l s → waits_on l s ≡ false
gone_waits l s g = ap (λ o. waits_since o s.joins) g.1 ∙ gone_waits_by_cases (waits (g.0).status) ((g.0).joins == s.joins) refl
  where
    gone_waits_by_cases : (a b : Bool) → ((g.0).joins == s.joins) ≡ b → (a && b) ≡ false
    gone_waits_by_cases false b e = refl
    gone_waits_by_cases true false e = refl
    gone_waits_by_cases true true e = let q : (g.0).joins ≡ s.joins = eqb-true (g.0).joins s.joins e in let lt : s.joins < (g.0).joins = g.2 in absurd (omega arith)

-- AFTER AN ENTRY
module _ (l l' : Ledger) (M : Moves l l') where
  gone_moves : (s : Strand) → HasGoneOn l s → HasGoneOn l' s
  gone_moves s g = let y = M.grows s.task g.0 g.1 in let lt : s.joins < (g.0).joins = g.2 in let le : (g.0).joins ≤ (y.0).joins = y.2 in (y.0, y.1, omega arith)

  tells_waits : (f : Fork) (s : Strand) → TellsFork l f s → (b : Bool) → joined l.machine.tasks f.left ≡ b → joined l'.machine.tasks f.left ≡ false → waits_on l' s ≡ true
  tells_waits f s T true e n = absurd (both_ways (joined l'.machine.tasks f.left) n (M.tree.stays f.left e))
  tells_waits f s T false e n =
      let q = waits_tells l s (T.waits e) in
      elim (M.tree.goes s.task q.0 q.1 q.2) [ inl g ↦ waits_from l' s q.0 g.0 q.2 q.3 | inr g ↦ absurd (both_ways (joined l'.machine.tasks f.left) n (g.3 f.left T.child)) ]

  tells_past : (f : Fork) (s : Strand) → TellsFork l f s → (b : Bool) → joined l.machine.tasks f.left ≡ b → joined l'.machine.tasks f.left ≡ true → HasGoneOn l' s
  tells_past f s T true e n = gone_moves s (T.past e)
  tells_past f s T false e n =
      let q = waits_tells l s (T.waits e) in
      elim (M.tree.goes s.task q.0 q.1 q.2) [
        | inl g ↦ absurd (both_ways (joined l'.machine.tasks f.left) (g.1 f.left T.child e) n)
        | inr g ↦ (g.0, g.1, let lt : (q.0).joins < (g.0).joins = g.2 in let j : (q.0).joins ≡ s.joins = q.3 in omega arith)
      ]

  pub tells_moves : (f : Fork) (s : Strand) → TellsFork l f s → TellsFork l' f s
  tells_moves f s T = record {
    task = T.task;
    child = M.tree.children s.task f.left T.child;
    waits = tells_waits f s T (joined l.machine.tasks f.left) refl;
    past = tells_past f s T (joined l.machine.tasks f.left) refl;
  }

  -- what was touched while the task waited stays so as long as it waits
  still : (s : Strand) (C : Heap → Type 0) → (waits_on l s ≡ true → C (heap_of l s.task)) → ((x : Task) → slice_get l.machine.tasks s.task ≡ Some x → waits x.status ≡ true → slice_get l'.machine.tasks s.task ≡ Some x → C (heap_of l s.task) → C (heap_of l' s.task))
      → (waits_on l s ≡ true) ⊎ HasGoneOn l s → waits_on l' s ≡ true → C (heap_of l' s.task)
  still s C was goes (inr g) w = absurd (both_ways (waits_on l' s) (gone_waits l' s (gone_moves s g)) w)
  still s C was goes (inl w0) w =
      let q = waits_tells l s w0 in
      elim (M.tree.goes s.task q.0 q.1 q.2) [
        | inl g ↦ goes q.0 q.1 q.2 g.0 (was w0)
        | inr g ↦ absurd (both_ways (waits_on l' s) (gone_waits l' s (g.0, g.1, let lt : (q.0).joins < (g.0).joins = g.2 in let j : (q.0).joins ≡ s.joins = q.3 in omega arith)) w)
      ]

  told : (f : Fork) (s : Strand) → TellsFork l f s → (b : Bool) → joined l.machine.tasks f.left ≡ b → (waits_on l s ≡ true) ⊎ HasGoneOn l s
  told f s T true e = inr (T.past e)
  told f s T false e = inl (T.waits e)

  mark_moves : (f : Fork) (s : Strand) → TellsMark l f s → TellsMark l' f s
  mark_moves f s T = record {
    fork = tells_moves f s T.fork;
    marked = still s Touched T.marked (λ x at w at' h. (M.heaps s.task x at w at').0 h) (told f s T.fork (joined l.machine.tasks f.left) refl);
  }

  over_moves : (s : Strand) → IsOver l s → IsOver l' s
  over_moves s (inl g) = inl (gone_moves s g)
  over_moves s (inr o) =
      let q = waits_tells l s o.0 in
      elim (M.tree.goes s.task q.0 q.1 q.2) [
        | inl g ↦ inr (waits_from l' s q.0 g.0 q.2 q.3, (M.heaps s.task q.0 q.1 q.2 g.0).1 o.1)
        | inr g ↦ inl (g.0, g.1, let lt : (q.0).joins < (g.0).joins = g.2 in let j : (q.0).joins ≡ s.joins = q.3 in omega arith)
      ]

  pub marks_move : (forks : List Fork) (ss : List Strand) → KeepsMarks l forks ss → KeepsMarks l' forks ss
  marks_move forks [] k = k
  marks_move forks (s ∷ ss) (inl k) = inl (over_moves s k.0, marks_move forks ss k.1)
  marks_move forks (s ∷ ss) (inr k) = inr (k.0, k.1, k.2, mark_moves k.1 s k.3, marks_move k.0 ss k.4)

  pub previous_moves : (a : PreviousKind) (b : Previous) → KeepsPrevious l a b → KeepsPrevious l' a b
  previous_moves Other OtherEntry k = k
  previous_moves Other RanEntry k = absurd k
  previous_moves Other (ForkedEntry s) k = absurd k
  previous_moves Ran OtherEntry k = absurd k
  previous_moves Ran RanEntry k = k
  previous_moves Ran (ForkedEntry s) k = absurd k
  previous_moves (Forked f) OtherEntry k = absurd k
  previous_moves (Forked f) RanEntry k = absurd k
  previous_moves (Forked f) (ForkedEntry s) k = tells_moves f s k

  pub keeps_moves : (q : Pace) (x : WorkerPace) → KeepsPace l q x → KeepsPace l' q x
  keeps_moves q x K = record { previous = previous_moves q.previous x.previous K.previous; marks = marks_move q.marks.items x.marks K.marks }

-- THE FORK on which a task waits

-- a child of t that hasn't joined, by the tasks
abbrev pub lives_below : List Task → ℕ → ℕ → Bool
lives_below tasks t c = option_is (parents tasks c) t && not (joined tasks c)

pub child_tells : (tasks : List Task) (t c : ℕ) → lives_below tasks t c ≡ true → (parents tasks c ≡ Some t) × (joined tasks c ≡ false)
child_tells tasks t c h = let q = and_parts (option_is (parents tasks c) t) (not (joined tasks c)) h in (held_is (parents tasks c) t q.0, not-true (joined tasks c) q.1)

pub child_from : (tasks : List Task) (t c : ℕ) → parents tasks c ≡ Some t → joined tasks c ≡ false → lives_below tasks t c ≡ true
child_from tasks t c p j = and_from (option_is (parents tasks c) t) (not (joined tasks c)) (ap (λ o. option_is o t) p ∙ eq-eqb t t refl) (ap not j)

-- by a child that hasn't joined
pub fork_from : (l : Ledger) (t c : ℕ) → parents l.machine.tasks c ≡ Some t → joined l.machine.tasks c ≡ false → is_waiting (slice_get l.machine.tasks t) ≡ true → IsForkOf l t (Some (record { task = t; left = c })) (slice_get l.machine.tasks t)
fork_from l t c p j w =
    let q = wait_task (slice_get l.machine.tasks t) w in
    subst (IsForkOf l t (Some (record { task = t; left = c }))) (sym q.1) (
      q.2,
      record {
        task = refl;
        child = p;
        waits = λ e. waits_from l (strand_of t q.0) q.0 q.1 q.2 refl;
        past = λ e. absurd (both_ways (joined l.machine.tasks c) j e);
      },
    )

-- WITH ONE MORE ENTRY
pub steps_kept : (l : Ledger) (t : ℕ) (fork : Option Fork) (o : Option Task) → IsForkOf l t fork o → KeepsPrevious l (previous_of fork) (previous_by t o)
steps_kept l t None None k = tt
steps_kept l t None (Some x) k = subst (λ b. KeepsPrevious l Ran (cond b (ForkedEntry (strand_of t x)) RanEntry)) (sym k) tt
steps_kept l t (Some f) None k = absurd k
steps_kept l t (Some f) (Some x) k = subst (λ b. KeepsPrevious l (Forked f) (cond b (ForkedEntry (strand_of t x)) RanEntry)) (sym k.0) k.1

pub mark_kept : (l : Ledger) (t : ℕ) (f : Fork) (o : Option Task) (forks : List Fork) (ss : List Strand) → IsForkOf l t (Some f) o → is_some (heap_of l t).marked ≡ true → KeepsMarks l forks ss → KeepsMarks l (forks ++ f ∷ []) (fork_of t o ++ ss)
mark_kept l t f None forks ss k m K = absurd k
mark_kept l t f (Some x) forks ss k m K = inr (forks, f, refl, record { fork = k.1; marked = λ w. inl m }, K)

-- by the record alone
pub keeps_items : (l : Ledger) (q q' : Pace) (x : WorkerPace) → q'.previous ≡ q.previous → q'.marks.items ≡ q.marks.items → KeepsPace l q x → KeepsPace l q' x
keeps_items l q q' x ep em K = record {
  previous = subst (λ a. KeepsPrevious l a x.previous) (sym ep) K.previous;
  marks = subst (λ (fs : List Fork). KeepsMarks l fs x.marks) (sym em) K.marks;
}
