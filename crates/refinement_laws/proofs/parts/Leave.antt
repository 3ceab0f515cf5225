-- What an entry leaves unchanged for others: the laws, from the lemmas.
use Rattle.refinement_laws.proofs.Common.{◌≡◌, ℕ, true, false, slice_get, ap, sym, ◌∙◌, none_some, ProgramText, SettingsValue, Task, is_joined, is_on_path, is_waiting, running_tells, leaf_alone, Heap, Ledger, heap_of, or_fresh, Memory, Rests, LedgerIsKnown, Leaves, Part, FitsAt, ahead, AreOut}
use Rattle.refinement_laws.proofs.parts.Statements.{ForksLeaveFitting, JoinsLeaveFitting, FinishesLeaveFitting, StoresLeaveFitting, NumbersLeaveFitting, TakingsLeaveFitting, QuietLeavesFitting}
use Rattle.refinement_laws.proofs.parts.Along.{alike_alone}
use Rattle.refinement_laws.proofs.parts.Beside.{alike_forks, alike_joins}
use Rattle.refinement_laws.proofs.parts.Others.{fits_fork, fits_join, fits_finish}
use Rattle.refinement_laws.proofs.parts.Goes.{fits_store, fits_number}
use Rattle.refinement_laws.proofs.parts.NonMovingEntries.{fits_took, fits_quiet}
use Rattle.refinement_laws.proofs.parts.Pair as pair

module _ (p : ProgramText) (s : SettingsValue) (q r : Part) (v : Memory) (l l' : Ledger) (x y : Task) (K : LedgerIsKnown l) (F : FitsAt p s q v l) (G : FitsAt p s r v l) (A : AreOut l q r x y) where
  -- a task that no worker holds isn't r's
  pub held_then : (z : ℕ) → Rests (ahead p q l) z → r.task ≡ z → ⊥
  held_then z h e = none_some (sym h ∙ (ap (λ k. (heap_of (ahead p q l) k).worker) (sym e) ∙ (ap (λ o. (or_fresh o).worker) (pair.alike p s q r v l x y K F G A.first A.second A.apart).heap ∙ G.out)))

  -- a task that doesn't wait is no ancestor of r's task
  pub low : (z : ℕ) → is_waiting (slice_get (ahead p q l).machine.tasks z) ≡ false → (r.task ≡ z → ⊥) → is_on_path (ahead p q l).machine.tasks z r.task ≡ true → ⊥
  low z rest other up =
      other (sym (leaf_alone (ahead p q l) (pair.knows p s q r v l x y K F G A.first A.second A.apart).sound z r.task rest
      ((pair.N p s q r v l x y K F G A.first A.second A.apart).tree.joins r.task ∙ (ap is_joined A.second.task ∙ (running_tells y.status A.second.runs).0)) up))

  pub low_self : is_on_path (ahead p q l).machine.tasks q.task r.task ≡ true → ⊥
  low_self =
      low q.task ((pair.N p s q r v l x y K F G A.first A.second A.apart).tree.waits q.task ∙ (ap is_waiting A.first.task ∙ (running_tells x.status A.first.runs).1)) (λ e. A.apart (sym e))

  pub held : Leaves r.task (ahead p q l) l' → (z : ℕ) → Rests l' z → r.task ≡ z → ⊥
  held U z h e = none_some (sym h ∙ (ap (λ k. (heap_of l' k).worker) (sym e) ∙ (ap (λ o. (or_fresh o).worker) (U.heap ∙ (pair.alike p s q r v l x y K F G A.first A.second A.apart).heap) ∙ G.out)))

pub forks : ForksLeaveFitting
forks p s q v v' l l' a b f i z K K' F runs L C r x y A U G =
    fits_fork p s q r v l l' x y K K' F G A.first A.second A.apart
    (alike_forks (ahead p q l) l' r.task q.task a b f i z (λ e. A.apart (sym e)) (held p s q r v l l' x y K F G A U a (ap (λ (h : Heap). h.worker) L.heap_left))
    (held p s q r v l l' x y K F G A U b (ap (λ (h : Heap). h.worker) L.heap_right)) U.limit U.end U.heap L) v' a b f i z runs L C

pub joins : JoinsLeaveFitting
joins p s q v v' l l' j c d z rl rr al ar K K' F L T C gl gr r x y A U G =
    fits_join p s q r v l l' x y K K' F G A.first A.second A.apart
    (alike_joins (ahead p q l) l' r.task j c d z rl rr (held_then p s q r v l l' x y K F G A j T.rests) (held_then p s q r v l l' x y K F G A c T.left_rests)
    (held_then p s q r v l l' x y K F G A d T.right_rests) (low p s q r v l l' x y K F G A c T.left_idle (held_then p s q r v l l' x y K F G A c T.left_rests))
    (low p s q r v l l' x y K F G A d T.right_idle (held_then p s q r v l l' x y K F G A d T.right_rests)) U.limit U.end U.heap L) v' j c d z rl rr al ar L T C gl gr

pub finishes : FinishesLeaveFitting
finishes p s q v v' l l' z f fs K K' F L C r x y A U G =
    fits_finish p s q r v l l' x y K K' F G A.first A.second A.apart (alike_alone p s r (ahead p q l) l' q.task A.apart (low_self p s q r v l l' x y K F G A) L.alone U.limit U.end U.heap) v' z f fs L C

pub stores : StoresLeaveFitting
stores p s q v v' l l' g w z n o ro rv i c f fs a K K' F out L C at r x y A U G =
    fits_store p s q r v l l' x y K K' F G A.first A.second A.apart w out U.limit U.end U.heap v' g z n o ro rv i c f fs a L C at

pub numbers : NumbersLeaveFitting
numbers p s q v v' l l' g w z n o ro rv i f fs a K K' F out L C at r x y A U G =
    fits_number p s q r v l l' x y K K' F G A.first A.second A.apart w out U.limit U.end U.heap v' g z n o ro rv i f fs a L C at

pub takings : TakingsLeaveFitting
takings p s v v' l l' t w S S' rests idle L C r c same F =
    fits_took p s r v l l' S S' c (record { machine = L.machine; heap = same }) F v' t w rests idle L C

pub quiet : QuietLeavesFitting
quiet p s v v' l l' S S' L C r c same F =
    fits_quiet p s r v l l' S S' c (record { machine = L.machine; heap = same }) F v' L C
