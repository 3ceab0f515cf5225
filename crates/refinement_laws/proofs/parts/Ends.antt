-- The end of a leaf collection keeps each part of another task fitting.
use Rattle.refinement_laws.proofs.Common.{◌≡◌, ℕ, true, Some, slice_get, inl, inr, refl, ap, sym, ◌∙◌, is_some, cases_eq, Addr, ProgramText, SettingsValue, Running, Task, MachineState, Heap, Ledger, heap_of, or_fresh, let_go, task_steps, heap_machine, Belongings, Memory, ArePrivate, rested, StepsAlone, ChangesHeap, LedgerIsKnown, Part, FitsAt, ahead, with_belongings, part_for, Moves, IsSteady, RunsWithPart, Beside, EndsBeside, SameOf, with_off, rested_changes, rested_sound, rested_worker, rested_view, steady_same}
use Rattle.refinement_laws.proofs.parts.Parts.{ahead_alone, ahead_same}
use Rattle.refinement_laws.proofs.parts.Pair.{beside}
use Rattle.refinement_laws.proofs.parts.Frame.{collect_frame}

module _ (p : ProgramText) (s : SettingsValue) (t : ℕ) (g g' : Belongings) (r : Part) (v v' : Memory) (l l' : Ledger) (w : ℕ) (x y : Task) (f : Addr → Addr) (K : LedgerIsKnown l) (K' : LedgerIsKnown l') where
  -- the part of t, that has begun its collection
  abbrev q : Part
  q = part_for s t g 0

  module _ (F : FitsAt p s q v l) (G : FitsAt p s r v l) (O : RunsWithPart l q x) (P : RunsWithPart l r y) (ne : t ≡ r.task → ⊥) (runs : x.status ≡ Running) (begun : is_some (heap_of l t).begun ≡ true)
      (L : ChangesHeap l l' t) (same : slice_get l'.heaps r.task ≡ slice_get l.heaps r.task) (out' : (heap_of l' t).worker ≡ Some w)
      (M : Moves (with_belongings v t g) (with_belongings v' t g') (rested l t) (rested l' t) t (heap_of (rested l t) t).survivors f) where
    abbrev lt : Ledger
    lt = rested l t

    abbrev lt' : Ledger
    lt' = rested l' t

    B : Beside lt (ahead p r l) (ahead p r lt) t r.task
    B = beside p s q r v l x y K F G O P ne

    E : SameOf r.task l l'
    E = record { machine = L.machine; heap = same }

    to_rest : (k : Ledger) → SameOf r.task k (rested k t)
    to_rest k = record { machine = heap_machine k t let_go; heap = with_off k t r.task let_go (λ e. ne (sym e)) }

    -- the steps of r's part by all four accounts
    at_l' : ArePrivate p s l' r.task r.fresh × SameOf r.task (ahead p r l) (ahead p r l')
    at_l' = ahead_same p s r l l' E G.private

    at_lt : ArePrivate p s lt r.task r.fresh × SameOf r.task (ahead p r l) (ahead p r lt)
    at_lt = ahead_same p s r l lt (to_rest l) G.private

    at_lt' : ArePrivate p s lt' r.task r.fresh × SameOf r.task (ahead p r l') (ahead p r lt')
    at_lt' = ahead_same p s r l' lt' (to_rest l') at_l'.0

    steady' : (k : Ledger) → slice_get k.heaps r.task ≡ slice_get l.heaps r.task → IsSteady r k
    steady' k e = steady_same r l k e P.steady

    N : StepsAlone lt (ahead p r lt) r.task
    N = B.steps_t

    N' : StepsAlone lt' (ahead p r lt') r.task
    N' = ahead_alone p s r lt' (rested_sound l' t K'.sound) (steady' lt' ((to_rest l').heap ∙ same)) at_lt'.0

    N0 : StepsAlone l' (ahead p r l') r.task
    N0 = ahead_alone p s r l' K'.sound (steady' l' same) at_l'.0

    ends : ChangesHeap lt lt' t
    ends = rested_changes l l' t L

    all_ends : EndsBeside v v' lt lt' (ahead p r l) (ahead p r l') (ahead p r lt) (ahead p r lt') t r.task w g g' r.belongings x f
    all_ends = record {
      apart = ne;
      sound_t = B.sound_t;
      sound_u = B.sound_u;
      sound = B.sound;
      steps_t = N;
      steps_u = B.steps_u;
      steps_t' = N';
      collects = record {
        task = N.tasks t ne ∙ (ap (λ (m : MachineState). slice_get m.tasks t) (heap_machine l t let_go) ∙ O.task);
        runs = runs;
        begun = ap (λ (h : Heap). is_some h.begun) (N.heaps t ne) ∙ (rested_view (λ h. is_some h.begun) (λ h. refl) l t ∙ begun);
        rests = ap (λ (h : Heap). h.worker) (N.heaps t ne) ∙ rested_worker l t;
      };
      survivors = ap (λ (h : Heap). h.survivors) (N.heaps t ne);
      ends = ends;
      machine = at_lt'.1.machine ∙ (at_l'.1.machine ∙ sym at_lt.1.machine);
      heap = ap or_fresh (at_lt'.1.heap ∙ (at_l'.1.heap ∙ sym at_lt.1.heap));
      rests = rested_worker (task_steps p lt r.task r.fresh) r.task;
      idle = B.idle_u;
      live = B.live_u;
      moves = M;
      takes = record {
        machine = sym at_lt'.1.machine;
        worker = ap (λ (h : Heap). h.worker) (N0.heaps t ne) ∙ out';
        heaps = λ u nu. elim (cases_eq u r.task) [
          | inl e ↦ ap (heap_of (ahead p r l')) e ∙ (ap or_fresh (sym at_lt'.1.heap) ∙ ap (heap_of (ahead p r lt')) (sym e))
          | inr nr ↦ N0.heaps u nr ∙ (ap or_fresh (sym (with_off l' t u let_go nu)) ∙ sym (N'.heaps u nr))
        ];
      };
    }

    pub fits_end : FitsAt p s r v' l'
    fits_end = record {
      worker = G.worker;
      out = ap (λ o. (or_fresh o).worker) same ∙ G.out;
      few = G.few;
      private = at_l'.0;
      stands = collect_frame v v' lt lt' (ahead p r l) (ahead p r l') (ahead p r lt) (ahead p r lt') t r.task w g g' r.belongings x f all_ends F.stands G.stands;
    }
