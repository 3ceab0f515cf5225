-- Several private steps, and the frame law for the private steps of another task.
use Rattle.refinement_laws.proofs.Common.{◌≡◌, ℕ, true, false, Some, length, slice_get, ap, sym, ◌∙◌, ProgramText, SettingsValue, Task, MachineState, object_at, row_of, can_step, is_joined, is_on_path, is_running, is_waiting, owner_of, running_tells, Heap, Ledger, heap_of, or_fresh, let_go, task_steps, heap_machine, Memory, own, rested, StepsAlone, AlikeFor, LedgerIsKnown, Part, FitsAt, ahead, IsSteady, with_at, heap_then, alike_steps, leaf_alone, steady_same, alone_too}
use Rattle.refinement_laws.proofs.parts.Parts.{ahead_alone, ahead_sound}
use Rattle.refinement_laws.proofs.parts.Frame.{step_frame}

-- THE FRAME LAW FOR PRIVATE STEPS: t steps from l to l', and the part of u has taken its steps by either account
module _ (p : ProgramText) (s : SettingsValue) (q : Part) where
  pub rested_alike : (l l' : Ledger) → AlikeFor q.task l l' → AlikeFor q.task (rested l q.task) (rested l' q.task)
  rested_alike l l' A =
      let e = heap_machine l q.task let_go in
      let e' = heap_machine l' q.task let_go in
      record {
        limit = ap (λ (m : MachineState). m.field_limit) e' ∙ (A.limit ∙ sym (ap (λ (m : MachineState). m.field_limit) e));
        end = ap (λ (m : MachineState). m.end) e' ∙ (A.end ∙ sym (ap (λ (m : MachineState). m.end) e));
        task = ap (λ (m : MachineState). slice_get m.tasks q.task) e' ∙ (A.task ∙ sym (ap (λ (m : MachineState). slice_get m.tasks q.task) e));
        heap = with_at l' q.task let_go ∙ (ap (heap_then let_go) A.heap ∙ sym (with_at l q.task let_go));
        count = ap (λ (m : MachineState). length (row_of (slice_get m.store q.task))) e' ∙ (A.count ∙ sym (ap (λ (m : MachineState). length (row_of (slice_get m.store q.task))) e));
        owned = λ n h. ap (λ (m : MachineState). owner_of m.tasks n.task) e' ∙ A.owned n (sym (ap (λ (m : MachineState). owner_of m.tasks n.task) e) ∙ h);
        owned' = λ n h. ap (λ (m : MachineState). owner_of m.tasks n.task) e ∙ A.owned' n (sym (ap (λ (m : MachineState). owner_of m.tasks n.task) e') ∙ h);
        store = λ n h. ap (λ (m : MachineState). object_at m.store n) e' ∙ (A.store n (sym (ap (λ (m : MachineState). owner_of m.tasks n.task) e) ∙ h) ∙ sym (ap (λ (m : MachineState). object_at m.store n) e));
        above = λ n h. ap (λ (m : MachineState). is_on_path m.tasks (owner_of m.tasks n.task) q.task) e' ∙ A.above n (sym (ap (λ (m : MachineState). is_on_path m.tasks (owner_of m.tasks n.task) q.task) e) ∙ h);
        frozen = λ n y h i f.
            ap (λ (m : MachineState). object_at m.store n) e'
            ∙ A.frozen n y (sym (ap (λ (m : MachineState). is_on_path m.tasks (owner_of m.tasks n.task) q.task) e) ∙ h) (sym (ap (λ (m : MachineState). object_at m.store n) e) ∙ i) f;
      }

  -- if only what t owns changes from l to l', the same holds from k to k'
  pub alone_ahead : (l l' k k' : Ledger) (t : ℕ) → StepsAlone l l' t → StepsAlone l k q.task → StepsAlone l' k' q.task → AlikeFor q.task k k' → StepsAlone k k' t
  alone_ahead l l' k k' t B A A' E = alone_too l l' k k' q.task A A' E t B

  -- t, which isn't an ancestor of u, steps alone: so the two accounts agree for u
  pub alike_alone : (l l' : Ledger) (t : ℕ) → (t ≡ q.task → ⊥) → (is_on_path l.machine.tasks t q.task ≡ true → ⊥) → StepsAlone l l' t → l'.machine.field_limit ≡ l.machine.field_limit → l'.machine.end ≡ l.machine.end → slice_get l'.heaps q.task ≡ slice_get l.heaps q.task → AlikeFor q.task l l'
  alike_alone l l' t ne low B limit end heap =
      let off : q.task ≡ t → ⊥ = λ e. ne (sym e) in
      record {
        limit = limit;
        end = end;
        task = B.tasks q.task off;
        heap = heap;
        count = B.rows q.task off;
        owned = λ n h. B.tree.owners n.task ∙ h;
        owned' = λ n h. sym (B.tree.owners n.task) ∙ h;
        store = λ n h. B.store n (λ e. ne (sym e ∙ h));
        above = λ n h. B.tree.paths (own l' n) q.task ∙ (ap (λ a. is_on_path l.machine.tasks a q.task) (B.tree.owners n.task) ∙ h);
        frozen = λ n y h e f. B.store n (λ o. low (ap (λ a. is_on_path l.machine.tasks a q.task) (sym o) ∙ h)) ∙ e;
      }

  -- a part still fits when another task steps alone
  pub fits_alone : (v : Memory) (l l' : Ledger) (t w : ℕ) (x : Task) → (t ≡ q.task → ⊥) → StepsAlone l l' t → l'.machine.field_limit ≡ l.machine.field_limit → l'.machine.end ≡ l.machine.end → slice_get l'.heaps q.task ≡ slice_get l.heaps q.task
      → (heap_of l t).worker ≡ Some w → (heap_of l' t).worker ≡ Some w → is_waiting (slice_get l.machine.tasks t) ≡ false
      → LedgerIsKnown l → LedgerIsKnown l' → IsSteady q l → slice_get l.machine.tasks q.task ≡ Some x → is_running (Some x) ≡ true → can_step l.machine q.task ≡ true → FitsAt p s q v l → FitsAt p s q v l'
  fits_alone v l l' t w x ne B limit end heap out out' idle K K' c is run can F =
      let live : is_joined (slice_get l.machine.tasks q.task) ≡ false = ap is_joined is ∙ (running_tells x.status run).0 in
      let A : AlikeFor q.task l l' = alike_alone l l' t ne (λ h. ne (leaf_alone l K.sound t q.task idle live h)) B limit end heap in
      let a = alike_steps p s q.task q.fresh l l' x K K' c A is run can F.private in
      let E : AlikeFor q.task (ahead p q l) (ahead p q l') = rested_alike (task_steps p l q.task q.fresh) (task_steps p l' q.task q.fresh) a.1 in
      let c' : IsSteady q l' = steady_same q l l' heap c in
      let N = ahead_alone p s q l K.sound c F.private in
      let N' = ahead_alone p s q l' K'.sound c' a.0 in
      record {
        worker = F.worker;
        out = ap (λ o. (or_fresh o).worker) heap ∙ F.out;
        few = F.few;
        private = a.0;
        stands =
            step_frame v (ahead p q l) (ahead p q l') t w q.task q.belongings (ahead_sound p s q l K.sound c) (alone_ahead l l' (ahead p q l) (ahead p q l') t B N N' E)
            (ap (λ (i : Heap). i.worker) (N.heaps t ne) ∙ out) (ap (λ (i : Heap). i.worker) (N'.heaps t ne) ∙ out') (N.tree.waits t ∙ idle) F.stands;
      }
