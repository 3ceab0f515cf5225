-- An entry of steps keeps the accounts in agreement for each other task that a worker holds.
use Rattle.refinement_laws.proofs.Common.{◌≡◌, ℕ, ◌+◌, true, false, Some, None, ◌∷◌, length, slice_get, inl, refl, ap, sym, subst, ◌∙◌, Instr, Set, Mov, Movr, Nil as NilOf, Calc, Same, Jmp, Jz, Newm, Pack, Getr, Geti, Putr, Puti, Cntr, Cnti, Freeze, Cas, Call, Par, Ret, Out, ProgramText, SettingsValue, Name, Object, Frame, Task, MachineState, ref_in, object_at, row_of, task_names, is_joined, is_on_path, is_waiting, owner_of, running_tells, at_in, names_run, in_registers, Heap, Ledger, heap_of, let_go, task_steps, touched, heap_machine, StepsAlone, AlikeFor, Leaves, own, rested, ChangesByWrite, WritesOther, LastKind, Private, Reading, Writing, Printing, Forking, Ending, Joining, Finishing, Halting, IsOfKind, GoesOn, Splits, RunsPrivateSteps, private_alone, with_off, leaf_alone, alone_along, Belongings, Memory, In, taken_by, Part, FitsAt, ahead, part_for, RunsWithPart, AreOut}
use Rattle.refinement.proofs.below.ledger_step_laws.BeforeLast as before_last
use Rattle.refinement_laws.proofs.parts.Along.{alike_alone}
use Rattle.refinement_laws.proofs.parts.Beside.{alike_forks, alike_joins, alike_writes}
use Rattle.refinement_laws.proofs.parts.Goes.{not_own}
use Rattle.refinement_laws.proofs.parts.Leave.{held, held_then}
use Rattle.refinement_laws.proofs.parts.Pair as pair
use Rattle.refinement_laws.proofs.parts.StepsPreserveParts as ran

pub alike_then : (u : ℕ) (a b c : Ledger) → AlikeFor u a b → AlikeFor u b c → AlikeFor u a c
alike_then u a b c A B = record {
  limit = B.limit ∙ A.limit;
  end = B.end ∙ A.end;
  task = B.task ∙ A.task;
  heap = B.heap ∙ A.heap;
  count = B.count ∙ A.count;
  owned = λ n h. B.owned n (A.owned n h);
  owned' = λ n h. A.owned' n (B.owned' n h);
  store = λ n h. B.store n (A.owned n h) ∙ A.store n h;
  above = λ n h. B.above n (A.above n h);
  frozen = λ n y h e f. B.frozen n y (A.above n h) (A.frozen n y h e f) f;
}

-- another task is released or not
alike_held : (u t : ℕ) (a b : Ledger) → (u ≡ t → ⊥) → AlikeFor u a (rested b t) → AlikeFor u a b
alike_held u t a b ne A =
    let e : (rested b t).machine ≡ b.machine = heap_machine b t let_go in
    record {
      limit = ap (λ (m : MachineState). m.field_limit) (sym e) ∙ A.limit;
      end = ap (λ (m : MachineState). m.end) (sym e) ∙ A.end;
      task = ap (λ (m : MachineState). slice_get m.tasks u) (sym e) ∙ A.task;
      heap = sym (with_off b t u let_go ne) ∙ A.heap;
      count = ap (λ (m : MachineState). length (row_of (slice_get m.store u))) (sym e) ∙ A.count;
      owned = λ n h. ap (λ (m : MachineState). owner_of m.tasks n.task) (sym e) ∙ A.owned n h;
      owned' = λ n h. A.owned' n (ap (λ (m : MachineState). owner_of m.tasks n.task) e ∙ h);
      store = λ n h. ap (λ (m : MachineState). object_at m.store n) (sym e) ∙ A.store n h;
      above = λ n h. ap (λ (m : MachineState). is_on_path m.tasks (owner_of m.tasks n.task) u) (sym e) ∙ A.above n h;
      frozen = λ n y h i f. ap (λ (m : MachineState). object_at m.store n) (sym e) ∙ A.frozen n y h i f;
    }

-- a register names what is written
names_it : (x : Task) (n : Name) (y y' : Object) (f : Frame) (instr : Instr) → ChangesByWrite x instr y y' f → touched x.top instr ≡ Some n → (o : ℕ) × (ref_in x.top o ≡ Some n)
names_it x n y y' f (Putr o i v) W e = (o, e)
names_it x n y y' f (Puti o i v) W e = (o, e)
names_it x n y y' f (Cas d o i w v) W e = (o, e)
names_it x n y y' f (Set d a) W e = absurd W
names_it x n y y' f (Mov d a) W e = absurd W
names_it x n y y' f (Movr d a) W e = absurd W
names_it x n y y' f (NilOf d) W e = absurd W
names_it x n y y' f (Calc op d a b) W e = absurd W
names_it x n y y' f (Same d a b) W e = absurd W
names_it x n y y' f (Jmp to) W e = absurd W
names_it x n y y' f (Jz a to) W e = absurd W
names_it x n y y' f (Newm d a b) W e = absurd W
names_it x n y y' f (Pack d a b) W e = absurd W
names_it x n y y' f (Getr d o i) W e = absurd W
names_it x n y y' f (Geti d o i) W e = absurd W
names_it x n y y' f (Cntr d o) W e = absurd W
names_it x n y y' f (Cnti d o) W e = absurd W
names_it x n y y' f (Freeze o) W e = absurd W
names_it x n y y' f (Call g) W e = absurd W
names_it x n y y' f (Par g h) W e = absurd W
names_it x n y y' f Ret W e = absurd W
names_it x n y y' f (Out a) W e = absurd W

-- what is written is mutable
mutable_is : (x : Task) (y y' : Object) (f : Frame) (instr : Instr) → ChangesByWrite x instr y y' f → y.mutable ≡ true
mutable_is x y y' f (Putr o i v) W = W.2
mutable_is x y y' f (Puti o i v) W = W.2
mutable_is x y y' f (Cas d o i w v) W = W.2
mutable_is x y y' f (Set d a) W = absurd W
mutable_is x y y' f (Mov d a) W = absurd W
mutable_is x y y' f (Movr d a) W = absurd W
mutable_is x y y' f (NilOf d) W = absurd W
mutable_is x y y' f (Calc op d a b) W = absurd W
mutable_is x y y' f (Same d a b) W = absurd W
mutable_is x y y' f (Jmp to) W = absurd W
mutable_is x y y' f (Jz a to) W = absurd W
mutable_is x y y' f (Newm d a b) W = absurd W
mutable_is x y y' f (Pack d a b) W = absurd W
mutable_is x y y' f (Getr d o i) W = absurd W
mutable_is x y y' f (Geti d o i) W = absurd W
mutable_is x y y' f (Cntr d o) W = absurd W
mutable_is x y y' f (Cnti d o) W = absurd W
mutable_is x y y' f (Freeze o) W = absurd W
mutable_is x y y' f (Call g) W = absurd W
mutable_is x y y' f (Par g h) W = absurd W
mutable_is x y y' f Ret W = absurd W
mutable_is x y y' f (Out a) W = absurd W

module _ (p : ProgramText) (s : SettingsValue) (v : Memory) (l l' : Ledger) (t w k : ℕ) (h : Belongings) (E : RunsPrivateSteps p s l l' t w k) (on : l'.machine.end ≡ None) where
  abbrev q : Part
  q = part_for s t h k

  module _ (r : Part) (y : Task) (P : RunsWithPart l r y) (ne : t ≡ r.task → ⊥) (G : FitsAt p s r v l) where
    abbrev m : Ledger
    m = task_steps p l t k

    abbrev S : Splits p s l l' t k
    S = E.splits

    abbrev lq : Ledger
    lq = ahead p q l

    out : AreOut l q r E.task y
    out = ran.out p s v v l l' t w k h E on r y P ne G

    left : Leaves r.task lq l'
    left = ran.left p s v v l l' t w k h E on r y P ne G

    off : r.task ≡ t → ⊥
    off e = ne (sym e)

    abbrev idle : is_waiting (slice_get l.machine.tasks t) ≡ false
    idle = before_last.idle_first p s l l' t w k E

    live : is_joined (slice_get l.machine.tasks r.task) ≡ false
    live = ap is_joined P.task ∙ (running_tells y.status P.runs).0

    lone : StepsAlone m l' t → AlikeFor r.task l l'
    lone A =
        alike_alone p s r l l' t ne (λ z. ne (leaf_alone l E.knows.sound t r.task idle live z)) (alone_along t l m l' (before_last.alone p s l l' t w k E) A) (ran.limit p s v v l l' t w k h E on r y P ne G) (ran.end p s v v l l' t w k h E on r y P ne G) (ran.heap p s v v l l' t w k h E on r y P ne G)

    module _ (F : FitsAt p s q v l) where
      N : StepsAlone l lq t
      N = pair.N p s q r v l E.task y E.knows F G out.first P ne

      -- a task that doesn't wait is no ancestor of r's task
      low : (z : ℕ) → is_waiting (slice_get lq.machine.tasks z) ≡ false → (r.task ≡ z → ⊥) → is_on_path lq.machine.tasks z r.task ≡ true → ⊥
      low z rest other up = other (sym (leaf_alone lq (pair.knows p s q r v l E.task y E.knows F G out.first P ne).sound z r.task rest (N.tree.joins r.task ∙ live) up))

      then_ : AlikeFor r.task lq l' → AlikeFor r.task l l'
      then_ B = alike_then r.task l lq l' (pair.alike p s q r v l E.task y E.knows F G out.first P ne) B

      writes : WritesOther m l' t S.task S.line → AlikeFor r.task l l'
      writes W =
          let o = names_it S.task W.name W.object W.written W.frame S.line.instr W.wrote W.touches in
          let holds : In (task_names S.task) W.name = names_run S.task W.name S.at.runs (in_registers (S.task.top ∷ S.task.below) S.task.top W.name (inl refl) (at_in S.task.top.refs o.0 W.name o.1)) in
          let is : slice_get lq.machine.tasks t ≡ Some S.task = ap (λ (z : MachineState). slice_get z.tasks t) (heap_machine m t let_go) ∙ S.at.task in
          let held_t : (heap_of l' t).worker ≡ Some w = ap (λ (z : Ledger). (heap_of z t).worker) W.goes ∙ E.out in
          let other : own lq W.name ≡ r.task → ⊥ = not_own p s q r v l l' E.task y E.knows E.knows_then F G out.first P ne w held_t left.limit left.end left.heap S.task W.name is S.at.runs holds in
          let e : (rested l' t).machine ≡ l'.machine = heap_machine l' t let_go in
          then_ (alike_held r.task t lq l' off
          (alike_writes lq (rested l' t) r.task t W.name W.object W.written off other (mutable_is S.task W.object W.written W.frame S.line.instr W.wrote) (ap (λ (z : MachineState). z.field_limit) e ∙ left.limit) (ap (λ (z : MachineState). z.end) e ∙ left.end) (with_off l' t r.task let_go off ∙ left.heap) W.writes))

    pub alike_by : (kind : LastKind) → IsOfKind p m l' t S.task S.line kind → FitsAt p s (part_for s t h (taken_by kind k)) v l → GoesOn kind → AlikeFor r.task l l'
    alike_by Private private F g = lone (subst (λ (z : Ledger). StepsAlone m z t) (sym S.after) (private_alone p m t private (before_last.known p s l l' t w k E).sound))
    alike_by Reading reads F g = lone reads.alone
    alike_by Writing W F g = writes F W
    alike_by Printing prints F g = lone prints.alone
    alike_by Forking f F g =
        then_ F (alike_forks lq l' r.task t (length m.machine.tasks) (length m.machine.tasks + 1) f.left f.right S.task off
        (held p s q r v l l' E.task y E.knows F G out left (length m.machine.tasks) (ap (λ (z : Heap). z.worker) f.forks.heap_left))
        (held p s q r v l l' E.task y E.knows F G out left (length m.machine.tasks + 1) (ap (λ (z : Heap). z.worker) f.forks.heap_right)) left.limit left.end left.heap f.forks)
    alike_by Ending e F g = then_ F (alike_alone p s r lq l' t ne (low F t ((N F).tree.waits t ∙ idle) off) e.ends.alone left.limit left.end left.heap)
    alike_by Joining j F g =
        then_ F (alike_joins lq l' r.task j.parent j.left (j.left + 1) j.above j.left_result j.right_result
        (held_then p s q r v l l' E.task y E.knows F G out j.parent j.can.rests) (held_then p s q r v l l' E.task y E.knows F G out j.left j.can.left_rests)
        (held_then p s q r v l l' E.task y E.knows F G out (j.left + 1) j.can.right_rests)
        (low F j.left j.can.left_idle (held_then p s q r v l l' E.task y E.knows F G out j.left j.can.left_rests))
        (low F (j.left + 1) j.can.right_idle (held_then p s q r v l l' E.task y E.knows F G out (j.left + 1) j.can.right_rests)) left.limit left.end left.heap j.joins)
    alike_by Finishing n F g = absurd g
    alike_by Halting n F g = absurd g
