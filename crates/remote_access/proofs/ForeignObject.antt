-- Before the run's end, the object in a register of a part that fits, if another task owns it, is in that task's heap,
-- and no worker holds that task.
use Rattle.remote_access.proofs.Common.{◌≡◌, ℕ, pos, true, Option, Some, None, ◌∷◌, slice_get, unwrap_or, inl, refl, ap, sym, subst, ◌∙◌, same_Some, Name, Object, Task, int_in, object_at, ref_in, task_names, at_in, in_registers, names_run, Ledger, task_steps, Addr, Birth, Born, Cell, cell_of, Located, Rests, own, rested, Belongings, In, Lies, Memory, objects, objects_of_chunks, with_belongings, AllRead, FrameIsRead, FramesAreRead, HoldsRead, ReadsReference, LiesWithOwner, field_of, at_belongings, Private, int_of, ref_of, ParkedTask, Work, Calls, Result, SharedValue, accounts, frames_down, belongings_by, belongings_in, rest_at, value_of, chunks_of, IsSharedValue, WorkerPartFits, belongings_of_part, seen_object}
use Rattle.step_commit.specs.below.hh_model.{is_on_path}
use Rattle.step_commit.proofs.below.core_invariant.PartFitsMachine as link

-- each name that is read has an address among the references that are read
pub reads_name : (at : Name → Addr → Type 0) (r : Option Addr) (x : Option Name) (n : Name) → ReadsReference at r x → x ≡ Some n → (a : Addr) × (r ≡ Some a) × at n a
reads_name at None None n h e = absurd cc
reads_name at None (Some m) n h e = absurd h
reads_name at (Some a) None n h e = absurd h
reads_name at (Some a) (Some m) n h e = (a, refl, subst (λ z. at z a) (same_Some m n e) h)

-- the belongings of a task at rest have the chunks of its heap
rest_chunks : (r : ParkedTask) (x : Work) → (belongings_by r.heap r.view r.allocations x).chunks ≡ chunks_of r.heap.chunks
rest_chunks r (Calls s) = refl
rest_chunks r (Result k b) = refl

-- THE OBJECT of a name, which is at an address in the heap of an ancestor that no worker holds
pub record IsForeign (w : SharedValue) (v : Memory) (l : Ledger) (t : ℕ) (n : Name) (a : Addr) : Type 0 where
  pub apart : own l n ≡ t → ⊥
  pub above : is_on_path l.machine.tasks (own l n) t ≡ true
  pub place : LiesWithOwner v l n a
  pub rests : Rests (accounts w) (own l n)
  pub rest : ParkedTask
  pub there : rest_at w.rests (own l n) ≡ Some rest
  pub birth : Birth
  pub mark : (cell_of rest.heap.chunks a).mark ≡ Born birth
  pub object : Object
  pub is : object_at l.machine.store n ≡ Some object
  pub mutable : (cell_of rest.heap.chunks a).mutable ≡ object.mutable
  pub refs : AllRead (LiesWithOwner v l) (cell_of rest.heap.chunks a).refs object.refs
  pub ints : (cell_of rest.heap.chunks a).ints ≡ object.ints

module _ (w : SharedValue) (k : ℕ) (p : Private) (I : IsSharedValue w) (F : WorkerPartFits w k p) (on : (accounts w).end ≡ None) where
  abbrev t : ℕ
  t = p.task

  abbrev l : Ledger
  l = accounts w

  abbrev v : Memory
  v = value_of w

  abbrev h : Belongings
  h = belongings_of_part p

  abbrev v' : Memory
  v' = with_belongings v t h

  abbrev L : Ledger
  L = rested (task_steps w.program l t p.fresh) t

  abbrev pub x : Task
  x = (link.A w k p I F on).task

  -- ITS REGISTERS
  frames : FramesAreRead (LiesWithOwner v' L) (frames_down p.frames) (x.top ∷ x.below)
  frames =
      subst (λ (z : Belongings). FramesAreRead (LiesWithOwner v' L) z.frames (x.top ∷ x.below)) (at_belongings v t h)
      (subst (HoldsRead (LiesWithOwner v' L) (v'.belongings t) x) (link.run_status w k p I F on) ((link.W w k p I F on).tasks t x (link.at_rest w k p I F on) (link.task_is_in_machine w k p I F on)))

  pub frame : FrameIsRead (LiesWithOwner v' L) p.frames.top x.top
  frame = frames.0

  pub register_at : (o : ℕ) → ReadsReference (LiesWithOwner v' L) (ref_of p.frames.top o) (ref_in x.top o)
  register_at o = field_of (LiesWithOwner v' L) p.frames.top.refs x.top.refs o frame.refs

  pub number_at : (o : ℕ) → int_of p.frames.top o ≡ int_in x.top o
  number_at o = ap (λ zs. unwrap_or (slice_get zs o) (pos 0)) frame.ints

  pub holds : (o : ℕ) (n : Name) → ref_in x.top o ≡ Some n → In (task_names x) n
  holds o n e = names_run x n (link.run_status w k p I F on) (in_registers (x.top ∷ x.below) x.top n (inl refl) (at_in x.top.refs o n e))

  -- AN OBJECT OF ANOTHER
  module _ (n : Name) (a : Addr) (P : LiesWithOwner v' L n a) (held : In (task_names x) n) (apart : own L n ≡ t → ⊥) where
    abbrev u : ℕ
    u = own L n

    above : is_on_path L.machine.tasks u t ≡ true
    above = ((link.sound w k p I F on).apart.of_task t x n (link.task_is_in_machine w k p I F on) held).1

    rests : Rests l u
    rests = link.rests_above w k p I F on u apart above

    rests_L : Rests L u
    rests_L = link.rests_then w k p I F on u apart rests

    lies : Lies (belongings_in (rest_at w.rests u)).chunks n a
    lies = subst (λ (z : Belongings). Lies z.chunks n a) (link.off w k p I F on u apart) (P.here rests_L)

    foreign_by_rest : (o : Option ParkedTask) → rest_at w.rests u ≡ o → Lies (belongings_in o).chunks n a → IsForeign w v' L t n a
    foreign_by_rest None e y = absurd y.1
    foreign_by_rest (Some r) e y =
        let i : In (objects_of_chunks (chunks_of r.heap.chunks)) y.0 = subst (λ ks. In (objects_of_chunks ks) y.0) (rest_chunks r r.work) y.1 in
        let z = seen_object r.heap.chunks y.0 (I.heaps u r e).shaped.apart i in
        let c : cell_of r.heap.chunks y.0.at ≡ cell_of r.heap.chunks a = ap (cell_of r.heap.chunks) y.2.at in
        let j : In (objects v' u) y.0 = subst (λ (q : Belongings). In (objects_of_chunks q.chunks) y.0) (sym (link.off w k p I F on u apart)) (subst (λ q. In (objects_of_chunks (belongings_in q).chunks) y.0) (sym e) y.1) in
        let q = (link.W w k p I F on).contents u y.0 rests_L j in
        record {
          apart = apart;
          above = above;
          place = P;
          rests = rests;
          rest = r;
          there = e;
          birth = y.0.birth;
          mark = ap (λ (d : Cell). d.mark) (sym c) ∙ z.mark;
          object = q.0;
          is = ap (object_at L.machine.store) (sym y.2.name) ∙ q.1;
          mutable = ap (λ (d : Cell). d.mutable) (sym c) ∙ (ap (λ (s : Located). s.mutable) (sym z.is) ∙ q.2.mutable);
          refs = subst (λ rs. AllRead (LiesWithOwner v' L) rs q.0.refs) (ap (λ (s : Located). s.refs) z.is ∙ ap (λ (d : Cell). d.refs) c) q.2.refs;
          ints = ap (λ (d : Cell). d.ints) (sym c) ∙ (ap (λ (s : Located). s.ints) (sym z.is) ∙ q.2.ints);
        }

    pub foreign : IsForeign w v' L t n a
    foreign = foreign_by_rest (rest_at w.rests u) refl lies

  -- the object in a register
  pub in_register : (o : ℕ) (n : Name) → ref_in x.top o ≡ Some n → (own L n ≡ t → ⊥) → (a : Addr) × (ref_of p.frames.top o ≡ Some a) × IsForeign w v' L t n a
  in_register o n e apart =
      let r = reads_name (LiesWithOwner v' L) (ref_of p.frames.top o) (ref_in x.top o) n (register_at o) e in
      (r.0, r.1, foreign n r.0 r.2 (holds o n e) apart)
