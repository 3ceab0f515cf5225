-- An immutable object refers only up its owner's path, so reads of it are never stopped.
use Rattle.path_laws.proofs.Common.{◌≡◌, ℕ, Bool, true, false, Option, Some, List, [], ◌∷◌, slice_get, slice_set, ◌⊎◌, inl, inr, refl, ap, sym, subst, ◌∙◌, both_ways, In, in_from_contains, same_view, ProgramText, Name, Object, Task, MachineState, object_at, task_names, refs_at, refs_of, is_over, is_running, is_joined, joined, parents, parent_of, path_in, owner_in, owner_of, run, run_from, start, setting, step, ended_task, result_of, path_along, put_cases, made_cases, named_from_in, SetsRef, SetsInt, Freezes, running_tells, IsForkJoinState, start_is_fork_join_state, step_is_fork_join_state, run_is_fork_join_state, empty_rows, Alters, step_cases, names_run, runs_is, in_registers, owner_here, FrozenReadsGo}
use Rattle.path_laws.proofs.Disentangled.{Disentangled, OnePath, disentangled_step, start_disentangled, no_refs, up_forked, up_joined}
use Rattle.path_laws.proofs.Stored.{run_stored}
use Rattle.path_laws.proofs.FreeReads.{up_from, reads_freely, run_disentangled}

-- the owner of the one is on the path of the owner of the other
abbrev pub Up : (ℕ → Option ℕ) → (ℕ → Bool) → ℕ → ℕ → Type 0
Up par jd a b = path_in par (owner_in par jd a) (owner_in par jd b) ≡ true

abbrev pub Upward : (ℕ → Option ℕ) → (ℕ → Bool) → List (List Object) → Type 0
Upward par jd store = (k r : Name) (o : Object) → object_at store k ≡ Some o → o.mutable ≡ false → In o.refs (Some r) → Up par jd r.task k.task

module _ (p : ProgramText) (m : MachineState) (t : ℕ) (K : IsForkJoinState m) (I : Disentangled m.tasks m.store) (U : Upward (parents m.tasks) (joined m.tasks) m.store) where
  abbrev par : ℕ → Option ℕ
  par = parents m.tasks

  abbrev jd : ℕ → Bool
  jd = joined m.tasks

  abbrev UpIn : MachineState → Type 0
  UpIn m' = Upward (parents m'.tasks) (joined m'.tasks) m'.store

  field_of : (k r : Name) (o : Object) → object_at m.store k ≡ Some o → In o.refs (Some r) → In (refs_at m.store k) r
  field_of k r o is h = subst (λ w. In (refs_of w) r) (sym is) (named_from_in o.refs r h)

  module _ (x : Task) (is : slice_get m.tasks t ≡ Some x) (run' : is_running (Some x) ≡ true) where
    live : jd t ≡ false
    live = ap is_joined is ∙ (running_tells x.status run').0

    -- what the running task holds, among what it owns
    held : (r : Name) → In x.top.refs (Some r) → path_in par (owner_in par jd r.task) t ≡ true
    held r h = (I.of_task t x r is (names_run x r (runs_is x.status run') (in_registers (x.top ∷ x.below) x.top r (inl refl) h))).1

    own : (k r : Name) → owner_in par jd k.task ≡ t → path_in par (owner_in par jd r.task) t ≡ true → Up par jd r.task k.task
    own k r e h = ap (λ o. path_in par (owner_in par jd r.task) o) e ∙ h

    frozen_now : (k r : Name) (old new o : Object) → object_at m.store k ≡ Some old → o ≡ new → o.mutable ≡ false → In o.refs (Some r)
        → SetsRef x.top old new ⊎ (SetsInt old new ⊎ Freezes (setting m t x) k old new) → Up par jd r.task k.task
    frozen_now k r old new o was e f h (inl s) =
        absurd (both_ways new.mutable (ap (λ (w : Object). w.mutable) (sym e) ∙ f) (ap (λ (w : Object). w.mutable) s.1.2 ∙ s.0))
    frozen_now k r old new o was e f h (inr (inl s)) =
        absurd (both_ways new.mutable (ap (λ (w : Object). w.mutable) (sym e) ∙ f) (ap (λ (w : Object). w.mutable) s.1.2 ∙ s.0))
    frozen_now k r old new o was e f h (inr (inr s)) =
        let in_old : In old.refs (Some r) = subst (λ rs. In rs (Some r)) (ap (λ (w : Object). w.refs) (e ∙ s.1)) h in
        own k r s.0 (up_from m K t x is run' r.task (subst (λ a. OnePath par a (owner_of m.tasks r.task)) s.0 (I.of_object k r (field_of k r old was in_old)).2))

    altered : (store : List (List Object)) → Alters p m t x store → (k r : Name) (o : Object) → object_at store k ≡ Some o → o.mutable ≡ false → In o.refs (Some r) → Up par jd r.task k.task
    altered store (inl e) k r o at f h = U k r o (ap (λ w. object_at w k) (sym e) ∙ at) f h
    altered store (inr (line, il, inl e)) k r o at f h = U k r o (ap (λ w. object_at w k) (sym e) ∙ at) f h
    altered store (inr (line, il, inr (inl a))) k r o at f h =
        elim (made_cases m.store t a.new k o (ap (λ w. object_at w k) (sym a.is) ∙ at)) [
          | inl new ↦
              let g = a.fields r (subst (λ (w : Object). In w.refs (Some r)) new.2 h) in
              own k r (ap (owner_in par jd) new.0 ∙ owner_here par jd t t live) (held r g.1)
          | inr old ↦ U k r o old f h
        ]
    altered store (inr (line, il, inr (inr w))) k r o at f h =
        elim (put_cases m.store w.name w.new k o (ap (λ s. object_at s k) (sym w.is) ∙ at)) [
          | inl here ↦
              ap (λ (n : Name). path_in par (owner_in par jd r.task) (owner_in par jd n.task)) here.0
              ∙ frozen_now w.name r w.old w.new o w.was here.1 f h w.how
          | inr old ↦ U k r o old f h
        ]

    replaced : (y : Task) (store : List (List Object)) → y.parent ≡ x.parent → is_over y.status ≡ is_over x.status → Upward par jd store → Upward (parents (slice_set m.tasks t y)) (joined (slice_set m.tasks t y)) store
    replaced y store ep ed V =
        subst (λ f. Upward f (joined (slice_set m.tasks t y)) store) (sym (same_view parent_of m.tasks t x y is ep))
        (subst (λ f. Upward par f store) (sym (same_view is_joined m.tasks t x y is ed)) V)

  pub upward_step : UpIn (step p m t)
  upward_step =
      step_cases p m t K UpIn U (λ x e is run' why. U)
      (λ x y store outs is run' ep edp es ej names fields alters grows. replaced x is run' y store ep (ap is_over es) (altered x is run' store alters))
      (λ x parent e is run' pp which result. replaced x is run' (ended_task x (result_of x.top)) m.store refl (sym (running_tells x.status run').0) U)
      (λ x g h is run' next top k r o at f i.
      let old = empty_rows m.store k.task k.count o at in
      let b = I.of_object k r (field_of k r o old i) in
      up_forked p m t K I x g h is run' top r.task k.task b.1 b.0 (U k r o old f i))
      (λ parent l xp xl xr rl rr ip il ir pl left dl dr wl wr nl nr side k r o at f i.
      up_joined p m t K I parent l xp xl xr rl rr ip il ir pl left dl dr wl wr nl nr r.task k.task (U k r o at f i))

upward_from : (p : ProgramText) (m : MachineState) (ts : List ℕ) → IsForkJoinState m → Disentangled m.tasks m.store → Upward (parents m.tasks) (joined m.tasks) m.store
    → Upward (parents (run_from p m ts).tasks) (joined (run_from p m ts).tasks) (run_from p m ts).store
upward_from p m [] K I U = U
upward_from p m (t ∷ ts) K I U = upward_from p (step p m t) ts (step_is_fork_join_state p m t K) (disentangled_step p m t K I) (upward_step p m t K I U)

no_objects_yet : (p : ProgramText) (limit : ℕ) → Upward (parents (start p limit).tasks) (joined (start p limit).tasks) (start p limit).store
no_objects_yet p limit k r o at f h = absurd (no_refs k.task k.count r (subst (λ w. In (refs_of w) r) (sym at) (named_from_in o.refs r h)))

pub run_upward : (p : ProgramText) (limit : ℕ) (ts : List ℕ) → Upward (parents (run p limit ts).tasks) (joined (run p limit ts).tasks) (run p limit ts).store
run_upward p limit ts = upward_from p (start p limit) ts (start_is_fork_join_state p limit) (start_disentangled p limit) (no_objects_yet p limit)

pub frozen_reads_go : FrozenReadsGo
frozen_reads_go p limit ts t x n o H frozen =
    let m = run p limit ts in
    let K = run_is_fork_join_state p (start p limit) ts (start_is_fork_join_state p limit) in
    let I = run_disentangled p limit ts in
    let own = (I.of_task t x n H.task (in_from_contains (task_names x) n H.name)).1 in
    reads_freely m K I (run_stored p limit ts) t x H.task H.running n o (o, H.object) H.object
    (λ r h. path_along (parents m.tasks) K.tree.low (owner_of m.tasks r.task) (owner_of m.tasks n.task) t (run_upward p limit ts n r o H.object frozen h) own)
