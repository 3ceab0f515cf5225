-- Reads that are never stopped, and the owner that a stop names.
use Rattle.path_laws.proofs.Common.{◌≡◌, ℕ, true, false, cond, Option, Some, None, List, [], ◌∷◌, length, slice_get, slice_set, ◌⊎◌, inl, inr, refl, ap, sym, subst, ◌∙◌, is_some, option_flatten, cases_eq, both_ways, same_Some, In, in_from_contains, contains_from_in, none_some, ProgramText, Name, Object, Task, End, Done, Trapped, Entangled, Nil, MachineState, Goes, Stops, object_at, onward, or_trap, read_effect, with_ref, ref_in, task_names, refs_at, refs_of, Precedes, precedes, ended_by, is_running, is_waiting, joined, parents, path_in, is_on_path, owner_of, run, run_from, start, setting, step, strand_of, child, ended_task, result_of, IsStored, path_itself, named_from_in, at_in, waiting, joins_in, running_tells, not_above, owner_not_joined, IsForkJoinState, seen, start_is_fork_join_state, run_is_fork_join_state, step_is_fork_join_state, Closed, Halts, step_cases, names_run, runs_is, in_registers, ReadsFreely, OwnReadsGo, IsReadStop, StopsNameOwners}
use Rattle.path_laws.proofs.Disentangled.{Disentangled, OnePath, disentangled_step, start_disentangled}
use Rattle.path_laws.proofs.Stored.{run_stored}

disentangled_from : (p : ProgramText) (m : MachineState) (ts : List ℕ) → IsForkJoinState m → Disentangled m.tasks m.store → Disentangled (run_from p m ts).tasks (run_from p m ts).store
disentangled_from p m [] K I = I
disentangled_from p m (t ∷ ts) K I = disentangled_from p (step p m t) ts (step_is_fork_join_state p m t K) (disentangled_step p m t K I)

pub run_disentangled : (p : ProgramText) (limit : ℕ) (ts : List ℕ) → Disentangled (run p limit ts).tasks (run p limit ts).store
run_disentangled p limit ts = disentangled_from p (start p limit) ts (start_is_fork_join_state p limit) (start_disentangled p limit)

module _ (m : MachineState) (K : IsForkJoinState m) (t : ℕ) (x : Task) (is : slice_get m.tasks t ≡ Some x) (run' : is_running (Some x) ≡ true) where
  idle : waiting m.tasks t ≡ false
  idle = ap is_waiting is ∙ (running_tells x.status run').1

  -- a task on one path with a running task is its ancestor
  pub up_from : (a : ℕ) → OnePath (parents m.tasks) t (owner_of m.tasks a) → is_on_path m.tasks (owner_of m.tasks a) t ≡ true
  up_from a (inr h) = h
  up_from a (inl h) = elim (cases_eq t (owner_of m.tasks a)) [
    | inl e ↦ ap (λ o. is_on_path m.tasks o t) (sym e) ∙ path_itself (parents m.tasks) K.tree.low t
    | inr ne ↦
        absurd (both_ways (path_in (parents m.tasks) t (owner_of m.tasks a))
        (not_above (length m.tasks) (parents m.tasks) (joined m.tasks) (waiting m.tasks) (joins_in m.tasks) m.edges K.tree t (owner_of m.tasks a)
        (owner_not_joined (length m.tasks) (parents m.tasks) (joined m.tasks) (waiting m.tasks) (joins_in m.tasks) m.edges K.tree a) ne idle) h)
  ]

module _ (m : MachineState) (K : IsForkJoinState m) (I : Disentangled m.tasks m.store) (S : Closed m.tasks m.store (IsStored m)) (t : ℕ) (x : Task) (is : slice_get m.tasks t ≡ Some x) (run' : is_running (Some x) ≡ true) where
  -- if the owners of what an object's fields name are on the task's path, its reads of them are never stopped
  module _ (n : Name) (o : Object) (held : IsStored m n) (at_n : object_at m.store n ≡ Some o) (above : (r : Name) → In o.refs (Some r) → is_on_path m.tasks (owner_of m.tasks r.task) t ≡ true) where
    stored : (r : Name) → In o.refs (Some r) → IsStored m r
    stored r h = S.of_object n r held (subst (λ w. In (refs_of w) r) (sym at_n) (named_from_in o.refs r h))

    test : (r : Name) (q : Object) → In o.refs (Some r) → object_at m.store r ≡ Some q → precedes m.edges q.strand (strand_of t x) ≡ true
    test r q h e = seen m K t x r q is run' e ∙ above r h

    yields : (d : ℕ) (r : Option Name) → ((q : Name) → r ≡ Some q → In o.refs (Some q)) → read_effect (setting m t x) x.top m.store d r ≡ Goes (onward (with_ref x.top d r)) m.store
    yields d None from = refl
    yields d (Some r) from =
        let s = stored r (from r refl) in
        ap (λ w. or_trap Nil w (λ q. cond (precedes m.edges q.strand (strand_of t x)) (Goes (onward (with_ref x.top d (Some r))) m.store) (Stops r))) s.1
        ∙ ap (λ b. cond b (Goes (onward (with_ref x.top d (Some r))) m.store) (Stops r)) (test r s.0 (from r refl) s.1)

    pub reads_freely : ReadsFreely m t x o
    reads_freely = record {
      precede = λ r c.
          let h = in_from_contains o.refs (Some r) c in
          let s = stored r h in
          (s.0, s.1, (K.tree.right s.0.strand (strand_of t x)).0 (test r s.0 h s.1));
      goes = λ at d. yields d (option_flatten (slice_get o.refs at)) (λ q e. at_in o.refs at q e);
    }

  pub own_reads : (n : Name) (o : Object) → In (task_names x) n → object_at m.store n ≡ Some o → owner_of m.tasks n.task ≡ t → ReadsFreely m t x o
  own_reads n o held at_n own =
      reads_freely n o (o, at_n) at_n (λ r h.
      up_from m K t x is run' r.task (subst (λ a. OnePath (parents m.tasks) a (owner_of m.tasks r.task)) own (I.of_object n r (subst (λ w. In (refs_of w) r) (sym at_n) (named_from_in o.refs r h))).2))

pub own_reads_go : OwnReadsGo
own_reads_go p limit ts t x n o H own =
    own_reads (run p limit ts) (run_is_fork_join_state p (start p limit) ts (start_is_fork_join_state p limit)) (run_disentangled p limit ts) (run_stored p limit ts) t x H.task H.running n o
    (in_from_contains (task_names x) n H.name) H.object own

module _ (p : ProgramText) (m : MachineState) (t : ℕ) (K : IsForkJoinState m) where
  abbrev Named : MachineState → Type 0
  Named m' = (reader owner : ℕ) → m'.end ≡ Some (Entangled reader owner) → (m.end ≡ Some (Entangled reader owner)) ⊎ ((reader ≡ t) × IsReadStop m t owner)

  same_end : (m' : MachineState) → m'.end ≡ m.end → Named m'
  same_end m' e reader owner h = inl (sym e ∙ h)

  pub named_stop : Named (step p m t)
  named_stop =
      step_cases p m t K Named (same_end m refl) halts (λ x y store outs is run ep ed es ej names fields alters grows reader owner h. inl h)
      ends (λ x g h is run next top reader owner e. inl e) (λ parent l xp xl xr rl rr ip il ir pl left dl dr wl wr nl nr side reader owner e. inl e)
    where
      halts : (x : Task) (e : End) → slice_get m.tasks t ≡ Some x → is_running (Some x) ≡ true → Halts p m t x e → Named (ended_by m e)
      halts x e is run' (inl trap) reader owner h = absurd (trapped trap.2 (same_Some e (Entangled reader owner) h))
        where
          trapped : e ≡ Trapped trap.0 t trap.1 → e ≡ Entangled reader owner → ⊥
          trapped a b = cc
      halts x e is run' (inr stop) reader owner h =
          let same : Entangled t (owner_of m.tasks stop.0.task) ≡ Entangled reader owner = sym stop.3 ∙ same_Some e (Entangled reader owner) h in
          let r : reader ≡ t = cc in
          let o : owner ≡ owner_of m.tasks stop.0.task = cc in
          inr (
            r,
            record {
              name = stop.0;
              source = stop.4.source;
              field = contains_from_in (refs_at m.store stop.4.source) stop.0 stop.4.field;
              task = x;
              is = is;
              named = contains_from_in (task_names x) stop.4.source (names_run x stop.4.source (runs_is x.status run') (in_registers (x.top ∷ x.below) x.top stop.4.source (inl refl) stop.4.held));
              apart = λ w.
                  both_ways (precedes m.edges stop.4.object.strand (strand_of t x)) stop.4.apart
                  ((K.tree.right stop.4.object.strand (strand_of t x)).1
                  (subst (λ (q : Object). Precedes m.edges q.strand (strand_of t x)) (same_Some w.0 stop.4.object (sym w.1 ∙ stop.4.is)) w.2));
              owns = o;
              live = ap (joined m.tasks) o ∙ owner_not_joined (length m.tasks) (parents m.tasks) (joined m.tasks) (waiting m.tasks) (joins_in m.tasks) m.edges K.tree stop.0.task;
              off_path = ap (λ a. is_on_path m.tasks a t) o ∙ (sym (seen m K t x stop.0 stop.4.object is run' stop.4.is) ∙ stop.4.apart);
            },
          )

      ends : (x : Task) (parent : Option ℕ) (e : Option End) → slice_get m.tasks t ≡ Some x → is_running (Some x) ≡ true → x.parent ≡ parent
          → ((parent ≡ None) × (e ≡ Some Done)) ⊎ (is_some parent ≡ true) × (e ≡ m.end)
          → ((r : Name) → ref_in x.top 0 ≡ Some r → In (task_names x) r)
          → Named (record m { tasks = slice_set m.tasks t (ended_task x (result_of x.top)); end = e })
      ends x parent e is run' pp (inl root) result reader owner h = absurd (done (sym root.1 ∙ h))
        where
          done : Some Done ≡ Some (Entangled reader owner) → ⊥
          done a = cc
      ends x parent e is run' pp (inr child) result reader owner h = inl (sym child.1 ∙ h)

pub stops_name_owners : StopsNameOwners
stops_name_owners p limit ts t reader owner none h =
    elim (named_stop p (run p limit ts) t (run_is_fork_join_state p (start p limit) ts (start_is_fork_join_state p limit)) reader owner h) [
      | inl was ↦ none_some (sym none ∙ was)
      | inr stop ↦ stop
    ]
