-- A fork records what was reachable within the heap just before it.
use Rattle.journal_laws.proofs.Common.{◌≡◌, ℕ, zero, suc, ◌+◌, ◌<◌, ◌==◌, ◌&&◌, not, Bool, true, Some, None, List, [], ◌∷◌, ◌++◌, length, filter, slice_get, slice_set, inl, inr, refl, ap, ap₂, sym, ◌∙◌, flat_map, false≢true, both_ways, cond-true, fun_ext, got_same, got_within, Par, Line, ProgramText, Name, Object, Waiting, Task, MachineState, onward, refs_at, refs_of, registers, words_asked, asked, asked_line, can_step, child, ended_task, fetched, is_running, is_waiting, joined_task, owner_of, parent_of, parents, result_of, resumed, step, waits, IsForkJoinState, waiting, asked_at, fork_owner, rows_same, path_same, running_tells, grown_at, grown_view_front, three_left, three_right, below, step_cases, frames_of, is_proper_ancestor, within, reached, reached_by, once_by, wait_run, can_tells}

-- REACHABILITY, in stores with the same references

reached_same : (store store' : List (List Object)) → refs_at store' ≡ refs_at store → (names roots : List Name) (k : ℕ) → reached_by store' names roots k ≡ reached_by store names roots k
reached_same store store' e names roots zero = refl
reached_same store store' e names roots (suc k) = ap₂ (λ f found. once_by f names found) e (reached_same store store' e names roots k)

abbrev within_by : (Name → List Name) → List (List Object) → List Name → List Name → (Name → Bool) → List Name → List Name
within_by refs store names regs above hs = reached store names (regs ++ flat_map refs (filter above hs))

-- THE MACHINE BEFORE AND AFTER

-- reachability within t's heap depends on the same
pub record SeesSame (m m' : MachineState) (t : ℕ) : Type 0 where
  pub registers : registers (frames_of (slice_get m'.tasks t)) ≡ registers (frames_of (slice_get m.tasks t))
  pub above : (n : Name) → is_proper_ancestor m'.tasks (owner_of m'.tasks n.task) t ≡ is_proper_ancestor m.tasks (owner_of m.tasks n.task) t
  pub refs : (n : Name) → refs_at m'.store n ≡ refs_at m.store n

module _ (p : ProgramText) (m : MachineState) (t : ℕ) (K : IsForkJoinState m) (can : can_step m t ≡ true) where
  abbrev Forked : MachineState → Type 0
  Forked m' = waiting m'.tasks t ≡ true → (asked p m t ≡ None) × SeesSame m m' t

  running : (x : Task) → slice_get m.tasks t ≡ Some x → is_running (Some x) ≡ true → waiting m.tasks t ≡ true → ⊥
  running x is run w = wait_run m t w (ap is_running is ∙ run)

  none_asked : (x : Task) (line : Line) (g h : ℕ) → slice_get m.tasks t ≡ Some x → is_running (Some x) ≡ true → fetched p x.top ≡ Some line → line.instr ≡ Par g h → asked p m t ≡ None
  none_asked x line g h is run at par = asked_at p m t x is run ∙ (ap (asked_line m.field_limit x.top) at ∙ ap (words_asked m.field_limit x.top) par)

  forks : (x : Task) (g h : ℕ) (m' : MachineState) → slice_get m.tasks t ≡ Some x → is_running (Some x) ≡ true
      → m'.tasks ≡ slice_set m.tasks t (record x { status = Waiting; top = onward x.top }) ++ child t (x.depth + 1) g x.top ∷ child t (x.depth + 1) h x.top ∷ []
      → m'.store ≡ m.store ++ [] ∷ [] ∷ [] → SeesSame m m' t
  forks x g h m' is run et es =
      let y : Task = record x { status = Waiting; top = onward x.top } in
      let cl : Task = child t (x.depth + 1) g x.top in
      let cr : Task = child t (x.depth + 1) h x.top in
      let all : List Task = slice_set m.tasks t y ++ cl ∷ cr ∷ [] in
      let lt : t < length m.tasks = got_within m.tasks t x is in
      record {
        registers = ap (λ ts. registers (frames_of (slice_get ts t))) et ∙ (ap (λ o. registers (frames_of o)) (grown_at m.tasks t x y cl cr is) ∙ ap (λ o. registers (frames_of o)) (sym is));
        above = λ n.
            ap (λ ts. is_proper_ancestor ts (owner_of ts n.task) t) et
            ∙ (ap (λ a. is_proper_ancestor all a t) (fork_owner m t K x g h is run n.task)
            ∙ ap (λ b. b && not (owner_of m.tasks n.task == t)) (path_same (parents m.tasks) (parents all) K.tree.low (length m.tasks) (λ v lv. grown_view_front m.tasks t x y cl cr is parent_of refl v lv) (owner_of m.tasks n.task) t lt));
        refs = λ n. ap (λ s. refs_at s n) es ∙ ap refs_of (rows_same m.store n.task n.count);
      }

  pub forked : Forked (step p m t)
  forked =
      step_cases p m t K Forked idle (λ x e is run why w. absurd (running x is run w))
      (λ x y store outs is run ep ed es ej names fields alters grows w.
      absurd (both_ways (waits x.status) (running_tells x.status run).1 (ap waits (sym es) ∙ (ap is_waiting (sym (got_same m.tasks t x y is)) ∙ w))))
      (λ x parent e is run pp which result w. absurd (false≢true (ap is_waiting (sym (got_same m.tasks t x (ended_task x (result_of x.top)) is)) ∙ w)))
      (λ x g h is run next top w. (none_asked x next.0 g h is run next.1 next.2, forks x g h _ is run refl refl))
      (λ parent l xp xl xr rl rr ip il ir pl left dl dr wl wr nl nr side w.
      let lt = below m.tasks m.edges l parent xl xr xp rl rr il ir ip pl left dl dr wl wr K.tree in
      let after : List Task = slice_set (slice_set (slice_set m.tasks l (joined_task xl)) (l + 1) (joined_task xr)) parent (resumed xp rl rr) in
      absurd (elim side [
        | inl q ↦ false≢true (ap is_waiting (sym (three_left m.tasks l parent xl xr xp (joined_task xl) (joined_task xr) (resumed xp rl rr) il ir ip lt)) ∙ (ap (waiting after) (sym q.0) ∙ w))
        | inr q ↦ false≢true (ap is_waiting (sym (three_right m.tasks l parent xl xr xp (joined_task xl) (joined_task xr) (resumed xp rl rr) il ir ip lt)) ∙ (ap (waiting after) (sym q.0) ∙ w))
      ]))
    where
      idle : Forked m
      idle w = absurd (wait_run m t w (can_tells m t can).1)
