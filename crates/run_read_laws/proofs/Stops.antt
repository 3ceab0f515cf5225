-- A step on which the run is stopped.
use Rattle.run_read_laws.proofs.Common.{◌≡◌, ℕ, true, Bool, Option, Some, None, slice_get, slice_set, ◌⊎◌, inl, inr, refl, ap, sym, ◌∙◌, false≢true, same_Some, option_flatten, is_some, StopsAt, IsForkJoinState, step_cases, Halts, ref_in, task_names, can_step, fetched, goes_on, is_running, step, setting, ended_by, ended_task, result_of, owner_of, End, Done, Trapped, Entangled, MachineState, Name, Task, In, ProgramText, Line, Getr, deed}
use Rattle.run_turn_laws.specs.below.run_deltas as deeds

ended_goes : (o : Option End) (runs : Bool) (e : End) → goes_on o runs ≡ true → o ≡ Some e → ⊥
ended_goes None runs e g h = cc
ended_goes (Some z) runs e g h = false≢true g

-- where a task can take a step, the machine hasn't ended
pub unended : (m : MachineState) (t : ℕ) (e : End) → can_step m t ≡ true → m.end ≡ Some e → ⊥
unended m t e can h = ended_goes m.end (is_running (slice_get m.tasks t)) e can h

module _ (p : ProgramText) (m : MachineState) (t : ℕ) (K : IsForkJoinState m) where
  -- the step of t to m' is a read that is stopped
  pub record Stop (m' : MachineState) (reader owner : ℕ) : Type 0 where
    pub task : Task
    pub line : Line
    pub name : Name
    pub is : slice_get m.tasks t ≡ Some task
    pub next : fetched p task.top ≡ Some line
    pub at : StopsAt (setting m t task) task.top line.instr m.store name
    pub by : reader ≡ t
    pub of : owner ≡ owner_of m.tasks name.task
    pub state : m' ≡ ended_by m (Entangled t (owner_of m.tasks name.task))

  abbrev pub StopIn : MachineState → Type 0
  StopIn m' = (reader owner : ℕ) → m'.end ≡ Some (Entangled reader owner) → (m.end ≡ Some (Entangled reader owner)) ⊎ Stop m' reader owner

  same_end : (m' : MachineState) → m'.end ≡ m.end → StopIn m'
  same_end m' e reader owner h = inl (sym e ∙ h)

  pub stop_in : StopIn (step p m t)
  stop_in =
      step_cases p m t K StopIn (same_end m refl) halts (λ x y store outs is run ep ed es ej names fields alters grows reader owner h. inl h)
      ends (λ x g h is run next top reader owner e. inl e) (λ parent l xp xl xr rl rr ip il ir pl left dl dr wl wr nl nr side reader owner e. inl e)
    where
      halts : (x : Task) (e : End) → slice_get m.tasks t ≡ Some x → is_running (Some x) ≡ true → Halts p m t x e → StopIn (ended_by m e)
      halts x e is run (inl trap) reader owner h = absurd (trapped trap.2 (same_Some e (Entangled reader owner) h))
        where
          trapped : e ≡ Trapped trap.0 t trap.1 → e ≡ Entangled reader owner → ⊥
          trapped a b = cc
      halts x e is run (inr stop) reader owner h =
          let same : Entangled t (owner_of m.tasks stop.0.task) ≡ Entangled reader owner = sym stop.3 ∙ same_Some e (Entangled reader owner) h in
          let r : reader ≡ t = cc in
          let o : owner ≡ owner_of m.tasks stop.0.task = cc in
          inr (record { task = x; line = stop.1; name = stop.0; is = is; next = stop.2; at = stop.4; by = r; of = o; state = ap (ended_by m) stop.3 })

      ends : (x : Task) (parent : Option ℕ) (e : Option End) → slice_get m.tasks t ≡ Some x → is_running (Some x) ≡ true → x.parent ≡ parent
          → ((parent ≡ None) × (e ≡ Some Done)) ⊎ (is_some parent ≡ true) × (e ≡ m.end)
          → ((r : Name) → ref_in x.top 0 ≡ Some r → In (task_names x) r)
          → StopIn (record m { tasks = slice_set m.tasks t (ended_task x (result_of x.top)); end = e })
      ends x parent e is run pp (inl done) names reader owner h = absurd (over (sym done.1 ∙ h))
        where
          over : Some Done ≡ Some (Entangled reader owner) → ⊥
          over q = cc
      ends x parent e is run pp (inr same) names reader owner h = inl (sym same.1 ∙ h)

-- what such a step does
pub stop_deed : (m : MachineState) (t : ℕ) (x : Task) (line : Line) (n : Name) (S : StopsAt (setting m t x) x.top line.instr m.store n)
    → deed m t x.top line.instr ≡ Some (deeds.Reads S.source S.read.at (deeds.Reference (Some n)))
stop_deed m t x line n S =
    let R = S.read in
    let named = R.named in
    let is = R.is in
    let place = R.place in
    let e : deed m t x.top (Getr R.target R.register R.index) ≡ Some (deeds.Reads S.source R.at (deeds.Reference (option_flatten (slice_get R.object.refs R.at)))) = rw (named, is, place) refl in
    ap (deed m t x.top) R.instr_is ∙ (e ∙ ap (λ w. Some (deeds.Reads S.source R.at (deeds.Reference (option_flatten w)))) R.got)
