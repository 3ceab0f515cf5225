-- Every frame names only tasks that exist, also the frames of ended tasks.
use Rattle.schedule_laws.proofs.Common.{◌≡◌, ℕ, zero, suc, ◌+◌, ◌<◌, true, Option, Some, List, [], ◌∷◌, length, slice_get, slice_set, ◌⊎◌, inl, inr, refl, ap, sym, subst, ◌∙◌, arith, false≢true, In, contains_from_in, got_cases, ProgramText, Name, Object, Frame, TaskStatus, Running, Waiting, Ended, Joined, Task, MachineState, Disentangled, object_at, onward, names_from, registers, task_names, child, ended_task, is_running, joined_task, result_of, resumed, run, run_from, runs, start, step, waits, NamesAreStoredIn, IsForkJoinState, grown_cases, three_cases, disentangled_step, start_disentangled, start_is_fork_join_state, step_is_fork_join_state, in_registers, step_cases, step_grows}

-- the frames of a task name tasks below n
abbrev pub LowFrames : ℕ → Task → Type 0
LowFrames n x = (f : Frame) → In (x.top ∷ x.below) f → (r : Name) → In f.refs (Some r) → r.task < n

abbrev pub LowIn : MachineState → Type 0
LowIn m = (v : ℕ) (x : Task) → slice_get m.tasks v ≡ Some x → LowFrames (length m.tasks) x

-- a task that runs or waits holds what its frames name
live_names : (x : Task) → (runs x.status ≡ true) ⊎ (waits x.status ≡ true) → (f : Frame) → In (x.top ∷ x.below) f → (r : Name) → In f.refs (Some r) → In (task_names x) r
live_names x h f i r j = live_names_by_cases x.status h (in_registers (x.top ∷ x.below) f r i j)
  where
    live_names_by_cases : (s : TaskStatus) → (runs s ≡ true) ⊎ (waits s ≡ true) → In (registers (x.top ∷ x.below)) r → In (names_from s (x.top ∷ x.below)) r
    live_names_by_cases Running h k = k
    live_names_by_cases Waiting h k = k
    live_names_by_cases (Ended a b) (inl h) k = absurd (false≢true h)
    live_names_by_cases (Ended a b) (inr h) k = absurd (false≢true h)
    live_names_by_cases Joined (inl h) k = absurd (false≢true h)
    live_names_by_cases Joined (inr h) k = absurd (false≢true h)

live_low : (m : MachineState) → Disentangled m.tasks m.store → (v : ℕ) (x : Task) → slice_get m.tasks v ≡ Some x → (runs x.status ≡ true) ⊎ (waits x.status ≡ true) → LowFrames (length m.tasks) x
live_low m D v x is live f i r j = (D.of_task v x r is (live_names x live f i r j)).0

module _ (p : ProgramText) (m : MachineState) (t : ℕ) (K : IsForkJoinState m) (D : Disentangled m.tasks m.store) (L : LowIn m) where
  -- a task whose frames it had before, or that runs or waits
  abbrev OldOrLive : List Task → Type 0
  OldOrLive ts = (v : ℕ) (x : Task) → slice_get ts v ≡ Some x → LowFrames (length m.tasks) x ⊎ ((runs x.status ≡ true) ⊎ (waits x.status ≡ true))

  old : OldOrLive m.tasks
  old v x is = inl (L v x is)

  wrote : (y : Task) → LowFrames (length m.tasks) y ⊎ ((runs y.status ≡ true) ⊎ (waits y.status ≡ true)) → OldOrLive (slice_set m.tasks t y)
  wrote y h v x is = elim (got_cases m.tasks t v y x is) [
    | inl here ↦ subst (λ w. LowFrames (length m.tasks) w ⊎ ((runs w.status ≡ true) ⊎ (waits w.status ≡ true))) (sym here.1) h
    | inr other ↦ inl (L v x other)
  ]

  stepped : OldOrLive (step p m t).tasks
  stepped =
      step_cases p m t K (λ m'. OldOrLive m'.tasks) old (λ x e is run why. old)
      (λ x y store outs is run ep ed es ej names fields alters grows. wrote y (inr (inl (ap runs es ∙ run))))
      (λ x parent e is run pp which result. wrote (ended_task x (result_of x.top)) (inl (L t x is)))
      (λ x g h is run next top v z iz. elim (grown_cases (slice_set m.tasks t (record x { status = Waiting; top = onward x.top })) (child t (x.depth + 1) g x.top) (child t (x.depth + 1) h x.top) v z iz) [
        | inl o ↦ wrote (record x { status = Waiting; top = onward x.top }) (inr (inr refl)) v z o
        | inr more ↦ elim more [
          | inl e ↦ inr (inl (ap (λ (w : Task). runs w.status) e.1))
          | inr e ↦ inr (inl (ap (λ (w : Task). runs w.status) e.1))
        ]
      ])
      (λ parent l xp xl xr rl rr ip il ir pl left dl dr wl wr nl nr side v z iz. elim (three_cases m.tasks l parent (joined_task xl) (joined_task xr) (resumed xp rl rr) v z iz) [
        | inl top ↦ inr (inl (ap (λ (w : Task). runs w.status) top.1))
        | inr more ↦ elim more [
          | inl a ↦ inl (subst (λ w. LowFrames (length m.tasks) w) (sym a) (L (l + 1) xr ir))
          | inr rest ↦ elim rest [
            | inl a ↦ inl (subst (λ w. LowFrames (length m.tasks) w) (sym a) (L l xl il))
            | inr o ↦ inl (L v z o)
          ]
        ]
      ])

  pub low_step : LowIn (step p m t)
  low_step v x is = elim (stepped v x is) [
    | inl low ↦ (λ f i r j. (let a : r.task < length m.tasks = low f i r j in let b = step_grows p m t K in omega arith))
    | inr live ↦ live_low (step p m t) (disentangled_step p m t K D) v x is live
  ]

pub low_from : (p : ProgramText) (m : MachineState) (ts : List ℕ) → IsForkJoinState m → Disentangled m.tasks m.store → LowIn m → LowIn (run_from p m ts)
low_from p m [] K D L = L
low_from p m (t ∷ ts) K D L = low_from p (step p m t) ts (step_is_fork_join_state p m t K) (disentangled_step p m t K D) (low_step p m t K D L)

pub run_low : (p : ProgramText) (limit : ℕ) (ts : List ℕ) → LowIn (run p limit ts)
run_low p limit ts = low_from p (start p limit) ts (start_is_fork_join_state p limit) (start_disentangled p limit) start_low
  where
    start_low : LowIn (start p limit)
    start_low v x is = live_low (start p limit) (start_disentangled p limit) v x is (start_low_by_cases v is)
      where
        start_low_by_cases : (v : ℕ) → slice_get (start p limit).tasks v ≡ Some x → (runs x.status ≡ true) ⊎ (waits x.status ≡ true)
        start_low_by_cases zero e = inl (ap (λ (o : Option Task). is_running o) (sym e))
        start_low_by_cases (suc v) e = absurd cc

-- an object's strand and what its fields name
pub object_low : (m : MachineState) → IsForkJoinState m → NamesAreStoredIn m → (n : Name) (o : Object) → object_at m.store n ≡ Some o → (o.strand.task < length m.tasks) × ((r : Name) → In o.refs (Some r) → r.task < length m.tasks)
object_low m K N n o is = (
  (K.store_of n o is).1.0,
  (λ r i. (let z = N.in_fields n r o is (contains_from_in o.refs (Some r) i) in let k = K.store_of r z.0 z.1 in let lt : z.0.strand.task < length m.tasks = k.1.0 in let e : z.0.strand.task ≡ r.task = k.0 in omega arith)),
)
