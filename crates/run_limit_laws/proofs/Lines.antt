-- All lines of a run are within the limits.
use Rattle.run_limit_laws.proofs.Common.{◌≡◌, ◌<◌, ◌≤◌, ◌+◌, ℕ, zero, suc, Bool, true, false, cond, Option, Some, None, IfSome, List, [], ◌∷◌, ◌++◌, length, slice_get, replicate, refl, ap, sym, subst, ◌∙◌, arith, length-append, inl, length-replicate, slice_get_within, Counted, task_names, step, run, start, fetched, can_step, is_running, IsStored, MachineState, Name, Task, runs_are_counted, run_push, IsForkJoinState, run_is_fork_join_state, start_is_fork_join_state, limit_stays, sizes_are_bounded, names_run, in_registers, runs_is, can_task, names_are_stored, IsLogNumber, IsLine, IsAct, LogLine, HasName, AllFunctionsNamed, act_line, entry_lines, lines_from, lines_of_deed, moved_lines, step_lines, steps_lines, strand_lines, lines_of, In, contains_from_in, all_at, ProgramText, Line, Fun, code_of, line_at, spot_after, Event, Spot, file_begin, spot_behind, Deed, deed, deed_of, act_of, act_by, step_act_of, machine_after, stepped, is_legal, tasks_in, tasks_of, EntryValue, SettingsValue, field_limit, Kind, Took, Ran, Chunk, Begin, End, PutOff, Mark, More, Sweep, Fuel, Version, One, Two, legal_ready, spot, All, AllByRecursion, All-from_recursion, logs_cut, logs_told, FitInLog, IsSmallRun, LogsAreWithinLimits, LogsTellRuns}
use Rattle.run_turn_laws.proofs.Along as along
use Rattle.run_limit_laws.proofs.Numbers.{deed_fits}
use Rattle.run_limit_laws.proofs.Steps.{fit_both, act_fits, few_tasks, few_joins, stored_fits, made_fits, sizes_fit, count_fits, moved_fits}

-- the line that a task fetches has a number that fits
line_named : (p : ProgramText) → AllFunctionsNamed p → (f place : ℕ) (line : Line) → line_at p f place ≡ Some line → IsLogNumber line.number
line_named p named f place line e = by (slice_get p.functions f) refl e
  where
    by : (o : Option Fun) → slice_get p.functions f ≡ o → slice_get (code_of o) place ≡ Some line → IsLogNumber line.number
    by None is h = absurd cc
    by (Some g) is h = let N : HasName g = all_at HasName p.functions f g named is in all_at (λ (l : Line). IsLogNumber l.number) g.code place line N.numbers h

module _ (p : ProgramText) (limit : ℕ) (small : limit ≤ 1000000) (named : AllFunctionsNamed p) where
  abbrev Q : List ℕ → List Event → Type 0
  Q ts events = Unit {0}

  abbrev M : List ℕ → MachineState
  M ts = run p limit ts

  abbrev Known : List ℕ → MachineState → Spot → Type 0
  Known = along.Known p limit Q (λ ts t k events run q. tt) (λ ts t events none same q. tt) (λ ts t x line events can is at q. tt)

  abbrev KnownAt : List ℕ → MachineState → ℕ → Spot → Type 0
  KnownAt = along.KnownAt p limit Q (λ ts t k events run q. tt) (λ ts t events none same q. tt) (λ ts t x line events can is at q. tt)

  limit_fits : (ts : List ℕ) → (M ts).field_limit ≤ 1000000
  limit_fits ts = subst (λ k. k ≤ 1000000) (sym (limit_stays p limit ts)) small

  -- A STEP

  module _ (ts : List ℕ) (few : length ts + 1 < 500000000) (t : ℕ) (s : Spot) (K : KnownAt ts (M ts) t s) where
    abbrev m : MachineState
    m = M ts

    abbrev m' : MachineState
    m' = M (ts ++ t ∷ [])

    next : m' ≡ step p m t
    next = run_push p (start p limit) ts t

    C : Counted (length ts) m.tasks m.store
    C = runs_are_counted p limit ts

    one_more : length (ts ++ t ∷ []) ≡ length ts + 1
    one_more = length-append ts (t ∷ [])

    module _ (x : Task) (line : Line) (can : can_step m t ≡ true) (is : slice_get m.tasks t ≡ Some x) (run : is_running (Some x) ≡ true) (at : fetched p x.top ≡ Some line) where
      held : (r : Name) → In x.top.refs (Some r) → IsStored m r
      held r i = (names_are_stored p limit ts).named t x r is (contains_from_in (task_names x) r (names_run x r (runs_is x.status run) (in_registers (x.top ∷ x.below) x.top r (inl refl) i)))

      deed_by : (o : Option Deed) → deed m t x.top line.instr ≡ o → IfSome (along.act_told m' line.number o) IsAct
      deed_by None e = tt
      deed_by (Some d) e =
          deed_fits m m' t x.top line.number (names_are_stored p limit ts) (stored_fits m (length ts) C (omega (arith, few))) (made_fits m (length ts) C (omega (arith, few)) t (slice_get_within m.tasks t x is))
          (count_fits m' (sizes_are_bounded p limit (ts ++ t ∷ [])) (limit_fits (ts ++ t ∷ []))) (sizes_fit m (sizes_are_bounded p limit ts) (limit_fits ts)) held (line_named p named x.top.function x.top.next line at) line.instr d e

      act_now : IfSome (along.step_act p m t x line) IsAct
      act_now = subst (λ (q : MachineState). IfSome (along.act_told q line.number (deed m t x.top line.instr)) IsAct) next (deed_by (deed m t x.top line.instr) refl)

      turns_now : FitInLog (spot (Some (along.strand_now m t)) (s.events ++ along.on_strand (along.strand_now m t) (along.step_act p m t x line))) (moved_lines (length m.tasks) (step p m t) t (slice_get (step p m t).tasks t))
      turns_now =
          let C' = runs_are_counted p limit (ts ++ t ∷ []) in
          let o = one_more in
          let K' : IsForkJoinState m' = run_is_fork_join_state p (start p limit) (ts ++ t ∷ []) (start_is_fork_join_state p limit) in
          subst (λ (q : MachineState). FitInLog (spot (Some (along.strand_now m t)) (s.events ++ along.on_strand (along.strand_now m t) (along.step_act p m t x line))) (moved_lines (length m.tasks) q t (slice_get q.tasks t))) next
          (moved_fits (length m.tasks) m' t (few_tasks m (length ts) C (omega (arith, few))) (few_tasks m' (length (ts ++ t ∷ [])) C' (omega (arith, few, o))) (few_joins m' (length (ts ++ t ∷ [])) C' (omega (arith, few, o)))
          K'.tree.low false (s.events ++ along.on_strand (along.strand_now m t) (along.step_act p m t x line)) (along.strand_now m t))

      taken : FitInLog s (step_lines p m t)
      taken =
          subst (FitInLog s) (sym (along.lined p limit Q (λ ts t k events run q. tt) (λ ts t events none same q. tt) (λ ts t x line events can is at q. tt) ts t x line s K can is run at))
          (fit_both s (act_line (along.step_act p m t x line)) (moved_lines (length m.tasks) (step p m t) t (slice_get (step p m t).tasks t)) (act_fits s (along.strand_now m t) (K.1 (ap is_running is ∙ run)) (along.step_act p m t x line) act_now)
          (subst (λ r. FitInLog r (moved_lines (length m.tasks) (step p m t) t (slice_get (step p m t).tasks t)))
          (sym (along.first_spot p limit Q (λ ts t k events run q. tt) (λ ts t events none same q. tt) (λ ts t x line events can is at q. tt) ts t x line s K can is run at)) turns_now))

    nothing : act_of p m t ≡ None → FitInLog s (step_lines p m t)
    nothing none = subst (FitInLog s) (sym (ap (λ a. lines_of_deed (length m.tasks) (stepped p m t 1) t (deed_of a)) none)) tt

    by_line : (x : Task) (o : Option Line) → can_step m t ≡ true → slice_get m.tasks t ≡ Some x → is_running (Some x) ≡ true → fetched p x.top ≡ o → FitInLog s (step_lines p m t)
    by_line x None can is run at = nothing (ap (λ b. cond b (act_by p m t (slice_get m.tasks t)) None) can ∙ (ap (act_by p m t) is ∙ ap (step_act_of m t x) at))
    by_line x (Some line) can is run at = taken x line can is run at

    by_can : (b : Bool) → can_step m t ≡ b → FitInLog s (step_lines p m t)
    by_can true can = let y = can_task m t can in by_line y.0 (fetched p y.0.top) can y.1 y.2 refl
    by_can false can = nothing (ap (λ b. cond b (act_by p m t (slice_get m.tasks t)) None) can)

    step_fits : FitInLog s (step_lines p m t)
    step_fits = by_can (can_step m t) refl

  -- SEVERAL STEPS

  steps_fit : (k : ℕ) (ts : List ℕ) (t : ℕ) (s : Spot) → length ts + k < 500000000 → KnownAt ts (M ts) t s → FitInLog s (steps_lines p (M ts) t k)
  steps_fit zero ts t s few K = tt
  steps_fit (suc k) ts t s few K =
      let us = ts ++ replicate k t in
      let r = spot_after s (steps_lines p (M ts) t k) in
      let J = along.steps p limit Q (λ ts t k events run q. tt) (λ ts t events none same q. tt) (λ ts t x line events can is at q. tt) k ts t s K in
      let e : stepped p (M ts) t k ≡ M us = J.0.is in
      let n : length us ≡ length ts + k = length-append ts (replicate k t) ∙ ap (λ j. length ts + j) (length-replicate k t) in
      fit_both s (steps_lines p (M ts) t k) (step_lines p (stepped p (M ts) t k) t) (steps_fit k ts t s (omega (arith, few)) K)
      (subst (λ q. FitInLog r (step_lines p q t)) (sym e) (step_fits us (omega (arith, few, n)) t r (subst (λ q. KnownAt us q t r) e J)))

  -- ENTRIES

  ran_fits : (ts : List ℕ) (t k : ℕ) (s : Spot) → length ts + k < 500000000 → Known ts (M ts) s → is_running (slice_get (M ts).tasks t) ≡ true → FitInLog s (entry_lines p (M ts) (Ran t k))
  ran_fits ts t k s few K run =
      let C = runs_are_counted p limit ts in
      let j = few_joins (M ts) (length ts) C (omega (arith, few)) t in
      let a = few_tasks (M ts) (length ts) C (omega (arith, few)) in
      let lt = there (slice_get (M ts).tasks t) refl run in
      fit_both s (strand_lines (M ts) t k) (steps_lines p (M ts) t k) (((omega (arith, a, lt), omega (arith, j)), tt), ((omega (arith, few), (along.strand_now (M ts) t, refl)), tt))
      (steps_fit k ts t (along.begun_spot p limit Q (λ ts t k events run q. tt) (λ ts t events none same q. tt) (λ ts t x line events can is at q. tt) ts t k s) few
      (along.begun p limit Q (λ ts t k events run q. tt) (λ ts t events none same q. tt) (λ ts t x line events can is at q. tt) ts t k s K run))
    where
      there : (o : Option Task) → slice_get (M ts).tasks t ≡ o → is_running o ≡ true → t < length (M ts).tasks
      there None e r = absurd cc
      there (Some x) e r = slice_get_within (M ts).tasks t x e

  entry_fits : (ts : List ℕ) (kind : Kind) (s : Spot) → length ts + length (tasks_in kind) < 500000000 → Known ts (M ts) s → along.IsReady (M ts) kind → FitInLog s (entry_lines p (M ts) kind)
  entry_fits ts (Took t) s few K r = tt
  entry_fits ts (Ran t k) s few K r = ran_fits ts t k s (let n = length-replicate k t in omega (arith, few, n)) K r
  entry_fits ts (Chunk t) s few K r = tt
  entry_fits ts (Begin t) s few K r = tt
  entry_fits ts (End t a g l) s few K r = tt
  entry_fits ts (PutOff t) s few K r = tt
  entry_fits ts (Mark t) s few K r = tt
  entry_fits ts (More t k) s few K r = tt
  entry_fits ts (Sweep t g) s few K r = tt
  entry_fits ts Fuel s few K r = tt

  entries_fit : (journal : List EntryValue) (ts : List ℕ) (s : Spot) → length ts + length (tasks_of journal) < 500000000 → Known ts (M ts) s → along.AreReady p (M ts) journal → FitInLog s (lines_from p (M ts) journal)
  entries_fit [] ts s few K R = tt
  entries_fit (e ∷ es) ts s few K R =
      let us = ts ++ tasks_in e.kind in
      let m = machine_after p (M ts) e.kind in
      let r = spot_after s (entry_lines p (M ts) e.kind) in
      let E : Known us m r = along.entry p limit Q (λ ts t k events run q. tt) (λ ts t events none same q. tt) (λ ts t x line events can is at q. tt) ts e.kind s K R.0 in
      let i : m ≡ M us = E.is in
      let n = length-append ts (tasks_in e.kind) in
      let all : length (tasks_of (e ∷ es)) ≡ length (tasks_in e.kind) + length (tasks_of es) = length-append (tasks_in e.kind) (tasks_of es) in
      fit_both s (entry_lines p (M ts) e.kind) (lines_from p m es) (entry_fits ts e.kind s (omega (arith, few, all)) K R.0)
      (subst (λ q. FitInLog r (lines_from p q es)) (sym i) (entries_fit es us r (omega (arith, few, all, n)) (subst (λ q. Known us q r) i E) (subst (λ q. along.AreReady p q es) i R.1)))

pub small_limit : (v : Version) → field_limit v ≤ 1000000
small_limit One = omega arith
small_limit Two = omega arith

pub logs_are_within_limits : LogsAreWithinLimits
logs_are_within_limits p s journal legal small =
    entries_fit p (field_limit s.version) (small_limit s.version) small.names journal [] (file_begin []) (let few = small.steps in omega (arith, few))
    (record { is = refl; unclosed = refl; tell = record { turns = λ t. refl; order = tt }; also = tt }) (legal_ready p s journal legal)

fit_lines : (s : Spot) (ls : List LogLine) → FitInLog s ls → AllByRecursion IsLine ls
fit_lines s [] h = tt
fit_lines s (l ∷ ls) h = (h.0.0, fit_lines (spot_behind s l) ls h.1)

pub lines_within : (p : ProgramText) (s : SettingsValue) (journal : List EntryValue) → is_legal p s journal ≡ true → IsSmallRun p journal → All IsLine (lines_of p s journal)
lines_within p s journal legal small = All-from_recursion IsLine (lines_of p s journal) (fit_lines (file_begin []) (lines_of p s journal) (logs_are_within_limits p s journal legal small))

pub logs_tell_runs : LogsTellRuns
logs_tell_runs p s journal legal small =
    let within = lines_within p s journal legal small in
    record { tells = logs_told p s journal small.names within; cut = logs_cut p s journal legal small.names within }
