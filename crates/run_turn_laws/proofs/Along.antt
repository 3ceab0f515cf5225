-- What the lines of a run tell, step by step.
use Rattle.run_turn_laws.proofs.Common.{◌≡◌, ◌*◌, ℕ, zero, suc, Bool, true, false, List, [], ◌∷◌, ◌++◌, length, slice_get, replicate, Option, Some, None, IfSome, arith, refl, ap, sym, subst, ◌∙◌, cond, append-nil, append_assoc, GraphStrand, strand as graph_strand, Act, LogLine, Event, event, Spot, strand_behind, file_begin, ProgramText, Line, IsForkJoinState, run_is_fork_join_state, start_is_fork_join_state, run_push, waiting, joins_in, running_tells, can_task, step_idle, step_none, is_running, can_step, fetched, step, run, start, is_waiting, MachineState, Task, EntryValue, Kind, Took, Ran, Chunk, Begin, End, PutOff, Mark, More, Sweep, Fuel, tasks_in, tasks_of, act_of, act_by, step_act_of as act_at, deed, deed_of, machine_after, stepped, Deed, act_of_deed, deed_lines, moved_lines, lines_of_deed, step_lines, steps_lines, strand_lines, entry_lines, lines_from, turns_of, open_turns, run_rows, spot_after, events_told, turn_by, TellEdges, Edge, act_line}
use Rattle.log_lines.specs.declared.line.Act.TheVariants as acts
use Rattle.run_log.specs.below.run_deltas.DeedVariants as deeds
use Rattle.run_log.specs.below.run_deltas.ValueVariants as values
use Rattle.run_turn_laws.proofs.Told.{spot, spot_both, after_on}
use Rattle.run_turn_laws.proofs.Moves.{tell_plain, Moved, moved}

-- WHAT A STEP DOES TO OBJECTS

-- an act after which its strand goes on
abbrev pub IsPlain : Act → Type 0
IsPlain a = (turn_by a ≡ []) × ((u : GraphStrand) → strand_behind u a ≡ Some u)

value_read_plain : (m : MachineState) (line : ℕ) (d : Deed) → IfSome (act_of_deed m line d) IsPlain
value_read_plain m line (deeds.Allocates n) = (refl, λ u. refl)
value_read_plain m line (deeds.Reads n at (values.Reference r)) = (refl, λ u. refl)
value_read_plain m line (deeds.Reads n at (values.Number k)) = (refl, λ u. refl)
value_read_plain m line (deeds.Counts n) = tt
value_read_plain m line (deeds.Writes n at (values.Reference r)) = (refl, λ u. refl)
value_read_plain m line (deeds.Writes n at (values.Number k)) = (refl, λ u. refl)
value_read_plain m line (deeds.Swaps n at r swapped) = (refl, λ u. refl)
value_read_plain m line (deeds.Freezes n) = tt
value_read_plain m line (deeds.Prints k) = tt

-- the act that a deed is told as, in the state that it led to
abbrev pub act_told : MachineState → ℕ → Option Deed → Option Act
act_told m line None = None
act_told m line (Some d) = act_of_deed m line d

pub told_plain : (m : MachineState) (line : ℕ) (d : Option Deed) → IfSome (act_told m line d) IsPlain
told_plain m line None = tt
told_plain m line (Some d) = value_read_plain m line d

pub told_lines : (m : MachineState) (line : ℕ) (d : Option Deed) → deed_lines m line d ≡ act_line (act_told m line d)
told_lines m line None = refl
told_lines m line (Some d) = refl

abbrev pub on_strand : GraphStrand → Option Act → List Event
on_strand u None = []
on_strand u (Some a) = event u a ∷ []

act_after : (u : GraphStrand) (events : List Event) (o : Option Act) → IfSome o IsPlain → spot_after (spot (Some u) events) (act_line o) ≡ spot (Some u) (events ++ on_strand u o)
act_after u events None h = ap (λ es. spot (Some u) es) (sym (append-nil events))
act_after u events (Some a) h = ap (λ here. record { here = here; closed = false; events = events ++ event u a ∷ [] }) (h.1 u)

-- THE EVENTS OF A STEP

-- the strand on which a task is, in the log
abbrev pub strand_now : MachineState → ℕ → GraphStrand
strand_now m t = graph_strand t (4 * joins_in m.tasks t)

-- what a step makes of tasks, after which the state is m'
abbrev pub turn_events : MachineState → MachineState → ℕ → List Event
turn_events m m' t = (spot_after (spot (Some (strand_now m t)) []) (moved_lines (length m.tasks) m' t (slice_get m'.tasks t))).events

abbrev pub step_act : ProgramText → MachineState → ℕ → Task → Line → Option Act
step_act p m t x line = act_told (step p m t) line.number (deed m t x.top line.instr)

-- a task runs when an entry with its steps begins
abbrev pub IsReady : MachineState → Kind → Type 0
IsReady m (Ran t k) = is_running (slice_get m.tasks t) ≡ true
IsReady m _ = Unit {0}

abbrev pub AreReady : ProgramText → MachineState → List EntryValue → Type 0
AreReady p m [] = Unit {0}
AreReady p m (e ∷ es) = IsReady m e.kind × AreReady p (machine_after p m e.kind) es

module _ (p : ProgramText) (limit : ℕ) (Q : List ℕ → List Event → Type 0)
    (work : (ts : List ℕ) (t k : ℕ) (events : List Event) → is_running (slice_get (run p limit ts).tasks t) ≡ true → Q ts events → Q ts (events ++ event (strand_now (run p limit ts) t) (acts.Work k) ∷ []))
    (idle : (ts : List ℕ) (t : ℕ) (events : List Event) → act_of p (run p limit ts) t ≡ None → step p (run p limit ts) t ≡ run p limit ts → Q ts events → Q (ts ++ t ∷ []) events)
    (takes : (ts : List ℕ) (t : ℕ) (x : Task) (line : Line) (events : List Event)
    → can_step (run p limit ts) t ≡ true → slice_get (run p limit ts).tasks t ≡ Some x → fetched p x.top ≡ Some line
    → Q ts events
    → Q (ts ++ t ∷ []) ((events ++ on_strand (strand_now (run p limit ts) t) (step_act p (run p limit ts) t x line)) ++ turn_events (run p limit ts) (step p (run p limit ts) t) t)) where
  abbrev M : List ℕ → MachineState
  M ts = run p limit ts

  fork_join : (ts : List ℕ) → IsForkJoinState (M ts)
  fork_join ts = run_is_fork_join_state p (start p limit) ts (start_is_fork_join_state p limit)

  pushed : (ts : List ℕ) (t : ℕ) → M (ts ++ t ∷ []) ≡ step p (M ts) t
  pushed ts t = run_push p (start p limit) ts t

  idle_of : (o : Option Task) → is_running o ≡ true → is_waiting o ≡ false
  idle_of None e = refl
  idle_of (Some x) e = (running_tells x.status e).1

  -- the strand of a task that runs is that to which its turns lead
  now_index : (ts : List ℕ) (t : ℕ) → is_running (slice_get (M ts).tasks t) ≡ true → (strand_now (M ts) t).index ≡ length (turns_of (M ts).edges t)
  now_index ts t run =
      let c = (run_rows p limit ts).count t in
      let z : open_turns (waiting (M ts).tasks t) ≡ 0 = ap open_turns (idle_of (slice_get (M ts).tasks t) run) in
      omega (arith, c, z)

  -- after steps of these tasks, what was told
  pub record Known (ts : List ℕ) (m : MachineState) (s : Spot) : Type 0 where
    pub is : m ≡ M ts
    pub unclosed : s.closed ≡ false
    pub tell : TellEdges m.edges s.events
    pub also : Q ts s.events

  -- and a task that runs is on its strand
  abbrev pub At : MachineState → ℕ → Spot → Type 0
  At m t s = is_running (slice_get m.tasks t) ≡ true → s.here ≡ Some (strand_now m t)

  abbrev pub KnownAt : List ℕ → MachineState → ℕ → Spot → Type 0
  KnownAt ts m t s = Known ts m s × At m t s

  abbrev Step : List ℕ → ℕ → Spot → Type 0
  Step ts t s = KnownAt (ts ++ t ∷ []) (step p (M ts) t) t (spot_after s (step_lines p (M ts) t))

  -- nothing is told of a step that isn't taken
  stays : (ts : List ℕ) (t : ℕ) (s : Spot) → KnownAt ts (M ts) t s → act_of p (M ts) t ≡ None → step p (M ts) t ≡ M ts → Step ts t s
  stays ts t s K none same =
      let quiet : spot_after s (step_lines p (M ts) t) ≡ s = ap (λ a. spot_after s (lines_of_deed (length (M ts).tasks) (stepped p (M ts) t 1) t (deed_of a))) none in (
        record {
          is = sym (pushed ts t);
          unclosed = ap (λ (r : Spot). r.closed) quiet ∙ K.0.unclosed;
          tell = subst (λ (m' : MachineState). TellEdges m'.edges (spot_after s (step_lines p (M ts) t)).events) (sym same) (subst (λ (r : Spot). TellEdges (M ts).edges r.events) (sym quiet) K.0.tell);
          also = subst (λ (r : Spot). Q (ts ++ t ∷ []) r.events) (sym quiet) (idle ts t s.events none same K.0.also);
        },
        subst (λ m'. At m' t (spot_after s (step_lines p (M ts) t))) (sym same) (subst (At (M ts) t) (sym quiet) K.1),
      )

  tell_on : (edges : List Edge) (events : List Event) (u : GraphStrand) (o : Option Act) → IfSome o IsPlain → TellEdges edges events → u.index ≡ length (turns_of edges u.task) → TellEdges edges (events ++ on_strand u o)
  tell_on edges events u None h T at = subst (TellEdges edges) (sym (append-nil events)) T
  tell_on edges events u (Some a) h T at = tell_plain edges events u a T at h.0

  as_spot : (s : Spot) (u : GraphStrand) → s.here ≡ Some u → s.closed ≡ false → s ≡ spot (Some u) s.events
  as_spot s u h c = λ i. record { here = h i; closed = c i; events = s.events }

  module _ (ts : List ℕ) (t : ℕ) (x : Task) (line : Line) (s : Spot) (K : KnownAt ts (M ts) t s)
      (can : can_step (M ts) t ≡ true) (is : slice_get (M ts).tasks t ≡ Some x) (run : is_running (Some x) ≡ true) (at : fetched p x.top ≡ Some line) where
    abbrev m : MachineState
    m = M ts

    abbrev m' : MachineState
    m' = step p m t

    abbrev u : GraphStrand
    u = strand_now m t

    abbrev o : Option Act
    o = step_act p m t x line

    abbrev ms : List LogLine
    ms = moved_lines (length m.tasks) m' t (slice_get m'.tasks t)

    runs_now : is_running (slice_get m.tasks t) ≡ true
    runs_now = ap is_running is ∙ run

    acted : act_of p m t ≡ act_at m t x (Some line)
    acted = ap (λ b. cond b (act_by p m t (slice_get m.tasks t)) None) can ∙ (ap (act_by p m t) is ∙ ap (act_at m t x) at)

    pub lined : step_lines p m t ≡ act_line o ++ ms
    lined = ap (λ a. lines_of_deed (length m.tasks) (stepped p m t 1) t (deed_of a)) acted ∙ ap (λ ls. ls ++ ms) (told_lines m' line.number (deed m t x.top line.instr))

    plain : IfSome o IsPlain
    plain = told_plain m' line.number (deed m t x.top line.instr)

    abbrev first : List Event
    first = s.events ++ on_strand u o

    pub first_spot : spot_after s (act_line o) ≡ spot (Some u) first
    first_spot = ap (λ r. spot_after r (act_line o)) (as_spot s u (K.1 runs_now) K.0.unclosed) ∙ act_after u s.events o plain

    move : Moved p m t (fork_join ts) (run_rows p limit ts) x is run first (tell_on m.edges s.events u o plain K.0.tell (now_index ts t runs_now)) m'
    move = moved p m t (fork_join ts) (run_rows p limit ts) x is run first (tell_on m.edges s.events u o plain K.0.tell (now_index ts t runs_now))

    last : spot_after s (step_lines p m t) ≡ move.0
    last = ap (spot_after s) lined ∙ (spot_both s (act_line o) ms ∙ (ap (λ r. spot_after r ms) first_spot ∙ move.1))

    told : move.0.events ≡ first ++ turn_events m m' t
    told = ap (λ (r : Spot). r.events) (sym move.1 ∙ after_on (Some u) first ms)

    taken : Step ts t s
    taken = (
      record {
        is = sym (pushed ts t);
        unclosed = ap (λ (r : Spot). r.closed) last ∙ move.2;
        tell = subst (λ (r : Spot). TellEdges m'.edges r.events) (sym last) move.3;
        also = subst (λ (r : Spot). Q (ts ++ t ∷ []) r.events) (sym last) (subst (Q (ts ++ t ∷ [])) (sym told) (takes ts t x line s.events can is at K.0.also));
      },
      subst (At m' t) (sym last) move.4,
    )

  line_cases : (ts : List ℕ) (t : ℕ) (x : Task) (o : Option Line) (s : Spot) → KnownAt ts (M ts) t s → can_step (M ts) t ≡ true → slice_get (M ts).tasks t ≡ Some x → is_running (Some x) ≡ true → fetched p x.top ≡ o → Step ts t s
  line_cases ts t x None s K can is run at =
      stays ts t s K (ap (λ b. cond b (act_by p (M ts) t (slice_get (M ts).tasks t)) None) can ∙ (ap (act_by p (M ts) t) is ∙ ap (act_at (M ts) t x) at)) (step_none p (M ts) t x can is at)
  line_cases ts t x (Some line) s K can is run at = taken ts t x line s K can is run at

  step_by : (ts : List ℕ) (t : ℕ) (s : Spot) (b : Bool) → KnownAt ts (M ts) t s → can_step (M ts) t ≡ b → Step ts t s
  step_by ts t s true K can = let y = can_task (M ts) t can in line_cases ts t y.0 (fetched p y.0.top) s K can y.1 y.2 refl
  step_by ts t s false K can = stays ts t s K (ap (λ b. cond b (act_by p (M ts) t (slice_get (M ts).tasks t)) None) can) (step_idle p (M ts) t can)

  one_step : (ts : List ℕ) (t : ℕ) (s : Spot) → KnownAt ts (M ts) t s → Step ts t s
  one_step ts t s K = step_by ts t s (can_step (M ts) t) K refl

  -- SEVERAL STEPS

  one_more : (k t : ℕ) → replicate k t ++ t ∷ [] ≡ replicate (suc k) t
  one_more zero t = refl
  one_more (suc k) t = ap (λ us. t ∷ us) (one_more k t)

  pub steps : (k : ℕ) (ts : List ℕ) (t : ℕ) (s : Spot) → KnownAt ts (M ts) t s → KnownAt (ts ++ replicate k t) (stepped p (M ts) t k) t (spot_after s (steps_lines p (M ts) t k))
  steps zero ts t s K = subst (λ us. KnownAt us (M ts) t s) (sym (append-nil ts)) K
  steps (suc k) ts t s K =
      let m = stepped p (M ts) t k in
      let us = ts ++ replicate k t in
      let r = spot_after s (steps_lines p (M ts) t k) in
      let J = steps k ts t s K in
      let e : m ≡ M us = J.0.is in
      let N : Step us t r = one_step us t r (subst (λ q. KnownAt us q t r) e J) in
      let N' = subst (λ q. KnownAt (us ++ t ∷ []) (step p q t) t (spot_after r (step_lines p q t))) (sym e) N in
      subst (λ q. KnownAt (ts ++ replicate (suc k) t) (step p m t) t q) (sym (spot_both s (steps_lines p (M ts) t k) (step_lines p m t)))
      (subst (λ vs. KnownAt vs (step p m t) t (spot_after r (step_lines p m t))) (append_assoc ts (replicate k t) (t ∷ []) ∙ ap (λ vs. ts ++ vs) (one_more k t)) N')

  -- ENTRIES

  abbrev Entered : List ℕ → Kind → Spot → Type 0
  Entered ts kind s = Known (ts ++ tasks_in kind) (machine_after p (M ts) kind) (spot_after s (entry_lines p (M ts) kind))

  quiet : (ts : List ℕ) (s : Spot) → Known ts (M ts) s → Known (ts ++ []) (M ts) s
  quiet ts s K = subst (λ us. Known us (M ts) s) (sym (append-nil ts)) K

  -- where an entry's steps begin
  abbrev pub begun_spot : List ℕ → ℕ → ℕ → Spot → Spot
  begun_spot ts t k s = record { here = Some (strand_now (M ts) t); closed = s.closed; events = s.events ++ event (strand_now (M ts) t) (acts.Work k) ∷ [] }

  pub begun : (ts : List ℕ) (t k : ℕ) (s : Spot) → Known ts (M ts) s → is_running (slice_get (M ts).tasks t) ≡ true → KnownAt ts (M ts) t (begun_spot ts t k s)
  begun ts t k s K run = (
    record {
      is = refl;
      unclosed = K.unclosed;
      tell = tell_plain (M ts).edges s.events (strand_now (M ts) t) (acts.Work k) K.tell (now_index ts t run) refl;
      also = work ts t k s.events run K.also;
    },
    λ _. refl,
  )

  ran : (ts : List ℕ) (t k : ℕ) (s : Spot) → Known ts (M ts) s → is_running (slice_get (M ts).tasks t) ≡ true → Entered ts (Ran t k) s
  ran ts t k s K run =
      subst (λ r. Known (ts ++ replicate k t) (stepped p (M ts) t k) r) (sym (spot_both s (strand_lines (M ts) t k) (steps_lines p (M ts) t k)))
      (steps k ts t (begun_spot ts t k s) (begun ts t k s K run)).0

  pub entry : (ts : List ℕ) (kind : Kind) (s : Spot) → Known ts (M ts) s → IsReady (M ts) kind → Entered ts kind s
  entry ts (Took t) s K r = quiet ts s K
  entry ts (Ran t k) s K r = ran ts t k s K r
  entry ts (Chunk t) s K r = quiet ts s K
  entry ts (Begin t) s K r = quiet ts s K
  entry ts (End t a g l) s K r = quiet ts s K
  entry ts (PutOff t) s K r = quiet ts s K
  entry ts (Mark t) s K r = quiet ts s K
  entry ts (More t k) s K r = quiet ts s K
  entry ts (Sweep t g) s K r = quiet ts s K
  entry ts Fuel s K r = quiet ts s K

  pub entries : (journal : List EntryValue) (ts : List ℕ) (s : Spot) → Known ts (M ts) s → AreReady p (M ts) journal
      → Known (ts ++ tasks_of journal) (M (ts ++ tasks_of journal)) (spot_after s (lines_from p (M ts) journal))
  entries [] ts s K R = subst (λ us. Known us (M us) s) (sym (append-nil ts)) K
  entries (e ∷ es) ts s K R =
      let us = ts ++ tasks_in e.kind in
      let m = machine_after p (M ts) e.kind in
      let r = spot_after s (entry_lines p (M ts) e.kind) in
      let E : Known us m r = entry ts e.kind s K R.0 in
      let i : m ≡ M us = E.is in
      let N = entries es us r (subst (λ q. Known us q r) i E) (subst (λ q. AreReady p q es) i R.1) in
      let N' = subst (λ q. Known (us ++ tasks_of es) (M (us ++ tasks_of es)) (spot_after r (lines_from p q es))) (sym i) N in
      subst (λ q. Known (ts ++ tasks_of (e ∷ es)) (M (ts ++ tasks_of (e ∷ es))) q) (sym (spot_both s (entry_lines p (M ts) e.kind) (lines_from p m es)))
      (subst (λ vs. Known vs (M vs) (spot_after r (lines_from p m es))) (append_assoc ts (tasks_in e.kind) (tasks_of es)) N')

  whole : (journal : List EntryValue) → Q [] [] → AreReady p (start p limit) journal → Known (tasks_of journal) (M (tasks_of journal)) (spot_after (file_begin []) (lines_from p (start p limit) journal))
  whole journal begin R = entries journal [] (file_begin []) (record { is = refl; unclosed = refl; tell = record { turns = λ t. refl; order = tt }; also = begin }) R

  -- what a run's lines tell
  pub told_along : (journal : List EntryValue) → Q [] [] → AreReady p (start p limit) journal
      → let events = events_told (lines_from p (start p limit) journal) in TellEdges (run p limit (tasks_of journal)).edges events × Q (tasks_of journal) events
  told_along journal begin R = let K = whole journal begin R in (K.tell, K.also)

  -- and none of them is an end
  pub unclosed_along : (journal : List EntryValue) → Q [] [] → AreReady p (start p limit) journal → (spot_after (file_begin []) (lines_from p (start p limit) journal)).closed ≡ false
  unclosed_along journal begin R = (whole journal begin R).unclosed
