-- What the lines of a run tell of blocks, step by step.
use Rattle.run_read_laws.proofs.Common.{◌≡◌, ◌<◌, ℕ, Bool, true, false, Option, Some, None, IfSome, List, [], ◌∷◌, ◌++◌, length, slice_get, ◌⊎◌, inl, inr, refl, ap, sym, subst, ◌∙◌, arith, append_assoc, both_ways, same_Some, is_some, StopsAt, asked_at, runs_are_counted, run_push, IsForkJoinState, run_is_fork_join_state, start_is_fork_join_state, no_objects, seen, joins_of, in_registers, names_run, runs_is, can_runs, step_taken, effect, object_at, next_name, task_names, words_asked, precedes, asked, asked_line, can_step, fetched, follow, is_running, owner_of, run, setting, start, step, strand_of, IsStored, NamesAreStoredIn, End, Done, Trapped, Entangled, MachineState, Name, Object, Strand, Task, born, used, yielded, run_disentangled, object_later, made_here, names_are_stored, In, contains_from_in, got_within, in_append_cases, in_append_left, in_append_right, none_some, got_some, Keeps, step_keeps, begun_running, TaskRuns, grown, in_log, GraphStrand, ProgramText, Line, act_told, on_strand, strand_now, turn_events, step_act, told_along, legal_ready, Event, event, Act, act_of, field_limit, AreBirthsTold, AreBlocksTold, AreInTime, AreReadsTold, BirthIsTold, IsBirthIn, IsInTime, IsSightOf, IsStoppedAtRead, IsUnstopped, LogsTellReads}
use Rattle.run_turn_laws.specs.below.log_lines as acts
use Rattle.run_read_laws.proofs.Steps.{IsIdle, IsQuiet, Bears, IsHeld, IsYield, Yields, Told, holds, tells, yield_act}
use Rattle.run_read_laws.proofs.Stops.{Stop, stop_deed, stop_in, unended}
use Rattle.run_read_laws.proofs.Turns.{idle_turns}

-- WHAT TELLS NOTHING OF THEM

module _ (m : MachineState) (events more : List Event) (idle : (e : Event) → In more e → IsIdle e.act) where
  still_births : AreBirthsTold m.store events → AreBirthsTold m.store (events ++ more)
  still_births B = record {
    all = λ n o is. let b = B.all n o is in (b.0, in_append_left events more b.0 b.1, b.2, b.3);
    just = λ e block i h. elim (in_append_cases events more e i) [ inl old ↦ B.just e block old h | inr new ↦ none_some (sym (idle e new).0 ∙ h) ];
  }

  still_in_time : (sees : Act → Option ℕ) → ((e : Event) → In more e → sees e.act ≡ None) → AreInTime sees m events → AreInTime sees m (events ++ more)
  still_in_time sees none go e block i h = elim (in_append_cases events more e i) [ inl old ↦ go e block old h | inr new ↦ none_some (sym (none e new) ∙ h) ]

  still_reads : AreReadsTold m events → AreReadsTold m (events ++ more)
  still_reads (inl go) = inl (still_in_time yielded (λ e i. (idle e i).1) go.0, go.1)
  still_reads (inr S) = inr (record {
    before = S.before;
    read = S.read;
    after = S.after ++ more;
    whole = ap (λ es. es ++ more) S.whole ∙ append_assoc S.before (S.read ∷ S.after) more;
    in_time = S.in_time;
    last = λ e i. elim (in_append_cases S.after more e i) [ inl old ↦ S.last e old | inr new ↦ (idle e new).1 ];
    name = S.name;
    object = S.object;
    strand = S.strand;
    is_read = S.is_read;
    apart = S.apart;
    ended = S.ended;
  })

  still_told : AreBlocksTold m events → AreBlocksTold m (events ++ more)
  still_told A = record { births = still_births A.births; reads = still_reads A.reads; uses = still_in_time used (λ e i. (idle e i).2) A.uses }

quiet_is : (o : Option Act) → IfSome o IsQuiet → (act : Act) → o ≡ Some act → IsQuiet act
quiet_is o q act e = subst (λ w. IfSome w IsQuiet) e q

on_cases : (u : GraphStrand) (o : Option Act) (e : Event) → In (on_strand u o) e → (act : Act) × (o ≡ Some act) × (event u act ≡ e)
on_cases u None e i = absurd i
on_cases u (Some act) e (inl same) = (act, refl, same)
on_cases u (Some act) e (inr none) = absurd none

-- WHAT STAYS

module _ (p : ProgramText) (m : MachineState) (t : ℕ) (K : IsForkJoinState m) where
  sight_later : (sees : Act → Option ℕ) (e : Event) (n : Name) (o : Object) (s : Strand) → IsSightOf sees m e n o s
      → (l : Object) × IsSightOf sees (step p m t) e n l s × (precedes (step p m t).edges l.strand s ≡ precedes m.edges o.strand s)
  sight_later sees e n o s R =
      let l = object_later p m t K n o R.stored in
      let S : Keeps p m t K (step p m t) = step_keeps p m t K in (
        l.0,
        record { seen = R.seen; stored = l.1; on = R.on; begun = S.begun s R.begun },
        S.fixed l.0.strand s R.begun ∙ ap (λ v. precedes m.edges v s) l.2.strand,
      )

  in_time_later : (sees : Act → Option ℕ) (e : Event) → IsInTime sees m e → IsInTime sees (step p m t) e
  in_time_later sees e (n, o, s, R, b) = let l = sight_later sees e n o s R in (n, l.0, s, l.1, l.2 ∙ b)

  birth_later : (e : Event) → IsBirthIn m.store e → IsBirthIn (step p m t).store e
  birth_later e (n, o, is, b, on) = let l = object_later p m t K n o is in (n, l.0, l.1, b, on ∙ ap in_log (sym l.2.strand))

-- STEPS

module _ (p : ProgramText) (limit : ℕ) where
  abbrev M : List ℕ → MachineState
  M ts = run p limit ts

  abbrev pub Q : List ℕ → List Event → Type 0
  Q ts events = AreBlocksTold (M ts) events

  work : (ts : List ℕ) (t k : ℕ) (events : List Event) → is_running (slice_get (M ts).tasks t) ≡ true → Q ts events → Q ts (events ++ event (strand_now (M ts) t) (acts.Work k) ∷ [])
  work ts t k events run A = still_told (M ts) events (event (strand_now (M ts) t) (acts.Work k) ∷ []) one A
    where
      one : (e : Event) → In (event (strand_now (M ts) t) (acts.Work k) ∷ []) e → IsIdle e.act
      one e (inl same) = subst (λ (d : Event). IsIdle d.act) same (refl, refl, refl)
      one e (inr none) = absurd none

  idle : (ts : List ℕ) (t : ℕ) (events : List Event) → act_of p (M ts) t ≡ None → step p (M ts) t ≡ M ts → Q ts events → Q (ts ++ t ∷ []) events
  idle ts t events none same A = subst (λ (w : MachineState). AreBlocksTold w events) (sym (run_push p (start p limit) ts t ∙ same)) A

  module _ (ts : List ℕ) (t : ℕ) (x : Task) (line : Line) (events : List Event)
      (can : can_step (M ts) t ≡ true) (is : slice_get (M ts).tasks t ≡ Some x) (at : fetched p x.top ≡ Some line) (A : Q ts events) where
    abbrev m : MachineState
    m = M ts

    abbrev m' : MachineState
    m' = step p m t

    abbrev u : GraphStrand
    u = strand_now m t

    abbrev o : Option Act
    o = step_act p m t x line

    abbrev new : List Event
    new = on_strand u o

    K : IsForkJoinState m
    K = run_is_fork_join_state p (start p limit) ts (start_is_fork_join_state p limit)

    N : NamesAreStoredIn m
    N = names_are_stored p limit ts

    R : TaskRuns m t x
    R = record { is = is; running = ap is_running (sym is) ∙ can_runs m t can }

    now : u ≡ in_log (strand_of t x)
    now = ap (λ w. in_log (record { task = t; joins = joins_of w })) is

    there : t < length m.store
    there = let a = got_within m.tasks t x is in let b = (runs_are_counted p limit ts).rows in omega (arith, a, b)

    taken : m' ≡ follow m t x line.number (effect (setting m t x) x.top m.store line.instr)
    taken = step_taken p m t x line can is at

    asks : asked p m t ≡ words_asked m.field_limit x.top line.instr
    asks = asked_at p m t x is R.running ∙ ap (asked_line m.field_limit x.top) at

    abbrev BearsNow : Type 0
    BearsNow = Bears m m' t x line.number N line.instr

    abbrev YieldsNow : Type 0
    YieldsNow = Yields m m' t x line.number N line.instr

    T : Told m m' t x line.number N line.instr
    T = tells m m' t x line.number N line.instr

    -- THE OBJECT THAT IS MADE

    abbrev name : Name
    name = next_name t m.store

    bears_of : is_some (asked p m t) ≡ true → BearsNow
    bears_of h = bears_by T
      where
        asks_none : is_some (words_asked m.field_limit x.top line.instr) ≡ false → ⊥
        asks_none none = both_ways (is_some (words_asked m.field_limit x.top line.instr)) none (ap is_some (sym asks) ∙ h)

        bears_by : Told m m' t x line.number N line.instr → BearsNow
        bears_by (inl quiet) = absurd (asks_none quiet.1)
        bears_by (inr (inl B)) = B
        bears_by (inr (inr Y)) = absurd (asks_none Y.1)

    module _ (B : BearsNow) where
      made_is : object_at m'.store name ≡ Some B.object
      made_is =
          let row = got_some m.store t there in
          ap (λ (w : MachineState). object_at w.store name) (taken ∙ ap (follow m t x line.number) B.made_is) ∙ made_here m.store t row.0 B.object row.1

      on_its : u ≡ in_log B.object.strand
      on_its = now ∙ ap in_log (sym B.strand)

      birth_told : BirthIsTold (events ++ new) name B.object.strand
      birth_told = (
        event u B.birth.act,
        in_append_right events new (event u B.birth.act) (subst (λ w. In (on_strand u w) (event u B.birth.act)) (sym B.is) (inl refl)),
        B.birth.bears,
        on_its,
      )

      same_birth : (act : Act) → o ≡ Some act → B.birth.act ≡ act
      same_birth act e = same_Some B.birth.act act (sym B.is ∙ e)

      born_so : (act : Act) → o ≡ Some act → IsBirthIn m'.store (event u act)
      born_so act e = (name, B.object, made_is, ap born (sym (same_birth act e)) ∙ B.birth.bears, on_its)

    all_now : (n : Name) (q : Object) → object_at m'.store n ≡ Some q → BirthIsTold (events ++ new) n q.strand
    all_now n q h = all_by ((grown p m t K can there).down n (q, h))
      where
        all_by : IsStored m n ⊎ ((n ≡ name) × (is_some (asked p m t) ≡ true)) → BirthIsTold (events ++ new) n q.strand
        all_by (inl old) =
            let l = object_later p m t K n old.0 old.1 in
            let same : l.0 ≡ q = same_Some l.0 q (sym l.1 ∙ h) in
            let b = A.births.all n old.0 old.1 in
            (b.0, in_append_left events new b.0 b.1, b.2, b.3 ∙ ap in_log (sym l.2.strand ∙ ap (λ (z : Object). z.strand) same))
        all_by (inr first) =
            let B = bears_of first.1 in
            let same : B.object ≡ q = same_Some B.object q (sym (made_is B) ∙ (ap (object_at m'.store) (sym first.0) ∙ h)) in
            subst (λ k. BirthIsTold (events ++ new) k q.strand) (sym first.0) (subst (λ (z : Object). BirthIsTold (events ++ new) name z.strand) same (birth_told B))

    -- ITS ACT

    same_read : (Y : YieldsNow) (act : Act) → o ≡ Some act → act ≡ Y.read.act
    same_read Y act e = same_Some act Y.read.act (sym e ∙ Y.is)

    born_now : (act : Act) (block : ℕ) → o ≡ Some act → born act ≡ Some block → IsBirthIn m'.store (event u act)
    born_now act block e h = born_by T
      where
        born_by : Told m m' t x line.number N line.instr → IsBirthIn m'.store (event u act)
        born_by (inl quiet) = none_some (sym (quiet_is o quiet.0 act e).0 ∙ h)
        born_by (inr (inl B)) = born_so B act e
        born_by (inr (inr Y)) = none_some (sym (ap born (same_read Y.0 act e) ∙ Y.0.read.bears) ∙ h)

    just_now : (e : Event) (block : ℕ) → In (events ++ new) e → born e.act ≡ Some block → IsBirthIn m'.store e
    just_now e block i h = elim (in_append_cases events new e i) [
      | inl old ↦ birth_later p m t K e (A.births.just e block old h)
      | inr now ↦ let c = on_cases u o e now in subst (IsBirthIn m'.store) c.2 (born_now c.0 block c.1 (ap (λ (d : Event). born d.act) c.2 ∙ h))
    ]

    goes_by : IsUnstopped m' → (act : Act) → o ≡ Some act → (Y : YieldsNow) (b : Bool) → precedes m.edges Y.object.strand (strand_of t x) ≡ b → IsInTime yielded m' (event u act)
    goes_by un act e Y true pr =
        in_time_later p m t K yielded (event u act) (
          Y.name,
          Y.object,
          strand_of t x,
          record { seen = ap yielded (same_read Y act e) ∙ Y.read.yields; stored = Y.stored; on = now; begun = begun_running m t x R },
          pr,
        )
    goes_by un act e Y false pr = absurd (un t (owner_of m.tasks Y.name.task) (ap (λ (w : MachineState). w.end) (taken ∙ ap (follow m t x line.number) (Y.stops pr))))

    goes_now : IsUnstopped m' → (act : Act) (block : ℕ) → o ≡ Some act → yielded act ≡ Some block → IsInTime yielded m' (event u act)
    goes_now un act block e h = goes_told T
      where
        goes_told : Told m m' t x line.number N line.instr → IsInTime yielded m' (event u act)
        goes_told (inl quiet) = none_some (sym (quiet_is o quiet.0 act e).1 ∙ h)
        goes_told (inr (inl B)) = none_some (sym (ap yielded (sym (same_birth B act e)) ∙ B.birth.yields) ∙ h)
        goes_told (inr (inr Y)) = goes_by un act e Y.0 (precedes m.edges Y.0.object.strand (strand_of t x)) refl

    in_time_now : (sees : Act → Option ℕ) → ((act : Act) (block : ℕ) → o ≡ Some act → sees act ≡ Some block → IsInTime sees m' (event u act)) → AreInTime sees m events → AreInTime sees m' (events ++ new)
    in_time_now sees each go e block i h = elim (in_append_cases events new e i) [
      | inl old ↦ in_time_later p m t K sees e (go e block old h)
      | inr now ↦ let c = on_cases u o e now in subst (IsInTime sees m') c.2 (each c.0 block c.1 (ap (λ (d : Event). sees d.act) c.2 ∙ h))
    ]

    -- WHAT IT USES

    use_now : (act : Act) (block : ℕ) → o ≡ Some act → used act ≡ Some block → IsInTime used m' (event u act)
    use_now act block e h =
        let k : IsHeld m m' t x line.number N act = subst (λ w. IfSome w (IsHeld m m' t x line.number N)) e (holds m m' t x line.number N line.instr) in
        let b = k block h in
        let held = names_run x b.0 (runs_is x.status R.running) (in_registers (x.top ∷ x.below) x.top b.0 (inl refl) b.1) in
        let s = N.named t x b.0 is (contains_from_in (task_names x) b.0 held) in
        let own = (run_disentangled p limit ts).of_task t x b.0 is held in
        in_time_later p m t K used (event u act) (
          b.0,
          s.0,
          strand_of t x,
          record { seen = h ∙ ap (λ k. Some k) (sym b.2); stored = s.1; on = now; begun = begun_running m t x R },
          seen m K t x b.0 s.0 is R.running s.1 ∙ own.1,
        )

    -- A READ THAT IS STOPPED

    module _ (reader owner : ℕ) (S : Stop p m t K m' reader owner) (go : AreInTime yielded m events) where
      same_task : S.task ≡ x
      same_task = same_Some S.task x (sym S.is ∙ is)

      same_line : S.line ≡ line
      same_line = same_Some S.line line (sym S.next ∙ (ap (λ (y : Task). fetched p y.top) same_task ∙ at))

      halt : StopsAt (setting m t x) x.top line.instr m.store S.name
      halt = subst (λ (l : Line). StopsAt (setting m t x) x.top l.instr m.store S.name) same_line (subst (λ (y : Task). StopsAt (setting m t y) y.top S.line.instr m.store S.name) same_task S.at)

      read : IsYield m' line.number halt.source halt.read.at S.name
      read = yield_act m' line.number halt.source halt.read.at S.name

      read_is : o ≡ Some read.act
      read_is = ap (act_told m' line.number) (stop_deed m t x line S.name halt) ∙ read.is

      stopped : IsStoppedAtRead m' (events ++ new)
      stopped =
          let l = sight_later p m t K yielded (event u read.act) S.name halt.object (strand_of t x) (record { seen = read.yields; stored = halt.is; on = now; begun = begun_running m t x R }) in
          let tasks : m'.tasks ≡ m.tasks = ap (λ (w : MachineState). w.tasks) S.state in
          record {
            before = events;
            read = event u read.act;
            after = [];
            whole = ap (λ w. events ++ on_strand u w) read_is;
            in_time = λ e block i h. in_time_later p m t K yielded e (go e block i h);
            last = λ e i. absurd i;
            name = S.name;
            object = l.0;
            strand = strand_of t x;
            is_read = l.1;
            apart = l.2 ∙ halt.apart;
            ended = ap (λ (w : MachineState). w.end) S.state ∙ ap (λ ks. Some (Entangled t (owner_of ks S.name.task))) (sym tasks);
          }

    stop_now : (reader owner : ℕ) → m'.end ≡ Some (Entangled reader owner) → AreInTime yielded m events → AreReadsTold m' (events ++ new)
    stop_now reader owner h go = elim (stop_in p m t K reader owner h) [
      | inl was ↦ absurd (unended m t (Entangled reader owner) can was)
      | inr S ↦ inr (stopped reader owner S go)
    ]

    on_now : ((reader owner : ℕ) → m'.end ≡ Some (Entangled reader owner) → ⊥) → AreInTime yielded m events → AreReadsTold m' (events ++ new)
    on_now un go = inl (in_time_now yielded (goes_now un) go, un)

    reads_by : (end : Option End) → m'.end ≡ end → AreInTime yielded m events → AreReadsTold m' (events ++ new)
    reads_by None e go = on_now (λ r w h. none_some (sym e ∙ h)) go
    reads_by (Some Done) e go = on_now (λ r w h. let z : Some Done ≡ Some (Entangled r w) = sym e ∙ h in cc) go
    reads_by (Some (Trapped kind task at)) e go = on_now (λ r w h. let z : Some (Trapped kind task at) ≡ Some (Entangled r w) = sym e ∙ h in cc) go
    reads_by (Some (Entangled r w)) e go = stop_now r w e go

    reads_now : AreReadsTold m events → AreReadsTold m' (events ++ new)
    reads_now (inl go) = reads_by m'.end refl go.0
    reads_now (inr S) = absurd (unended m t (Entangled S.strand.task (owner_of m.tasks S.name.task)) can S.ended)

    told_now : AreBlocksTold m' (events ++ new)
    told_now = record { births = record { all = all_now; just = just_now }; reads = reads_now A.reads; uses = in_time_now used use_now A.uses }

    takes : Q (ts ++ t ∷ []) ((events ++ new) ++ turn_events m m' t)
    takes =
        subst (λ (w : MachineState). AreBlocksTold w ((events ++ new) ++ turn_events m m' t)) (sym (run_push p (start p limit) ts t))
        (still_told m' (events ++ new) (turn_events m m' t) (idle_turns m m' t) told_now)

  begins : Q [] []
  begins = record {
    births = record { all = λ n o is. absurd (no_objects n.task n.count o is); just = λ e block i. absurd i };
    reads = inl ((λ e block i. absurd i), λ r w h. none_some h);
    uses = λ e block i. absurd i;
  }

pub logs_tell_reads : LogsTellReads
logs_tell_reads p s journal legal =
    let limit = field_limit s.version in
    (told_along p limit (Q p limit) (work p limit) (idle p limit) (takes p limit) journal (begins p limit) (legal_ready p s journal legal)).1
