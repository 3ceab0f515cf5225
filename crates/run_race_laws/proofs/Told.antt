-- The accesses that a run's lines tell are those of its steps.
use Rattle.run_race_laws.proofs.Common.{◌≡◌, ◌<◌, ◌+◌, ◌*◌, ℕ, zero, suc, arith, Bool, true, false, cond, Option, Some, None, IfSome, List, [], ◌∷◌, ◌++◌, length, map, slice_get, refl, ap, sym, subst, ◌∙◌, append-nil, inl, inr, flat_map-append, map-append, ProgramText, Line, run_push, joins_of, joins_in, waiting, running_tells, IsForkJoinState, run_is_fork_join_state, start_is_fork_join_state, can_runs, IsEdgeWalk, precedes, Edge, Strand, object_at, is_running, is_waiting, is_joined, joined, can_step, fetched, step, run, run_from, start, strand_of, MachineState, Name, Object, Task, TaskStatus, Running, Waiting, Ended, Joined, GraphStrand, Event, event, objects_stay, names_are_stored, In, in_append_cases, in_from_contains, got_in, got_more, both_ways, slice_get_within, Begun, run_keeps, begun_running, TaskRuns, turns_of, open_turns, run_rows, accesses, accesses_from, next_access, task_access, line_access, with_some, object_references, Field, FieldAccess, EntryValue, SettingsValue, field_limit, tasks_of, is_legal, machine_of, in_log, location, act_of, act_by, step_act_of as act_at, moved_lines, lines_of, spot_after, events_told, spot, on_strand, strand_now, turn_events, step_act, told_along, legal_ready, told_access, accesses_told, accesses_by, as_told, access_kind_of, field_region, region_of, index_among, LogsTellAccesses, HasField, count_of}
use Rattle.run_turn_laws.specs.below.log_lines as acts
use Rattle.run_race_laws.proofs.Deeds.{Agrees, agrees, Good}

-- LISTS OF ACCESSES

pub told_both : (xs ys : List Event) → accesses_told (xs ++ ys) ≡ accesses_told xs ++ accesses_told ys
told_both xs ys = flat_map-append (λ (e : Event). accesses_by e.strand e.act) xs ys

with_more : (o : Option FieldAccess) (xs ys : List FieldAccess) → with_some o (xs ++ ys) ≡ with_some o xs ++ ys
with_more None xs ys = refl
with_more (Some a) xs ys = refl

accesses_push : (p : ProgramText) (m : MachineState) (ts : List ℕ) (t : ℕ) → accesses_from p m (ts ++ t ∷ []) ≡ accesses_from p m ts ++ with_some (next_access p (run_from p m ts) t) []
accesses_push p m [] t = refl
accesses_push p m (u ∷ us) t =
    ap (with_some (next_access p m u)) (accesses_push p (step p m u) us t)
    ∙ with_more (next_access p m u) (accesses_from p (step p m u) us) (with_some (next_access p (run_from p (step p m u) us) t) [])

same_map : (one other : List (List Object)) (found : List FieldAccess) → ((a : FieldAccess) → In found a → field_region one a.field ≡ field_region other a.field) → map (as_told one) found ≡ map (as_told other) found
same_map one other [] h = refl
same_map one other (a ∷ more) h = λ i. told_access (in_log a.strand) (record { region = h a (inl refl) i; kind = access_kind_of a.writes a.swaps }) ∷ same_map one other more (λ b j. h b (inr j)) i

-- TURNS ARE NO ACCESSES

module _ (u : GraphStrand) (made : ℕ) (m : MachineState) (t : ℕ) where
  by_status : (parent : Option ℕ) (status : TaskStatus) (x : Task) → x.parent ≡ parent → x.status ≡ status → accesses_told (spot_after (spot (Some u) []) (moved_lines made m t (Some x))).events ≡ []
  by_status parent Running x p s = rw s refl
  by_status parent Waiting x p s = rw s refl
  by_status parent (Ended k n) x p s = rw s refl
  by_status None Joined x p s = rw (s, p) refl
  by_status (Some q) Joined x p s = rw (s, p) refl

  no_access : (o : Option Task) → accesses_told (spot_after (spot (Some u) []) (moved_lines made m t o)).events ≡ []
  no_access None = refl
  no_access (Some x) = by_status x.parent x.status x refl refl

-- STEPS

-- what isn't told isn't accessed
quiet_line : (m : MachineState) (t : ℕ) (x : Task) (l : Option Line) → act_at m t x l ≡ None → line_access m t x l ≡ None
quiet_line m t x None e = refl
quiet_line m t x (Some l) e = absurd cc

quiet_by : (p : ProgramText) (m : MachineState) (t : ℕ) (b : Bool) (o : Option Task) → cond b (act_by p m t o) None ≡ None → cond b (task_access p m t o) None ≡ None
quiet_by p m t false o e = refl
quiet_by p m t true None e = refl
quiet_by p m t true (Some x) e = quiet_line m t x (fetched p x.top) e

-- of two accesses the later one doesn't happen before the earlier one, unless both are on one strand
abbrev pub AreInTime : List Edge → List FieldAccess → Type 0
AreInTime edges found =
    (i j : ℕ) (u v : FieldAccess) → i < j → slice_get found i ≡ Some u → slice_get found j ≡ Some v → precedes edges v.strand u.strand ≡ true → v.strand ≡ u.strand

-- the accesses told are those of the steps, of fields that are there and on strands that have begun
pub record SeenIn (m : MachineState) (found : List FieldAccess) (events : List Event) : Type 0 where
  pub same : accesses_told events ≡ map (as_told m.store) found
  pub fields : (a : FieldAccess) → In found a → HasField m.store a.field
  pub begun : (a : FieldAccess) → In found a → Begun m a.strand
  pub time : AreInTime m.edges found

module _ (p : ProgramText) (limit : ℕ) where
  abbrev M : List ℕ → MachineState
  M ts = run p limit ts

  abbrev pub Seen : List ℕ → List Event → Type 0
  Seen ts events = SeenIn (M ts) (accesses p limit ts) events

  more_accesses : (ts : List ℕ) (t : ℕ) → accesses p limit (ts ++ t ∷ []) ≡ accesses p limit ts ++ with_some (next_access p (M ts) t) []
  more_accesses ts t = accesses_push p (start p limit) ts t

  pushed : (ts : List ℕ) (t : ℕ) → M (ts ++ t ∷ []) ≡ step p (M ts) t
  pushed ts t = run_push p (start p limit) ts t

  work : (ts : List ℕ) (t k : ℕ) (events : List Event) → is_running (slice_get (M ts).tasks t) ≡ true → Seen ts events → Seen ts (events ++ event (strand_now (M ts) t) (acts.Work k) ∷ [])
  work ts t k events run S = record { same = told_both events (event (strand_now (M ts) t) (acts.Work k) ∷ []) ∙ (append-nil (accesses_told events) ∙ S.same); fields = S.fields; begun = S.begun; time = S.time }

  idle : (ts : List ℕ) (t : ℕ) (events : List Event) → act_of p (M ts) t ≡ None → step p (M ts) t ≡ M ts → Seen ts events → Seen (ts ++ t ∷ []) events
  idle ts t events none same S =
      let e : M (ts ++ t ∷ []) ≡ M ts = pushed ts t ∙ same in
      let a : next_access p (M ts) t ≡ None = quiet_by p (M ts) t (can_step (M ts) t) (slice_get (M ts).tasks t) none in
      let more : accesses p limit (ts ++ t ∷ []) ≡ accesses p limit ts = more_accesses ts t ∙ (ap (λ o. accesses p limit ts ++ with_some o []) a ∙ append-nil (accesses p limit ts)) in
      subst (λ q. SeenIn q (accesses p limit (ts ++ t ∷ [])) events) (sym e) (subst (λ found. SeenIn (M ts) found events) (sym more) S)

  -- an object is there after a step, with as many references
  later : (ts : List ℕ) (t : ℕ) (n : Name) (o : Object) → object_at (M ts).store n ≡ Some o → (o' : Object) × (object_at (step p (M ts) t).store n ≡ Some o') × (length o'.refs ≡ length o.refs)
  later ts t n o is = let l = objects_stay p limit ts (t ∷ []) n o is in (l.0, l.1, l.2.refs)

  same_index : (b : Bool) (k : ℕ) (one other : Option Object) → length (object_references one) ≡ length (object_references other) → index_among one b k ≡ index_among other b k
  same_index true k one other e = ap (λ n. n + k) e
  same_index false k one other e = refl

  kept : (ts : List ℕ) (t : ℕ) (field : Field) → HasField (M ts).store field → field_region (M ts).store field ≡ field_region (step p (M ts) t).store field
  kept ts t field S =
      let l = later ts t field.name S.0 S.1 in
      ap (λ at. region_of (location field.name at)) (same_index field.is_number field.index (object_at (M ts).store field.name) (object_at (step p (M ts) t).store field.name)
      (ap (λ o. length (object_references o)) S.1 ∙ (sym l.2 ∙ sym (ap (λ o. length (object_references o)) l.1))))

  same_count : (b : Bool) (one other : Object) → length one.refs ≡ length other.refs → length one.ints ≡ length other.ints → count_of one b ≡ count_of other b
  same_count true one other r n = n
  same_count false one other r n = r

  field_later : (ts : List ℕ) (t : ℕ) (field : Field) → HasField (M ts).store field → HasField (step p (M ts) t).store field
  field_later ts t field S =
      let l = objects_stay p limit ts (t ∷ []) field.name S.0 S.1 in
      (l.0, l.1, subst (λ n. field.index < n) (sym (same_count field.is_number l.0 S.0 l.2.refs l.2.ints)) S.2)

  one_in : (o : Option FieldAccess) (a : FieldAccess) (P : FieldAccess → Type 0) → IfSome o P → In (with_some o []) a → P a
  one_in None a P h i = absurd i
  one_in (Some b) a P h (inl e) = subst P e h
  one_in (Some b) a P h (inr i) = absurd i

  module _ (ts : List ℕ) (t : ℕ) (x : Task) (line : Line) (events : List Event)
      (can : can_step (M ts) t ≡ true) (is : slice_get (M ts).tasks t ≡ Some x) (at : fetched p x.top ≡ Some line) (S : Seen ts events) where
    abbrev m : MachineState
    m = M ts

    abbrev m' : MachineState
    m' = step p m t

    A : Agrees m m' t x line.number (names_are_stored p limit ts) (later ts t) line.instr
    A = agrees m m' t x line.number (names_are_stored p limit ts) (later ts t) line.instr

    accessed : next_access p m t ≡ line_access m t x (Some line)
    accessed = ap (λ b. cond b (task_access p m t (slice_get m.tasks t)) None) can ∙ (ap (task_access p m t) is ∙ ap (line_access m t x) at)

    now : strand_now m t ≡ in_log (strand_of t x)
    now = ap (λ o. in_log (record { task = t; joins = joins_of o })) is

    abbrev o : Option FieldAccess
    o = line_access m t x (Some line)

    told_now : accesses_told (on_strand (strand_now m t) (step_act p m t x line)) ≡ map (as_told m'.store) (with_some o [])
    told_now = ap (λ u. accesses_told (on_strand u (step_act p m t x line))) now ∙ A.same

    all : accesses p limit (ts ++ t ∷ []) ≡ accesses p limit ts ++ with_some o []
    all = more_accesses ts t ∙ ap (λ q. accesses p limit ts ++ with_some q []) accessed

    same_now : accesses_told ((events ++ on_strand (strand_now m t) (step_act p m t x line)) ++ turn_events m m' t) ≡ map (as_told m'.store) (accesses p limit ts ++ with_some o [])
    same_now =
        told_both (events ++ on_strand (strand_now m t) (step_act p m t x line)) (turn_events m m' t)
        ∙ (ap (λ found. accesses_told (events ++ on_strand (strand_now m t) (step_act p m t x line)) ++ found) (no_access (strand_now m t) (length m.tasks) m' t (slice_get m'.tasks t))
        ∙ (append-nil (accesses_told (events ++ on_strand (strand_now m t) (step_act p m t x line)))
        ∙ (told_both events (on_strand (strand_now m t) (step_act p m t x line))
        ∙ ((λ i. (S.same ∙ same_map m.store m'.store (accesses p limit ts) (λ a j. kept ts t a.field (S.fields a j))) i ++ told_now i)
        ∙ sym (map-append (as_told m'.store) (accesses p limit ts) (with_some o []))))))

    K : IsForkJoinState m
    K = run_is_fork_join_state p (start p limit) ts (start_is_fork_join_state p limit)

    R : TaskRuns m t x
    R = record { is = is; running = ap is_running (sym is) ∙ can_runs m t can }

    keeps : (w : Strand) → Begun m w → Begun m' w
    keeps w b = (run_keeps p m (t ∷ []) K).begun w b

    fixed : (v w : Strand) → Begun m w → precedes m'.edges v w ≡ precedes m.edges v w
    fixed v w b = (run_keeps p m (t ∷ []) K).fixed v w b

    fields_now : (a : FieldAccess) → In (accesses p limit ts ++ with_some o []) a → HasField m'.store a.field
    fields_now a i = elim (in_append_cases (accesses p limit ts) (with_some o []) a i) [
      | inl old ↦ field_later ts t a.field (S.fields a old)
      | inr new ↦ field_later ts t a.field (one_in o a (Good m m' t x line.number (names_are_stored p limit ts) (later ts t)) A.stored new).0
    ]

    begun_now : (a : FieldAccess) → In (accesses p limit ts ++ with_some o []) a → Begun m' a.strand
    begun_now a i = elim (in_append_cases (accesses p limit ts) (with_some o []) a i) [
      | inl old ↦ keeps a.strand (S.begun a old)
      | inr new ↦ keeps a.strand (subst (Begun m) (sym (one_in o a (Good m m' t x line.number (names_are_stored p limit ts) (later ts t)) A.stored new).1) (begun_running m t x R))
    ]

    -- no edge leads from the strand of a task that runs
    no_edge : (e : Edge) (k : ℕ) → In m.edges e → e.source ≡ strand_of t x → e.target.joins ≡ k → ⊥
    no_edge e zero i from first =
        let F = (run_rows p limit ts).turns.forks e i first in
        let w : 4 * e.source.joins + F.side < length (turns_of m.edges e.source.task) = slice_get_within (turns_of m.edges e.source.task) (4 * e.source.joins + F.side) _ F.turn in
        let c : length (turns_of m.edges t) ≡ 4 * joins_in m.tasks t + open_turns (waiting m.tasks t) = (run_rows p limit ts).count t in
        let z : open_turns (waiting m.tasks t) ≡ 0 = ap open_turns (ap is_waiting is ∙ (running_tells x.status R.running).1) in
        let n : joins_in m.tasks t ≡ x.joins = ap joins_of is in
        let g : length (turns_of m.edges e.source.task) ≡ length (turns_of m.edges t) = ap (λ (q : Strand). length (turns_of m.edges q.task)) from in
        let h : e.source.joins ≡ x.joins = ap (λ (q : Strand). q.joins) from in
        omega (arith, w, c, z, n, g, h)
    no_edge e (suc fork) i from later' =
        let k : e.target.joins ≡ fork + 1 = omega (arith, later') in
        let J = (run_rows p limit ts).turns.ends e fork i k in
        let over : joined m.tasks e.source.task ≡ true = ((run_rows p limit ts).turns.joins e.target.task (4 * fork + 2 + J.side) e.source.task J.turn).over in
        let live : joined m.tasks t ≡ false = ap is_joined is ∙ (running_tells x.status R.running).0 in
        both_ways (joined m.tasks t) live (ap (λ (q : Strand). joined m.tasks q.task) (sym from) ∙ over)

    alone_by : (es : List Edge) (w : Strand) → IsEdgeWalk m.edges (strand_of t x) es w → strand_of t x ≡ w
    alone_by [] w h = h
    alone_by (e ∷ es) w h = absurd (no_edge e e.target.joins (in_from_contains m.edges e h.1) h.0 refl)

    alone : (w : Strand) → Begun m w → precedes m'.edges (strand_of t x) w ≡ true → strand_of t x ≡ w
    alone w b pr = let r = (K.tree.right (strand_of t x) w).0 (sym (fixed (strand_of t x) w b) ∙ pr) in alone_by r.0 w r.1

    old_time : AreInTime m'.edges (accesses p limit ts)
    old_time i j a b lt ga gb pr = S.time i j a b lt ga gb (sym (fixed b.strand a.strand (S.begun a (got_in (accesses p limit ts) i a ga))) ∙ pr)

    time_push : (q : Option FieldAccess) → IfSome q (λ b. b.strand ≡ strand_of t x) → AreInTime m'.edges (accesses p limit ts ++ with_some q [])
    time_push None h i j a b lt ga gb pr = subst (AreInTime m'.edges) (sym (append-nil (accesses p limit ts))) old_time i j a b lt ga gb pr
    time_push (Some c) h i j a b lt ga gb pr = elim (got_more (accesses p limit ts) c b j gb) [
      | inl oldb ↦ elim (got_more (accesses p limit ts) c a i ga) [
        | inl olda ↦ old_time i j a b lt olda oldb pr
        | inr newa ↦ let at' = newa.0 in let w = slice_get_within (accesses p limit ts) j b oldb in absurd (omega (arith, at', w, lt))
      ]
      | inr newb ↦ elim (got_more (accesses p limit ts) c a i ga) [
        | inl olda ↦
            let e : b.strand ≡ strand_of t x = ap (λ (q : FieldAccess). q.strand) (sym newb.1) ∙ h in
            e ∙ alone a.strand (S.begun a (got_in (accesses p limit ts) i a olda)) (ap (λ q. precedes m'.edges q a.strand) (sym e) ∙ pr)
        | inr newa ↦ let at' = newa.0 in let to' = newb.0 in absurd (omega (arith, at', to', lt))
      ]
    ]

    strand_now' : (q : Option FieldAccess) → IfSome q (Good m m' t x line.number (names_are_stored p limit ts) (later ts t)) → IfSome q (λ b. b.strand ≡ strand_of t x)
    strand_now' None h = tt
    strand_now' (Some c) h = h.1

    takes : Seen (ts ++ t ∷ []) ((events ++ on_strand (strand_now m t) (step_act p m t x line)) ++ turn_events m m' t)
    takes =
        subst (λ q. SeenIn q (accesses p limit (ts ++ t ∷ [])) ((events ++ on_strand (strand_now m t) (step_act p m t x line)) ++ turn_events m m' t)) (sym (pushed ts t))
        (subst (λ found. SeenIn m' found ((events ++ on_strand (strand_now m t) (step_act p m t x line)) ++ turn_events m m' t)) (sym all)
        (record { same = same_now; fields = fields_now; begun = begun_now; time = time_push o (strand_now' o A.stored) }))

pub seen_along : (p : ProgramText) (s : SettingsValue) (journal : List EntryValue) → is_legal p s journal ≡ true
    → SeenIn (machine_of p s journal) (accesses p (field_limit s.version) (tasks_of journal)) (events_told (lines_of p s journal))
seen_along p s journal legal =
    let limit = field_limit s.version in
    (told_along p limit (Seen p limit) (work p limit) (idle p limit) (takes p limit) journal
    (record { same = refl; fields = λ a i. absurd i; begun = λ a i. absurd i; time = λ i j u v lt gu gv pr. absurd (none i u gu) }) (legal_ready p s journal legal)).1
  where
    none : (i : ℕ) (u : FieldAccess) → slice_get [] i ≡ Some u → ⊥
    none zero u e = absurd cc
    none (suc i) u e = absurd cc

pub logs_tell_accesses : LogsTellAccesses
logs_tell_accesses p s journal legal = (seen_along p s journal legal).same
