-- The races that a run's lines tell are those of the run.
use Rattle.run_race_laws.proofs.Common.{◌≡◌, ◌<◌, ◌≤◌, ◌+◌, ◌*◌, ℕ, arith, Bool, true, false, not, Some, List, [], length, slice_get, refl, ap, sym, subst, ◌∙◌, ◌⊎◌, inl, inr, ◌&&◌, ◌||◌, ◌↔◌, fun_ext, and_parts, cases_lt, same_Some, slice_get_within, StrandPrecedes as GraphPrecedes, ProgramText, runs_are_counted, IsForkJoinState, run_is_fork_join_state, start_is_fork_join_state, object_at, row_of, start, MachineState, Name, Object, Strand, Event, In, got_in, in_got, in_map, map_in, Begun, accesses, RaceAt, Field, FieldAccess, is_legal, machine_of, tasks_of, EntryValue, SettingsValue, field_limit, turns_of, in_log, walks_agree, block_of, lines_of, events_told, turns_told, logs_tell_edges, ToldAccess, accesses_told, as_told, access_kind_of, field_region, index_among, Covers, Region, writes, is_atomic, clash, ToldRaceAt, count_of, HasField, LogsTellRaces, LogsTellFields, Precedes}
use Rattle.run_race_laws.proofs.Told.{SeenIn, seen_along}

-- KINDS

writes_kind : (a b : Bool) → writes (access_kind_of a b) ≡ a
writes_kind true true = refl
writes_kind true false = refl
writes_kind false true = refl
writes_kind false false = refl

atomic_kind : (a b : Bool) → is_atomic (access_kind_of a b) ≡ b
atomic_kind true true = refl
atomic_kind true false = refl
atomic_kind false true = refl
atomic_kind false false = refl

clash_is : (a b c d : Bool) → clash (access_kind_of a b) (access_kind_of c d) ≡ ((a || c) && not (b && d))
clash_is a b c d = λ i. (writes_kind a b i || writes_kind c d i) && not (atomic_kind a b i && atomic_kind c d i)

or_true : (a c : Bool) → (a ≡ true) ⊎ (c ≡ true) → (a || c) ≡ true
or_true true c h = refl
or_true false c (inl e) = absurd cc
or_true false c (inr e) = e

not_both : (b d : Bool) → (b ≡ false) ⊎ (d ≡ false) → not (b && d) ≡ true
not_both false d h = refl
not_both true d (inl e) = absurd cc
not_both true d (inr e) = rw e refl

clashes : (a b c d : Bool) → (a ≡ true) ⊎ (c ≡ true) → (b ≡ false) ⊎ (d ≡ false) → clash (access_kind_of a b) (access_kind_of c d) ≡ true
clashes a b c d w n = clash_is a b c d ∙ rw (or_true a c w, not_both b d n) refl

one_true : (a c : Bool) → (a || c) ≡ true → (a ≡ true) ⊎ (c ≡ true)
one_true true c e = inl refl
one_true false c e = inr e

one_false : (b d : Bool) → not (b && d) ≡ true → (b ≡ false) ⊎ (d ≡ false)
one_false false d e = inl refl
one_false true false e = inr refl
one_false true true e = absurd cc

other_way : {A B : Type 0} → A ⊎ B → B ⊎ A
other_way (inl a) = inr a
other_way (inr b) = inl b

-- LOCATIONS

pub same_names : (a b : Name) → a.count < 1000000000 → b.count < 1000000000 → block_of a ≡ block_of b → a ≡ b
same_names a b la lb e =
    let t : a.task ≡ b.task = omega (arith, la, lb, e) in
    let c : a.count ≡ b.count = omega (arith, t, e) in
    λ i. record { task = t i; count = c i }

same_index : (o : Object) (b c : Bool) (j k : ℕ) → j < count_of o b → k < count_of o c → index_among (Some o) b j ≡ index_among (Some o) c k → (b ≡ c) × (j ≡ k)
same_index o false false j k lj lk e = (refl, e)
same_index o true true j k lj lk e = (refl, omega (arith, e))
same_index o false true j k lj lk e = absurd (omega (arith, lj, e))
same_index o true false j k lj lk e = absurd (omega (arith, lk, e))

covered : (n : Name) (offset block x : ℕ) → Covers (record { block = block_of n; offset = offset; length = 1; runs = 1; apart = 1 }) block x → (block_of n ≡ block) × (offset ≡ x)
covered n offset block x h = let a = h.there in let b = h.from in let c = h.below in (h.of_block, omega (arith, a, b, c))

module _ (p : ProgramText) (s : SettingsValue) (journal : List EntryValue) (legal : is_legal p s journal ≡ true) (few : length (tasks_of journal) ≤ 1000000000) where
  abbrev m : MachineState
  m = machine_of p s journal

  abbrev all : List FieldAccess
  all = accesses p (field_limit s.version) (tasks_of journal)

  abbrev events : List Event
  events = events_told (lines_of p s journal)

  S : SeenIn m all events
  S = seen_along p s journal legal

  turns_are : turns_told events ≡ turns_of m.edges
  turns_are = fun_ext (logs_tell_edges p s journal legal).turns

  K : IsForkJoinState m
  K = run_is_fork_join_state p (start p (field_limit s.version)) (tasks_of journal) (start_is_fork_join_state p (field_limit s.version))

  pub walks : (u v : Strand) → Begun m u → Begun m v → Precedes m.edges u v ↔ GraphPrecedes (turns_told events) (in_log u) (in_log v)
  walks u v bu bv = subst (λ tasks. Precedes m.edges u v ↔ GraphPrecedes tasks (in_log u) (in_log v)) (sym turns_are) (walks_agree p (field_limit s.version) (tasks_of journal) u v bu bv)

  itself : (u v : Strand) → u ≡ v → Precedes m.edges u v
  itself u v e = ([], e)

  pub few_objects : (n : Name) (o : Object) → object_at m.store n ≡ Some o → n.count < 1000000000
  few_objects n o is =
      let a = slice_get_within (row_of (slice_get m.store n.task)) n.count o is in
      let b = (runs_are_counted p (field_limit s.version) (tasks_of journal)).objects n.task in
      omega (arith, a, b, few)

  same_fields : (f g : Field) → HasField m.store f → HasField m.store g → block_of f.name ≡ block_of g.name
      → index_among (object_at m.store f.name) f.is_number f.index ≡ index_among (object_at m.store g.name) g.is_number g.index → f ≡ g
  same_fields f g hf hg eb ei =
      let n : f.name ≡ g.name = same_names f.name g.name (few_objects f.name hf.0 hf.1) (few_objects g.name hg.0 hg.1) eb in
      let o : hf.0 ≡ hg.0 = same_Some hf.0 hg.0 (sym hf.1 ∙ (ap (object_at m.store) n ∙ hg.1)) in
      let e : index_among (Some hf.0) f.is_number f.index ≡ index_among (Some hf.0) g.is_number g.index =
      ap (λ q. index_among q f.is_number f.index) (sym hf.1) ∙ (ei ∙ (ap (λ q. index_among q g.is_number g.index) hg.1 ∙ ap (λ q. index_among (Some q) g.is_number g.index) (sym o))) in
      let lg : g.index < count_of hf.0 g.is_number = subst (λ q. g.index < count_of q g.is_number) (sym o) hg.2 in
      let r = same_index hf.0 f.is_number g.is_number f.index g.index hf.2 lg e in
      λ i. record { name = n i; is_number = r.0 i; index = r.1 i }

  module _ (field : Field) (there : HasField m.store field) where
    abbrev block : ℕ
    block = block_of field.name

    abbrev x : ℕ
    x = index_among (object_at m.store field.name) field.is_number field.index

    abbrev Runs : Type 0
    Runs = (i : ℕ) × (j : ℕ) × (u : FieldAccess) × (v : FieldAccess) × RaceAt m.edges all field i j u v

    abbrev Tells : Type 0
    Tells = (a : ToldAccess) × (b : ToldAccess) × ToldRaceAt (turns_told events) (accesses_told events) block x a b

    told_in : (u : FieldAccess) → In all u → In (accesses_told events) (as_told m.store u)
    told_in u i = subst (λ q. In q (as_told m.store u)) (sym S.same) (in_map (as_told m.store) all u i)

    covers : (u : FieldAccess) → u.field ≡ field → Covers (as_told m.store u).access.region block x
    covers u e = subst (λ (f : Field). Covers (field_region m.store f) block x) (sym e) (record { of_block = refl; run = 0; there = omega arith; from = omega arith; below = omega arith })

    to_told : Runs → Tells
    to_told (i, j, u, v, r) =
        let iu = got_in all i u r.first in
        let iv = got_in all j v r.second in
        let bu = S.begun u iu in
        let bv = S.begun v iv in (
          as_told m.store u,
          as_told m.store v,
          record {
            first = told_in u iu;
            second = told_in v iv;
            covers_first = covers u (r.race.field ∙ r.of_field);
            covers_second = covers v r.of_field;
            clashing = clashes u.writes u.swaps v.writes v.swaps r.race.writes r.race.plain;
            not_before = λ w. r.race.apart ((walks u.strand v.strand bu bv).1 w);
            not_after = λ w. r.race.apart (itself u.strand v.strand (sym (S.time i j u v r.order r.first r.second ((K.tree.right v.strand u.strand).1 ((walks v.strand u.strand bv bu).1 w)))));
          },
        )

    told_access_of : (a : ToldAccess) → In (accesses_told events) a → (u : FieldAccess) × In all u × (as_told m.store u ≡ a)
    told_access_of a i = map_in (as_told m.store) all a (subst (λ q. In q a) S.same i)

    field_of : (u : FieldAccess) → In all u → Covers (as_told m.store u).access.region block x → u.field ≡ field
    field_of u i c =
        let h = covered u.field.name (index_among (object_at m.store u.field.name) u.field.is_number u.field.index) block x c in
        same_fields u.field field (S.fields u i) there h.0 h.1

    race_of : (i j : ℕ) (u v : FieldAccess) → i < j → slice_get all i ≡ Some u → slice_get all j ≡ Some v → u.field ≡ field → v.field ≡ field
        → (u.writes ≡ true) ⊎ (v.writes ≡ true) → (u.swaps ≡ false) ⊎ (v.swaps ≡ false) → (Precedes m.edges u.strand v.strand → ⊥) → Runs
    race_of i j u v lt gu gv fu fv w n apart = (i, j, u, v, record { order = lt; first = gu; second = gv; of_field = fv; race = record { field = fu ∙ sym fv; writes = w; plain = n; apart = apart } })

    from_pair : (u v : FieldAccess) → In all u → In all v → ToldRaceAt (turns_told events) (accesses_told events) block x (as_told m.store u) (as_told m.store v) → Runs
    from_pair u v iu iv r =
        let gu = in_got all u iu in
        let gv = in_got all v iv in
        let bu = S.begun u iu in
        let bv = S.begun v iv in
        let fu = field_of u iu r.covers_first in
        let fv = field_of v iv r.covers_second in
        let c = and_parts (u.writes || v.writes) (not (u.swaps && v.swaps)) (sym (clash_is u.writes u.swaps v.writes v.swaps) ∙ r.clashing) in
        let w = one_true u.writes v.writes c.0 in
        let n = one_false u.swaps v.swaps c.1 in
        let before = λ (h : Precedes m.edges u.strand v.strand). r.not_before ((walks u.strand v.strand bu bv).0 h) in
        let after = λ (h : Precedes m.edges v.strand u.strand). r.not_after ((walks v.strand u.strand bv bu).0 h) in
        elim (cases_lt gu.0 gv.0) [
          | inl lt ↦ race_of gu.0 gv.0 u v lt gu.1 gv.1 fu fv w n before
          | inr ge ↦ elim (cases_lt gv.0 gu.0) [
            | inl lt ↦ race_of gv.0 gu.0 v u lt gv.1 gu.1 fv fu (other_way w) (other_way n) after
            | inr le ↦
                let e : gu.0 ≡ gv.0 = omega (arith, ge, le) in
                let same : u ≡ v = same_Some u v (sym gu.1 ∙ (ap (slice_get all) e ∙ gv.1)) in
                absurd (before (itself u.strand v.strand (ap (λ (q : FieldAccess). q.strand) same)))
          ]
        ]

    from_told : Tells → Runs
    from_told (a, b, r) =
        let u = told_access_of a r.first in
        let v = told_access_of b r.second in
        from_pair u.0 v.0 u.1 v.1
        (subst (λ q. ToldRaceAt (turns_told events) (accesses_told events) block x (as_told m.store u.0) q) (sym v.2)
        (subst (λ q. ToldRaceAt (turns_told events) (accesses_told events) block x q b) (sym u.2) r))

pub logs_tell_races : LogsTellRaces
logs_tell_races p s journal legal few field there = (to_told p s journal legal few field there, from_told p s journal legal few field there)

pub logs_tell_fields : LogsTellFields
logs_tell_fields p s journal legal a i block x c =
    let m = machine_of p s journal in
    let all = accesses p (field_limit s.version) (tasks_of journal) in
    let S : SeenIn m all (events_told (lines_of p s journal)) = seen_along p s journal legal in
    let u = map_in (as_told m.store) all a (subst (λ found. In found a) S.same i) in
    let f = u.0.field in
    (f, S.fields u.0 u.1, covered f.name (index_among (object_at m.store f.name) f.is_number f.index) block x (subst (λ (b : ToldAccess). Covers b.access.region block x) (sym u.2) c))
