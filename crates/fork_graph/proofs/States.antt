-- How tasks stand with their parents as turns are taken, and what is wrong with a turn that isn't allowed.
use Rattle.fork_graph.proofs.Common.{◌≡◌, ◌==◌, ℕ, zero, suc, ◌+◌, ◌<◌, Bool, true, false, List, length, ◌⊎◌, inl, inr, refl, ap, sym, subst, ◌∙◌, arith, Option, Some, None, slice_get, slice_set, replicate, if◌then◌else◌, list_any, cases_lt, cases_eq, cases_order, false≢true, eqb-true, eqb-false, length-set, length-replicate, same_Some, slice_get_within, got_same, got_other, any_from_in, in_from_any, got_in, got_none, in_got, none_some, GraphTurn, Spawn, Join, GraphStrand, ChildState, Unspawned, Open, Joined, Extent, StrandCause, SpawnsNoNewTask, JoinsNoOpenChild, LeavesUnjoined, IsUnreached, TaskTurns, tasks_in, strand, last_of, Does, IsEarlier, IsSpawnedBefore, IsNew, IsOpen, IsFault, HasNoEarlier, cause_of_turn, none_spawned, spawned_from, joined_from, after_turn, is_open, spawns_open, HasState, AreStates}
use Rattle.fork_graph.proofs.Cut.{same_spawn, same_join, spawn_no_join}

-- ORDER

pub earlier_next : (u : GraphStrand) (t i : ℕ) → IsEarlier u (strand t (i + 1)) → IsEarlier u (strand t i) ⊎ ((u.task ≡ t) × (u.index ≡ i))
earlier_next u t i (inl lt) = inl (inl lt)
earlier_next u t i (inr (same, lt)) =
    elim (cases_lt u.index i) [
      | inl before ↦ inl (inr (same, before))
      | inr ge ↦ inr (same, omega arith)
    ]

pub next_later : (u : GraphStrand) (t i : ℕ) → IsEarlier u (strand t i) → IsEarlier u (strand t (i + 1))
next_later u t i (inl lt) = inl lt
next_later u t i (inr (same, lt)) = inr (same, omega arith)

pub order : (u v : GraphStrand) → ((u.task ≡ v.task) × (u.index ≡ v.index)) ⊎ (IsEarlier u v ⊎ IsEarlier v u)
order u v =
    elim (cases_order u.task v.task) [
      | inl same ↦ elim (cases_order u.index v.index) [
        | inl equal ↦ inl (same, equal)
        | inr apart ↦ elim apart [ inl lt ↦ inr (inl (inr (same, lt))) | inr gt ↦ inr (inr (inr (sym same, gt))) ]
      ]
      | inr apart ↦ elim apart [ inl lt ↦ inr (inl (inl lt)) | inr gt ↦ inr (inr (inl gt)) ]
    ]

own_earlier : (t p j i : ℕ) → p ≡ t → IsEarlier (strand p j) (strand t i) → j < i
own_earlier t p j i same (inl lt) = absurd (omega arith)
own_earlier t p j i same (inr (e, lt)) = lt

does_same : (tasks : TaskTurns) (t i : ℕ) (a b : GraphTurn) → Does tasks t i a → Does tasks t i b → a ≡ b
does_same tasks t i a b h k = same_Some a b (sym h ∙ k)

not_both : {A : Type 0} (tasks : TaskTurns) (t i c d : ℕ) → Does tasks t i (Spawn c) → Does tasks t i (Join d) → A
not_both tasks t i c d h k = spawn_no_join c d (does_same tasks t i (Spawn c) (Join d) h k)

not_last : {A : Type 0} (tasks : TaskTurns) (t i : ℕ) (turn : GraphTurn) → Does tasks t i turn → strand t i ≡ last_of tasks t → A
not_last tasks t i turn h e =
    let lt : i < length (tasks t) = slice_get_within (tasks t) i turn h in
    let same : i ≡ length (tasks t) = ap (λ (x : GraphStrand). x.index) e in
    absurd (omega arith)

-- ---- states that a turn of another child leaves

module _ (tasks : TaskTurns) (t i c : ℕ) (no_spawn : Does tasks t i (Spawn c) → ⊥) (no_join : Does tasks t i (Join c) → ⊥) where
  spawn_here : (s j : ℕ) → Does tasks s j (Spawn c) → IsEarlier (strand s j) (strand t (i + 1)) → IsEarlier (strand s j) (strand t i)
  spawn_here s j h e =
      elim (earlier_next (strand s j) t i e) [
        | inl good ↦ good
        | inr (same, equal) ↦ absurd (no_spawn (subst (λ k. Does tasks t k (Spawn c)) equal (subst (λ x. Does tasks x j (Spawn c)) same h)))
      ]

  join_here : (s j : ℕ) → Does tasks s j (Join c) → IsEarlier (strand s j) (strand t (i + 1)) → IsEarlier (strand s j) (strand t i)
  join_here s j h e =
      elim (earlier_next (strand s j) t i e) [
        | inl good ↦ good
        | inr (same, equal) ↦ absurd (no_join (subst (λ k. Does tasks t k (Join c)) equal (subst (λ x. Does tasks x j (Join c)) same h)))
      ]

  pub state_on : (state : ChildState) → HasState tasks (strand t i) c state → HasState tasks (strand t (i + 1)) c state
  state_on Unspawned (some, none) = (some, λ h. none (h.0, h.1, h.2, spawn_here h.0 h.1 h.2 h.3))
  state_on (Open p) ((j, h, e), none) = ((j, h, next_later (strand p j) t i e), λ k jn ek. none k jn (join_here p k jn ek))
  state_on Joined (inl root) = inl root
  state_on Joined (inr (p, j, k, h, e, jn, ek)) = inr (p, j, k, h, next_later (strand p j) t i e, jn, next_later (strand p k) t i ek)

-- ---- what stands at the start of the next task stands at the end of the one before

module _ (tasks : TaskTurns) (t : ℕ) where
  end_from_next : (s j : ℕ) (turn : GraphTurn) → Does tasks s j turn → IsEarlier (strand s j) (strand (t + 1) 0) → IsEarlier (strand s j) (last_of tasks t)
  end_from_next s j turn h (inl lt) =
      elim (cases_lt s t) [
        | inl before ↦ inl before
        | inr ge ↦
            let same : s ≡ t = omega arith in
            inr (same, subst (λ x. j < length (tasks x)) same (slice_get_within (tasks s) j turn h))
      ]
  end_from_next s j turn h (inr (same, lt)) = absurd (omega arith)

  next_from_end : (u : GraphStrand) → IsEarlier u (last_of tasks t) → IsEarlier u (strand (t + 1) 0)
  next_from_end u (inl lt) = inl (omega arith)
  next_from_end u (inr (same, lt)) = inl (omega arith)

  state_next : (c : ℕ) (state : ChildState) → HasState tasks (last_of tasks t) c state → HasState tasks (strand (t + 1) 0) c state
  state_next c Unspawned (some, none) = (some, λ h. none (h.0, h.1, h.2, end_from_next h.0 h.1 (Spawn c) h.2 h.3))
  state_next c (Open p) ((j, h, e), none) = ((j, h, next_from_end (strand p j) e), λ k jn ek. none k jn (end_from_next p k (Join c) jn ek))
  state_next c Joined (inl root) = inl root
  state_next c Joined (inr (p, j, k, h, e, jn, ek)) = inr (p, j, k, h, next_from_end (strand p j) e, jn, next_from_end (strand p k) ek)

  pub states_next : (n : ℕ) (states : List ChildState) → AreStates tasks n (last_of tasks t) states → AreStates tasks n (strand (t + 1) 0) states
  states_next n states f = record { size = f.size; each = λ c state h. state_next c state (f.each c state h) }

open_spawn_by : (states : List ChildState) (turn : GraphTurn) (i : ℕ) (turns : List GraphTurn) → slice_get turns i ≡ Some turn → spawns_open states turn ≡ true
    → (c : ℕ) × ((i : ℕ) × (slice_get turns i ≡ Some (Spawn c))) × (is_open (slice_get states c) ≡ true)
open_spawn_by states (Spawn c) i turns at is = (c, (i, at), is)
open_spawn_by states (Join c) i turns at is = absurd (false≢true is)

-- which of the turns spawned a child that is open
open_spawn : (states : List ChildState) (turns : List GraphTurn) → list_any (spawns_open states) turns ≡ true
    → (c : ℕ) × ((i : ℕ) × (slice_get turns i ≡ Some (Spawn c))) × (is_open (slice_get states c) ≡ true)
open_spawn states turns any =
    let r = in_from_any (spawns_open states) turns any in
    let at = in_got turns r.0 r.1 in
    open_spawn_by states r.0 at.0 turns at.1 r.2

module _ (rows : List (List GraphTurn)) (extent : Extent) where
  -- SPAWNS WITHOUT A FAULT

  clash : {A : Type 0} (v : GraphStrand) (c s j s' j' : ℕ) → HasNoEarlier rows extent v → Does (tasks_in rows) s j (Spawn c) → Does (tasks_in rows) s' j' (Spawn c)
      → IsEarlier (strand s' j') v → IsEarlier (strand s j) (strand s' j') → A
  clash v c s j s' j' none h h' e' before =
      absurd (none (strand s' j') SpawnsNoNewTask e' (c, h', λ new. new.unspawned (s, j, h, before)))

  pub one_spawn : (v : GraphStrand) (c s j s' j' : ℕ) → HasNoEarlier rows extent v → Does (tasks_in rows) s j (Spawn c) → Does (tasks_in rows) s' j' (Spawn c)
      → IsEarlier (strand s j) v → IsEarlier (strand s' j') v → (s ≡ s') × (j ≡ j')
  one_spawn v c s j s' j' none h h' e e' =
      elim (order (strand s j) (strand s' j')) [
        | inl same ↦ same
        | inr apart ↦ elim apart [
          | inl before ↦ clash v c s j s' j' none h h' e' before
          | inr after ↦ clash v c s' j' s j none h' h e after
        ]
      ]

  pub spawn_there : (v : GraphStrand) (c s j : ℕ) → HasNoEarlier rows extent v → Does (tasks_in rows) s j (Spawn c) → IsEarlier (strand s j) v → (0 < c) × (c < length rows)
  spawn_there v c s j none h e = (
    elim (cases_lt 0 c) [
      | inl lt ↦ lt
      | inr ge ↦ absurd (none (strand s j) SpawnsNoNewTask e (c, h, λ new. let p : 0 < c = new.not_root in omega arith))
    ],
    elim (cases_lt c (length rows)) [
      | inl lt ↦ lt
      | inr ge ↦ absurd (none (strand s j) SpawnsNoNewTask e (c, h, λ new. let p : c < length rows = new.there in omega arith))
    ],
  )

  -- A TURN THAT IS ALLOWED

  module _ (t i : ℕ) (states : List ChildState) (f : AreStates (tasks_in rows) (length rows) (strand t i) states) (none : HasNoEarlier rows extent (strand t i)) where
    on_by : (turn : GraphTurn) → Does (tasks_in rows) t i turn
        → ((cause : StrandCause) → IsFault (tasks_in rows) (length rows) extent (strand t i) cause → ⊥) → HasNoEarlier rows extent (strand t (i + 1))
    on_by turn h good u cause e bad =
        elim (earlier_next u t i e) [
          | inl before ↦ none u cause before bad
          | inr (same, equal) ↦
              good cause (subst (λ (x : GraphStrand). IsFault (tasks_in rows) (length rows) extent x cause)
              (ap (λ x. strand x u.index) same ∙ ap (strand t) equal) bad)
        ]

    good_spawn : (c : ℕ) → Does (tasks_in rows) t i (Spawn c) → IsNew (tasks_in rows) (length rows) (strand t i) c
        → (cause : StrandCause) → IsFault (tasks_in rows) (length rows) extent (strand t i) cause → ⊥
    good_spawn c h new SpawnsNoNewTask (d, h', bad) =
        bad (subst (IsNew (tasks_in rows) (length rows) (strand t i)) (same_spawn c d (does_same (tasks_in rows) t i (Spawn c) (Spawn d) h h')) new)
    good_spawn c h new JoinsNoOpenChild (d, h', bad) = not_both (tasks_in rows) t i c d h h'
    good_spawn c h new LeavesUnjoined (w, e, more) = not_last (tasks_in rows) t i (Spawn c) h e
    good_spawn c h new IsUnreached (w, e, more) = not_last (tasks_in rows) t i (Spawn c) h e

    good_join : (c : ℕ) → Does (tasks_in rows) t i (Join c) → IsOpen (tasks_in rows) (strand t i) c
        → (cause : StrandCause) → IsFault (tasks_in rows) (length rows) extent (strand t i) cause → ⊥
    good_join c h opened SpawnsNoNewTask (d, h', bad) = not_both (tasks_in rows) t i d c h' h
    good_join c h opened JoinsNoOpenChild (d, h', bad) =
        bad (subst (IsOpen (tasks_in rows) (strand t i)) (same_join c d (does_same (tasks_in rows) t i (Join c) (Join d) h h')) opened)
    good_join c h opened LeavesUnjoined (w, e, more) = not_last (tasks_in rows) t i (Join c) h e
    good_join c h opened IsUnreached (w, e, more) = not_last (tasks_in rows) t i (Join c) h e

    -- the states with that of child c changed
    changed : (c : ℕ) (old new : ChildState) → slice_get states c ≡ Some old
        → ((d : ℕ) → (d ≡ c → ⊥) → Does (tasks_in rows) t i (Spawn d) → ⊥) → ((d : ℕ) → (d ≡ c → ⊥) → Does (tasks_in rows) t i (Join d) → ⊥)
        → HasState (tasks_in rows) (strand t (i + 1)) c new → AreStates (tasks_in rows) (length rows) (strand t (i + 1)) (slice_set states c new)
    changed c old new at other_spawn other_join has = record {
      size = length-set states c new ∙ f.size;
      each = λ d state h. elim (cases_eq d c) [
        | inl same ↦
            let is : new ≡ state = same_Some new state (sym (got_same states c old new at) ∙ subst (λ x. slice_get (slice_set states c new) x ≡ Some state) same h) in
            subst (λ x. HasState (tasks_in rows) (strand t (i + 1)) x state) (sym same) (subst (HasState (tasks_in rows) (strand t (i + 1)) c) is has)
        | inr apart ↦
            state_on (tasks_in rows) t i d (other_spawn d apart) (other_join d apart) state (f.each d state (sym (got_other states c d new apart) ∙ h))
      ];
    }

    early_join : (c k : ℕ) → (IsSpawnedBefore (tasks_in rows) (strand t i) c → ⊥) → Does (tasks_in rows) t k (Join c) → IsEarlier (strand t k) (strand t i) → ⊥
    early_join c k new h e =
        none (strand t k) JoinsNoOpenChild e (
          c,
          h,
          λ opened.
              let s = opened.spawned in
              let lt : s.0 < k = s.1 in
              let lt' : k < i = own_earlier t t k i refl e in
              new (t, s.0, s.2, inr (refl, omega arith)),
        )

    spawn_taken : (c : ℕ) (after : List ChildState) → Does (tasks_in rows) t i (Spawn c) → slice_get states c ≡ Some Unspawned → slice_set states c (Open t) ≡ after
        → AreStates (tasks_in rows) (length rows) (strand t (i + 1)) after × HasNoEarlier rows extent (strand t (i + 1))
    spawn_taken c after h at is =
        let has = f.each c Unspawned at in
        let lt : c < length states = slice_get_within states c Unspawned at in
        let new : IsNew (tasks_in rows) (length rows) (strand t i) c = record { not_root = has.0; there = subst (λ k. c < k) f.size lt; unspawned = has.1 } in (
          subst (AreStates (tasks_in rows) (length rows) (strand t (i + 1))) is
              (changed c Unspawned (Open t) at
              (λ d apart h'. apart (same_spawn d c (does_same (tasks_in rows) t i (Spawn d) (Spawn c) h' h)))
              (λ d apart h'. not_both (tasks_in rows) t i c d h h') (
                (i, h, inr (refl, omega arith)),
                λ k jn e. elim (earlier_next (strand t k) t i e) [
                  | inl before ↦ early_join c k has.1 jn before
                  | inr (same, equal) ↦ not_both (tasks_in rows) t i c c h (subst (λ x. Does (tasks_in rows) t x (Join c)) equal jn)
                ],
              )),
          on_by (Spawn c) h (good_spawn c h new),
        )

    join_taken : (c : ℕ) (after : List ChildState) → Does (tasks_in rows) t i (Join c) → slice_get states c ≡ Some (Open t) → slice_set states c Joined ≡ after
        → AreStates (tasks_in rows) (length rows) (strand t (i + 1)) after × HasNoEarlier rows extent (strand t (i + 1))
    join_taken c after h at is =
        let has = f.each c (Open t) at in
        let s = has.0 in
        let opened : IsOpen (tasks_in rows) (strand t i) c = record {
          spawned = (s.0, own_earlier t t s.0 i refl s.2, s.1);
          unjoined = λ k lt jn. has.1 k jn (inr (refl, lt));
        } in (
          subst (AreStates (tasks_in rows) (length rows) (strand t (i + 1))) is
              (changed c (Open t) Joined at
              (λ d apart h'. not_both (tasks_in rows) t i d c h' h)
              (λ d apart h'. apart (same_join d c (does_same (tasks_in rows) t i (Join d) (Join c) h' h)))
              (inr (t, s.0, i, s.1, next_later (strand t s.0) t i s.2, h, inr (refl, omega arith)))),
          on_by (Join c) h (good_join c h opened),
        )

    spawn_by : (c : ℕ) (after : List ChildState) (o : Option ChildState) → Does (tasks_in rows) t i (Spawn c) → slice_get states c ≡ o → spawned_from states t c o ≡ Some after
        → AreStates (tasks_in rows) (length rows) (strand t (i + 1)) after × HasNoEarlier rows extent (strand t (i + 1))
    spawn_by c after (Some Unspawned) h at is = spawn_taken c after h at (same_Some (slice_set states c (Open t)) after is)
    spawn_by c after (Some (Open p)) h at is = none_some is
    spawn_by c after (Some Joined) h at is = none_some is
    spawn_by c after None h at is = none_some is

    open_by : (c p : ℕ) (after : List ChildState) (b : Bool) → (p == t) ≡ b → Does (tasks_in rows) t i (Join c) → slice_get states c ≡ Some (Open p)
        → (if b then Some (slice_set states c Joined) else None) ≡ Some after
        → AreStates (tasks_in rows) (length rows) (strand t (i + 1)) after × HasNoEarlier rows extent (strand t (i + 1))
    open_by c p after true same h at is =
        join_taken c after h (at ∙ ap (λ x. Some (Open x)) (eqb-true p t same)) (same_Some (slice_set states c Joined) after is)
    open_by c p after false same h at is = none_some is

    join_by : (c : ℕ) (after : List ChildState) (o : Option ChildState) → Does (tasks_in rows) t i (Join c) → slice_get states c ≡ o → joined_from states t c o ≡ Some after
        → AreStates (tasks_in rows) (length rows) (strand t (i + 1)) after × HasNoEarlier rows extent (strand t (i + 1))
    join_by c after (Some Unspawned) h at is = none_some is
    join_by c after (Some (Open p)) h at is = open_by c p after (p == t) refl h at is
    join_by c after (Some Joined) h at is = none_some is
    join_by c after None h at is = none_some is

    pub turn_taken : (turn : GraphTurn) (after : List ChildState) → Does (tasks_in rows) t i turn → after_turn states t turn ≡ Some after
        → AreStates (tasks_in rows) (length rows) (strand t (i + 1)) after × HasNoEarlier rows extent (strand t (i + 1))
    turn_taken (Spawn c) after h is = spawn_by c after (slice_get states c) h refl is
    turn_taken (Join c) after h is = join_by c after (slice_get states c) h refl is

    -- A TURN THAT ISN'T

    spawn_refused : (c : ℕ) (o : Option ChildState) → Does (tasks_in rows) t i (Spawn c) → slice_get states c ≡ o → spawned_from states t c o ≡ None
        → IsNew (tasks_in rows) (length rows) (strand t i) c → ⊥
    spawn_refused c (Some Unspawned) h at is new = none_some (sym is)
    spawn_refused c (Some (Open p)) h at is new = let s = (f.each c (Open p) at).0 in new.unspawned (p, s.0, s.1, s.2)
    spawn_refused c (Some Joined) h at is new =
        elim (f.each c Joined at) [
          | inl root ↦ let lt : 0 < c = new.not_root in omega arith
          | inr (p, j, k, sp, e, jn, ek) ↦ new.unspawned (p, j, sp, e)
        ]
    spawn_refused c None h at is new = got_none states c (subst (λ k. c < k) (sym f.size) new.there) at

    -- how an open child of the task stands
    open_state : (c : ℕ) (o : Option ChildState) → slice_get states c ≡ o → IsOpen (tasks_in rows) (strand t i) c → o ≡ Some (Open t)
    open_state c (Some Unspawned) at opened =
        let s = opened.spawned in absurd ((f.each c Unspawned at).1 (t, s.0, s.2, inr (refl, s.1)))
    open_state c (Some (Open p)) at opened =
        let s = opened.spawned in
        let h = (f.each c (Open p) at).0 in
        ap (λ x. Some (Open x)) (one_spawn (strand t i) c p h.0 t s.0 none h.1 s.2 h.2 (inr (refl, s.1))).0
    open_state c (Some Joined) at opened =
        let s = opened.spawned in
        elim (f.each c Joined at) [
          | inl root ↦ let lt : 0 < c = (spawn_there (strand t i) c t s.0 none s.2 (inr (refl, s.1))).0 in absurd (omega arith)
          | inr (p, j, k, sp, e, jn, ek) ↦
              let same = (one_spawn (strand t i) c p j t s.0 none sp s.2 e (inr (refl, s.1))).0 in
              absurd (opened.unjoined k (own_earlier t p k i same ek) (subst (λ x. Does (tasks_in rows) x k (Join c)) same jn))
        ]
    open_state c None at opened =
        let s = opened.spawned in
        let lt = (spawn_there (strand t i) c t s.0 none s.2 (inr (refl, s.1))).1 in
        absurd (got_none states c (subst (λ k. c < k) (sym f.size) lt) at)

    own_join : (after : List ChildState) (b : Bool) → (t == t) ≡ b → (if b then Some after else None) ≡ None → ⊥
    own_join after true e is = none_some (sym is)
    own_join after false e is = eqb-false t t e refl

    pub turn_refused : (turn : GraphTurn) → Does (tasks_in rows) t i turn → after_turn states t turn ≡ None
        → IsFault (tasks_in rows) (length rows) extent (strand t i) (cause_of_turn turn)
    turn_refused (Spawn c) h is = (c, h, spawn_refused c (slice_get states c) h refl is)
    turn_refused (Join c) h is = (
      c,
      h,
      λ opened.
          let at = open_state c (slice_get states c) refl opened in
          own_join (slice_set states c Joined) (t == t) refl (subst (λ o. joined_from states t c o ≡ None) at is),
    )

    -- CHILDREN THAT ARE LEFT OPEN

    is_open_by : (c : ℕ) (o : Option ChildState) → slice_get states c ≡ o → is_open o ≡ true → (p : ℕ) × (slice_get states c ≡ Some (Open p))
    is_open_by c (Some Unspawned) at is = absurd (false≢true is)
    is_open_by c (Some (Open p)) at is = (p, at)
    is_open_by c (Some Joined) at is = absurd (false≢true is)
    is_open_by c None at is = absurd (false≢true is)

    pub left_open : i ≡ length (tasks_in rows t) → list_any (spawns_open states) (tasks_in rows t) ≡ true → (c : ℕ) × IsOpen (tasks_in rows) (strand t i) c
    left_open end any =
        let r = open_spawn states (tasks_in rows t) any in
        let c = r.0 in
        let s = r.1 in
        let lt : s.0 < length (tasks_in rows t) = slice_get_within (tasks_in rows t) s.0 (Spawn c) s.1 in
        let before : s.0 < i = omega arith in
        let o = is_open_by c (slice_get states c) refl r.2 in
        let has = f.each c (Open o.0) o.1 in
        let same = (one_spawn (strand t i) c o.0 has.0.0 t s.0 none has.0.1 s.1 has.0.2 (inr (refl, before))).0 in (
          c,
          record {
            spawned = (s.0, before, s.1);
            unjoined = λ j lt' jn. has.1 j (subst (λ x. Does (tasks_in rows) x j (Join c)) (sym same) jn) (inr (same, lt'));
          },
        )

    pub none_left : list_any (spawns_open states) (tasks_in rows t) ≡ false → (c : ℕ) → IsOpen (tasks_in rows) (strand t i) c → ⊥
    none_left any c opened =
        let s = opened.spawned in
        let at = open_state c (slice_get states c) refl opened in
        let is : is_open (slice_get states c) ≡ true = ap is_open at in
        let found = any_from_in (spawns_open states) (tasks_in rows t) (Spawn c) (got_in (tasks_in rows t) s.0 (Spawn c) s.2) is in
        false≢true (sym any ∙ found)

-- THE START

none_by : (n c : ℕ) (state : ChildState) → slice_get (replicate n Unspawned) c ≡ Some state → state ≡ Unspawned
none_by zero c state h = none_some h
none_by (suc n) zero state h = sym (same_Some Unspawned state h)
none_by (suc n) (suc c) state h = none_by n c state h

nothing_before : {A : Type 0} (u : GraphStrand) → IsEarlier u (strand 0 0) → A
nothing_before u (inl lt) = absurd (omega arith)
nothing_before u (inr (same, lt)) = absurd (omega arith)

first_state : (tasks : TaskTurns) (n c : ℕ) (state : ChildState) → slice_get (none_spawned n) c ≡ Some state → HasState tasks (strand 0 0) c state
first_state tasks zero c state h = none_some h
first_state tasks (suc n) zero state h = subst (HasState tasks (strand 0 0) 0) (same_Some Joined state h) (inl refl)
first_state tasks (suc n) (suc c) state h =
    subst (HasState tasks (strand 0 0) (suc c)) (sym (none_by n c state h)) (omega arith, λ b. nothing_before (strand b.0 b.1) b.3)

none_size : (n : ℕ) → length (none_spawned n) ≡ n
none_size zero = refl
none_size (suc n) = ap suc (length-replicate n Unspawned)

pub states_start : (tasks : TaskTurns) (n : ℕ) → AreStates tasks n (strand 0 0) (none_spawned n)
states_start tasks n = record { size = none_size n; each = first_state tasks n }

pub no_fault_before : (rows : List (List GraphTurn)) (extent : Extent) → HasNoEarlier rows extent (strand 0 0)
no_fault_before rows extent u cause e bad = nothing_before u e
