-- Runs without a fault.
use Rattle.fork_graph.proofs.Common.{◌≡◌, ℕ, zero, suc, ◌<◌, Bool, true, false, List, [], ◌∷◌, length, ◌⊎◌, inl, inr, refl, ap, sym, subst, ◌∙◌, arith, Some, slice_get, cases_order, false≢true, same_Some, slice_get_within, got_some, none_some, GraphTurn, Spawn, Join, GraphStrand, Extent, Whole, Cut, StrandCause, SpawnsNoNewTask, JoinsNoOpenChild, LeavesUnjoined, IsUnreached, tasks_in, strand, last_of, Does, IsEarlier, IsAncestor, IsForkJoin, IsNew, IsOpen, IsFault, HasNoEarlier, SpawnsBelow, IsNestedRun, IsCutOff, IsSoundRun, SoundRunsHaveNoFault, AreReached}
use Rattle.fork_graph.proofs.SpawnSearch.{past_no_turn}
use Rattle.fork_graph.proofs.States.{one_spawn, spawn_there}

is_turn : (a b : GraphTurn) → (a ≡ b) ⊎ (a ≡ b → ⊥)
is_turn (Spawn c) (Spawn d) = elim (cases_order c d) [
  | inl same ↦ inl (ap Spawn same)
  | inr apart ↦ inr (λ e. let same : c ≡ d = cc in elim apart [ inl lt ↦ omega arith | inr gt ↦ omega arith ])
]
is_turn (Spawn c) (Join d) = inr (λ e. cc)
is_turn (Join c) (Spawn d) = inr (λ e. cc)
is_turn (Join c) (Join d) = elim (cases_order c d) [
  | inl same ↦ inl (ap Join same)
  | inr apart ↦ inr (λ e. let same : c ≡ d = cc in elim apart [ inl lt ↦ omega arith | inr gt ↦ omega arith ])
]

-- a turn stands among the first ones, or doesn't
find : (turn : GraphTurn) (turns : List GraphTurn) (n : ℕ) → ((i : ℕ) × (i < n) × (slice_get turns i ≡ Some turn)) ⊎ ((i : ℕ) → i < n → slice_get turns i ≡ Some turn → ⊥)
find turn [] n = inr (λ i lt h. none_some h)
find turn (a ∷ rest) zero = inr (λ i lt h. omega arith)
find turn (a ∷ rest) (suc n) =
    elim (is_turn a turn) [
      | inl same ↦ inl (zero, omega arith, ap Some same)
      | inr apart ↦ elim (find turn rest n) [
        | inl (i, lt, h) ↦ inl (suc i, omega arith, h)
        | inr none ↦ inr (λ i lt h. none_at a rest n i apart none lt h)
      ]
    ]
  where
    none_at : (a : GraphTurn) (rest : List GraphTurn) (n i : ℕ) → (a ≡ turn → ⊥) → ((i : ℕ) → i < n → slice_get rest i ≡ Some turn → ⊥) → i < suc n → slice_get (a ∷ rest) i ≡ Some turn → ⊥
    none_at a rest n zero apart none lt h = apart (same_Some a turn h)
    none_at a rest n (suc i) apart none lt h = none i (omega arith) h

module _ (rows : List (List GraphTurn)) (extent : Extent) (none : HasNoEarlier rows extent (strand (length rows) 0)) where
  all_earlier : (t i : ℕ) (turn : GraphTurn) → Does (tasks_in rows) t i turn → IsEarlier (strand t i) (strand (length rows) 0)
  all_earlier t i turn h = inl (past_no_turn rows t i turn h)

  sound_below : SpawnsBelow (tasks_in rows) (length rows)
  sound_below t i c h = (spawn_there rows extent (strand (length rows) 0) c t i none h (all_earlier t i (Spawn c) h)).1

  own_open : (c t j : ℕ) → Does (tasks_in rows) t j (Join c) → (i : ℕ) × (i < j) × Does (tasks_in rows) t i (Spawn c)
  own_open c t j h =
      elim (find (Spawn c) (tasks_in rows t) j) [
        | inl found ↦ found
        | inr absent ↦ absurd (none (strand t j) JoinsNoOpenChild (all_earlier t j (Join c) h) (c, h, λ opened. absent opened.spawned.0 opened.spawned.1 opened.spawned.2))
      ]

  twice : {A : Type 0} (c t j j' : ℕ) → Does (tasks_in rows) t j (Join c) → Does (tasks_in rows) t j' (Join c) → j < j' → A
  twice c t j j' h h' lt = absurd (none (strand t j') JoinsNoOpenChild (all_earlier t j' (Join c) h') (c, h', λ opened. opened.unjoined j lt h))

  one_join : (c t j j' : ℕ) → Does (tasks_in rows) t j (Join c) → Does (tasks_in rows) t j' (Join c) → j ≡ j'
  one_join c t j j' h h' =
      elim (cases_order j j') [
        | inl same ↦ same
        | inr apart ↦ elim apart [ inl lt ↦ twice c t j j' h h' lt | inr gt ↦ twice c t j' j h' h gt ]
      ]

  sound_fork_join : IsForkJoin (tasks_in rows)
  sound_fork_join = record {
    root = λ t i h.
        let lt : 0 < 0 = (spawn_there rows extent (strand (length rows) 0) 0 t i none h (all_earlier t i (Spawn 0) h)).0 in
        omega arith;
    spawned_once = λ c t i t' i' h h'.
        one_spawn rows extent (strand (length rows) 0) c t i t' i' none h h' (all_earlier t i (Spawn c) h) (all_earlier t' i' (Spawn c) h');
    joins_own = own_open;
    joined_once = one_join;
  }

  last_joined : extent ≡ Whole → (c t i : ℕ) → Does (tasks_in rows) t i (Spawn c) → (j : ℕ) × Does (tasks_in rows) t j (Join c)
  last_joined whole c t i h =
      elim (find (Join c) (tasks_in rows t) (length (tasks_in rows t))) [
        | inl found ↦ (found.0, found.2)
        | inr absent ↦ absurd (none (last_of (tasks_in rows) t) LeavesUnjoined (inl (past_no_turn rows t i (Spawn c) h)) (
          whole,
          refl,
          (
            c,
            record {
              spawned = (i, slice_get_within (tasks_in rows t) i (Spawn c) h, h);
              unjoined = absent;
            },
          ),
        ))
      ]

  reached_by : (met : List Bool) → AreReached (tasks_in rows) (length rows) met → extent ≡ Whole → (t : ℕ) → t < length rows
      → (b : Bool) → slice_get met t ≡ Some b → IsAncestor (tasks_in rows) 0 t
  reached_by met f whole t lt true at = f.sound t at
  reached_by met f whole t lt false at =
      absurd (none (last_of (tasks_in rows) t) IsUnreached (inl lt) (
        whole,
        refl,
        λ up.
            let clash : Some false ≡ Some true = sym at ∙ f.complete t lt up in false≢true (same_Some false true clash),
      ))

  all_reached : (met : List Bool) → AreReached (tasks_in rows) (length rows) met → extent ≡ Whole → (t : ℕ) → t < length rows → IsAncestor (tasks_in rows) 0 t
  all_reached met f whole t lt =
      let b = got_some met t (subst (λ k. t < k) (sym f.size) lt) in
      reached_by met f whole t lt b.0 b.1

pub sound_by : (rows : List (List GraphTurn)) (extent : Extent) (met : List Bool) → AreReached (tasks_in rows) (length rows) met
    → HasNoEarlier rows extent (strand (length rows) 0) → IsSoundRun rows extent
sound_by rows Whole met f none = record {
  nested = record { fork_join = sound_fork_join rows Whole none; all_joined = last_joined rows Whole none refl };
  below = sound_below rows Whole none;
  reached = all_reached rows Whole none met f refl;
}
sound_by rows Cut met f none = record { fork_join = sound_fork_join rows Cut none; below = sound_below rows Cut none }

-- AND THE OTHER WAY

module _ (rows : List (List GraphTurn)) (fj : IsForkJoin (tasks_in rows)) (below : SpawnsBelow (tasks_in rows) (length rows)) where
  not_own_time : (s j t i : ℕ) → (s ≡ t) × (j ≡ i) → IsEarlier (strand s j) (strand t i) → ⊥
  not_own_time s j t i (same, equal) (inl lt) = omega arith
  not_own_time s j t i (same, equal) (inr (e, lt)) = omega arith

  root_first : (c t i : ℕ) → Does (tasks_in rows) t i (Spawn c) → 0 < c
  root_first zero t i h = absurd (fj.root t i h)
  root_first (suc c) t i h = omega arith

  new_spawn : (u : GraphStrand) (c : ℕ) → Does (tasks_in rows) u.task u.index (Spawn c) → IsNew (tasks_in rows) (length rows) u c
  new_spawn u c h = record {
    not_root = root_first c u.task u.index h;
    there = below u.task u.index c h;
    unspawned = λ b. not_own_time b.0 b.1 u.task u.index (fj.spawned_once c b.0 b.1 u.task u.index b.2 h) b.3;
  }

  open_join : (u : GraphStrand) (c : ℕ) → Does (tasks_in rows) u.task u.index (Join c) → IsOpen (tasks_in rows) u c
  open_join u c h = record {
    spawned = fj.joins_own c u.task u.index h;
    unjoined = λ j lt jn. let same : j ≡ u.index = fj.joined_once c u.task j u.index jn h in omega arith;
  }

whole_clean : (rows : List (List GraphTurn)) → IsNestedRun (tasks_in rows) (length rows) → (u : GraphStrand) (cause : StrandCause) → u.task < length rows
    → IsFault (tasks_in rows) (length rows) Whole u cause → ⊥
whole_clean rows w u SpawnsNoNewTask lt (c, h, bad) = bad (new_spawn rows w.nested.fork_join w.below u c h)
whole_clean rows w u JoinsNoOpenChild lt (c, h, bad) = bad (open_join rows w.nested.fork_join w.below u c h)
whole_clean rows w u LeavesUnjoined lt (is, end, (c, opened)) =
    let s = opened.spawned in
    let join = w.nested.all_joined c u.task s.0 s.2 in
    let within : join.0 < length (tasks_in rows u.task) = slice_get_within (tasks_in rows u.task) join.0 (Join c) join.1 in
    let same : u.index ≡ length (tasks_in rows u.task) = ap (λ (x : GraphStrand). x.index) end in
    opened.unjoined join.0 (omega arith) join.1
whole_clean rows w u IsUnreached lt (is, end, bad) = bad (w.reached u.task lt)

cut_clean : (rows : List (List GraphTurn)) → IsCutOff (tasks_in rows) (length rows) → (u : GraphStrand) (cause : StrandCause)
    → IsFault (tasks_in rows) (length rows) Cut u cause → ⊥
cut_clean rows w u SpawnsNoNewTask (c, h, bad) = bad (new_spawn rows w.fork_join w.below u c h)
cut_clean rows w u JoinsNoOpenChild (c, h, bad) = bad (open_join rows w.fork_join w.below u c h)
cut_clean rows w u LeavesUnjoined (is, end, more) = cc
cut_clean rows w u IsUnreached (is, end, more) = cc

pub sound_runs_have_no_fault : SoundRunsHaveNoFault
sound_runs_have_no_fault rows Whole w u cause lt bad = whole_clean rows w u cause lt bad
sound_runs_have_no_fault rows Cut w u cause lt bad = cut_clean rows w u cause bad
