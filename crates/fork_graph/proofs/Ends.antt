-- Faults of turns and of tasks' ends, and tasks without one.
use Rattle.fork_graph.proofs.Common.{◌≡◌, ℕ, ◌+◌, ◌<◌, true, false, List, length, inl, inr, refl, ap, sym, subst, ◌∙◌, arith, None, list_any, cases_lt, cases_order, slice_get_within, GraphTurn, Spawn, Join, GraphStrand, ChildState, Extent, Whole, Cut, StrandCause, SpawnsNoNewTask, JoinsNoOpenChild, LeavesUnjoined, IsUnreached, tasks_in, strand, last_of, Does, IsAncestor, IsFault, HasNoEarlier, IsFirstFault, cause_of_turn, after_turn, spawns_open, AreStates}
use Rattle.fork_graph.proofs.States.{turn_refused, left_open, none_left}

turn_cause : (turn : GraphTurn) → cause_of_turn turn ≡ IsUnreached → ⊥
turn_cause (Spawn c) e = cc
turn_cause (Join c) e = cc

-- a turn that isn't allowed is the first fault
pub refused_first : (rows : List (List GraphTurn)) (extent : Extent) (t i : ℕ) (turn : GraphTurn) (states : List ChildState) → t < length rows
    → AreStates (tasks_in rows) (length rows) (strand t i) states → HasNoEarlier rows extent (strand t i)
    → Does (tasks_in rows) t i turn → after_turn states t turn ≡ None
    → IsFirstFault rows extent (record { strand = strand t i; cause = cause_of_turn turn })
refused_first rows extent t i turn states lt f none h is = record {
  there = lt;
  is_fault = turn_refused rows extent t i states f none turn h is;
  no_earlier = none;
  no_unjoined = λ e. absurd (turn_cause turn e);
}

-- past a task's last strand it has no fault
past_end : (rows : List (List GraphTurn)) (extent : Extent) (u : GraphStrand) (cause : StrandCause) → length (tasks_in rows u.task) < u.index
    → IsFault (tasks_in rows) (length rows) extent u cause → ⊥
past_end rows extent u SpawnsNoNewTask gt (c, h, bad) =
    let lt : u.index < length (tasks_in rows u.task) = slice_get_within (tasks_in rows u.task) u.index (Spawn c) h in omega arith
past_end rows extent u JoinsNoOpenChild gt (c, h, bad) =
    let lt : u.index < length (tasks_in rows u.task) = slice_get_within (tasks_in rows u.task) u.index (Join c) h in omega arith
past_end rows extent u LeavesUnjoined gt (is, end, more) =
    let same : u.index ≡ length (tasks_in rows u.task) = ap (λ (x : GraphStrand). x.index) end in omega arith
past_end rows extent u IsUnreached gt (is, end, more) =
    let same : u.index ≡ length (tasks_in rows u.task) = ap (λ (x : GraphStrand). x.index) end in omega arith

-- where the last strand has none either, the task has none
next_clean : (rows : List (List GraphTurn)) (extent : Extent) (t : ℕ) → HasNoEarlier rows extent (last_of (tasks_in rows) t)
    → ((cause : StrandCause) → IsFault (tasks_in rows) (length rows) extent (last_of (tasks_in rows) t) cause → ⊥)
    → HasNoEarlier rows extent (strand (t + 1) 0)
next_clean rows extent t none clean u cause (inr (same, lt)) bad = omega arith
next_clean rows extent t none clean u cause (inl lt) bad =
    elim (cases_lt u.task t) [
      | inl before ↦ none u cause (inl before) bad
      | inr ge ↦
          let same : u.task ≡ t = omega arith in
          elim (cases_order u.index (length (tasks_in rows t))) [
            | inl equal ↦ clean cause (subst (λ (x : GraphStrand). IsFault (tasks_in rows) (length rows) extent x cause) (ap (λ x. strand x u.index) same ∙ ap (strand t) equal) bad)
            | inr apart ↦ elim apart [
              | inl less ↦ none u cause (inr (same, less)) bad
              | inr more ↦ past_end rows extent u cause (subst (λ x. length (tasks_in rows x) < u.index) (sym same) more) bad
            ]
          ]
    ]

module _ (rows : List (List GraphTurn)) (t : ℕ) (states : List ChildState)
    (f : AreStates (tasks_in rows) (length rows) (last_of (tasks_in rows) t) states) where
  -- a child that is left open
  pub unjoined_first : (u : GraphStrand) → u ≡ last_of (tasks_in rows) t → t < length rows → HasNoEarlier rows Whole (last_of (tasks_in rows) t)
      → list_any (spawns_open states) (tasks_in rows t) ≡ true
      → IsFirstFault rows Whole (record { strand = u; cause = LeavesUnjoined })
  unjoined_first u e lt none any =
      subst (λ (x : GraphStrand). IsFirstFault rows Whole (record { strand = x; cause = LeavesUnjoined })) (sym e) (record {
        there = lt;
        is_fault = (refl, refl, left_open rows Whole t (length (tasks_in rows t)) states f none refl any);
        no_earlier = none;
        no_unjoined = λ clash. cc;
      })

  clean_unjoined : HasNoEarlier rows Whole (last_of (tasks_in rows) t) → list_any (spawns_open states) (tasks_in rows t) ≡ false
      → IsFault (tasks_in rows) (length rows) Whole (last_of (tasks_in rows) t) LeavesUnjoined → ⊥
  clean_unjoined none any (is, end, (c, opened)) = none_left rows Whole t (length (tasks_in rows t)) states f none any c opened

  -- a task that nothing reaches
  pub unreached_first : (u : GraphStrand) → u ≡ last_of (tasks_in rows) t → t < length rows → HasNoEarlier rows Whole (last_of (tasks_in rows) t)
      → list_any (spawns_open states) (tasks_in rows t) ≡ false → (IsAncestor (tasks_in rows) 0 t → ⊥)
      → IsFirstFault rows Whole (record { strand = u; cause = IsUnreached })
  unreached_first u e lt none any apart =
      subst (λ (x : GraphStrand). IsFirstFault rows Whole (record { strand = x; cause = IsUnreached })) (sym e) (record {
        there = lt;
        is_fault = (refl, refl, apart);
        no_earlier = none;
        no_unjoined = λ same. clean_unjoined none any;
      })

  whole_end : HasNoEarlier rows Whole (last_of (tasks_in rows) t) → list_any (spawns_open states) (tasks_in rows t) ≡ false
      → IsAncestor (tasks_in rows) 0 t → (cause : StrandCause) → IsFault (tasks_in rows) (length rows) Whole (last_of (tasks_in rows) t) cause → ⊥
  whole_end none any up SpawnsNoNewTask (c, h, bad) =
      let lt : length (tasks_in rows t) < length (tasks_in rows t) = slice_get_within (tasks_in rows t) (length (tasks_in rows t)) (Spawn c) h in omega arith
  whole_end none any up JoinsNoOpenChild (c, h, bad) =
      let lt : length (tasks_in rows t) < length (tasks_in rows t) = slice_get_within (tasks_in rows t) (length (tasks_in rows t)) (Join c) h in omega arith
  whole_end none any up LeavesUnjoined bad = clean_unjoined none any bad
  whole_end none any up IsUnreached (is, end, apart) = apart up

  pub clean_whole : HasNoEarlier rows Whole (last_of (tasks_in rows) t) → list_any (spawns_open states) (tasks_in rows t) ≡ false
      → IsAncestor (tasks_in rows) 0 t → HasNoEarlier rows Whole (strand (t + 1) 0)
  clean_whole none any up = next_clean rows Whole t none (whole_end none any up)

cut_end : (rows : List (List GraphTurn)) (t : ℕ) (cause : StrandCause) → IsFault (tasks_in rows) (length rows) Cut (last_of (tasks_in rows) t) cause → ⊥
cut_end rows t SpawnsNoNewTask (c, h, bad) =
    let lt : length (tasks_in rows t) < length (tasks_in rows t) = slice_get_within (tasks_in rows t) (length (tasks_in rows t)) (Spawn c) h in omega arith
cut_end rows t JoinsNoOpenChild (c, h, bad) =
    let lt : length (tasks_in rows t) < length (tasks_in rows t) = slice_get_within (tasks_in rows t) (length (tasks_in rows t)) (Join c) h in omega arith
cut_end rows t LeavesUnjoined (is, end, more) = cc
cut_end rows t IsUnreached (is, end, more) = cc

pub clean_cut : (rows : List (List GraphTurn)) (t : ℕ) → HasNoEarlier rows Cut (last_of (tasks_in rows) t) → HasNoEarlier rows Cut (strand (t + 1) 0)
clean_cut rows t none = next_clean rows Cut t none (cut_end rows t)
