-- Nothing that a run's log tells is at fault.
use Rattle.run_line_laws.proofs.Common.{◌≡◌, ◌<◌, ◌≤◌, ◌+◌, ◌==◌, ℕ, true, false, cond, Some, None, List, [], ◌∷◌, ◌++◌, length, slice_get, nat_lt, inl, inr, refl, ap, sym, subst, ◌∙◌, arith, append-nil, append_assoc, length-append, eq-eqb, and_parts, cond-true, eqb-true, false_from_ne_true, lt-ltb, or_cases, slice_get_within, list_any, ◌&&◌, In, got_back, got_front, in_append_right, in_flat, in_from_any, strand_limit, Event, has_ended, is_last, is_on, act_fault, bears, claim_fault, is_born, is_spawned, spawns, turn_fault, where_true, AreDifferent, blocks_born, born_by, GraphStrand, GraphTurn, Spawn, born_both, FollowTurns, turn_by, turns_told, Act, told_both, AreToldInOrder, EndsAreLast, IsUnended, IsCutRun, act_spawn, event_turn}
use Rattle.log_lines.specs.declared.cause.LogCause.TheVariants as causes
use Rattle.log_form.specs.declared.fault.LogFault.TheVariants as faults
use Rattle.run_turn_laws.specs.below.log_lines as acts

-- WHAT IS KNOWN AT AN EVENT

follow_at : (b xs : List Event) (e : Event) (rest : List Event) → FollowTurns b (xs ++ e ∷ rest) → FollowTurns b xs × (e.strand.index ≡ length (turns_told (b ++ xs) e.strand.task))
follow_at b [] e rest h = (tt, subst (λ before. e.strand.index ≡ length (turns_told before e.strand.task)) (sym (append-nil b)) h.0)
follow_at b (x ∷ xs) e rest h =
    let more = follow_at (b ++ x ∷ []) xs e rest h.1 in
    ((h.0, more.0), subst (λ before. e.strand.index ≡ length (turns_told before e.strand.task)) (append_assoc b (x ∷ []) xs) more.1)

unended_at : (b xs : List Event) (e : Event) (rest : List Event) → EndsAreLast b (xs ++ e ∷ rest) → IsUnended (b ++ xs) e.strand.task
unended_at b [] e rest h = subst (λ before. IsUnended before e.strand.task) (sym (append-nil b)) h.0
unended_at b (x ∷ xs) e rest h = subst (λ before. IsUnended before e.strand.task) (append_assoc b (x ∷ []) xs) (unended_at (b ++ x ∷ []) xs e rest h.1)

-- a task's turns that are told lead past the strand of each of them
own_turns : (b : List Event) (e : Event) (rest : List Event) → turns_told (b ++ e ∷ rest) e.strand.task ≡ turns_told b e.strand.task ++ (turn_by e.act ++ turns_told rest e.strand.task)
own_turns b e rest =
    told_both b (e ∷ rest) e.strand.task
    ∙ ap (λ more. turns_told b e.strand.task ++ (cond more (turn_by e.act) [] ++ turns_told rest e.strand.task)) (eq-eqb e.strand.task e.strand.task refl)

turn_within : (b xs : List Event) (e : Event) → FollowTurns b xs → In xs e → 1 ≤ length (turn_by e.act) → e.strand.index < length (turns_told (b ++ xs) e.strand.task)
turn_within b [] e order i some = absurd i
turn_within b (x ∷ xs) e order (inl same) some =
    subst (λ (y : Event). 1 ≤ length (turn_by y.act) → y.strand.index < length (turns_told (b ++ x ∷ xs) y.strand.task)) same
    (λ one.
    let at = order.0 in
    let all = ap length (own_turns b x xs) in
    let outer = length-append (turns_told b x.strand.task) (turn_by x.act ++ turns_told xs x.strand.task) in
    let inner = length-append (turn_by x.act) (turns_told xs x.strand.task) in
    omega (arith, one, at, all, outer, inner)) some
turn_within b (x ∷ xs) e order (inr more) some =
    subst (λ events. e.strand.index < length (turns_told events e.strand.task)) (append_assoc b (x ∷ []) xs) (turn_within (b ++ x ∷ []) xs e order.1 more some)

-- where a number stands among distinct ones, it doesn't stand before
apart : (ns ms : List ℕ) (n : ℕ) → AreDifferent (ns ++ n ∷ ms) → In ns n → ⊥
apart [] ms n h i = i
apart (m ∷ ns) ms n h (inl same) = h.0 (in_append_right ns (n ∷ ms) m (inl (sym same)))
apart (m ∷ ns) ms n h (inr more) = apart ns ms n h.1 more

bears_born : (a : Act) (b : ℕ) → bears b a ≡ true → In (born_by a) b
bears_born (acts.Access x) b h = absurd cc
bears_born (acts.Yield r) b h = absurd cc
bears_born (acts.Store r) b h = absurd cc
bears_born (acts.Birth d l) b h = inl (eqb-true d b h)
bears_born (acts.Release d) b h = absurd cc
bears_born (acts.Work k) b h = absurd cc
bears_born (acts.Spawn c) b h = absurd cc
bears_born (acts.Join c) b h = absurd cc
bears_born acts.Finish b h = absurd cc

-- n tasks tell what they do in order, on few strands, as those of a run; no block is released, and each is born once
pub record AreToldWell (n : ℕ) (events : List Event) : Type 0 where
  pub told : AreToldInOrder n events
  pub run : IsCutRun (turns_told events) n
  pub few : (t : ℕ) → length (turns_told events t) < 2000000002
  pub unreleased : (e : Event) → In events e → (block : ℕ) → e.act ≡ acts.Release block → ⊥
  pub born : AreDifferent (blocks_born events)

module _ (n : ℕ) (before : List Event) (e : Event) (rest : List Event) (T : AreToldWell n (before ++ e ∷ rest)) where
  abbrev u : GraphStrand
  u = e.strand

  abbrev Does : ℕ → ℕ → GraphTurn → Type 0
  Does t i turn = slice_get (turns_told (before ++ e ∷ rest) t) i ≡ Some turn

  at : FollowTurns [] before × (u.index ≡ length (turns_told before u.task))
  at = follow_at [] before e rest T.told.order

  -- ITS STRAND HASN'T ENDED

  no_turn : (d : Event) → In before d → d.strand.task ≡ u.task → d.strand.index ≡ u.index → 1 ≤ length (turn_by d.act) → ⊥
  no_turn d i task index some =
      let lt = turn_within [] before d at.0 i some in
      let same = ap (λ t. length (turns_told before t)) task in
      let last = at.1 in
      omega (arith, lt, same, last, index)

  ends_none : (d : Event) (a : Act) → d.act ≡ a → In before d → d.strand.task ≡ u.task → d.strand.index ≡ u.index → is_last a ≡ true → ⊥
  ends_none d (acts.Access x) s i task index last = absurd cc
  ends_none d (acts.Yield r) s i task index last = absurd cc
  ends_none d (acts.Store r) s i task index last = absurd cc
  ends_none d (acts.Birth b l) s i task index last = absurd cc
  ends_none d (acts.Release b) s i task index last = absurd cc
  ends_none d (acts.Work k) s i task index last = absurd cc
  ends_none d (acts.Spawn c) s i task index last = no_turn d i task index (subst (λ a. 1 ≤ length (turn_by a)) (sym s) (omega arith))
  ends_none d (acts.Join c) s i task index last = no_turn d i task index (subst (λ a. 1 ≤ length (turn_by a)) (sym s) (omega arith))
  ends_none d acts.Finish s i task index last = unended_at [] before e rest T.told.last d i task s

  unended : has_ended before u ≡ false
  unended =
      false_from_ne_true (has_ended before u) (λ h.
      let f = in_from_any (λ (d : Event). is_on u d && is_last d.act) before h in
      let parts = and_parts (is_on u f.0) (is_last f.0.act) f.2 in
      let on = and_parts (f.0.strand.task == u.task) (f.0.strand.index == u.index) parts.0 in
      ends_none f.0 f.0.act refl f.1 (eqb-true f.0.strand.task u.task on.0) (eqb-true f.0.strand.index u.index on.1) parts.1)

  -- SPAWNS AND JOINS

  own_turn : (turn : GraphTurn) → turn_by e.act ≡ turn ∷ [] → Does u.task u.index turn
  own_turn turn one =
      let all : turns_told (before ++ e ∷ rest) u.task ≡ turns_told before u.task ++ turn ∷ turns_told rest u.task =
      own_turns before e rest ∙ ap (λ turns. turns_told before u.task ++ (turns ++ turns_told rest u.task)) one in
      let place : u.index ≡ length (turns_told before u.task) + 0 = (let last = at.1 in omega (arith, last)) in
      (λ i. slice_get (all i) (place i)) ∙ got_back (turns_told before u.task) (turn ∷ turns_told rest u.task) 0

  earlier : (c : ℕ) → e.act ≡ acts.Spawn c → (d : Event) → In before d → spawns c d.act ≡ true → ⊥
  earlier c s d i sp =
      let j = event_turn before d (Spawn c) i (act_spawn d.act c sp) in
      let lt = slice_get_within (turns_told before d.strand.task) j.0 (Spawn c) j.1 in
      let there : Does d.strand.task j.0 (Spawn c) =
      ap (λ turns. slice_get turns j.0) (told_both before (e ∷ rest) d.strand.task) ∙ (got_front (turns_told before d.strand.task) (turns_told (e ∷ rest) d.strand.task) j.0 lt ∙ j.1) in
      let once = T.run.fork_join.spawned_once c d.strand.task j.0 u.task u.index there (own_turn (Spawn c) (ap turn_by s)) in
      let same = ap (λ t. length (turns_told before t)) once.0 in
      let here = once.1 in
      let last = at.1 in
      omega (arith, lt, same, here, last)

  unspawned : (c : ℕ) → e.act ≡ acts.Spawn c → is_spawned before c ≡ false
  unspawned c s =
      false_from_ne_true (is_spawned before c) (λ h. elim (or_cases (c == 0) (list_any (λ (d : Event). spawns c d.act) before) h) [
        | inl z ↦ T.run.fork_join.root u.task u.index (subst (λ k. Does u.task u.index (Spawn k)) (eqb-true c 0 z) (own_turn (Spawn c) (ap turn_by s)))
        | inr any ↦ let f = in_from_any (λ (d : Event). spawns c d.act) before any in earlier c s f.0 f.1 f.2
      ])

  next_within : turn_fault u ≡ None
  next_within =
      let few = T.few u.task in
      let last = at.1 in
      let all = ap length (own_turns before e rest) in
      let parts = length-append (turns_told before u.task) (turn_by e.act ++ turns_told rest u.task) in
      cond-true (nat_lt (u.index + 1) strand_limit) None (Some (faults.NoLine causes.OverLimit)) (lt-ltb (u.index + 1) strand_limit (omega (arith, few, last, all, parts)))

  -- BIRTHS

  unborn : (b l : ℕ) → e.act ≡ acts.Birth b l → is_born before b ≡ false
  unborn b l s =
      false_from_ne_true (is_born before b) (λ h.
      let f = in_from_any (λ (d : Event). bears b d.act) before h in
      let all : blocks_born (before ++ e ∷ rest) ≡ blocks_born before ++ b ∷ blocks_born rest = born_both before (e ∷ rest) ∙ ap (λ a. blocks_born before ++ (born_by a ++ blocks_born rest)) s in
      apart (blocks_born before) (blocks_born rest) b (subst AreDifferent all T.born) (in_flat (λ (d : Event). born_by d.act) before f.0 b f.1 (bears_born f.0.act b f.2)))

  -- ANY ACT

  claims : (a : Act) → e.act ≡ a → claim_fault before u a ≡ None
  claims (acts.Access x) s = refl
  claims (acts.Yield r) s = refl
  claims (acts.Store r) s = refl
  claims (acts.Birth b l) s = ap (λ v. where_true v faults.BornTwice None) (unborn b l s)
  claims (acts.Release b) s = absurd (T.unreleased e (in_append_right before (e ∷ rest) e (inl refl)) b s)
  claims (acts.Work k) s = refl
  claims (acts.Spawn c) s = ap (λ v. where_true v faults.SpawnedTwice (turn_fault u)) (unspawned c s) ∙ next_within
  claims (acts.Join c) s = next_within
  claims acts.Finish s = refl

  pub faultless : act_fault before (Some u) e.act ≡ None
  faultless = ap (λ v. where_true v faults.StrandEnded (claim_fault before u e.act)) unended ∙ claims e.act refl
