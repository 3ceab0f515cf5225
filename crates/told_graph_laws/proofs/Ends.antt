-- How strands end is what turns are told.
use Rattle.told_graph_laws.proofs.Common.{◌≡◌, ◌<◌, ◌≤◌, ◌+◌, ◌==◌, ℕ, zero, suc, Bool, true, false, cond, Option, Some, None, List, [], ◌∷◌, ◌++◌, length, slice_get, ◌⊎◌, inl, inr, refl, ap, sym, subst, ◌∙◌, arith, append-nil, append_assoc, length-append, eq-eqb, ne_eqb, cases_eq, cases_lt, eqb-true, slice_get_within, In, in_append_cases, in_append_left, in_append_right, got_front, got_past, flat_in, in_flat, got_in, got_last, in_got, strand, GraphStrand, GraphTurn, Spawn, Join, Event, acts_on, is_on, spawns, end_by, or_later, first_end, end_of, StrandEnd, Turns, Finishes, acts_append, turn_by, turns_by, turns_told, FollowTurns, Act, told_both, IsUnended, EndsAreLast}
use Rattle.run_turn_laws.specs.below.log_lines as acts

-- the turn that a strand ends in, if it does
abbrev pub turn_of_end : Option StrandEnd → Option GraphTurn
turn_of_end None = None
turn_of_end (Some Finishes) = None
turn_of_end (Some (Turns turn)) = Some turn

abbrev turns_of_end : Option StrandEnd → List GraphTurn
turns_of_end None = []
turns_of_end (Some Finishes) = []
turns_of_end (Some (Turns turn)) = turn ∷ []

by_end : (a : Act) → turn_by a ≡ turns_of_end (end_by a)
by_end (acts.Access x) = refl
by_end (acts.Yield r) = refl
by_end (acts.Store r) = refl
by_end (acts.Birth b l) = refl
by_end (acts.Release b) = refl
by_end (acts.Work k) = refl
by_end (acts.Spawn c) = refl
by_end (acts.Join c) = refl
by_end acts.Finish = refl

finish_act : (a : Act) → end_by a ≡ Some Finishes → a ≡ acts.Finish
finish_act (acts.Access x) e = absurd cc
finish_act (acts.Yield r) e = absurd cc
finish_act (acts.Store r) e = absurd cc
finish_act (acts.Birth b l) e = absurd cc
finish_act (acts.Release b) e = absurd cc
finish_act (acts.Work k) e = absurd cc
finish_act (acts.Spawn c) e = absurd cc
finish_act (acts.Join c) e = absurd cc
finish_act acts.Finish e = refl

-- ONE MORE EVENT

end_both : (xs ys : List Act) → first_end (xs ++ ys) ≡ or_later (first_end xs) (first_end ys)
end_both [] ys = refl
end_both (x ∷ xs) ys = ap (or_later (end_by x)) (end_both xs ys) ∙ assoc (end_by x) (first_end xs) (first_end ys)
  where
    assoc : (a b c : Option StrandEnd) → or_later a (or_later b c) ≡ or_later (or_later a b) c
    assoc None b c = refl
    assoc (Some a) b c = refl

or_none : (o : Option StrandEnd) → or_later o None ≡ o
or_none None = refl
or_none (Some x) = refl

on_by : (b : Bool) (e : Event) (v : GraphStrand) → is_on v e ≡ b → first_end (acts_on (e ∷ []) v) ≡ cond b (end_by e.act) None
on_by true e v h = rw h (or_none (end_by e.act))
on_by false e v h = rw h refl

end_more : (before : List Event) (e : Event) (v : GraphStrand) → end_of (before ++ e ∷ []) v ≡ or_later (end_of before v) (cond (is_on v e) (end_by e.act) None)
end_more before e v = ap first_end (acts_append before (e ∷ []) v) ∙ (end_both (acts_on before v) (acts_on (e ∷ []) v) ∙ ap (or_later (end_of before v)) (on_by (is_on v e) e v refl))

-- on its own strand, and on none other
on_own : (e : Event) → is_on e.strand e ≡ true
on_own e = rw (eq-eqb e.strand.task e.strand.task refl, eq-eqb e.strand.index e.strand.index refl) refl

on_other_task : (e : Event) (t i : ℕ) → (e.strand.task ≡ t → ⊥) → is_on (strand t i) e ≡ false
on_other_task e t i ne = rw (ne_eqb e.strand.task t ne) refl

on_other : (e : Event) (t i : ℕ) → e.strand.task ≡ t → (e.strand.index ≡ i → ⊥) → is_on (strand t i) e ≡ false
on_other e t i same ne = rw (eq-eqb e.strand.task t same, ne_eqb e.strand.index i ne) refl

own_told : (before : List Event) (e : Event) → turns_told (before ++ e ∷ []) e.strand.task ≡ turns_told before e.strand.task ++ turn_by e.act
own_told before e =
    told_both before (e ∷ []) e.strand.task
    ∙ ap (λ more. turns_told before e.strand.task ++ more) (append-nil (turns_by e.strand.task e) ∙ ap (λ b. cond b (turn_by e.act) []) (eq-eqb e.strand.task e.strand.task refl))

other_told : (before : List Event) (e : Event) (t : ℕ) → (e.strand.task ≡ t → ⊥) → turns_told (before ++ e ∷ []) t ≡ turns_told before t
other_told before e t ne =
    told_both before (e ∷ []) t
    ∙ (ap (λ more. turns_told before t ++ more) (append-nil (turns_by t e) ∙ ap (λ b. cond b (turn_by e.act) []) (ne_eqb e.strand.task t ne)) ∙ append-nil (turns_told before t))

-- STRANDS AND TURNS

-- each strand ends in the turn of its number, and finishes only where its task does
pub record EndAsTold (events : List Event) : Type 0 where
  pub turn : (t i : ℕ) → turn_of_end (end_of events (strand t i)) ≡ slice_get (turns_told events t) i
  pub finish : (t i : ℕ) → end_of events (strand t i) ≡ Some Finishes → IsUnended events t → ⊥
  pub ended : (e : Event) → In events e → e.act ≡ acts.Finish → end_of events (strand e.strand.task (length (turns_told events e.strand.task))) ≡ Some Finishes

module _ (before : List Event) (e : Event) (h : EndAsTold before) (at : e.strand.index ≡ length (turns_told before e.strand.task)) (on : IsUnended before e.strand.task) where
  abbrev t : ℕ
  t = e.strand.task

  abbrev after : List Event
  after = before ++ e ∷ []

  none_by : (o : Option StrandEnd) → end_of before e.strand ≡ o → o ≡ None
  none_by None is = refl
  none_by (Some Finishes) is = absurd (h.finish t e.strand.index is on)
  none_by (Some (Turns turn)) is =
      let told : Some turn ≡ slice_get (turns_told before t) e.strand.index = ap turn_of_end (sym is) ∙ h.turn t e.strand.index in
      absurd (let lt = slice_get_within (turns_told before t) e.strand.index turn (sym told) in omega (arith, lt, at))

  unended : end_of before e.strand ≡ None
  unended = none_by (end_of before e.strand) refl

  own_end : end_of after e.strand ≡ end_by e.act
  own_end = end_more before e e.strand ∙ ((λ i. or_later (unended i) (cond (on_own e i) (end_by e.act) None)))

  other_end : (v : GraphStrand) → is_on v e ≡ false → end_of after v ≡ end_of before v
  other_end v off = end_more before e v ∙ (ap (λ b. or_later (end_of before v) (cond b (end_by e.act) None)) off ∙ or_none (end_of before v))

  own_turn : (o : Option StrandEnd) → end_by e.act ≡ o → turn_of_end o ≡ slice_get (turns_told before t ++ turns_of_end o) e.strand.index
  own_turn None is = sym (got_past (turns_told before t ++ []) e.strand.index (let l = length-append (turns_told before t) [] in omega (arith, at, l)))
  own_turn (Some Finishes) is = sym (got_past (turns_told before t ++ []) e.strand.index (let l = length-append (turns_told before t) [] in omega (arith, at, l)))
  own_turn (Some (Turns turn)) is = sym (ap (slice_get (turns_told before t ++ turn ∷ [])) at ∙ got_last (turns_told before t) turn)

  -- where more turns are told, the strands before and behind see nothing of it
  beside : (more : List GraphTurn) (i : ℕ) → (length more ≤ 1) → (e.strand.index ≡ i → ⊥) → slice_get (turns_told before t ++ more) i ≡ slice_get (turns_told before t) i
  beside more i few ne = elim (cases_lt i (length (turns_told before t))) [
    | inl lt ↦ got_front (turns_told before t) more i lt
    | inr ge ↦ got_past (turns_told before t ++ more) i (let l = length-append (turns_told before t) more in omega (arith, l, few, ge, ne, at)) ∙ sym (got_past (turns_told before t) i ge)
  ]

  one_at_most : (o : Option StrandEnd) → length (turns_of_end o) ≤ 1
  one_at_most None = omega arith
  one_at_most (Some Finishes) = omega arith
  one_at_most (Some (Turns turn)) = omega arith

  one_turn : length (turn_by e.act) ≤ 1
  one_turn = subst (λ turns. length turns ≤ 1) (sym (by_end e.act)) (one_at_most (end_by e.act))

  turn_on : (s i : ℕ) → turn_of_end (end_of after (strand s i)) ≡ slice_get (turns_told after s) i
  turn_on s i = elim (cases_eq e.strand.task s) [
    | inl same ↦ subst (λ x. turn_of_end (end_of after (strand x i)) ≡ slice_get (turns_told after x) i) same (elim (cases_eq e.strand.index i) [
      | inl here ↦
          subst (λ k. turn_of_end (end_of after (strand t k)) ≡ slice_get (turns_told after t) k) here
          (ap turn_of_end own_end ∙ (own_turn (end_by e.act) refl ∙ ap (λ turns. slice_get turns e.strand.index) (ap (λ more. turns_told before t ++ more) (sym (by_end e.act)) ∙ sym (own_told before e))))
      | inr ne ↦
          ap turn_of_end (other_end (strand t i) (on_other e t i refl ne))
          ∙ (h.turn t i ∙ (sym (beside (turn_by e.act) i one_turn ne) ∙ ap (λ turns. slice_get turns i) (sym (own_told before e))))
    ])
    | inr ne ↦ ap turn_of_end (other_end (strand s i) (on_other_task e s i ne)) ∙ (h.turn s i ∙ ap (λ turns. slice_get turns i) (sym (other_told before e s ne)))
  ]

  was_unended : (s : ℕ) → IsUnended after s → IsUnended before s
  was_unended s un d i = un d (in_append_left before (e ∷ []) d i)

  finish_on : (s i : ℕ) → end_of after (strand s i) ≡ Some Finishes → IsUnended after s → ⊥
  finish_on s i is un = elim (cases_eq e.strand.task s) [
    | inl same ↦ elim (cases_eq e.strand.index i) [
      | inl here ↦ un e (in_append_right before (e ∷ []) e (inl refl)) same (finish_act e.act (sym own_end ∙ ((λ k. end_of after (strand (same k) (here k))) ∙ is)))
      | inr ne ↦ h.finish s i (sym (other_end (strand s i) (on_other e s i same ne)) ∙ is) (was_unended s un)
    ]
    | inr ne ↦ h.finish s i (sym (other_end (strand s i) (on_other_task e s i ne)) ∙ is) (was_unended s un)
  ]

  -- an end that was told is on a task that does nothing more
  ended_on : (d : Event) → In after d → d.act ≡ acts.Finish → end_of after (strand d.strand.task (length (turns_told after d.strand.task))) ≡ Some Finishes
  ended_on d i f = elim (in_append_cases before (e ∷ []) d i) [
    | inl old ↦ elim (cases_eq e.strand.task d.strand.task) [
      | inl same ↦ absurd (on d old (sym same) f)
      | inr ne ↦
          ap (λ turns. end_of after (strand d.strand.task (length turns))) (other_told before e d.strand.task ne)
          ∙ (other_end (strand d.strand.task (length (turns_told before d.strand.task))) (on_other_task e d.strand.task (length (turns_told before d.strand.task)) ne) ∙ h.ended d old f)
    ]
    | inr (inl same) ↦ subst (λ (x : Event). x.act ≡ acts.Finish → end_of after (strand x.strand.task (length (turns_told after x.strand.task))) ≡ Some Finishes) same own_ended f
    | inr (inr none) ↦ absurd none
  ]
    where
      own_ended : e.act ≡ acts.Finish → end_of after (strand t (length (turns_told after t))) ≡ Some Finishes
      own_ended g =
          let size : length (turns_told after t) ≡ e.strand.index = ap length (own_told before e ∙ (ap (λ a. turns_told before t ++ turn_by a) g ∙ append-nil (turns_told before t))) ∙ sym at in
          ap (λ k. end_of after (strand t k)) size ∙ (own_end ∙ ap end_by g)

  more_told : EndAsTold after
  more_told = record { turn = turn_on; finish = finish_on; ended = ended_on }

all_told : (before rest : List Event) → EndAsTold before → FollowTurns before rest → EndsAreLast before rest → EndAsTold (before ++ rest)
all_told before [] h order last = subst EndAsTold (sym (append-nil before)) h
all_told before (e ∷ rest) h order last =
    subst EndAsTold (append_assoc before (e ∷ []) rest) (all_told (before ++ e ∷ []) rest (more_told before e h order.0 last.0) order.1 last.1)

pub ends_as_told : (events : List Event) → FollowTurns [] events → EndsAreLast [] events → EndAsTold events
ends_as_told events order last = all_told [] events (record { turn = λ t i. refl; finish = λ t i is un. absurd cc; ended = λ e i. absurd i }) order last

-- EVENTS THAT ARE TURNS

-- a turn that is told of a task is one of its events
pub turn_event : (events : List Event) (t i : ℕ) (turn : GraphTurn) → slice_get (turns_told events t) i ≡ Some turn → (e : Event) × In events e × (e.strand.task ≡ t) × In (turn_by e.act) turn
turn_event events t i turn h =
    let f = flat_in (turns_by t) events turn (got_in (turns_told events t) i turn h) in
    by_task f.1 (got_in events f.0 f.1 f.2) (f.1.strand.task == t) refl f.3
  where
    by_task : (e : Event) → In events e → (b : Bool) → (e.strand.task == t) ≡ b → In (turns_by t e) turn → (e : Event) × In events e × (e.strand.task ≡ t) × In (turn_by e.act) turn
    by_task e there true same h = (e, there, eqb-true e.strand.task t same, rw same at h)
    by_task e there false other h = absurd (rw other at h)

pub event_turn : (events : List Event) (e : Event) (turn : GraphTurn) → In events e → In (turn_by e.act) turn → (i : ℕ) × (slice_get (turns_told events e.strand.task) i ≡ Some turn)
event_turn events e turn there h =
    in_got (turns_told events e.strand.task) turn (in_flat (turns_by e.strand.task) events e turn there (subst (λ b. In (cond b (turn_by e.act) []) turn) (sym (eq-eqb e.strand.task e.strand.task refl)) h))

pub spawn_act : (a : Act) (c : ℕ) → In (turn_by a) (Spawn c) → spawns c a ≡ true
spawn_act (acts.Access x) c h = absurd h
spawn_act (acts.Yield r) c h = absurd h
spawn_act (acts.Store r) c h = absurd h
spawn_act (acts.Birth b l) c h = absurd h
spawn_act (acts.Release b) c h = absurd h
spawn_act (acts.Work k) c h = absurd h
spawn_act (acts.Spawn d) c (inl e) = eq-eqb d c (let same : Spawn d ≡ Spawn c = e in cc)
spawn_act (acts.Spawn d) c (inr h) = absurd h
spawn_act (acts.Join d) c (inl e) = absurd (let same : Join d ≡ Spawn c = e in cc)
spawn_act (acts.Join d) c (inr h) = absurd h
spawn_act acts.Finish c h = absurd h

pub act_spawn : (a : Act) (c : ℕ) → spawns c a ≡ true → In (turn_by a) (Spawn c)
act_spawn (acts.Access x) c h = absurd cc
act_spawn (acts.Yield r) c h = absurd cc
act_spawn (acts.Store r) c h = absurd cc
act_spawn (acts.Birth b l) c h = absurd cc
act_spawn (acts.Release b) c h = absurd cc
act_spawn (acts.Work k) c h = absurd cc
act_spawn (acts.Spawn d) c h = inl (ap (λ k. Spawn k) (eqb-true d c h))
act_spawn (acts.Join d) c h = absurd cc
act_spawn acts.Finish c h = absurd cc
