-- Turns that are completed with joins.
use Rattle.fork_graph.proofs.Common.{◌≡◌, ◌==◌, ℕ, zero, suc, ◌+◌, ◌-◌, ◌<◌, ◌≤◌, true, false, not, List, [], ◌∷◌, length, map, reverse, ◌⊎◌, inl, inr, refl, ap, sym, subst, ◌∙◌, arith, Some, slice_get, cases_lt, cases_Bool, or_cases, or_left, or_right, eqb-true, eq-eqb, not-true, not_from_false, false≢true, same_Some, slice_get_within, In, got_in, got_front, got_back, in_kept, in_from_kept, in_got, got_map, map_got, none_some, GraphTurn, Spawn, Join, TaskTurns, Does, IsForkJoin, spawned_by, joins, unjoined, completed, with_joins, CompletedAreNested}
use Rattle.fork_graph.proofs.Once.{EachOnce, one_place, once_kept, once_reversed, in_reversed, reversed_in}

-- TURNS AND CHILDREN

pub same_spawn : (c d : ℕ) → Spawn c ≡ Spawn d → c ≡ d
same_spawn c d e = cc

pub same_join : (c d : ℕ) → Join c ≡ Join d → c ≡ d
same_join c d e = cc

pub spawn_no_join : {A : Type 0} (c d : ℕ) → Spawn c ≡ Join d → A
spawn_no_join c d e = absurd cc

pub spawned_from : (turns : List GraphTurn) (i c : ℕ) → slice_get turns i ≡ Some (Spawn c) → In (spawned_by turns) c
spawned_from [] i c h = none_some h
spawned_from (Spawn d ∷ rest) zero c h = inl (same_spawn d c (same_Some (Spawn d) (Spawn c) h))
spawned_from (Spawn d ∷ rest) (suc i) c h = inr (spawned_from rest i c h)
spawned_from (Join d ∷ rest) zero c h = spawn_no_join c d (sym (same_Some (Join d) (Spawn c) h))
spawned_from (Join d ∷ rest) (suc i) c h = spawned_from rest i c h

pub spawned_at : (turns : List GraphTurn) (c : ℕ) → In (spawned_by turns) c → (i : ℕ) × (slice_get turns i ≡ Some (Spawn c))
spawned_at [] c h = absurd h
spawned_at (Spawn d ∷ rest) c (inl e) = (zero, ap (λ x. Some (Spawn x)) e)
spawned_at (Spawn d ∷ rest) c (inr h) = let r = spawned_at rest c h in (suc r.0, r.1)
spawned_at (Join d ∷ rest) c h = let r = spawned_at rest c h in (suc r.0, r.1)

pub joins_from : (turns : List GraphTurn) (i c : ℕ) → slice_get turns i ≡ Some (Join c) → joins turns c ≡ true
joins_from [] i c h = none_some h
joins_from (Spawn d ∷ rest) zero c h = spawn_no_join d c (same_Some (Spawn d) (Join c) h)
joins_from (Spawn d ∷ rest) (suc i) c h = joins_from rest i c h
joins_from (Join d ∷ rest) zero c h = or_left (d == c) (joins rest c) (eq-eqb d c (same_join d c (same_Some (Join d) (Join c) h)))
joins_from (Join d ∷ rest) (suc i) c h = or_right (d == c) (joins rest c) (joins_from rest i c h)

pub joined_at : (turns : List GraphTurn) (c : ℕ) → joins turns c ≡ true → (i : ℕ) × (slice_get turns i ≡ Some (Join c))
joined_at [] c h = absurd (false≢true h)
joined_at (Spawn d ∷ rest) c h = let r = joined_at rest c h in (suc r.0, r.1)
joined_at (Join d ∷ rest) c h =
    elim (or_cases (d == c) (joins rest c) h) [
      | inl e ↦ (zero, ap (λ x. Some (Join x)) (eqb-true d c e))
      | inr j ↦ let r = joined_at rest c j in (suc r.0, r.1)
    ]

-- nothing is spawned at two places, so the list of the spawned has nothing twice
once_rest : (turn : GraphTurn) (rest : List GraphTurn)
    → ((i j c : ℕ) → slice_get (turn ∷ rest) i ≡ Some (Spawn c) → slice_get (turn ∷ rest) j ≡ Some (Spawn c) → i ≡ j)
    → (i j c : ℕ) → slice_get rest i ≡ Some (Spawn c) → slice_get rest j ≡ Some (Spawn c) → i ≡ j
once_rest turn rest once i j c a b = let e : suc i ≡ suc j = once (suc i) (suc j) c a b in omega arith

spawned_each_once : (turns : List GraphTurn) → ((i j c : ℕ) → slice_get turns i ≡ Some (Spawn c) → slice_get turns j ≡ Some (Spawn c) → i ≡ j) → EachOnce (spawned_by turns)
spawned_each_once [] once = tt
spawned_each_once (Spawn d ∷ rest) once = (
  λ h. let r = spawned_at rest d h in let e : zero ≡ suc r.0 = once zero (suc r.0) d refl r.1 in omega arith,
  spawned_each_once rest (once_rest (Spawn d) rest once),
)
spawned_each_once (Join d ∷ rest) once = spawned_each_once rest (once_rest (Join d) rest once)

pub unjoined_from : (turns : List GraphTurn) (i c : ℕ) → slice_get turns i ≡ Some (Spawn c) → joins turns c ≡ false → In (unjoined turns) c
unjoined_from turns i c h out =
    in_kept (λ d. not (joins turns d)) (reverse (spawned_by turns)) c
    (reversed_in (spawned_by turns) c (spawned_from turns i c h))
    (not_from_false (joins turns c) out)

pub unjoined_at : (turns : List GraphTurn) (c : ℕ) → In (unjoined turns) c → ((i : ℕ) × (slice_get turns i ≡ Some (Spawn c))) × (joins turns c ≡ false)
unjoined_at turns c h =
    let k = in_from_kept (λ d. not (joins turns d)) (reverse (spawned_by turns)) c h in
    (spawned_at turns c (in_reversed (spawned_by turns) c k.0), not-true (joins turns c) k.1)

-- COMPLETED TURNS

pub completed_front : (turns : List GraphTurn) (i : ℕ) (turn : GraphTurn) → slice_get turns i ≡ Some turn → slice_get (completed turns) i ≡ Some turn
completed_front turns i turn h = got_front turns (map Join (unjoined turns)) i (slice_get_within turns i turn h) ∙ h

-- a turn of the completed ones is one that was there, or joins what was unjoined
pub completed_cases : (turns : List GraphTurn) (i : ℕ) (turn : GraphTurn) → slice_get (completed turns) i ≡ Some turn
    → (slice_get turns i ≡ Some turn) ⊎ ((c : ℕ) × (turn ≡ Join c) × (length turns ≤ i) × (slice_get (unjoined turns) (i - length turns) ≡ Some c))
completed_cases turns i turn h =
    elim (cases_lt i (length turns)) [
      | inl lt ↦ inl (sym (got_front turns (map Join (unjoined turns)) i lt) ∙ h)
      | inr ge ↦
          let k = i - length turns in
          let e : length turns + k ≡ i = omega arith in
          let at : slice_get (map Join (unjoined turns)) k ≡ Some turn =
          sym (got_back turns (map Join (unjoined turns)) k) ∙ (ap (slice_get (completed turns)) e ∙ h) in
          let m = map_got Join (unjoined turns) k turn at in
          inr (m.0, sym m.2, ge, m.1)
    ]

pub completed_spawn : (turns : List GraphTurn) (i c : ℕ) → slice_get (completed turns) i ≡ Some (Spawn c) → slice_get turns i ≡ Some (Spawn c)
completed_spawn turns i c h =
    elim (completed_cases turns i (Spawn c) h) [
      | inl g ↦ g
      | inr (d, e, ge, at) ↦ spawn_no_join c d e
    ]

module _ (tasks : TaskTurns) (fj : IsForkJoin tasks) where
  once_in : (t : ℕ) (i j c : ℕ) → slice_get (tasks t) i ≡ Some (Spawn c) → slice_get (tasks t) j ≡ Some (Spawn c) → i ≡ j
  once_in t i j c a b = (fj.spawned_once c t i t j a b).1

  unjoined_once : (t : ℕ) → EachOnce (unjoined (tasks t))
  unjoined_once t =
      once_kept (λ d. not (joins (tasks t) d)) (reverse (spawned_by (tasks t)))
      (once_reversed (spawned_by (tasks t)) (spawned_each_once (tasks t) (once_in t)))

  -- who is joined as unjoined
  late_child : (t j c : ℕ) → length (tasks t) ≤ j → slice_get (unjoined (tasks t)) (j - length (tasks t)) ≡ Some c → ((i : ℕ) × Does tasks t i (Spawn c)) × (joins (tasks t) c ≡ false)
  late_child t j c ge at = unjoined_at (tasks t) c (got_in (unjoined (tasks t)) (j - length (tasks t)) c at)

  late_own : (c t j : ℕ) → length (tasks t) ≤ j → ((i : ℕ) × Does tasks t i (Spawn c)) × (joins (tasks t) c ≡ false) → (i : ℕ) × (i < j) × Does (with_joins tasks) t i (Spawn c)
  late_own c t j ge r =
      let lt : r.0.0 < length (tasks t) = slice_get_within (tasks t) r.0.0 (Spawn c) r.0.1 in
      (r.0.0, omega arith, completed_front (tasks t) r.0.0 (Spawn c) r.0.1)

  joins_own : (c t j : ℕ) → Does (with_joins tasks) t j (Join c) → (i : ℕ) × (i < j) × Does (with_joins tasks) t i (Spawn c)
  joins_own c t j h =
      elim (completed_cases (tasks t) j (Join c) h) [
        | inl g ↦ let s = fj.joins_own c t j g in (s.0, s.1, completed_front (tasks t) s.0 (Spawn c) s.2)
        | inr (d, e, ge, at) ↦ late_own c t j ge (subst (λ x. ((i : ℕ) × Does tasks t i (Spawn x)) × (joins (tasks t) x ≡ false)) (sym (same_join c d e)) (late_child t j d ge at))
      ]

  early_late : {A : Type 0} (c d t j j' : ℕ) → Does tasks t j (Join c) → Join c ≡ Join d → length (tasks t) ≤ j' → slice_get (unjoined (tasks t)) (j' - length (tasks t)) ≡ Some d → A
  early_late c d t j j' g e ge at =
      let out : joins (tasks t) d ≡ false = (late_child t j' d ge at).1 in
      let is : joins (tasks t) d ≡ true = subst (λ x. joins (tasks t) x ≡ true) (same_join c d e) (joins_from (tasks t) j c g) in
      absurd (false≢true (sym out ∙ is))

  late_once : (c d d' t j j' : ℕ) → Join c ≡ Join d → Join c ≡ Join d' → length (tasks t) ≤ j → length (tasks t) ≤ j'
      → slice_get (unjoined (tasks t)) (j - length (tasks t)) ≡ Some d → slice_get (unjoined (tasks t)) (j' - length (tasks t)) ≡ Some d' → j ≡ j'
  late_once c d d' t j j' e e' ge ge' at at' =
      let same : d' ≡ d = sym (same_join c d' e') ∙ same_join c d e in
      let one : j - length (tasks t) ≡ j' - length (tasks t) =
      one_place (unjoined (tasks t)) (unjoined_once t) (j - length (tasks t)) (j' - length (tasks t)) d at (at' ∙ ap Some same) in
      omega arith

  joined_once : (c t j j' : ℕ) → Does (with_joins tasks) t j (Join c) → Does (with_joins tasks) t j' (Join c) → j ≡ j'
  joined_once c t j j' h h' =
      elim (completed_cases (tasks t) j (Join c) h) [
        | inl g ↦ elim (completed_cases (tasks t) j' (Join c) h') [
          | inl g' ↦ fj.joined_once c t j j' g g'
          | inr (d, e, ge, at) ↦ early_late c d t j j' g e ge at
        ]
        | inr (d, e, ge, at) ↦ elim (completed_cases (tasks t) j' (Join c) h') [
          | inl g' ↦ early_late c d t j' j g' e ge at
          | inr (d', e', ge', at') ↦ late_once c d d' t j j' e e' ge ge' at at'
        ]
      ]

  late_join : (c t : ℕ) → In (unjoined (tasks t)) c → (j : ℕ) × Does (with_joins tasks) t j (Join c)
  late_join c t h =
      let r = in_got (unjoined (tasks t)) c h in
      (length (tasks t) + r.0, got_back (tasks t) (map Join (unjoined (tasks t))) r.0 ∙ got_map Join (unjoined (tasks t)) r.0 c r.1)

  all_joined : (c t i : ℕ) → Does (with_joins tasks) t i (Spawn c) → (j : ℕ) × Does (with_joins tasks) t j (Join c)
  all_joined c t i h =
      let s = completed_spawn (tasks t) i c h in
      elim (cases_Bool (joins (tasks t) c)) [
        | inl is ↦ let r = joined_at (tasks t) c is in (r.0, completed_front (tasks t) r.0 (Join c) r.1)
        | inr out ↦ late_join c t (unjoined_from (tasks t) i c s out)
      ]

pub completed_are_nested : CompletedAreNested
completed_are_nested tasks fj = record {
  fork_join = record {
    root = λ t i h. fj.root t i (completed_spawn (tasks t) i 0 h);
    spawned_once = λ c t i t' i' h h'. fj.spawned_once c t i t' i' (completed_spawn (tasks t) i c h) (completed_spawn (tasks t') i' c h');
    joins_own = joins_own tasks fj;
    joined_once = joined_once tasks fj;
  };
  all_joined = all_joined tasks fj;
}
