-- The places of each task's strands in an order.
use Rattle.log_walk.proofs.Common.{◌≡◌, ◌==◌, ℕ, ◌+◌, ◌-◌, ◌<◌, ◌≤◌, Bool, true, false, Option, Some, None, List, length, replicate, slice_get, slice_set, inl, inr, refl, ap, sym, subst, ◌∙◌, arith, if◌then◌else◌, cases_lt, eqb-true, eqb-false, ne_eqb, length-set, length-replicate, same_Some, slice_get_past, got_other, got_set, got_none, none_some, GraphTurn, Spawn, Join, GraphStrand, TaskTurns, strand, first_of, last_of, HasStrand, Does, IsForkJoin, strand_is, Mark, First, Last, Joined, joined_by, ended_by, mark_of, child_noted, AreMarkedOnce, AreMarkPlaces}

-- A TABLE OF PLACES

pub places_start : (tasks : TaskTurns) (n : ℕ) (order : List GraphStrand) (mark : Mark) → AreMarkPlaces tasks n order mark 0 (replicate n 0)
places_start tasks n order mark = record { size = length-replicate n 0; at = λ i t u lt h m less. absurd (omega arith) }

module _ (tasks : TaskTurns) (n : ℕ) (order : List GraphStrand) (mark : Mark) (once : AreMarkedOnce tasks order mark)
    (i : ℕ) (u : GraphStrand) (here : slice_get order i ≡ Some u) where
  noted_at : (o : Option ℕ) → mark_of tasks mark u ≡ o → (places : List ℕ) → AreMarkPlaces tasks n order mark i places
      → (k t : ℕ) (v : GraphStrand) → k < i + 1 → slice_get order k ≡ Some v → mark_of tasks mark v ≡ Some t → t < n → slice_get (child_noted places i o) t ≡ Some k
  noted_at None e places f k t v lt h m less =
      elim (cases_lt k i) [
        | inl before ↦ f.at k t v before h m less
        | inr ge ↦
            let same : k ≡ i = omega arith in
            let is : u ≡ v = same_Some u v (sym here ∙ subst (λ x. slice_get order x ≡ Some v) same h) in
            none_some (sym e ∙ (ap (mark_of tasks mark) is ∙ m))
      ]
  noted_at (Some s) e places f k t v lt h m less =
      elim (cases_lt k i) [
        | inl before ↦
            got_other places s t i (λ same.
            let equal : i ≡ k = once i k t u v here h (e ∙ ap Some (sym same)) m in omega arith)
            ∙ f.at k t v before h m less
        | inr ge ↦
            let same : k ≡ i = omega arith in
            let is : u ≡ v = same_Some u v (sym here ∙ subst (λ x. slice_get order x ≡ Some v) same h) in
            let task : s ≡ t = same_Some s t (sym e ∙ (ap (mark_of tasks mark) is ∙ m)) in
            subst (λ x. slice_get (slice_set places s i) x ≡ Some k) task
            (got_set places s i (subst (λ x. s < x) (sym f.size) (subst (λ x. x < n) (sym task) less)) ∙ ap Some (sym same))
      ]

  noted_size : (o : Option ℕ) (places : List ℕ) → length (child_noted places i o) ≡ length places
  noted_size None places = refl
  noted_size (Some t) places = length-set places t i

  pub place_noted : (places : List ℕ) → AreMarkPlaces tasks n order mark i places → AreMarkPlaces tasks n order mark (i + 1) (child_noted places i (mark_of tasks mark u))
  place_noted places f = record {
    size = noted_size (mark_of tasks mark u) places ∙ f.size;
    at = noted_at (mark_of tasks mark u) refl places f;
  }

-- MARKS

if_some : {A : Type 0} (b : Bool) (x y : A) → (if b then Some x else None) ≡ Some y → (b ≡ true) × (x ≡ y)
if_some true x y e = (refl, same_Some x y e)
if_some false x y e = none_some e

if_none : {A : Type 0} (b : Bool) (o : Option A) (y : A) → (if b then None else o) ≡ Some y → (b ≡ false) × (o ≡ Some y)
if_none true o y e = none_some e
if_none false o y e = (refl, e)

ended : (t s : ℕ) (o : Option GraphTurn) → ended_by t o ≡ Some s → (o ≡ None) × (t ≡ s)
ended t s None e = (refl, same_Some t s e)
ended t s (Some turn) e = none_some e

joined : (c : ℕ) (o : Option GraphTurn) → joined_by o ≡ Some c → o ≡ Some (Join c)
joined c None e = none_some e
joined c (Some (Spawn d)) e = none_some e
joined c (Some (Join d)) e = ap (λ x. Some (Join x)) (same_Some d c e)

module _ (tasks : TaskTurns) where
  is_first : (u : GraphStrand) (t : ℕ) → mark_of tasks First u ≡ Some t → u ≡ first_of t
  is_first u t m =
      let p = if_some (u.index == 0) u.task t m in
      strand_is u t 0 p.1 (eqb-true u.index 0 p.0)

  is_last : (u : GraphStrand) (t : ℕ) → HasStrand tasks u → mark_of tasks Last u ≡ Some t → u ≡ last_of tasks t
  is_last u t st m =
      let p = ended u.task t (slice_get (tasks u.task) u.index) m in
      let past : length (tasks u.task) ≤ u.index =
      elim (cases_lt u.index (length (tasks u.task))) [ inl lt ↦ absurd (got_none (tasks u.task) u.index lt p.0) | inr ge ↦ ge ] in
      let end : u.index ≡ length (tasks u.task) = omega arith in
      strand_is u t (length (tasks t)) p.1 (end ∙ ap (λ x. length (tasks x)) p.1)

  pub is_joined : (u : GraphStrand) (c : ℕ) → mark_of tasks Joined u ≡ Some c → (j : ℕ) × (u.index ≡ j + 1) × Does tasks u.task j (Join c)
  is_joined u c m =
      let p = if_none (u.index == 0) (joined_by (slice_get (tasks u.task) (u.index - 1))) c m in
      let some : u.index ≡ 0 → ⊥ = eqb-false u.index 0 p.0 in
      (u.index - 1, elim (cases_lt 0 u.index) [ inl lt ↦ omega arith | inr ge ↦ absurd (some (omega arith)) ], joined c (slice_get (tasks u.task) (u.index - 1)) p.1)

  pub first_mark : (t : ℕ) → mark_of tasks First (first_of t) ≡ Some t
  first_mark t = refl

  pub last_mark : (t : ℕ) → mark_of tasks Last (last_of tasks t) ≡ Some t
  last_mark t = ap (ended_by t) (slice_get_past (tasks t) (length (tasks t)) (omega arith))

  joined_mark_by : (b : Bool) (o o' : Option GraphTurn) (c : ℕ) → b ≡ false → o ≡ o' → o' ≡ Some (Join c) → (if b then None else joined_by o) ≡ Some c
  joined_mark_by true o o' c e same h = absurd cc
  joined_mark_by false o o' c e same h = ap joined_by (same ∙ h)

  pub joined_mark : (q j c : ℕ) → Does tasks q j (Join c) → mark_of tasks Joined (strand q (j + 1)) ≡ Some c
  joined_mark q j c h =
      joined_mark_by ((j + 1) == 0) (slice_get (tasks q) (j + 1 - 1)) (slice_get (tasks q) j) c
      (ne_eqb (j + 1) 0 (λ e. omega arith)) (ap (slice_get (tasks q)) (let e : j + 1 - 1 ≡ j = omega arith in e)) h

  module _ (fj : IsForkJoin tasks) where
    pub same_joined : (u v : GraphStrand) (c : ℕ) → mark_of tasks Joined u ≡ Some c → mark_of tasks Joined v ≡ Some c → u ≡ v
    same_joined u v c m m' =
        let a = is_joined u c m in
        let b = is_joined v c m' in
        let s = fj.joins_own c u.task a.0 a.2 in
        let s' = fj.joins_own c v.task b.0 b.2 in
        let task = (fj.spawned_once c u.task s.0 v.task s'.0 s.2 s'.2).0 in
        let at : a.0 ≡ b.0 = fj.joined_once c v.task a.0 b.0 (subst (λ x. Does tasks x a.0 (Join c)) task a.2) b.2 in
        let i : u.index ≡ a.0 + 1 = a.1 in
        let k : v.index ≡ b.0 + 1 = b.1 in
        strand_is u v.task v.index task (omega arith)

    pub same_mark : (mark : Mark) (u v : GraphStrand) (t : ℕ) → HasStrand tasks u → HasStrand tasks v → mark_of tasks mark u ≡ Some t → mark_of tasks mark v ≡ Some t → u ≡ v
    same_mark First u v t su sv m m' = is_first u t m ∙ sym (is_first v t m')
    same_mark Last u v t su sv m m' = is_last u t su m ∙ sym (is_last v t sv m')
    same_mark Joined u v t su sv m m' = same_joined u v t m m'
