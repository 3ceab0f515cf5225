-- The reaches of strands, strand after strand in the serial order.
use Rattle.run_span.proofs.Common.{◌≡◌, ◌==◌, ℕ, zero, suc, ◌+◌, ◌-◌, ◌<◌, ◌≤◌, max, Bool, true, false, Option, Some, None, List, [], ◌∷◌, ◌++◌, length, take, get_or, set, replicate, slice_get, slice_set, ◌⊎◌, inl, inr, refl, ap, sym, subst, ◌∙◌, arith, if◌then◌else◌, sum_by, cases_lt, cases_eq, ne_eqb, eq-eqb, length-append, length-set, length-replicate, get_or-replicate, get_or_past, get_or-set_same, get_or-set_other, nil_from_length, sum_by_more, sum_by_more_le, same_Some, slice_get_within, get_or_from_slice_get, got_front, got_some, got_none, got_last, got_more, none_some, IsWalk, GraphTurn, Spawn, Join, GraphStrand, TaskTurns, tasks_in, strand, first_of, last_of, Does, IsParent, IsAncestor, IsNested, SpawnsBelow, serial_order, AreLevels, IsSerialOrder, AreBlocks, IsReach, AreReaches, below, joins_child, no_self, same_ancestor, IsRooted, precedes_itself, and_then, along, attached_rooted, rooted_attached, serial_order_extends, levels_are_few, are_blocks, are_reaches, span_is_longest, Reaches, last_reach, latest_of, turn_before, with_child, reach_before, entered, AreWeights, AreReachesOf, IsSpanOf}

if_is : {A : Type 0} (b c : Bool) (x y : A) → b ≡ c → (if b then x else y) ≡ (if c then x else y)
if_is b c x y e = ap (λ z. if z then x else y) e

last_none : (all : List ℕ) → length all ≡ 0 → last_reach all ≡ 0
last_none all e = ap last_reach (nil_from_length all e)

last_some : (all : List ℕ) (i r : ℕ) → length all ≡ i + 1 → slice_get all i ≡ Some r → last_reach all ≡ r
last_some all i r e h =
    let at : length all - 1 ≡ i = omega arith in
    ap (λ k. get_or all k 0) at ∙ get_or_from_slice_get all i r 0 h

same_latest : (z n t : ℕ) → get_or (replicate n z) t z ≡ z
same_latest z n t =
    let size : length (replicate n z) ≡ n = length-replicate n z in
    elim (cases_lt t n) [
      | inl lt ↦ get_or-replicate n t z z lt
      | inr ge ↦ get_or_past (replicate n z) t z (omega arith)
    ]

-- where nothing stands, what is told otherwise
pub none_there : (xs : List ℕ) (i : ℕ) → slice_get xs i ≡ None → 0 ≡ get_or xs i 0
none_there xs i h = elim (cases_lt i (length xs)) [
  | inl lt ↦ absurd (got_none xs i lt h)
  | inr ge ↦ sym (get_or_past xs i 0 ge)
]

-- the weights of so many first strands
abbrev pub total : List ℕ → ℕ → ℕ
total weights e = sum_by (λ x. x) (take e weights)

-- what is known of the first so many strands
pub record IsReaching (tasks : TaskTurns) (n : ℕ) (order : List GraphStrand) (weights : List ℕ) (e : ℕ) (rs : Reaches) : Type 0 where
  pub size : length rs.all ≡ e
  pub slots : length rs.latest ≡ n
  pub all_bound : (i r : ℕ) → slice_get rs.all i ≡ Some r → r ≤ total weights e
  pub latest_bound : (t : ℕ) → latest_of rs t ≤ total weights e
  pub each : (weight : GraphStrand → ℕ) → AreWeights order weights weight
      → (i r : ℕ) (u : GraphStrand) → slice_get order i ≡ Some u → slice_get rs.all i ≡ Some r → IsReach tasks weight u r
  -- of a task that goes on, the latest strand, and of one that has ended, the last
  pub going : (t k i j : ℕ) → slice_get order i ≡ Some (strand t k) → i < e → slice_get order j ≡ Some (strand t (k + 1)) → e ≤ j
      → slice_get rs.all i ≡ Some (latest_of rs t)
  pub ended : (t i : ℕ) → slice_get order i ≡ Some (last_of tasks t) → i < e → slice_get rs.all i ≡ Some (latest_of rs t)

pub reaching_start : (tasks : TaskTurns) (n : ℕ) (order : List GraphStrand) (weights : List ℕ) → IsReaching tasks n order weights 0 (record { all = []; latest = replicate n 0 })
reaching_start tasks n order weights = record {
  size = refl;
  slots = length-replicate n 0;
  all_bound = λ i r h. none_some h;
  latest_bound = λ t. let z : ℕ = 0 in let e : get_or (replicate n z) t z ≡ z = same_latest z n t in omega arith;
  each = λ weight w i r u h g. none_some g;
  going = λ t k i j h lt g le. absurd (omega arith);
  ended = λ t i h lt. absurd (omega arith);
}

-- the bound on the next reach
child_bound : (weights : List ℕ) (e own : ℕ) (rs : Reaches) → ((t : ℕ) → latest_of rs t ≤ total weights e) → own ≤ total weights e → (o : Option GraphTurn) → with_child rs own o ≤ total weights e
child_bound weights e own rs bound le None = le
child_bound weights e own rs bound le (Some (Spawn c)) = le
child_bound weights e own rs bound le (Some (Join c)) = let le' : latest_of rs c ≤ total weights e = bound c in omega arith

last_bound : (weights : List ℕ) (e : ℕ) (all : List ℕ) → ((i r : ℕ) → slice_get all i ≡ Some r → r ≤ total weights e) → last_reach all ≤ total weights e
last_bound weights e [] bound = omega arith
last_bound weights e (x ∷ xs) bound =
    let r = got_some (x ∷ xs) (length (x ∷ xs) - 1) (omega arith) in
    let is : last_reach (x ∷ xs) ≡ r.0 = last_some (x ∷ xs) (length (x ∷ xs) - 1) r.0 (omega arith) r.1 in
    let le : r.0 ≤ total weights e = bound (length (x ∷ xs) - 1) r.0 r.1 in
    omega arith

either_bound : (b : Bool) (x y m : ℕ) → x ≤ m → y ≤ m → (if b then x else y) ≤ m
either_bound true x y m p q = p
either_bound false x y m p q = q

pub before_bound : (tasks : TaskTurns) (n : ℕ) (order : List GraphStrand) (weights : List ℕ) (e : ℕ) (rs : Reaches) (u : GraphStrand) → IsReaching tasks n order weights e rs
    → reach_before tasks rs u ≤ total weights e
before_bound tasks n order weights e rs u f =
    either_bound (u.index == 0) (last_reach rs.all) (with_child rs (latest_of rs u.task) (turn_before tasks u)) (total weights e)
    (last_bound weights e rs.all f.all_bound) (child_bound weights e (latest_of rs u.task) rs f.latest_bound (f.latest_bound u.task) (turn_before tasks u))

module _ (rows : List (List GraphTurn)) (order : List GraphStrand) (weights : List ℕ) (some : 0 < length rows) (nested : IsNested (tasks_in rows))
    (bounded : SpawnsBelow (tasks_in rows) (length rows)) (is : order ≡ serial_order (tasks_in rows) (length rows)) (weighed : length weights ≡ length order) where
  levels : AreLevels (tasks_in rows) (length rows)
  levels = levels_are_few (tasks_in rows) (length rows) nested.fork_join some bounded

  serial : IsSerialOrder (tasks_in rows) order
  serial = subst (IsSerialOrder (tasks_in rows)) (sym is) (serial_order_extends (tasks_in rows) (length rows) nested levels)

  blocks : AreBlocks (tasks_in rows) order
  blocks = subst (AreBlocks (tasks_in rows)) (sym is) (are_blocks (tasks_in rows) (length rows) nested levels)

  rooted_at : (i : ℕ) (u : GraphStrand) → slice_get order i ≡ Some u → IsRooted (tasks_in rows) u
  rooted_at i u h = attached_rooted (tasks_in rows) nested.fork_join u (serial.attached i u h)

  place_there : (u : GraphStrand) → IsRooted (tasks_in rows) u → (i : ℕ) × (slice_get order i ≡ Some u)
  place_there u r = serial.all u (rooted_attached (tasks_in rows) u r)

  there_by : (k t : ℕ) → IsWalk (λ x. x ≡ 0) (IsParent (tasks_in rows)) k t → t < length rows
  there_by zero t e = subst (λ x. x < length rows) (sym e) some
  there_by (suc k) t up = bounded up.0 up.2.0 t up.2.1

  own_order : (q i j a b : ℕ) → slice_get order a ≡ Some (strand q i) → slice_get order b ≡ Some (strand q j) → i ≤ j → a ≤ b
  own_order q i j a b ha hb le = serial.extends a b (strand q i) (strand q j) ha hb (along (tasks_in rows) q i j le (rooted_at b (strand q j) hb).stands)

  apart : {A : Type 0} (e : ℕ) (u v : GraphStrand) → slice_get order e ≡ Some u → slice_get order e ≡ Some v → (u ≡ v → ⊥) → A
  apart e u v h g ne = absurd (ne (same_Some u v (sym h ∙ g)))

  root_place : (e : ℕ) → slice_get order e ≡ Some (first_of 0) → e ≡ 0
  root_place zero h = refl
  root_place (suc e) h =
      let lt : suc e < length order = slice_get_within order (suc e) (first_of 0) h in
      let v = got_some order e (omega arith) in
      let le : suc e ≤ e = serial.extends (suc e) e (first_of 0) v.0 h v.1 (serial.attached e v.0 v.1) in
      absurd (omega arith)

  module _ (e : ℕ) (rs : Reaches) (f : IsReaching (tasks_in rows) (length rows) order weights e rs) (weight : GraphStrand → ℕ) (w : AreWeights order weights weight) where
    reaches : AreReaches (tasks_in rows) weight
    reaches = are_reaches (tasks_in rows) weight nested.fork_join

    -- a task's first strand
    first_by : (t : ℕ) → slice_get order e ≡ Some (first_of t) → IsAncestor (tasks_in rows) 0 t → IsReach (tasks_in rows) weight (first_of t) (last_reach rs.all + weight (first_of t))
    first_by t h (zero, root) =
        let at : e ≡ 0 = root_place e (subst (λ x. slice_get order e ≡ Some (first_of x)) root h) in
        let none : last_reach rs.all ≡ 0 = last_none rs.all (f.size ∙ at) in
        let sum : weight (first_of 0) ≡ last_reach rs.all + weight (first_of 0) = omega arith in
        subst (λ x. IsReach (tasks_in rows) weight (first_of x) (last_reach rs.all + weight (first_of x))) (sym root)
        (subst (IsReach (tasks_in rows) weight (first_of 0)) sum reaches.root)
    first_by t h (suc m, (p, up, (k, sp))) =
        let lt : k < length (tasks_in rows p) = slice_get_within (tasks_in rows p) k (Spawn t) sp in
        let a = place_there (strand p k) (record { stands = omega arith; rooted = (m, up) }) in
        let next : a.0 + 1 ≡ e = serial.once (a.0 + 1) e (first_of t) (blocks.spawner p k t a.0 sp a.1) h in
        let size : length rs.all ≡ e = f.size in
        let r = got_some rs.all a.0 (omega arith) in
        let last : last_reach rs.all ≡ r.0 = last_some rs.all a.0 r.0 (omega arith) r.1 in
        subst (λ x. IsReach (tasks_in rows) weight (first_of t) (x + weight (first_of t))) (sym last)
        (reaches.child p k t r.0 sp (f.each weight w a.0 r.0 (strand p k) a.1 r.1))

    -- past a turn
    past_by : (t k : ℕ) (turn : GraphTurn) → Does (tasks_in rows) t k turn → slice_get order e ≡ Some (strand t (k + 1)) → IsReach (tasks_in rows) weight (strand t k) (latest_of rs t)
        → IsReach (tasks_in rows) weight (strand t (k + 1)) (with_child rs (latest_of rs t) (Some turn) + weight (strand t (k + 1)))
    past_by t k (Spawn c) sp h own = reaches.past_spawn t k c (latest_of rs t) sp own
    past_by t k (Join c) jn h own =
        let r = rooted_at e (strand t (k + 1)) h in
        let up = joins_child (tasks_in rows) nested.fork_join t k c jn in
        let last = place_there (last_of (tasks_in rows) c) (record { stands = omega arith; rooted = below (tasks_in rows) 0 t c r.rooted up }) in
        let le : last.0 ≤ e = serial.extends last.0 e (last_of (tasks_in rows) c) (strand t (k + 1)) last.1 h
        (and_then (tasks_in rows) (last_of (tasks_in rows) c) (last_of (tasks_in rows) c) (strand t (k + 1)) (precedes_itself (tasks_in rows) (last_of (tasks_in rows) c)) (inr (inr (t, k, c, jn, refl, refl)))) in
        let lt : last.0 < e = elim (cases_lt last.0 e) [
          | inl before ↦ before
          | inr ge ↦
              let same : last.0 ≡ e = omega arith in
              apart e (last_of (tasks_in rows) c) (strand t (k + 1)) (subst (λ x. slice_get order x ≡ Some (last_of (tasks_in rows) c)) same last.1) h
              (λ clash. no_self (tasks_in rows) nested.fork_join t c r.rooted up (same_ancestor (tasks_in rows) c t (sym (ap (λ (x : GraphStrand). x.task) clash))))
        ] in
        let noted = f.ended c last.0 last.1 lt in
        reaches.past_join t k c (latest_of rs t) (latest_of rs c) jn own (f.each weight w last.0 (latest_of rs c) (last_of (tasks_in rows) c) last.1 noted)

    next_by : (t k : ℕ) → slice_get order e ≡ Some (strand t (k + 1))
        → IsReach (tasks_in rows) weight (strand t (k + 1)) (with_child rs (latest_of rs t) (slice_get (tasks_in rows t) k) + weight (strand t (k + 1)))
    next_by t k h =
        let r = rooted_at e (strand t (k + 1)) h in
        let stands : k + 1 ≤ length (tasks_in rows t) = r.stands in
        let turn = got_some (tasks_in rows t) k (omega arith) in
        let own = place_there (strand t k) (record { stands = omega arith; rooted = r.rooted }) in
        let le : own.0 ≤ e = own_order t k (k + 1) own.0 e own.1 h (omega arith) in
        let lt : own.0 < e = elim (cases_lt own.0 e) [
          | inl before ↦ before
          | inr ge ↦
              let same : own.0 ≡ e = omega arith in
              apart e (strand t k) (strand t (k + 1)) (subst (λ x. slice_get order x ≡ Some (strand t k)) same own.1) h
              (λ clash. let equal : k ≡ k + 1 = ap (λ (x : GraphStrand). x.index) clash in omega arith)
        ] in
        let noted = f.going t k own.0 e own.1 lt h (omega arith) in
        subst (λ o. IsReach (tasks_in rows) weight (strand t (k + 1)) (with_child rs (latest_of rs t) o + weight (strand t (k + 1)))) (sym turn.1)
        (past_by t k turn.0 turn.1 h (f.each weight w own.0 (latest_of rs t) (strand t k) own.1 noted))

    pub next_reach : (u : GraphStrand) → slice_get order e ≡ Some u → IsReach (tasks_in rows) weight u (reach_before (tasks_in rows) rs u + weight u)
    next_reach u h =
        elim (cases_eq u.index 0) [
          | inl none ↦
              let same : strand u.task 0 ≡ u = ap (strand u.task) (sym none) in
              let is_first : last_reach rs.all ≡ reach_before (tasks_in rows) rs u =
              sym (if_is (u.index == 0) true (last_reach rs.all) (with_child rs (latest_of rs u.task) (turn_before (tasks_in rows) u)) (eq-eqb u.index 0 none)) in
              let r = first_by u.task (h ∙ ap Some (sym same)) (rooted_at e u h).rooted in
              subst (λ x. IsReach (tasks_in rows) weight u (x + weight u)) is_first
              (subst (λ (v : GraphStrand). IsReach (tasks_in rows) weight v (last_reach rs.all + weight v)) same r)
          | inr more ↦
              let k : ℕ = u.index - 1 in
              let index : k + 1 ≡ u.index = elim (cases_lt 0 u.index) [ inl lt ↦ omega arith | inr ge ↦ absurd (more (omega arith)) ] in
              let same : strand u.task (k + 1) ≡ u = ap (strand u.task) index in
              let is_next : with_child rs (latest_of rs u.task) (turn_before (tasks_in rows) u) ≡ reach_before (tasks_in rows) rs u =
              sym (if_is (u.index == 0) false (last_reach rs.all) (with_child rs (latest_of rs u.task) (turn_before (tasks_in rows) u)) (ne_eqb u.index 0 more)) in
              let r = next_by u.task k (h ∙ ap Some (sym same)) in
              subst (λ x. IsReach (tasks_in rows) weight u (x + weight u)) is_next
              (subst (λ (v : GraphStrand). IsReach (tasks_in rows) weight v (with_child rs (latest_of rs u.task) (slice_get (tasks_in rows u.task) k) + weight v)) same r)
        ]

  -- ONE STRAND MORE

  module _ (e : ℕ) (rs : Reaches) (f : IsReaching (tasks_in rows) (length rows) order weights e rs) (u : GraphStrand) (x : ℕ)
      (at : slice_get order e ≡ Some u) (has : slice_get weights e ≡ Some x) where
    reach : ℕ
    reach = reach_before (tasks_in rows) rs u + x

    more_total : total weights (e + 1) ≡ total weights e + x
    more_total =
        let lt : e < length weights = slice_get_within weights e x has in
        sum_by_more (λ y. y) weights e 0 lt ∙ ap (λ y. total weights e + y) (get_or_from_slice_get weights e x 0 has)

    latest_is_known : u.task < length rs.latest
    latest_is_known =
        let r = rooted_at e u at in
        subst (λ n. u.task < n) (sym f.slots) (there_by r.rooted.0 u.task r.rooted.1)

    own_latest : (y : ℕ) → latest_of (entered rs u y) u.task ≡ y
    own_latest y = get_or-set_same rs.latest u.task y 0 latest_is_known

    other_latest : (y t : ℕ) → (t ≡ u.task → ⊥) → latest_of (entered rs u y) t ≡ latest_of rs t
    other_latest y t ne = get_or-set_other rs.latest u.task t y 0 ne

    old_all : (y i : ℕ) → i < e → slice_get (entered rs u y).all i ≡ slice_get rs.all i
    old_all y i lt = got_front rs.all (y ∷ []) i (subst (λ n. i < n) (sym f.size) lt)

    new_all : (y i : ℕ) → i ≡ e → slice_get (entered rs u y).all i ≡ Some y
    new_all y i same = ap (slice_get (rs.all ++ y ∷ [])) (same ∙ sym f.size) ∙ got_last rs.all y

    step_by : (y : ℕ) → y ≡ reach_before (tasks_in rows) rs u + x → IsReaching (tasks_in rows) (length rows) order weights (e + 1) (entered rs u y)
    step_by y is_y =
        let grown : total weights (e + 1) ≡ total weights e + x = more_total in
        let bound : reach_before (tasks_in rows) rs u ≤ total weights e = before_bound (tasks_in rows) (length rows) order weights e rs u f in
        record {
          size = length-append rs.all (y ∷ []) ∙ (let size : length rs.all ≡ e = f.size in let next : length rs.all + 1 ≡ e + 1 = omega arith in next);
          slots = length-set rs.latest u.task y ∙ f.slots;
          all_bound = λ i r h. elim (got_more rs.all y r i h) [
            | inl old ↦ let le : r ≤ total weights e = f.all_bound i r old in omega arith
            | inr (where_, same) ↦ omega arith
          ];
          latest_bound = λ t. elim (cases_eq t u.task) [
            | inl same ↦
                let own : latest_of (entered rs u y) t ≡ y = ap (latest_of (entered rs u y)) same ∙ own_latest y in omega arith
            | inr ne ↦
                let other : latest_of (entered rs u y) t ≡ latest_of rs t = other_latest y t ne in
                let le : latest_of rs t ≤ total weights e = f.latest_bound t in omega arith
          ];
          each = λ weight w i r v h g. elim (got_more rs.all y r i g) [
            | inl old ↦ f.each weight w i r v h old
            | inr (place, same) ↦
                let here_at : i ≡ e = place ∙ f.size in
                let is_v : u ≡ v = same_Some u v (sym at ∙ subst (λ k. slice_get order k ≡ Some v) here_at h) in
                let is_x : weight u ≡ x = same_Some (weight u) x (sym (w e u at) ∙ has) in
                let all : reach_before (tasks_in rows) rs u + weight u ≡ r = omega arith in
                subst (λ (z : GraphStrand). IsReach (tasks_in rows) weight z r) is_v
                (subst (IsReach (tasks_in rows) weight u) all (next_reach e rs f weight w u at))
          ];
          going = λ t k i j hi lt hj le. elim (cases_lt i e) [
            | inl before ↦
                old_all y i before ∙ (f.going t k i j hi before hj (omega arith)
                ∙ ap Some (sym (other_latest y t (λ same. passed t k i j hi before hj le same))))
            | inr ge ↦
                let here_at : i ≡ e = omega arith in
                let is_u : strand t k ≡ u = same_Some (strand t k) u (sym (subst (λ z. slice_get order z ≡ Some (strand t k)) here_at hi) ∙ at) in
                new_all y i here_at ∙ ap Some (sym (ap (latest_of (entered rs u y)) (ap (λ (z : GraphStrand). z.task) is_u) ∙ own_latest y))
          ];
          ended = λ t i hi lt. elim (cases_lt i e) [
            | inl before ↦ old_all y i before ∙ (f.ended t i hi before ∙ ap Some (sym (other_latest y t (λ same. over t i hi before same))))
            | inr ge ↦
                let here_at : i ≡ e = omega arith in
                let is_u : last_of (tasks_in rows) t ≡ u = same_Some (last_of (tasks_in rows) t) u (sym (subst (λ z. slice_get order z ≡ Some (last_of (tasks_in rows) t)) here_at hi) ∙ at) in
                new_all y i here_at ∙ ap Some (sym (ap (latest_of (entered rs u y)) (ap (λ (z : GraphStrand). z.task) is_u) ∙ own_latest y))
          ];
        }
      where
        is_own : (t : ℕ) → t ≡ u.task → slice_get order e ≡ Some (strand t u.index)
        is_own t same = at ∙ ap (λ z. Some (strand z u.index)) (sym same)

        passed : (t k i j : ℕ) → slice_get order i ≡ Some (strand t k) → i < e → slice_get order j ≡ Some (strand t (k + 1)) → e + 1 ≤ j → t ≡ u.task → ⊥
        passed t k i j hi lt hj le same =
            elim (cases_lt k u.index) [
              | inl later ↦ let le' : j ≤ e = own_order t (k + 1) u.index j e hj (is_own t same) (omega arith) in omega arith
              | inr ge ↦ let le' : e ≤ i = own_order t u.index k e i (is_own t same) hi ge in omega arith
            ]

        over : (t i : ℕ) → slice_get order i ≡ Some (last_of (tasks_in rows) t) → i < e → t ≡ u.task → ⊥
        over t i hi lt same =
            let stands : u.index ≤ length (tasks_in rows u.task) = (rooted_at e u at).stands in
            let le : e ≤ i = own_order t u.index (length (tasks_in rows t)) e i (is_own t same) hi (subst (λ z. u.index ≤ length (tasks_in rows z)) (sym same) stands) in
            omega arith

    pub reaching_step : IsReaching (tasks_in rows) (length rows) order weights (e + 1) (entered rs u (reach_before (tasks_in rows) rs u + x))
    reaching_step = step_by (reach_before (tasks_in rows) rs u + x) refl

  -- THE LAST STRAND

  last_place : slice_get order (length order - 1) ≡ Some (last_of (tasks_in rows) 0)
  last_place =
      let root = same_ancestor (tasks_in rows) 0 0 refl in
      let first = place_there (first_of 0) (record { stands = omega arith; rooted = root }) in
      let last = place_there (last_of (tasks_in rows) 0) (record { stands = omega arith; rooted = root }) in
      let lt : last.0 < length order = slice_get_within order last.0 (last_of (tasks_in rows) 0) last.1 in
      let end = got_some order (length order - 1) (omega arith) in
      let within = (blocks.block 0 first.0 last.0 (length order - 1) end.0 first.1 last.1 end.1).0 (rooted_at (length order - 1) end.0 end.1).rooted in
      let le : length order - 1 ≤ last.0 = within.1 in
      subst (λ i. slice_get order i ≡ Some (last_of (tasks_in rows) 0)) (let e : last.0 ≡ length order - 1 = omega arith in e) last.1

  pub some_strands : 0 < length order
  some_strands =
      let first = place_there (first_of 0) (record { stands = omega arith; rooted = same_ancestor (tasks_in rows) 0 0 refl }) in
      let lt : first.0 < length order = slice_get_within order first.0 (first_of 0) first.1 in
      omega arith

  pub span_last : (reaches : List ℕ) (span : ℕ) → AreReachesOf (tasks_in rows) order weights reaches → slice_get reaches (length reaches - 1) ≡ Some span → IsSpanOf (tasks_in rows) order weights span
  span_last reaches span are h weight w =
      (span_is_longest (tasks_in rows) weight nested).1 span
      (are.each weight w (length order - 1) span (last_of (tasks_in rows) 0) last_place (subst (λ n. slice_get reaches (n - 1) ≡ Some span) are.size h))

pub reaching_end : (tasks : TaskTurns) (n : ℕ) (order : List GraphStrand) (weights : List ℕ) (rs : Reaches) → IsReaching tasks n order weights (length order) rs → AreReachesOf tasks order weights rs.all
reaching_end tasks n order weights rs f = record { size = f.size; each = λ weight w i r u h g. f.each weight w i r u h g }
