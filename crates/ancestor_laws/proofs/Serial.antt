-- The serial order.
use Rattle.ancestor_laws.proofs.Common.{◌≡◌, ℕ, zero, suc, ◌+◌, ◌-◌, ◌<◌, ◌≤◌, List, [], ◌∷◌, ◌++◌, length, ◌⊎◌, inl, inr, refl, ap, sym, subst, ◌∙◌, arith, Some, slice_get, eqb, false, ne_eqb, eqb-true, length-append, IsDistinct-cons, length-le_from_distinct_below, same_Some, slice_get_within, In, got_in, got_front, got_back, in_append_cases, in_from_any, each_from, none_some, reached_within, GraphTurn, Spawn, Join, GraphStrand, TaskTurns, strand, last_of, HasStrand, Does, ContinuesTo, Spawns, IsGraphEdge, StrandPrecedes, IsAncestor, IsForkJoin, same_spawn, spawn_no_join, EachOnce, one_place, once_append, serial_rest, serial_in, serial_order, AreLevels, SerialOrderExtends, LevelsAreFew}
use Rattle.std.specs.List.{IsDistinct}
use Rattle.ancestor_laws.proofs.Trees.{IsLine, itself, same_ancestor, below, through, child_above, no_self, same_child}
use Rattle.ancestor_laws.proofs.Walks.{IsRooted, rooted_more, attached_rooted, rooted_attached}

-- A LIST WITHIN ANOTHER

-- from place s on the list has the other list's items
abbrev pub IsWindow : {A : Type 0} → List A → List A → ℕ → Type 0
IsWindow {A} order xs s = (i : ℕ) (u : A) → slice_get xs i ≡ Some u → slice_get order (s + i) ≡ Some u

at_place : {A : Type 0} (xs : List A) (i j : ℕ) (u : A) → i ≡ j → slice_get xs i ≡ Some u → slice_get xs j ≡ Some u
at_place xs i j u e h = subst (λ k. slice_get xs k ≡ Some u) e h

pub window_in : {A : Type 0} (order xs ys : List A) (s r : ℕ) → IsWindow order xs s → IsWindow xs ys r → IsWindow order ys (s + r)
window_in order xs ys s r w v i u h = at_place order (s + (r + i)) (s + r + i) u (omega arith) (w (r + i) u (v i u h))

-- THE STRANDS OF A TASK AND ITS CHILDREN

-- how many strands come before strand i of the task
abbrev pub offset : (ℕ → List GraphStrand) → ℕ → List GraphTurn → ℕ
offset child zero turns = 0
offset child (suc i) [] = 0
offset child (suc i) (Spawn c ∷ rest) = suc (length (child c) + offset child i rest)
offset child (suc i) (Join c ∷ rest) = suc (offset child i rest)

module _ (child : ℕ → List GraphStrand) where
  rest_first : (t b : ℕ) (turns : List GraphTurn) → slice_get (serial_rest child t b turns) 0 ≡ Some (strand t b)
  rest_first t b [] = refl
  rest_first t b (Spawn c ∷ rest) = refl
  rest_first t b (Join c ∷ rest) = refl

  rest_at : (t b i : ℕ) (turns : List GraphTurn) → i ≤ length turns → slice_get (serial_rest child t b turns) (offset child i turns) ≡ Some (strand t (b + i))
  rest_at t b zero turns le = rest_first t b turns ∙ ap (λ x. Some (strand t x)) (let e : b ≡ b + 0 = omega arith in e)
  rest_at t b (suc i) [] le = absurd (omega arith)
  rest_at t b (suc i) (Spawn c ∷ rest) le =
      got_back (child c) (serial_rest child t (b + 1) rest) (offset child i rest)
      ∙ (rest_at t (b + 1) i rest (omega arith) ∙ ap (λ x. Some (strand t x)) (let e : b + 1 + i ≡ b + suc i = omega arith in e))
  rest_at t b (suc i) (Join c ∷ rest) le =
      rest_at t (b + 1) i rest (omega arith) ∙ ap (λ x. Some (strand t x)) (let e : b + 1 + i ≡ b + suc i = omega arith in e)

  rest_child : (t b i c : ℕ) (turns : List GraphTurn) → slice_get turns i ≡ Some (Spawn c) → IsWindow (serial_rest child t b turns) (child c) (offset child i turns + 1)
  rest_child t b i c [] g = none_some g
  rest_child t b zero c (Spawn d ∷ rest) g = λ k u h.
      let same : d ≡ c = same_spawn d c (same_Some (Spawn d) (Spawn c) g) in
      let h' : slice_get (child d) k ≡ Some u = subst (λ x. slice_get (child x) k ≡ Some u) (sym same) h in
      let at : slice_get (child d ++ serial_rest child t (b + 1) rest) k ≡ Some u =
      got_front (child d) (serial_rest child t (b + 1) rest) k (slice_get_within (child d) k u h') ∙ h' in
      at_place (strand t b ∷ (child d ++ serial_rest child t (b + 1) rest)) (suc k) (0 + 1 + k) u (omega arith) at
  rest_child t b zero c (Join d ∷ rest) g = spawn_no_join c d (sym (same_Some (Join d) (Spawn c) g))
  rest_child t b (suc i) c (Spawn d ∷ rest) g = λ k u h.
      let o = offset child i rest in
      let at : slice_get (child d ++ serial_rest child t (b + 1) rest) (length (child d) + (o + 1 + k)) ≡ Some u =
      got_back (child d) (serial_rest child t (b + 1) rest) (o + 1 + k) ∙ rest_child t (b + 1) i c rest g k u h in
      at_place (strand t b ∷ (child d ++ serial_rest child t (b + 1) rest)) (suc (length (child d) + (o + 1 + k))) (suc (length (child d) + o) + 1 + k) u (omega arith) at
  rest_child t b (suc i) c (Join d ∷ rest) g = λ k u h.
      let o = offset child i rest in
      at_place (strand t b ∷ serial_rest child t (b + 1) rest) (suc (o + 1 + k)) (suc o + 1 + k) u (omega arith) (rest_child t (b + 1) i c rest g k u h)

  pub rest_length : (t b : ℕ) (turns : List GraphTurn) → length (serial_rest child t b turns) ≡ offset child (length turns) turns + 1
  rest_length t b [] = refl
  rest_length t b (Spawn c ∷ rest) =
      let more : length (serial_rest child t (b + 1) rest) ≡ offset child (length rest) rest + 1 = rest_length t (b + 1) rest in
      let sum : length (child c ++ serial_rest child t (b + 1) rest) ≡ length (child c) + length (serial_rest child t (b + 1) rest) =
      length-append (child c) (serial_rest child t (b + 1) rest) in
      omega arith
  rest_length t b (Join c ∷ rest) =
      let more : length (serial_rest child t (b + 1) rest) ≡ offset child (length rest) rest + 1 = rest_length t (b + 1) rest in
      omega arith

  pub offset_spawn : (i c : ℕ) (turns : List GraphTurn) → slice_get turns i ≡ Some (Spawn c) → offset child (suc i) turns ≡ offset child i turns + length (child c) + 1
  offset_spawn i c [] g = none_some g
  offset_spawn zero c (Spawn d ∷ rest) g =
      let same : length (child d) ≡ length (child c) = ap (λ x. length (child x)) (same_spawn d c (same_Some (Spawn d) (Spawn c) g)) in
      omega arith
  offset_spawn zero c (Join d ∷ rest) g = spawn_no_join c d (sym (same_Some (Join d) (Spawn c) g))
  offset_spawn (suc i) c (Spawn d ∷ rest) g =
      let more : offset child (suc i) rest ≡ offset child i rest + length (child c) + 1 = offset_spawn i c rest g in omega arith
  offset_spawn (suc i) c (Join d ∷ rest) g =
      let more : offset child (suc i) rest ≡ offset child i rest + length (child c) + 1 = offset_spawn i c rest g in omega arith

  offset_next : (i : ℕ) (turns : List GraphTurn) → offset child i turns ≤ offset child (suc i) turns ⊎ (length turns ≤ i)
  offset_next i [] = inr (omega arith)
  offset_next zero (Spawn d ∷ rest) = inl (omega arith)
  offset_next zero (Join d ∷ rest) = inl (omega arith)
  offset_next (suc i) (Spawn d ∷ rest) = elim (offset_next i rest) [ inl le ↦ inl (omega arith) | inr past ↦ inr (omega arith) ]
  offset_next (suc i) (Join d ∷ rest) = elim (offset_next i rest) [ inl le ↦ inl (omega arith) | inr past ↦ inr (omega arith) ]

  pub offset_upto : (d i j : ℕ) (turns : List GraphTurn) → i + d ≡ j → j ≤ length turns → offset child i turns ≤ offset child j turns
  offset_upto zero i j turns e le = let same : offset child i turns ≡ offset child j turns = ap (λ k. offset child k turns) (let s : i ≡ j = omega arith in s) in omega arith
  offset_upto (suc d) i j turns e le =
      let m : ℕ = i + d in
      let before : offset child i turns ≤ offset child m turns = offset_upto d i m turns refl (omega arith) in
      let same : offset child (suc m) turns ≡ offset child j turns = ap (λ k. offset child k turns) (let s : suc m ≡ j = omega arith in s) in
      elim (offset_next m turns) [ inl more ↦ omega arith | inr past ↦ absurd (omega arith) ]

  own_in : (t b n : ℕ) (x : GraphStrand) → strand t b ≡ x → (x.task ≡ t) × (b ≤ x.index) × (x.index ≤ b + n)
  own_in t b n x e =
      let f : b ≡ x.index = ap (λ (y : GraphStrand). y.index) e in
      (sym (ap (λ (y : GraphStrand). y.task) e), omega arith, omega arith)

  later_in : (t b : ℕ) (turn : GraphTurn) (rest : List GraphTurn) (x : GraphStrand)
      → ((x.task ≡ t) × (b + 1 ≤ x.index) × (x.index ≤ b + 1 + length rest)) ⊎ ((i c : ℕ) × (slice_get rest i ≡ Some (Spawn c)) × In (child c) x)
      → ((x.task ≡ t) × (b ≤ x.index) × (x.index ≤ b + length (turn ∷ rest))) ⊎ ((i c : ℕ) × (slice_get (turn ∷ rest) i ≡ Some (Spawn c)) × In (child c) x)
  later_in t b turn rest x (inl (e, low, high)) = inl (e, omega arith, omega arith)
  later_in t b turn rest x (inr (i, c, g, h)) = inr (suc i, c, g, h)

  -- what a task's part of the order has: strands of its own, and those of its children
  rest_in : (t b : ℕ) (turns : List GraphTurn) (x : GraphStrand) → In (serial_rest child t b turns) x
      → ((x.task ≡ t) × (b ≤ x.index) × (x.index ≤ b + length turns)) ⊎ ((i c : ℕ) × (slice_get turns i ≡ Some (Spawn c)) × In (child c) x)
  rest_in t b [] x (inl e) = inl (own_in t b 0 x e)
  rest_in t b [] x (inr none) = absurd none
  rest_in t b (Spawn c ∷ rest) x (inl e) = inl (own_in t b (suc (length rest)) x e)
  rest_in t b (Spawn c ∷ rest) x (inr h) =
      elim (in_append_cases (child c) (serial_rest child t (b + 1) rest) x h) [
        | inl i ↦ inr (zero, c, refl, i)
        | inr more ↦ later_in t b (Spawn c) rest x (rest_in t (b + 1) rest x more)
      ]
  rest_in t b (Join c ∷ rest) x (inl e) = inl (own_in t b (suc (length rest)) x e)
  rest_in t b (Join c ∷ rest) x (inr more) = later_in t b (Join c) rest x (rest_in t (b + 1) rest x more)

-- WHAT STANDS IN THE ORDER

module _ (tasks : TaskTurns) where
  pub in_below : (l t : ℕ) (x : GraphStrand) → In (serial_in tasks l t) x → IsAncestor tasks t x.task × HasStrand tasks x
  in_below zero t x h = absurd h
  in_below (suc l) t x h = in_below_by l t x (in_below l) (rest_in (serial_in tasks l) t 0 (tasks t) x h)
    where
      in_below_by : (l t : ℕ) (x : GraphStrand) → ((c : ℕ) (y : GraphStrand) → In (serial_in tasks l c) y → IsAncestor tasks c y.task × HasStrand tasks y)
          → ((x.task ≡ t) × (0 ≤ x.index) × (x.index ≤ 0 + length (tasks t))) ⊎ ((i c : ℕ) × Does tasks t i (Spawn c) × In (serial_in tasks l c) x)
          → IsAncestor tasks t x.task × HasStrand tasks x
      in_below_by l t x again (inl (e, low, high)) =
          let le : x.index ≤ length (tasks t) = omega arith in
          (same_ancestor tasks t x.task e, subst (λ y. x.index ≤ length (tasks y)) (sym e) le)
      in_below_by l t x again (inr (i, c, g, h)) = let r = again c x h in (child_above tasks t c x.task (i, g) r.0, r.1)

module _ (tasks : TaskTurns) (fj : IsForkJoin tasks) where
  -- a later part of a task's turns
  abbrev IsPart : ℕ → ℕ → List GraphTurn → Type 0
  IsPart t b turns = (i c : ℕ) → slice_get turns i ≡ Some (Spawn c) → Does tasks t (b + i) (Spawn c)

  part_rest : (t b : ℕ) (turn : GraphTurn) (rest : List GraphTurn) → IsPart t b (turn ∷ rest) → IsPart t (b + 1) rest
  part_rest t b turn rest part i c g = at_place (tasks t) (b + suc i) (b + 1 + i) (Spawn c) (omega arith) (part (suc i) c g)

  not_own : (l t b : ℕ) (rest : List GraphTurn) → IsAncestor tasks 0 t → IsPart t (b + 1) rest → In (serial_rest (serial_in tasks l) t (b + 1) rest) (strand t b) → ⊥
  not_own l t b rest root part h =
      elim (rest_in (serial_in tasks l) t (b + 1) rest (strand t b) h) [
        | inl (e, low, high) ↦ omega arith
        | inr (i, c, g, more) ↦ no_self tasks fj t c root (b + 1 + i, part i c g) (in_below tasks l c (strand t b) more).0
      ]

  -- a child's strands aren't among those that follow
  apart : (l t b c : ℕ) (rest : List GraphTurn) (x : GraphStrand) → IsAncestor tasks 0 t → Does tasks t b (Spawn c) → IsPart t (b + 1) rest
      → In (serial_in tasks l c) x → In (serial_rest (serial_in tasks l) t (b + 1) rest) x → ⊥
  apart l t b c rest x root sp part h later =
      let above = (in_below tasks l c x h).0 in
      elim (rest_in (serial_in tasks l) t (b + 1) rest x later) [
        | inl (e, low, high) ↦ no_self tasks fj t c root (b, sp) (subst (IsAncestor tasks c) e above)
        | inr (i, d, g, more) ↦
            let at = part i d g in
            let same = same_child tasks fj t c d x.task (through tasks 0 c x.task (below tasks 0 t c root (b, sp)) above) (b, sp) (b + 1 + i, at) above (in_below tasks l d x more).0 in
            let one : b ≡ b + 1 + i = (fj.spawned_once d t b t (b + 1 + i) (subst (λ y. Does tasks t b (Spawn y)) same sp) at).1 in
            omega arith
      ]

  rest_once : (l : ℕ) → ((c : ℕ) → IsAncestor tasks 0 c → EachOnce (serial_in tasks l c)) → (t b : ℕ) (turns : List GraphTurn) → IsAncestor tasks 0 t → IsPart t b turns
      → EachOnce (serial_rest (serial_in tasks l) t b turns)
  rest_once l again t b [] root part = (λ h. h, tt)
  rest_once l again t b (Spawn c ∷ rest) root part =
      let sp : Does tasks t b (Spawn c) = at_place (tasks t) (b + 0) b (Spawn c) (omega arith) (part 0 c refl) in
      let later = part_rest t b (Spawn c) rest part in (
        λ h. elim (in_append_cases (serial_in tasks l c) (serial_rest (serial_in tasks l) t (b + 1) rest) (strand t b) h) [
          | inl i ↦ no_self tasks fj t c root (b, sp) (in_below tasks l c (strand t b) i).0
          | inr i ↦ not_own l t b rest root later i
        ],
        once_append (serial_in tasks l c) (serial_rest (serial_in tasks l) t (b + 1) rest)
            (again c (below tasks 0 t c root (b, sp)))
            (rest_once l again t (b + 1) rest root later)
            (λ x i j. apart l t b c rest x root sp later i j),
      )
  rest_once l again t b (Join c ∷ rest) root part =
      let later = part_rest t b (Join c) rest part in
      (not_own l t b rest root later, rest_once l again t (b + 1) rest root later)

  in_once : (l t : ℕ) → IsAncestor tasks 0 t → EachOnce (serial_in tasks l t)
  in_once zero t root = tt
  in_once (suc l) t root = rest_once l (in_once l) t 0 (tasks t) root (λ i c g. at_place (tasks t) i (0 + i) (Spawn c) (omega arith) g)

-- WHERE A TASK'S STRANDS STAND

-- so many spawns below the root, with so many levels left, a task's part of the order begins at place s
pub record IsPlaced (tasks : TaskTurns) (levels : ℕ) (t k l s : ℕ) : Type 0 where
  pub line : IsLine tasks 0 k t
  pub deep : k + suc l ≡ levels
  pub window : IsWindow (serial_order tasks levels) (serial_in tasks (suc l) t) s

module _ (tasks : TaskTurns) (levels : ℕ) (enough : AreLevels tasks levels) where
  order : List GraphStrand
  order = serial_order tasks levels

  root_placed : (l : ℕ) → suc l ≡ levels → IsPlaced tasks levels 0 0 l 0
  root_placed l e = record {
    line = refl;
    deep = omega arith;
    window = λ i u h. at_place (serial_order tasks levels) i (0 + i) u (omega arith) (subst (λ n. slice_get (serial_in tasks n 0) i ≡ Some u) e h);
  }

  some_level : (l : ℕ) (k t : ℕ) → k + l ≡ levels → IsLine tasks 0 k t → (l' : ℕ) × (suc l' ≡ l)
  some_level zero k t e w =
      let same : k ≡ levels = omega arith in
      absurd (enough t (subst (λ n. IsLine tasks 0 n t) same w))
  some_level (suc l) k t e w = (l, refl)

  pub child_placed : (t k l s i c : ℕ) → IsPlaced tasks levels t k l s → Does tasks t i (Spawn c)
      → (l' : ℕ) × (suc l' ≡ l) × IsPlaced tasks levels c (suc k) l' (s + (offset (serial_in tasks l) i (tasks t) + 1))
  child_placed t k l s i c p sp =
      let deep : k + suc l ≡ levels = p.deep in
      let line : IsLine tasks 0 (suc k) c = (t, p.line, (i, sp)) in
      let m = some_level l (suc k) c (omega arith) line in
      let e : suc m.0 ≡ l = m.1 in (
        m.0,
        e,
        record {
          line = line;
          deep = omega arith;
          window = subst (λ n. IsWindow (serial_order tasks levels) (serial_in tasks n c) (s + (offset (serial_in tasks l) i (tasks t) + 1))) (sym e)
              (window_in (serial_order tasks levels) (serial_in tasks (suc l) t) (serial_in tasks l c) s (offset (serial_in tasks l) i (tasks t) + 1)
              p.window (rest_child (serial_in tasks l) t 0 i c (tasks t) sp));
        },
      )

  pub placed_by : (k t : ℕ) → IsLine tasks 0 k t → (l s : ℕ) × IsPlaced tasks levels t k l s
  placed_by zero t w =
      let m = some_level levels 0 0 (omega arith) refl in
      (m.0, 0, subst (λ x. IsPlaced tasks levels x 0 m.0 0) (sym w) (root_placed m.0 m.1))
  placed_by (suc k) t w =
      let p = placed_by k w.0 w.1 in
      let c = child_placed w.0 k p.0 p.1 w.2.0 t p.2 w.2.1 in
      (c.0, p.1 + (offset (serial_in tasks p.0) w.2.0 (tasks w.0) + 1), c.2)

  -- a strand of a placed task
  pub strand_placed : (t k l s i : ℕ) → IsPlaced tasks levels t k l s → i ≤ length (tasks t) → slice_get (serial_order tasks levels) (s + offset (serial_in tasks l) i (tasks t)) ≡ Some (strand t i)
  strand_placed t k l s i p le =
      p.window (offset (serial_in tasks l) i (tasks t)) (strand t i)
      (rest_at (serial_in tasks l) t 0 i (tasks t) le ∙ ap (λ x. Some (strand t x)) (let e : 0 + i ≡ i = omega arith in e))

  pub place_of : (u : GraphStrand) → IsRooted tasks u → (i : ℕ) × (slice_get (serial_order tasks levels) i ≡ Some u)
  place_of u r =
      let p = placed_by r.rooted.0 u.task r.rooted.1 in
      (p.1 + offset (serial_in tasks p.0) u.index (tasks u.task), strand_placed u.task r.rooted.0 p.0 p.1 u.index p.2 r.stands)

  -- places of two strands, the second no earlier than the first
  pub record AreInOrder (x y : GraphStrand) : Type 0 where
    pub first : ℕ
    pub second : ℕ
    pub first_at : slice_get (serial_order tasks levels) first ≡ Some x
    pub second_at : slice_get (serial_order tasks levels) second ≡ Some y
    pub upto : first ≤ second

  on_forward : (x y : GraphStrand) → IsRooted tasks x → ContinuesTo tasks x y → AreInOrder x y
  on_forward x y r (turn, h, e) =
      let t = x.task in
      let p = placed_by r.rooted.0 t r.rooted.1 in
      let i : ℕ = x.index in
      let lt : i < length (tasks t) = slice_get_within (tasks t) i turn h in
      let more : offset (serial_in tasks p.0) i (tasks t) ≤ offset (serial_in tasks p.0) (i + 1) (tasks t) = offset_upto (serial_in tasks p.0) 1 i (i + 1) (tasks t) refl (omega arith) in
      record {
        first = p.1 + offset (serial_in tasks p.0) i (tasks t);
        second = p.1 + offset (serial_in tasks p.0) (i + 1) (tasks t);
        first_at = strand_placed t r.rooted.0 p.0 p.1 i p.2 r.stands;
        second_at = strand_placed t r.rooted.0 p.0 p.1 (i + 1) p.2 (omega arith) ∙ ap Some (sym e);
        upto = omega arith;
      }

  spawn_forward : (x y : GraphStrand) → IsRooted tasks x → Spawns tasks x y → AreInOrder x y
  spawn_forward x y r (c, h, e) =
      let t = x.task in
      let p = placed_by r.rooted.0 t r.rooted.1 in
      let q = child_placed t r.rooted.0 p.0 p.1 x.index c p.2 h in
      let o : ℕ = offset (serial_in tasks p.0) x.index (tasks t) in
      record {
        first = p.1 + o;
        second = p.1 + (o + 1) + offset (serial_in tasks q.0) 0 (tasks c);
        first_at = strand_placed t r.rooted.0 p.0 p.1 x.index p.2 r.stands;
        second_at = strand_placed c (suc r.rooted.0) q.0 (p.1 + (o + 1)) 0 q.2 (omega arith) ∙ ap Some (sym e);
        upto = omega arith;
      }

  join_forward : (fj : IsForkJoin tasks) (x y : GraphStrand) (t j c : ℕ) → IsAncestor tasks 0 t → Does tasks t j (Join c) → x ≡ last_of tasks c → y ≡ strand t (j + 1) → AreInOrder x y
  join_forward fj x y t j c root h ex ey =
      let p = placed_by root.0 t root.1 in
      let l = p.0 in
      let s : ℕ = p.1 in
      let sp = fj.joins_own c t j h in
      let i : ℕ = sp.0 in
      let before : i < j = sp.1 in
      let within : j < length (tasks t) = slice_get_within (tasks t) j (Join c) h in
      let q = child_placed t root.0 l s i c p.2 sp.2 in
      let o : ℕ = offset (serial_in tasks l) i (tasks t) in
      let last : ℕ = offset (serial_in tasks q.0) (length (tasks c)) (tasks c) in
      let size : length (serial_in tasks (suc q.0) c) ≡ last + 1 = rest_length (serial_in tasks q.0) c 0 (tasks c) in
      let size' : length (serial_in tasks l c) ≡ length (serial_in tasks (suc q.0) c) = ap (λ n. length (serial_in tasks n c)) (sym q.1) in
      let next : offset (serial_in tasks l) (suc i) (tasks t) ≡ o + length (serial_in tasks l c) + 1 = offset_spawn (serial_in tasks l) i c (tasks t) sp.2 in
      let more : offset (serial_in tasks l) (suc i) (tasks t) ≤ offset (serial_in tasks l) (j + 1) (tasks t) =
      offset_upto (serial_in tasks l) (j - i) (suc i) (j + 1) (tasks t) (omega arith) (omega arith) in
      record {
        first = s + (o + 1) + last;
        second = s + offset (serial_in tasks l) (j + 1) (tasks t);
        first_at = strand_placed c (suc root.0) q.0 (s + (o + 1)) (length (tasks c)) q.2 (omega arith) ∙ ap Some (sym ex);
        second_at = strand_placed t root.0 l s (j + 1) p.2 (omega arith) ∙ ap Some (sym ey);
        upto = omega arith;
      }

  edge_forward : (fj : IsForkJoin tasks) (x y : GraphStrand) → IsRooted tasks x → IsGraphEdge tasks x y → AreInOrder x y
  edge_forward fj x y r (inl on) = on_forward x y r on
  edge_forward fj x y r (inr (inl spawn)) = spawn_forward x y r spawn
  edge_forward fj x y r (inr (inr (t, i, c, h, ex, ey))) =
      let r' = rooted_more tasks fj x y r (inr (inr (t, i, c, h, ex, ey))) in
      join_forward fj x y t i c (subst (λ (z : GraphStrand). IsAncestor tasks 0 z.task) ey r'.rooted) h ex ey

  pub one_place_of : (fj : IsForkJoin tasks) (i j : ℕ) (u : GraphStrand) → slice_get (serial_order tasks levels) i ≡ Some u → slice_get (serial_order tasks levels) j ≡ Some u → i ≡ j
  one_place_of fj i j u a b = one_place (serial_order tasks levels) (in_once tasks fj levels 0 (itself tasks 0)) i j u a b

  walk_forward : (fj : IsForkJoin tasks) (i : ℕ) (u : GraphStrand) → IsRooted tasks u → slice_get (serial_order tasks levels) i ≡ Some u → (v : GraphStrand) → StrandPrecedes tasks u v
      → IsRooted tasks v × ((j : ℕ) × (slice_get (serial_order tasks levels) j ≡ Some v) × (i ≤ j))
  walk_forward fj i u r at v w =
      reached_within (λ (x : GraphStrand). x ≡ u) (IsGraphEdge tasks)
      (λ (x : GraphStrand). IsRooted tasks x × ((j : ℕ) × (slice_get (serial_order tasks levels) j ≡ Some x) × (i ≤ j)))
      (λ a e. (subst (IsRooted tasks) (sym e) r, (i, at ∙ ap Some (sym e), omega arith)))
      (λ m a p e.
      let f = edge_forward fj m a p.0 e in
      let same : f.first ≡ p.1.0 = one_place_of fj f.first p.1.0 m f.first_at p.1.1 in
      let le : i ≤ p.1.0 = p.1.2 in
      let up : f.first ≤ f.second = f.upto in
      (rooted_more tasks fj m a p.0 e, (f.second, f.second_at, omega arith)))
      v w

pub serial_order_extends : SerialOrderExtends
serial_order_extends tasks levels n enough =
    let fj = n.fork_join in
    let listed : (i : ℕ) (u : GraphStrand) → slice_get (serial_order tasks levels) i ≡ Some u → IsRooted tasks u = λ i u h.
    let r = in_below tasks levels 0 u (got_in (serial_order tasks levels) i u h) in
    record { stands = r.1; rooted = r.0 } in
    record {
      attached = λ i u h. rooted_attached tasks u (listed i u h);
      all = λ u a. place_of tasks levels enough u (attached_rooted tasks fj u a);
      once = one_place_of tasks levels enough fj;
      extends = λ i j u v a b w.
          let f = walk_forward tasks levels enough fj i u (listed i u a) a v w in
          let same : f.1.0 ≡ j = one_place_of tasks levels enough fj f.1.0 j v f.1.1 b in
          let le : i ≤ f.1.0 = f.1.2 in
          omega arith;
    }

-- LEVELS

-- the tasks of a line, from the last one up
line_tasks : (tasks : TaskTurns) (k t : ℕ) → IsLine tasks 0 k t → List ℕ
line_tasks tasks zero t w = t ∷ []
line_tasks tasks (suc k) t w = t ∷ line_tasks tasks k w.0 w.1

module _ (tasks : TaskTurns) (fj : IsForkJoin tasks) (n : ℕ) (some : 0 < n) (low : (t i c : ℕ) → Does tasks t i (Spawn c) → c < n) where
  line_length : (k t : ℕ) (w : IsLine tasks 0 k t) → length (line_tasks tasks k t w) ≡ suc k
  unfolding line_tasks
  line_length zero t w = refl
  line_length (suc k) t w = ap suc (line_length k w.0 w.1)

  line_above : (k t : ℕ) (w : IsLine tasks 0 k t) (x : ℕ) → In (line_tasks tasks k t w) x → IsAncestor tasks x t × (x < n)
  unfolding line_tasks
  line_above zero t w x (inl e) = (same_ancestor tasks x t e, let z : t ≡ 0 = w in omega arith)
  line_above zero t w x (inr none) = absurd none
  line_above (suc k) t w x (inl e) = (same_ancestor tasks x t e, subst (λ y. y < n) e (low w.0 w.2.0 t w.2.1))
  line_above (suc k) t w x (inr i) = let r = line_above k w.0 w.1 x i in (below tasks x w.0 t r.0 w.2, r.1)

  line_once : (k t : ℕ) (w : IsLine tasks 0 k t) → IsDistinct eqb (line_tasks tasks k t w)
  unfolding line_tasks IsDistinct
  line_once zero t w = IsDistinct-cons eqb t [] tt tt
  line_once (suc k) t w =
      IsDistinct-cons eqb t (line_tasks tasks k w.0 w.1)
      (each_from (λ y. eqb t y ≡ false) (line_tasks tasks k w.0 w.1) (λ x i. ne_eqb t x (λ same.
      no_self tasks fj w.0 t (k, w.1) w.2 (subst (λ y. IsAncestor tasks y w.0) (sym same) (line_above k w.0 w.1 x i).0))))
      (line_once k w.0 w.1)

  few_levels : AreLevels tasks n
  few_levels t w =
      let xs = line_tasks tasks n t w in
      let size : length xs ≡ suc n = line_length n t w in
      let le : length xs ≤ n = length-le_from_distinct_below xs n (line_once n t w) (λ q any.
      let r = in_from_any (eqb q) xs any in
      subst (λ y. y < n) (sym (eqb-true q r.0 r.2)) (line_above n t w r.0 r.1).1) in
      omega arith

pub levels_are_few : LevelsAreFew
levels_are_few tasks n fj some low = few_levels tasks fj n some low
