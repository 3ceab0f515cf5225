-- Where the ways of strands come into a common ancestor, by places in a serial order.
use Rattle.run_order.proofs.Common.{◌≡◌, ◌↔◌, ℕ, zero, suc, ◌+◌, ◌<◌, ◌≤◌, List, length, slice_get, Some, ◌⊎◌, inl, inr, refl, ap, sym, subst, ◌∙◌, arith, slice_get_within, slice_get-get_or, get_or_from_slice_get, Join, GraphStrand, TaskTurns, strand, first_of, last_of, Does, StrandPrecedes, IsParent, IsAncestor, IsNested, IsLowestCommon, IsExit, IsSerialOrder, AreBlocks, TellsPrecedence, IsLine, same_ancestor, through, up_cases, down_cases, one_parent, no_root_parent, joins_child, no_self, one_line, rooted_above, same_child, decide, IsRooted, strand_is, attached_rooted, rooted_attached, strand_at, task_at, IsExitAt}

module _ (tasks : TaskTurns) (order : List GraphStrand) (n : IsNested tasks) (serial : IsSerialOrder tasks order) where
  -- POSITIONS

  pub at_place : (i : ℕ) → i < length order → slice_get order i ≡ Some (strand_at order i)
  at_place i lt = slice_get-get_or order i (strand 0 0) lt

  pub strand_is_at : (i : ℕ) (u : GraphStrand) → slice_get order i ≡ Some u → strand_at order i ≡ u
  strand_is_at i u h = get_or_from_slice_get order i u (strand 0 0) h

  pub rooted_at : (i : ℕ) → i < length order → IsRooted tasks (strand_at order i)
  rooted_at i lt = attached_rooted tasks n.fork_join (strand_at order i) (serial.attached i (strand_at order i) (at_place i lt))

  pub place_there : (u : GraphStrand) → IsRooted tasks u → (i : ℕ) × (slice_get order i ≡ Some u)
  place_there u r = serial.all u (rooted_attached tasks u r)

  pub next_there : (q j c : ℕ) → IsAncestor tasks 0 q → Does tasks q j (Join c) → (e : ℕ) × (slice_get order e ≡ Some (strand q (j + 1)))
  next_there q j c root h =
      let lt : j < length (tasks q) = slice_get_within (tasks q) j (Join c) h in
      place_there (strand q (j + 1)) (record { stands = omega arith; rooted = root })

  -- LINES OF TASKS

  pub line_once : (k m t : ℕ) → IsLine tasks 0 k t → IsLine tasks 0 m t → k ≡ m
  line_once zero zero t a b = refl
  line_once zero (suc m) t a b = no_root_parent tasks n.fork_join b.0 (subst (IsParent tasks b.0) a b.2)
  line_once (suc k) zero t a b = no_root_parent tasks n.fork_join a.0 (subst (IsParent tasks a.0) b a.2)
  line_once (suc k) (suc m) t a b =
      ap suc (line_once k m a.0 a.1 (subst (λ p. IsLine tasks 0 m p) (one_parent tasks n.fork_join b.0 a.0 t b.2 a.2) b.1))

  line_join : (a b k m t : ℕ) → IsLine tasks a k b → IsLine tasks b m t → IsLine tasks a (k + m) t
  line_join a b k zero t up e =
      subst (λ (d : ℕ). IsLine tasks a d t) (let s : k ≡ k + 0 = omega arith in s) (subst (λ x. IsLine tasks a k x) (sym e) up)
  line_join a b k (suc m) t up w =
      subst (λ (d : ℕ). IsLine tasks a d t) (let s : suc (k + m) ≡ k + suc m = omega arith in s) (w.0, line_join a b k m w.0 up w.1, w.2)

  -- of two ancestors of a task that which lies no deeper is above the other
  pub no_deeper : (p q t d e : ℕ) → IsAncestor tasks p t → IsAncestor tasks q t → IsLine tasks 0 d p → IsLine tasks 0 e q → d ≤ e → IsAncestor tasks p q
  no_deeper p q t d e up up' line line' le =
      elim (one_line tasks n.fork_join p q t up up') [
        | inl over ↦ over
        | inr under ↦ lower under.0 under.1
      ]
    where
      lower : (m : ℕ) → IsLine tasks q m p → IsAncestor tasks p q
      lower zero same = same_ancestor tasks p q (sym same)
      lower (suc m) more = let sum : d ≡ e + suc m = line_once d (e + suc m) p line (line_join 0 q e (suc m) p line' more) in absurd (omega arith)

  pub same_task : (p q : ℕ) → IsAncestor tasks 0 p → IsAncestor tasks p q → IsAncestor tasks q p → p ≡ q
  same_task p q root up down =
      elim (down_cases tasks p q up) [
        | inl same ↦ sym same
        | inr (c, e, more) ↦ no_self tasks n.fork_join p c root e (through tasks c q p more down)
      ]

  pub same_lowest : (p q a b : ℕ) → IsAncestor tasks 0 a → IsLowestCommon tasks p a b → IsLowestCommon tasks q a b → p ≡ q
  same_lowest p q a b root x y =
      same_task p q (rooted_above tasks n.fork_join p a root x.above_first)
      (y.lowest p x.above_first x.above_second) (x.lowest q y.above_first y.above_second)

  -- THE PLACE WHERE A WAY COMES IN

  exit_index_once : (u : GraphStrand) (q i j : ℕ) → IsAncestor tasks 0 u.task → IsExit tasks q u i → IsExit tasks q u j → i ≡ j
  exit_index_once u q i j root (inl (et, ei)) (inl (et', ej)) = sym ei ∙ ej
  exit_index_once u q i j root (inl (et, ei)) (inr (c, k, up, jn, e)) =
      no_self tasks n.fork_join q c (subst (IsAncestor tasks 0) et root) (joins_child tasks n.fork_join q k c jn) (subst (IsAncestor tasks c) et up)
  exit_index_once u q i j root (inr (c, k, up, jn, e)) (inl (et, ej)) =
      no_self tasks n.fork_join q c (subst (IsAncestor tasks 0) et root) (joins_child tasks n.fork_join q k c jn) (subst (IsAncestor tasks c) et up)
  exit_index_once u q i j root (inr (c, k, up, jn, e)) (inr (c', k', up', jn', e')) =
      let same = same_child tasks n.fork_join q c c' u.task root (joins_child tasks n.fork_join q k c jn) (joins_child tasks n.fork_join q k' c' jn') up up' in
      let one : k ≡ k' = n.fork_join.joined_once c' q k k' (subst (λ x. Does tasks q k (Join x)) same jn) jn' in
      omega arith

  pub exit_once : (i j e f : ℕ) → i < length order → IsExitAt tasks order i j e → IsExitAt tasks order i j f → e ≡ f
  exit_once i j e f lt x y =
      let root = (rooted_at i lt).rooted in
      let task = same_lowest x.task y.task (task_at order i) (task_at order j) root x.lowest y.lowest in
      let index = exit_index_once (strand_at order i) y.task x.index y.index root (subst (λ q. IsExit tasks q (strand_at order i) x.index) task x.exit) y.exit in
      serial.once e f (strand y.task y.index) (x.at ∙ ap Some (ap (λ q. strand q x.index) task ∙ ap (strand y.task) index)) y.at

  -- a task is above both, and none of its children is
  pub exit_apart : (i j e q k : ℕ) → IsAncestor tasks q (task_at order i) → IsAncestor tasks q (task_at order j)
      → IsExit tasks q (strand_at order i) k → slice_get order e ≡ Some (strand q k)
      → ((c : ℕ) → IsParent tasks q c → IsAncestor tasks c (task_at order i) → IsAncestor tasks c (task_at order j) → ⊥) → IsExitAt tasks order i j e
  exit_apart i j e q k up over exit at apart = record {
    task = q;
    index = k;
    lowest = record {
      above_first = up;
      above_second = over;
      lowest = λ p here there.
          elim (one_line tasks n.fork_join p q (task_at order i) here up) [
            | inl higher ↦ higher
            | inr lower ↦ elim (down_cases tasks q p lower) [
              | inl same ↦ same_ancestor tasks p q (sym same)
              | inr (c, par, more) ↦ absurd (apart c par (through tasks c p (task_at order i) more here) (through tasks c p (task_at order j) more there))
            ]
          ];
    };
    exit = exit;
    at = at;
  }

  -- where two strands are both below a task that isn't above a third one's, their ways come in where that one's task lies at the same place
  pub same_exit : (a b w e q : ℕ) → a < length order → IsAncestor tasks q (task_at order a) → IsAncestor tasks q (task_at order b) → (IsAncestor tasks q (task_at order w) → ⊥)
      → IsExitAt tasks order b w e → IsExitAt tasks order a w e
  same_exit a b w e q lt qa qb apart s = same_exit_by_cases s.exit
    where
      rooted : IsAncestor tasks 0 (task_at order a)
      rooted = (rooted_at a lt).rooted

      not_over : IsAncestor tasks q s.task → ⊥
      not_over over = apart (through tasks q s.task (task_at order w) over s.lowest.above_second)

      over_q : IsAncestor tasks s.task q
      over_q = elim (one_line tasks n.fork_join s.task q (task_at order b) s.lowest.above_first qb) [ inl good ↦ good | inr bad ↦ absurd (not_over bad) ]

      child_over : (c m : ℕ) → IsAncestor tasks c (task_at order b) → Does tasks s.task m (Join c) → IsAncestor tasks c q
      child_over c m up jn =
          elim (one_line tasks n.fork_join c q (task_at order b) up qb) [
            | inl good ↦ good
            | inr under ↦ elim (up_cases tasks q c under) [
              | inl same ↦ same_ancestor tasks c q (sym same)
              | inr (p, more, par) ↦
                  absurd (not_over (subst (IsAncestor tasks q) (one_parent tasks n.fork_join p s.task c par (joins_child tasks n.fork_join s.task m c jn)) more))
            ]
          ]

      same_exit_by_cases : IsExit tasks s.task (strand_at order b) s.index → IsExitAt tasks order a w e
      same_exit_by_cases (inl (et, ei)) = absurd (not_over (subst (IsAncestor tasks q) et qb))
      same_exit_by_cases (inr (c, m, up, jn, ek)) =
          let par = joins_child tasks n.fork_join s.task m c jn in
          let ca = through tasks c q (task_at order a) (child_over c m up jn) qa in
          exit_apart a w e s.task s.index (through tasks s.task q (task_at order a) over_q qa) s.lowest.above_second (inr (c, m, ca, jn, ek)) s.at
          (λ c' par' up' over'.
          let same = same_child tasks n.fork_join s.task c' c (task_at order a) rooted par' par up' ca in
          no_self tasks n.fork_join s.task c (rooted_above tasks n.fork_join s.task (task_at order a) rooted (through tasks s.task q (task_at order a) over_q qa)) par
          (s.lowest.lowest c up (subst (λ x. IsAncestor tasks x (task_at order w)) same over')))

  -- PRECEDENCE

  module _ (tells : TellsPrecedence tasks order) where
    tells_by : (i j e q k : ℕ) → i < length order → j < length order → IsLowestCommon tasks q (task_at order i) (task_at order j)
        → IsExit tasks q (strand_at order i) k → slice_get order e ≡ Some (strand q k) → (StrandPrecedes tasks (strand_at order i) (strand_at order j) ↔ (e ≤ j))
    tells_by i j e q k lt lt' low (inl (et, ei)) at =
        subst (λ (u : GraphStrand). StrandPrecedes tasks u (strand_at order j) ↔ (e ≤ j)) (sym (strand_is (strand_at order i) q k et ei))
        (tells.own q k e j (strand_at order j) low.above_second at (at_place j lt'))
    tells_by i j e q k lt lt' low (inr (c, m, up, jn, ek)) at =
        let par = joins_child tasks n.fork_join q m c jn in
        let root = rooted_above tasks n.fork_join q (task_at order i) (rooted_at i lt).rooted low.above_first in
        tells.left q m c e j (strand_at order i) (strand_at order j) up jn low.above_second
        (λ over. no_self tasks n.fork_join q c root par (low.lowest c up over)) i (at_place i lt)
        (subst (λ x. slice_get order e ≡ Some (strand q x)) ek at) (at_place j lt')

    -- a strand precedes another one exactly where its way comes in no later than the other one stands
    pub exit_tells : (i j e : ℕ) → i < length order → j < length order → IsExitAt tasks order i j e → (StrandPrecedes tasks (strand_at order i) (strand_at order j) ↔ (e ≤ j))
    exit_tells i j e lt lt' x = tells_by i j e x.task x.index lt lt' x.lowest x.exit x.at

  -- BLOCKS

  module _ (blocks : AreBlocks tasks order) where
    -- what is above two strands is above all between them
    pub between : (p a b c : ℕ) → a ≤ b → b ≤ c → c < length order → IsAncestor tasks p (task_at order a) → IsAncestor tasks p (task_at order c) → IsAncestor tasks p (task_at order b)
    between p a b c le le' lt up up' =
        let root = rooted_above tasks n.fork_join p (task_at order c) (rooted_at c lt).rooted up' in
        let first = place_there (first_of p) (record { stands = omega arith; rooted = root }) in
        let last = place_there (last_of tasks p) (record { stands = omega arith; rooted = root }) in
        let low = (blocks.block p first.0 last.0 a (strand_at order a) first.1 last.1 (at_place a (omega arith))).0 up in
        let high = (blocks.block p first.0 last.0 c (strand_at order c) first.1 last.1 (at_place c lt)).0 up' in
        let l : first.0 ≤ a = low.0 in
        let h : c ≤ last.0 = high.1 in
        (blocks.block p first.0 last.0 b (strand_at order b) first.1 last.1 (at_place b (omega arith))).1 (omega arith, omega arith)

    -- a meets c where it meets b, if b and c meet below that
    pub meets_higher : (a b c q r : ℕ) → a ≤ b → b ≤ c → c < length order → IsLowestCommon tasks q (task_at order a) (task_at order b)
        → IsLowestCommon tasks r (task_at order b) (task_at order c) → IsAncestor tasks q r → IsLowestCommon tasks q (task_at order a) (task_at order c)
    meets_higher a b c q r le le' lt x y up = record {
      above_first = x.above_first;
      above_second = through tasks q r (task_at order c) up y.above_second;
      lowest = λ p pa pc. x.lowest p pa (between p a b c le le' lt pa pc);
    }

    -- where two meet, and the second meets a third one no lower, what comes later than that meets both there or neither
    pub exits_stay : (a b v w e f g : ℕ) → a ≤ b → b ≤ v → v ≤ w → w < length order → (x : IsExitAt tasks order a b e) → (y : IsExitAt tasks order b a f) → (z : IsExitAt tasks order b v g)
        → IsAncestor tasks z.task x.task
        → (IsExitAt tasks order a w e × IsExitAt tasks order b w f) ⊎ ((IsAncestor tasks x.task (task_at order w) → ⊥))
    exits_stay a b v w e f g ab bv vw lt x y z up =
        elim (decide tasks n.fork_join (task_at order w) x.task (rooted_at w lt).rooted) [
          | inr apart ↦ inr apart
          | inl over ↦ inl (
            exit_apart a w e x.task x.index x.lowest.above_first over x.exit x.at
                (λ c par ca cw. no_self tasks n.fork_join x.task c root par (x.lowest.lowest c ca (between c a b w ab (omega arith) lt ca cw))),
            exit_apart b w f x.task y.index x.lowest.above_second over (subst (λ q. IsExit tasks q (strand_at order b) y.index) exits_stay_same y.exit)
                (subst (λ q. slice_get order f ≡ Some (strand q y.index)) exits_stay_same y.at)
                (λ c par cb cw. no_self tasks n.fork_join x.task c root par
                (through tasks c z.task x.task (z.lowest.lowest c cb (between c b v w bv vw lt cb cw)) up)),
          )
        ]
      where
        rooted_a : IsAncestor tasks 0 (task_at order a)
        rooted_a = (rooted_at a (let less : a < length order = omega arith in less)).rooted

        root : IsAncestor tasks 0 x.task
        root = rooted_above tasks n.fork_join x.task (task_at order a) rooted_a x.lowest.above_first

        exits_stay_same : y.task ≡ x.task
        exits_stay_same =
            same_lowest y.task x.task (task_at order a) (task_at order b) rooted_a
            (record { above_first = y.lowest.above_second; above_second = y.lowest.above_first; lowest = λ p pa pb. y.lowest.lowest p pb pa }) x.lowest
