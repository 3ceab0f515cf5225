-- The order of a run's strands: what it says of precedence, and how strands meet.
use Rattle.run_order.proofs.Common.{◌≡◌, ◌↔◌, ℕ, zero, suc, ◌+◌, ◌-◌, ◌<◌, ◌≤◌, Bool, true, false, Option, Some, None, length, nat_le, ◌⊎◌, inl, inr, refl, ap, sym, subst, ◌∙◌, arith, cases_lt, false≢true, leb-true, le-leb, same_Some, GraphStrand, tasks_in, strand, StrandPrecedes, IsLowestCommon, AreBlocks, TellsPrecedence, IsLine, rooted_above, precedes_itself, both, are_blocks, tells_precedence, strand_at, task_at, WalkValue, IsWalked, IsExitAt, MeetsAsInTree, way_up, exit_of, is_upto, is_no_later, order_depth, IsOrderOf, WalksHaveAnOrder, ExtendsPrecedence}
use Rattle.run_order.specs.Order.{run_order}
use Rattle.run_order.proofs.Exits.{at_place, strand_is_at, line_once, no_deeper, same_lowest, exit_once, same_exit, exit_tells, meets_higher, exits_stay}
use Rattle.run_order.proofs.Ways.{levels, serial, rooted, line_at, way_up_length, exit_is, exit_within}

module _ (walk : WalkValue) (w : IsWalked walk) where
  blocks : AreBlocks (tasks_in walk.tasks) walk.order
  blocks = subst (AreBlocks (tasks_in walk.tasks)) (sym w.order) (are_blocks (tasks_in walk.tasks) (length walk.tasks) w.nested (levels walk w))

  tells : TellsPrecedence (tasks_in walk.tasks) walk.order
  tells = subst (TellsPrecedence (tasks_in walk.tasks)) (sym w.order) (tells_precedence (tasks_in walk.tasks) (length walk.tasks) w.nested (levels walk w))

  abbrev Comes : ℕ → ℕ → ℕ → Type 0
  Comes i j e = IsExitAt (tasks_in walk.tasks) walk.order i j e

  abbrev Before : ℕ → ℕ → Type 0
  Before i j = StrandPrecedes (tasks_in walk.tasks) (strand_at walk.order i) (strand_at walk.order j)

  comes_tells : (i j e : ℕ) → i < length walk.order → j < length walk.order → Comes i j e → (Before i j ↔ (e ≤ j))
  comes_tells i j e lt lt' x = exit_tells (tasks_in walk.tasks) walk.order w.nested (serial walk w) tells i j e lt lt' x

  -- PRECEDENCE

  upto_some : (o : Option ℕ) (j : ℕ) → is_upto o j ≡ true → (e : ℕ) × (o ≡ Some e) × (e ≤ j)
  upto_some None j h = absurd (false≢true h)
  upto_some (Some e) j h = (e, refl, leb-true e j h)

  before_is : (i j : ℕ) → is_upto (exit_of walk i j) j ≡ true → (i < length walk.order) × (j < length walk.order) × Before i j
  before_is i j h =
      let s = upto_some (exit_of walk i j) j h in
      let within = exit_within walk w i j s.0 s.1 in
      let x = exit_is walk w i j within.0 within.1 in
      let same : s.0 ≡ x.0 = same_Some s.0 x.0 (sym s.1 ∙ x.1.0) in
      let le : s.0 ≤ j = s.2 in
      (within.0, within.1, (comes_tells i j x.0 within.0 within.1 x.1.2).1 (omega arith))

  is_before : (i j : ℕ) → i < length walk.order → j < length walk.order → Before i j → is_upto (exit_of walk i j) j ≡ true
  is_before i j lt lt' p =
      let x = exit_is walk w i j lt lt' in
      ap (λ o. is_upto o j) x.1.0 ∙ le-leb x.0 j ((comes_tells i j x.0 lt lt' x.1.2).0 p)

  -- MEETINGS

  -- the place where a way comes in, with its task and how deep that is
  record Met (i j : ℕ) : Type 0 where
    pub place : ℕ
    pub is : exit_of walk i j ≡ Some place
    pub comes : Comes i j place
    pub line : IsLine (tasks_in walk.tasks) 0 (order_depth walk (exit_of walk i j)) comes.task

  met : (i j : ℕ) → i < length walk.order → j < length walk.order → Met i j
  met i j lt lt' =
      let x = exit_is walk w i j lt lt' in
      let line = line_at walk w x.0 x.1.1 in
      let size : length (way_up walk x.0) ≡ suc line.0 = way_up_length walk w line.0 x.0 x.1.1 line.1 in
      let depth : order_depth walk (exit_of walk i j) ≡ line.0 = ap (order_depth walk) x.1.0 ∙ (let s : length (way_up walk x.0) - 1 ≡ line.0 = omega arith in s) in
      let task : task_at walk.order x.0 ≡ x.1.2.task =
      ap (λ (u : GraphStrand). u.task) (strand_is_at (tasks_in walk.tasks) walk.order w.nested (serial walk w) x.0 (strand x.1.2.task x.1.2.index) x.1.2.at) in
      record {
        place = x.0;
        is = x.1.0;
        comes = x.1.2;
        line = subst (λ t. IsLine (tasks_in walk.tasks) 0 (order_depth walk (exit_of walk i j)) t) task (subst (λ d. IsLine (tasks_in walk.tasks) 0 d (task_at walk.order x.0)) (sym depth) line.1);
      }

  pub depth_is : (i j q : ℕ) → i < length walk.order → j < length walk.order → IsLowestCommon (tasks_in walk.tasks) q (task_at walk.order i) (task_at walk.order j)
      → IsLine (tasks_in walk.tasks) 0 (order_depth walk (exit_of walk i j)) q
  depth_is i j q lt lt' low =
      let x = met i j lt lt' in
      let same = same_lowest (tasks_in walk.tasks) walk.order w.nested (serial walk w) x.comes.task q (task_at walk.order i) (task_at walk.order j) (rooted walk w i lt).rooted x.comes.lowest low in
      subst (λ t. IsLine (tasks_in walk.tasks) 0 (order_depth walk (exit_of walk i j)) t) same x.line

  no_later_true : (o p : Option ℕ) (e f : ℕ) → o ≡ Some e → p ≡ Some f → is_no_later o p ≡ true → e ≤ f
  no_later_true o p e f eo ep h = leb-true e f (sym (ap (λ q. is_no_later q p) eo ∙ ap (is_no_later (Some e)) ep) ∙ h)

  no_later_false : (o p : Option ℕ) (e f : ℕ) → o ≡ Some e → p ≡ Some f → is_no_later o p ≡ false → f ≤ e
  no_later_false o p e f eo ep h =
      elim (cases_lt f e) [
        | inl less ↦ omega arith
        | inr ge ↦ absurd (false≢true (sym h ∙ (ap (λ q. is_no_later q p) eo ∙ (ap (is_no_later (Some e)) ep ∙ le-leb e f ge))))
      ]

  -- what comes later than v is after both where they leave their meeting, or they leave a task higher up at one place
  stays : (a b v z : ℕ) → a ≤ b → b ≤ v → v ≤ z → z < length walk.order → (x : Met a b) → (y : Met b a) → order_depth walk (exit_of walk b v) ≤ order_depth walk (exit_of walk a b)
      → ((Before a z ↔ (x.place ≤ z)) × (Before b z ↔ (y.place ≤ z))) ⊎ (Before a z ↔ Before b z)
  stays a b v z ab bv vz lt x y le =
      let at : a < length walk.order = omega arith in
      let bt : b < length walk.order = omega arith in
      let vt : v < length walk.order = omega arith in
      let m = met b v bt vt in
      let up =
      no_deeper (tasks_in walk.tasks) walk.order w.nested (serial walk w) m.comes.task x.comes.task (task_at walk.order b) (order_depth walk (exit_of walk b v)) (order_depth walk (exit_of walk a b))
      m.comes.lowest.above_first x.comes.lowest.above_second m.line x.line le in
      elim (exits_stay (tasks_in walk.tasks) walk.order w.nested (serial walk w) blocks a b v z x.place y.place m.place ab bv vz lt x.comes y.comes m.comes up) [
        | inl p ↦ inl (comes_tells a z x.place at lt p.0, comes_tells b z y.place bt lt p.1)
        | inr apart ↦
            let s = met b z bt lt in
            let t = same_exit (tasks_in walk.tasks) walk.order w.nested (serial walk w) a b z s.place x.comes.task at x.comes.lowest.above_first x.comes.lowest.above_second apart s.comes in
            let tell = comes_tells a z s.place at lt t in
            let tell' = comes_tells b z s.place bt lt s.comes in
            inr (λ p. tell'.1 (tell.0 p), λ p. tell.1 (tell'.0 p))
      ]

  first : (a b v z : ℕ) → a ≤ b → b ≤ v → v ≤ z → z < length walk.order → order_depth walk (exit_of walk b v) ≤ order_depth walk (exit_of walk a b)
      → is_no_later (exit_of walk a b) (exit_of walk b a) ≡ true → is_upto (exit_of walk b z) z ≡ true → is_upto (exit_of walk a z) z ≡ true
  first a b v z ab bv vz lt le leaves before =
      let at : a < length walk.order = omega arith in
      let bt : b < length walk.order = omega arith in
      let x = met a b at bt in
      let y = met b a bt at in
      let upto : x.place ≤ y.place = no_later_true (exit_of walk a b) (exit_of walk b a) x.place y.place x.is y.is leaves in
      let p = (before_is b z before).2 in
      is_before a z at lt (elim (stays a b v z ab bv vz lt x y le) [
        | inl tell ↦ let there : y.place ≤ z = tell.1.0 p in tell.0.1 (omega arith)
        | inr same ↦ same.1 p
      ])

  second : (a b v z : ℕ) → a ≤ b → b ≤ v → v ≤ z → z < length walk.order → order_depth walk (exit_of walk b v) ≤ order_depth walk (exit_of walk a b)
      → is_no_later (exit_of walk a b) (exit_of walk b a) ≡ false → is_upto (exit_of walk a z) z ≡ true → is_upto (exit_of walk b z) z ≡ true
  second a b v z ab bv vz lt le leaves before =
      let at : a < length walk.order = omega arith in
      let bt : b < length walk.order = omega arith in
      let x = met a b at bt in
      let y = met b a bt at in
      let upto : y.place ≤ x.place = no_later_false (exit_of walk a b) (exit_of walk b a) x.place y.place x.is y.is leaves in
      let p = (before_is a z before).2 in
      is_before b z bt lt (elim (stays a b v z ab bv vz lt x y le) [
        | inl tell ↦ let there : x.place ≤ z = tell.0.0 p in tell.1.1 (omega arith)
        | inr same ↦ same.0 p
      ])

  higher : (a b c : ℕ) → a ≤ b → b ≤ c → c < length walk.order → order_depth walk (exit_of walk a b) < order_depth walk (exit_of walk b c)
      → order_depth walk (exit_of walk a c) ≡ order_depth walk (exit_of walk a b)
  higher a b c ab bc lt less =
      let at : a < length walk.order = omega arith in
      let bt : b < length walk.order = omega arith in
      let x = met a b at bt in
      let m = met b c bt lt in
      let up =
      no_deeper (tasks_in walk.tasks) walk.order w.nested (serial walk w) x.comes.task m.comes.task (task_at walk.order b) (order_depth walk (exit_of walk a b)) (order_depth walk (exit_of walk b c))
      x.comes.lowest.above_second m.comes.lowest.above_first x.line m.line (omega arith) in
      let low = meets_higher (tasks_in walk.tasks) walk.order w.nested (serial walk w) blocks a b c x.comes.task m.comes.task ab bc lt x.comes.lowest m.comes.lowest up in
      line_once (tasks_in walk.tasks) walk.order w.nested (serial walk w) (order_depth walk (exit_of walk a c)) (order_depth walk (exit_of walk a b)) x.comes.task (depth_is a c x.comes.task at lt low) x.line

  is_order : IsOrderOf walk (run_order walk)
  unfolding run_order
  is_order = record {
    strands = refl;
    before = λ u v lt lt'. (λ h. (before_is u v h).2, λ p. is_before u v lt lt' p);
    meeting = λ u v q lt lt' low. depth_is u v q lt lt' low;
  }

  is_serial : ExtendsPrecedence (run_order walk)
  unfolding run_order
  is_serial = record {
    same = λ u lt. is_before u u lt lt (precedes_itself (tasks_in walk.tasks) (strand_at walk.order u));
    through = λ a b c lt h h'.
        let p = before_is a b h in
        let q = before_is b c h' in
        is_before a c p.0 q.1 (both (tasks_in walk.tasks) (strand_at walk.order a) (strand_at walk.order b) (strand_at walk.order c) p.2 q.2);
    serial = λ a b lt h.
        let p = before_is a b h in
        (serial walk w).extends a b (strand_at walk.order a) (strand_at walk.order b)
        (at_place (tasks_in walk.tasks) walk.order w.nested (serial walk w) a p.0) (at_place (tasks_in walk.tasks) walk.order w.nested (serial walk w) b p.1) p.2;
  }

  meets_as_in_tree : MeetsAsInTree (run_order walk)
  unfolding run_order
  meets_as_in_tree = record { first = first; second = second; higher = higher }

pub walks_have_an_order : WalksHaveAnOrder
walks_have_an_order walk w = (is_order walk w, is_serial walk w, meets_as_in_tree walk w)

-- WHAT IS FOUND BY CLIMBING

-- the place that a climb finds is the one that is computed
pub found_exit : (walk : WalkValue) → IsWalked walk → (i j e : ℕ) → i < length walk.order → j < length walk.order → IsExitAt (tasks_in walk.tasks) walk.order i j e → Some e ≡ exit_of walk i j
found_exit walk w i j e lt lt' x =
    let y = exit_is walk w i j lt lt' in
    ap Some (exit_once (tasks_in walk.tasks) walk.order w.nested (serial walk w) i j e y.0 lt x y.1.2) ∙ sym y.1.0

-- the depth too
pub found_depth : (walk : WalkValue) → IsWalked walk → (e d : ℕ) → e < length walk.order → IsLine (tasks_in walk.tasks) 0 d (task_at walk.order e) → d ≡ order_depth walk (Some e)
found_depth walk w e d lt line =
    let size : length (way_up walk e) ≡ suc d = way_up_length walk w d e lt line in
    omega arith
