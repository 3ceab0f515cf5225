-- The tree that spawns make of tasks.
use Rattle.ancestor_laws.proofs.Common.{◌≡◌, ℕ, zero, suc, ◌⊎◌, inl, inr, refl, sym, subst, cases_eq, IsWalk, Join, TaskTurns, Does, IsParent, IsAncestor, IsForkJoin}

-- so many spawns lead from a to t
abbrev pub IsLine : TaskTurns → ℕ → ℕ → ℕ → Type 0
IsLine tasks a k t = IsWalk (λ x. x ≡ a) (IsParent tasks) k t

module _ (tasks : TaskTurns) where
  pub itself : (a : ℕ) → IsAncestor tasks a a
  itself a = (zero, refl)

  pub same_ancestor : (a t : ℕ) → t ≡ a → IsAncestor tasks a t
  same_ancestor a t e = (zero, e)

  pub below : (a p c : ℕ) → IsAncestor tasks a p → IsParent tasks p c → IsAncestor tasks a c
  below a p c w e = (suc w.0, (p, w.1, e))

  through_by : (a b k t : ℕ) → IsAncestor tasks a b → IsLine tasks b k t → IsAncestor tasks a t
  through_by a b zero t first e = subst (IsAncestor tasks a) (sym e) first
  through_by a b (suc k) t first w = below a w.0 t (through_by a b k w.0 first w.1) w.2

  pub through : (a b t : ℕ) → IsAncestor tasks a b → IsAncestor tasks b t → IsAncestor tasks a t
  through a b t first w = through_by a b w.0 t first w.1

  pub child_line : (p c k x : ℕ) → IsParent tasks p c → IsLine tasks c k x → IsLine tasks p (suc k) x
  child_line p c zero x e w = (p, refl, subst (IsParent tasks p) (sym w) e)
  child_line p c (suc k) x e w = (w.0, child_line p c k w.0 e w.1, w.2)

  pub child_above : (p c x : ℕ) → IsParent tasks p c → IsAncestor tasks c x → IsAncestor tasks p x
  child_above p c x e w = (suc w.0, child_line p c w.0 x e w.1)

  -- the task itself, or an ancestor of its parent
  pub up_cases : (a c : ℕ) → IsAncestor tasks a c → (c ≡ a) ⊎ ((p : ℕ) × IsAncestor tasks a p × IsParent tasks p c)
  up_cases a c (zero, e) = inl e
  up_cases a c (suc k, w) = inr (w.0, (k, w.1), w.2)

  first_by : (a k t : ℕ) → IsLine tasks a k t → (t ≡ a) ⊎ ((c : ℕ) × IsParent tasks a c × IsAncestor tasks c t)
  first_by a zero t e = inl e
  first_by a (suc k) t w =
      elim (first_by a k w.0 w.1) [
        | inl e ↦ inr (t, subst (λ x. IsParent tasks x t) e w.2, itself t)
        | inr (c, e, more) ↦ inr (c, e, below c w.0 t more w.2)
      ]

  -- the task itself, or a child of the ancestor leads to it
  pub down_cases : (a t : ℕ) → IsAncestor tasks a t → (t ≡ a) ⊎ ((c : ℕ) × IsParent tasks a c × IsAncestor tasks c t)
  down_cases a t w = first_by a w.0 t w.1

module _ (tasks : TaskTurns) (fj : IsForkJoin tasks) where
  pub one_parent : (p p' c : ℕ) → IsParent tasks p c → IsParent tasks p' c → p ≡ p'
  one_parent p p' c e e' = (fj.spawned_once c p e.0 p' e'.0 e.1 e'.1).0

  pub no_root_parent : {A : Type 0} (p : ℕ) → IsParent tasks p 0 → A
  no_root_parent p e = absurd (fj.root p e.0 e.1)

  pub joins_child : (q j c : ℕ) → Does tasks q j (Join c) → IsParent tasks q c
  joins_child q j c h = let s = fj.joins_own c q j h in (s.0, s.2)

  pub parent_line : (a p c : ℕ) → (c ≡ a → ⊥) → IsParent tasks p c → IsAncestor tasks a c → IsAncestor tasks a p
  parent_line a p c apart e w =
      elim (up_cases tasks a c w) [
        | inl same ↦ absurd (apart same)
        | inr (p', more, e') ↦ subst (IsAncestor tasks a) (one_parent p' p c e' e) more
      ]

  -- no task below the root is below itself
  pub no_round : {A : Type 0} (k t m : ℕ) → IsLine tasks 0 k t → IsLine tasks t (suc m) t → A
  no_round zero t m w round = no_root_parent round.0 (subst (IsParent tasks round.0) w round.2)
  no_round (suc k) t m w round =
      let p = w.0 in
      let e : round.0 ≡ p = one_parent round.0 p t round.2 w.2 in
      no_round k p m w.1 (child_line tasks p t m p w.2 (subst (IsLine tasks t m) e round.1))

  pub no_self : {A : Type 0} (q c : ℕ) → IsAncestor tasks 0 q → IsParent tasks q c → IsAncestor tasks c q → A
  no_self q c root e w = no_round root.0 q w.0 root.1 (child_line tasks q c w.0 q e w.1)

  line_by : (c k t c' : ℕ) → IsLine tasks c k t → IsAncestor tasks c' t → IsAncestor tasks c c' ⊎ IsAncestor tasks c' c
  line_by c zero t c' e w' = inr (subst (IsAncestor tasks c') e w')
  line_by c (suc k) t c' w w' =
      elim (up_cases tasks c' t w') [
        | inl same ↦ inl (subst (IsAncestor tasks c) same (suc k, w))
        | inr (p, more, e) ↦ line_by c k w.0 c' w.1 (subst (IsAncestor tasks c') (one_parent p w.0 t e w.2) more)
      ]

  -- of two ancestors of a task one is an ancestor of the other
  pub one_line : (c c' t : ℕ) → IsAncestor tasks c t → IsAncestor tasks c' t → IsAncestor tasks c c' ⊎ IsAncestor tasks c' c
  one_line c c' t w w' = line_by c w.0 t c' w.1 w'

  pub rooted_above : (a t : ℕ) → IsAncestor tasks 0 t → IsAncestor tasks a t → IsAncestor tasks 0 a
  rooted_above a t root w =
      elim (one_line 0 a t root w) [
        | inl good ↦ good
        | inr over ↦ elim (up_cases tasks a 0 over) [
          | inl same ↦ same_ancestor tasks 0 a (sym same)
          | inr (p, more, e) ↦ no_root_parent p e
        ]
      ]

  child_over : (q c c' : ℕ) → IsAncestor tasks 0 q → IsParent tasks q c → IsParent tasks q c' → IsAncestor tasks c c' → c' ≡ c
  child_over q c c' root e e' w =
      elim (up_cases tasks c c' w) [
        | inl same ↦ same
        | inr (p, more, up) ↦ no_self q c root e (subst (IsAncestor tasks c) (one_parent p q c' up e') more)
      ]

  -- one child leads to a task
  pub same_child : (q c c' t : ℕ) → IsAncestor tasks 0 t → IsParent tasks q c → IsParent tasks q c' → IsAncestor tasks c t → IsAncestor tasks c' t → c ≡ c'
  same_child q c c' t root e e' w w' =
      let top : IsAncestor tasks 0 q = rooted_above q t root (child_above tasks q c t e w) in
      elim (one_line c c' t w w') [
        | inl over ↦ sym (child_over q c c' top e e' over)
        | inr over ↦ child_over q c' c top e' e over
      ]

  decide_by : (k b c : ℕ) → IsLine tasks 0 k b → IsAncestor tasks c b ⊎ (IsAncestor tasks c b → ⊥)
  decide_by zero b c w =
      elim (cases_eq b c) [
        | inl same ↦ inl (same_ancestor tasks c b same)
        | inr apart ↦ inr (λ h. elim (up_cases tasks c b h) [
          | inl same ↦ apart same
          | inr (p, more, e) ↦ no_root_parent p (subst (IsParent tasks p) w e)
        ])
      ]
  decide_by (suc k) b c w =
      elim (cases_eq b c) [
        | inl same ↦ inl (same_ancestor tasks c b same)
        | inr apart ↦ elim (decide_by k w.0 c w.1) [
          | inl up ↦ inl (below tasks c w.0 b up w.2)
          | inr none ↦ inr (λ h. none (parent_line c w.0 b apart w.2 h))
        ]
      ]

  pub decide : (b c : ℕ) → IsAncestor tasks 0 b → IsAncestor tasks c b ⊎ (IsAncestor tasks c b → ⊥)
  decide b c root = decide_by root.0 b c root.1
