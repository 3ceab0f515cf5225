-- What a change of state and a fork keep, and what they change.
use Rattle.heap_tree.proofs.Common.{◌≡◌, ◌≢◌, ℕ, ◌+◌, ◌-◌, ◌<◌, ◌≤◌, ◌%◌, arith, List, [], ◌∷◌, ◌++◌, length, set, ◌⊎◌, inl, inr, refl, sym, ap, ◌∙◌, subst, Option, Some, None, slice_get, append_assoc, length-append, length-set, option_map, fun_ext, cases_eq, cases_lt, ne_eqb, got_front, got_other, view_step, got_last, got_none, got_set, TaskState, Waiting, TaskNode, parent_in, parent_of, set_at, state_of, with_state, child_of, forked, SiblingsShareParents, sibling, ForkMakes, StatesChange}
use Rattle.std.proofs.lemmas.Bool.{eq-eqb}

-- ---- a change of state

changes_by : (nodes : List TaskNode) (t : ℕ) (s : TaskState) (o : Option TaskNode) → slice_get nodes t ≡ o
    → (length (set_at nodes t s o) ≡ length nodes)
    × ((u : ℕ) → parent_of (set_at nodes t s o) u ≡ parent_of nodes u)
    × (t < length nodes → state_of (set_at nodes t s o) t ≡ Some s)
    × ((u : ℕ) → u ≢ t → state_of (set_at nodes t s o) u ≡ state_of nodes u)
changes_by nodes t s None e = (refl, (λ u. refl), (λ lt. absurd (got_none nodes t lt e)), (λ u ne. refl))
changes_by nodes t s (Some n) e = (
  simp length-set,
  view_step parent_in nodes t n (record n { state = s }) e refl,
  (λ lt. ap (λ (o : Option TaskNode). option_map (λ (x : TaskNode). x.state) o) (got_set nodes t (record n { state = s }) lt)),
  (λ u ne. ap (λ (o : Option TaskNode). option_map (λ (x : TaskNode). x.state) o) (got_other nodes t u (record n { state = s }) ne)),
)

pub states_change : StatesChange
states_change nodes t s =
    let all = changes_by nodes t s (slice_get nodes t) refl in
    record { count = all.0; parents = fun_ext all.1; set = all.2; others = all.3 }

state_length : (nodes : List TaskNode) (t : ℕ) (s : TaskState) → length (with_state nodes t s) ≡ length nodes
state_length nodes t s = (changes_by nodes t s (slice_get nodes t) refl).0

state_parent : (nodes : List TaskNode) (t : ℕ) (s : TaskState) (u : ℕ) → parent_of (with_state nodes t s) u ≡ parent_of nodes u
state_parent nodes t s = (changes_by nodes t s (slice_get nodes t) refl).1

-- ---- a fork

module _ (nodes : List TaskNode) (t : ℕ) where
  abbrev c : TaskNode
  c = child_of t

  abbrev old : List TaskNode
  old = with_state nodes t Waiting

  count : length old ≡ length nodes
  count = state_length nodes t Waiting

  pub all : length (forked nodes t) ≡ length nodes + 2
  all = length-append old (c ∷ c ∷ []) ∙ ap (λ (n : ℕ). n + 2) count

  old_node : (u : ℕ) → u < length nodes → slice_get (forked nodes t) u ≡ slice_get old u
  old_node u made = got_front old (c ∷ c ∷ []) u (subst (λ (n : ℕ). u < n) (sym count) made)

  pub old_parent : (u : ℕ) → u < length nodes → parent_of (forked nodes t) u ≡ parent_of nodes u
  old_parent u made = ap parent_in (old_node u made) ∙ state_parent nodes t Waiting u

  split : forked nodes t ≡ (old ++ c ∷ []) ++ c ∷ []
  split = sym (append_assoc old (c ∷ []) (c ∷ []))

  more : length (old ++ c ∷ []) ≡ length nodes + 1
  more = length-append old (c ∷ []) ∙ ap (λ (n : ℕ). n + 1) count

  first : slice_get (forked nodes t) (length nodes) ≡ Some c
  first =
      let there : slice_get (old ++ c ∷ []) (length nodes) ≡ Some c = subst (λ (n : ℕ). slice_get (old ++ c ∷ []) n ≡ Some c) count (got_last old c) in
      let few : length nodes < length (old ++ c ∷ []) = let m : length (old ++ c ∷ []) ≡ length nodes + 1 = more in omega arith in
      ap (λ (xs : List TaskNode). slice_get xs (length nodes)) split ∙ (got_front (old ++ c ∷ []) (c ∷ []) (length nodes) few ∙ there)

  second : slice_get (forked nodes t) (length nodes + 1) ≡ Some c
  second =
      let there : slice_get ((old ++ c ∷ []) ++ c ∷ []) (length nodes + 1) ≡ Some c = subst (λ (n : ℕ). slice_get ((old ++ c ∷ []) ++ c ∷ []) n ≡ Some c) more (got_last (old ++ c ∷ []) c) in
      ap (λ (xs : List TaskNode). slice_get xs (length nodes + 1)) split ∙ there

  pub first_parent : parent_of (forked nodes t) (length nodes) ≡ Some t
  first_parent = ap parent_in first

  pub second_parent : parent_of (forked nodes t) (length nodes + 1) ≡ Some t
  second_parent = ap parent_in second

  abbrev state : Option TaskNode → Option TaskState
  state o = option_map (λ (x : TaskNode). x.state) o

  pub makes : t < length nodes → ForkMakes nodes t
  makes made = record {
    count = all;
    parents = old_parent;
    left_parent = first_parent;
    right_parent = second_parent;
    waits = ap state (old_node t made) ∙ (changes_by nodes t Waiting (slice_get nodes t) refl).2 made;
    left_ready = ap state first;
    right_ready = ap state second;
    others = λ u lt ne. ap state (old_node u lt) ∙ (changes_by nodes t Waiting (slice_get nodes t) refl).3 u ne;
  }

-- ---- siblings

sibling_left : (t : ℕ) → t % 2 ≡ 1 → sibling t ≡ t + 1
sibling_left t e = rw (eq-eqb (t % 2) 1 e) refl

sibling_right : (t : ℕ) → (t % 2 ≡ 1 → ⊥) → sibling t ≡ t - 1
sibling_right t e = rw (ne_eqb (t % 2) 1 e) refl

states : (nodes : List TaskNode) (t : ℕ) (s : TaskState) → SiblingsShareParents nodes → SiblingsShareParents (with_state nodes t s)
states nodes t s pairs = record {
  odd = ap (λ (n : ℕ). n % 2) (state_length nodes t s) ∙ pairs.odd;
  shared = λ u made child.
      let was : u < length nodes = subst (λ (n : ℕ). u < n) (state_length nodes t s) made in
      state_parent nodes t s (sibling u) ∙ (pairs.shared u was child ∙ sym (state_parent nodes t s u));
}

module _ (nodes : List TaskNode) (t : ℕ) (pairs : SiblingsShareParents nodes) where
  old_sibling : (u : ℕ) → u < length nodes → (u ≡ 0 → ⊥) → sibling u < length nodes
  old_sibling u made child = elim (cases_eq (u % 2) 1) [
    | inl e ↦
        let s : sibling u ≡ u + 1 = sibling_left u e in
        let o : length nodes % 2 ≡ 1 = pairs.odd in
        let lt : u + 1 < length nodes = omega arith in
        subst (λ (n : ℕ). n < length nodes) (sym s) lt
    | inr e ↦ let s : sibling u ≡ u - 1 = sibling_right u e in let lt : u - 1 < length nodes = omega arith in subst (λ (n : ℕ). n < length nodes) (sym s) lt
  ]

  shared_new : (u : ℕ) → (u ≡ length nodes) ⊎ (u ≡ length nodes + 1) → parent_of (forked nodes t) (sibling u) ≡ parent_of (forked nodes t) u
  shared_new u (inl e) =
      let s : sibling u ≡ length nodes + 1 = ap sibling e ∙ sibling_left (length nodes) pairs.odd in
      ap (parent_of (forked nodes t)) s ∙ (second_parent nodes t ∙ (sym (first_parent nodes t) ∙ ap (parent_of (forked nodes t)) (sym e)))
  shared_new u (inr e) =
      let even : (length nodes + 1) % 2 ≡ 1 → ⊥ = λ h. let o : length nodes % 2 ≡ 1 = pairs.odd in omega arith in
      let back : length nodes + 1 - 1 ≡ length nodes = omega arith in
      let s : sibling u ≡ length nodes = ap sibling e ∙ (sibling_right (length nodes + 1) even ∙ back) in
      ap (parent_of (forked nodes t)) s ∙ (first_parent nodes t ∙ (sym (second_parent nodes t) ∙ ap (parent_of (forked nodes t)) (sym e)))

  shared_by : (u : ℕ) → u < length nodes + 2 → (u ≡ 0 → ⊥) → (u < length nodes) ⊎ (length nodes ≤ u) → parent_of (forked nodes t) (sibling u) ≡ parent_of (forked nodes t) u
  shared_by u made child (inl lt) = old_parent nodes t (sibling u) (old_sibling u lt child) ∙ (pairs.shared u lt child ∙ sym (old_parent nodes t u lt))
  shared_by u made child (inr le) = shared_new u (elim (cases_eq u (length nodes)) [ inl e ↦ inl e | inr ne ↦ inr (omega arith) ])

  forks : SiblingsShareParents (forked nodes t)
  forks = record {
    odd = ap (λ (n : ℕ). n % 2) (all nodes t) ∙ (let o : length nodes % 2 ≡ 1 = pairs.odd in let e : (length nodes + 2) % 2 ≡ 1 = omega arith in e);
    shared = λ u made child. shared_by u (subst (λ (n : ℕ). u < n) (all nodes t) made) child (cases_lt u (length nodes));
  }
