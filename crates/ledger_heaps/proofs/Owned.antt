-- The test of the owners of names.
use Rattle.ledger_heaps.proofs.Common.{◌≡◌, ℕ, ◌+◌, ◌<◌, ◌==◌, Bool, true, false, ◌≤◌, List, [], ◌∷◌, Option, Some, length, slice_get, inl, inr, refl, ap, sym, ◌∙◌, subst, eqb-true, eq-eqb, arith, list_all, and_parts, and_from, false≢true, cases_lt, cases_eq, In, in_from_contains, contains_from_in, got_past, Name, Task, owner_of, Heap, held_in, or_fresh, AreOwned}

abbrev pub owns : List Task → ℕ → List Name → Bool
owns tasks u names = list_all (λ n. owner_of tasks n.task == u) names

owner_from : (tasks : List Task) (u : ℕ) (names : List Name) → owns tasks u names ≡ true → (n : Name) → In names n → owner_of tasks n.task ≡ u
owner_from tasks u [] h n i = absurd i
owner_from tasks u (m ∷ names) h n (inl e) = subst (λ x. owner_of tasks x.task ≡ u) e (eqb-true (owner_of tasks m.task) u (and_parts (owner_of tasks m.task == u) (owns tasks u names) h).0)
owner_from tasks u (m ∷ names) h n (inr i) = owner_from tasks u names (and_parts (owner_of tasks m.task == u) (owns tasks u names) h).1 n i

owns_from : (tasks : List Task) (u : ℕ) (names : List Name) → ((n : Name) → In names n → owner_of tasks n.task ≡ u) → owns tasks u names ≡ true
owns_from tasks u [] h = refl
owns_from tasks u (m ∷ names) h =
    and_from (owner_of tasks m.task == u) (owns tasks u names) (eq-eqb (owner_of tasks m.task) u (h m (inl refl))) (owns_from tasks u names (λ n i. h n (inr i)))

module _ (tasks : List Task) (heaps : List Heap) where
  abbrev names_at : ℕ → List Name
  names_at u = held_in (or_fresh (slice_get heaps u))

  past : (u : ℕ) → length heaps ≤ u → (n : Name) → In (names_at u) n → ⊥
  past u h n i = subst (λ (o : Option Heap). In (held_in (or_fresh o)) n) (got_past heaps u h) i

  pub owned_all : ((u : ℕ) → u < length heaps → owns tasks u (names_at u) ≡ true) → AreOwned tasks heaps
  owned_all h u n c = elim (cases_lt u (length heaps)) [
    | inl lt ↦ owner_from tasks u (names_at u) (h u lt) n (in_from_contains (names_at u) n c)
    | inr ge ↦ absurd (past u ge n (in_from_contains (names_at u) n c))
  ]

  pub not_owned : (u : ℕ) → owns tasks u (names_at u) ≡ false → AreOwned tasks heaps → ⊥
  not_owned u h all = false≢true (sym h ∙ owns_from tasks u (names_at u) (λ n i. all u n (contains_from_in (names_at u) n i)))

pub one_more_owned : (tasks : List Task) (heaps : List Heap) (i : ℕ) (h : Heap) → slice_get heaps i ≡ Some h → owns tasks i (held_in h) ≡ true
    → ((u : ℕ) → u < i → owns tasks u (held_in (or_fresh (slice_get heaps u))) ≡ true) → (u : ℕ) → u < i + 1 → owns tasks u (held_in (or_fresh (slice_get heaps u))) ≡ true
one_more_owned tasks heaps i h at now before u lt = elim (cases_eq u i) [
  | inl e ↦
      ap (λ v. owns tasks v (held_in (or_fresh (slice_get heaps v)))) e ∙ (ap (λ (o : Option Heap). owns tasks i (held_in (or_fresh o))) at ∙ now)
  | inr ne ↦ before u (omega arith)
]
