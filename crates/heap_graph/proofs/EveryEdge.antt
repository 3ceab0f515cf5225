-- The edges of an object are its references that lead into a heap.
use Rattle.heap_graph.proofs.Common.{◌≡◌, ◌+◌, ℕ, zero, suc, Bool, cond, List, [], ◌∷◌, ◌++◌, length, refl, ap, sym, subst, ◌∙◌, arith, Option, Some, None, is_some, Contains, count_by, Contains-append_left, Contains-append_right, is_count_by, Statement, Read, owner_at, ReferenceIs, port_at, edge_to, edge_by, edges_from, leads}

contains_alone : (s : Statement) → Contains (s ∷ []) s
contains_alone s = (0, omega arith, refl)

contains_by : (r : Read) (t a k v u : ℕ) (o : Option ℕ) → o ≡ Some u → Contains (edge_by r t a k v o) (edge_to r t a k v u)
contains_by r t a k v u o e =
    let P : Option ℕ → Type 0 = λ x. Contains (edge_by r t a k v x) (edge_to r t a k v u) in
    subst P (sym e) (contains_alone (edge_to r t a k v u))

pub each_edge : (r : Read) (t a : ℕ) (long : Bool) (j : ℕ) (vs : List ℕ) (k v u : ℕ) → ReferenceIs vs k v → owner_at r.chunks v ≡ Some u
    → Contains (edges_from r t a long j vs) (edge_to r t a (port_at long (k + j)) v u)
each_edge r t a long j [] k v u h e = absurd h
each_edge r t a long j (x ∷ xs) zero v u h e =
    let P : ℕ → Type 0 = λ y. Contains (edges_from r t a long j (y ∷ xs)) (edge_to r t a (port_at long j) v u) in
    let Q : ℕ → Type 0 = λ n. Contains (edges_from r t a long j (x ∷ xs)) (edge_to r t a (port_at long n) v u) in
    let q : j ≡ 0 + j = omega arith in
    subst Q q (subst P (sym h) (Contains-append_left _ _ _ (contains_by r t a (port_at long j) v u (owner_at r.chunks v) e)))
each_edge r t a long j (x ∷ xs) (suc k) v u h e =
    let P : ℕ → Type 0 = λ n. Contains (edges_from r t a long (j + 1) xs) (edge_to r t a (port_at long n) v u) in
    let q : k + (j + 1) ≡ suc k + j = omega arith in
    Contains-append_right (edge_by r t a (port_at long j) x (owner_at r.chunks x)) (edges_from r t a long (j + 1) xs) _ (subst P q (each_edge r t a long (j + 1) xs k v u h e))

-- the number of references that lead into a heap
count : Read → List ℕ → ℕ
count r [] = 0
count r (x ∷ xs) = cond (leads r x) (1 + count r xs) (count r xs)

counted : (r : Read) (xs : List ℕ) → count r xs ≡ count_by (leads r) xs
unfolding count
counted r xs = is_count_by (count r) (leads r) refl (λ x xs. refl) xs

one_or_none : (r : Read) (t a k v : ℕ) (o : Option ℕ) (rest : List Statement) → length (edge_by r t a k v o ++ rest) ≡ cond (is_some o) (1 + length rest) (length rest)
one_or_none r t a k v None rest = refl
one_or_none r t a k v (Some u) rest = omega arith

as_many : (r : Read) (t a : ℕ) (long : Bool) (j : ℕ) (vs : List ℕ) → length (edges_from r t a long j vs) ≡ count r vs
unfolding count
as_many r t a long j [] = refl
as_many r t a long j (x ∷ xs) =
    one_or_none r t a (port_at long j) x (owner_at r.chunks x) (edges_from r t a long (j + 1) xs)
    ∙ ap (λ n. cond (leads r x) (1 + n) n) (as_many r t a long (j + 1) xs)

pub no_more_edges : (r : Read) (t a : ℕ) (long : Bool) (j : ℕ) (vs : List ℕ) → length (edges_from r t a long j vs) ≡ count_by (leads r) vs
no_more_edges r t a long j vs = as_many r t a long j vs ∙ counted r vs
