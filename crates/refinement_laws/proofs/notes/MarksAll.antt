-- Nothing is left to mark if and only if the whole snapshot is marked: both have each object once.
use Rattle.refinement_laws.proofs.Common.{◌≡◌, ◌⊎◌, ◌-◌, ◌≤◌, ℕ, suc, Bool, true, false, cond, arith, Option, List, [], ◌∷◌, length, unwrap_or, inl, inr, refl, ap, sym, subst, ◌∙◌, AllByRecursion, both_ways, Addr, same_address, Located, none_from, Name, Ledger, held_in, heap_of, marked_in, is_name, same_from_is_name, is_name_itself, Rests, Memory, In, object_name, objects, MemoryStands, held_object, MarksAreAll}
use Rattle.std.specs.List.{IsDistinct}

-- LISTS OF DISTINCT NAMES

-- names are distinct
abbrev pub NamedOnce : List Name → Type 0
NamedOnce [] = Unit {0}
NamedOnce (x ∷ xs) = (In xs x → ⊥) × NamedOnce xs

none_in : (x : Name) (ys : List Name) → AllByRecursion (λ y. is_name x y ≡ false) ys → In ys x → ⊥
none_in x [] a i = i
none_in x (y ∷ ys) a (inl e) = both_ways (is_name x y) a.0 (subst (λ z. is_name x z ≡ true) (sym e) (is_name_itself x))
none_in x (y ∷ ys) a (inr i) = none_in x ys a.1 i

once_names : (xs : List Name) → IsDistinct is_name xs → NamedOnce xs
unfolding IsDistinct
once_names [] d = tt
once_names (x ∷ xs) d = (none_in x xs d.0, once_names xs d.1)

without : Name → List Name → List Name
without n [] = []
without n (y ∷ ys) = cond (is_name n y) ys (y ∷ without n ys)

shorter : (n : Name) (ys : List Name) → In ys n → length ys ≡ suc (length (without n ys))
unfolding without
shorter n [] i = absurd i
shorter n (y ∷ ys) i = shorter_by_cases (is_name n y) refl i (λ j. shorter n ys j)
  where
    shorter_by_cases : (b : Bool) → is_name n y ≡ b → In (y ∷ ys) n → (In ys n → length ys ≡ suc (length (without n ys))) → suc (length ys) ≡ suc (length (cond b ys (y ∷ without n ys)))
    shorter_by_cases true e i more = refl
    shorter_by_cases false e (inl q) more = absurd (both_ways (is_name n y) e (subst (λ z. is_name n z ≡ true) (sym q) (is_name_itself n)))
    shorter_by_cases false e (inr j) more = ap suc (more j)

still_in : (n m : Name) (ys : List Name) → In ys m → (m ≡ n → ⊥) → In (without n ys) m
unfolding without
still_in n m [] i ne = absurd i
still_in n m (y ∷ ys) i ne = still_in_by_cases (is_name n y) refl i (λ j. still_in n m ys j ne)
  where
    still_in_by_cases : (b : Bool) → is_name n y ≡ b → In (y ∷ ys) m → (In ys m → In (without n ys) m) → In (cond b ys (y ∷ without n ys)) m
    still_in_by_cases true e (inl q) more = absurd (ne (sym q ∙ sym (same_from_is_name n y e)))
    still_in_by_cases true e (inr j) more = j
    still_in_by_cases false e (inl q) more = inl q
    still_in_by_cases false e (inr j) more = inr (more j)

-- distinct names in a list are at most as many as its items
pub no_more : (xs ys : List Name) → NamedOnce xs → ((n : Name) → In xs n → In ys n) → length xs ≤ length ys
no_more [] ys o f = omega arith
no_more (x ∷ xs) ys o f =
    let a : length ys ≡ suc (length (without x ys)) = shorter x ys (f x (inl refl)) in
    let b : length xs ≤ length (without x ys) = no_more xs (without x ys) o.1 (λ n i. still_in x n ys (f n (inr i)) (λ e. o.0 (subst (In xs) e i))) in
    omega (arith, a, b)

is_in : (n : Name) (xs : List Name) → In xs n ⊎ (In xs n → ⊥)
is_in n [] = inr (λ i. i)
is_in n (x ∷ xs) = is_in_by_cases (is_name n x) refl (is_in n xs)
  where
    is_in_by_cases : (b : Bool) → is_name n x ≡ b → In xs n ⊎ (In xs n → ⊥) → In (x ∷ xs) n ⊎ (In (x ∷ xs) n → ⊥)
    is_in_by_cases true e more = inl (inl (sym (same_from_is_name n x e)))
    is_in_by_cases false e (inl i) = inl (inr i)
    is_in_by_cases false e (inr none) = inr (λ i. elim i [ inl q ↦ both_ways (is_name n x) e (subst (λ z. is_name n z ≡ true) (sym q) (is_name_itself n)) | inr j ↦ none j ])

-- and if they are as many, they are all
all_of : (xs ys : List Name) → NamedOnce xs → ((n : Name) → In xs n → In ys n) → length ys ≤ length xs → (n : Name) → In ys n → In xs n
all_of xs ys o f le n i = elim (is_in n xs) [
  | inl j ↦ j
  | inr none ↦
      let more : suc (length xs) ≤ length ys = no_more (n ∷ xs) ys (none, o) (λ m j. elim j [ inl e ↦ subst (In ys) e i | inr k ↦ f m k ]) in
      absurd (omega (arith, le, more))
]

-- THE NAMES OF WHAT IS MARKED

module _ (v : Memory) (l : Ledger) (t : ℕ) (V : MemoryStands v l) (rests : Rests l t) where
  abbrev Each : List Addr → Type 0
  Each bs = (a : Addr) → In bs a → (q : Located) × In (objects v t) q × (q.at ≡ a) × In (heap_of l t).snapshot (object_name q)

  names : (bs : List Addr) → Each bs → List Name
  names [] each = []
  names (a ∷ bs) each = object_name (each a (inl refl)).0 ∷ names bs (λ b i. each b (inr i))

  as_many : (bs : List Addr) (each : Each bs) → length (names bs each) ≡ length bs
  unfolding names
  as_many [] each = refl
  as_many (a ∷ bs) each = ap suc (as_many bs (λ b i. each b (inr i)))

  -- each of these names is that of a marked object
  named_by : (bs : List Addr) (each : Each bs) (n : Name) → In (names bs each) n → (q : Located) × In (objects v t) q × (object_name q ≡ n) × In bs q.at × In (heap_of l t).snapshot n
  unfolding names
  named_by [] each n i = absurd i
  named_by (a ∷ bs) each n (inl e) =
      let q = each a (inl refl) in
      (q.0, q.1, e, inl (sym q.2), subst (In (heap_of l t).snapshot) e q.3)
  named_by (a ∷ bs) each n (inr i) = let r = named_by bs (λ b j. each b (inr j)) n i in (r.0, r.1, r.2, inr r.3, r.4)

  -- and the other way round
  name_in : (bs : List Addr) (each : Each bs) (q : Located) → In (objects v t) q → In bs q.at → In (names bs each) (object_name q)
  unfolding names
  name_in [] each q i j = absurd j
  name_in (a ∷ bs) each q i (inl e) = let r = each a (inl refl) in inl (ap object_name ((V.belongings t rests).once r.0 q r.1 i (r.2 ∙ e)))
  name_in (a ∷ bs) each q i (inr j) = inr (name_in bs (λ b k. each b (inr k)) q i j)

  once_marked : (bs : List Addr) (each : Each bs) → IsDistinct same_address bs → NamedOnce (names bs each)
  unfolding IsDistinct names
  once_marked [] each d = tt
  once_marked (a ∷ bs) each d = (
    (λ i.
        let q = each a (inl refl) in
        let r = named_by bs (λ b j. each b (inr j)) (object_name q.0) i in
        let same : r.0 ≡ q.0 = (V.belongings t rests).named r.0 q.0 r.1 q.1 r.2 in
        none_from a bs d.0 (subst (In bs) (ap (λ (o : Located). o.at) same ∙ q.2) r.3)),
    once_marked bs (λ b j. each b (inr j)) d.1,
  )

-- at most as many objects are marked as the snapshot has
pub few_marked : (v : Memory) (l : Ledger) (t : ℕ) (marked : List Addr) → MemoryStands v l → Rests l t → ((a : Addr) → In marked a → (q : Located) × In (objects v t) q × (q.at ≡ a) × In (heap_of l t).snapshot (object_name q)) → IsDistinct same_address marked
    → length marked ≤ length (heap_of l t).snapshot
few_marked v l t marked V rests each once =
    let ns = names v l t V rests marked each in
    let as_many : length ns ≡ length marked = as_many v l t V rests marked each in
    let le : length ns ≤ length (heap_of l t).snapshot = no_more ns (heap_of l t).snapshot (once_marked v l t V rests marked each once) (λ n i. (named_by v l t V rests marked each n i).4) in
    omega (arith, le, as_many)

-- and as many, if each object of it is marked
pub all_marked : (v : Memory) (l : Ledger) (t : ℕ) (marked : List Addr) → MemoryStands v l → Rests l t → ((a : Addr) → In marked a → (q : Located) × In (objects v t) q × (q.at ≡ a) × In (heap_of l t).snapshot (object_name q))
    → IsDistinct is_name (heap_of l t).snapshot → ((n : Name) → In (heap_of l t).snapshot n → In (held_in (heap_of l t)) n) → ((q : Located) → In (objects v t) q → In (heap_of l t).snapshot (object_name q) → In marked q.at) → length (heap_of l t).snapshot ≤ length marked
all_marked v l t marked V rests each distinct held every =
    let ns = names v l t V rests marked each in
    let as_many : length ns ≡ length marked = as_many v l t V rests marked each in
    let le : length (heap_of l t).snapshot ≤ length ns = no_more (heap_of l t).snapshot ns (once_names (heap_of l t).snapshot distinct) (λ n i.
    let o = held_object (v.belongings t).chunks (heap_of l t) (V.belongings t rests).names n (held n i) in
    subst (In ns) o.2 (name_in v l t V rests marked each o.0 o.1 (every o.0 o.1 (subst (In (heap_of l t).snapshot) (sym o.2) i)))) in
    omega (arith, le, as_many)

pub marks_are_all : MarksAreAll
marks_are_all v l t marked V rests distinct held M =
    let ns = names v l t V rests marked M.each in
    let once = once_marked v l t V rests marked M.each M.once in
    let as_many : length ns ≡ length marked = as_many v l t V rests marked M.each in
    let count : marked_in (heap_of l t) ≡ length marked = ap (λ (o : Option ℕ). unwrap_or o 0) M.count in
    let all : ((n : Name) → In ns n → In (heap_of l t).snapshot n) = λ n i. (named_by v l t V rests marked M.each n i).4 in (
      (λ none q i j.
          let le : length (heap_of l t).snapshot ≤ length ns = (let z : length (heap_of l t).snapshot - marked_in (heap_of l t) ≡ 0 = none in omega (arith, z, count, as_many)) in
          let r = named_by v l t V rests marked M.each (object_name q) (all_of ns (heap_of l t).snapshot once all le (object_name q) j) in
          subst (λ (o : Located). In marked o.at) ((V.belongings t rests).named r.0 q r.1 i r.2) r.3),
      (λ every.
          let le : length (heap_of l t).snapshot ≤ length ns = no_more (heap_of l t).snapshot ns (once_names (heap_of l t).snapshot distinct) (λ n i.
          let o = held_object (v.belongings t).chunks (heap_of l t) (V.belongings t rests).names n (held n i) in
          subst (In ns) o.2 (name_in v l t V rests marked M.each o.0 o.1 (every o.0 o.1 (subst (In (heap_of l t).snapshot) (sym o.2) i)))) in
          let z : length (heap_of l t).snapshot - marked_in (heap_of l t) ≡ 0 = omega (arith, le, count, as_many) in
          z),
    )
