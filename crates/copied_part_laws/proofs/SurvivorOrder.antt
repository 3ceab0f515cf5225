-- Survivors in order of birth: for given names there is one list in that order.
use Rattle.copied_part_laws.proofs.Common.{◌≡◌, ℕ, suc, ◌+◌, ◌<◌, ◌≤◌, arith, Bool, true, false, cond, List, [], ◌∷◌, length, get_or, map, filter, is_lt, inl, inr, refl, ap₂, sym, subst, ◌∙◌, eq-eqb, cases_lt, false≢true, le-ltb, lt-ltb, contains_from_in, in_from_contains, in_from_kept, in_kept, in_map, map_in, Name, MachineState, Heap, by_birth, insert_name, name_le, small_in, small_survivors, AreByBirth, holds_name, born_from, born_is, born_on, collections_keep_just, born_both, birth_cases, in_birth, insert_cases, Once, Survivor, olds, old_of, survivor_order, In, NamedOnce}
use Rattle.leaf_collections.proofs.below.run_ledger.{Born}
use Rattle.copied_part_laws.proofs.NamesLaid.{birth_name}

-- ---- BIRTHS

-- two lists in this order with the same names are equal
pub one_order : (xs ys : List Name) → AreByBirth xs → AreByBirth ys → NamedOnce xs → NamedOnce ys → ((n : Name) → In xs n → In ys n) → ((n : Name) → In ys n → In xs n) → xs ≡ ys
one_order [] [] a b o p f g = refl
one_order [] (y ∷ ys) a b o p f g = absurd (g y (inl refl))
one_order (x ∷ xs) [] a b o p f g = absurd (f x (inl refl))
one_order (x ∷ xs) (y ∷ ys) a b o p f g =
    let e : x ≡ y = elim (f x (inl refl)) [
      | inl q ↦ sym q
      | inr i ↦ elim (g y (inl refl)) [
        | inl q ↦ q
        | inr j ↦ born_both x y (born_is x y (a.0 y (contains_from_in xs y j))) (born_is y x (b.0 x (contains_from_in ys x i)))
      ]
    ] in
    ap₂ (λ z zs. z ∷ zs) e (one_order xs ys a.1 b.1 o.1 p.1
    (λ n i. elim (f n (inr i)) [ inl q ↦ absurd (o.0 (subst (In xs) (sym (e ∙ q)) i)) | inr j ↦ j ])
    (λ n i. elim (g n (inr i)) [ inl q ↦ absurd (p.0 (subst (In ys) (sym q ∙ e) i)) | inr j ↦ j ]))

-- ---- SURVIVORS

abbrev AreSorted : List Survivor → Type 0
AreSorted ss = (k : ℕ) (d : Survivor) → 0 ≤ k → k + 1 < length ss → is_lt (survivor_order (get_or ss (k + 1) d) (get_or ss k d)) ≡ false

abbrev Rising : List Survivor → Type 0
Rising [] = Unit {0}
Rising (s ∷ ss) = ((t : Survivor) → In ss t → Born (birth_name s) (birth_name t)) × Rising ss

not_before : (s t : Survivor) → is_lt (survivor_order t s) ≡ false → Born (birth_name s) (birth_name t)
not_before s t h =
    elim (cases_lt t.birth.task s.birth.task) [
      | inl l ↦ absurd (false≢true (sym (rw (lt-ltb t.birth.task s.birth.task l) at h)))
      | inr ge ↦ elim (cases_lt s.birth.task t.birth.task) [
        | inl l ↦ inl l
        | inr le ↦
            let e : s.birth.task ≡ t.birth.task = omega (arith, ge, le) in
            let g = rw (le-ltb t.birth.task s.birth.task ge, eq-eqb t.birth.task s.birth.task (sym e)) at h in
            elim (cases_lt t.birth.count s.birth.count) [
              | inl l ↦ absurd (false≢true (sym (rw (lt-ltb t.birth.count s.birth.count l) at g)))
              | inr up ↦ inr (e, up)
            ]
      ]
    ]

sorted_tail : (s : Survivor) (ss : List Survivor) → AreSorted (s ∷ ss) → AreSorted ss
sorted_tail s ss h k d z l =
    let n : suc k + 1 ≡ suc (k + 1) = omega arith in
    subst (λ (j : ℕ). is_lt (survivor_order (get_or (s ∷ ss) j d) (get_or ss k d)) ≡ false) n (h (suc k) d (omega arith) (omega (arith, l)))

rising : (ss : List Survivor) → AreSorted ss → Rising ss
rising [] h = tt
rising (s ∷ []) h = ((λ t i. absurd i), tt)
rising (s ∷ (t ∷ ss)) h =
    let e : 0 + 1 ≡ 1 = omega arith in
    let now = subst (λ (j : ℕ). is_lt (survivor_order (get_or (s ∷ (t ∷ ss)) j s) s) ≡ false) e (h 0 s (omega arith) (omega arith)) in
    let first : Born (birth_name s) (birth_name t) = not_before s t now in
    let rest : Rising (t ∷ ss) = rising (t ∷ ss) (sorted_tail s (t ∷ ss) h) in
    ((λ u i. elim i [ inl q ↦ subst (λ (z : Survivor). Born (birth_name s) (birth_name z)) q first | inr j ↦ born_on (birth_name s) (birth_name t) (birth_name u) first (rest.0 u j) ]), rest)

some_rising : (p : Survivor → Bool) (ss : List Survivor) → Rising ss → Rising (filter p ss)
some_rising p [] r = tt
some_rising p (s ∷ ss) r = some_rising_by_cases (p s) (some_rising p ss r.1)
  where
    some_rising_by_cases : (b : Bool) → Rising (filter p ss) → Rising (cond b (s ∷ filter p ss) (filter p ss))
    some_rising_by_cases true go = ((λ t i. r.0 t (in_from_kept p ss t i).0), go)
    some_rising_by_cases false go = go

names_rising : (ss : List Survivor) → Rising ss → AreByBirth (map birth_name ss)
names_rising [] r = tt
names_rising (s ∷ ss) r = (
  (λ k c. let t = map_in birth_name ss k (in_from_contains (map birth_name ss) k c) in born_from (birth_name s) k (subst (Born (birth_name s)) t.2 (r.0 t.0 t.1))),
  names_rising ss r.1,
)

-- some of the survivors, by their births
pub sorted_names : (p : Survivor → Bool) (ss : List Survivor) → AreSorted ss → AreByBirth (map birth_name (filter p ss))
sorted_names p ss h = names_rising (filter p ss) (some_rising p ss (rising ss h))

-- names are distinct
pub single_names : (zs : List Survivor) → Once (olds zs) → ((s t : Survivor) → In zs s → In zs t → birth_name s ≡ birth_name t → s.old ≡ t.old) → NamedOnce (map birth_name zs)
single_names [] o f = tt
single_names (s ∷ zs) o f = (
  (λ i. let t = map_in birth_name zs (birth_name s) i in o.0 (contains_from_in (olds zs) s.old (subst (In (olds zs)) (sym (f s t.0 (inl refl) (inr t.1) (sym t.2))) (in_map old_of zs t.0 t.1)))),
  single_names zs o.1 (λ x u i j e. f x u (inr i) (inr j) e),
)

-- ---- THE ACCOUNT'S

single_insert : (n : Name) (ms : List Name) → (In ms n → ⊥) → NamedOnce ms → NamedOnce (insert_name n ms)
single_insert n [] f s = ((λ i. i), tt)
single_insert n (m ∷ ms) f s = single_insert_by_cases (name_le n m) (single_insert n ms (λ i. f (inr i)) s.1)
  where
    single_insert_by_cases : (b : Bool) → NamedOnce (insert_name n ms) → NamedOnce (cond b (n ∷ m ∷ ms) (m ∷ insert_name n ms))
    single_insert_by_cases true go = (f, s)
    single_insert_by_cases false go = ((λ i. elim (insert_cases n ms m i) [ inl e ↦ f (inl (sym e)) | inr j ↦ s.0 j ]), go)

single_birth : (ns : List Name) → NamedOnce ns → NamedOnce (by_birth ns)
single_birth [] s = tt
single_birth (n ∷ ns) s = single_insert n (by_birth ns) (λ i. s.0 (birth_cases ns n i)) (single_birth ns s.1)

single_some : (p : Name → Bool) (ns : List Name) → NamedOnce ns → NamedOnce (filter p ns)
single_some p [] s = tt
single_some p (n ∷ ns) s = single_some_by_cases (p n) (single_some p ns s.1)
  where
    single_some_by_cases : (b : Bool) → NamedOnce (filter p ns) → NamedOnce (cond b (n ∷ filter p ns) (filter p ns))
    single_some_by_cases true go = ((λ i. s.0 (in_from_kept p ns n i).0), go)
    single_some_by_cases false go = go

-- the small survivors of an account are these
pub small_survivors_are : (m : MachineState) (a : Heap) (xs : List Name) → AreByBirth xs → NamedOnce xs → NamedOnce (small_in a) → ((n : Name) → In xs n → In (small_in a) n × (holds_name a.survivors n ≡ true))
    → ((n : Name) → In (small_in a) n → holds_name a.survivors n ≡ true → In xs n) → xs ≡ small_survivors a
small_survivors_are m a xs order single once f g =
    let law = collections_keep_just m a in
    one_order xs (small_survivors a) order (subst AreByBirth law.laid law.order) single (single_birth (filter (holds_name a.survivors) (small_in a)) (single_some (holds_name a.survivors) (small_in a) once))
    (λ n i. let r = f n i in in_birth (filter (holds_name a.survivors) (small_in a)) n (in_kept (holds_name a.survivors) (small_in a) n r.0 r.1))
    (λ n i. let r = in_from_kept (holds_name a.survivors) (small_in a) n (birth_cases (filter (holds_name a.survivors) (small_in a)) n i) in g n r.0 r.1)
