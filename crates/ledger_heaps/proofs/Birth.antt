-- A sorted list is the list in order of birth.
use Rattle.ledger_heaps.proofs.Common.{◌≡◌, ℕ, suc, ◌+◌, ◌<◌, Bool, true, false, cond, List, [], ◌∷◌, length, get_or, nat_lt, nat_eq, inl, inr, refl, ap, sym, subst, ◌∙◌, arith, sum_by, Less, Equal, Greater, nat_cmp, ordering_then, is_lt, IsPermutation, IsSortedWithin, false≢true, sum_by-cons, sum_by-IsPermutation, In, Name, is_name, name_le, insert_name, by_birth, insert_cases, is_name_itself, same_from_is_name, birth_weight, Born, born_from, born_is, born_on, born_both}

-- THE ORDER

le_trans : (a b c : Name) → name_le a b ≡ true → name_le b c ≡ true → name_le a c ≡ true
le_trans a b c h k = born_from a c (born_on a b c (born_is a b h) (born_is b c k))

le_other : (a b : Name) → name_le a b ≡ false → name_le b a ≡ true
le_other a b h = grind (arith)

le_itself : (a : Name) → name_le a a ≡ true
le_itself a = grind (arith)

le_both : (a b : Name) → name_le a b ≡ true → name_le b a ≡ true → a ≡ b
le_both a b h k = born_both a b (born_is a b h) (born_is b a k)

-- LISTS IN ORDER

abbrev Up : List Name → Type 0
Up [] = Unit {0}
Up (n ∷ ns) = ((m : Name) → In ns m → name_le n m ≡ true) × Up ns

insert_up_by : (n m : Name) (ms : List Name) → Up (m ∷ ms) → Up (insert_name n ms) → (b : Bool) → name_le n m ≡ b → Up (cond b (n ∷ m ∷ ms) (m ∷ insert_name n ms))
insert_up_by n m ms up rest true is = (first, up)
  where
    first : (x : Name) → In (m ∷ ms) x → name_le n x ≡ true
    first x (inl e) = subst (λ y. name_le n y ≡ true) e is
    first x (inr i) = le_trans n m x is (up.0 x i)
insert_up_by n m ms up rest false is = (first, rest)
  where
    first : (x : Name) → In (insert_name n ms) x → name_le m x ≡ true
    first x i = elim (insert_cases n ms x i) [ inl e ↦ subst (λ y. name_le m y ≡ true) e (le_other n m is) | inr j ↦ up.0 x j ]

insert_up : (n : Name) (ms : List Name) → Up ms → Up (insert_name n ms)
insert_up n [] up = ((λ m i. absurd i), tt)
insert_up n (m ∷ ms) up = insert_up_by n m ms up (insert_up n ms up.1) (name_le n m) refl

birth_up : (ns : List Name) → Up (by_birth ns)
birth_up [] = tt
birth_up (n ∷ ns) = insert_up n (by_birth ns) (birth_up ns)

-- THE SAME NAMES IN ORDER ARE THE SAME LIST

abbrev mark : Name → Name → ℕ
mark n m = cond (is_name n m) 1 0

marked_by : (n m : Name) (ms : List Name) → (0 < sum_by (mark n) ms → In ms n) → (b : Bool) → is_name n m ≡ b → 0 < cond b 1 0 + sum_by (mark n) ms → In (m ∷ ms) n
marked_by n m ms rest true is h = inl (sym (same_from_is_name n m is))
marked_by n m ms rest false is h = inr (rest (omega arith))

in_from_mark : (n : Name) (ms : List Name) → 0 < sum_by (mark n) ms → In ms n
in_from_mark n [] h = absurd (omega arith)
in_from_mark n (m ∷ ms) h = marked_by n m ms (in_from_mark n ms) (is_name n m) refl (subst (λ k. 0 < k) (sum_by-cons (mark n) m ms) h)

positive : (b : Bool) → b ≡ true → 0 < cond b 1 0
positive true is = omega arith
positive false is = absurd (false≢true is)

mark_head : (n : Name) (ns : List Name) → 0 < sum_by (mark n) (n ∷ ns)
mark_head n ns = subst (λ k. 0 < k) (sym (sum_by-cons (mark n) n ns)) (let one = positive (is_name n n) (is_name_itself n) in omega arith)

abbrev SameSums : List Name → List Name → Type 0
SameSums xs ys = (f : Name → ℕ) → sum_by f xs ≡ sum_by f ys

same_none : (y : Name) (ys : List Name) → SameSums [] (y ∷ ys) → ⊥
same_none y ys s = let e = s (λ n. 1) in let k = sum_by-cons (λ n. 1) y ys in omega arith

below_head : (x y : Name) (ys : List Name) → Up (y ∷ ys) → In (y ∷ ys) x → name_le y x ≡ true
below_head x y ys up (inl e) = subst (λ z. name_le y z ≡ true) e (le_itself y)
below_head x y ys up (inr i) = up.0 x i

pub same_up : (xs ys : List Name) → Up xs → Up ys → SameSums xs ys → xs ≡ ys
same_up [] [] u v s = refl
same_up [] (y ∷ ys) u v s = absurd (same_none y ys s)
same_up (x ∷ xs) [] u v s = absurd (same_none x xs (λ f. sym (s f)))
same_up (x ∷ xs) (y ∷ ys) u v s =
    let into : In (y ∷ ys) x = in_from_mark x (y ∷ ys) (subst (λ k. 0 < k) (s (mark x)) (mark_head x xs)) in
    let back : In (x ∷ xs) y = in_from_mark y (x ∷ xs) (subst (λ k. 0 < k) (sym (s (mark y))) (mark_head y ys)) in
    let same : x ≡ y = le_both x y (below_head y x xs u back) (below_head x y ys v into) in
    heads same (same_up xs ys u.1 v.1 (tails same))
  where
    heads : x ≡ y → xs ≡ ys → x ∷ xs ≡ y ∷ ys
    heads e k = λ i. e i ∷ k i

    tails : x ≡ y → SameSums xs ys
    tails e f =
        let a = s f in
        let b = sum_by-cons f x xs in
        let c = sum_by-cons f y ys in
        let d = ap f e in
        omega arith

-- WHAT A SORT GIVES

abbrev name_cmp_lt : Name → Name → Bool
name_cmp_lt a b = is_lt (ordering_then (nat_cmp a.task b.task) (nat_cmp a.count b.count))

below_from_cmp : (a b : Name) (p q r last : Bool) → nat_lt b.task a.task ≡ p → nat_eq b.task a.task ≡ q → nat_lt b.count a.count ≡ r
    → is_lt (ordering_then (cond p Less (cond q Equal Greater)) (cond r Less (cond last Equal Greater))) ≡ false → Born a b
below_from_cmp a b true q r last lt eq less h = absurd (false≢true (sym h))
below_from_cmp a b false false r last lt eq less h = inl (grind arith)
below_from_cmp a b false true true last lt eq less h = absurd (false≢true (sym h))
below_from_cmp a b false true false last lt eq less h = inr (grind arith, grind arith)

le_from_cmp : (a b : Name) → name_cmp_lt b a ≡ false → name_le a b ≡ true
le_from_cmp a b h =
    born_from a b (below_from_cmp a b (nat_lt b.task a.task) (nat_eq b.task a.task) (nat_lt b.count a.count) (nat_eq b.count a.count) refl refl refl h)

up_more : (n m : Name) (ns : List Name) → Up (m ∷ ns) → name_le n m ≡ true → (x : Name) → In (m ∷ ns) x → name_le n x ≡ true
up_more n m ns rest next x (inl e) = subst (λ y. name_le n y ≡ true) e next
up_more n m ns rest next x (inr i) = le_trans n m x next (rest.0 x i)

up_from : (ns : List Name) → IsSortedWithin name_cmp_lt ns 0 (length ns) → Up ns
up_from [] s = tt
up_from (n ∷ []) s = ((λ m i. absurd i), tt)
up_from (n ∷ m ∷ ns) s =
    let rest : Up (m ∷ ns) = up_from (m ∷ ns) (λ k d low high. up_one k d (s (suc k) d (omega arith) (omega arith))) in
    (up_more n m ns rest (le_from_cmp n m (s 0 n (omega arith) (omega arith))), rest)
  where
    up_one : (k : ℕ) (d : Name) → name_cmp_lt (get_or (n ∷ m ∷ ns) (suc k + 1) d) (get_or (m ∷ ns) k d) ≡ false → name_cmp_lt (get_or (m ∷ ns) (k + 1) d) (get_or (m ∷ ns) k d) ≡ false
    up_one k d h = let e : suc k + 1 ≡ suc (k + 1) = omega arith in subst (λ j. name_cmp_lt (get_or (n ∷ m ∷ ns) j d) (get_or (m ∷ ns) k d) ≡ false) e h

pub sorted_is_by_birth : (ns ms : List Name) → IsPermutation ns ms → IsSortedWithin name_cmp_lt ms 0 (length ms) → ms ≡ by_birth ns
sorted_is_by_birth ns ms p s = same_up ms (by_birth ns) (up_from ms s) (birth_up ns) (λ f. sum_by-IsPermutation f ns ms p ∙ sym (birth_weight f ns))
