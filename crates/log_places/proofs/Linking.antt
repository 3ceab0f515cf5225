-- Links from page to page of a block, as the code makes them.
use Rattle.log_places.proofs.Common.{◌≡◌, ◌<◌, ◌≤◌, ◌+◌, ◌-◌, ◌*◌, ◌^◌, ◌==◌, ◌++◌, ◌∷◌, ◌∙◌, ℕ, zero, suc, Bool, true, false, cond, List, [], length, drop, slice_get, slice_set, Option, Some, None, IfSome, inl, inr, refl, sym, ap, subst, arith, list_any, cases_lt, length-drop, same_Some, insert_key, got_other, none_some, got_set, PageKey, same_page, next_page, PagesAreInRange}

-- WHERE THE NEXT PAGE STANDS

next_by : (k n : ℕ) (o : Option ℕ) (b : Bool) → IfSome o (λ j. (k + 1 ≤ j) × (j < k + 1 + n)) → IfSome (cond b (Some k) o) (λ j. (k ≤ j) × (j < k + suc n))
next_by k n o true h = (omega arith, omega arith)
next_by k n None false h = tt
next_by k n (Some j) false h = let a : k + 1 ≤ j = h.0 in let b : j < k + 1 + n = h.1 in (omega arith, omega arith)

next_within : (block k : ℕ) (ks : List PageKey) → IfSome (next_page block k ks) (λ j. (k ≤ j) × (j < k + length ks))
next_within block k [] = tt
next_within block k (x ∷ xs) = next_by k (length xs) (next_page block (k + 1) xs) (x.block == block) (next_within block (k + 1) xs)

there_by : (o : Option ℕ) (k n m : ℕ) → IfSome o (λ j. (k ≤ j) × (j < k + n)) → k + n ≤ m → IfSome o (λ j. j < m)
there_by None k n m h le = tt
there_by (Some j) k n m h le = let l : j < k + n = h.1 in omega arith

pub first_page_there : (block : ℕ) (keys : List PageKey) (n : ℕ) (o : Option ℕ) → o ≡ next_page block 0 keys → length keys ≡ n → IfSome o (λ j. j < n)
first_page_there block keys n o e size =
    subst (λ (p : Option ℕ). IfSome p (λ j. j < n)) (sym e) (there_by (next_page block 0 keys) 0 (length keys) n (next_within block 0 keys) (omega arith))

pub next_page_there : (block : ℕ) (keys : List PageKey) (k n : ℕ) (o : Option ℕ) → k < length keys → o ≡ next_page block (k + 1) (drop (k + 1) keys) → length keys ≡ n → IfSome o (λ j. j < n)
next_page_there block keys k n o lt e size =
    subst (λ (p : Option ℕ). IfSome p (λ j. j < n)) (sym e)
    (there_by (next_page block (k + 1) (drop (k + 1) keys)) (k + 1) (length (drop (k + 1) keys)) n (next_within block (k + 1) (drop (k + 1) keys))
    (let l = length-drop (k + 1) keys in omega (arith, l, size)))

next_later : (block : ℕ) (keys : List PageKey) (k j : ℕ) → next_page block (k + 1) (drop (k + 1) keys) ≡ Some j → k < j
next_later block keys k j e =
    let h : (k + 1 ≤ j) × (j < k + 1 + length (drop (k + 1) keys)) = subst (λ (p : Option ℕ). IfSome p (λ i. (k + 1 ≤ i) × (i < k + 1 + length (drop (k + 1) keys)))) e (next_within block (k + 1) (drop (k + 1) keys)) in
    let l = h.0 in omega (arith, l)

-- how many places are left
abbrev pub left_of : Option ℕ → ℕ → ℕ
left_of None n = 0
left_of (Some i) n = n - i

pub fewer_left : (block : ℕ) (keys : List PageKey) (k n : ℕ) (o : Option ℕ) → k < n → o ≡ next_page block (k + 1) (drop (k + 1) keys) → left_of o n < n - k
fewer_left block keys k n None lt e = omega arith
fewer_left block keys k n (Some j) lt e = let l = next_later block keys k j (sym e) in omega (arith, l)

-- AS THEY ARE MADE

pub dropped : {A : Type 0} (xs : List A) (k : ℕ) (x : A) → slice_get xs k ≡ Some x → drop k xs ≡ x ∷ drop (k + 1) xs
dropped [] k x e = none_some e
dropped (y ∷ ys) zero x e = ap (λ z. z ∷ ys) (same_Some y x e)
dropped (y ∷ ys) (suc k) x e = dropped ys k x e ∙ ap (λ m. x ∷ drop m (y ∷ ys)) (let n : suc (k + 1) ≡ suc k + 1 = omega arith in n)

pub head_more : (block : ℕ) (keys : List PageKey) (k : ℕ) (x : PageKey) → slice_get keys k ≡ Some x
    → cond (x.block == block) (Some k) (next_page block (k + 1) (drop (k + 1) keys)) ≡ next_page block k (drop k keys)
head_more block keys k x at = ap (λ (l : List PageKey). next_page block k l) (sym (dropped keys k x at))

pub none_first : (block : ℕ) (keys : List PageKey) (k : ℕ) → length keys ≤ k → next_page block k (drop k keys) ≡ None
none_first block keys k le = none_of (drop k keys) (let l = length-drop k keys in omega (arith, l))
  where
    none_of : (xs : List PageKey) → length xs ≤ 0 → next_page block k xs ≡ None
    none_of [] z = refl
    none_of (x ∷ xs) z = absurd (omega arith)

-- the link of a page is set
pub link_set : (keys : List PageKey) (nexts : List (Option ℕ)) (place : ℕ) (x : PageKey) (next : Option ℕ) → length nexts ≡ length keys → slice_get keys place ≡ Some x
    → next ≡ next_page x.block (place + 1) (drop (place + 1) keys) → place < length keys
    → ((k : ℕ) (q : PageKey) → place + 1 ≤ k → slice_get keys k ≡ Some q → slice_get nexts k ≡ Some (next_page q.block (k + 1) (drop (k + 1) keys)))
    → (k : ℕ) (q : PageKey) → place ≤ k → slice_get keys k ≡ Some q → slice_get (slice_set nexts place next) k ≡ Some (next_page q.block (k + 1) (drop (k + 1) keys))
link_set keys nexts place x next size at is lt before k q le here =
    elim (cases_lt place k) [
      | inl l ↦ got_other nexts place k next (λ e. omega (arith, e)) ∙ before k q (omega arith) here
      | inr g ↦
          let e : place ≡ k = omega arith in
          subst (λ (j : ℕ). slice_get (slice_set nexts place next) j ≡ Some (next_page q.block (j + 1) (drop (j + 1) keys))) e
          (got_set nexts place next (omega (arith, size))
          ∙ ap (λ (o : Option ℕ). Some o) (is ∙ ap (λ (y : PageKey). next_page y.block (place + 1) (drop (place + 1) keys)) (same_Some x q (sym at ∙ (ap (slice_get keys) e ∙ here)))))
    ]

-- PAGES THAT ARE NEAR

near_push : (ks : List PageKey) (k : PageKey) → k.page * 4096 ≤ 2 ^ 60 → PagesAreInRange ks → PagesAreInRange (ks ++ k ∷ [])
near_push [] k le near = (le, tt)
near_push (x ∷ xs) k le near = (near.0, near_push xs k le near.1)

near_by : (b : Bool) (ks : List PageKey) (k : PageKey) → k.page * 4096 ≤ 2 ^ 60 → PagesAreInRange ks → PagesAreInRange (cond b ks (ks ++ k ∷ []))
near_by true ks k le near = near
near_by false ks k le near = near_push ks k le near

-- one page more
pub near_more : (xs ys : List PageKey) (k : PageKey) → ys ≡ insert_key same_page xs k → k.page * 4096 ≤ 2 ^ 60 → PagesAreInRange xs → PagesAreInRange ys
near_more xs ys k is le near = subst (λ (l : List PageKey). PagesAreInRange l) (sym is) (near_by (list_any (same_page k) xs) xs k le near)

pub near_at : (ks : List PageKey) (i : ℕ) (k : PageKey) → slice_get ks i ≡ Some k → PagesAreInRange ks → k.page * 4096 ≤ 2 ^ 60
near_at [] i k e near = none_some e
near_at (x ∷ xs) zero k e near = subst (λ (y : PageKey). y.page * 4096 ≤ 2 ^ 60) (same_Some x k e) near.0
near_at (x ∷ xs) (suc i) k e near = near_at xs i k e near.1
