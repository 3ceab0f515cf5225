-- Lookups in the tables that the verifier makes of a picture's lists.
use Rattle.heap_image.proofs.Common.{◌≡◌, ℕ, Bool, true, false, List, [], ◌∷◌, ◌++◌, map, refl, ap, sym, ◌∙◌, inl, inr, Some, None, nat_eq, is_some, same_Some, ne_eqb, eqb-true, In, found, has, with_entry, with_new, is_among, with_item, itself}

module _ {X V : Type 0} (key : X → ℕ) (val : X → V) where
  abbrev pub entry : X → ℕ × V
  entry x = (key x, val x)

  abbrev pub table : List X → List (ℕ × V)
  table xs = map entry xs

  pub found_in : (xs : List X) (x : X) → ((y : X) → In xs y → key y ≡ key x → val y ≡ val x) → In xs x → found (table xs) (key x) ≡ Some (val x)
  found_in [] x one h = absurd h
  found_in (y ∷ ys) x one h = found_in_by_cases (nat_eq (key x) (key y)) refl h (found_in ys x (λ z i. one z (inr i)))
    where
      found_in_by_cases : (b : Bool) → nat_eq (key x) (key y) ≡ b → In (y ∷ ys) x → (In ys x → found (table ys) (key x) ≡ Some (val x)) → found (table (y ∷ ys)) (key x) ≡ Some (val x)
      found_in_by_cases true e i again = rw e (ap Some (one y (inl refl) (sym (eqb-true (key x) (key y) e))))
      found_in_by_cases false e (inl i) again = absurd (let g : nat_eq (key x) (key y) ≡ true = ap (λ z. nat_eq (key x) (key z)) i ∙ itself (key x) in cc)
      found_in_by_cases false e (inr i) again = rw e (again i)

  pub found_none : (xs : List X) (n : ℕ) → ((y : X) → In xs y → key y ≡ n → ⊥) → found (table xs) n ≡ None
  found_none [] n fresh = refl
  found_none (y ∷ ys) n fresh = rw (ne_eqb n (key y) (λ e. fresh y (inl refl) (sym e))) (found_none ys n (λ z i. fresh z (inr i)))

  pub found_from : (xs : List X) (n : ℕ) (v : V) → found (table xs) n ≡ Some v → (x : X) × In xs x × (key x ≡ n) × (val x ≡ v)
  found_from [] n v h = absurd cc
  found_from (y ∷ ys) n v h = found_from_by_cases (nat_eq n (key y)) refl h (found_from ys n v)
    where
      found_from_by_cases : (b : Bool) → nat_eq n (key y) ≡ b → found (table (y ∷ ys)) n ≡ Some v → (found (table ys) n ≡ Some v → (x : X) × In ys x × (key x ≡ n) × (val x ≡ v)) → (x : X) × In (y ∷ ys) x × (key x ≡ n) × (val x ≡ v)
      found_from_by_cases true e g again = (y, inl refl, sym (eqb-true n (key y) e), same_Some (val y) v (rw e at g))
      found_from_by_cases false e g again = let r = again (rw e at g) in (r.0, inr r.1, r.2, r.3)

  -- one more entry, under a new number
  pub entry_more : (xs : List X) (x : X) → ((y : X) → In xs y → key y ≡ key x → ⊥) → with_entry (table xs) (key x) (val x) ≡ table (xs ++ x ∷ [])
  entry_more [] x fresh = refl
  entry_more (y ∷ ys) x fresh = rw (ne_eqb (key x) (key y) (λ e. fresh y (inl refl) (sym e))) (ap (λ es. entry y ∷ es) (entry_more ys x (λ z i. fresh z (inr i))))

  table_more : (xs : List X) (x : X) → table xs ++ entry x ∷ [] ≡ table (xs ++ x ∷ [])
  table_more [] x = refl
  table_more (y ∷ ys) x = ap (λ es. entry y ∷ es) (table_more ys x)

  pub new_more : (xs : List X) (x : X) → ((y : X) → In xs y → key y ≡ key x → ⊥) → with_new (table xs) (key x) (val x) ≡ table (xs ++ x ∷ [])
  new_more xs x fresh = let e : has (table xs) (key x) ≡ false = ap is_some (found_none xs (key x) fresh) in rw e (table_more xs x)

module _ {X K : Type 0} (of : X → K) (test : K → K → Bool) where
  pub none_among : (xs : List X) (k : K) → ((y : X) → In xs y → test k (of y) ≡ false) → is_among test (map of xs) k ≡ false
  none_among [] k fresh = refl
  none_among (y ∷ ys) k fresh = rw (fresh y (inl refl)) (none_among ys k (λ z i. fresh z (inr i)))

  items_more : (xs : List X) (x : X) → map of xs ++ of x ∷ [] ≡ map of (xs ++ x ∷ [])
  items_more [] x = refl
  items_more (y ∷ ys) x = ap (λ es. of y ∷ es) (items_more ys x)

  -- one more item that isn't among the others
  pub item_more : (xs : List X) (x : X) → is_among test (map of xs) (of x) ≡ false → with_item test (map of xs) (of x) ≡ map of (xs ++ x ∷ [])
  item_more xs x e = rw e (items_more xs x)
