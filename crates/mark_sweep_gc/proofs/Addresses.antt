-- Lists of addresses: tests, and lists of distinct addresses.
use Rattle.mark_sweep_gc.proofs.Common.{◌≡◌, ℕ, suc, ◌≤◌, Bool, true, false, cond, List, [], ◌∷◌, ◌++◌, length, refl, sym, ap, ◌∙◌, subst, arith, ◌⊎◌, inl, inr, false≢true, append-nil, IsDistinct, Addr, Once, distinct_from, once_from, once_push, same_is, same_self, In, any_from_in, in_from_any, in_append_left, in_append_right, in_append_cases, contains_from_in}
use Rattle.mark_sweep_gc.specs.MarkingValue.{has_address, with_address, same_address}

pub has_in : (xs : List Addr) (a : Addr) → has_address xs a ≡ true → In xs a
has_in xs a h = let f = in_from_any (same_address a) xs h in subst (λ (x : Addr). In xs x) (sym (same_is a f.0 f.2)) f.1

pub in_has : (xs : List Addr) (a : Addr) → In xs a → has_address xs a ≡ true
in_has xs a i = any_from_in (same_address a) xs a i (same_self a)

-- ---- an address noted

pub record Noted (xs : List Addr) (a : Addr) (ys : List Addr) : Type 0 where
  pub grown : (rest : List Addr) × (ys ≡ xs ++ rest)
  pub each : (x : Addr) → In ys x → In xs x ⊎ (a ≡ x)
  pub there : In ys a
  pub kept : (x : Addr) → In xs x → In ys x
  pub once : IsDistinct same_address xs → IsDistinct same_address ys

noted_by : (xs : List Addr) (a : Addr) (b : Bool) → has_address xs a ≡ b → Noted xs a (cond b xs (xs ++ a ∷ []))
noted_by xs a true e = record {
  grown = ([], simp append-nil);
  each = λ x i. inl i;
  there = has_in xs a e;
  kept = λ x i. i;
  once = λ o. o;
}
noted_by xs a false e = record {
  grown = (a ∷ [], refl);
  each = λ x i. elim (in_append_cases xs (a ∷ []) x i) [ inl j ↦ inl j | inr j ↦ elim j [ inl f ↦ inr f | inr z ↦ absurd z ] ];
  there = in_append_right xs (a ∷ []) a (inl refl);
  kept = λ x i. in_append_left xs (a ∷ []) x i;
  once = λ o. distinct_from (xs ++ a ∷ []) (once_push xs a (once_from xs o) (λ i. false≢true (sym e ∙ in_has xs a i)));
}

pub noted_is : (xs : List Addr) (a : Addr) → Noted xs a (with_address xs a)
noted_is xs a = noted_by xs a (has_address xs a) refl

-- ---- at most as many as there are

-- the list without the first x
abbrev without : (xs : List Addr) (x : Addr) → In xs x → List Addr
without [] x i = absurd i
without (y ∷ ys) x (inl e) = ys
without (y ∷ ys) x (inr i) = y ∷ without ys x i

without_length : (xs : List Addr) (x : Addr) (i : In xs x) → length xs ≡ suc (length (without xs x i))
without_length [] x i = absurd i
without_length (y ∷ ys) x (inl e) = refl
without_length (y ∷ ys) x (inr i) = ap suc (without_length ys x i)

without_in : (xs : List Addr) (x : Addr) (i : In xs x) (z : Addr) → In xs z → (x ≡ z → ⊥) → In (without xs x i) z
without_in [] x i z j n = absurd i
without_in (y ∷ ys) x (inl e) z (inl f) n = absurd (n (sym e ∙ f))
without_in (y ∷ ys) x (inl e) z (inr j) n = j
without_in (y ∷ ys) x (inr i) z (inl f) n = inl f
without_in (y ∷ ys) x (inr i) z (inr j) n = inr (without_in ys x i z j n)

pub once_within : (xs ys : List Addr) → Once xs → ((a : Addr) → In xs a → In ys a) → length xs ≤ length ys
once_within [] ys o h = omega arith
once_within (x ∷ xs) ys o h =
    let i = h x (inl refl) in
    let rest : (a : Addr) → In xs a → In (without ys x i) a = λ (a : Addr) (j : In xs a). without_in ys x i a (h a (inr j)) (λ (e : x ≡ a). o.0 (contains_from_in xs x (subst (λ (b : Addr). In xs b) (sym e) j))) in
    let le : length xs ≤ length (without ys x i) = once_within xs (without ys x i) o.1 rest in
    let n : length ys ≡ suc (length (without ys x i)) = without_length ys x i in
    omega arith
