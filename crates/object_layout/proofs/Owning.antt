-- A chunk is found by its number if and only if the list has it.
use Rattle.object_layout.proofs.Common.{◌≡◌, ℕ, suc, ◌+◌, Bool, true, false, cond, ◌||◌, List, [], ◌∷◌, ◌++◌, length, refl, sym, ap, ap₂, ◌∙◌, inl, inr, eqb, arith, Some, None, is_some, nat_lt, ◌↔◌, list_any, cases_Bool, eq-eqb, false≢true, lt-ltb, ne_eqb, or_from, or_parts, list_any-append, or-false, or-true, none_of, ChunkValue, ApartTogether, has_chunk, place_in, chunk_position, HaveDistinctNumbers, IsFresh}

-- the list's length stands for none
has_by_place : (ks : List ChunkValue) (n : ℕ) → nat_lt (chunk_position ks n) (length ks) ≡ list_any (λ k. eqb k.number n) ks
has_by_place [] n = refl
has_by_place (k ∷ ks) n =
    elim (cases_Bool (eqb k.number n)) [
      | inl e ↦ rw e (lt-ltb 0 (length (k ∷ ks)) (omega arith))
      | inr e ↦ rw e (shift (chunk_position ks n) (length ks) ∙ has_by_place ks n)
    ]
  where
    shift : (a b : ℕ) → nat_lt (1 + a) (suc b) ≡ nat_lt a b
    shift a b = grind arith

some_by : (b : Bool) (i : ℕ) → is_some (cond b (Some i) None) ≡ b
some_by true i = refl
some_by false i = refl

pub found_any : (ks : List ChunkValue) (n : ℕ) → has_chunk ks n ≡ list_any (λ k. eqb k.number n) ks
found_any ks n = some_by (nat_lt (chunk_position ks n) (length ks)) (chunk_position ks n) ∙ has_by_place ks n

pub fresh_none : (ks : List ChunkValue) (n : ℕ) → IsFresh ks n ↔ (has_chunk ks n ≡ false)
fresh_none ks n = ((λ e. ap is_some e), (λ e. none_of (place_in ks n) e))

-- a concatenation has the chunks of both lists
pub has_append : (ks ls : List ChunkValue) (n : ℕ) → has_chunk (ks ++ ls) n ≡ (has_chunk ks n || has_chunk ls n)
has_append ks ls n =
    found_any (ks ++ ls) n
    ∙ (list_any-append (λ (k : ChunkValue). eqb k.number n) ks ls ∙ sym (ap₂ (λ x y. x || y) (found_any ks n) (found_any ls n)))

pub has_one : (k : ChunkValue) (n : ℕ) → has_chunk (k ∷ []) n ≡ eqb k.number n
has_one k n = found_any (k ∷ []) n ∙ or-false (eqb k.number n)

any_first : (k : ChunkValue) (ks : List ChunkValue) → has_chunk (k ∷ ks) k.number ≡ true
any_first k ks = found_any (k ∷ ks) k.number ∙ ap (λ b. b || list_any (λ y. eqb y.number k.number) ks) (eq-eqb k.number k.number refl)

any_rest : (k : ChunkValue) (ks : List ChunkValue) (n : ℕ) → has_chunk ks n ≡ true → has_chunk (k ∷ ks) n ≡ true
any_rest k ks n e = found_any (k ∷ ks) n ∙ (ap (λ b. eqb k.number n || b) (sym (found_any ks n) ∙ e) ∙ or-true (eqb k.number n))

pub apart_together : ApartTogether
apart_together [] ls A B off = B
apart_together (k ∷ ks) ls A B off = (
  (fresh_none (ks ++ ls) k.number).1
      (has_append ks ls k.number ∙ or_from (has_chunk ks k.number) (has_chunk ls k.number) ((fresh_none ks k.number).0 A.0) (off k.number (any_first k ks))),
  apart_together ks ls A.1 B (λ n e. off n (any_rest k ks n e)),
)

-- chunks stay distinct if a fresh one is added
pub apart_more : (ks : List ChunkValue) (k : ChunkValue) → HaveDistinctNumbers ks → has_chunk ks k.number ≡ false → HaveDistinctNumbers (ks ++ k ∷ [])
apart_more [] k A f = ((fresh_none [] k.number).1 refl, tt)
apart_more (x ∷ xs) k A f =
    let both : (eqb x.number k.number || list_any (λ y. eqb y.number k.number) xs) ≡ false = sym (found_any (x ∷ xs) k.number) ∙ f in
    let ne : eqb x.number k.number ≡ false = (or_parts (eqb x.number k.number) (list_any (λ y. eqb y.number k.number) xs) both).0 in
    let rest : has_chunk xs k.number ≡ false = found_any xs k.number ∙ (or_parts (eqb x.number k.number) (list_any (λ y. eqb y.number k.number) xs) both).1 in
    let apart : eqb k.number x.number ≡ false = ne_eqb k.number x.number (λ e. eq_false x.number k.number ne (sym e)) in (
      (fresh_none (xs ++ k ∷ []) x.number).1
          (has_append xs (k ∷ []) x.number ∙ or_from (has_chunk xs x.number) (has_chunk (k ∷ []) x.number) ((fresh_none xs x.number).0 A.0) (has_one k x.number ∙ apart)),
      apart_more xs k A.1 rest,
    )
  where
    eq_false : (a b : ℕ) → eqb a b ≡ false → a ≡ b → ⊥
    eq_false a b e f = false≢true (sym e ∙ eq-eqb a b f)
