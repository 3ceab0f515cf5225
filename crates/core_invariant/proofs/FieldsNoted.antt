-- The contents of sets of remembered fields, as the relation has them, and numbers of chunks.
use Rattle.core_invariant.proofs.Common.{◌≡◌, ℕ, ◌==◌, ◌&&◌, Bool, true, false, Option, Some, None, List, [], ◌∷◌, option_map, inl, inr, refl, ap, ap₂, sym, ◌∙◌, eq-eqb, All, subst, list_any, eqb-true, false≢true, cases_eq, All-head, All-tail, any_from_in, in_from_any, none_some, ChunkValue, Slot, PoolValue, slot_at, owner_of, IsFresh, fresh_cons, RefField, StandOnce, same_source, SetOf, Content, content_of, In, Noted, is_source, noted_in, sources_of}
use Rattle.core_invariant.proofs.FieldsLedTogether.{AreOnce}

-- ---- WHAT IS NOTED, by what a set holds

abbrev pub noted_of : Option Content → Noted
noted_of None = record { sources = []; kept = []; keeps = false; marked = None }
noted_of (Some c) = record { sources = c.sources; kept = c.kept; keeps = c.keeps; marked = None }

pub noted_is : (o : Option SetOf) → noted_in o ≡ noted_of (option_map content_of o)
noted_is None = refl
noted_is (Some s) = refl

-- ---- SOURCES

pub noted_sources : (o : Option SetOf) → (noted_in o).sources ≡ sources_of o
noted_sources None = refl
noted_sources (Some s) = refl

same_at : (s x : RefField) → is_source s.object s.field x ≡ true → same_source s x ≡ true
same_at s x e = same_at_by_cases (x.object.chunk == s.object.chunk) (x.object.offset == s.object.offset) (x.field == s.field) refl refl refl e
  where
    same_at_by_cases : (a b c : Bool) → (x.object.chunk == s.object.chunk) ≡ a → (x.object.offset == s.object.offset) ≡ b → (x.field == s.field) ≡ c → (a && (b && c)) ≡ true → same_source s x ≡ true
    same_at_by_cases true true true p q r h =
        let c : x.object.chunk ≡ s.object.chunk = eqb-true x.object.chunk s.object.chunk p in
        let o : x.object.offset ≡ s.object.offset = eqb-true x.object.offset s.object.offset q in
        let f : x.field ≡ s.field = eqb-true x.field s.field r in
        ap₂ (λ u v. u && v) (ap₂ (λ u v. u && v) (eq-eqb s.object.chunk x.object.chunk (sym c)) (eq-eqb s.object.offset x.object.offset (sym o))) (eq-eqb s.field x.field (sym f))
    same_at_by_cases true true false p q r h = absurd (false≢true h)
    same_at_by_cases true false c p q r h = absurd (false≢true h)
    same_at_by_cases false b c p q r h = absurd (false≢true h)

pub are_once : (ss : List RefField) → StandOnce ss → AreOnce ss
are_once [] o = tt
are_once (s ∷ ss) o = (off (list_any (is_source s.object s.field) ss) refl, are_once ss o.1)
  where
    off : (b : Bool) → list_any (is_source s.object s.field) ss ≡ b → b ≡ false
    off false e = refl
    off true e =
        let y = in_from_any (is_source s.object s.field) ss e in
        absurd (false≢true (sym o.0 ∙ any_from_in (same_source s) ss y.0 y.1 (same_at s y.0 y.2)))

-- ---- NUMBERS

pub fresh_by : (ks : List ChunkValue) (n : ℕ) → ((k : ChunkValue) → In ks k → k.number ≡ n → ⊥) → IsFresh ks n
fresh_by [] n f = refl
fresh_by (k ∷ ks) n f = fresh_cons k ks n (f k (inl refl)) (fresh_by ks n (λ j i. f j (inr i)))

pub owner_none : (pool : PoolValue) (n u : ℕ) → slot_at pool n ≡ None → owner_of pool n ≡ Some u → ⊥
owner_none pool n u e o = none_some (ap (option_map (λ (h : Slot). h.owner)) (sym e) ∙ o)

-- the owner of a chunk after these were released owned it before
pub owned_before : (old new : PoolValue) (gs : List ChunkValue) (n u : ℕ) → All (λ c. slot_at new c.number ≡ None) gs → (IsFresh gs n → slot_at new n ≡ slot_at old n) → owner_of new n ≡ Some u → owner_of old n ≡ Some u
owned_before old new [] n u free other o = sym (ap (option_map (λ (h : Slot). h.owner)) (other refl)) ∙ o
owned_before old new (c ∷ gs) n u free other o = elim (cases_eq c.number n) [
  | inl q ↦ absurd (owner_none new n u (subst (λ z. slot_at new z ≡ None) q (All-head (λ (c : ChunkValue). slot_at new c.number ≡ None) c gs free)) o)
  | inr ne ↦ owned_before old new gs n u (All-tail (λ (c : ChunkValue). slot_at new c.number ≡ None) c gs free) (λ fr. other (fresh_cons c gs n ne fr)) o
]
