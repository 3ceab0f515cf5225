-- Updating remembered fields one after another is the same as updating them together.
use Rattle.core_invariant.proofs.Common.{◌≡◌, ℕ, zero, suc, ◌+◌, ◌==◌, ◌&&◌, ◌||◌, arith, Bool, true, false, cond, Option, None, List, [], ◌∷◌, map, inl, inr, refl, ap, ap₂, sym, ◌∙◌, eq-eqb, slice_index_or, slice_set, list_any, eqb-true, false≢true, Addr, Located, RefField, Chunk, Belongings, In, is_source, mapped_chunk, mapped_belongings, objects_of_chunks, rewritten, rewritten_belongings, rewritten_refs, in_chunk, in_objects}
use Rattle.std.specs.Option.{option_map}

-- ---- ONE SOURCE AFTER ANOTHER

-- a field that the source is, updated; any other unchanged
abbrev pub lead_refs : (Addr → Addr) → RefField → Addr → ℕ → List (Option Addr) → List (Option Addr)
lead_refs f s a i [] = []
lead_refs f s a i (r ∷ rs) = cond (is_source a i s) (option_map f r) r ∷ lead_refs f s a (suc i) rs

abbrev pub lead_one : (Addr → Addr) → RefField → Located → Located
lead_one f s o = record o { refs = lead_refs f s o.at 0 o.refs }

-- updating one after another is updating together, if the sources are distinct
abbrev pub AreOnce : List RefField → Type 0
AreOnce [] = Unit {0}
AreOnce (s ∷ ss) = (list_any (is_source s.object s.field) ss ≡ false) × AreOnce ss

is_source_same : (a : Addr) (i : ℕ) (s : RefField) → is_source a i s ≡ true → (s.object ≡ a) × (s.field ≡ i)
is_source_same a i s e = is_source_same_by_cases (s.object.chunk == a.chunk) (s.object.offset == a.offset) (s.field == i) refl refl refl e
  where
    is_source_same_by_cases : (x y z : Bool) → (s.object.chunk == a.chunk) ≡ x → (s.object.offset == a.offset) ≡ y → (s.field == i) ≡ z → (x && (y && z)) ≡ true → (s.object ≡ a) × (s.field ≡ i)
    is_source_same_by_cases true true true c o k h = (let q : s.object.chunk ≡ a.chunk = eqb-true s.object.chunk a.chunk c in let r : s.object.offset ≡ a.offset = eqb-true s.object.offset a.offset o in λ j. record { chunk = q j; offset = r j }, eqb-true s.field i k)
    is_source_same_by_cases true true false c o k h = absurd (false≢true h)
    is_source_same_by_cases true false z c o k h = absurd (false≢true h)
    is_source_same_by_cases false y z c o k h = absurd (false≢true h)

refs_together : (f : Addr → Addr) (s : RefField) (ss : List RefField) (a : Addr) (i : ℕ) (rs : List (Option Addr)) → list_any (is_source s.object s.field) ss ≡ false → rewritten_refs f ss a i (lead_refs f s a i rs) ≡ rewritten_refs f (s ∷ ss) a i rs
refs_together f s ss a i [] once = refl
refs_together f s ss a i (r ∷ rs) once = ap₂ (λ x xs. x ∷ xs) (refs_together_by_cases (is_source a i s) (list_any (is_source a i) ss) refl refl) (refs_together f s ss a (suc i) rs once)
  where
    refs_together_by_cases : (x y : Bool) → is_source a i s ≡ x → list_any (is_source a i) ss ≡ y → cond y (option_map f (cond x (option_map f r) r)) (cond x (option_map f r) r) ≡ cond (x || y) (option_map f r) r
    refs_together_by_cases true false e q = refl
    refs_together_by_cases true true e q =
        let at = is_source_same a i s e in
        absurd (false≢true (sym once ∙ (ap₂ (λ b k. list_any (is_source b k) ss) at.0 at.1 ∙ q)))
    refs_together_by_cases false true e q = refl
    refs_together_by_cases false false e q = refl

pub one_together : (f : Addr → Addr) (s : RefField) (ss : List RefField) (o : Located) → list_any (is_source s.object s.field) ss ≡ false → rewritten f ss (lead_one f s o) ≡ rewritten f (s ∷ ss) o
one_together f s ss o once = ap (λ rs. record o { refs = rs }) (refs_together f s ss o.at 0 o.refs once)

none_rewritten : (f : Addr → Addr) (a : Addr) (i : ℕ) (rs : List (Option Addr)) → rewritten_refs f [] a i rs ≡ rs
none_rewritten f a i [] = refl
none_rewritten f a i (r ∷ rs) = ap (λ xs. r ∷ xs) (none_rewritten f a (suc i) rs)

-- belongings
objects_each : (one two : Located → Located) (os : List Located) → ((o : Located) → In os o → one o ≡ two o) → map one os ≡ map two os
objects_each one two [] h = refl
objects_each one two (o ∷ os) h = ap₂ (λ x xs. x ∷ xs) (h o (inl refl)) (objects_each one two os (λ q i. h q (inr i)))

chunks_each : (one two : Located → Located) (ks : List Chunk) → ((o : Located) → In (objects_of_chunks ks) o → one o ≡ two o) → map (mapped_chunk one) ks ≡ map (mapped_chunk two) ks
chunks_each one two [] h = refl
chunks_each one two (k ∷ ks) h =
    ap₂ (λ x xs. record k { objects = x } ∷ xs) (objects_each one two k.objects (λ o i. h o (in_objects (k ∷ ks) k o (inl refl) i)))
    (chunks_each one two ks (λ o i. let c = in_chunk ks o i in h o (in_objects (k ∷ ks) c.0 o (inr c.1) c.2)))

pub belongings_each : (one two : Located → Located) (h : Belongings) → ((o : Located) → In (objects_of_chunks h.chunks) o → one o ≡ two o) → mapped_belongings one h ≡ mapped_belongings two h
belongings_each one two h e = ap (λ ks. record h { chunks = ks }) (chunks_each one two h.chunks e)

objects_same : (os : List Located) → map (λ (o : Located). o) os ≡ os
objects_same [] = refl
objects_same (o ∷ os) = ap (λ xs. o ∷ xs) (objects_same os)

chunks_none : (ks : List Chunk) → map (mapped_chunk (λ (o : Located). o)) ks ≡ ks
chunks_none [] = refl
chunks_none (k ∷ ks) = ap₂ (λ x xs. record k { objects = x } ∷ xs) (objects_same k.objects) (chunks_none ks)

-- if no object changes
pub mapped_belongings_stay : (one : Located → Located) (h : Belongings) → ((o : Located) → In (objects_of_chunks h.chunks) o → one o ≡ o) → mapped_belongings one h ≡ h
mapped_belongings_stay one h e = belongings_each one (λ o. o) h e ∙ ap (λ ks. record h { chunks = ks }) (chunks_none h.chunks)

objects_twice : (one two : Located → Located) (os : List Located) → map one (map two os) ≡ map (λ o. one (two o)) os
objects_twice one two [] = refl
objects_twice one two (o ∷ os) = ap (λ xs. one (two o) ∷ xs) (objects_twice one two os)

chunks_twice : (one two : Located → Located) (ks : List Chunk) → map (mapped_chunk one) (map (mapped_chunk two) ks) ≡ map (mapped_chunk (λ o. one (two o))) ks
chunks_twice one two [] = refl
chunks_twice one two (k ∷ ks) = ap₂ (λ x xs. record k { objects = x } ∷ xs) (objects_twice one two k.objects) (chunks_twice one two ks)

pub belongings_together : (f : Addr → Addr) (s : RefField) (ss : List RefField) (h : Belongings) → list_any (is_source s.object s.field) ss ≡ false → rewritten_belongings f ss (mapped_belongings (lead_one f s) h) ≡ rewritten_belongings f (s ∷ ss) h
belongings_together f s ss h once =
    ap (λ ks. record h { chunks = ks }) (chunks_twice (rewritten f ss) (lead_one f s) h.chunks)
    ∙ belongings_each (λ o. rewritten f ss (lead_one f s o)) (rewritten f (s ∷ ss)) h (λ o i. one_together f s ss o once)

pub none_belongings : (f : Addr → Addr) (h : Belongings) → rewritten_belongings f [] h ≡ h
none_belongings f h = mapped_belongings_stay (rewritten f []) h (λ o i. ap (λ rs. record o { refs = rs }) (none_rewritten f o.at 0 o.refs))

-- ---- THE REFERENCES OF ONE OBJECT

source_off : (a : Addr) (i : ℕ) (s : RefField) → (s.object ≡ a → s.field ≡ i → ⊥) → is_source a i s ≡ false
source_off a i s ne = source_off_by_cases (is_source a i s) refl
  where
    source_off_by_cases : (b : Bool) → is_source a i s ≡ b → b ≡ false
    source_off_by_cases true e = let at = is_source_same a i s e in absurd (ne at.0 at.1)
    source_off_by_cases false e = refl

source_on : (a : Addr) (i : ℕ) (s : RefField) → s.object ≡ a → s.field ≡ i → is_source a i s ≡ true
source_on a i s e q = ap₂ (λ x y. x && y) (eq-eqb s.object.chunk a.chunk (ap (λ (z : Addr). z.chunk) e)) (ap₂ (λ x y. x && y) (eq-eqb s.object.offset a.offset (ap (λ (z : Addr). z.offset) e)) (eq-eqb s.field i q))

-- after the field, and in another object, nothing is updated
pub lead_off : (f : Addr → Addr) (s : RefField) (a : Addr) (i : ℕ) (rs : List (Option Addr)) → ((k : ℕ) → s.object ≡ a → s.field ≡ i + k → ⊥) → lead_refs f s a i rs ≡ rs
lead_off f s a i [] ne = refl
lead_off f s a i (r ∷ rs) ne =
    ap₂ (λ b xs. cond b (option_map f r) r ∷ xs) (source_off a i s (λ e q. ne 0 e (let z : s.field ≡ i + 0 = omega (arith, q) in z)))
    (lead_off f s a (suc i) rs (λ k e q. ne (suc k) e (let z : s.field ≡ i + suc k = omega (arith, q) in z)))

pub lead_at : (f : Addr → Addr) (s : RefField) (a : Addr) (i j : ℕ) (rs : List (Option Addr)) → s.object ≡ a → s.field ≡ i + j → lead_refs f s a i rs ≡ slice_set rs j (option_map f (slice_index_or rs j None))
lead_at f s a i j [] e q = refl
lead_at f s a i zero (r ∷ rs) e q =
    ap₂ (λ b xs. cond b (option_map f r) r ∷ xs) (source_on a i s e (let z : s.field ≡ i = omega (arith, q) in z))
    (lead_off f s a (suc i) rs (λ k d p. omega (arith, q, p)))
lead_at f s a i (suc j) (r ∷ rs) e q =
    ap₂ (λ b xs. cond b (option_map f r) r ∷ xs) (source_off a i s (λ d p. omega (arith, q, p)))
    (lead_at f s a (suc i) j rs e (let z : s.field ≡ suc i + j = omega (arith, q) in z))

pub set_itself : (rs : List (Option Addr)) (j : ℕ) (x : Option Addr) → slice_index_or rs j None ≡ x → slice_set rs j x ≡ rs
set_itself [] j x e = refl
set_itself (r ∷ rs) zero x e = ap (λ z. z ∷ rs) (sym e)
set_itself (r ∷ rs) (suc j) x e = ap (λ zs. r ∷ zs) (set_itself rs j x e)
