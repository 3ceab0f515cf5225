-- Writes to different indices of a list commute.
use Rattle.schedule_laws.proofs.Common.{◌≡◌, ℕ, zero, suc, ◌<◌, Option, Some, None, List, [], ◌∷◌, ◌++◌, length, slice_get, slice_set, inl, inr, refl, ap, sym, subst, ◌∙◌, length-set, cases_eq, set-set, set_comm, set-append_left, got_front, got_other, got_same, got_within, Name, Object, Task, object_at, row_of, Change, Same, Grows, Edits, Edit, changed, edited, edited_row, put_in}

-- TASKS

-- this holds of each index written
abbrev pub AllAt : (ℕ → Type 0) → List (ℕ × Task) → Type 0
AllAt P [] = Unit {0}
AllAt P (x ∷ xs) = P x.0 × AllAt P xs

pub all_at : (P Q : ℕ → Type 0) → ((k : ℕ) → P k → Q k) → (xs : List (ℕ × Task)) → AllAt P xs → AllAt Q xs
all_at P Q each [] h = tt
all_at P Q each (x ∷ xs) h = (each x.0 h.0, all_at P Q each xs h.1)

abbrev pub sets : List (ℕ × Task) → List Task → List Task
sets [] ts = ts
sets (x ∷ xs) ts = sets xs (slice_set ts x.0 x.1)

pub sets_length : (xs : List (ℕ × Task)) (ts : List Task) → length (sets xs ts) ≡ length ts
sets_length [] ts = refl
sets_length (x ∷ xs) ts = sets_length xs (slice_set ts x.0 x.1) ∙ length-set ts x.0 x.1

pub sets_other : (xs : List (ℕ × Task)) (ts : List Task) (k : ℕ) → AllAt (λ j. k ≡ j → ⊥) xs → slice_get (sets xs ts) k ≡ slice_get ts k
sets_other [] ts k h = refl
sets_other (x ∷ xs) ts k h = sets_other xs (slice_set ts x.0 x.1) k h.1 ∙ got_other ts x.0 k x.1 h.0

pub sets_front : (xs : List (ℕ × Task)) (ts more : List Task) → AllAt (λ k. k < length ts) xs → sets xs (ts ++ more) ≡ sets xs ts ++ more
sets_front [] ts more h = refl
sets_front (x ∷ xs) ts more h =
    ap (sets xs) (set-append_left ts more x.0 x.1 h.0)
    ∙ sets_front xs (slice_set ts x.0 x.1) more (subst (λ n. AllAt (λ k. k < n) xs) (sym (length-set ts x.0 x.1)) h.1)

set_past : (xs : List (ℕ × Task)) (ts : List Task) (k : ℕ) (z : Task) → AllAt (λ j. k ≡ j → ⊥) xs → slice_set (sets xs ts) k z ≡ sets xs (slice_set ts k z)
set_past [] ts k z h = refl
set_past (x ∷ xs) ts k z h = set_past xs (slice_set ts x.0 x.1) k z h.1 ∙ ap (sets xs) (sym (set_comm ts k x.0 z x.1 h.0))

pub sets_swap : (xs ys : List (ℕ × Task)) (ts : List Task) → AllAt (λ k. AllAt (λ j. k ≡ j → ⊥) ys) xs → sets xs (sets ys ts) ≡ sets ys (sets xs ts)
sets_swap [] ys ts h = refl
sets_swap (x ∷ xs) ys ts h = ap (sets xs) (set_past ys ts x.0 x.1 h.0) ∙ sets_swap xs ys (slice_set ts x.0 x.1) h.1

-- THE STORE

abbrev alter : List (List Object) → ℕ → (List Object → List Object) → List (List Object)
alter store k h = slice_set store k (h (row_of (slice_get store k)))

alter_other : (store : List (List Object)) (j k : ℕ) (g h : List Object → List Object) → (j ≡ k → ⊥) → alter (alter store j g) k h ≡ alter (alter store k h) j g
alter_other store j k g h ne =
    ap (λ w. slice_set (alter store j g) k (h (row_of w))) (got_other store j k (g (row_of (slice_get store j))) (λ e. ne (sym e)))
    ∙ (set_comm store j k (g (row_of (slice_get store j))) (h (row_of (slice_get store k))) ne
    ∙ ap (λ w. slice_set (alter store k h) j (g (row_of w))) (sym (got_other store k j (h (row_of (slice_get store k))) ne)))

alter_here : (store : List (List Object)) (k : ℕ) (row : List Object) (g h : List Object → List Object) → slice_get store k ≡ Some row → alter (alter store k g) k h ≡ slice_set store k (h (g row))
alter_here store k row g h is =
    ap (λ w. slice_set (alter store k g) k (h (row_of w))) (got_same store k row (g (row_of (slice_get store k))) is)
    ∙ (set-set store k (g (row_of (slice_get store k))) (h (g (row_of (slice_get store k)))) ∙ ap (λ w. slice_set store k (h (g (row_of w)))) is)

alter_same : (store : List (List Object)) (j k : ℕ) (row : List Object) (g h : List Object → List Object) → j ≡ k → slice_get store k ≡ Some row → h (g row) ≡ g (h row) → alter (alter store j g) k h ≡ alter (alter store k h) j g
alter_same store j k row g h e is same =
    subst (λ i. alter (alter store i g) k h ≡ alter (alter store k h) i g) (sym e)
    (alter_here store k row g h is ∙ (ap (slice_set store k) same ∙ sym (alter_here store k row h g is)))

-- an object's row is there
row_at : (store : List (List Object)) (n : Name) (o : Object) → object_at store n ≡ Some o → (row : List Object) × (slice_get store n.task ≡ Some row) × (slice_get row n.count ≡ Some o)
row_at store n o is = row_at_by_cases (slice_get store n.task) refl is
  where
    row_at_by_cases : (w : Option (List Object)) → slice_get store n.task ≡ w → slice_get (row_of w) n.count ≡ Some o → (row : List Object) × (slice_get store n.task ≡ Some row) × (slice_get row n.count ≡ Some o)
    row_at_by_cases None e h = absurd cc
    row_at_by_cases (Some row) e h = (row, e, h)

abbrev pub Stored : List (List Object) → Change → Type 0
Stored store Same = Unit {0}
Stored store (Grows o) = Unit {0}
Stored store (Edits n e) = (o : Object) × (object_at store n ≡ Some o)

-- two edits of one object commute
abbrev pub Agree : Change → Change → Type 0
Agree (Edits n e) (Edits k d) = n ≡ k → (o : Object) → edited e (edited d o) ≡ edited d (edited e o)
Agree a b = Unit {0}

edit_push : (row : List Object) (o : Object) (c : ℕ) (e : Edit) (old : Object) → slice_get row c ≡ Some old → edited_row (row ++ o ∷ []) c e ≡ edited_row row c e ++ o ∷ []
edit_push row o c e old is =
    ap (put_in (row ++ o ∷ []) c e) (front row c is) ∙ (set-append_left row (o ∷ []) c (edited e old) (got_within row c old is) ∙ ap (λ w. put_in row c e w ++ o ∷ []) (sym is))
  where
    front : (row : List Object) (c : ℕ) → slice_get row c ≡ Some old → slice_get (row ++ o ∷ []) c ≡ Some old
    front [] c h = absurd cc
    front (z ∷ zs) zero h = h
    front (z ∷ zs) (suc c) h = front zs c h

edit_edit : (row : List Object) (c c' : ℕ) (e d : Edit) (old old' : Object) → slice_get row c ≡ Some old → slice_get row c' ≡ Some old' → (c ≡ c' → edited e (edited d old) ≡ edited d (edited e old))
    → edited_row (edited_row row c' d) c e ≡ edited_row (edited_row row c e) c' d
edit_edit row c c' e d old old' is is' same = elim (cases_eq c c') [
  | inl h ↦ subst (λ j. edited_row (edited_row row j d) c e ≡ edited_row (edited_row row c e) j d) h (edit_edit_here e d is (same h) ∙ sym (edit_edit_here d e is refl))
  | inr ne ↦ apart row c c' e d old old' is is' ne ∙ (set_comm row c' c (edited d old') (edited e old) (λ h. ne (sym h)) ∙ sym (apart row c' c d e old' old is' is (λ h. ne (sym h))))
]
  where
    edit_edit_here : (e d : Edit) → slice_get row c ≡ Some old → {z : Object} → edited e (edited d old) ≡ z → edited_row (edited_row row c d) c e ≡ slice_set row c z
    edit_edit_here e d is {z} h =
        ap (λ w. edited_row (put_in row c d w) c e) is
        ∙ (ap (put_in (slice_set row c (edited d old)) c e) (got_same row c old (edited d old) is) ∙ (set-set row c (edited d old) (edited e (edited d old)) ∙ ap (slice_set row c) h))

    apart : (row : List Object) (c c' : ℕ) (e d : Edit) (old old' : Object) → slice_get row c ≡ Some old → slice_get row c' ≡ Some old' → (c ≡ c' → ⊥)
        → edited_row (edited_row row c' d) c e ≡ slice_set (slice_set row c' (edited d old')) c (edited e old)
    apart row c c' e d old old' is is' ne =
        ap (λ w. edited_row (put_in row c' d w) c e) is' ∙ ap (put_in (slice_set row c' (edited d old')) c e) (got_other row c' c (edited d old') ne ∙ is)

-- the changes of two tasks
module _ (store : List (List Object)) (t u : ℕ) (two : t ≡ u → ⊥) (row_t row_u : List Object) (it : slice_get store t ≡ Some row_t) (iu : slice_get store u ≡ Some row_u) where
  grow_edit : (t : ℕ) (row : List Object) → slice_get store t ≡ Some row → (o : Object) (n : Name) (e : Edit) (old : Object) → object_at store n ≡ Some old
      → alter (alter store t (λ r. r ++ o ∷ [])) n.task (λ r. edited_row r n.count e) ≡ alter (alter store n.task (λ r. edited_row r n.count e)) t (λ r. r ++ o ∷ [])
  grow_edit t row it o n e old is = elim (cases_eq t n.task) [
    | inr ne ↦ alter_other store t n.task (λ r. r ++ o ∷ []) (λ r. edited_row r n.count e) ne
    | inl h ↦
        let z = row_at store n old is in
        alter_same store t n.task z.0 (λ r. r ++ o ∷ []) (λ r. edited_row r n.count e) h z.1 (edit_push z.0 o n.count e old z.2)
  ]

  pub changes_swap : (a b : Change) → Stored store a → Stored store b → Agree a b → changed a t (changed b u store) ≡ changed b u (changed a t store)
  changes_swap Same b sa sb ab = refl
  changes_swap (Grows o) Same sa sb ab = refl
  changes_swap (Grows o) (Grows q) sa sb ab = alter_other store u t (λ r. r ++ q ∷ []) (λ r. r ++ o ∷ []) (λ e. two (sym e))
  changes_swap (Grows o) (Edits n e) sa sb ab = sym (grow_edit t row_t it o n e sb.0 sb.1)
  changes_swap (Edits n e) Same sa sb ab = refl
  changes_swap (Edits n e) (Grows o) sa sb ab = grow_edit u row_u iu o n e sa.0 sa.1
  changes_swap (Edits n e) (Edits k d) sa sb ab = elim (cases_eq k.task n.task) [
    | inr ne ↦ alter_other store k.task n.task (λ r. edited_row r k.count d) (λ r. edited_row r n.count e) ne
    | inl h ↦
        let z = row_at store n sa.0 sa.1 in
        let z' = row_at store k sb.0 sb.1 in
        let same : z'.0 ≡ z.0 = same_row z'.0 z.0 (sym z'.1 ∙ (ap (slice_get store) h ∙ z.1)) in
        alter_same store k.task n.task z.0 (λ r. edited_row r k.count d) (λ r. edited_row r n.count e) h z.1
        (edit_edit z.0 n.count k.count e d sa.0 sb.0 z.2 (ap (λ (w : List Object). slice_get w k.count) (sym same) ∙ z'.2) (λ c. ab (λ i. record { task = sym h i; count = c i }) sa.0))
  ]
    where
      same_row : (a b : List Object) → Some a ≡ Some b → a ≡ b
      same_row a b e = cc

pub changed_length : (op : Change) (t : ℕ) (store : List (List Object)) → length (changed op t store) ≡ length store
changed_length Same t store = refl
changed_length (Grows o) t store = length-set store t (row_of (slice_get store t) ++ o ∷ [])
changed_length (Edits n e) t store = length-set store n.task (edited_row (row_of (slice_get store n.task)) n.count e)

-- later rows are unchanged
pub changed_front : (op : Change) (t : ℕ) (store more : List (List Object)) → t < length store → Stored store op → changed op t (store ++ more) ≡ changed op t store ++ more
changed_front Same t store more lt s = refl
changed_front (Grows o) t store more lt s =
    ap (λ w. slice_set (store ++ more) t (row_of w ++ o ∷ [])) (got_front store more t lt) ∙ set-append_left store more t (row_of (slice_get store t) ++ o ∷ []) lt
changed_front (Edits n e) t store more lt s =
    let z = row_at store n s.0 s.1 in
    let within : n.task < length store = got_within store n.task z.0 z.1 in
    ap (λ w. slice_set (store ++ more) n.task (edited_row (row_of w) n.count e)) (got_front store more n.task within) ∙ set-append_left store more n.task (edited_row (row_of (slice_get store n.task)) n.count e) within
