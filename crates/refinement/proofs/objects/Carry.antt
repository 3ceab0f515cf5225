-- Reading through one address map after another.
use Rattle.refinement.proofs.Common.{◌≡◌, ℕ, ℤ, zero, suc, ◌+◌, ◌==◌, ◌&&◌, Bool, true, false, cond, arith, unwrap_or, Option, Some, None, List, [], ◌∷◌, map, slice_get, slice_set, ◌⊎◌, inl, inr, refl, ap, sym, subst, ◌∙◌, option_flatten, option_map, list_any, both_ways, and_from, eq-eqb, in_append_left, in_append_right, any_from_in, Addr, Located, Name, Object, Frame as ModelFrame, TaskStatus, Running, Waiting, Ended, Joined, Task, names_of_references, registers, names_from, task_names, named_from_in, CallFrame, led_frame, RefField, In, Belongings, is_source, rewritten_refs, ReadsReference, AllRead, IsModelObject, FrameIsRead, FramesAreRead, HoldsRead, TaskIsRead}

-- a map with the same addresses for the names that are read
pub read_kept : (at at' : Name → Addr → Type 0) (r : Option Addr) (x : Option Name) → ((n : Name) → x ≡ Some n → (a : Addr) → at n a → at' n a) → ReadsReference at r x → ReadsReference at' r x
read_kept at at' None None f h = tt
read_kept at at' None (Some n) f h = absurd h
read_kept at at' (Some a) None f h = absurd h
read_kept at at' (Some a) (Some n) f h = f n refl a h

pub all_kept : (at at' : Name → Addr → Type 0) (rs : List (Option Addr)) (xs : List (Option Name)) → ((n : Name) → In xs (Some n) → (a : Addr) → at n a → at' n a) → AllRead at rs xs → AllRead at' rs xs
all_kept at at' [] [] f h = tt
all_kept at at' [] (x ∷ xs) f h = absurd h
all_kept at at' (r ∷ rs) [] f h = absurd h
all_kept at at' (r ∷ rs) (x ∷ xs) f h = (read_kept at at' r x (λ n e. f n (inl e)) h.0, all_kept at at' rs xs (λ n i. f n (inr i)) h.1)

pub frame_kept : (at at' : Name → Addr → Type 0) (f : CallFrame) (x : ModelFrame) → ((n : Name) → In x.refs (Some n) → (a : Addr) → at n a → at' n a) → FrameIsRead at f x → FrameIsRead at' f x
frame_kept at at' f x g h = record { function = h.function; next = h.next; ints = h.ints; refs = all_kept at at' f.refs x.refs g h.refs }

pub frames_kept : (at at' : Name → Addr → Type 0) (fs : List CallFrame) (xs : List ModelFrame) → ((n : Name) → In (registers xs) n → (a : Addr) → at n a → at' n a) → FramesAreRead at fs xs → FramesAreRead at' fs xs
frames_kept at at' [] [] g h = tt
frames_kept at at' [] (x ∷ xs) g h = absurd h
frames_kept at at' (f ∷ fs) [] g h = absurd h
frames_kept at at' (f ∷ fs) (x ∷ xs) g h = (
  frame_kept at at' f x (λ n i. g n (in_append_left (names_of_references x.refs) (registers xs) n (named_from_in x.refs n i))) h.0,
  frames_kept at at' fs xs (λ n i. g n (in_append_right (names_of_references x.refs) (registers xs) n i)) h.1,
)

-- what a task holds is read through a map that has the same addresses for it
pub task_kept : (at at' : Name → Addr → Type 0) (h : Belongings) (x : Task) → ((n : Name) → In (task_names x) n → (a : Addr) → at n a → at' n a) → TaskIsRead at h x → TaskIsRead at' h x
task_kept at at' h x g k = task_kept_by_cases x.status g k
  where
    task_kept_by_cases : (s : TaskStatus) → ((n : Name) → In (names_from s (x.top ∷ x.below)) n → (a : Addr) → at n a → at' n a) → HoldsRead at h x s → HoldsRead at' h x s
    task_kept_by_cases Running g k = frames_kept at at' h.frames (x.top ∷ x.below) g k
    task_kept_by_cases Waiting g k = frames_kept at at' h.frames (x.top ∷ x.below) g k
    task_kept_by_cases (Ended z r) g k = (k.0, read_kept at at' h.result.1 r (λ n e. g n (subst (λ o. In (names_of_references (o ∷ [])) n) (sym e) (inl refl))) k.1)
    task_kept_by_cases Joined g k = tt

pub object_kept : (at at' : Name → Addr → Type 0) (o : Located) (x : Object) → ((n : Name) → In x.refs (Some n) → (a : Addr) → at n a → at' n a) → IsModelObject at o x → IsModelObject at' o x
object_kept at at' o x g h = record { mutable = h.mutable; refs = all_kept at at' o.refs x.refs g h.refs; ints = h.ints }

-- belongings with the same frames and result
pub same_holding : (at : Name → Addr → Type 0) (h h' : Belongings) (x : Task) → h'.frames ≡ h.frames → h'.result ≡ h.result → TaskIsRead at h x → TaskIsRead at h' x
same_holding at h h' x ef er k = same_holding_by_cases x.status k
  where
    same_holding_by_cases : (s : TaskStatus) → HoldsRead at h x s → HoldsRead at h' x s
    same_holding_by_cases Running k = subst (λ fs. FramesAreRead at fs (x.top ∷ x.below)) (sym ef) k
    same_holding_by_cases Waiting k = subst (λ fs. FramesAreRead at fs (x.top ∷ x.below)) (sym ef) k
    same_holding_by_cases (Ended z r) k = (ap (λ (q : ℤ × Option Addr). q.0) er ∙ k.0, subst (λ (q : ℤ × Option Addr). ReadsReference at q.1 r) (sym er) k.1)
    same_holding_by_cases Joined k = tt

-- MOVED

-- a map in which what is read is where the references are updated to
pub read_led : (at at' : Name → Addr → Type 0) (f : Addr → Addr) (r : Option Addr) (x : Option Name) → ((n : Name) → x ≡ Some n → (a : Addr) → at n a → at' n (f a)) → ReadsReference at r x → ReadsReference at' (option_map f r) x
read_led at at' f None None g h = tt
read_led at at' f None (Some n) g h = absurd h
read_led at at' f (Some a) None g h = absurd h
read_led at at' f (Some a) (Some n) g h = g n refl a h

pub all_led : (at at' : Name → Addr → Type 0) (f : Addr → Addr) (rs : List (Option Addr)) (xs : List (Option Name)) → ((n : Name) → In xs (Some n) → (a : Addr) → at n a → at' n (f a)) → AllRead at rs xs → AllRead at' (map (option_map f) rs) xs
all_led at at' f [] [] g h = tt
all_led at at' f [] (x ∷ xs) g h = absurd h
all_led at at' f (r ∷ rs) [] g h = absurd h
all_led at at' f (r ∷ rs) (x ∷ xs) g h = (read_led at at' f r x (λ n e. g n (inl e)) h.0, all_led at at' f rs xs (λ n i. g n (inr i)) h.1)

pub frames_led : (at at' : Name → Addr → Type 0) (f : Addr → Addr) (fs : List CallFrame) (xs : List ModelFrame) → ((n : Name) → In (registers xs) n → (a : Addr) → at n a → at' n (f a)) → FramesAreRead at fs xs → FramesAreRead at' (map (led_frame (option_map f)) fs) xs
frames_led at at' f [] [] g h = tt
frames_led at at' f [] (x ∷ xs) g h = absurd h
frames_led at at' f (y ∷ fs) [] g h = absurd h
frames_led at at' f (y ∷ fs) (x ∷ xs) g h = (
  record {
    function = h.0.function;
    next = h.0.next;
    ints = h.0.ints;
    refs = all_led at at' f y.refs x.refs (λ n i. g n (in_append_left (names_of_references x.refs) (registers xs) n (named_from_in x.refs n i))) h.0.refs;
  },
  frames_led at at' f fs xs (λ n i. g n (in_append_right (names_of_references x.refs) (registers xs) n i)) h.1,
)

-- REWRITTEN

is_itself : (a : Addr) (i : ℕ) → is_source a i (record { object = a; field = i }) ≡ true
is_itself a i = and_from (a.chunk == a.chunk) ((a.offset == a.offset) && (i == i)) (eq-eqb a.chunk a.chunk refl) (and_from (a.offset == a.offset) (i == i) (eq-eqb a.offset a.offset refl) (eq-eqb i i refl))

-- for each field: it is remembered, and what it names is where its reference is updated to; or what it names is where
-- it was, and its reference isn't updated
abbrev pub Led : (Name → Addr → Type 0) → (Name → Addr → Type 0) → (Addr → Addr) → List RefField → Addr → ℕ → Name → Type 0
Led at at' f ss o i n =
    (In ss (record { object = o; field = i }) × ((a : Addr) → at n a → at' n (f a))) ⊎ ((a : Addr) → at n a → at' n a × (f a ≡ a))

field_led : (at at' : Name → Addr → Type 0) (f : Addr → Addr) (ss : List RefField) (o : Addr) (i : ℕ) (r : Option Addr) (x : Option Name) → ((n : Name) → x ≡ Some n → Led at at' f ss o i n) → (b : Bool) → list_any (is_source o i) ss ≡ b → ReadsReference at r x → ReadsReference at' (cond b (option_map f r) r) x
field_led at at' f ss o i None None g true e h = tt
field_led at at' f ss o i None None g false e h = tt
field_led at at' f ss o i None (Some n) g b e h = absurd h
field_led at at' f ss o i (Some a) None g b e h = absurd h
field_led at at' f ss o i (Some a) (Some n) g true e h = elim (g n refl) [
  | inl p ↦ p.1 a h
  | inr p ↦ let q = p a h in subst (at' n) (sym q.1) q.0
]
field_led at at' f ss o i (Some a) (Some n) g false e h = elim (g n refl) [
  | inl p ↦ absurd (both_ways (list_any (is_source o i) ss) e (any_from_in (is_source o i) ss (record { object = o; field = i }) p.0 (is_itself o i)))
  | inr p ↦ (p a h).0
]

pub all_rewritten : (at at' : Name → Addr → Type 0) (f : Addr → Addr) (ss : List RefField) (o : Addr) (i : ℕ) (rs : List (Option Addr)) (xs : List (Option Name))
    → ((j : ℕ) (n : Name) → slice_get xs j ≡ Some (Some n) → Led at at' f ss o (i + j) n) → AllRead at rs xs → AllRead at' (rewritten_refs f ss o i rs) xs
all_rewritten at at' f ss o i [] [] g h = tt
all_rewritten at at' f ss o i [] (x ∷ xs) g h = absurd h
all_rewritten at at' f ss o i (r ∷ rs) [] g h = absurd h
all_rewritten at at' f ss o i (r ∷ rs) (x ∷ xs) g h = (
  field_led at at' f ss o i r x (λ n e. subst (λ k. Led at at' f ss o k n) (let q : i + 0 ≡ i = omega arith in q) (g 0 n (ap Some e))) (list_any (is_source o i) ss) refl h.0,
  all_rewritten at at' f ss o (suc i) rs xs (λ j n e. subst (λ k. Led at at' f ss o k n) (let q : i + suc j ≡ suc i + j = omega arith in q) (g (suc j) n e)) h.1,
)

-- WRITTEN

pub all_set : (at : Name → Addr → Type 0) (rs : List (Option Addr)) (xs : List (Option Name)) (i : ℕ) (r : Option Addr) (x : Option Name) → AllRead at rs xs → ReadsReference at r x → AllRead at (slice_set rs i r) (slice_set xs i x)
all_set at [] [] i r x h k = tt
all_set at [] (y ∷ xs) i r x h k = absurd h
all_set at (q ∷ rs) [] i r x h k = absurd h
all_set at (q ∷ rs) (y ∷ xs) zero r x h k = (k, h.1)
all_set at (q ∷ rs) (y ∷ xs) (suc i) r x h k = (h.0, all_set at rs xs i r x h.1 k)

-- READ TWICE

read_both : (p q at : Name → Addr → Type 0) (r : Option Addr) (x : Option Name) → ((n : Name) (a : Addr) → p n a → q n a → at n a) → ReadsReference p r x → ReadsReference q r x → ReadsReference at r x
read_both p q at None None g h k = tt
read_both p q at None (Some n) g h k = absurd h
read_both p q at (Some a) None g h k = absurd h
read_both p q at (Some a) (Some n) g h k = g n a h k

all_both : (p q at : Name → Addr → Type 0) (rs : List (Option Addr)) (xs : List (Option Name)) → ((n : Name) (a : Addr) → p n a → q n a → at n a) → AllRead p rs xs → AllRead q rs xs → AllRead at rs xs
all_both p q at [] [] g h k = tt
all_both p q at [] (x ∷ xs) g h k = absurd h
all_both p q at (r ∷ rs) [] g h k = absurd h
all_both p q at (r ∷ rs) (x ∷ xs) g h k = (read_both p q at r x g h.0 k.0, all_both p q at rs xs g h.1 k.1)

pub object_both : (p q at : Name → Addr → Type 0) (o : Located) (x : Object) → ((n : Name) (a : Addr) → p n a → q n a → at n a) → IsModelObject p o x → IsModelObject q o x → IsModelObject at o x
object_both p q at o x g h k = record { mutable = h.mutable; refs = all_both p q at o.refs x.refs g h.refs k.refs; ints = h.ints }

frames_both : (p q at : Name → Addr → Type 0) (fs : List CallFrame) (xs : List ModelFrame) → ((n : Name) (a : Addr) → p n a → q n a → at n a) → FramesAreRead p fs xs → FramesAreRead q fs xs → FramesAreRead at fs xs
frames_both p q at [] [] g h k = tt
frames_both p q at [] (x ∷ xs) g h k = absurd h
frames_both p q at (f ∷ fs) [] g h k = absurd h
frames_both p q at (f ∷ fs) (x ∷ xs) g h k = (
  record { function = h.0.function; next = h.0.next; ints = h.0.ints; refs = all_both p q at f.refs x.refs g h.0.refs k.0.refs },
  frames_both p q at fs xs g h.1 k.1,
)

-- what is read through two maps is read through their intersection
pub task_both : (p q at : Name → Addr → Type 0) (h : Belongings) (x : Task) → ((n : Name) (a : Addr) → p n a → q n a → at n a) → TaskIsRead p h x → TaskIsRead q h x → TaskIsRead at h x
task_both p q at h x g = task_both_by_cases x.status
  where
    task_both_by_cases : (s : TaskStatus) → HoldsRead p h x s → HoldsRead q h x s → HoldsRead at h x s
    task_both_by_cases Running = frames_both p q at h.frames (x.top ∷ x.below) g
    task_both_by_cases Waiting = frames_both p q at h.frames (x.top ∷ x.below) g
    task_both_by_cases (Ended z r) = λ i j. (i.0, read_both p q at h.result.1 r g i.1 j.1)
    task_both_by_cases Joined = λ i j. tt

-- the item at a position of a list that is read
pub field_of : (at : Name → Addr → Type 0) (rs : List (Option Addr)) (xs : List (Option Name)) (i : ℕ) → AllRead at rs xs → ReadsReference at (unwrap_or (slice_get rs i) None) (option_flatten (slice_get xs i))
field_of at [] [] i h = tt
field_of at [] (x ∷ xs) i h = absurd h
field_of at (r ∷ rs) [] i h = absurd h
field_of at (r ∷ rs) (x ∷ xs) zero h = h.0
field_of at (r ∷ rs) (x ∷ xs) (suc i) h = field_of at rs xs i h.1
