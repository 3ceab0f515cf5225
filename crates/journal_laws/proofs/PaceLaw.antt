-- What the pace records of each worker follows from the entries, and paced journals keep the three rules.
use Rattle.journal_laws.proofs.Common.{◌≡◌, ℕ, zero, suc, ◌<◌, ◌≤◌, ◌==◌, ◌&&◌, not, Bool, true, false, cond, Option, Some, None, List, [], ◌∷◌, ◌++◌, length, slice_get, slice_set, replicate, is_none, is_some, nat_lt, nat_le, ◌⊎◌, inl, inr, refl, ap, sym, subst, ◌∙◌, arith, append_assoc, append-nil, eqb-true, eq-eqb, false≢true, both_ways, cases_eq, and_parts, and_from, ltb-true, leb-true, le-leb, not-true, length-set, same_Some, In, got_other, in_append_right, none_is, Kind, Took, Ran, Chunk, Begin, End as EndOf, PutOff, Mark, More, Sweep, Fuel, EntryValue, SettingsValue, ProgramText, Strand, Task, MachineState, waits, strand_of, Ledger, Previous, Other, Forked, WorkerPace, NoWorker, Over, Spent, heap_of, left_in, words_in, after, after_kind, is_fuel, kind_refusal, refusal, refused_if, refused_unless, after_all, is_legal, is_legal_from, ledger_of, opening, fork_of, gives, idle, is_mark_of, is_more_of, is_sweep_of, is_to_mark, is_under_way, is_unmarked, marked_at_once, more_of, pace_noted, or_idle, owed, owed_after, owed_to_marks, pace_after, pace_after_all, pace_at_end, pace_of, pace_opening, previous_by, waits_on, waits_since, Paced, cut_legal, none_unless, none_where, heap_machine, GoesOnMarking, IsLastBy, IsNewest, IsPaceOf, IsPrevious, IsToMark, IsUnderWay, KeepsRules, KeepsThePace, NoEntryBy, PacedKeepsThePace, WaitsOn, fork_by, fork_marked, marked_forks, marked_task}
use Rattle.run_ledger.specs.declared.data.Previous.TheVariants.{Ran as RanBefore}
use Rattle.run_ledger.specs.declared.data.Owed.TheVariants.{Mark as OwesMark, More as OwesMore, Sweep as OwesSweep}
use Rattle.journal_laws.proofs.Paced.{paced_is_meant}

-- KINDS OF ENTRIES

-- the record of an entry as the worker's previous one, by the accounts after it
abbrev came : Ledger → Kind → Previous
came l (Ran t k) = previous_by t (slice_get l.machine.tasks t)
came l _ = Other

abbrev is_ran : Kind → Bool
is_ran (Ran t k) = true
is_ran _ = false

noted_previous : (l : Ledger) (x : WorkerPace) (kind : Kind) → (pace_noted l x kind).previous ≡ came l kind
noted_previous l x (Took t) = refl
noted_previous l x (Ran t k) = refl
noted_previous l x (Chunk t) = refl
noted_previous l x (Begin t) = refl
noted_previous l x (EndOf t a g n) = refl
noted_previous l x (PutOff t) = refl
noted_previous l x (Mark t) = refl
noted_previous l x (More t n) = refl
noted_previous l x (Sweep t g) = refl
noted_previous l x Fuel = refl

noted_marks : (p : ProgramText) (s : SettingsValue) (l : Ledger) (w : ℕ) (x : WorkerPace) (kind : Kind) → (pace_noted (after_kind p s l w kind) x kind).marks ≡ fork_marked l (marked_task kind) ++ x.marks
noted_marks p s l w x (Took t) = refl
noted_marks p s l w x (Ran t k) = refl
noted_marks p s l w x (Chunk t) = refl
noted_marks p s l w x (Begin t) = refl
noted_marks p s l w x (EndOf t a g n) = refl
noted_marks p s l w x (PutOff t) = refl
noted_marks p s l w x (Mark t) = ap (λ (m : MachineState). fork_of t (slice_get m.tasks t) ++ x.marks) (heap_machine l t (λ h. record h { marked = Some 0 }))
noted_marks p s l w x (More t n) = refl
noted_marks p s l w x (Sweep t g) = refl
noted_marks p s l w x Fuel = refl

-- an entry is one of steps, or nothing is recorded of it
abbrev IsOther : Kind → Type 0
IsOther kind = ((t k : ℕ) → kind ≡ Ran t k → ⊥) × ((l : Ledger) → came l kind ≡ Other)

unlike : (kind : Kind) → is_ran kind ≡ false → (t k : ℕ) → kind ≡ Ran t k → ⊥
unlike kind h t k e = false≢true (sym h ∙ ap is_ran e)

ran_or_other : (kind : Kind) → ((t : ℕ) × (k : ℕ) × (kind ≡ Ran t k)) ⊎ IsOther kind
ran_or_other (Took t) = inr (unlike (Took t) refl, λ l. refl)
ran_or_other (Ran t k) = inl (t, k, refl)
ran_or_other (Chunk t) = inr (unlike (Chunk t) refl, λ l. refl)
ran_or_other (Begin t) = inr (unlike (Begin t) refl, λ l. refl)
ran_or_other (EndOf t a g n) = inr (unlike (EndOf t a g n) refl, λ l. refl)
ran_or_other (PutOff t) = inr (unlike (PutOff t) refl, λ l. refl)
ran_or_other (Mark t) = inr (unlike (Mark t) refl, λ l. refl)
ran_or_other (More t n) = inr (unlike (More t n) refl, λ l. refl)
ran_or_other (Sweep t g) = inr (unlike (Sweep t g) refl, λ l. refl)
ran_or_other Fuel = inr (unlike Fuel refl, λ l. refl)

mark_is : (t : ℕ) (kind : Kind) → is_mark_of t kind ≡ true → kind ≡ Mark t
mark_is t (Took u) h = absurd (false≢true h)
mark_is t (Ran u k) h = absurd (false≢true h)
mark_is t (Chunk u) h = absurd (false≢true h)
mark_is t (Begin u) h = absurd (false≢true h)
mark_is t (EndOf u a g n) h = absurd (false≢true h)
mark_is t (PutOff u) h = absurd (false≢true h)
mark_is t (Mark u) h = ap Mark (eqb-true u t h)
mark_is t (More u n) h = absurd (false≢true h)
mark_is t (Sweep u g) h = absurd (false≢true h)
mark_is t Fuel h = absurd (false≢true h)

more_is : (t : ℕ) (kind : Kind) → is_more_of t kind ≡ true → kind ≡ More t marked_at_once
more_is t (Took u) h = absurd (false≢true h)
more_is t (Ran u k) h = absurd (false≢true h)
more_is t (Chunk u) h = absurd (false≢true h)
more_is t (Begin u) h = absurd (false≢true h)
more_is t (EndOf u a g n) h = absurd (false≢true h)
more_is t (PutOff u) h = absurd (false≢true h)
more_is t (Mark u) h = absurd (false≢true h)
more_is t (More u n) h = let both = and_parts (u == t) (n == marked_at_once) h in ap (λ z. More z n) (eqb-true u t both.0) ∙ ap (More t) (eqb-true n marked_at_once both.1)
more_is t (Sweep u g) h = absurd (false≢true h)
more_is t Fuel h = absurd (false≢true h)

sweep_is : (t : ℕ) (kind : Kind) → is_sweep_of t kind ≡ true → (given : ℕ) × (kind ≡ Sweep t given)
sweep_is t (Took u) h = absurd (false≢true h)
sweep_is t (Ran u k) h = absurd (false≢true h)
sweep_is t (Chunk u) h = absurd (false≢true h)
sweep_is t (Begin u) h = absurd (false≢true h)
sweep_is t (EndOf u a g n) h = absurd (false≢true h)
sweep_is t (PutOff u) h = absurd (false≢true h)
sweep_is t (Mark u) h = absurd (false≢true h)
sweep_is t (More u n) h = absurd (false≢true h)
sweep_is t (Sweep u g) h = (g, ap (λ z. Sweep z g) (eqb-true u t h))
sweep_is t Fuel h = absurd (false≢true h)

is_mark : (t : ℕ) (kind : Kind) → kind ≡ Mark t → is_mark_of t kind ≡ true
is_mark t kind e = ap (is_mark_of t) e ∙ eq-eqb t t refl

is_more : (t : ℕ) (kind : Kind) → kind ≡ More t marked_at_once → is_more_of t kind ≡ true
is_more t kind e = ap (is_more_of t) e ∙ and_from (t == t) (marked_at_once == marked_at_once) (eq-eqb t t refl) refl

is_sweep : (t given : ℕ) (kind : Kind) → kind ≡ Sweep t given → is_sweep_of t kind ≡ true
is_sweep t given kind e = ap (is_sweep_of t) e ∙ eq-eqb t t refl

-- THE RECORD OF A WORKER

pub pace_same : (pace : List WorkerPace) (w : ℕ) (y : WorkerPace) → w < length pace → pace_of (slice_set pace w y) w ≡ y
pace_same [] w y lt = absurd (omega arith)
pace_same (x ∷ pace) zero y lt = refl
pace_same (x ∷ pace) (suc w) y lt = pace_same pace w y (omega arith)

pace_other : (pace : List WorkerPace) (w v : ℕ) (y : WorkerPace) → (v ≡ w → ⊥) → pace_of (slice_set pace w y) v ≡ pace_of pace v
pace_other pace w v y ne = ap or_idle (got_other pace w v y ne)

pub idle_at : (n w : ℕ) → pace_of (replicate n idle) w ≡ idle
idle_at zero w = refl
idle_at (suc n) zero = refl
idle_at (suc n) (suc w) = idle_at n w

pub length_opening : (n : ℕ) → length (replicate n idle) ≡ n
length_opening zero = refl
length_opening (suc n) = ap suc (length_opening n)

if_own : (e w : ℕ) (forks : List Strand) → e ≡ w → cond (e == w) forks [] ≡ forks
if_own e w forks q = ap (λ b. cond b forks []) (eq-eqb e w q)

if_other : (e w : ℕ) (forks : List Strand) → (e ≡ w → ⊥) → cond (e == w) forks [] ≡ []
if_other e w forks ne = if_other_by_cases (e == w) refl
  where
    if_other_by_cases : (v : Bool) → (e == w) ≡ v → cond v forks [] ≡ []
    if_other_by_cases true q = absurd (ne (eqb-true e w q))
    if_other_by_cases false q = refl

module _ (p : ProgramText) (s : SettingsValue) where
  -- a legal entry is made by one of the workers
  worker_in : (l : Ledger) (e : EntryValue) → is_none (refusal p s l e) ≡ true → e.worker < s.workers
  worker_in l e h =
      let known = refused_unless (nat_lt e.worker s.workers) NoWorker (kind_refusal p s l e.worker e.kind) in
      let a = none_where (is_some l.end) Over (refused_if (nat_le s.fuel l.steps && not (is_fuel e.kind)) (Spent l.steps) known) h in
      let b = none_where (nat_le s.fuel l.steps && not (is_fuel e.kind)) (Spent l.steps) known a.1 in
      ltb-true e.worker s.workers (none_unless (nat_lt e.worker s.workers) NoWorker (kind_refusal p s l e.worker e.kind) b.1).0

  -- ONE ENTRY
  module _ (l : Ledger) (pace : List WorkerPace) (e : EntryValue) (w : ℕ) (lt : e.worker < length pace) where
    abbrev l' : Ledger
    l' = after p s l e

    at_own : e.worker ≡ w → pace_of (pace_after l' pace e) w ≡ pace_noted l' (pace_of pace w) e.kind
    at_own q = ap (pace_of (pace_after l' pace e)) (sym q) ∙ (pace_same pace e.worker (pace_noted l' (pace_of pace e.worker) e.kind) lt ∙ ap (λ z. pace_noted l' (pace_of pace z) e.kind) q)

    at_other : (e.worker ≡ w → ⊥) → pace_of (pace_after l' pace e) w ≡ pace_of pace w
    at_other ne = pace_other pace e.worker w (pace_noted l' (pace_of pace e.worker) e.kind) (λ q. ne (sym q))

    marks_step : (pace_of (pace_after l' pace e) w).marks ≡ fork_by w l e ++ (pace_of pace w).marks
    marks_step = elim (cases_eq e.worker w) [
      | inl q ↦
          ap (λ (y : WorkerPace). y.marks) (at_own q)
          ∙ (noted_marks p s l e.worker (pace_of pace w) e.kind ∙ ap (λ forks. forks ++ (pace_of pace w).marks) (sym (if_own e.worker w (fork_marked l (marked_task e.kind)) q)))
      | inr ne ↦ ap (λ (y : WorkerPace). y.marks) (at_other ne) ∙ ap (λ forks. forks ++ (pace_of pace w).marks) (sym (if_other e.worker w (fork_marked l (marked_task e.kind)) ne))
    ]

  length_after : (l : Ledger) (pace : List WorkerPace) (e : EntryValue) → length (pace_after l pace e) ≡ length pace
  length_after l pace e = length-set pace e.worker (pace_noted l (pace_of pace e.worker) e.kind)

  -- ALL ENTRIES
  marks_are : (es : List EntryValue) (l : Ledger) (pace : List WorkerPace) (w : ℕ) → length pace ≡ s.workers → is_legal_from p s l es ≡ true
      → (pace_of (pace_after_all p s l pace es) w).marks ≡ marked_forks p s w l es ++ (pace_of pace w).marks
  marks_are [] l pace w len legal = refl
  marks_are (e ∷ es) l pace w len legal =
      let both = and_parts (is_none (refusal p s l e)) (is_legal_from p s (after p s l e) es) legal in
      let in_range : e.worker < s.workers = worker_in l e both.0 in
      let lt : e.worker < length pace = omega (arith, in_range, len) in
      let later = marked_forks p s w (after p s l e) es in
      marks_are es (after p s l e) (pace_after (after p s l e) pace e) w (length_after (after p s l e) pace e ∙ len) both.1
      ∙ (ap (λ forks. later ++ forks) (marks_step l pace e w lt) ∙ sym (append_assoc later (fork_by w l e) (pace_of pace w).marks))

  -- these entries are by others, or one is the worker's last
  abbrev Last : List EntryValue → Ledger → List WorkerPace → ℕ → Previous → Type 0
  Last es l pace w prev =
      (NoEntryBy w es × (prev ≡ (pace_of pace w).previous))
      ⊎ ((before : List EntryValue) × (e : EntryValue) × (rest : List EntryValue) × (es ≡ before ++ e ∷ rest) × (e.worker ≡ w) × NoEntryBy w rest × (prev ≡ came (after_all p s l (before ++ e ∷ [])) e.kind))

  last_is : (es : List EntryValue) (l : Ledger) (pace : List WorkerPace) (w : ℕ) → length pace ≡ s.workers → is_legal_from p s l es ≡ true → Last es l pace w (pace_of (pace_after_all p s l pace es) w).previous
  last_is [] l pace w len legal = inl (λ e i q. i, refl)
  last_is (e ∷ es) l pace w len legal =
      let both = and_parts (is_none (refusal p s l e)) (is_legal_from p s (after p s l e) es) legal in
      let in_range : e.worker < s.workers = worker_in l e both.0 in
      let lt : e.worker < length pace = omega (arith, in_range, len) in
      elim (last_is es (after p s l e) (pace_after (after p s l e) pace e) w (length_after (after p s l e) pace e ∙ len) both.1) [
        | inr r ↦ inr (e ∷ r.0, r.1, r.2, ap (λ z. e ∷ z) r.3, r.4, r.5, r.6)
        | inl n ↦ elim (cases_eq e.worker w) [
          | inl q ↦ inr ([], e, es, refl, q, n.0, n.1 ∙ (ap (λ (y : WorkerPace). y.previous) (at_own l pace e w lt q) ∙ noted_previous (after p s l e) (pace_of pace w) e.kind))
          | inr ne ↦ inl (none_now w e es ne n.0, n.1 ∙ ap (λ (y : WorkerPace). y.previous) (at_other l pace e w lt ne))
        ]
      ]
    where
      none_now : (w : ℕ) (e : EntryValue) (es : List EntryValue) → (e.worker ≡ w → ⊥) → NoEntryBy w es → NoEntryBy w (e ∷ es)
      none_now w e es ne n f (inl same) q = ne (ap (λ (z : EntryValue). z.worker) same ∙ q)
      none_now w e es ne n f (inr i) q = n f i q

  -- THE PREVIOUS ENTRY
  module _ (w : ℕ) (journal upto : List EntryValue) where
    steps_left : (t k : ℕ) → IsLastBy w journal upto (Ran t k) → (o : Option Task) → slice_get (ledger_of p s upto).machine.tasks t ≡ o → IsPrevious p s w journal (previous_by t o)
    steps_left t k L None is =
        (upto, t, k, L, λ fork q W. absurd (let e : None ≡ Some W.0 = sym is ∙ (ap (slice_get (ledger_of p s upto).machine.tasks) (sym q) ∙ W.1) in cc))
    steps_left t k L (Some x) is = steps_left_by_cases (waits x.status) refl
      where
        steps_left_by_cases : (v : Bool) → waits x.status ≡ v → IsPrevious p s w journal (cond v (Forked (strand_of t x)) RanBefore)
        steps_left_by_cases true e = (upto, k, L, (x, is, e, refl))
        steps_left_by_cases false e = (
          upto,
          t,
          k,
          L,
          λ fork q W.
              let same : W.0 ≡ x = same_Some W.0 x (sym W.1 ∙ (ap (slice_get (ledger_of p s upto).machine.tasks) q ∙ is)) in
              both_ways (waits x.status) e (ap (λ (z : Task). waits z.status) (sym same) ∙ W.2),
        )

    previous_left : (kind : Kind) → IsLastBy w journal upto kind → IsPrevious p s w journal (came (ledger_of p s upto) kind)
    previous_left kind L = elim (ran_or_other kind) [
      | inl r ↦
          subst (λ z. IsPrevious p s w journal (came (ledger_of p s upto) z)) (sym r.2)
          (steps_left r.0 r.1 (subst (IsLastBy w journal upto) r.2 L) (slice_get (ledger_of p s upto).machine.tasks r.0) refl)
      | inr n ↦ subst (IsPrevious p s w journal) (sym (n.1 (ledger_of p s upto))) (inr (upto, kind, L, n.0))
    ]

  pace_is : (journal : List EntryValue) (w : ℕ) → is_legal p s journal ≡ true → IsPaceOf p s w journal (pace_of (pace_at_end p s journal) w)
  pace_is journal w legal = record {
    previous = elim (last_is journal (opening p s) (pace_opening s) w (length_opening s.workers) legal) [
      | inl n ↦ subst (IsPrevious p s w journal) (sym (n.1 ∙ ap (λ (y : WorkerPace). y.previous) (idle_at s.workers w))) (inl n.0)
      | inr r ↦
          subst (IsPrevious p s w journal) (sym r.6)
          (previous_left w journal (r.0 ++ r.1 ∷ []) r.1.kind
          (record { before = r.0; entry = r.1; rest = r.2; upto_is = refl; is = r.3 ∙ sym (append_assoc r.0 (r.1 ∷ []) r.2); its = r.4; says = refl; last = r.5 }))
    ];
    marks =
        marks_are journal (opening p s) (pace_opening s) w (length_opening s.workers) legal
        ∙ (ap (λ (y : WorkerPace). marked_forks p s w (opening p s) journal ++ y.marks) (idle_at s.workers w) ∙ append-nil (marked_forks p s w (opening p s) journal));
  }

-- A WORKER'S LAST ENTRY IS ONE

abbrev head_or : EntryValue → List EntryValue → EntryValue
head_or d [] = d
head_or d (x ∷ xs) = x

abbrev tail : List EntryValue → List EntryValue
tail [] = []
tail (x ∷ xs) = xs

last_same : (w : ℕ) (a b : List EntryValue) (e f : EntryValue) (r q : List EntryValue) → a ++ e ∷ r ≡ b ++ f ∷ q → e.worker ≡ w → f.worker ≡ w → NoEntryBy w r → NoEntryBy w q → (a ≡ b) × (e ≡ f)
last_same w [] [] e f r q h we wf nr nq = (refl, ap (head_or e) h)
last_same w [] (y ∷ b) e f r q h we wf nr nq = absurd (nr f (subst (λ z. In z f) (sym (ap tail h)) (in_append_right b (f ∷ q) f (inl refl))) wf)
last_same w (x ∷ a) [] e f r q h we wf nr nq = absurd (nq e (subst (λ z. In z e) (ap tail h) (in_append_right a (e ∷ r) e (inl refl))) we)
last_same w (x ∷ a) (y ∷ b) e f r q h we wf nr nq =
    let more = last_same w a b e f r q (ap tail h) we wf nr nq in
    let same : x ≡ y = ap (head_or x) h in
    (ap (λ z. z ∷ a) same ∙ ap (λ z. y ∷ z) more.0, more.1)

whole : (w : ℕ) (journal upto : List EntryValue) (kind : Kind) (L : IsLastBy w journal upto kind) → journal ≡ L.before ++ L.entry ∷ L.rest
whole w journal upto kind L = L.is ∙ (ap (λ u. u ++ L.rest) L.upto_is ∙ append_assoc L.before (L.entry ∷ []) L.rest)

one_last : (w : ℕ) (journal a b : List EntryValue) (k j : Kind) → IsLastBy w journal a k → IsLastBy w journal b j → (a ≡ b) × (k ≡ j)
one_last w journal a b k j K J =
    let same = last_same w K.before J.before K.entry J.entry K.rest J.rest (sym (whole w journal a k K) ∙ whole w journal b j J) K.its J.its K.last J.last in (
      K.upto_is ∙ (ap (λ z. z ++ K.entry ∷ []) same.0 ∙ (ap (λ z. J.before ++ z ∷ []) same.1 ∙ sym J.upto_is)),
      sym K.says ∙ (ap (λ (z : EntryValue). z.kind) same.1 ∙ J.says),
    )

abbrev task_in : Kind → ℕ
task_in (Ran t k) = t
task_in _ = 0

-- TESTS AND WORDS

waits_from : (l : Ledger) (fork : Strand) → waits_on l fork ≡ true → WaitsOn l fork
waits_from l fork h = waits_from_by_cases (slice_get l.machine.tasks fork.task) refl h
  where
    waits_from_by_cases : (o : Option Task) → slice_get l.machine.tasks fork.task ≡ o → waits_since o fork.joins ≡ true → WaitsOn l fork
    waits_from_by_cases None e g = absurd (false≢true g)
    waits_from_by_cases (Some x) e g = let q = and_parts (waits x.status) (x.joins == fork.joins) g in (x, e, q.0, eqb-true x.joins fork.joins q.1)

from_waits : (l : Ledger) (fork : Strand) → WaitsOn l fork → waits_on l fork ≡ true
from_waits l fork W = ap (λ o. waits_since o fork.joins) W.1 ∙ and_from (waits W.0.status) (W.0.joins == fork.joins) W.2 (eq-eqb W.0.joins fork.joins W.3)

way_from : (l : Ledger) (fork : Strand) → is_under_way l fork ≡ true → IsUnderWay l fork
way_from l fork h =
    let q = and_parts (waits_on l fork) (not (heap_of l fork.task).swept) h in
    record { waits = waits_from l fork q.0; unswept = not-true (heap_of l fork.task).swept q.1 }

from_way : (l : Ledger) (fork : Strand) → IsUnderWay l fork → is_under_way l fork ≡ true
from_way l fork U = and_from (waits_on l fork) (not (heap_of l fork.task).swept) (from_waits l fork U.waits) (ap not U.unswept)

-- MARKINGS THAT GO ON

module _ (l : Ledger) (kind : Kind) where
  goes_from : (t : ℕ) → gives (more_of l t) kind ≡ true → GoesOnMarking l t kind
  goes_from t = goes_from_by_cases (left_in (heap_of l t) == 0) refl
    where
      goes_from_by_cases : (v : Bool) → (left_in (heap_of l t) == 0) ≡ v → gives (cond v (OwesSweep t) (OwesMore t)) kind ≡ true → GoesOnMarking l t kind
      goes_from_by_cases true e g = record { more = λ some. absurd (some (eqb-true (left_in (heap_of l t)) 0 e)); sweep = λ none. sweep_is t kind g }
      goes_from_by_cases false e g = record { more = λ some. more_is t kind g; sweep = λ none. absurd (both_ways (left_in (heap_of l t) == 0) e (eq-eqb (left_in (heap_of l t)) 0 none)) }

  from_goes : (t : ℕ) → GoesOnMarking l t kind → gives (more_of l t) kind ≡ true
  from_goes t G = from_goes_by_cases (left_in (heap_of l t) == 0) refl
    where
      from_goes_by_cases : (v : Bool) → (left_in (heap_of l t) == 0) ≡ v → gives (cond v (OwesSweep t) (OwesMore t)) kind ≡ true
      from_goes_by_cases true e = let g = G.sweep (eqb-true (left_in (heap_of l t)) 0 e) in is_sweep t g.0 kind g.1
      from_goes_by_cases false e = is_more t kind (G.more (λ none. both_ways (left_in (heap_of l t) == 0) e (eq-eqb (left_in (heap_of l t)) 0 none)))

  newest_from : (newer older : List Strand) (fork : Strand) → ((g : Strand) → In newer g → IsUnderWay l g → ⊥) → IsUnderWay l fork → gives (owed_to_marks l (newer ++ fork ∷ older)) kind ≡ true → gives (more_of l fork.task) kind ≡ true
  newest_from [] older fork none U g = subst (λ v. gives (cond v (more_of l fork.task) (owed_to_marks l older)) kind ≡ true) (from_way l fork U) g
  newest_from (f ∷ newer) older fork none U g = newest_from_by_cases (is_under_way l f) refl (newest_from newer older fork (λ h i. none h (inr i)) U) g
    where
      newest_from_by_cases : (v : Bool) → is_under_way l f ≡ v → (gives (owed_to_marks l (newer ++ fork ∷ older)) kind ≡ true → gives (more_of l fork.task) kind ≡ true) → gives (cond v (more_of l f.task) (owed_to_marks l (newer ++ fork ∷ older))) kind ≡ true → gives (more_of l fork.task) kind ≡ true
      newest_from_by_cases true e more g' = absurd (none f (inl refl) (way_from l f e))
      newest_from_by_cases false e more g' = more g'

  from_newest : (forks : List Strand) → ((fork : Strand) → IsNewest l forks fork → GoesOnMarking l fork.task kind) → gives (owed_to_marks l forks) kind ≡ true
  from_newest [] G = refl
  from_newest (f ∷ forks) G = from_newest_by_cases (is_under_way l f) refl (from_newest forks)
    where
      none_newer : is_under_way l f ≡ false → (N : List Strand) → ((g : Strand) → In N g → IsUnderWay l g → ⊥) → (g : Strand) → In (f ∷ N) g → IsUnderWay l g → ⊥
      none_newer e N none g (inl same) U = both_ways (is_under_way l f) e (ap (is_under_way l) same ∙ from_way l g U)
      none_newer e N none g (inr i) U = none g i U

      from_newest_by_cases : (v : Bool) → is_under_way l f ≡ v → (((fork : Strand) → IsNewest l forks fork → GoesOnMarking l fork.task kind) → gives (owed_to_marks l forks) kind ≡ true) → gives (cond v (more_of l f.task) (owed_to_marks l forks)) kind ≡ true
      from_newest_by_cases true e more = from_goes f.task (G f (record { newer = []; older = forks; is = refl; none = λ g i U. i; under_way = way_from l f e }))
      from_newest_by_cases false e more =
          more
          (λ fork N. G fork (record { newer = f ∷ N.newer; older = N.older; is = ap (λ z. f ∷ z) N.is; none = none_newer e N.newer N.none; under_way = N.under_way }))

-- THE RULES

module _ (p : ProgramText) (s : SettingsValue) (before : List EntryValue) (w : ℕ) (kind : Kind) where
  abbrev l : Ledger
  l = ledger_of p s before

  abbrev forks : List Strand
  forks = marked_forks p s w (opening p s) before

  module _ (upto : List EntryValue) where
    mark_from : (fork : Strand) → WaitsOn (ledger_of p s upto) fork → is_to_mark s l fork ≡ true → IsToMark p s l upto fork.task fork
    mark_from fork F h =
        let a = and_parts (waits_on l fork) (is_unmarked (heap_of l fork.task) && nat_le s.inner (words_in l.machine (heap_of l fork.task))) h in
        let b = and_parts (is_unmarked (heap_of l fork.task)) (nat_le s.inner (words_in l.machine (heap_of l fork.task))) a.1 in
        let c = and_parts (is_none (heap_of l fork.task).marked) (not (heap_of l fork.task).swept) b.0 in
        record {
          task = refl;
          forked = F;
          waits = waits_from l fork a.0;
          unmarked = none_is (heap_of l fork.task).marked c.0;
          unswept = not-true (heap_of l fork.task).swept c.1;
          words = leb-true s.inner (words_in l.machine (heap_of l fork.task)) b.1;
        }

    from_mark : (t : ℕ) (fork : Strand) → IsToMark p s l upto t fork → is_to_mark s l fork ≡ true
    from_mark t fork M =
        let h : (z : ℕ) → (heap_of l z).marked ≡ None → (heap_of l z).swept ≡ false → s.inner ≤ words_in l.machine (heap_of l z) → (is_unmarked (heap_of l z) && nat_le s.inner (words_in l.machine (heap_of l z))) ≡ true =
        λ z a b c.
        and_from (is_unmarked (heap_of l z)) (nat_le s.inner (words_in l.machine (heap_of l z))) (and_from (is_none (heap_of l z).marked) (not (heap_of l z).swept) (ap is_none a) (ap not b))
        (le-leb s.inner (words_in l.machine (heap_of l z)) c) in
        and_from (waits_on l fork) (is_unmarked (heap_of l fork.task) && nat_le s.inner (words_in l.machine (heap_of l fork.task))) (from_waits l fork M.waits)
        (subst (λ z. (is_unmarked (heap_of l z) && nat_le s.inner (words_in l.machine (heap_of l z))) ≡ true) (sym M.task) (h t M.unmarked M.unswept M.words))

    -- after steps that left their task on no fork
    module _ (t : ℕ) (none : (fork : Strand) → fork.task ≡ t → WaitsOn (ledger_of p s upto) fork → ⊥) where
      ran_rules : gives (owed_to_marks l forks) kind ≡ true → KeepsRules p s before w upto t kind
      ran_rules g = record {
        mark = λ fork M. absurd (none fork M.task M.forked);
        more = λ no fork N. goes_from l kind fork.task (newest_from l kind N.newer N.older fork N.none N.under_way (subst (λ z. gives (owed_to_marks l z) kind ≡ true) N.is g));
      }

      rules_ran : KeepsRules p s before w upto t kind → gives (owed_to_marks l forks) kind ≡ true
      rules_ran R = from_newest l kind forks (R.more (λ fork M. none fork M.task M.forked))

    -- after steps that left it on a fork
    module _ (fork : Strand) (F : WaitsOn (ledger_of p s upto) fork) where
      -- its task waits on no other
      same_fork : (g : Strand) → g.task ≡ fork.task → WaitsOn (ledger_of p s upto) g → g.joins ≡ fork.joins
      same_fork g q W =
          let same : W.0 ≡ F.0 = same_Some W.0 F.0 (sym W.1 ∙ (ap (slice_get (ledger_of p s upto).machine.tasks) q ∙ F.1)) in
          sym W.3 ∙ (ap (λ (x : Task). x.joins) same ∙ F.3)

      same_mark : (g : Strand) → IsToMark p s l upto fork.task g → is_to_mark s l fork ≡ true
      same_mark g M =
          let joins = same_fork g M.task M.forked in
          let waits : WaitsOn l fork = (M.waits.0, ap (slice_get l.machine.tasks) (sym M.task) ∙ M.waits.1, M.waits.2, M.waits.3 ∙ joins) in
          from_mark fork.task fork (record { task = refl; forked = F; waits = waits; unmarked = M.unmarked; unswept = M.unswept; words = M.words })

      fork_rules : gives (owed_after s l forks (Forked fork)) kind ≡ true → KeepsRules p s before w upto fork.task kind
      fork_rules = fork_rules_by_cases (is_to_mark s l fork) refl
        where
          fork_rules_by_cases : (v : Bool) → is_to_mark s l fork ≡ v → gives (cond v (OwesMark fork.task) (owed_to_marks l forks)) kind ≡ true → KeepsRules p s before w upto fork.task kind
          fork_rules_by_cases true e g = record { mark = λ h M. mark_is fork.task kind g; more = λ no. absurd (no fork (mark_from fork F e)) }
          fork_rules_by_cases false e g = record {
            mark = λ h M. absurd (both_ways (is_to_mark s l fork) e (same_mark h M));
            more = λ no h N. goes_from l kind h.task (newest_from l kind N.newer N.older h N.none N.under_way (subst (λ z. gives (owed_to_marks l z) kind ≡ true) N.is g));
          }

      rules_fork : KeepsRules p s before w upto fork.task kind → gives (owed_after s l forks (Forked fork)) kind ≡ true
      rules_fork R = rules_fork_by_cases (is_to_mark s l fork) refl
        where
          rules_fork_by_cases : (v : Bool) → is_to_mark s l fork ≡ v → gives (cond v (OwesMark fork.task) (owed_to_marks l forks)) kind ≡ true
          rules_fork_by_cases true e = is_mark fork.task kind (R.mark fork (mark_from fork F e))
          rules_fork_by_cases false e = from_newest l kind forks (R.more (λ h M. both_ways (is_to_mark s l fork) e (same_mark h M)))

  -- WHAT IS OWED gives the rules, and the rules give what is owed
  rules_from : (prev : Previous) → IsPrevious p s w before prev → gives (owed_after s l forks prev) kind ≡ true → (upto : List EntryValue) (t k : ℕ) → IsLastBy w before upto (Ran t k) → KeepsRules p s before w upto t kind
  rules_from Other (inl none) g upto t k L = absurd (none L.entry (subst (λ z. In z L.entry) (sym (whole w before upto (Ran t k) L)) (in_append_right L.before (L.entry ∷ L.rest) L.entry (inl refl))) L.its)
  rules_from Other (inr o) g upto t k L = absurd (o.3 t k (one_last w before o.0 upto o.1 (Ran t k) o.2 L).1)
  rules_from RanBefore P g upto t k L =
      let same = one_last w before P.0 upto (Ran P.1 P.2) (Ran t k) P.3 L in
      let task : P.1 ≡ t = ap task_in same.1 in
      ran_rules upto t (λ fork q W. P.4 fork (q ∙ sym task) (subst (λ z. WaitsOn (ledger_of p s z) fork) (sym same.0) W)) g
  rules_from (Forked fork) P g upto t k L =
      let same = one_last w before P.0 upto (Ran fork.task P.1) (Ran t k) P.2 L in
      let task : fork.task ≡ t = ap task_in same.1 in
      subst (λ z. KeepsRules p s before w upto z kind) task (fork_rules upto fork (subst (λ z. WaitsOn (ledger_of p s z) fork) same.0 P.3) g)

  from_rules : (prev : Previous) → IsPrevious p s w before prev → ((upto : List EntryValue) (t k : ℕ) → IsLastBy w before upto (Ran t k) → KeepsRules p s before w upto t kind) → gives (owed_after s l forks prev) kind ≡ true
  from_rules Other P R = refl
  from_rules RanBefore P R = rules_ran P.0 P.1 P.4 (R P.0 P.1 P.2 P.3)
  from_rules (Forked fork) P R = rules_fork P.0 fork P.3 (R P.0 fork.task P.1 P.2)

-- WHOLE JOURNALS

module _ (p : ProgramText) (s : SettingsValue) (journal : List EntryValue) (legal : is_legal p s journal ≡ true) where
  legal_before : (before : List EntryValue) (e : EntryValue) (rest : List EntryValue) → journal ≡ before ++ e ∷ rest → is_legal p s before ≡ true
  legal_before before e rest is = (cut_legal p s before (e ∷ rest) (opening p s) (subst (λ j. is_legal p s j ≡ true) is legal)).0

  keeps : Paced p s journal → KeepsThePace p s journal
  keeps P before e rest is unspent =
      let x = pace_of (pace_at_end p s before) e.worker in
      let K = pace_is p s before e.worker (legal_before before e rest is) in
      elim (P before e rest is) [
        | inl fuel ↦ absurd (both_ways (is_fuel e.kind) unspent fuel)
        | inr g ↦ rules_from p s before e.worker e.kind x.previous K.previous (subst (λ forks. gives (owed_after s (ledger_of p s before) forks x.previous) e.kind ≡ true) K.marks g)
      ]

  kept : KeepsThePace p s journal → Paced p s journal
  kept R before e rest is = kept_by_cases (is_fuel e.kind) refl
    where
      kept_by_cases : (v : Bool) → is_fuel e.kind ≡ v → (is_fuel e.kind ≡ true) ⊎ (gives (owed s (ledger_of p s before) (pace_of (pace_at_end p s before) e.worker)) e.kind ≡ true)
      kept_by_cases true fuel = inl fuel
      kept_by_cases false unspent =
          let x = pace_of (pace_at_end p s before) e.worker in
          let K = pace_is p s before e.worker (legal_before before e rest is) in
          inr (subst (λ forks. gives (owed_after s (ledger_of p s before) forks x.previous) e.kind ≡ true) (sym K.marks) (from_rules p s before e.worker e.kind x.previous K.previous (R before e rest is unspent)))

pub paced_keeps_the_pace : PacedKeepsThePace
paced_keeps_the_pace p s journal legal =
    let meant = paced_is_meant p s journal in
    (λ h. keeps p s journal legal (meant.0 h), λ k. meant.1 (kept p s journal legal k))
