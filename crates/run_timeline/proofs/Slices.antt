-- Each entry is one slice.
use Rattle.run_timeline.proofs.Common.{◌≡◌, ◌+◌, ◌==◌, ℕ, zero, suc, Bool, cond, true, false, List, [], ◌∷◌, ◌++◌, length, refl, ap, ◌∙◌, arith, Option, Some, None, codes, slice_get, take, filter, filter-append, ProgramText, TaskStatus, Running, Waiting, Ended, Joined, Task, MachineState, Kind, Took, Ran, Chunk, Begin, End, PutOff, Mark, More, Sweep, Fuel, EntryValue, SettingsValue, RunEnd, Ledger, in_use, after, after_all, opening, Json, AccountCounts, counts_of, words_held, arrow_begins, arrow_ends, slice, slice_name, begins_and_ends, taken, first_taken, fork_events, task_end_events, end_events, join_events, chunks_counted, counter, counter_events, run_ended, words_counted, entry_events, events_from, is_slice, slices_of, SlicesAreEntries}

abbrev slices : List Json → List Json
slices = filter is_slice

none_there : (i : ℕ) (e : EntryValue) → slice_get [] i ≡ Some e → ⊥
none_there zero e is = cc
none_there (suc i) e is = cc

same_item : (x y : EntryValue) → Some x ≡ Some y → x ≡ y
same_item x y e = cc

-- where neither has one, both together have none
both : (xs ys : List Json) → xs ≡ [] → ys ≡ [] → xs ++ ys ≡ []
both xs ys e f = ap (λ z. z ++ ys) e ∙ f

-- where the first have one alone, and the others none, so have both together
alone : (v : Json) (xs ys : List Json) → slices xs ≡ v ∷ [] → slices ys ≡ [] → slices (xs ++ ys) ≡ v ∷ []
alone v xs ys e f = filter-append is_slice xs ys ∙ (ap (λ z. z ++ slices ys) e ∙ ap (λ z. v ∷ z) f)

module _ (p : ProgramText) (m : MachineState) (t n w : ℕ) where
  first_by : (b : Bool) (q : Option ℕ) → slices (cond b (first_taken p m t n w q) (arrow_ends (codes "join") t n w ∷ [])) ≡ []
  first_by true None = refl
  first_by true (Some q) = refl
  first_by false q = refl

  none_taken : (o : Option Task) → slices (taken p m t n w o) ≡ []
  none_taken None = refl
  none_taken (Some x) = first_by (x.joins == 0) x.parent

none_forked : (made now n w : ℕ) → slices (fork_events made now n w) ≡ []
none_forked made now n w = none_forked_by_cases (now == made)
  where
    none_forked_by_cases : (b : Bool) → slices (cond b [] (arrow_begins (codes "fork") made n w ∷ (arrow_begins (codes "fork") (made + 1) n w ∷ []))) ≡ []
    none_forked_by_cases true = refl
    none_forked_by_cases false = refl

none_joined : (n w : ℕ) (q : Option ℕ) → slices (join_events n w q) ≡ []
none_joined n w None = refl
none_joined n w (Some q) = refl

none_by : (t n w : ℕ) (q : Option ℕ) (s : TaskStatus) → slices (end_events t n w q s) ≡ []
none_by t n w q Running = refl
none_by t n w q Waiting = refl
none_by t n w q (Ended k name) = refl
none_by t n w q Joined = none_joined n w q

none_ended : (t n w : ℕ) (o : Option Task) → slices (task_end_events t n w o) ≡ []
none_ended t n w None = refl
none_ended t n w (Some x) = none_by t n w x.parent x.status

none_told : (p : ProgramText) (made : ℕ) (m : MachineState) (n w : ℕ) (k : Kind) → slices (begins_and_ends p made m n w k) ≡ []
none_told p made m n w (Took t) = none_taken p m t n w (slice_get m.tasks t)
none_told p made m n w (Ran t k) =
    filter-append is_slice (fork_events made (length m.tasks) n w) (task_end_events t n w (slice_get m.tasks t))
    ∙ both (slices (fork_events made (length m.tasks) n w)) (slices (task_end_events t n w (slice_get m.tasks t))) (none_forked made (length m.tasks) n w) (none_ended t n w (slice_get m.tasks t))
none_told p made m n w (Chunk t) = refl
none_told p made m n w (Begin t) = refl
none_told p made m n w (End t taken given left) = refl
none_told p made m n w (PutOff t) = refl
none_told p made m n w (Mark t) = refl
none_told p made m n w (More t k) = refl
none_told p made m n w (Sweep t given) = refl
none_told p made m n w Fuel = refl

none_counted : (name unit : List ℕ) (before now n : ℕ) → slices (counter_events name unit before now n) ≡ []
none_counted name unit before now n = none_counted_by_cases (now == before)
  where
    none_counted_by_cases : (b : Bool) → slices (cond b [] (counter name unit now n ∷ [])) ≡ []
    none_counted_by_cases true = refl
    none_counted_by_cases false = refl

none_run_ended : (p : ProgramText) (m : MachineState) (n w : ℕ) (e : Option RunEnd) → slices (run_ended p m n w e) ≡ []
none_run_ended p m n w None = refl
none_run_ended p m n w (Some e) = refl

one_slice : (p : ProgramText) (name : List ℕ) (was : AccountCounts) (l : Ledger) (n : ℕ) (e : EntryValue) → slices (entry_events p name was l n e) ≡ slice name n e ∷ []
one_slice p name was l n e =
    let ts = begins_and_ends p was.tasks l.machine n e.worker e.kind in
    let cs = chunks_counted was.chunks (in_use l) n in
    let ws = words_counted was.words (words_held l) n in
    let es = run_ended p l.machine n e.worker l.end in
    let a : slices (slice name n e ∷ ts) ≡ slice name n e ∷ [] = ap (λ vs. slice name n e ∷ vs) (none_told p was.tasks l.machine n e.worker e.kind) in
    let b = alone (slice name n e) (slice name n e ∷ ts) cs a (none_counted (codes "chunks in use") (codes "chunks") was.chunks (in_use l) n) in
    let d = alone (slice name n e) ((slice name n e ∷ ts) ++ cs) ws b (none_counted (codes "words held") (codes "words") was.words (words_held l) n) in
    alone (slice name n e) (((slice name n e ∷ ts) ++ cs) ++ ws) es d (none_run_ended p l.machine n e.worker l.end)

module _ (p : ProgramText) (s : SettingsValue) where
  -- the slices of entries from the one of this number on, in front of which the accounts are these
  abbrev slices_from : Ledger → ℕ → List EntryValue → List Json
  slices_from l n [] = []
  slices_from l n (e ∷ es) = slice (slice_name p l.machine e.kind) n e ∷ slices_from (after p s l e) (n + 1) es

  each_one : (l : Ledger) (n : ℕ) (journal : List EntryValue) → slices (events_from p s l n journal) ≡ slices_from l n journal
  each_one l n [] = refl
  each_one l n (e ∷ es) =
      let name = slice_name p l.machine e.kind in
      let here = entry_events p name (counts_of l) (after p s l e) n e in
      let later = events_from p s (after p s l e) (n + 1) es in
      filter-append is_slice here later
      ∙ (ap (λ vs. vs ++ slices later) (one_slice p name (counts_of l) (after p s l e) n e)
      ∙ ap (λ vs. slice name n e ∷ vs) (each_one (after p s l e) (n + 1) es))

  as_many : (l : Ledger) (n : ℕ) (journal : List EntryValue) → length (slices_from l n journal) ≡ length journal
  as_many l n [] = refl
  as_many l n (e ∷ es) = ap suc (as_many (after p s l e) (n + 1) es)

  got : (l : Ledger) (n : ℕ) (journal : List EntryValue) (i : ℕ) (e : EntryValue) → slice_get journal i ≡ Some e
      → slice_get (slices_from l n journal) i ≡ Some (slice (slice_name p (after_all p s l (take i journal)).machine e.kind) (i + n) e)
  got l n [] i e is = absurd (none_there i e is)
  got l n (x ∷ es) zero e is =
      let at : n ≡ 0 + n = omega arith in
      ap (λ (y : EntryValue). Some (slice (slice_name p l.machine y.kind) n y)) (same_item x e is) ∙ ap (λ k. Some (slice (slice_name p l.machine e.kind) k e)) at
  got l n (x ∷ es) (suc i) e is =
      let at : i + (n + 1) ≡ suc i + n = omega arith in
      got (after p s l x) (n + 1) es i e is ∙ ap (λ k. Some (slice (slice_name p (after_all p s (after p s l x) (take i es)).machine e.kind) k e)) at

pub slices_are_entries : SlicesAreEntries
slices_are_entries = λ p s journal.
    let all : slices_of p s journal ≡ slices_from p s (opening p s) 1 journal = each_one p s (opening p s) 1 journal in
    record {
      count = ap length all ∙ as_many p s (opening p s) 1 journal;
      each = λ i e is. ap (λ vs. slice_get vs i) all ∙ got p s (opening p s) 1 journal i e is;
    }
