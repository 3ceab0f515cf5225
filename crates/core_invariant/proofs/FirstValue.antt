-- The shared value before the first entry.
use Rattle.core_invariant.proofs.Common.{◌≡◌, ℕ, ℤ, zero, suc, false, not, ◌&&◌, Option, Some, None, List, [], ◌∷◌, length, slice_get, replicate, option_map, arith, ◌↔◌, refl, ap, sym, subst, ◌∙◌, option_flatten, false≢true, same_Some, fun_ext, ReservedVecValue, IsProgram, ProgramText, is_waiting, SettingsValue, AreSettings, EntryValue, Ledger, heap_of, opening, PoolValue, TaskNode, root_node, SetOf, content_of, Content, MarkingValue, Rests, Noted, Memory, MemoryStands, BegunBy, StandsFor, as_node, first, first_stands, ParkedTask, SharedValue, rest_at, value_of, tree_counts_of, first_rest, AreMeasured, RestsAreMeasured, HeapForm, IsSharedValue}

all_long : (n : ℕ) → let xs : List (Option ℕ) = replicate n None in length xs ≡ n
all_long zero = refl
all_long (suc n) = ap suc (all_long n)

abbrev pub first_world_of : ProgramText → SettingsValue → ℕ → ℕ → ℕ → SetOf → SharedValue
first_world_of p s slots spare n set = record {
  program = p;
  settings = s;
  tree = root_node ∷ [];
  pool = record { limit = s.chunks; slots = [] };
  rests = Some (first_rest p slots spare) ∷ [];
  sets = set ∷ [];
  marks = None ∷ [];
  tasks_out = replicate s.workers None;
  outputs = [];
  journal = record { items = []; room = n };
  steps = 0;
  end = None;
  halted = false;
}

module _ (p : ProgramText) (s : SettingsValue) (lims : AreSettings s) (form : IsProgram p) (slots spare n : ℕ) (set : SetOf) (empty : content_of set ≡ record { sources = []; kept = []; keeps = false }) where
  abbrev w : SharedValue
  w = first_world_of p s slots spare n set

  abbrev l : Ledger
  l = opening p s

  belongings_are : (t : ℕ) → (value_of w).belongings t ≡ (first p).belongings t
  belongings_are zero = refl
  belongings_are (suc t) = refl

  noted_are : (t : ℕ) → (value_of w).noted t ≡ (first p).noted t
  noted_are zero = ap (λ (c : Content). record { sources = c.sources; kept = c.kept; keeps = c.keeps; marked = None }) empty
  noted_are (suc t) = refl

  value_is : first p ≡ value_of w
  value_is = sym (
      ap (λ hs. record (value_of w) { belongings = hs }) (fun_ext belongings_are)
      ∙ ap (λ ns. record { belongings = (first p).belongings; noted = ns; owner = (value_of w).owner }) (fun_ext noted_are))

  keeps_are : (t : ℕ) → ((value_of w).noted t).keeps ≡ false
  keeps_are t = ap (λ (z : Noted). z.keeps) (noted_are t)

  waits_none : (t : ℕ) → is_waiting (slice_get l.machine.tasks t) ≡ false
  waits_none zero = refl
  waits_none (suc t) = refl

  node_is : (t : ℕ) → (tree_counts_of w).node t ≡ option_map (as_node (heap_of l t).worker) (slice_get l.machine.tasks t)
  node_is zero = refl
  node_is (suc t) = refl

  no_task_out : (k t : ℕ) → (tree_counts_of w).task_out k ≡ Some t ↔ (heap_of l t).worker ≡ Some k
  no_task_out k t = ((λ e. absurd (never_out s.workers k e)), worker_at t)
    where
      never_out : (n k : ℕ) → option_flatten (slice_get (replicate n None) k) ≡ Some t → ⊥
      never_out zero k e = absurd cc
      never_out (suc n) zero e = absurd cc
      never_out (suc n) (suc k) e = never_out n k e

      worker_at : (t : ℕ) → (heap_of l t).worker ≡ Some k → (tree_counts_of w).task_out k ≡ Some t
      worker_at zero e = absurd cc
      worker_at (suc t) e = absurd cc

  begun_at : (t : ℕ) → Rests l t → BegunBy (value_of w) l t ((value_of w).belongings t).begun
  begun_at zero r = refl
  begun_at (suc t) r = refl

  stands : StandsFor (value_of w) (tree_counts_of w) l
  stands = record {
    belongings = subst (λ (v : Memory). MemoryStands v l) value_is (first_stands p s);
    tree_counts = record { node = node_is; task_out = no_task_out; used = refl; steps = refl; outputs = refl; end = refl };
    begun = begun_at;
    keeps = λ t. keeps_are t ∙ sym (ap (λ b. b && not (heap_of l t).swept) (waits_none t));
    since = λ t h. absurd (false≢true (sym (keeps_are t) ∙ h));
    marks = λ t h. absurd (false≢true (sym (keeps_are t) ∙ h));
  }

  form_first : HeapForm (first_rest p slots spare).heap
  form_first = record {
    shaped = record { apart = tt; current = tt; reserved = tt };
    near = λ o i. absurd i;
    tidy = λ i x lt. absurd (omega (arith, lt));
    within = λ i x lt. absurd (omega (arith, lt));
    last = tt;
    last_large = tt;
    since = omega arith;
    whole = λ k i. absurd i;
    spare = λ i lt. absurd (omega (arith, lt));
  }

  heaps : (t : ℕ) (r : ParkedTask) → rest_at w.rests t ≡ Some r → HeapForm r.heap
  heaps zero r e = subst (λ (x : ParkedTask). HeapForm x.heap) (same_Some (first_rest p slots spare) r e) form_first
  heaps (suc t) r e = absurd cc

  measured : RestsAreMeasured w.pool w.rests w.tasks_out
  measured zero r e f = subst (λ (x : ParkedTask). AreMeasured w.pool zero x.heap.chunks) (same_Some (first_rest p slots spare) r e) (λ k i. absurd i)
  measured (suc t) r e f = absurd cc

  pub first_world : IsSharedValue w
  first_world = record {
    settings = lims;
    form = form;
    legal = refl;
    made = refl;
    noted = refl;
    workers = all_long s.workers;
    limit = refl;
    stands = stands;
    heaps = heaps;
    measured = measured;
  }

-- the same for fields that are these
pub first_by : (p p' : ProgramText) (s : SettingsValue) (tree : List TaskNode) (pool : PoolValue) (rests : List (Option ParkedTask)) (sets : List SetOf) (marks : List (Option MarkingValue)) (tasks_out : List (Option ℕ)) (outputs : List ℤ) (journal : ReservedVecValue EntryValue) (r : ParkedTask) (set : SetOf)
    → AreSettings s → IsProgram p → p' ≡ p → tree ≡ root_node ∷ [] → pool ≡ record { limit = s.chunks; slots = [] } → rests ≡ Some r ∷ [] → r ≡ first_rest p r.heap.slots r.heap.spare → sets ≡ set ∷ [] → content_of set ≡ record { sources = []; kept = []; keeps = false }
    → marks ≡ None ∷ [] → tasks_out ≡ replicate s.workers None → outputs ≡ [] → journal.items ≡ []
    → IsSharedValue (record { program = p'; settings = s; tree = tree; pool = pool; rests = rests; sets = sets; marks = marks; tasks_out = tasks_out; outputs = outputs; journal = journal; steps = 0; end = None; halted = false })
first_by p p' s tree pool rests sets marks tasks_out outputs journal r set lims form ep et eo eh er es empty em ea eu ej =
    let eh' : rests ≡ Some (first_rest p r.heap.slots r.heap.spare) ∷ [] = eh ∙ ap (λ x. Some x ∷ []) er in
    let ej' : journal ≡ record { items = []; room = journal.room } = ap (λ x. record { items = x; room = journal.room }) ej in
    let W : SharedValue = first_world_of p s r.heap.slots r.heap.spare journal.room set in
    subst IsSharedValue (sym (
    ap (λ x. record W { program = x; tree = tree; pool = pool; rests = rests; sets = sets; marks = marks; tasks_out = tasks_out; outputs = outputs; journal = journal }) ep
    ∙ (ap (λ x. record W { tree = x; pool = pool; rests = rests; sets = sets; marks = marks; tasks_out = tasks_out; outputs = outputs; journal = journal }) et
    ∙ (ap (λ x. record W { pool = x; rests = rests; sets = sets; marks = marks; tasks_out = tasks_out; outputs = outputs; journal = journal }) eo
    ∙ (ap (λ x. record W { rests = x; sets = sets; marks = marks; tasks_out = tasks_out; outputs = outputs; journal = journal }) eh'
    ∙ (ap (λ x. record W { sets = x; marks = marks; tasks_out = tasks_out; outputs = outputs; journal = journal }) es
    ∙ (ap (λ x. record W { marks = x; tasks_out = tasks_out; outputs = outputs; journal = journal }) em
    ∙ (ap (λ x. record W { tasks_out = x; outputs = outputs; journal = journal }) ea
    ∙ (ap (λ x. record W { outputs = x; journal = journal }) eu
    ∙ ap (λ x. record W { journal = x }) ej')))))))))
    (first_world p s lims form r.heap.slots r.heap.spare journal.room set empty)
