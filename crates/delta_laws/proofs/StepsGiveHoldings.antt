-- What the steps of a task tell of heaps gives what these hold.
use Rattle.delta_laws.proofs.Common.{◌≡◌, ◌<◌, ◌≤◌, ℕ, pos, zero, suc, ◌+◌, ◌-◌, ◌==◌, ◌⊎◌, Bool, true, false, cond, Option, Some, None, List, [], ◌∷◌, ◌++◌, length, map, slice_get, slice_set, replicate, take, inl, inr, refl, ap, ap₂, sym, subst, ◌∙◌, arith, eq-eqb, ne_eqb, option_map, cond-true, cond-false, false≢true, both_ways, le-leb, slice_get-map, length-set, length-take, length-replicate, got_same, got_within, got_some, Instr, Set, Mov, Movr, Nil as NilOf, Calc, Same, Jmp, Jz, Newm, Pack, Getr, Geti, Putr, Puti, Cntr, Cnti, Freeze, Cas, Call, Par, Ret, Out, Line, ProgramText, line_at, Name, Object, Frame, Done, Running, Waiting, Joined, Task, Size, MachineState, Effect, Goes, effect, made, object_at, row_of, counts_in, place_in, same_name, int_in, ref_in, or_trap, with_ref, onward, next_name, words_asked, words_for, step, follow, setting, fetched, can_step, asked, asked_line, runs, is_running, is_left, owner_of, parent_of, child, strand, strand_of, edge, joined_task, resumed, join_of, ended_task, result_of, ended_by, set_got, asked_at, grown_length, grown_at, grown_left, grown_right, three_top, three_left, three_right, three_length, below, parr, step_cases, runs_is, can_task, step_taken, made_here, Heap, Ledger, chunk_words, is_small_size, object_words_of, heap_of, or_fresh, with_heap, with_heap_at, within, with_allocation, put_last, fresh, forked_heap, merged, emptied, let_go, allocated_by, allocated_in, settled, moved_on, moved_to, at_join, join_heaps, stepped_to, task_step, task_steps, stepped_machine, task_step_machine, SoundAt, steps_last, task_steps_sound, running_at, can_tells, with_heap_any, Deed, Allocates, Reads, Counts, Writes, Swaps, Freezes, Prints, StepAct, NewObject, Change, Changes, Reference, Number, deed, act_of, act_by, step_act_of, if_there, reference_in, number_in, number_place, born, changed_by, with_act, changes, stepped, standing_for, now_of, joined_now, moved_by, moved, children, child_of, Holding, holding, holdings, nothing_held, changed_in, changed_at, with_birth, put_birth, put_births, put_made, holding_or_none, with_children, without_objects, put_join, has_joined, without_marking, put_moves}
use Rattle.hh_model.specs.declared.data.End.{End}

-- CHANGES OF ONE HEAP

pub map_set : {A B : Type 0} (f : A → B) (xs : List A) (k : ℕ) (y : A) → map f (slice_set xs k y) ≡ slice_set (map f xs) k (f y)
map_set f [] k y = refl
map_set f (x ∷ xs) zero y = refl
map_set f (x ∷ xs) (suc k) y = ap (λ zs. f x ∷ zs) (map_set f xs k y)

map_two : {A B : Type 0} (f : A → B) (xs : List A) (y z : A) → map f (xs ++ y ∷ z ∷ []) ≡ (map f xs ++ f y ∷ []) ++ f z ∷ []
map_two f [] y z = refl
map_two f (x ∷ xs) y z = ap (λ zs. f x ∷ zs) (map_two f xs y z)

pub held_there : (l : Ledger) (t : ℕ) (o : Option Heap) → slice_get l.heaps t ≡ o → slice_get (holdings l) t ≡ option_map holding o
held_there l t o e = slice_get-map holding l.heaps t ∙ ap (option_map holding) e

changed_now : (l : Ledger) (t : ℕ) (f : Heap → Heap) (g : Holding → Holding) → ((h : Heap) → slice_get l.heaps t ≡ Some h → holding (f h) ≡ g (holding h)) → holdings (with_heap l t f) ≡ changed_at t g (holdings l)
changed_now l t f g same = changed_now_by_cases (slice_get l.heaps t) refl
  where
    changed_now_by_cases : (o : Option Heap) → slice_get l.heaps t ≡ o → holdings (with_heap_at l t f o) ≡ changed_at t g (holdings l)
    changed_now_by_cases None e = sym (ap (changed_in t g (holdings l)) (held_there l t None e))
    changed_now_by_cases (Some h) e = map_set holding l.heaps t (f h) ∙ (ap (slice_set (holdings l) t) (same h e) ∙ sym (ap (changed_in t g (holdings l)) (held_there l t (Some h) e)))

-- what a heap holds stays
pub unchanged_now : (l : Ledger) (t : ℕ) (f : Heap → Heap) → ((h : Heap) → holding (f h) ≡ holding h) → holdings (with_heap l t f) ≡ holdings l
unchanged_now l t f same = with_heap_any (λ k. holdings k ≡ holdings l) l t f refl (λ h e.
    map_set holding l.heaps t (f h) ∙ (ap (slice_set (holdings l) t) (same h) ∙ set_got (holdings l) t (holding h) (held_there l t (Some h) e)))

-- OBJECTS

births_more : (hs : List Holding) (a b : List Change) → put_births hs (a ++ b) ≡ put_births (put_births hs a) b
births_more hs [] b = refl
births_more hs (c ∷ cs) b = births_more (put_birth hs c) cs b

-- what allocates nothing leaves what heaps hold
abbrev quiet : Option Deed → Bool
quiet None = true
quiet (Some (Allocates n)) = false
quiet (Some (Reads n at v)) = true
quiet (Some (Counts n)) = true
quiet (Some (Writes n at v)) = true
quiet (Some (Swaps n at r swapped)) = true
quiet (Some (Freezes n)) = true
quiet (Some (Prints k)) = true

quiet_put : (m : MachineState) (hs : List Holding) (d : Option Deed) → quiet d ≡ true → put_births hs (changed_by m d) ≡ hs
quiet_put m hs None h = refl
quiet_put m hs (Some (Allocates n)) h = absurd (false≢true h)
quiet_put m hs (Some (Reads n at v)) h = refl
quiet_put m hs (Some (Counts n)) h = refl
quiet_put m hs (Some (Writes n at v)) h = refl
quiet_put m hs (Some (Swaps n at r true)) h = refl
quiet_put m hs (Some (Swaps n at r false)) h = refl
quiet_put m hs (Some (Freezes n)) h = refl
quiet_put m hs (Some (Prints k)) h = refl

quiet_place : (o : Option ℕ) (go : ℕ → Option Deed) → ((at : ℕ) → quiet (go at) ≡ true) → quiet (if_there o go) ≡ true
quiet_place None go each = refl
quiet_place (Some at) go each = each at

quiet_object : (store : List (List Object)) (r : Option Name) (go : Name → Object → Option Deed) → ((n : Name) (y : Object) → quiet (go n y) ≡ true) → quiet (if_there r (λ n. if_there (object_at store n) (go n))) ≡ true
quiet_object store None go each = refl
quiet_object store (Some n) go each = quiet_object_by_cases (object_at store n)
  where
    quiet_object_by_cases : (o : Option Object) → quiet (if_there o (go n)) ≡ true
    quiet_object_by_cases None = refl
    quiet_object_by_cases (Some y) = each n y

quiet_cond : (b : Bool) (d : Option Deed) → quiet d ≡ true → quiet (cond b d None) ≡ true
quiet_cond true d h = h
quiet_cond false d h = refl

-- ONE INSTRUCTION

module _ (k : Ledger) (t : ℕ) (x : Task) (line : ℕ) (row : List Object) (is_row : slice_get k.machine.store t ≡ Some row) where
  abbrev at_k : MachineState
  at_k = k.machine

  abbrev new_name : Name
  new_name = next_name t at_k.store

  -- what it changes is put as the accounts place it
  abbrev Lands : Effect → Option Deed → Option ℕ → Type 0
  Lands e d asks = put_births (holdings k) (changed_by (follow at_k t x line e) d) ≡ holdings (allocated_by k t asks)

  abbrev birth : Object → NewObject
  birth o = record { name = new_name; mutable = o.mutable; refs = o.refs; ints = o.ints }

  placed_so : (o : Object) (w : ℕ) (h : Heap) → is_small_size (object_words_of (Some o)) ≡ is_small_size w → holding (with_allocation h new_name w) ≡ with_birth (birth o) (holding h)
  placed_so o w h same = placed_so_by_cases (is_small_size w) (is_small_size (object_words_of (Some o))) same
    where
      placed_so_by_cases : (v u : Bool) → u ≡ v → holding (cond v (record h { chunks = put_last h.chunks new_name; room = h.room - w; since = h.since + w }) (record h { large = h.large ++ new_name ∷ []; reserved = 0; since = h.since + w }))
          ≡ cond u (record (holding h) { chunks = put_last h.chunks new_name }) (record (holding h) { large = h.large ++ new_name ∷ []; waiting = 0 })
      placed_so_by_cases true true e = refl
      placed_so_by_cases true false e = absurd (false≢true e)
      placed_so_by_cases false true e = absurd (false≢true (sym e))
      placed_so_by_cases false false e = refl

  lands_new : (f : Frame) (o : Object) (w : ℕ) → is_small_size (object_words_of (Some o)) ≡ is_small_size w → Lands (Goes f (slice_set at_k.store t (row_of (slice_get at_k.store t) ++ o ∷ []))) (Some (Allocates new_name)) (Some w)
  lands_new f o w same =
      ap (λ (b : Option Object). put_births (holdings k) (born new_name b)) (made_here at_k.store t row o is_row)
      ∙ sym (changed_now k t (λ h. with_allocation h new_name w) (with_birth (birth o)) (λ h e. placed_so o w h same))

  pack_small : (f : Frame) (o : Object) (r i : ℕ) → length o.refs ≤ r → length o.ints ≤ i → r ≤ 16 → i ≤ 16 → is_small_size (object_words_of (Some o)) ≡ is_small_size (2 + r + i)
  pack_small f o r i a b c d = le-leb (2 + length o.refs + length o.ints) chunk_words (omega arith) ∙ sym (le-leb (2 + r + i) chunk_words (omega arith))

  at_most : {A : Type 0} (r : ℕ) (xs : List A) → length (take r xs) ≤ r
  at_most r xs = omega (arith, length-take r xs)

  still_put : (i : Instr) → quiet (deed at_k t x.top i) ≡ true → put_births (holdings k) (changed_by (follow at_k t x line (effect (setting at_k t x) x.top at_k.store i)) (deed at_k t x.top i)) ≡ holdings k
  still_put i q = quiet_put (follow at_k t x line (effect (setting at_k t x) x.top at_k.store i)) (holdings k) (deed at_k t x.top i) q

  lands : (instr : Instr) → ((d r i : ℕ) → instr ≡ Pack d r i → (r ≤ 16) × (i ≤ 16)) → Lands (effect (setting at_k t x) x.top at_k.store instr) (deed at_k t x.top instr) (words_asked at_k.field_limit x.top instr)
  lands (Newm d a b) small = lands_by_cases (counts_in at_k.field_limit (int_in x.top a) (int_in x.top b))
    where
      lands_by_cases : (o : Option (ℕ × ℕ)) → Lands (or_trap Size o (λ c. made (setting at_k t x) x.top at_k.store d (record { strand = strand_of t x; mutable = true; refs = replicate c.0 None; ints = replicate c.1 (pos 0) }))) (if_there o (λ c. Some (Allocates new_name))) (words_for o)
      lands_by_cases None = refl
      lands_by_cases (Some c) =
          lands_new (onward (with_ref x.top d (Some new_name))) (record { strand = strand_of t x; mutable = true; refs = replicate c.0 None; ints = replicate c.1 (pos 0) }) (2 + c.0 + c.1)
          (ap₂ (λ i j. is_small_size (2 + i + j)) (length-replicate {A = Option Name} c.0 None) (length-replicate c.1 (pos 0)))
  lands (Pack d r i) small =
      let o : Object = record { strand = strand_of t x; mutable = false; refs = take r x.top.refs; ints = take i x.top.ints } in
      lands_new (onward (with_ref x.top d (Some new_name))) o (2 + r + i) (pack_small x.top o r i (at_most r x.top.refs) (at_most i x.top.ints) (small d r i refl).0 (small d r i refl).1)
  lands (Set d n) small = refl
  lands (Mov d a) small = refl
  lands (Movr d a) small = refl
  lands (NilOf d) small = refl
  lands (Calc op d a b) small = refl
  lands (Same d a b) small = refl
  lands (Jmp to) small = refl
  lands (Jz a to) small = refl
  lands (Getr d o n) small = still_put (Getr d o n) (quiet_object at_k.store (ref_in x.top o) (λ q y. if_there (place_in (length y.refs) (int_in x.top n)) (λ at. Some (Reads q at (Reference (reference_in y at))))) (λ q y. quiet_place (place_in (length y.refs) (int_in x.top n)) (λ at. Some (Reads q at (Reference (reference_in y at)))) (λ at. refl)))
  lands (Geti d o n) small = still_put (Geti d o n) (quiet_object at_k.store (ref_in x.top o) (λ q y. if_there (place_in (length y.ints) (int_in x.top n)) (λ at. Some (Reads q (number_place y at) (Number (number_in y at))))) (λ q y. quiet_place (place_in (length y.ints) (int_in x.top n)) (λ at. Some (Reads q (number_place y at) (Number (number_in y at)))) (λ at. refl)))
  lands (Putr o n v) small = still_put (Putr o n v) (quiet_object at_k.store (ref_in x.top o) (λ q y. if_there (place_in (length y.refs) (int_in x.top n)) (λ at. cond y.mutable (Some (Writes q at (Reference (ref_in x.top v)))) None)) (λ q y. quiet_place (place_in (length y.refs) (int_in x.top n)) (λ at. cond y.mutable (Some (Writes q at (Reference (ref_in x.top v)))) None) (λ at. quiet_cond y.mutable (Some (Writes q at (Reference (ref_in x.top v)))) refl)))
  lands (Puti o n v) small = still_put (Puti o n v) (quiet_object at_k.store (ref_in x.top o) (λ q y. if_there (place_in (length y.ints) (int_in x.top n)) (λ at. cond y.mutable (Some (Writes q (number_place y at) (Number (int_in x.top v)))) None)) (λ q y. quiet_place (place_in (length y.ints) (int_in x.top n)) (λ at. cond y.mutable (Some (Writes q (number_place y at) (Number (int_in x.top v)))) None) (λ at. quiet_cond y.mutable (Some (Writes q (number_place y at) (Number (int_in x.top v)))) refl)))
  lands (Cntr d o) small = still_put (Cntr d o) (quiet_object at_k.store (ref_in x.top o) (λ q y. Some (Counts q)) (λ q y. refl))
  lands (Cnti d o) small = still_put (Cnti d o) (quiet_object at_k.store (ref_in x.top o) (λ q y. Some (Counts q)) (λ q y. refl))
  lands (Freeze o) small = still_put (Freeze o) (quiet_object at_k.store (ref_in x.top o) (λ q y. cond (owner_of at_k.tasks q.task == t) (Some (Freezes q)) None) (λ q y. quiet_cond (owner_of at_k.tasks q.task == t) (Some (Freezes q)) refl))
  lands (Cas d o n e v) small = still_put (Cas d o n e v) (quiet_object at_k.store (ref_in x.top o) (λ q y. if_there (place_in (length y.refs) (int_in x.top n)) (λ at. cond y.mutable (Some (Swaps q at (ref_in x.top v) (same_name (reference_in y at) (ref_in x.top e)))) None)) (λ q y. quiet_place (place_in (length y.refs) (int_in x.top n)) (λ at. cond y.mutable (Some (Swaps q at (ref_in x.top v) (same_name (reference_in y at) (ref_in x.top e)))) None) (λ at. quiet_cond y.mutable (Some (Swaps q at (ref_in x.top v) (same_name (reference_in y at) (ref_in x.top e)))) refl)))
  lands (Call g) small = refl
  lands (Par g h) small = refl
  lands Ret small = refl
  lands (Out a) small = refl

-- THE TASKS OF A STEP

pub one_moved : (p : ProgramText) (hs : List Holding) (t : ℕ) (out : Bool) (o : Option Task) → put_moves hs (now_of p t out o) ≡ hs
one_moved p hs t out None = refl
one_moved p hs t out (Some x) = refl

none_made : (m : MachineState) (n now : ℕ) → now ≡ n → children m n now ≡ []
none_made m n now e = cond-true (now == n) _ _ (eq-eqb now n e)

two_made : (m : MachineState) (n now : ℕ) (c d : Task) → now ≡ n + 2 → slice_get m.tasks n ≡ Some c → slice_get m.tasks (n + 1) ≡ Some d → (hs : List Holding) → put_made hs (children m n now) ≡ (hs ++ nothing_held ∷ []) ++ nothing_held ∷ []
two_made m n now c d e at_c at_d hs =
    ap (put_made hs) (cond-false (now == n) [] _ (ne_eqb now n (λ q. omega arith)))
    ∙ ap₂ (λ (a b : Option Task). put_made hs (child_of n a ++ child_of (n + 1) b)) at_c at_d

held_in_heap : (l : Ledger) (u : ℕ) → holding (heap_of l u) ≡ holding_or_none (slice_get (holdings l) u)
held_in_heap l u = held_in_heap_by_cases (slice_get l.heaps u) refl
  where
    held_in_heap_by_cases : (o : Option Heap) → slice_get l.heaps u ≡ o → holding (or_fresh o) ≡ holding_or_none (slice_get (holdings l) u)
    held_in_heap_by_cases None e = sym (ap holding_or_none (held_there l u None e))
    held_in_heap_by_cases (Some h) e = sym (ap holding_or_none (held_there l u (Some h) e))

join_put : (l : Ledger) (parent left : ℕ) → holdings (join_heaps l parent left) ≡ put_join (holdings l) parent left (left + 1)
join_put l parent left =
    let l1 : Ledger = with_heap l parent (λ h. merged h (heap_of l left) (heap_of l (left + 1))) in
    let l2 : Ledger = with_heap l1 left emptied in
    let hs : List Holding = holdings l in
    let first : holdings l1 ≡ changed_at parent (with_children (holding_or_none (slice_get hs left)) (holding_or_none (slice_get hs (left + 1)))) hs =
    changed_now l parent _ (with_children (holding_or_none (slice_get hs left)) (holding_or_none (slice_get hs (left + 1)))) (λ h e.
    ap₂ (λ (a b : Holding). with_children a b (holding h)) (held_in_heap l left) (held_in_heap l (left + 1))) in
    changed_now l2 (left + 1) emptied without_objects (λ h e. refl)
    ∙ ap (changed_at (left + 1) without_objects) (changed_now l1 left emptied without_objects (λ h e. refl) ∙ ap (changed_at left without_objects) first)

-- THE STEPS OF AN ENTRY

module _ (p : ProgramText) (l : Ledger) (t : ℕ) where
  abbrev first_made : ℕ
  first_made = length l.machine.tasks

  -- with the tasks that are made and moved, what was put gives what the heaps hold
  abbrev Whole : MachineState → List Holding → List Holding → Type 0
  Whole m put now = now ≡ put_moves (put_made put (children m first_made (length m.tasks))) (moved p m first_made t (slice_get m.tasks t))

  -- as long as the task runs no other was made
  abbrev RunsOn : MachineState → List Holding → List Holding → Type 0
  RunsOn m put now = is_running (slice_get m.tasks t) ≡ true → (now ≡ put) × (length m.tasks ≡ first_made)

  abbrev Holds : MachineState → List Holding → List Holding → Type 0
  Holds m put now = Whole m put now × RunsOn m put now

  stays_on : (m : MachineState) (put now : List Holding) (y : Task) → slice_get m.tasks t ≡ Some y → y.status ≡ Running → now ≡ put → length m.tasks ≡ first_made → Holds m put now
  stays_on m put now y is run same many = (
    same
        ∙ sym (ap₂ (λ cs xs. put_moves (put_made put cs) xs) (none_made m first_made (length m.tasks) many) (ap (moved p m first_made t) is ∙ ap (moved_by p m first_made t y.parent) run)
        ∙ one_moved p put t true (slice_get m.tasks t)),
    λ r. (same, many),
  )

  -- what a task holds that runs no more is all told
  stops : (m : MachineState) (put now : List Holding) → is_running (slice_get m.tasks t) ≡ false → Whole m put now → Holds m put now
  stops m put now e whole = (whole, λ r. absurd (both_ways (is_running (slice_get m.tasks t)) e r))

  module _ (k : Ledger) (S : SoundAt t k) (can : can_step k.machine t ≡ true) (many : length k.machine.tasks ≡ first_made) where
    abbrev m : MachineState
    m = k.machine

    abbrev b : Ledger
    b = allocated_in p k t

    abbrev by_now : MachineState → List Holding
    by_now m' = holdings (stepped_to b t m')

    abbrev Owes : MachineState → Type 0
    Owes m' = Holds m' (holdings b) (by_now m')

    going : m.end ≡ None
    going = (can_tells m t can).0

    abbrev onto : MachineState → Ledger
    onto m' = record b { machine = m'; steps = b.steps + 1 }

    -- the accounts after a step by which the machine doesn't end
    goes : (m' : MachineState) (y : Task) → m'.end ≡ None → slice_get m'.tasks t ≡ Some y → stepped_to b t m' ≡ moved_on (onto m') t y.parent y.status
    goes m' y end is = ap (settled (onto m') t) end ∙ ap (moved_to (onto m') t) is

    stays : (m' : MachineState) (y : Task) → m'.end ≡ None → slice_get m'.tasks t ≡ Some y → y.status ≡ Running → length m'.tasks ≡ length m.tasks → Owes m'
    stays m' y end is run same = stays_on m' (holdings b) (by_now m') y is run (ap holdings (goes m' y end is) ∙ ap (λ s. holdings (moved_on (onto m') t y.parent s)) run) (same ∙ many)

    halts : (e : End) → (y : Task) → slice_get m.tasks t ≡ Some y → y.status ≡ Running → Owes (ended_by m e)
    halts e y is run = stays_on (ended_by m e) (holdings b) (by_now (ended_by m e)) y is run refl many

    ends : (x : Task) (e : Option End) → slice_get m.tasks t ≡ Some x → (e ≡ Some Done) ⊎ (e ≡ m.end) → Owes (record m { tasks = slice_set m.tasks t (ended_task x (result_of x.top)); end = e })
    ends x e is how =
        let y : Task = ended_task x (result_of x.top) in
        let m' : MachineState = record m { tasks = slice_set m.tasks t y; end = e } in
        let at : slice_get m'.tasks t ≡ Some y = got_same m.tasks t x y is in
        let held : by_now m' ≡ holdings b = elim how [
          | inl over ↦ ap (λ o. holdings (settled (onto m') t o)) over
          | inr same ↦ ap holdings (goes m' y (same ∙ going) at) ∙ unchanged_now (onto m') t let_go (λ h. refl)
        ] in
        stops m' (holdings b) (by_now m') (ap is_running at)
        (held ∙ sym (ap₂ (λ cs xs. put_moves (put_made (holdings b) cs) xs) (none_made m' first_made (length m'.tasks) (length-set m.tasks t y ∙ many)) (ap (moved p m' first_made t) at)
        ∙ one_moved p (holdings b) t false (slice_get m'.tasks t)))

    forks : (m' : MachineState) (x y c d : Task) → slice_get m.tasks t ≡ Some x → m'.tasks ≡ slice_set m.tasks t y ++ c ∷ d ∷ [] → y.status ≡ Waiting → c.status ≡ Running → m'.end ≡ None → Owes m'
    forks m' x y c d is grows waits_y runs_c end =
        let n : ℕ = length m.tasks in
        let slot : (u : ℕ) → slice_get m'.tasks u ≡ slice_get (slice_set m.tasks t y ++ c ∷ d ∷ []) u = λ u. ap (λ (ts : List Task). slice_get ts u) grows in
        let at : slice_get m'.tasks t ≡ Some y = slot t ∙ grown_at m.tasks t x y c d is in
        let at_c : slice_get m'.tasks first_made ≡ Some c = ap (slice_get m'.tasks) (sym many) ∙ (slot n ∙ grown_left m.tasks t x y c d is) in
        let at_d : slice_get m'.tasks (first_made + 1) ≡ Some d = ap (λ j. slice_get m'.tasks (j + 1)) (sym many) ∙ (slot (n + 1) ∙ grown_right m.tasks t x y c d is) in
        let now : length m'.tasks ≡ first_made + 2 = ap length grows ∙ (grown_length m.tasks t x y c d is ∙ ap (λ j. j + 2) many) in
        let two : List Holding = (holdings b ++ nothing_held ∷ []) ++ nothing_held ∷ [] in
        let j : Ledger = onto m' in
        let held : by_now m' ≡ changed_at t without_marking two =
        ap holdings (goes m' y end at) ∙ (ap (λ s. holdings (moved_on j t y.parent s)) waits_y
        ∙ (changed_now (record j { heaps = j.heaps ++ fresh ∷ fresh ∷ [] }) t (forked_heap (within j t)) without_marking (λ h e. refl)
        ∙ ap (changed_at t without_marking) (map_two holding b.heaps fresh fresh))) in
        let told : moved p m' first_made t (slice_get m'.tasks t) ≡ (now_of p t false (Some y) ++ now_of p first_made false (Some c)) ++ now_of p (first_made + 1) false (Some d) =
        ap (moved p m' first_made t) at ∙ (ap (moved_by p m' first_made t y.parent) waits_y
        ∙ (λ i. (now_of p t false (at i) ++ now_of p first_made false (at_c i)) ++ now_of p (first_made + 1) false (at_d i))) in
        stops m' (holdings b) (by_now m') (ap is_running at ∙ ap runs waits_y)
        (held ∙ sym (ap₂ (λ hs xs. put_moves hs xs) (two_made m' first_made (length m'.tasks) c d now at_c at_d (holdings b)) told
        ∙ ap (λ s. cond (has_joined (standing_for false s)) (put_join two t first_made (first_made + 1)) (changed_at t without_marking two)) runs_c))

    joins : (m' : MachineState) (parent c : ℕ) (yl yr yp : Task) → slice_get m'.tasks parent ≡ Some yp → slice_get m'.tasks c ≡ Some yl → slice_get m'.tasks (c + 1) ≡ Some yr
        → yl.status ≡ Joined → yr.status ≡ Joined → yl.parent ≡ Some parent → yr.parent ≡ Some parent → length m'.tasks ≡ length m.tasks → m'.end ≡ None
        → ((t ≡ c) × (is_left t ≡ true)) ⊎ ((t ≡ c + 1) × (is_left t ≡ false)) → Owes m'
    joins m' parent c yl yr yp at_p at_l at_r jl jr pl pr same end side = elim side [
      | inl q ↦ joins_by_cases yl (ap (slice_get m'.tasks) q.0 ∙ at_l) jl pl (cond-true (is_left t) t (t - 1) q.1 ∙ q.0)
      | inr q ↦ joins_by_cases yr (ap (slice_get m'.tasks) q.0 ∙ at_r) jr pr (cond-false (is_left t) t (t - 1) q.1 ∙ (let e : t ≡ c + 1 = q.0 in let d : t - 1 ≡ c = omega arith in d))
    ]
      where
        joins_by_cases : (y : Task) → slice_get m'.tasks t ≡ Some y → y.status ≡ Joined → y.parent ≡ Some parent → cond (is_left t) t (t - 1) ≡ c → Owes m'
        joins_by_cases y at j pp left =
            let held : by_now m' ≡ put_join (holdings b) parent c (c + 1) =
            ap holdings (goes m' y end at) ∙ (ap (λ s. holdings (moved_on (onto m') t y.parent s)) j
            ∙ (ap (λ o. holdings (at_join (onto m') t o)) pp ∙ (ap (λ v. holdings (join_heaps (onto m') parent v)) left ∙ join_put (onto m') parent c))) in
            let told : moved p m' first_made t (slice_get m'.tasks t) ≡ (now_of p parent false (Some yp) ++ now_of p c false (Some yl)) ++ now_of p (c + 1) false (Some yr) =
            ap (moved p m' first_made t) at ∙ (ap (moved_by p m' first_made t y.parent) j ∙ (ap (joined_now p m' (cond (is_left t) t (t - 1))) pp ∙ (ap (λ v. joined_now p m' v (Some parent)) left
            ∙ (λ i. (now_of p parent false (at_p i) ++ now_of p c false (at_l i)) ++ now_of p (c + 1) false (at_r i))))) in
            stops m' (holdings b) (by_now m') (ap is_running at ∙ ap runs j)
            (held ∙ sym (ap₂ (λ cs xs. put_moves (put_made (holdings b) cs) xs) (none_made m' first_made (length m'.tasks) (same ∙ many)) told
            ∙ ap (λ s. cond (has_joined (standing_for false s)) (put_join (holdings b) parent c (c + 1)) (changed_at parent without_marking (holdings b))) jl))

    step_holds : Owes (step p m t)
    step_holds =
        step_cases p m t S.0.fork_join Owes
        (stays m now.0 going now.1 now.2 refl)
        (λ x e is run why. halts e x is (runs_is x.status run))
        (λ x y store outs is run ep ed es ej names fields alters grows.
        stays (record m { tasks = slice_set m.tasks t y; store = store; outputs = outs }) y going (got_same m.tasks t x y is) (es ∙ runs_is x.status run) (length-set m.tasks t y))
        (λ x parent e is run pp which result. ends x e is (elim which [ inl q ↦ inl q.1 | inr q ↦ inr q.1 ]))
        (λ x g h is run next top. forks (record m {
          tasks = slice_set m.tasks t (record x { status = Waiting; top = onward x.top }) ++ child t (x.depth + 1) g x.top ∷ child t (x.depth + 1) h x.top ∷ [];
          store = m.store ++ [] ∷ [] ∷ [];
          edges = m.edges ++ edge (strand_of t x) (strand (length m.tasks) 0) ∷ edge (strand_of t x) (strand (length m.tasks + 1) 0) ∷ [];
        }) x (record x { status = Waiting; top = onward x.top }) (child t (x.depth + 1) g x.top) (child t (x.depth + 1) h x.top) is refl refl refl going)
        (λ parent c xp xl xr rl rr ip il ir pl left dl dr wl wr nl nr side.
        let T = S.0.fork_join.tree in
        let under = below m.tasks m.edges c parent xl xr xp rl rr il ir ip pl left dl dr wl wr T in
        let yl : Task = joined_task xl in
        let yr : Task = joined_task xr in
        let yp : Task = resumed xp rl rr in
        joins (join_of m parent xp c xl xr rl rr) parent c yl yr yp
        (three_top m.tasks c parent xl xr xp yl yr yp il ir ip under) (three_left m.tasks c parent xl xr xp yl yr yp il ir ip under) (three_right m.tasks c parent xl xr xp yl yr yp il ir ip under)
        refl refl pl (sym (ap parent_of ir) ∙ parr m.tasks m.edges c parent xl xr xp rl rr il ir ip pl left dl dr wl wr T)
        (three_length m.tasks c parent xl xr xp yl yr yp il ir ip under) going (elim side [ inl q ↦ inl (q.0, q.1) | inr q ↦ inr (q.0, q.1) ]))
      where
        now : (x : Task) × (slice_get m.tasks t ≡ Some x) × (x.status ≡ Running)
        now = let x = running_at m.tasks t (slice_get m.tasks t) refl (can_tells m t can).1 in (x.0, x.1, runs_is (x.0).status x.2)

  module _ (packs : (g n : ℕ) (line : Line) (d r i : ℕ) → line_at p g n ≡ Some line → line.instr ≡ Pack d r i → (r ≤ 16) × (i ≤ 16)) where
    -- what a step that is taken puts is what the accounts place
    module _ (k : Ledger) (can : can_step k.machine t ≡ true) (rows : length k.machine.store ≡ length k.machine.tasks) (hs : List Holding) (ch : Changes) (so_far : holdings k ≡ put_births hs ch.all) where
      abbrev found : (x : Task) × (slice_get k.machine.tasks t ≡ Some x) × (is_running (Some x) ≡ true)
      found = can_task k.machine t can

      abbrev runner : Task
      runner = found.0

      act_is : act_of p k.machine t ≡ step_act_of k.machine t runner (fetched p runner.top)
      act_is = cond-true (can_step k.machine t) (act_by p k.machine t (slice_get k.machine.tasks t)) None can ∙ ap (act_by p k.machine t) found.1

      asked_now : asked p k.machine t ≡ asked_line k.machine.field_limit runner.top (fetched p runner.top)
      asked_now = asked_at p k.machine t runner found.1 found.2

      row : (r : List Object) × (slice_get k.machine.store t ≡ Some r)
      row = got_some k.machine.store t (let lt : t < length k.machine.tasks = got_within k.machine.tasks t runner found.1 in let le : t < length k.machine.store = omega arith in le)

      abbrev Put : Option StepAct → Type 0
      Put a = holdings (allocated_in p k t) ≡ put_births hs (with_act (step p k.machine t) ch a).all

      births_by : (o : Option Line) → fetched p runner.top ≡ o → Put (step_act_of k.machine t runner o)
      births_by None e = ap (λ w. holdings (allocated_by k t w)) (asked_now ∙ ap (asked_line k.machine.field_limit runner.top) e) ∙ so_far
      births_by (Some line) e =
          let new : MachineState → List Change = λ q. changed_by q (deed k.machine t runner.top line.instr) in
          let after : MachineState = follow k.machine t runner line.number (effect (setting k.machine t runner) runner.top k.machine.store line.instr) in
          ap (λ w. holdings (allocated_by k t w)) (asked_now ∙ ap (asked_line k.machine.field_limit runner.top) e)
          ∙ (sym (lands k t runner line.number row.0 row.1 line.instr (λ d r i q. packs runner.top.function runner.top.next line d r i e q))
          ∙ (ap (λ zs. put_births zs (new after)) so_far
          ∙ (sym (births_more hs ch.all (new after))
          ∙ ap (λ (q : MachineState). put_births hs (ch.all ++ new q)) (sym (step_taken p k.machine t runner line can found.1 e)))))

      births_now : Put (act_of p k.machine t)
      births_now = subst Put (sym act_is) (births_by (fetched p runner.top) refl)

    abbrev HoldsBy : Ledger → List Change → Type 0
    HoldsBy k cs = Holds k.machine (put_births (holdings l) cs) (holdings k)

    module _ (k : Ledger) (ch : Changes) (S : SoundAt t k) (rows : length k.machine.store ≡ length k.machine.tasks) (K : HoldsBy k ch.all) where
      abbrev with_step : List Change
      with_step = (with_act (step p k.machine t) ch (act_of p k.machine t)).all

      step_by : (v : Bool) → can_step k.machine t ≡ v → HoldsBy (cond v (stepped_to (allocated_in p k t) t (step p k.machine t)) (record k { steps = k.steps + 1 })) with_step
      step_by true can =
          let on = K.1 (can_tells k.machine t can).1 in
          let put = births_now k can rows (holdings l) ch on.0 in
          let next : Ledger = stepped_to (allocated_in p k t) t (step p k.machine t) in
          subst (λ (q : MachineState). Holds q (put_births (holdings l) with_step) (holdings next)) (sym (stepped_machine (allocated_in p k t) t (step p k.machine t)))
          (subst (λ hs. Holds (step p k.machine t) hs (holdings next)) put (step_holds k S can on.1))
      step_by false can =
          let none : act_of p k.machine t ≡ None = cond-false (can_step k.machine t) (act_by p k.machine t (slice_get k.machine.tasks t)) None can in
          subst (λ zs. HoldsBy k zs) (sym (ap (λ (a : Option StepAct). (with_act (step p k.machine t) ch a).all) none)) K

      next_holds : HoldsBy (task_step p k t) with_step
      next_holds = step_by (can_step k.machine t) refl

    module _ (S : SoundAt t l) (run : is_running (slice_get l.machine.tasks t) ≡ true) (rows : (j : ℕ) → length (stepped p l.machine t j).store ≡ length (stepped p l.machine t j).tasks) where
      pub machine_at : (j : ℕ) → (task_steps p l t j).machine ≡ stepped p l.machine t j
      machine_at zero = refl
      machine_at (suc j) = ap (λ (q : Ledger). q.machine) (steps_last p l t j) ∙ (task_step_machine p (task_steps p l t j) t ∙ ap (λ q. step p q t) (machine_at j))

      pub steps_hold : (j : ℕ) → HoldsBy (task_steps p l t j) (changes p l.machine t j).all
      steps_hold zero = let x = running_at l.machine.tasks t (slice_get l.machine.tasks t) refl run in stays_on l.machine (holdings l) (holdings l) x.0 x.1 (runs_is (x.0).status x.2) refl refl
      steps_hold (suc j) =
          let k : Ledger = task_steps p l t j in
          let ch : Changes = changes p l.machine t j in
          let rows_k : length k.machine.store ≡ length k.machine.tasks = subst (λ (q : MachineState). length q.store ≡ length q.tasks) (sym (machine_at j)) (rows j) in
          subst (λ (q : Ledger). HoldsBy q (changes p l.machine t (suc j)).all) (sym (steps_last p l t j))
          (subst (λ (q : MachineState). HoldsBy (task_step p k t) (with_act (step p q t) ch (act_of p q t)).all) (machine_at j) (next_holds k ch (task_steps_sound p j l t S) rows_k (steps_hold j)))
