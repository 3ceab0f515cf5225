-- Each block of a run's log is born once.
use Rattle.run_limit_laws.proofs.Common.{◌≡◌, ◌<◌, ◌≤◌, ℕ, Bool, true, cond, Option, Some, None, List, [], ◌∷◌, ◌++◌, length, slice_get, ◌⊎◌, inl, inr, is_some, refl, ap, sym, subst, ◌∙◌, arith, append-nil, length-append, flat_map-append, slice_get_within, slice_get_past, ◌==◌, Counted, object_at, row_of, int_in, ref_in, place_in, counts_in, same_name, next_name, words_asked, words_for, step, run, start, fetched, can_step, is_running, owner_of, asked_line, IsStored, Frame, MachineState, Name, Object, Task, TaskStatus, Running, Waiting, Ended, Joined, asked_at, runs_are_counted, run_push, run_is_fork_join_state, start_is_fork_join_state, can_runs, objects_stay, next_stored, In, in_append_cases, GraphStrand, ProgramText, Line, Instr, Set, Mov, Movr, Nil as NilOf, Calc, Same, Jmp, Jz, Newm, Pack, Getr, Geti, Putr, Puti, Cntr, Cnti, Freeze, Cas, Call, Par, Ret, Out, same_names, spot_after, Event, event, Deed, act_of, deed, if_there, number_in, number_place, reference_in, field_limit, act_told, on_strand, strand_now, turn_events, step_act, told_along, legal_ready, spot, born_by, blocks_born, AreDifferent, BlocksAreBornOnce}
use Rattle.run_turn_laws.specs.below.log_lines as acts
use Rattle.run_turn_laws.specs.below.run_deltas as deeds
use Rattle.run_turn_laws.specs.below.run_log.{block_of, moved_lines}
use Rattle.run_limit_laws.proofs.Numbers.{there_is, unfrozen, same_deed}

pub born_both : (xs ys : List Event) → blocks_born (xs ++ ys) ≡ blocks_born xs ++ blocks_born ys
born_both xs ys = flat_map-append (λ (e : Event). born_by e.act) xs ys

-- one more number
distinct_more : (ns : List ℕ) (n : ℕ) → AreDifferent ns → (In ns n → ⊥) → AreDifferent (ns ++ n ∷ [])
distinct_more [] n h new = ((λ i. i), tt)
distinct_more (m ∷ ns) n h new = (
  λ i. elim (in_append_cases ns (n ∷ []) m i) [
    | inl old ↦ h.0 old
    | inr (inl same) ↦ new (inl (sym same))
    | inr (inr none) ↦ none
  ],
  distinct_more ns n h.1 (λ i. new (inr i)),
)

-- TURNS ARE NO BIRTHS

module _ (u : GraphStrand) (made : ℕ) (m : MachineState) (t : ℕ) where
  by_status : (parent : Option ℕ) (status : TaskStatus) (x : Task) → x.parent ≡ parent → x.status ≡ status → blocks_born (spot_after (spot (Some u) []) (moved_lines made m t (Some x))).events ≡ []
  by_status parent Running x p s = rw s refl
  by_status parent Waiting x p s = rw s refl
  by_status parent (Ended k n) x p s = rw s refl
  by_status None Joined x p s = rw (s, p) refl
  by_status (Some q) Joined x p s = rw (s, p) refl

  no_birth : (o : Option Task) → blocks_born (spot_after (spot (Some u) []) (moved_lines made m t o)).events ≡ []
  no_birth None = refl
  no_birth (Some x) = by_status x.parent x.status x refl refl

-- WHAT A STEP BEARS

module _ (m : MachineState) (t : ℕ) (f : Frame) where
  abbrev next : Name
  next = next_name t m.store

  -- nothing that is done to an object allocates one
  of_object : (o : ℕ) (go : Name → Object → Option Deed) (n : Name) → ((q : Name) (x : Object) → go q x ≡ Some (deeds.Allocates n) → ⊥)
      → if_there (ref_in f o) (λ q. if_there (object_at m.store q) (go q)) ≡ Some (deeds.Allocates n) → ⊥
  of_object o go n h e =
      let a = there_is (ref_in f o) (λ q. if_there (object_at m.store q) (go q)) (deeds.Allocates n) e in
      let b = there_is (object_at m.store a.0) (go a.0) (deeds.Allocates n) a.2 in
      h a.0 b.0 b.2

  of_field : (size : Object → ℕ) (o k : ℕ) (go : Name → Object → ℕ → Option Deed) (n : Name) → ((q : Name) (x : Object) (at : ℕ) → go q x at ≡ Some (deeds.Allocates n) → ⊥)
      → if_there (ref_in f o) (λ q. if_there (object_at m.store q) (λ x. if_there (place_in (size x) (int_in f k)) (go q x))) ≡ Some (deeds.Allocates n) → ⊥
  of_field size o k go n h e =
      of_object o (λ q x. if_there (place_in (size x) (int_in f k)) (go q x)) n
      (λ q x z. let c = there_is (place_in (size x) (int_in f k)) (go q x) (deeds.Allocates n) z in h q x c.0 c.2) e

  unless_frozen : (b : Bool) (d : Deed) (n : Name) → (d ≡ deeds.Allocates n → ⊥) → cond b (Some d) None ≡ Some (deeds.Allocates n) → ⊥
  unless_frozen b d n h e = h (unfrozen b d (deeds.Allocates n) e)

  same_made : (n q : Name) → deeds.Allocates n ≡ deeds.Allocates q → q ≡ n
  same_made n q e = cc

  abbrev Makes : Instr → Name → Type 0
  Makes i n = (n ≡ next) × (is_some (words_asked m.field_limit f i) ≡ true)

  makes : (i : Instr) (n : Name) → deed m t f i ≡ Some (deeds.Allocates n) → Makes i n
  makes (Set d k) n e = absurd cc
  makes (Mov d a) n e = absurd cc
  makes (Movr d a) n e = absurd cc
  makes (NilOf d) n e = absurd cc
  makes (Calc op d a b) n e = absurd cc
  makes (Same d a b) n e = absurd cc
  makes (Jmp to) n e = absurd cc
  makes (Jz a to) n e = absurd cc
  makes (Newm d a b) n e =
      let h = there_is (counts_in m.field_limit (int_in f a) (int_in f b)) (λ c. Some (deeds.Allocates next)) (deeds.Allocates n) e in
      (same_made next n (same_deed (deeds.Allocates next) (deeds.Allocates n) h.2), ap (λ o. is_some (words_for o)) h.1)
  makes (Pack d r i) n e = (same_made next n (same_deed (deeds.Allocates next) (deeds.Allocates n) e), refl)
  makes (Getr d o k) n e = absurd (of_field (λ (x : Object). length x.refs) o k (λ q x at. Some (deeds.Reads q at (deeds.Reference (reference_in x at)))) n (λ q x at z. cc) e)
  makes (Geti d o k) n e = absurd (of_field (λ (x : Object). length x.ints) o k (λ q x at. Some (deeds.Reads q (number_place x at) (deeds.Number (number_in x at)))) n (λ q x at z. cc) e)
  makes (Putr o k v) n e =
      absurd (of_field (λ (x : Object). length x.refs) o k (λ q x at. cond x.mutable (Some (deeds.Writes q at (deeds.Reference (ref_in f v)))) None) n
      (λ q x at. unless_frozen x.mutable (deeds.Writes q at (deeds.Reference (ref_in f v))) n (λ z. cc)) e)
  makes (Puti o k v) n e =
      absurd (of_field (λ (x : Object). length x.ints) o k (λ q x at. cond x.mutable (Some (deeds.Writes q (number_place x at) (deeds.Number (int_in f v)))) None) n
      (λ q x at. unless_frozen x.mutable (deeds.Writes q (number_place x at) (deeds.Number (int_in f v))) n (λ z. cc)) e)
  makes (Cntr d o) n e = absurd (of_object o (λ q x. Some (deeds.Counts q)) n (λ q x z. cc) e)
  makes (Cnti d o) n e = absurd (of_object o (λ q x. Some (deeds.Counts q)) n (λ q x z. cc) e)
  makes (Freeze o) n e =
      absurd (of_object o (λ q x. cond (owner_of m.tasks q.task == t) (Some (deeds.Freezes q)) None) n (λ q x. unless_frozen (owner_of m.tasks q.task == t) (deeds.Freezes q) n (λ z. cc)) e)
  makes (Cas d o k c v) n e =
      absurd (of_field (λ (x : Object). length x.refs) o k (λ q x at. cond x.mutable (Some (deeds.Swaps q at (ref_in f v) (same_name (reference_in x at) (ref_in f c)))) None) n
      (λ q x at. unless_frozen x.mutable (deeds.Swaps q at (ref_in f v) (same_name (reference_in x at) (ref_in f c))) n (λ z. cc)) e)
  makes (Call g) n e = absurd cc
  makes (Par g h) n e = absurd cc
  makes Ret n e = absurd cc
  makes (Out a) n e = absurd cc

  -- nothing, or the block of the next object
  abbrev Bears : Instr → List ℕ → Type 0
  Bears i born = (born ≡ []) ⊎ ((born ≡ block_of next ∷ []) × (is_some (words_asked m.field_limit f i) ≡ true))

  bears : (m' : MachineState) (u : GraphStrand) (line : ℕ) (i : Instr) (o : Option Deed) → deed m t f i ≡ o → Bears i (blocks_born (on_strand u (act_told m' line o)))
  bears m' u line i None e = inl refl
  bears m' u line i (Some (deeds.Allocates n)) e = let h = makes i n e in inr (ap (λ q. block_of q ∷ []) h.0, h.1)
  bears m' u line i (Some (deeds.Reads n at (deeds.Reference r))) e = inl refl
  bears m' u line i (Some (deeds.Reads n at (deeds.Number k))) e = inl refl
  bears m' u line i (Some (deeds.Counts n)) e = inl refl
  bears m' u line i (Some (deeds.Writes n at (deeds.Reference r))) e = inl refl
  bears m' u line i (Some (deeds.Writes n at (deeds.Number k))) e = inl refl
  bears m' u line i (Some (deeds.Swaps n at r swapped)) e = inl refl
  bears m' u line i (Some (deeds.Freezes n)) e = inl refl
  bears m' u line i (Some (deeds.Prints k)) e = inl refl

-- ALONG A RUN

-- the blocks are those of objects in the store, each born once
record AreBorn (m : MachineState) (blocks : List ℕ) : Type 0 where
  pub stored : (b : ℕ) → In blocks b → (n : Name) × IsStored m n × (block_of n ≡ b)
  pub distinct : AreDifferent blocks

module _ (p : ProgramText) (limit : ℕ) where
  abbrev M : List ℕ → MachineState
  M ts = run p limit ts

  -- as long as there are few steps
  abbrev Born : List ℕ → List Event → Type 0
  Born ts events = length ts ≤ 1000000000 → AreBorn (M ts) (blocks_born events)

  pushed : (ts : List ℕ) (t : ℕ) → M (ts ++ t ∷ []) ≡ step p (M ts) t
  pushed ts t = run_push p (start p limit) ts t

  work : (ts : List ℕ) (t k : ℕ) (events : List Event) → is_running (slice_get (M ts).tasks t) ≡ true → Born ts events → Born ts (events ++ event (strand_now (M ts) t) (acts.Work k) ∷ [])
  work ts t k events run B few = subst (AreBorn (M ts)) (sym (born_both events (event (strand_now (M ts) t) (acts.Work k) ∷ []) ∙ append-nil (blocks_born events))) (B few)

  idle : (ts : List ℕ) (t : ℕ) (events : List Event) → act_of p (M ts) t ≡ None → step p (M ts) t ≡ M ts → Born ts events → Born (ts ++ t ∷ []) events
  idle ts t events none same B few = subst (λ q. AreBorn q (blocks_born events)) (sym (pushed ts t ∙ same)) (B (let n = length-append ts (t ∷ []) in omega (arith, few, n)))

  module _ (ts : List ℕ) (t : ℕ) (x : Task) (line : Line) (events : List Event)
      (can : can_step (M ts) t ≡ true) (is : slice_get (M ts).tasks t ≡ Some x) (at : fetched p x.top ≡ Some line) (few : length ts < 1000000000) (B : AreBorn (M ts) (blocks_born events)) where
    abbrev m : MachineState
    m = M ts

    abbrev m' : MachineState
    m' = step p m t

    abbrev new : Name
    new = next_name t m.store

    abbrev acted : List ℕ
    acted = blocks_born (on_strand (strand_now m t) (step_act p m t x line))

    C : Counted (length ts) m.tasks m.store
    C = runs_are_counted p limit ts

    later : (n : Name) → IsStored m n → IsStored m' n
    later n s = let l = objects_stay p limit ts (t ∷ []) n s.0 s.1 in (l.0, l.1)

    old_stored : (b : ℕ) → In (blocks_born events) b → (n : Name) × IsStored m' n × (block_of n ≡ b)
    old_stored b i = let s = B.stored b i in (s.0, later s.0 s.1, s.2)

    unstored : IsStored m new → ⊥
    unstored s = absurd (let z : None ≡ Some s.0 = sym (slice_get_past (row_of (slice_get m.store t)) (length (row_of (slice_get m.store t))) (omega arith)) ∙ s.1 in cc)

    unborn : In (blocks_born events) (block_of new) → ⊥
    unborn i =
        let s = B.stored (block_of new) i in
        let in_row = slice_get_within (row_of (slice_get m.store s.0.task)) s.0.count s.1.0 s.1.1 in
        let one = C.objects s.0.task in
        let other = C.objects t in
        let same : s.0 ≡ new = same_names s.0 new (omega (arith, in_row, one, few)) (omega (arith, other, few)) s.2 in
        unstored (subst (IsStored m) same s.1)

    is_made : is_some (words_asked m.field_limit x.top line.instr) ≡ true → IsStored m' new
    is_made h =
        next_stored p m t (run_is_fork_join_state p (start p limit) ts (start_is_fork_join_state p limit)) C.rows can
        (ap is_some (asked_at p m t x is (ap is_running (sym is) ∙ can_runs m t can) ∙ ap (asked_line m.field_limit x.top) at) ∙ h)

    with_more : (born : List ℕ) → Bears m t x.top line.instr born → AreBorn m' (blocks_born events ++ born)
    with_more born (inl none) = subst (λ bs. AreBorn m' (blocks_born events ++ bs)) (sym none) (subst (AreBorn m') (sym (append-nil (blocks_born events))) (record { stored = old_stored; distinct = B.distinct }))
    with_more born (inr one) =
        subst (λ bs. AreBorn m' (blocks_born events ++ bs)) (sym one.0)
        (record {
          stored = λ b i. elim (in_append_cases (blocks_born events) (block_of new ∷ []) b i) [
            | inl old ↦ old_stored b old
            | inr (inl same) ↦ (new, is_made one.1, same)
            | inr (inr none) ↦ absurd none
          ];
          distinct = distinct_more (blocks_born events) (block_of new) B.distinct unborn;
        })

    all_born : blocks_born ((events ++ on_strand (strand_now m t) (step_act p m t x line)) ++ turn_events m m' t) ≡ blocks_born events ++ acted
    all_born =
        born_both (events ++ on_strand (strand_now m t) (step_act p m t x line)) (turn_events m m' t)
        ∙ (ap (λ bs. blocks_born (events ++ on_strand (strand_now m t) (step_act p m t x line)) ++ bs) (no_birth (strand_now m t) (length m.tasks) m' t (slice_get m'.tasks t))
        ∙ (append-nil (blocks_born (events ++ on_strand (strand_now m t) (step_act p m t x line))) ∙ born_both events (on_strand (strand_now m t) (step_act p m t x line))))

    stepped_born : AreBorn (M (ts ++ t ∷ [])) (blocks_born ((events ++ on_strand (strand_now m t) (step_act p m t x line)) ++ turn_events m m' t))
    stepped_born = subst (λ q. AreBorn q (blocks_born ((events ++ on_strand (strand_now m t) (step_act p m t x line)) ++ turn_events m m' t))) (sym (pushed ts t))
        (subst (AreBorn m') (sym all_born) (with_more acted (bears m t x.top m' (strand_now m t) line.number line.instr (deed m t x.top line.instr) refl)))

  takes : (ts : List ℕ) (t : ℕ) (x : Task) (line : Line) (events : List Event) → can_step (M ts) t ≡ true → slice_get (M ts).tasks t ≡ Some x → fetched p x.top ≡ Some line → Born ts events
      → Born (ts ++ t ∷ []) ((events ++ on_strand (strand_now (M ts) t) (step_act p (M ts) t x line)) ++ turn_events (M ts) (step p (M ts) t) t)
  takes ts t x line events can is at B few =
      let n = length-append ts (t ∷ []) in
      stepped_born ts t x line events can is at (omega (arith, few, n)) (B (omega (arith, few, n)))

pub blocks_are_born_once : BlocksAreBornOnce
blocks_are_born_once p s journal legal few =
    let limit = field_limit s.version in
    let B = told_along p limit (Born p limit) (work p limit) (idle p limit) (takes p limit) journal (λ few. record { stored = λ b i. absurd i; distinct = tt }) (legal_ready p s journal legal) in
    (B.1 few).distinct
