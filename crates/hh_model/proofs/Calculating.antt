-- Steps that only calculate: the frame and the machine after them.
use Rattle.hh_model.proofs.Common.{◌≡◌, ℕ, ℤ, zero, suc, ◌+◌, ◌<◌, ◌&&◌, Bool, true, false, Option, Some, None, IsSomeAnd, is_some, List, slice_get, slice_set, refl, ap, ap₂, sym, ◌∙◌, ◌==◌, eqb-true, arith, set-set, eqb-false, false≢true, set-get_or, get_or_from_slice_get, got_same, Instr, Set, Mov, Movr, Nil, Calc, Same, Jmp, Jz, Newm, Pack, Getr, Geti, Putr, Puti, Cntr, Cnti, Freeze, Cas, Call, Par, Ret, Out, Line, Frame, Object, Task, Div as DivTrap, MachineState, Goes, calculated, int_in, onward, or_trap, with_int, Leads, Calculates, advanced_by, calculates, calculates_by, calculates_line, calculates_next, is_calculation, IsOfRun, MachineValue, advanced, can_step, fetched, follow, goes_on, is_running, setting, step}
use Rattle.hh_model.proofs.Counts.{step_reached}
use Rattle.hh_model.proofs.Taken.{step_taken}

-- an operator that yields a number sets a register
goes_on_with : (f : Frame) (d : ℕ) (o : Option ℤ) → is_some o ≡ true
    → (g : Frame) × ((store : List (List Object)) → or_trap DivTrap o (λ x. Goes (onward (with_int f d x)) store) ≡ Goes g store)
goes_on_with f d None e = absurd (false≢true e)
goes_on_with f d (Some x) e = (_, λ store. refl)

-- a calculation yields a frame, whatever it sees of its task and of the store
pub makes_frame : (f : Frame) (i : Instr) → is_calculation f i ≡ true → (g : Frame) × Calculates i f g
makes_frame f (Set d k) e = (_, λ s store. refl)
makes_frame f (Mov d a) e = (_, λ s store. refl)
makes_frame f (Movr d a) e = (_, λ s store. refl)
makes_frame f (Nil d) e = (_, λ s store. refl)
makes_frame f (Calc op d a b) e = let m = goes_on_with f d (calculated op (int_in f a) (int_in f b)) e in (m.0, λ s. m.1)
makes_frame f (Same d a b) e = (_, λ s store. refl)
makes_frame f (Jmp to) e = (_, λ s store. refl)
makes_frame f (Jz a to) e = (_, λ s store. refl)
makes_frame f (Newm d a b) e = absurd (false≢true e)
makes_frame f (Pack d r i) e = absurd (false≢true e)
makes_frame f (Getr d o k) e = absurd (false≢true e)
makes_frame f (Geti d o k) e = absurd (false≢true e)
makes_frame f (Putr o k v) e = absurd (false≢true e)
makes_frame f (Puti o k v) e = absurd (false≢true e)
makes_frame f (Cntr d o) e = absurd (false≢true e)
makes_frame f (Cnti d o) e = absurd (false≢true e)
makes_frame f (Freeze o) e = absurd (false≢true e)
makes_frame f (Cas d o k x v) e = absurd (false≢true e)
makes_frame f (Call g) e = absurd (false≢true e)
makes_frame f (Par g h) e = absurd (false≢true e)
makes_frame f Ret e = absurd (false≢true e)
makes_frame f (Out a) e = absurd (false≢true e)

-- a task of the machine whose top frame becomes this one
abbrev framed : MachineValue → ℕ → Task → ℕ → Frame → MachineValue
framed g t x k f = record g { state = record g.state { tasks = slice_set g.state.tasks t (record x { top = f }) }; steps = g.steps + k }

module _ (g : MachineValue) (t : ℕ) (x : Task) (can : can_step g.state t ≡ true) (there : slice_get g.state.tasks t ≡ Some x) where
  at_first : g ≡ framed g t x 0 x.top
  at_first =
      let same : slice_set g.state.tasks t x ≡ g.state.tasks = ap (slice_set g.state.tasks t) (sym (get_or_from_slice_get g.state.tasks t x x there)) ∙ set-get_or g.state.tasks t x in
      ap₂ (λ ts n. let z : MachineValue = record g { state = record g.state { tasks = ts }; steps = n } in z) (sym same) (omega arith)

  -- the task is there with its frame, and can take a step
  got : (k : ℕ) (f : Frame) → slice_get (framed g t x k f).state.tasks t ≡ Some (record x { top = f })
  got k f = got_same g.state.tasks t x (record x { top = f }) there

  pub steps_on : (k : ℕ) (f : Frame) → can_step (framed g t x k f).state t ≡ true
  steps_on k f = ap (λ o. goes_on g.state.end (is_running o)) (got k f) ∙ (ap (λ o. goes_on g.state.end (is_running o)) (sym there) ∙ can)

  module _ (k : ℕ) (f h : Frame) (line : Line) (next : fetched g.program f ≡ Some line) (makes : Calculates line.instr f h) where
    pub one_more : advanced (framed g t x k f) t ≡ framed g t x (k + 1) h
    one_more =
        let m : MachineState = (framed g t x k f).state in
        let y : Task = record x { top = f } in
        let taken : step g.program m t ≡ follow m t y line.number (Goes h m.store) =
        step_taken g.program m t y line (steps_on k f) (got k f) next ∙ ap (follow m t y line.number) (makes (setting m t y) m.store) in
        let twice : slice_set m.tasks t (record x { top = h }) ≡ slice_set g.state.tasks t (record x { top = h }) = set-set g.state.tasks t y (record x { top = h }) in
        ap₂ (λ s n. let z : MachineValue = record g { state = s; steps = n } in z) (taken ∙ ap (λ ts. let z : MachineState = record g.state { tasks = ts } in z) twice) (omega arith)

  after_next : (k : ℕ) (f h : Frame) (o : Option Line) → fetched g.program h ≡ o → IsSomeAnd o (λ line. (is_calculation h line.instr ≡ true) × Calculates line.instr h f)
      → advanced_by g t k ≡ framed g t x k h → advanced_by g t (suc k) ≡ framed g t x (suc k) f
  after_next k f h None e T before = absurd T
  after_next k f h (Some line) e T before = ap (λ z. advanced z t) before ∙ (one_more k h f line e T.1 ∙ ap (λ n. framed g t x n f) (omega arith))

  pub after : (k : ℕ) (f : Frame) → Leads g.program x.top k f → advanced_by g t k ≡ framed g t x k f
  after zero f L = at_first ∙ ap (framed g t x 0) L
  after (suc k) f (h, L, T) = after_next k f h (fetched g.program h) refl T (after k h L)

  -- the next step is a calculation if and only if the frame's next instruction is
  pub as_frame : (k : ℕ) (f : Frame) → Leads g.program x.top k f → calculates g.program (advanced_by g t k).state t ≡ calculates_next g.program f
  as_frame k f L =
      ap (λ (z : MachineValue). calculates g.program z.state t) (after k f L)
      ∙ (ap (λ b. b && calculates_by g.program (slice_get (framed g t x k f).state.tasks t)) (steps_on k f) ∙ ap (calculates_by g.program) (got k f))

  calculates_there : (f h : Frame) (o : Option Line) → fetched g.program h ≡ o → IsSomeAnd o (λ line. (is_calculation h line.instr ≡ true) × Calculates line.instr h f) → calculates_next g.program h ≡ true
  calculates_there f h None e T = absurd T
  calculates_there f h (Some line) e T = ap (calculates_line h) e ∙ T.0

  -- so was each step before
  pub each : (n : ℕ) (f : Frame) → Leads g.program x.top n f → (k : ℕ) → k < n → calculates g.program (advanced_by g t k).state t ≡ true
  each zero f L k lt = absurd (omega (arith, lt))
  each (suc n) f (h, L, T) k lt =
      each_by_cases (as_frame n h L ∙ calculates_there f h (fetched g.program h) refl T) (λ other. each n h L k (omega arith)) (k == n) refl
    where
      each_by_cases : calculates g.program (advanced_by g t n).state t ≡ true → ((k ≡ n → ⊥) → calculates g.program (advanced_by g t k).state t ≡ true) → (b : Bool) → (k == n) ≡ b
          → calculates g.program (advanced_by g t k).state t ≡ true
      each_by_cases last before true e = ap (λ j. calculates g.program (advanced_by g t j).state t) (eqb-true k n e) ∙ last
      each_by_cases last before false e = before (eqb-false k n e)

-- the state after steps of a run is that of a run
pub reached_by : (g : MachineValue) (t k : ℕ) → IsOfRun g → IsOfRun (advanced_by g t k)
reached_by g t zero r = r
reached_by g t (suc k) r = step_reached (advanced_by g t k) t (reached_by g t k r)
