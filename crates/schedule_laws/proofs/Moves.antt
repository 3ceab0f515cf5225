-- What a step does to the tasks, the store and the edges, in a form that can be applied to another state.
use Rattle.schedule_laws.proofs.Common.{◌≡◌, ℕ, ℤ, ◌+◌, ◌-◌, Bool, true, false, cond, Option, Some, None, List, [], ◌∷◌, ◌++◌, length, slice_get, slice_set, nat_lt, ◌⊎◌, inl, inr, refl, ap, sym, subst, ◌∙◌, append-nil, Instr, Name, Edge, Object, Frame, Running, Waiting, Task, Depth, End, Trapped, MachineState, Effect, Goes, Prints, Calls, Forks, Returns, Traps, Stops, onward, back_in, child, child_ended_by, depth_limit, edge, ended_by, ended_task, entry_frame, follow, frame_limit, front_of, is_left, join_of, joined_task, result_at, last_of, last_return, or_same, owner_of, result_in, result_of, resumed, returned_to, setting, sibling, strand, set_got, Change, Same, ChangesBy, changed, EffectAs}
use Rattle.schedule_laws.proofs.Swapping.{sets}

pub data Move : Type 0 where
  -- the task's record becomes this one, and the store changes
  Acts : Task → Change → Move
  -- the task's record becomes this one, and these two are added
  Splits : Task → Task → Task → Move
  -- the task q and its children l and l + 1 become these, the children first
  Joins : ℕ → ℕ → Task → Task → Task → Move

abbrev pub puts : ℕ → Move → List (ℕ × Task)
puts t (Acts y op) = (t, y) ∷ []
puts t (Splits y c d) = (t, y) ∷ []
puts t (Joins q l yl yr yq) = (l, yl) ∷ (l + 1, yr) ∷ (q, yq) ∷ []

abbrev pub news : Move → List Task
news (Acts y op) = []
news (Splits y c d) = c ∷ d ∷ []
news (Joins q l yl yr yq) = []

abbrev pub change_in : Move → Change
change_in (Acts y op) = op
change_in (Splits y c d) = Same
change_in (Joins q l yl yr yq) = Same

abbrev pub rows_in : Move → List (List Object)
rows_in (Acts y op) = []
rows_in (Splits y c d) = [] ∷ [] ∷ []
rows_in (Joins q l yl yr yq) = []

abbrev pub edges_in : ℕ → Move → ℕ → List Edge
edges_in t (Acts y op) n = []
edges_in t (Splits y c d) n = edge (strand t y.joins) (strand n 0) ∷ edge (strand t y.joins) (strand (n + 1) 0) ∷ []
edges_in t (Joins q l yl yr yq) n = edge (strand l yl.joins) (strand q yq.joins) ∷ edge (strand (l + 1) yr.joins) (strand q yq.joins) ∷ []

-- m' is m after the move, except for the outputs
pub record Moves (m m' : MachineState) (t : ℕ) (mv : Move) : Type 0 where
  pub tasks : m'.tasks ≡ sets (puts t mv) m.tasks ++ news mv
  pub store : m'.store ≡ changed (change_in mv) t m.store ++ rows_in mv
  pub edges : m'.edges ≡ m.edges ++ edges_in t mv (length m.tasks)
  pub limit : m'.field_limit ≡ m.field_limit
  pub end : m'.end ≡ m.end

-- a move after which a running task hasn't ended
abbrev pub IsPlain : Move → Type 0
IsPlain (Acts y op) = result_in y.status ≡ None
IsPlain (Splits y c d) = result_in y.status ≡ None
IsPlain (Joins q l yl yr yq) = ⊥

module _ (m : MachineState) (u : ℕ) where
  acts : (y : Task) (op : Change) (st : List (List Object)) (outs : List ℤ) → st ≡ changed op u m.store → Moves m (record m { tasks = slice_set m.tasks u y; store = st; outputs = outs }) u (Acts y op)
  acts y op st outs e = record {
    tasks = sym (append-nil (slice_set m.tasks u y));
    store = e ∙ sym (append-nil (changed op u m.store));
    edges = sym (append-nil m.edges);
    limit = refl;
    end = refl;
  }

  nothing : (y : Task) → slice_get m.tasks u ≡ Some y → Moves m m u (Acts y Same)
  nothing y is = record {
    tasks = sym (set_got m.tasks u y is) ∙ sym (append-nil (slice_set m.tasks u y));
    store = sym (append-nil m.store);
    edges = sym (append-nil m.edges);
    limit = refl;
    end = refl;
  }

  joins : (q l : ℕ) (xq xl xr : Task) (rl rr : ℤ × Option Name) → Moves m (join_of m q xq l xl xr rl rr) u (Joins q l (joined_task xl) (joined_task xr) (resumed xq rl rr))
  joins q l xq xl xr rl rr = record {
    tasks = sym (append-nil (slice_set (slice_set (slice_set m.tasks l (joined_task xl)) (l + 1) (joined_task xr)) q (resumed xq rl rr)));
    store = sym (append-nil m.store);
    edges = refl;
    limit = refl;
    end = refl;
  }

-- a fork's records: the task waits, and two children start with its registers
abbrev pub Shape : ℕ → Task → Move → Type 0
Shape u y (Acts z op) = Unit {0}
Shape u y (Splits z c d) = (g : ℕ) × (h : ℕ) × (z ≡ record y { status = Waiting; top = onward y.top }) × (c ≡ child u (y.depth + 1) g y.top) × (d ≡ child u (y.depth + 1) h y.top)
Shape u y (Joins q l yl yr yq) = Unit {0}

-- THE END OF A CHILD

-- its sibling has ended or hasn't, and these are its parent and its sibling
abbrev pub last_move : ℕ → Task → ℕ → ℤ × Option Name → Option (ℤ × Option Name) → Option Task → Option Task → Move
last_move u y q r None oq ow = Acts (ended_task y r) Same
last_move u y q r (Some other) None ow = Acts y Same
last_move u y q r (Some other) (Some xq) None = Acts y Same
last_move u y q r (Some other) (Some xq) (Some xw) =
    cond (is_left u) (Joins q u (joined_task y) (joined_task xw) (resumed xq r other)) (Joins q (u - 1) (joined_task xw) (joined_task y) (resumed xq other r))

pub last_moves : (m : MachineState) (u : ℕ) (y : Task) (q : ℕ) (r : ℤ × Option Name) → slice_get m.tasks u ≡ Some y → (o : Option (ℤ × Option Name))
    → Moves m (child_ended_by m u y q r o) u (last_move u y q r o (slice_get m.tasks q) (slice_get m.tasks (sibling u)))
last_moves m u y q r is None = acts m u (ended_task y r) Same m.store m.outputs refl
last_moves m u y q r is (Some other) = by_parent (slice_get m.tasks q)
  where
    side : (b : Bool) (xq xw : Task) → Moves m (cond b (join_of m q xq u y xw r other) (join_of m q xq (u - 1) xw y other r)) u
        (cond b (Joins q u (joined_task y) (joined_task xw) (resumed xq r other)) (Joins q (u - 1) (joined_task xw) (joined_task y) (resumed xq other r)))
    side true xq xw = joins m u q u xq y xw r other
    side false xq xw = joins m u q (u - 1) xq xw y other r

    by_sibling : (xq : Task) (ow : Option Task)
        → Moves m (or_same m ow (λ xw. cond (is_left u) (join_of m q xq u y xw r other) (join_of m q xq (u - 1) xw y other r))) u (last_move u y q r (Some other) (Some xq) ow)
    by_sibling xq None = nothing m u y is
    by_sibling xq (Some xw) = side (is_left u) xq xw

    by_parent : (oq : Option Task)
        → Moves m (or_same m oq (λ xq. or_same m (slice_get m.tasks (sibling u)) (λ xw. cond (is_left u) (join_of m q xq u y xw r other) (join_of m q xq (u - 1) xw y other r)))) u
        (last_move u y q r (Some other) oq (slice_get m.tasks (sibling u)))
    by_parent None = nothing m u y is
    by_parent (Some xq) = by_sibling xq (slice_get m.tasks (sibling u))

-- TWO STATES

-- the same task, running in both, takes its next step in both
module _ (m m1 : MachineState) (u : ℕ) (y : Task) (running : y.status ≡ Running) (going : m.end ≡ None) where
  -- the step doesn't end the task: it is the same move in both
  pub record Plain (w w1 : MachineState) (i : Instr) : Type 0 where
    pub move : Move
    pub here : Moves m w u move
    pub there : Moves m1 w1 u move
    pub plain : IsPlain move
    pub shape : Shape u y move
    pub by : ChangesBy (setting m u y) y.top m.store i (change_in move)

  -- or the task ends, and the outcome depends on its sibling
  pub record Last (w w1 : MachineState) : Type 0 where
    pub parent : ℕ
    pub above : y.parent ≡ Some parent
    pub here : w ≡ child_ended_by m u y parent (result_of y.top) (result_at (slice_get m.tasks (sibling u)))
    pub there : w1 ≡ child_ended_by m1 u y parent (result_of y.top) (result_at (slice_get m1.tasks (sibling u)))

  abbrev pub Two : MachineState → MachineState → Instr → Type 0
  Two w w1 i = Plain w w1 i ⊎ Last w w1

  still : (z : Task) → z.status ≡ y.status → result_in z.status ≡ None
  still z e = ap result_in (e ∙ running)

  on : (i : Instr) (z : Task) (outs outs1 : List ℤ) → z.status ≡ y.status → Two (record m { tasks = slice_set m.tasks u z; outputs = outs }) (record m1 { tasks = slice_set m1.tasks u z; outputs = outs1 }) i
  on i z outs outs1 e = inl (record { move = Acts z Same; here = acts m u z Same m.store outs refl; there = acts m1 u z Same m1.store outs1 refl; plain = still z e; shape = tt; by = tt })

  if_going : (i : Instr) (b : Bool) (a a1 : MachineState) (e e1 : End) → (cond b a (ended_by m e)).end ≡ None → Two a a1 i → Two (cond b a (ended_by m e)) (cond b a1 (ended_by m1 e1)) i
  if_going i true a a1 e e1 g h = h
  if_going i false a a1 e e1 g h = absurd cc

  forks : (i : Instr) (g h : ℕ) → Two
      (record m {
        tasks = slice_set m.tasks u (record y { status = Waiting; top = onward y.top }) ++ child u (y.depth + 1) g y.top ∷ child u (y.depth + 1) h y.top ∷ [];
        store = m.store ++ [] ∷ [] ∷ [];
        edges = m.edges ++ edge (strand u y.joins) (strand (length m.tasks) 0) ∷ edge (strand u y.joins) (strand (length m.tasks + 1) 0) ∷ [];
      })
      (record m1 {
        tasks = slice_set m1.tasks u (record y { status = Waiting; top = onward y.top }) ++ child u (y.depth + 1) g y.top ∷ child u (y.depth + 1) h y.top ∷ [];
        store = m1.store ++ [] ∷ [] ∷ [];
        edges = m1.edges ++ edge (strand u y.joins) (strand (length m1.tasks) 0) ∷ edge (strand u y.joins) (strand (length m1.tasks + 1) 0) ∷ [];
      }) i
  forks i g h = inl (record {
    move = Splits (record y { status = Waiting; top = onward y.top }) (child u (y.depth + 1) g y.top) (child u (y.depth + 1) h y.top);
    here = record { tasks = refl; store = refl; edges = refl; limit = refl; end = refl };
    there = record { tasks = refl; store = refl; edges = refl; limit = refl; end = refl };
    plain = refl;
    shape = (g, h, refl, refl, refl);
    by = tt;
  })

  back_to : (i : Instr) (o : Option Frame) → (returned_to m u y o).end ≡ None → Two (returned_to m u y o) (returned_to m1 u y o) i
  back_to i (Some f) g = on i (record y { top = back_in f y.top; below = front_of y.below }) m.outputs m1.outputs refl
  back_to i None g = by_parent y.parent refl g
    where
      by_parent : (o : Option ℕ) → y.parent ≡ o → (last_return m u y o).end ≡ None → Two (last_return m u y o) (last_return m1 u y o) i
      by_parent None e g = absurd cc
      by_parent (Some q) e g = inr (record { parent = q; above = e; here = refl; there = refl })

  pub both_to : (May : Bool → Name → ℕ → Type 0) (line : ℕ) (i : Instr) (e e1 : Effect) → EffectAs (setting m u y) m1.edges (owner_of m1.tasks) y.top m.store m1.store May i e e1
      → (follow m u y line e).end ≡ None → Two (follow m u y line e) (follow m1 u y line e1) i
  both_to May line i (Goes a st) (Goes b st1) h g = inl (record {
    move = Acts (record y { top = a }) h.0;
    here = acts m u (record y { top = a }) h.0 st m.outputs h.2;
    there = subst (λ c. Moves m1 (record m1 { tasks = slice_set m1.tasks u (record y { top = c }); store = st1 }) u (Acts (record y { top = a }) h.0)) (sym h.1) (acts m1 u (record y { top = a }) h.0 st1 m1.outputs h.3);
    plain = ap result_in running;
    shape = tt;
    by = h.4;
  })
  both_to May line i (Prints k) (Prints l) h g = on i (record y { top = onward y.top }) (m.outputs ++ k ∷ []) (m1.outputs ++ l ∷ []) refl
  both_to May line i (Calls a) (Calls b) h g =
      subst (λ c. Two (follow m u y line (Calls a)) (follow m1 u y line (Calls c)) i) (sym h)
      (if_going i (nat_lt (length y.below + 1) frame_limit) _ _ (Trapped Depth u line) (Trapped Depth u line) g (on i (record y { top = entry_frame a y.top; below = y.below ++ onward y.top ∷ [] }) m.outputs m1.outputs refl))
  both_to May line i (Forks a b) (Forks c d) h g =
      subst (λ (w : ℕ × ℕ). Two (follow m u y line (Forks a b)) (follow m1 u y line (Forks w.0 w.1)) i) (λ j. (sym h.0 j, sym h.1 j))
      (if_going i (nat_lt y.depth depth_limit) _ _ (Trapped Depth u line) (Trapped Depth u line) g (forks i a b))
  both_to May line i Returns Returns h g = back_to i (last_of y.below) g
  both_to May line i (Traps a) (Traps b) h g = absurd cc
  both_to May line i (Stops a) (Stops b) h g = absurd cc
  both_to May line i _ _ h g = absurd h
