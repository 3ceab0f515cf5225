-- Each frame of each task has a next instruction.
use Rattle.hh_model.proofs.Common.{◌≡◌, ℕ, ℤ, zero, suc, pos, ◌+◌, ◌-◌, ◌<◌, ◌==◌, Bool, true, false, cond, Option, Some, None, List, [], ◌∷◌, ◌++◌, length, slice_get, slice_set, nat_lt, IsSomeAnd, inl, inr, refl, ap, sym, subst, ◌∙◌, arith, option_flatten, slice_get_within, In, in_append_cases, in_from_contains, got_cases, all_at, got_some, Instr, Set, Mov, Movr, Nil as NilOf, Calc, Same, Jmp, Jz, Newm, Pack, Getr, Geti, Putr, Puti, Cntr, Cnti, Freeze, Cas, Call, Par, Ret, Out, Line, Fun, ProgramText, IsProgram, IsFunction, IsReturn, EndsWithReturn, NamesExist, code_of, Name, Object, Frame, Task, Waiting, Trap, Range, Frozen, Div as DivTrap, Size, MachineState, Effect, Goes, Prints, Calls, Forks, Returns, Traps, Stops, StepContext, effect, object_at, put_object, or_trap, with_object, read_effect, int_in, ref_in, int_eq, onward, same_name, calculated, counts_in, place_in, precedes, fetched, step, start, run_from, root, stepped, follow, setting, can_step, forked, child, entry_frame, frame_limit, depth_limit, returned_to, last_return, child_ended_by, ended_task, joined_task, resumed, join_of, result_of, back_in, last_of, front_of, is_left, sibling, result_at, or_same, HasNext, AlwaysNext, PacksAreFew}
use Rattle.hh_model.specs.declared.data.Trap.TheVariants.{Nil}
use Rattle.hh_model.proofs.Closed.{grown_cases, three_cases}
use Rattle.hh_model.proofs.Steps.{last_in}
use Rattle.hh_model.proofs.Sizes.{front_in}

-- PROGRAMS

-- an instruction that isn't a return is followed by another one
behind : (code : List Line) (k : ℕ) (l : Line) → EndsWithReturn code → slice_get code k ≡ Some l → (IsReturn l.instr → ⊥) → (m : Line) × (slice_get code (k + 1) ≡ Some m)
behind [] k l ends e other = absurd ends
behind (x ∷ []) zero l ends e other = let same : x ≡ l = cc in absurd (other (subst (λ (y : Line). IsReturn y.instr) same ends))
behind (x ∷ []) (suc k) l ends e other = absurd cc
behind (x ∷ y ∷ code) zero l ends e other = (y, refl)
behind (x ∷ y ∷ code) (suc k) l ends e other =
    let rest = behind (y ∷ code) k l ends e other in
    (rest.0, ap (slice_get (x ∷ y ∷ code)) (let n : suc k + 1 ≡ suc (k + 1) = omega arith in n) ∙ rest.1)

first : (code : List Line) → EndsWithReturn code → (l : Line) × (slice_get code 0 ≡ Some l)
first [] ends = absurd ends
first (x ∷ code) ends = (x, refl)

-- the function of a frame that has a next instruction
in_function : (o : Option Fun) (k : ℕ) (l : Line) → slice_get (code_of o) k ≡ Some l → (fun : Fun) × (o ≡ Some fun)
in_function None k l e = absurd cc
in_function (Some fun) k l e = (fun, refl)

module _ (p : ProgramText) (I : IsProgram p) where
  entry_next : (g : ℕ) (f : Frame) → g < length p.functions → HasNext p (entry_frame g f)
  entry_next g f lt =
      let fun = got_some p.functions g lt in
      let is : IsFunction (length p.functions) fun.0 = all_at (IsFunction (length p.functions)) p.functions g fun.0 I.each fun.1 in
      let line = first fun.0.code is.ends in
      (line.0, ap (λ o. slice_get (code_of o) 0) fun.1 ∙ line.1)

  module _ (f : Frame) (line : Line) (at : fetched p f ≡ Some line) where
    fun : (fun : Fun) × (slice_get p.functions f.function ≡ Some fun)
    fun = in_function (slice_get p.functions f.function) f.next line at

    function_is_sound : IsFunction (length p.functions) fun.0
    function_is_sound = all_at (IsFunction (length p.functions)) p.functions f.function fun.0 I.each fun.1

    in_code : slice_get fun.0.code f.next ≡ Some line
    in_code = ap (λ o. slice_get (code_of o) f.next) (sym fun.1) ∙ at

    onward_next : (IsReturn line.instr → ⊥) → HasNext p (onward f)
    onward_next other =
        let next = behind fun.0.code f.next line function_is_sound.ends in_code other in
        (next.0, ap (λ o. slice_get (code_of o) (f.next + 1)) fun.1 ∙ next.1)

    names : NamesExist (length p.functions) (length fun.0.code) line.instr
    names = all_at (λ (l : Line). NamesExist (length p.functions) (length fun.0.code) l.instr) fun.0.code f.next line function_is_sound.names in_code

    jump_next : (to : ℕ) → to < length fun.0.code → HasNext p (record f { next = to })
    jump_next to lt =
        let next = got_some fun.0.code to lt in
        (next.0, ap (λ o. slice_get (code_of o) to) fun.1 ∙ next.1)

-- INSTRUCTIONS

abbrev pub Leads : ProgramText → Frame → Effect → Type 0
Leads p f (Goes f' store) = HasNext p f'
Leads p f (Prints k) = HasNext p (onward f)
Leads p f (Calls g) = (g < length p.functions) × HasNext p (onward f)
Leads p f (Forks g h) = (g < length p.functions) × (h < length p.functions) × HasNext p (onward f)
Leads p f Returns = Unit {0}
Leads p f (Traps t) = Unit {0}
Leads p f (Stops n) = Unit {0}

module _ (p : ProgramText) (s : StepContext) (f : Frame) (store : List (List Object)) where
  trap_leads : {A : Type 0} (t : Trap) (o : Option A) (go : A → Effect) → ((x : A) → Leads p f (go x)) → Leads p f (or_trap t o go)
  trap_leads t None go each = tt
  trap_leads t (Some x) go each = each x

  object_leads : (r : Option Name) (go : Name → Object → Effect) → ((n : Name) (x : Object) → Leads p f (go n x)) → Leads p f (with_object store r go)
  object_leads None go each = tt
  object_leads (Some n) go each = trap_leads Nil (object_at store n) (go n) (each n)

  either_leads : (b : Bool) (x y : Effect) → Leads p f x → Leads p f y → Leads p f (cond b x y)
  either_leads true x y k l = k
  either_leads false x y k l = l

  read_leads : (d : ℕ) (r : Option Name) → HasNext p (onward f) → Leads p f (read_effect s f store d r)
  read_leads d None next = next
  read_leads d (Some n) next = trap_leads Nil (object_at store n) _ (λ x. either_leads (precedes s.edges x.strand s.strand) _ (Stops n) next tt)

  jz_leads : (b : Bool) (to : ℕ) → HasNext p (record f { next = to }) → HasNext p (onward f) → HasNext p (cond b (record f { next = to }) (onward f))
  jz_leads true to k l = k
  jz_leads false to k l = l

  module _ (I : IsProgram p) (line : Line) (at : fetched p f ≡ Some line) where
    effect_leads : (instr : Instr) → line.instr ≡ instr → Leads p f (effect s f store instr)
    effect_leads (Set d k) e = onward_next p I f line at (λ h. subst IsReturn e h)
    effect_leads (Mov d a) e = onward_next p I f line at (λ h. subst IsReturn e h)
    effect_leads (Movr d a) e = onward_next p I f line at (λ h. subst IsReturn e h)
    effect_leads (NilOf d) e = onward_next p I f line at (λ h. subst IsReturn e h)
    effect_leads (Calc op d a b) e = trap_leads DivTrap (calculated op (int_in f a) (int_in f b)) _ (λ x. onward_next p I f line at (λ h. subst IsReturn e h))
    effect_leads (Same d a b) e = onward_next p I f line at (λ h. subst IsReturn e h)
    effect_leads (Jmp to) e = jump_next p I f line at to (subst (NamesExist (length p.functions) (length (fun p I f line at).0.code)) e (names p I f line at))
    effect_leads (Jz a to) e =
        jz_leads (int_eq (int_in f a) (pos 0)) to
        (jump_next p I f line at to (subst (NamesExist (length p.functions) (length (fun p I f line at).0.code)) e (names p I f line at)))
        (onward_next p I f line at (λ h. subst IsReturn e h))
    effect_leads (Newm d a b) e = trap_leads Size (counts_in s.field_limit (int_in f a) (int_in f b)) _ (λ n. onward_next p I f line at (λ h. subst IsReturn e h))
    effect_leads (Pack d r i) e = onward_next p I f line at (λ h. subst IsReturn e h)
    effect_leads (Getr d o k) e =
        object_leads (ref_in f o) _ (λ n x. trap_leads Range (place_in (length x.refs) (int_in f k)) _ (λ i.
        read_leads d (option_flatten (slice_get x.refs i)) (onward_next p I f line at (λ h. subst IsReturn e h))))
    effect_leads (Geti d o k) e =
        object_leads (ref_in f o) _ (λ n x. trap_leads Range (place_in (length x.ints) (int_in f k)) _ (λ i. onward_next p I f line at (λ h. subst IsReturn e h)))
    effect_leads (Putr o k v) e =
        object_leads (ref_in f o) _ (λ n x. trap_leads Range (place_in (length x.refs) (int_in f k)) _ (λ i.
        either_leads x.mutable _ (Traps Frozen) (onward_next p I f line at (λ h. subst IsReturn e h)) tt))
    effect_leads (Puti o k v) e =
        object_leads (ref_in f o) _ (λ n x. trap_leads Range (place_in (length x.ints) (int_in f k)) _ (λ i.
        either_leads x.mutable _ (Traps Frozen) (onward_next p I f line at (λ h. subst IsReturn e h)) tt))
    effect_leads (Cntr d o) e = object_leads (ref_in f o) _ (λ n x. onward_next p I f line at (λ h. subst IsReturn e h))
    effect_leads (Cnti d o) e = object_leads (ref_in f o) _ (λ n x. onward_next p I f line at (λ h. subst IsReturn e h))
    effect_leads (Freeze o) e =
        object_leads (ref_in f o) _ (λ n x. either_leads (s.owner n.task == s.task) (Goes (onward f) (put_object store n (record x { mutable = false }))) (Traps Frozen)
        (onward_next p I f line at (λ h. subst IsReturn e h)) tt)
    effect_leads (Cas d o k c v) e =
        object_leads (ref_in f o) _ (λ n x. trap_leads Range (place_in (length x.refs) (int_in f k)) _ (λ i.
        either_leads x.mutable _ (Traps Frozen)
        (either_leads (same_name (option_flatten (slice_get x.refs i)) (ref_in f c)) _ _ (onward_next p I f line at (λ h. subst IsReturn e h)) (onward_next p I f line at (λ h. subst IsReturn e h))) tt))
    effect_leads (Call g) e = (subst (NamesExist (length p.functions) (length (fun p I f line at).0.code)) e (names p I f line at), onward_next p I f line at (λ h. subst IsReturn e h))
    effect_leads (Par g h) e =
        let two = subst (NamesExist (length p.functions) (length (fun p I f line at).0.code)) e (names p I f line at) in
        (two.0, two.1, onward_next p I f line at (λ q. subst IsReturn e q))
    effect_leads Ret e = tt
    effect_leads (Out a) e = onward_next p I f line at (λ h. subst IsReturn e h)

-- STEPS

-- each frame of a task has a next instruction
abbrev pub Placed : ProgramText → Task → Type 0
Placed p x = (f : Frame) → In (x.top ∷ x.below) f → HasNext p f

abbrev pub AllPlaced : ProgramText → List Task → Type 0
AllPlaced p tasks = (t : ℕ) (x : Task) → slice_get tasks t ≡ Some x → Placed p x

module _ (p : ProgramText) (I : IsProgram p) (m : MachineState) (t : ℕ) (A : AllPlaced p m.tasks) where
  set_placed : (y : Task) → Placed p y → AllPlaced p (slice_set m.tasks t y)
  set_placed y placed u z e = elim (got_cases m.tasks t u y z e) [
    | inl here ↦ subst (Placed p) (sym here.1) placed
    | inr old ↦ A u z old
  ]

  topped : (f : Frame) (fs : List Frame) → HasNext p f → ((g : Frame) → In fs g → HasNext p g) → (g : Frame) → In (f ∷ fs) g → HasNext p g
  topped f fs top rest g (inl e) = subst (HasNext p) e top
  topped f fs top rest g (inr h) = rest g h

  module _ (x : Task) (ix : slice_get m.tasks t ≡ Some x) where
    mine : Placed p x
    mine = A t x ix

    below : (g : Frame) → In x.below g → HasNext p g
    below g h = mine g (inr h)

    either_placed : (b : Bool) (m1 m2 : MachineState) → AllPlaced p m1.tasks → AllPlaced p m2.tasks → AllPlaced p (cond b m1 m2).tasks
    either_placed true m1 m2 k l = k
    either_placed false m1 m2 k l = l

    or_placed : {X : Type 0} (o : Option X) (go : X → MachineState) → ((y : X) → o ≡ Some y → AllPlaced p (go y).tasks) → AllPlaced p (or_same m o go).tasks
    or_placed None go each = A
    or_placed (Some y) go each = each y refl

    join_placed : (parent l : ℕ) (xp xl xr : Task) (rl rr : ℤ × Option Name) → Placed p xp → Placed p xl → Placed p xr → AllPlaced p (join_of m parent xp l xl xr rl rr).tasks
    join_placed parent l xp xl xr rl rr pp pl pr u z e =
        elim (three_cases m.tasks l parent (joined_task xl) (joined_task xr) (resumed xp rl rr) u z e) [
          | inl top ↦ subst (Placed p) (sym top.1) (topped (resumed xp rl rr).top xp.below (pp xp.top (inl refl)) (λ g h. pp g (inr h)))
          | inr more ↦ elim more [
            | inl a ↦ subst (Placed p) (sym a) pr
            | inr rest ↦ elim rest [ inl a ↦ subst (Placed p) (sym a) pl | inr old ↦ A u z old ]
          ]
        ]

    child_placed : (parent : ℕ) (o : Option (ℤ × Option Name)) → AllPlaced p (child_ended_by m t x parent (result_of x.top) o).tasks
    child_placed parent None = set_placed (ended_task x (result_of x.top)) mine
    child_placed parent (Some other) =
        or_placed (slice_get m.tasks parent) _ (λ xp ip. or_placed (slice_get m.tasks (sibling t)) _ (λ y iy.
        either_placed (is_left t) _ _
        (join_placed parent t xp x y (result_of x.top) other (A parent xp ip) mine (A (sibling t) y iy))
        (join_placed parent (t - 1) xp y x other (result_of x.top) (A parent xp ip) (A (sibling t) y iy) mine)))

    last_placed : (o : Option ℕ) → AllPlaced p (last_return m t x o).tasks
    last_placed None = set_placed (ended_task x (result_of x.top)) mine
    last_placed (Some parent) = child_placed parent (result_at (slice_get m.tasks (sibling t)))

    returned_placed : (o : Option Frame) → last_of x.below ≡ o → AllPlaced p (returned_to m t x o).tasks
    returned_placed None e = last_placed x.parent
    returned_placed (Some f) e =
        set_placed (record x { top = back_in f x.top; below = front_of x.below })
        (topped (back_in f x.top) (front_of x.below) (below f (last_in x.below f e)) (λ g h. below g (front_in x.below g h)))

    forked_placed : (g h line : ℕ) → g < length p.functions → h < length p.functions → HasNext p (onward x.top) → AllPlaced p (forked m t x g h line).tasks
    forked_placed g h line lg lh next =
        either_placed (nat_lt x.depth depth_limit) _ _ (λ u z e.
        elim (grown_cases (slice_set m.tasks t (record x { status = Waiting; top = onward x.top })) (child t (x.depth + 1) g x.top) (child t (x.depth + 1) h x.top) u z e) [
          | inl old ↦ set_placed (record x { status = Waiting; top = onward x.top }) (topped (onward x.top) x.below next below) u z old
          | inr new ↦ elim new [ inl a ↦ subst (Placed p) (sym a.1) (kid g lg) | inr a ↦ subst (Placed p) (sym a.1) (kid h lh) ]
        ]) A
      where
        kid : (g : ℕ) → g < length p.functions → Placed p (child t (x.depth + 1) g x.top)
        kid g lt = topped (entry_frame g x.top) [] (entry_next p I g x.top lt) (λ k i. absurd i)

    follow_placed : (line : ℕ) (e : Effect) → Leads p x.top e → AllPlaced p (follow m t x line e).tasks
    follow_placed line (Goes f store) leads = set_placed (record x { top = f }) (topped f x.below leads below)
    follow_placed line (Prints k) leads = set_placed (record x { top = onward x.top }) (topped (onward x.top) x.below leads below)
    follow_placed line (Calls g) leads =
        either_placed (nat_lt (length x.below + 1) frame_limit) _ _
        (set_placed (record x { top = entry_frame g x.top; below = x.below ++ onward x.top ∷ [] })
        (topped (entry_frame g x.top) (x.below ++ onward x.top ∷ []) (entry_next p I g x.top leads.0) (λ k h.
        elim (in_append_cases x.below (onward x.top ∷ []) k h) [ inl old ↦ below k old | inr new ↦ topped (onward x.top) [] leads.1 (λ q i. absurd i) k new ]))) A
    follow_placed line (Forks g h) leads = forked_placed g h line leads.0 leads.1 leads.2
    follow_placed line Returns leads = returned_placed (last_of x.below) refl
    follow_placed line (Traps kind) leads = A
    follow_placed line (Stops n) leads = A

    stepped_placed : (o : Option Line) → fetched p x.top ≡ o → AllPlaced p (stepped p m t x o).tasks
    stepped_placed None e = A
    stepped_placed (Some line) e =
        follow_placed line.number (effect (setting m t x) x.top m.store line.instr) (effect_leads p (setting m t x) x.top m.store I line e line.instr refl)

  same_or_placed : (o : Option Task) (go : Task → MachineState) → ((y : Task) → o ≡ Some y → AllPlaced p (go y).tasks) → AllPlaced p (or_same m o go).tasks
  same_or_placed None go each = A
  same_or_placed (Some y) go each = each y refl

  step_by : (b : Bool) → AllPlaced p (cond b (or_same m (slice_get m.tasks t) (λ x. stepped p m t x (fetched p x.top))) m).tasks
  step_by true = same_or_placed (slice_get m.tasks t) _ (λ x ix. stepped_placed x ix (fetched p x.top) refl)
  step_by false = A

  step_placed : AllPlaced p (step p m t).tasks
  step_placed = step_by (can_step m t)

run_placed : (p : ProgramText) (I : IsProgram p) (m : MachineState) (ts : List ℕ) → AllPlaced p m.tasks → AllPlaced p (run_from p m ts).tasks
run_placed p I m [] A = A
run_placed p I m (t ∷ ts) A = run_placed p I (step p m t) ts (step_placed p I m t A)

-- main exists
main_within : (fs : List Fun) (k : ℕ) (P : Fun → Type 0) (o : Option Fun) → slice_get fs k ≡ o → IsSomeAnd o P → k < length fs
main_within fs k P None e h = absurd h
main_within fs k P (Some f) e h = slice_get_within fs k f e

start_placed : (p : ProgramText) (limit : ℕ) → IsProgram p → AllPlaced p (start p limit).tasks
start_placed p limit I zero x e = let same : root p ≡ x = cc in subst (Placed p) same (λ f h. only f h)
  where
    only : (f : Frame) → In ((root p).top ∷ []) f → HasNext p f
    only f (inl e) = subst (HasNext p) e (entry_next p I p.main (root p).top (main_within p.functions p.main _ (slice_get p.functions p.main) refl I.main))
    only f (inr none) = absurd none
start_placed p limit I (suc t) x e = absurd cc

pub always_next : AlwaysNext
always_next p limit ts t x f I is c = run_placed p I (start p limit) ts (start_placed p limit I) t x is f (in_from_contains (x.top ∷ x.below) f c)

-- a frame at a place of a function
abbrev frame_at : ℕ → ℕ → Frame
frame_at g n = record { function = g; next = n; ints = []; refs = [] }

pub packs_are_few : PacksAreFew
packs_are_few p I g n line d r i at e = subst (NamesExist (length p.functions) (length (fun p I (frame_at g n) line at).0.code)) e (names p I (frame_at g n) line at)
