-- What the next step of a part does in the machine, if it isn't private.
use Rattle.step_commit.proofs.Common.{◌≡◌, ℕ, ℤ, pos, ◌+◌, ◌==◌, ◌||◌, not, eq-eqb, Bool, true, false, cond, Option, Some, None, List, [], ◌∷◌, ◌++◌, length, replicate, slice_get, slice_set, unwrap_or, is_some, nat_lt, refl, ap, ap₂, sym, subst, ◌∙◌, option_flatten, both_ways, cond-false, cond-true, or-true, Instr, Set, Mov, Movr, Nil as NilOf, Calc, Same, Jmp, Jz, Newm, Pack, Getr, Geti, Putr, Puti, Cntr, Cnti, Freeze, Cas, Call, Par, Ret, Out, Operator, Line, ProgramText, Frame, Name, Object, Trapped, MachineState, Trap, Div as DivTrap, Range, Frozen as FrozenTrap, Size as SizeTrap, Depth as DepthTrap, Effect, Goes, Calls, calculated, counts_in, int_in, made, onward, or_trap, place_in, put_object, read_effect, ref_in, same_name, unless_frozen, with_int, words_for, ended_by, entry_frame, fetched, frame_limit, last_of, owner_of, returned_to, setting, step, with_task, last_there, has_no_caller, is_open, is_private, owns, touched, Addr, Cell, object_of, Private, FitsNow as Fits, NamesAddress, Places, int_of, ref_of, is_alone, step_by, x, other_at, own_object, Own, ints_index, nil_effect, object_effect, owned_here, reads, refs_index, does, int_here, ref_here, Prints, Returns, Traps, Beyond, ending, instr_asks, is_joint, on_own, on_own_cell, unwritten, SaysOf, TellsOf}
use Rattle.core_invariant.specs.below.hh_model.{Nil as NilTrap, Returns as ReturnsBy, Traps as TrapsBy}
use Rattle.core_invariant.specs.below.object_layout.{place_in as chunk_in}
use Rattle.core_invariant.specs.declared.next_step.Ending.{Ending}

module _ (p : ProgramText) (part : Private) (m : MachineState) (above : Places) (F : Fits p part m above) (line : Line) (at : fetched p (x p part m above F).top ≡ Some line) (shared : is_private p m part.task ≡ false) where
  abbrev t : ℕ
  t = part.task

  abbrev top : Frame
  top = F.task.top

  -- WHAT IT MEANS
  abbrev Says : Instr → Ending → Type 0
  Says i (Prints v) = (a : ℕ) × (i ≡ Out a) × (v ≡ int_in F.task.top a)
  Says i Returns = (i ≡ Ret) × (F.task.below ≡ [])
  Says i (Traps kind) = step p m t ≡ ended_by m (Trapped kind t line.number)
  Says i Beyond = (is_joint F.task i || not (owns m.tasks t (touched F.task.top i))) ≡ true

  abbrev seen : (i : Instr) → line.instr ≡ i → Effect
  seen i e = does p part m above F line at i e

  -- a step after which the machine goes on isn't one of these
  alone_not : {A : Type 0} (i : Instr) → line.instr ≡ i → is_open F.task i ≡ false → owns m.tasks t (touched F.task.top i) ≡ true → (step p m t).end ≡ None → A
  alone_not i e o h n = absurd (both_ways (is_private p m t) shared (is_alone p part m above F line at i e o h n))

  never : {A : Type 0} (i : Instr) (e : line.instr ≡ i) (f : Frame) (store : List (List Object)) → seen i e ≡ Goes f store → is_open F.task i ≡ false → owns m.tasks t (touched F.task.top i) ≡ true → A
  never i e f store s o h = alone_not i e o h (ap (λ (z : MachineState). z.end) (step_by p part m above F line at i e (Goes f store) s) ∙ F.going)

  -- the step traps
  trap : (i : Instr) (e : line.instr ≡ i) (kind : Trap) → seen i e ≡ TrapsBy kind → step p m t ≡ ended_by m (Trapped kind t line.number)
  trap i e kind s = step_by p part m above F line at i e (TrapsBy kind) s

  foreign : (i : Instr) → owns m.tasks t (touched F.task.top i) ≡ false → Says i Beyond
  foreign i h = ap (λ b. is_joint F.task i || not b) h ∙ or-true (is_joint F.task i)

  -- ---- ON THE OBJECT OF A REGISTER
  module _ (i : Instr) (e : line.instr ≡ i) (o : ℕ) (go : Cell → Ending) (tie : touched F.task.top i ≡ ref_in F.task.top o)
      (nil : ref_in F.task.top o ≡ None → seen i e ≡ TrapsBy NilTrap)
      (own : (n : Name) (a : Addr) → ref_in F.task.top o ≡ Some n → Own p part m above F line at n a → Says i (go (object_of part.heap.chunks a))) where
    object_in : (n : Name) (a : Addr) → ref_in F.task.top o ≡ Some n → F.place n ≡ Some a → (b : Bool) → is_some (chunk_in part.heap.chunks a.chunk) ≡ b → Says i (cond b (go (object_of part.heap.chunks a)) Beyond)
    object_in n a en is true here = own n a en (own_object F.place (owner_of m.tasks) part.task m.store part.heap.chunks above F.heap n a is here)
    object_in n a en is false out =
        foreign i (ap (owns m.tasks t) (tie ∙ en) ∙ other_at F.place (owner_of m.tasks) part.task m.store part.heap.chunks above F.heap n a is out)

    object_by : (n : Option Name) (a : Option Addr) → ref_in F.task.top o ≡ n → NamesAddress F.place n a → Says i (on_own_cell part.heap.chunks a go)
    object_by None None en h = trap i e NilTrap (nil en)
    object_by None (Some a) en h = absurd h
    object_by (Some n) None en h = absurd h
    object_by (Some n) (Some a) en h = object_in n a en h (is_some (chunk_in part.heap.chunks a.chunk)) refl

    object_says : Says i (on_own part o go)
    object_says = object_by (ref_in F.task.top o) (ref_of part.frames.top o) refl (ref_here p part m above F line at o)

  -- the field doesn't exist
  range : (i : Instr) (e : line.instr ≡ i) (go : ℕ → Effect) (r : Option ℕ) → seen i e ≡ or_trap Range r go → ((k : ℕ) → seen i e ≡ go k → Says i (Traps Range)) → Says i (Traps Range)
  range i e go None is rest = trap i e Range is
  range i e go (Some k) is rest = rest k is

  -- or the object is immutable
  write_by : (i : Instr) (e : line.instr ≡ i) (k : ℕ) (go : Effect) (b : Bool) → seen i e ≡ cond b go (TrapsBy FrozenTrap) → (seen i e ≡ go → Says i (Traps FrozenTrap)) → Says i (Traps FrozenTrap)
  write_by i e k go true is rest = rest is
  write_by i e k go false is rest = trap i e FrozenTrap is

  write : (i : Instr) (e : line.instr ≡ i) (go : ℕ → Effect) (r r' : Option ℕ) (q : Object) → seen i e ≡ or_trap Range r' (λ k. unless_frozen q (go k)) → r ≡ r' → ((k : ℕ) → seen i e ≡ go k → Says i (Traps FrozenTrap)) → Says i (unwritten r)
  write i e go r None q is same rest = subst (λ z. Says i (unwritten z)) (sym same) (trap i e Range is)
  write i e go r (Some k) q is same rest = subst (λ z. Says i (unwritten z)) (sym same) (write_by i e k (go k) q.mutable is (rest k))

  -- ---- BY THE INSTRUCTION
  calc : (op : Operator) (d a b : ℕ) (e : line.instr ≡ Calc op d a b) (o : Option ℤ) → calculated op (int_in top a) (int_in top b) ≡ o → Says (Calc op d a b) (Traps DivTrap)
  calc op d a b e None is = trap (Calc op d a b) e DivTrap (ap (λ o. or_trap DivTrap o (λ v. Goes (onward (with_int top d v)) m.store)) is)
  calc op d a b e (Some v) is = never (Calc op d a b) e (onward (with_int top d v)) m.store (ap (λ o. or_trap DivTrap o (λ v. Goes (onward (with_int top d v)) m.store)) is) refl refl

  abbrev new_by : ℕ → Option (ℕ × ℕ) → Effect
  new_by d o = or_trap SizeTrap o (λ n. made (setting m t F.task) top m.store d (record { strand = (setting m t F.task).strand; mutable = true; refs = replicate n.0 None; ints = replicate n.1 (pos 0) }))

  newm : (d a b : ℕ) (e : line.instr ≡ Newm d a b) (o : Option (ℕ × ℕ)) → counts_in m.field_limit (int_in top a) (int_in top b) ≡ o → Says (Newm d a b) (Traps SizeTrap)
  newm d a b e None is = trap (Newm d a b) e SizeTrap (ap (new_by d) is)
  newm d a b e (Some n) is = never (Newm d a b) e _ _ (ap (new_by d) is) refl refl

  calls : (g : ℕ) (e : line.instr ≡ Call g) (b : Bool) → nat_lt (length F.task.below + 1) frame_limit ≡ b → Says (Call g) (Traps DepthTrap)
  calls g e b is = calls_by_cases b is
    where
      goes_by : step p m t ≡ cond (nat_lt (length F.task.below + 1) frame_limit) (with_task m t (record F.task { top = entry_frame g top; below = F.task.below ++ onward top ∷ [] })) (ended_by m (Trapped DepthTrap t line.number))
      goes_by = step_by p part m above F line at (Call g) e (Calls g) refl

      calls_by_cases : (b : Bool) → nat_lt (length F.task.below + 1) frame_limit ≡ b → Says (Call g) (Traps DepthTrap)
      calls_by_cases true q = alone_not (Call g) e refl refl (ap (λ (z : MachineState). z.end) (goes_by ∙ cond-true (nat_lt (length F.task.below + 1) frame_limit) _ _ q) ∙ F.going)
      calls_by_cases false q = goes_by ∙ cond-false (nat_lt (length F.task.below + 1) frame_limit) _ _ q

  returns : (e : line.instr ≡ Ret) (fs : List Frame) → F.task.below ≡ fs → Says Ret Returns
  returns e [] is = (refl, is)
  returns e (f ∷ fs) is =
      let g = last_there f fs in
      alone_not Ret e (ap has_no_caller is) refl
      (ap (λ (z : MachineState). z.end) (step_by p part m above F line at Ret e ReturnsBy refl ∙ (ap (λ (gs : List Frame). returned_to m t F.task (last_of gs)) is ∙ ap (returned_to m t F.task) g.1)) ∙ F.going)

  says : (i : Instr) → line.instr ≡ i → Says i (ending part i)
  says (Set d k) e = never (Set d k) e _ _ refl refl refl
  says (Mov d a) e = never (Mov d a) e _ _ refl refl refl
  says (Movr d a) e = never (Movr d a) e _ _ refl refl refl
  says (NilOf d) e = never (NilOf d) e _ _ refl refl refl
  says (Calc op d a b) e = calc op d a b e (calculated op (int_in top a) (int_in top b)) refl
  says (Same d a b) e = never (Same d a b) e _ _ refl refl refl
  says (Jmp to) e = never (Jmp to) e _ _ refl refl refl
  says (Jz a to) e = never (Jz a to) e _ _ refl refl refl
  says (Newm d a b) e = newm d a b e (counts_in m.field_limit (int_in top a) (int_in top b)) refl
  says (Pack d r i) e = never (Pack d r i) e _ _ refl refl refl
  says (Getr d o k) e =
      object_says (Getr d o k) e o (λ c. Traps Range) refl (nil_effect p part m above F line at o _) (λ n a en O.
      range (Getr d o k) e (λ j. read_effect (setting m t F.task) top m.store d (option_flatten (slice_get O.object.refs j))) (place_in (length O.object.refs) (int_in top k)) (object_effect p part m above F line at o n O.object _ en O.is)
      (λ j goes. never (Getr d o k) e _ _ (goes ∙ (reads p part m above F line at o n O.object en O.is O.owned).goes j d) refl (owned_here p part m above F line at o n (Getr d o k) refl en O.owned)))
  says (Geti d o k) e =
      object_says (Geti d o k) e o (λ c. Traps Range) refl (nil_effect p part m above F line at o _) (λ n a en O.
      range (Geti d o k) e (λ j. Goes (onward (with_int top d (unwrap_or (slice_get O.object.ints j) (pos 0)))) m.store) (place_in (length O.object.ints) (int_in top k)) (object_effect p part m above F line at o n O.object _ en O.is)
      (λ j goes. never (Geti d o k) e _ _ goes refl (owned_here p part m above F line at o n (Geti d o k) refl en O.owned)))
  says (Putr o k v) e =
      object_says (Putr o k v) e o (λ c. unwritten (place_in (length c.refs) (int_of part.frames.top k))) refl (nil_effect p part m above F line at o _) (λ n a en O.
      write (Putr o k v) e (λ j. Goes (onward top) (put_object m.store n (record O.object { refs = slice_set O.object.refs j (ref_in top v) }))) _ (place_in (length O.object.refs) (int_in top k)) O.object (object_effect p part m above F line at o n O.object _ en O.is)
      (refs_index p part m above F line at _ O.object k O.stands) (λ j goes. never (Putr o k v) e _ _ goes refl (owned_here p part m above F line at o n (Putr o k v) refl en O.owned)))
  says (Puti o k v) e =
      object_says (Puti o k v) e o (λ c. unwritten (place_in (length c.ints) (int_of part.frames.top k))) refl (nil_effect p part m above F line at o _) (λ n a en O.
      write (Puti o k v) e (λ j. Goes (onward top) (put_object m.store n (record O.object { ints = slice_set O.object.ints j (int_in top v) }))) _ (place_in (length O.object.ints) (int_in top k)) O.object (object_effect p part m above F line at o n O.object _ en O.is)
      (ints_index p part m above F line at _ O.object k O.stands) (λ j goes. never (Puti o k v) e _ _ goes refl (owned_here p part m above F line at o n (Puti o k v) refl en O.owned)))
  says (Cntr d o) e =
      object_says (Cntr d o) e o (λ c. Beyond) refl (nil_effect p part m above F line at o _) (λ n a en O.
      never (Cntr d o) e (onward (with_int top d (pos (length O.object.refs)))) m.store (object_effect p part m above F line at o n O.object _ en O.is) refl (owned_here p part m above F line at o n (Cntr d o) refl en O.owned))
  says (Cnti d o) e =
      object_says (Cnti d o) e o (λ c. Beyond) refl (nil_effect p part m above F line at o _) (λ n a en O.
      never (Cnti d o) e (onward (with_int top d (pos (length O.object.ints)))) m.store (object_effect p part m above F line at o n O.object _ en O.is) refl (owned_here p part m above F line at o n (Cnti d o) refl en O.owned))
  says (Freeze o) e =
      object_says (Freeze o) e o (λ c. Beyond) refl (nil_effect p part m above F line at o _) (λ n a en O.
      never (Freeze o) e (onward top) (put_object m.store n (record O.object { mutable = false }))
      (object_effect p part m above F line at o n O.object _ en O.is ∙ cond-true (owner_of m.tasks n.task == t) (Goes (onward top) (put_object m.store n (record O.object { mutable = false }))) (TrapsBy FrozenTrap) (eq-eqb (owner_of m.tasks n.task) t O.owned))
      refl (owned_here p part m above F line at o n (Freeze o) refl en O.owned))
  says (Cas d o k w v) e =
      object_says (Cas d o k w v) e o (λ c. unwritten (place_in (length c.refs) (int_of part.frames.top k))) refl (nil_effect p part m above F line at o _) (λ n a en O.
      write (Cas d o k w v) e (λ j. cond (same_name (option_flatten (slice_get O.object.refs j)) (ref_in top w)) (Goes (onward (with_int top d (pos 1))) (put_object m.store n (record O.object { refs = slice_set O.object.refs j (ref_in top v) }))) (Goes (onward (with_int top d (pos 0))) m.store))
      _ (place_in (length O.object.refs) (int_in top k)) O.object (object_effect p part m above F line at o n O.object _ en O.is)
      (refs_index p part m above F line at _ O.object k O.stands)
      (λ j goes. either (Cas d o k w v) e (same_name (option_flatten (slice_get O.object.refs j)) (ref_in top w)) _ _ _ _ goes refl (owned_here p part m above F line at o n (Cas d o k w v) refl en O.owned)))
    where
      either : {A : Type 0} (i : Instr) (e : line.instr ≡ i) (b : Bool) (f g : Frame) (st st' : List (List Object)) → seen i e ≡ cond b (Goes f st) (Goes g st') → is_open F.task i ≡ false → owns m.tasks t (touched F.task.top i) ≡ true → A
      either i e true f g st st' goes o' h = never i e f st goes o' h
      either i e false f g st st' goes o' h = never i e g st' goes o' h
  says (Call g) e = calls g e (nat_lt (length F.task.below + 1) frame_limit) refl
  says (Par g h) e = refl
  says Ret e = returns e F.task.below refl
  says (Out a) e = (a, refl, int_here p part m above F line at a)

  -- in the terms of the contracts
  told : (i : Ending) → Says line.instr i → SaysOf p m t F.task line i
  told (Prints v) h = h
  told Returns h = h
  told (Traps kind) h = h
  told Beyond h = h

  pub ending_tells : TellsOf p m t (ending part line.instr) line.number
  ending_tells = record { task = F.task; line = line; is = F.is; next = at; number_is = refl; says = told (ending part line.instr) (says line.instr refl) }

  -- ---- AND IT ALLOCATES NOTHING
  counts_same : (a b : ℕ) → counts_in part.field_limit (int_of part.frames.top a) (int_of part.frames.top b) ≡ counts_in m.field_limit (int_in top a) (int_in top b)
  counts_same a b = ap₂ (counts_in part.field_limit) (int_here p part m above F line at a) (int_here p part m above F line at b) ∙ ap (λ n. counts_in n (int_in top a) (int_in top b)) F.limit

  none_new : (d a b : ℕ) (e : line.instr ≡ Newm d a b) (o : Option (ℕ × ℕ)) → counts_in m.field_limit (int_in top a) (int_in top b) ≡ o → o ≡ None
  none_new d a b e None is = refl
  none_new d a b e (Some n) is = never (Newm d a b) e _ _ (ap (new_by d) is) refl refl

  nothing_by : (i : Instr) → line.instr ≡ i → instr_asks part.field_limit part.frames.top i ≡ None
  nothing_by (Newm d a b) e = ap words_for (counts_same a b ∙ none_new d a b e (counts_in m.field_limit (int_in top a) (int_in top b)) refl)
  nothing_by (Pack d r i) e = never (Pack d r i) e _ _ refl refl refl
  nothing_by _ e = refl

  pub asks_none : instr_asks part.field_limit part.frames.top line.instr ≡ None
  asks_none = nothing_by line.instr refl
