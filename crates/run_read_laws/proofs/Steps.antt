-- What a step tells of births, reads and uses.
use Rattle.run_read_laws.proofs.Common.{◌≡◌, ℕ, Bool, true, false, cond, Option, Some, None, IfSome, length, pos, replicate, take, ◌⊎◌, inl, inr, refl, ap, sym, subst, ◌∙◌, arith, ne_eqb, same_Some, is_some, ◌==◌, at_in, Goes, Stops, StepContext, effect, made, object_at, int_in, ref_in, place_in, same_name, or_trap, read_effect, onward, with_ref, counts_in, next_name, words_asked, precedes, setting, strand_of, owner_of, NamesAreStoredIn, Frame, MachineState, Name, Object, Task, born, used, yielded, if_some, In, contains_from_in, none_some, Instr, Set, Mov, Movr, Nil as NilOf, Calc, Same, Jmp, Jz, Newm, Pack, Getr, Geti, Putr, Puti, Cntr, Cnti, Freeze, Cas, Call, Par, Ret, Out, act_told, Act, Deed, deed, if_there, number_place, reference_in, block_of}
use Rattle.hh_model.specs.declared.data.Trap.TheVariants as traps
use Rattle.run_turn_laws.specs.below.run_deltas as deeds

-- an act that bears no block and yields none
abbrev pub IsQuiet : Act → Type 0
IsQuiet a = (born a ≡ None) × (yielded a ≡ None)

-- and uses none
abbrev pub IsIdle : Act → Type 0
IsIdle a = (born a ≡ None) × (yielded a ≡ None) × (used a ≡ None)

-- a block has no number 0
pub some_block : (n : Name) → if_some (block_of n) ≡ Some (block_of n)
some_block n = ap (λ b. cond b None (Some (block_of n))) (ne_eqb (block_of n) 0 (λ e. omega (arith, e)))

abbrev born_if : Option Act → Option ℕ
born_if None = None
born_if (Some a) = born a

abbrev yielded_if : Option Act → Option ℕ
yielded_if None = None
yielded_if (Some a) = yielded a

-- how an allocation and a read of a reference are told, in the state that they led to
pub record IsBirth (m : MachineState) (line : ℕ) (n : Name) : Type 0 where
  pub act : Act
  pub is : act_told m line (Some (deeds.Allocates n)) ≡ Some act
  pub bears : born act ≡ Some (block_of n)
  pub yields : yielded act ≡ None

birth_act : (m : MachineState) (line : ℕ) (n : Name) → IsBirth m line n
birth_act m line n = birth_by (act_told m line (Some (deeds.Allocates n))) refl
  where
    birth_by : (o : Option Act) → act_told m line (Some (deeds.Allocates n)) ≡ o → IsBirth m line n
    birth_by None e = absurd cc
    birth_by (Some act) e = record { act = act; is = e; bears = ap born_if (sym e); yields = ap yielded_if (sym e) }

pub record IsYield (m : MachineState) (line : ℕ) (source : Name) (at : ℕ) (n : Name) : Type 0 where
  pub act : Act
  pub is : act_told m line (Some (deeds.Reads source at (deeds.Reference (Some n)))) ≡ Some act
  pub bears : born act ≡ None
  pub yields : yielded act ≡ Some (block_of n)

pub yield_act : (m : MachineState) (line : ℕ) (source : Name) (at : ℕ) (n : Name) → IsYield m line source at n
yield_act m line source at n = yield_by (act_told m line (Some (deeds.Reads source at (deeds.Reference (Some n))))) refl
  where
    yield_by : (o : Option Act) → act_told m line (Some (deeds.Reads source at (deeds.Reference (Some n)))) ≡ o → IsYield m line source at n
    yield_by None e = absurd cc
    yield_by (Some act) e = record { act = act; is = e; bears = ap born_if (sym e); yields = ap yielded_if (sym e) ∙ some_block n }

-- a step of the task t, on a line with this number, to the state m'
module _ (m m' : MachineState) (t : ℕ) (x : Task) (n : ℕ) (names : NamesAreStoredIn m) where
  abbrev f : Frame
  f = x.top

  abbrev s : StepContext
  s = setting m t x

  abbrev pub Quiet : Option Deed → Type 0
  Quiet d = IfSome (act_told m' n d) IsQuiet

  -- the step makes the task's next object
  pub record Bears (i : Instr) : Type 0 where
    pub register : ℕ
    pub object : Object
    pub strand : object.strand ≡ strand_of t x
    pub made_is : effect s f m.store i ≡ made s f m.store register object
    pub birth : IsBirth m' n (next_name t m.store)
    pub is : act_told m' n (deed m t f i) ≡ Some birth.act

  -- it reads a field that refers to an object, and is stopped unless the object's strand happens before the task's
  pub record Yields (i : Instr) : Type 0 where
    pub source : Name
    pub at : ℕ
    pub name : Name
    pub object : Object
    pub stored : object_at m.store name ≡ Some object
    pub read : IsYield m' n source at name
    pub is : act_told m' n (deed m t f i) ≡ Some read.act
    pub stops : precedes m.edges object.strand (strand_of t x) ≡ false → effect s f m.store i ≡ Stops name

  -- it is told as neither, and allocates nothing; or as one of them
  abbrev pub Told : Instr → Type 0
  Told i = (Quiet (deed m t f i) × (is_some (words_asked m.field_limit f i) ≡ false)) ⊎ (Bears i ⊎ (Yields i × (is_some (words_asked m.field_limit f i) ≡ false)))

  quiet_there : {A : Type 0} (o : Option A) (go : A → Option Deed) → ((y : A) → Quiet (go y)) → Quiet (if_there o go)
  quiet_there None go each = tt
  quiet_there (Some y) go each = each y

  quiet_if : (b : Bool) (d : Deed) → Quiet (Some d) → Quiet (cond b (Some d) None)
  quiet_if true d q = q
  quiet_if false d q = tt

  newm : (d a b : ℕ) (o : Option (ℕ × ℕ)) → counts_in m.field_limit (int_in f a) (int_in f b) ≡ o → Told (Newm d a b)
  newm d a b None e = inl (rw e tt, rw e refl)
  newm d a b (Some c) e = inr (inl (record {
    register = d;
    object = record { strand = strand_of t x; mutable = true; refs = replicate c.0 None; ints = replicate c.1 (pos 0) };
    strand = refl;
    made_is = rw e refl;
    birth = birth_act m' n (next_name t m.store);
    is = (let h : deed m t f (Newm d a b) ≡ Some (deeds.Allocates (next_name t m.store)) = rw e refl in ap (act_told m' n) h) ∙ (birth_act m' n (next_name t m.store)).is;
  }))

  pack : (d r i : ℕ) → Told (Pack d r i)
  pack d r i = inr (inl (record {
    register = d;
    object = record { strand = strand_of t x; mutable = false; refs = take r f.refs; ints = take i f.ints };
    strand = refl;
    made_is = refl;
    birth = birth_act m' n (next_name t m.store);
    is = (birth_act m' n (next_name t m.store)).is;
  }))

  getr_value : (d o k : ℕ) (nm : Name) (ob : Object) (at : ℕ) (w : Option Name) → ref_in f o ≡ Some nm → object_at m.store nm ≡ Some ob → place_in (length ob.refs) (int_in f k) ≡ Some at → reference_in ob at ≡ w → Told (Getr d o k)
  getr_value d o k nm ob at None name is place value =
      let e : deed m t f (Getr d o k) ≡ Some (deeds.Reads nm at (deeds.Reference (reference_in ob at))) = rw (name, is, place) refl in
      inl (subst Quiet (sym (e ∙ ap (λ v. Some (deeds.Reads nm at (deeds.Reference v))) value)) (refl, refl), refl)
  getr_value d o k nm ob at (Some r) name is place value =
      let e : deed m t f (Getr d o k) ≡ Some (deeds.Reads nm at (deeds.Reference (reference_in ob at))) = rw (name, is, place) refl in
      let g : effect s f m.store (Getr d o k) ≡ read_effect s f m.store d (reference_in ob at) = rw (name, is, place) refl in
      let k' = names.in_fields nm r ob is (contains_from_in ob.refs (Some r) (at_in ob.refs at r value)) in
      inr (inr (
        record {
          source = nm;
          at = at;
          name = r;
          object = k'.0;
          stored = k'.1;
          read = yield_act m' n nm at r;
          is = ap (act_told m' n) (e ∙ ap (λ v. Some (deeds.Reads nm at (deeds.Reference v))) value) ∙ (yield_act m' n nm at r).is;
          stops = λ h.
              g
              ∙ (ap (read_effect s f m.store d) value
              ∙ (ap (λ (q : Option Object). or_trap traps.Nil q (λ w. cond (precedes s.edges w.strand s.strand) (Goes (onward (with_ref f d (Some r))) m.store) (Stops r))) k'.1
              ∙ ap (λ b. cond b (Goes (onward (with_ref f d (Some r))) m.store) (Stops r)) h));
        },
        refl,
      ))

  getr_place : (d o k : ℕ) (nm : Name) (ob : Object) (pl : Option ℕ) → ref_in f o ≡ Some nm → object_at m.store nm ≡ Some ob → place_in (length ob.refs) (int_in f k) ≡ pl → Told (Getr d o k)
  getr_place d o k nm ob None name is place = inl (rw (name, is, place) tt, refl)
  getr_place d o k nm ob (Some at) name is place = getr_value d o k nm ob at (reference_in ob at) name is place refl

  getr_object : (d o k : ℕ) (nm : Name) (q : Option Object) → ref_in f o ≡ Some nm → object_at m.store nm ≡ q → Told (Getr d o k)
  getr_object d o k nm None name is = inl (rw (name, is) tt, refl)
  getr_object d o k nm (Some ob) name is = getr_place d o k nm ob (place_in (length ob.refs) (int_in f k)) name is refl

  getr : (d o k : ℕ) (r : Option Name) → ref_in f o ≡ r → Told (Getr d o k)
  getr d o k None name = inl (rw name tt, refl)
  getr d o k (Some nm) name = getr_object d o k nm (object_at m.store nm) name refl

  quiet_on : (o : ℕ) (go : Name → Object → Option Deed) → ((nm : Name) (ob : Object) → Quiet (go nm ob)) → Quiet (if_there (ref_in f o) (λ nm. if_there (object_at m.store nm) (go nm)))
  quiet_on o go each = quiet_there (ref_in f o) (λ nm. if_there (object_at m.store nm) (go nm)) (λ nm. quiet_there (object_at m.store nm) (go nm) (each nm))

  pub tells : (i : Instr) → Told i
  tells (Set d k) = inl (tt, refl)
  tells (Mov d a) = inl (tt, refl)
  tells (Movr d a) = inl (tt, refl)
  tells (NilOf d) = inl (tt, refl)
  tells (Calc op d a b) = inl (tt, refl)
  tells (Same d a b) = inl (tt, refl)
  tells (Jmp to) = inl (tt, refl)
  tells (Jz a to) = inl (tt, refl)
  tells (Newm d a b) = newm d a b (counts_in m.field_limit (int_in f a) (int_in f b)) refl
  tells (Pack d r i) = pack d r i
  tells (Getr d o k) = getr d o k (ref_in f o) refl
  tells (Geti d o k) = inl (quiet_on o _ (λ nm ob. quiet_there (place_in (length ob.ints) (int_in f k)) _ (λ at. (refl, refl))), refl)
  tells (Putr o k v) = inl (quiet_on o _ (λ nm ob. quiet_there (place_in (length ob.refs) (int_in f k)) _ (λ at. quiet_if ob.mutable (deeds.Writes nm at (deeds.Reference (ref_in f v))) (refl, refl))), refl)
  tells (Puti o k v) = inl (quiet_on o _ (λ nm ob. quiet_there (place_in (length ob.ints) (int_in f k)) _ (λ at. quiet_if ob.mutable (deeds.Writes nm (number_place ob at) (deeds.Number (int_in f v))) (refl, refl))), refl)
  tells (Cntr d o) = inl (quiet_on o _ (λ nm ob. tt), refl)
  tells (Cnti d o) = inl (quiet_on o _ (λ nm ob. tt), refl)
  tells (Freeze o) = inl (quiet_on o _ (λ nm ob. quiet_if (owner_of m.tasks nm.task == t) (deeds.Freezes nm) tt), refl)
  tells (Cas d o k e v) =
      inl (
        quiet_on o _ (λ nm ob. quiet_there (place_in (length ob.refs) (int_in f k)) _ (λ at.
            quiet_if ob.mutable (deeds.Swaps nm at (ref_in f v) (same_name (reference_in ob at) (ref_in f e))) (refl, refl))),
        refl,
      )
  tells (Call g) = inl (tt, refl)
  tells (Par g h) = inl (tt, refl)
  tells Ret = inl (tt, refl)
  tells (Out a) = inl (tt, refl)

  -- WHAT IT USES

  -- a register holds what it uses
  abbrev pub IsHeld : Act → Type 0
  IsHeld a = (b : ℕ) → used a ≡ Some b → (nm : Name) × In f.refs (Some nm) × (block_of nm ≡ b)

  abbrev pub Held : Option Deed → Type 0
  Held d = IfSome (act_told m' n d) IsHeld

  held_there : {A : Type 0} (o : Option A) (go : A → Option Deed) → ((y : A) → o ≡ Some y → Held (go y)) → Held (if_there o go)
  held_there None go each = tt
  held_there (Some y) go each = each y refl

  held_if : (b : Bool) (d : Deed) → Held (Some d) → Held (cond b (Some d) None)
  held_if true d q = q
  held_if false d q = tt

  held_on : (o : ℕ) (go : Name → Object → Option Deed) → ((nm : Name) (ob : Object) → In f.refs (Some nm) → Held (go nm ob)) → Held (if_there (ref_in f o) (λ nm. if_there (object_at m.store nm) (go nm)))
  held_on o go each = held_there (ref_in f o) (λ nm. if_there (object_at m.store nm) (go nm)) (λ nm e. held_there (object_at m.store nm) (go nm) (λ ob is. each nm ob (at_in f.refs o nm e)))

  by_block : (nm : Name) → In f.refs (Some nm) → (b : ℕ) → Some (block_of nm) ≡ Some b → (k : Name) × In f.refs (Some k) × (block_of k ≡ b)
  by_block nm i b h = (nm, i, same_Some (block_of nm) b h)

  unused : (b : ℕ) → None ≡ Some b → (k : Name) × In f.refs (Some k) × (block_of k ≡ b)
  unused b h = none_some h

  pub holds : (i : Instr) → Held (deed m t f i)
  holds (Set d k) = tt
  holds (Mov d a) = tt
  holds (Movr d a) = tt
  holds (NilOf d) = tt
  holds (Calc op d a b) = tt
  holds (Same d a b) = tt
  holds (Jmp to) = tt
  holds (Jz a to) = tt
  holds (Newm d a b) = held_there (counts_in m.field_limit (int_in f a) (int_in f b)) _ (λ c e. unused)
  holds (Pack d r i) = unused
  holds (Getr d o k) = held_on o _ (λ nm ob i. held_there (place_in (length ob.refs) (int_in f k)) _ (λ at e. by_block nm i))
  holds (Geti d o k) = held_on o _ (λ nm ob i. held_there (place_in (length ob.ints) (int_in f k)) _ (λ at e. by_block nm i))
  holds (Putr o k v) = held_on o _ (λ nm ob i. held_there (place_in (length ob.refs) (int_in f k)) _ (λ at e. held_if ob.mutable (deeds.Writes nm at (deeds.Reference (ref_in f v))) (by_block nm i)))
  holds (Puti o k v) = held_on o _ (λ nm ob i. held_there (place_in (length ob.ints) (int_in f k)) _ (λ at e. held_if ob.mutable (deeds.Writes nm (number_place ob at) (deeds.Number (int_in f v))) (by_block nm i)))
  holds (Cntr d o) = held_on o _ (λ nm ob i. tt)
  holds (Cnti d o) = held_on o _ (λ nm ob i. tt)
  holds (Freeze o) = held_on o _ (λ nm ob i. held_if (owner_of m.tasks nm.task == t) (deeds.Freezes nm) tt)
  holds (Cas d o k e v) =
      held_on o _ (λ nm ob i. held_there (place_in (length ob.refs) (int_in f k)) _ (λ at h.
      held_if ob.mutable (deeds.Swaps nm at (ref_in f v) (same_name (reference_in ob at) (ref_in f e))) (by_block nm i)))
  holds (Call g) = tt
  holds (Par g h) = tt
  holds Ret = tt
  holds (Out a) = tt
