-- Where the names come from that an instruction leaves in registers and fields.
use Rattle.hh_model.proofs.Common.{◌≡◌, ℕ, pos, zero, suc, ◌+◌, ◌==◌, Bool, true, false, cond, Option, Some, None, List, [], ◌∷◌, ◌++◌, length, set, slice_get, slice_set, ◌⊎◌, inl, inr, refl, ap, sym, subst, ◌∙◌, replicate, is_some, option_flatten, In, got_in, in_take, Instr, Set, Mov, Movr, Nil as NilOf, Calc, Same, Jmp, Jz, Newm, Pack, Getr, Geti, Putr, Puti, Cntr, Cnti, Freeze, Cas, Call, Par, Ret, Out, Name, Object, Frame, Trap, Range, Frozen, Div as DivTrap, Size, Effect, Goes, Prints, Calls, Forks, Returns, Traps, Stops, StepContext, effect, object_at, put_object, row_of, or_trap, with_object, made, read_effect, int_in, ref_in, with_ref, onward, same_name, calculated, counts_in, place_in, int_eq, precedes, names_of_references, refs_of, refs_at, words_asked, words_for}
use Rattle.hh_model.specs.declared.data.Trap.TheVariants.{Nil}
use Rattle.hh_model.proofs.Stores.{put_cases, made_cases}
pub use Rattle.hh_model.specs.Names.{next_name}

pub in_from_named : (refs : List (Option Name)) (n : Name) → In (names_of_references refs) n → In refs (Some n)
in_from_named [] n h = absurd h
in_from_named (None ∷ refs) n h = inr (in_from_named refs n h)
in_from_named (Some m ∷ refs) n (inl e) = inl (ap (λ x. Some x) e)
in_from_named (Some m ∷ refs) n (inr h) = inr (in_from_named refs n h)

pub named_from_in : (refs : List (Option Name)) (n : Name) → In refs (Some n) → In (names_of_references refs) n
named_from_in [] n h = absurd h
named_from_in (None ∷ refs) n (inl e) = absurd cc
named_from_in (None ∷ refs) n (inr h) = named_from_in refs n h
named_from_in (Some m ∷ refs) n (inl e) = inl cc
named_from_in (Some m ∷ refs) n (inr h) = inr (named_from_in refs n h)

pub in_set_cases : {A : Type 0} (xs : List A) (k : ℕ) (y z : A) → In (set xs k y) z → (y ≡ z) ⊎ In xs z
in_set_cases [] k y z h = inr h
in_set_cases (x ∷ xs) zero y z (inl e) = inl e
in_set_cases (x ∷ xs) zero y z (inr h) = inr (inr h)
in_set_cases (x ∷ xs) (suc k) y z (inl e) = inr (inl e)
in_set_cases (x ∷ xs) (suc k) y z (inr h) = elim (in_set_cases xs k y z h) [ inl e ↦ inl e | inr i ↦ inr (inr i) ]

pub none_in : (k : ℕ) (n : Name) → In (replicate k None) (Some n) → ⊥
none_in zero n h = h
none_in (suc k) n (inl e) = absurd cc
none_in (suc k) n (inr h) = none_in k n h

pub flat_at : (o : Option (Option Name)) (n : Name) → option_flatten o ≡ Some n → o ≡ Some (Some n)
flat_at None n e = absurd cc
flat_at (Some r) n e = ap (λ x. Some x) e

pub at_in : (refs : List (Option Name)) (i : ℕ) (n : Name) → option_flatten (slice_get refs i) ≡ Some n → In refs (Some n)
at_in refs i n e = got_in refs i (Some n) (flat_at (slice_get refs i) n e)

module _ (s : StepContext) (f : Frame) (store : List (List Object)) (alloc : Option ℕ) where
  abbrev new : Name
  new = next_name s.task store

  -- read from an object that a register names, and not stopped
  abbrev pub Read : Name → Type 0
  Read r = (n : Name) × In f.refs (Some n) × In (refs_at store n) r × ((o : Object) × (object_at store r ≡ Some o) × (precedes s.edges o.strand s.strand ≡ true))

  abbrev pub From : Name → Type 0
  From r = In f.refs (Some r) ⊎ (((r ≡ next_name s.task store) × (is_some alloc ≡ true)) ⊎ Read r)

  abbrev pub Field : List (List Object) → Name → Name → Type 0
  Field store' n r = In (refs_at store n) r ⊎ ((In f.refs (Some n) ⊎ ((n ≡ next_name s.task store) × (is_some alloc ≡ true))) × In f.refs (Some r))

  abbrev pub Carries : Effect → Type 0
  Carries (Goes f' store') = ((r : Name) → In f'.refs (Some r) → From r) × ((n r : Name) → In (refs_at store' n) r → Field store' n r)
  Carries (Prints k) = Unit {0}
  Carries (Calls g) = Unit {0}
  Carries (Forks g h) = Unit {0}
  Carries Returns = Unit {0}
  Carries (Traps t) = Unit {0}
  Carries (Stops n) = Unit {0}

  old_fields : (n r : Name) → In (refs_at store n) r → Field store n r
  old_fields n r h = inl h

  -- the same registers with another store
  same_regs : (r : Name) → In f.refs (Some r) → From r
  same_regs r h = inl h

  -- a reference register is set to what a register holds
  set_reg : (d : ℕ) (v : Option Name) → ((r : Name) → v ≡ Some r → From r) → (r : Name) → In (set f.refs d v) (Some r) → From r
  set_reg d v from r h = elim (in_set_cases f.refs d v (Some r) h) [ inl e ↦ from r e | inr i ↦ inl i ]

  reg_from : (i : ℕ) (r : Name) → ref_in f i ≡ Some r → From r
  reg_from i r e = inl (at_in f.refs i r e)

  trap_carries : {A : Type 0} (t : Trap) (o : Option A) (go : A → Effect) → ((x : A) → o ≡ Some x → Carries (go x)) → Carries (or_trap t o go)
  trap_carries t None go each = tt
  trap_carries t (Some x) go each = each x refl

  object_by : (r : Option Name) (go : Name → Object → Effect) → ((n : Name) (x : Object) → r ≡ Some n → object_at store n ≡ Some x → Carries (go n x)) → Carries (with_object store r go)
  object_by None go each = tt
  object_by (Some n) go each = trap_carries Nil (object_at store n) (go n) (λ x e. each n x refl e)

  object_carries : (i : ℕ) (go : Name → Object → Effect) → ((n : Name) (x : Object) → In f.refs (Some n) → object_at store n ≡ Some x → Carries (go n x)) → Carries (with_object store (ref_in f i) go)
  object_carries i go each = object_by (ref_in f i) go (λ n x e is. each n x (at_in f.refs i n e) is)

  either_carries : (b : Bool) (x y : Effect) → Carries x → Carries y → Carries (cond b x y)
  either_carries true x y k l = k
  either_carries false x y k l = l

  -- a field of an object that a register names
  put_fields : (m : Name) (x o : Object) → In f.refs (Some m) → object_at store m ≡ Some x → ((r : Name) → In o.refs (Some r) → In x.refs (Some r) ⊎ In f.refs (Some r))
      → (n r : Name) → In (refs_at (put_object store m o) n) r → Field (put_object store m o) n r
  put_fields m x o reg is fields n r h = put_fields_by_cases (object_at (put_object store m o) n) refl h
    where
      old : (q : Object) → object_at store n ≡ Some q → In (names_of_references q.refs) r → Field (put_object store m o) n r
      old q e i = inl (subst (λ w. In (refs_of w) r) (sym e) i)

      put_fields_here : (q : Object) → (n ≡ m) × (q ≡ o) → In (names_of_references q.refs) r → Field (put_object store m o) n r
      put_fields_here q p i =
          elim (fields r (in_from_named o.refs r (subst (λ (w : Object). In (names_of_references w.refs) r) p.1 i))) [
            | inl was ↦ inl (subst (λ w. In (refs_of w) r) (sym (ap (object_at store) p.0 ∙ is)) (named_from_in x.refs r was))
            | inr reg' ↦ inr (inl (subst (λ w. In f.refs (Some w)) (sym p.0) reg), reg')
          ]

      put_fields_by_cases : (w : Option Object) → object_at (put_object store m o) n ≡ w → In (refs_of w) r → Field (put_object store m o) n r
      put_fields_by_cases None e i = absurd i
      put_fields_by_cases (Some q) e i = elim (put_cases store m o n q e) [ inl p ↦ put_fields_here q p i | inr e' ↦ old q e' i ]

  written : (m : Name) (x : Object) (at : ℕ) (v : Option Name) → In f.refs (Some m) → object_at store m ≡ Some x → ((r : Name) → v ≡ Some r → In f.refs (Some r))
      → (n r : Name) → In (refs_at (put_object store m (record x { refs = slice_set x.refs at v })) n) r → Field (put_object store m (record x { refs = slice_set x.refs at v })) n r
  written m x at v reg is from =
      put_fields m x (record x { refs = slice_set x.refs at v }) reg is (λ r h. elim (in_set_cases x.refs at v (Some r) h) [ inl e ↦ inr (from r e) | inr i ↦ inl i ])

  made_carries : (d : ℕ) (o : Object) → is_some alloc ≡ true → ((r : Name) → In o.refs (Some r) → In f.refs (Some r)) → Carries (made s f store d o)
  made_carries d o some fields = (
    set_reg d (Some (next_name s.task store)) (λ r e. inr (inl (cc, some))),
    λ n r h. made_carries_by_cases n r (object_at (slice_set store s.task (row_of (slice_get store s.task) ++ o ∷ [])) n) refl h,
  )
    where
      same_name' : (n : Name) → n.task ≡ s.task → n.count ≡ length (row_of (slice_get store s.task)) → n ≡ next_name s.task store
      same_name' n a b = λ i. record { task = a i; count = b i }

      made_carries_here : (n r : Name) (q : Object) → (n.task ≡ s.task) × (n.count ≡ length (row_of (slice_get store s.task))) × (q ≡ o) → In (names_of_references q.refs) r → Field store n r
      made_carries_here n r q p i = inr (inr (same_name' n p.0 p.1, some), fields r (in_from_named o.refs r (subst (λ (w : Object). In (names_of_references w.refs) r) p.2 i)))

      old : (n r : Name) (q : Object) → object_at store n ≡ Some q → In (names_of_references q.refs) r → Field store n r
      old n r q e i = inl (subst (λ w. In (refs_of w) r) (sym e) i)

      made_carries_by_cases : (n r : Name) (w : Option Object) → object_at (slice_set store s.task (row_of (slice_get store s.task) ++ o ∷ [])) n ≡ w → In (refs_of w) r → Field store n r
      made_carries_by_cases n r None e i = absurd i
      made_carries_by_cases n r (Some q) e i = elim (made_cases store s.task o n q e) [ inl p ↦ made_carries_here n r q p i | inr e' ↦ old n r q e' i ]

  read_carries : (d : ℕ) (m : Name) (x : Object) (r : Option Name) → In f.refs (Some m) → object_at store m ≡ Some x → ((n : Name) → r ≡ Some n → In x.refs (Some n)) → Carries (read_effect s f store d r)
  read_carries d m x None reg is from = (set_reg d None (λ r e. absurd cc), old_fields)
  read_carries d m x (Some n) reg is from = trap_carries Nil (object_at store n) _ (λ o e. through o e (precedes s.edges o.strand s.strand) refl)
    where
      field : In (refs_at store m) n
      field = subst (λ w. In (refs_of w) n) (sym is) (named_from_in x.refs n (from n refl))

      got : (o : Object) → object_at store n ≡ Some o → precedes s.edges o.strand s.strand ≡ true → (r : Name) → Some n ≡ Some r → From r
      got o e b r e' = let same : n ≡ r = cc in inr (inr (subst Read same (m, reg, field, (o, e, b))))

      through : (o : Object) → object_at store n ≡ Some o → (b : Bool) → precedes s.edges o.strand s.strand ≡ b → Carries (cond b (Goes (onward (with_ref f d (Some n))) store) (Stops n))
      through o e true is' = (set_reg d (Some n) (got o e is'), old_fields)
      through o e false is' = tt

jumps : (s : StepContext) (f : Frame) (store : List (List Object)) (x y : Frame) → x.refs ≡ f.refs → y.refs ≡ f.refs → (b : Bool) → Carries s f store None (Goes (cond b x y) store)
jumps s f store x y ex ey true = ((λ r h. inl (subst (λ rs. In rs (Some r)) ex h)), old_fields s f store None)
jumps s f store x y ex ey false = ((λ r h. inl (subst (λ rs. In rs (Some r)) ey h)), old_fields s f store None)

pub effect_carries : (s : StepContext) (f : Frame) (store : List (List Object)) (instr : Instr) → Carries s f store (words_asked s.field_limit f instr) (effect s f store instr)
effect_carries s f store (Set d k) = (same_regs s f store None, old_fields s f store None)
effect_carries s f store (Mov d a) = (same_regs s f store None, old_fields s f store None)
effect_carries s f store (Movr d a) = (set_reg s f store None d (ref_in f a) (reg_from s f store None a), old_fields s f store None)
effect_carries s f store (NilOf d) = (set_reg s f store None d None (λ r e. absurd cc), old_fields s f store None)
effect_carries s f store (Calc op d a b) = trap_carries s f store None DivTrap (calculated op (int_in f a) (int_in f b)) _ (λ x e. (same_regs s f store None, old_fields s f store None))
effect_carries s f store (Same d a b) = (same_regs s f store None, old_fields s f store None)
effect_carries s f store (Jmp to) = (same_regs s f store None, old_fields s f store None)
effect_carries s f store (Jz a to) = jumps s f store (record f { next = to }) (onward f) refl refl (int_eq (int_in f a) (pos 0))
effect_carries s f store (Newm d a b) =
    trap_carries s f store (words_for (counts_in s.field_limit (int_in f a) (int_in f b))) Size (counts_in s.field_limit (int_in f a) (int_in f b)) _ (λ n e.
    made_carries s f store (words_for (counts_in s.field_limit (int_in f a) (int_in f b))) d _ (ap (λ o. is_some (words_for o)) e) (λ r h. absurd (none_in n.0 r h)))
effect_carries s f store (Pack d r i) = made_carries s f store (Some (2 + r + i)) d _ refl (λ n h. in_take r f.refs (Some n) h)
effect_carries s f store (Getr d o k) =
    object_carries s f store None o _ (λ n x reg is. trap_carries s f store None Range (place_in (length x.refs) (int_in f k)) _ (λ at e.
    read_carries s f store None d n x (option_flatten (slice_get x.refs at)) reg is (λ r e'. at_in x.refs at r e')))
effect_carries s f store (Geti d o k) =
    object_carries s f store None o _ (λ n x reg is. trap_carries s f store None Range (place_in (length x.ints) (int_in f k)) _ (λ at e. (same_regs s f store None, old_fields s f store None)))
effect_carries s f store (Putr o k v) =
    object_carries s f store None o _ (λ n x reg is. trap_carries s f store None Range (place_in (length x.refs) (int_in f k)) _ (λ at e.
    either_carries s f store None x.mutable _ (Traps Frozen) (same_regs s f store None, written s f store None n x at (ref_in f v) reg is (λ r e'. at_in f.refs v r e')) tt))
effect_carries s f store (Puti o k v) =
    object_carries s f store None o _ (λ n x reg is. trap_carries s f store None Range (place_in (length x.ints) (int_in f k)) _ (λ at e.
    either_carries s f store None x.mutable _ (Traps Frozen) (same_regs s f store None, put_fields s f store None n x (record x { ints = slice_set x.ints at (int_in f v) }) reg is (λ r h. inl h)) tt))
effect_carries s f store (Cntr d o) = object_carries s f store None o _ (λ n x reg is. (same_regs s f store None, old_fields s f store None))
effect_carries s f store (Cnti d o) = object_carries s f store None o _ (λ n x reg is. (same_regs s f store None, old_fields s f store None))
effect_carries s f store (Freeze o) =
    object_carries s f store None o _ (λ n x reg is.
    either_carries s f store None (s.owner n.task == s.task) (Goes (onward f) (put_object store n (record x { mutable = false }))) (Traps Frozen)
    (same_regs s f store None, put_fields s f store None n x (record x { mutable = false }) reg is (λ r h. inl h)) tt)
effect_carries s f store (Cas d o k c v) =
    object_carries s f store None o _ (λ n x reg is. trap_carries s f store None Range (place_in (length x.refs) (int_in f k)) _ (λ at e.
    either_carries s f store None x.mutable _ (Traps Frozen)
    (either_carries s f store None (same_name (option_flatten (slice_get x.refs at)) (ref_in f c)) _ _
    (same_regs s f store None, written s f store None n x at (ref_in f v) reg is (λ r e'. at_in f.refs v r e'))
    ((same_regs s f store None, old_fields s f store None))) tt))
effect_carries s f store (Call g) = tt
effect_carries s f store (Par g h) = tt
effect_carries s f store Ret = tt
effect_carries s f store (Out a) = tt
