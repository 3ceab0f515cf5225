-- What an instruction changes in the store: nothing, or one new object, or one object that a register names.
use Rattle.hh_model.proofs.Common.{leb-true, ltb-true, length-replicate, length-take, same_Some, ◌≡◌, ℕ, ℤ, pos, negsuc, ◌+◌, ◌≤◌, nat_le, take, replicate, arith, ◌==◌, Bool, true, false, cond, Option, Some, None, List, [], ◌∷◌, ◌++◌, length, slice_get, slice_set, ◌⊎◌, inl, inr, refl, sym, subst, eqb-true, ◌<◌, nat_lt, option_flatten, In, in_take, Instr, Set, Mov, Movr, Nil as NilOf, Calc, Same, Jmp, Jz, Newm, Pack, Getr, Geti, Putr, Puti, Cntr, Cnti, Freeze, Cas, Call, Par, Ret, Out, Strand, Name, Object, Frame, Trap, Range, Frozen, Div as DivTrap, Size, Effect, Goes, Prints, Calls, Forks, Returns, Traps, Stops, StepContext, effect, object_at, put_object, row_of, or_trap, with_object, made, read_effect, int_in, ref_in, onward, same_name, calculated, counts_in, place_in, with_int, precedes, refs_of, refs_at, IsWriteTo}
use Rattle.hh_model.specs.declared.data.Trap.TheVariants.{Nil}
use Rattle.hh_model.proofs.Carried.{at_in, flat_at, none_in, named_from_in}

-- its fields of both kinds are within the limit, or those of each kind are at most as many as the registers
abbrev pub IsSized : ℕ → Frame → Object → Type 0
IsSized limit f o = (length o.refs + length o.ints ≤ limit) ⊎ ((length o.refs ≤ length f.refs) × (length o.ints ≤ length f.ints))

-- a new object of the task, at its strand; a mutable one refers to nothing, an immutable one to what registers hold
pub record Allocates (s : StepContext) (f : Frame) (store store' : List (List Object)) : Type 0 where
  pub new : Object
  pub strand : new.strand ≡ s.strand
  pub fields : (r : Name) → In new.refs (Some r) → (new.mutable ≡ false) × In f.refs (Some r)
  pub size : IsSized s.field_limit f new
  pub is : store' ≡ slice_set store s.task (row_of (slice_get store s.task) ++ new ∷ [])

-- a reference field of a mutable object, set to what a register holds
abbrev pub SetsRef : Frame → Object → Object → Type 0
SetsRef f x y = (x.mutable ≡ true) × ((at : ℕ) × (v : Option Name) × (y ≡ record x { refs = slice_set x.refs at v }) × ((r : Name) → v ≡ Some r → In f.refs (Some r)))

-- a number field of a mutable object
abbrev pub SetsInt : Object → Object → Type 0
SetsInt x y = (x.mutable ≡ true) × ((at : ℕ) × (k : ℤ) × (y ≡ record x { ints = slice_set x.ints at k }))

-- an object that the task owns becomes immutable
abbrev pub Freezes : StepContext → Name → Object → Object → Type 0
Freezes s n x y = (s.owner n.task ≡ s.task) × (y ≡ record x { mutable = false })

-- the reference field that an instruction writes; the others write none
abbrev pub WritesField : Frame → Instr → Object → Object → Type 0
WritesField f (Putr o k v) x y = (x.mutable ≡ true) × ((at : ℕ) × (place_in (length x.refs) (int_in f k) ≡ Some at) × (y.refs ≡ slice_set x.refs at (ref_in f v)))
WritesField f (Cas d o k e v) x y =
    (x.mutable ≡ true) × ((at : ℕ) × (place_in (length x.refs) (int_in f k) ≡ Some at) × (y.refs ≡ slice_set x.refs at (ref_in f v))
    × (same_name (option_flatten (slice_get x.refs at)) (ref_in f e) ≡ true))
WritesField f _ x y = y.refs ≡ x.refs

pub record Writes (s : StepContext) (f : Frame) (instr : Instr) (store store' : List (List Object)) : Type 0 where
  pub name : Name
  pub old : Object
  pub new : Object
  pub held : In f.refs (Some name)
  pub was : object_at store name ≡ Some old
  pub by : IsWriteTo f instr name
  pub how : SetsRef f old new ⊎ (SetsInt old new ⊎ Freezes s name old new)
  pub field : WritesField f instr old new
  pub is : store' ≡ put_object store name new

abbrev pub Change : StepContext → Frame → Instr → List (List Object) → List (List Object) → Type 0
Change s f instr store store' = (store' ≡ store) ⊎ (Allocates s f store store' ⊎ Writes s f instr store store')

-- a read of a reference field, and where the field is
pub record Reads (f : Frame) (instr : Instr) (store : List (List Object)) (source n : Name) : Type 0 where
  pub target : ℕ
  pub register : ℕ
  pub index : ℕ
  pub instr_is : instr ≡ Getr target register index
  pub named : ref_in f register ≡ Some source
  pub object : Object
  pub is : object_at store source ≡ Some object
  pub at : ℕ
  pub place : place_in (length object.refs) (int_in f index) ≡ Some at
  pub got : slice_get object.refs at ≡ Some (Some n)

-- a read of a field that names an object which doesn't happen before the reader
pub record StopsAt (s : StepContext) (f : Frame) (instr : Instr) (store : List (List Object)) (n : Name) : Type 0 where
  pub source : Name
  pub held : In f.refs (Some source)
  pub field : In (refs_at store source) n
  pub object : Object
  pub is : object_at store n ≡ Some object
  pub apart : precedes s.edges object.strand s.strand ≡ false
  pub read : Reads f instr store source n

abbrev pub Changes : StepContext → Frame → Instr → List (List Object) → Effect → Type 0
Changes s f instr store (Goes f' store') = Change s f instr store store'
Changes s f instr store (Prints k) = Unit {0}
Changes s f instr store (Calls g) = Unit {0}
Changes s f instr store (Forks g h) = instr ≡ Par g h
Changes s f instr store Returns = Unit {0}
Changes s f instr store (Traps t) = Unit {0}
Changes s f instr store (Stops n) = StopsAt s f instr store n

abbrev none_name : Option Name
none_name = None

pub counts_within : (limit : ℕ) (x y : ℤ) (n : ℕ × ℕ) → counts_in limit x y ≡ Some n → n.0 + n.1 ≤ limit
counts_within limit (pos a) (pos b) n e = counts_within_by_cases (nat_le (a + b) limit) refl e
  where
    counts_within_by_cases : (v : Bool) → nat_le (a + b) limit ≡ v → cond v (Some (a, b)) None ≡ Some n → n.0 + n.1 ≤ limit
    counts_within_by_cases true h q = let le : a + b ≤ limit = leb-true (a + b) limit h in let same : (a, b) ≡ n = same_Some (a, b) n q in subst (λ (k : ℕ × ℕ). k.0 + k.1 ≤ limit) same le
    counts_within_by_cases false h q = absurd cc
counts_within limit (pos a) (negsuc b) n e = absurd cc
counts_within limit (negsuc a) y n e = absurd cc

pub place_within : (count : ℕ) (x : ℤ) (k : ℕ) → place_in count x ≡ Some k → k < count
place_within count (pos a) k e = place_within_by_cases (nat_lt a count) refl e
  where
    place_within_by_cases : (t : Bool) → nat_lt a count ≡ t → cond t (Some a) None ≡ Some k → k < count
    place_within_by_cases true is e = let h : a ≡ k = cc in let lt = ltb-true a count is in omega arith
    place_within_by_cases false is e = absurd cc
place_within count (negsuc a) k e = absurd cc

newm_sized : (limit : ℕ) (f : Frame) (x y : ℤ) (strand : Strand) (n : ℕ × ℕ) → counts_in limit x y ≡ Some n → IsSized limit f (record { strand = strand; mutable = true; refs = replicate n.0 None; ints = replicate n.1 (pos 0) })
newm_sized limit f x y strand n e =
    let le = counts_within limit x y n e in
    let r : length (replicate n.0 none_name) ≡ n.0 = length-replicate n.0 none_name in
    let i : length (replicate n.1 (pos 0)) ≡ n.1 = length-replicate n.1 (pos 0) in
    inl (omega (arith, le, r, i))

module _ (s : StepContext) (f : Frame) (instr : Instr) (store : List (List Object)) where
  abbrev D : Effect → Type 0
  D e = Changes s f instr store e

  trap_changes : {A : Type 0} (t : Trap) (o : Option A) (go : A → Effect) → ((x : A) → o ≡ Some x → D (go x)) → D (or_trap t o go)
  trap_changes t None go each = tt
  trap_changes t (Some x) go each = each x refl

  object_by : (r : Option Name) (go : Name → Object → Effect) → ((n : Name) (x : Object) → r ≡ Some n → object_at store n ≡ Some x → D (go n x)) → D (with_object store r go)
  object_by None go each = tt
  object_by (Some n) go each = trap_changes Nil (object_at store n) (go n) (λ x e. each n x refl e)

  object_changes : (i : ℕ) (go : Name → Object → Effect) → ((n : Name) (x : Object) → ref_in f i ≡ Some n → object_at store n ≡ Some x → D (go n x)) → D (with_object store (ref_in f i) go)
  object_changes i go each = object_by (ref_in f i) go each

  either_changes : (b : Bool) (x y : Effect) → (b ≡ true → D x) → (b ≡ false → D y) → D (cond b x y)
  either_changes true x y k l = k refl
  either_changes false x y k l = l refl

  read_changes : (d : ℕ) (m : Name) (x : Object) (r : Option Name) → In f.refs (Some m) → object_at store m ≡ Some x → ((n : Name) → r ≡ Some n → In x.refs (Some n)) → ((n : Name) → r ≡ Some n → Reads f instr store m n) → D (read_effect s f store d r)
  read_changes d m x None reg is from reads = inl refl
  read_changes d m x (Some n) reg is from reads =
      trap_changes Nil (object_at store n) _ (λ o e. either_changes (precedes s.edges o.strand s.strand) _ _ (λ h. inl refl) (λ h. record {
        source = m;
        held = reg;
        field = subst (λ w. In (refs_of w) n) (sym is) (named_from_in x.refs n (from n refl));
        object = o;
        is = e;
        apart = h;
        read = reads n refl;
      }))

  made_changes : (d : ℕ) (o : Object) → o.strand ≡ s.strand → ((r : Name) → In o.refs (Some r) → (o.mutable ≡ false) × In f.refs (Some r)) → IsSized s.field_limit f o → D (made s f store d o)
  made_changes d o same fields size = inr (inl (record { new = o; strand = same; fields = fields; size = size; is = refl }))

  set_ref : (i v at : ℕ) (n : Name) (x : Object) → ref_in f i ≡ Some n → object_at store n ≡ Some x → IsWriteTo f instr n → x.mutable ≡ true
      → WritesField f instr x (record x { refs = slice_set x.refs at (ref_in f v) }) → (g : Frame)
      → D (Goes g (put_object store n (record x { refs = slice_set x.refs at (ref_in f v) })))
  set_ref i v at n x reg is by mutable field g = inr (inr (record {
    name = n;
    old = x;
    new = record x { refs = slice_set x.refs at (ref_in f v) };
    held = at_in f.refs i n reg;
    was = is;
    by = by;
    how = inl (mutable, (at, ref_in f v, refl, λ r e. at_in f.refs v r e));
    field = field;
    is = refl;
  }))

  set_int : (i at : ℕ) (k : ℤ) (n : Name) (x : Object) → ref_in f i ≡ Some n → object_at store n ≡ Some x → IsWriteTo f instr n → x.mutable ≡ true
      → WritesField f instr x (record x { ints = slice_set x.ints at k }) → (g : Frame)
      → D (Goes g (put_object store n (record x { ints = slice_set x.ints at k })))
  set_int i at k n x reg is by mutable field g = inr (inr (record {
    name = n;
    old = x;
    new = record x { ints = slice_set x.ints at k };
    held = at_in f.refs i n reg;
    was = is;
    by = by;
    how = inr (inl (mutable, (at, k, refl)));
    field = field;
    is = refl;
  }))

  freezes : (i : ℕ) (n : Name) (x : Object) → ref_in f i ≡ Some n → object_at store n ≡ Some x → IsWriteTo f instr n → s.owner n.task ≡ s.task
      → WritesField f instr x (record x { mutable = false }) → (g : Frame)
      → D (Goes g (put_object store n (record x { mutable = false })))
  freezes i n x reg is by own field g = inr (inr (record {
    name = n;
    old = x;
    new = record x { mutable = false };
    held = at_in f.refs i n reg;
    was = is;
    by = by;
    how = inr (inr (own, refl));
    field = field;
    is = refl;
  }))

pub effect_changes : (s : StepContext) (f : Frame) (store : List (List Object)) (instr : Instr) → Changes s f instr store (effect s f store instr)
effect_changes s f store (Set d k) = inl refl
effect_changes s f store (Mov d a) = inl refl
effect_changes s f store (Movr d a) = inl refl
effect_changes s f store (NilOf d) = inl refl
effect_changes s f store (Calc op d a b) = trap_changes s f (Calc op d a b) store DivTrap (calculated op (int_in f a) (int_in f b)) _ (λ x e. inl refl)
effect_changes s f store (Same d a b) = inl refl
effect_changes s f store (Jmp to) = inl refl
effect_changes s f store (Jz a to) = inl refl
effect_changes s f store (Newm d a b) =
    trap_changes s f (Newm d a b) store Size (counts_in s.field_limit (int_in f a) (int_in f b)) _ (λ n e.
    made_changes s f (Newm d a b) store d _ refl (λ r h. absurd (none_in n.0 r h)) (newm_sized s.field_limit f (int_in f a) (int_in f b) s.strand n e))
effect_changes s f store (Pack d r i) =
    let refs : length (take r f.refs) ≤ length f.refs = omega (arith, length-take r f.refs) in
    let ints : length (take i f.ints) ≤ length f.ints = omega (arith, length-take i f.ints) in
    made_changes s f (Pack d r i) store d _ refl (λ n h. (refl, in_take r f.refs (Some n) h)) (inr (refs, ints))
effect_changes s f store (Getr d o k) =
    object_changes s f (Getr d o k) store o _ (λ n x reg is. trap_changes s f (Getr d o k) store Range (place_in (length x.refs) (int_in f k)) _ (λ at e.
    read_changes s f (Getr d o k) store d n x (option_flatten (slice_get x.refs at)) (at_in f.refs o n reg) is (λ r e'. at_in x.refs at r e') (λ r e'. record {
      target = d;
      register = o;
      index = k;
      instr_is = refl;
      named = reg;
      object = x;
      is = is;
      at = at;
      place = e;
      got = flat_at (slice_get x.refs at) r e';
    })))
effect_changes s f store (Geti d o k) =
    object_changes s f (Geti d o k) store o _ (λ n x reg is. trap_changes s f (Geti d o k) store Range (place_in (length x.ints) (int_in f k)) _ (λ at e. inl refl))
effect_changes s f store (Putr o k v) =
    object_changes s f (Putr o k v) store o _ (λ n x reg is. trap_changes s f (Putr o k v) store Range (place_in (length x.refs) (int_in f k)) _ (λ at e.
    either_changes s f (Putr o k v) store x.mutable _ (Traps Frozen) (λ h. set_ref s f (Putr o k v) store o v at n x reg is reg h (h, (at, e, refl)) (onward f)) (λ h. tt)))
effect_changes s f store (Puti o k v) =
    object_changes s f (Puti o k v) store o _ (λ n x reg is. trap_changes s f (Puti o k v) store Range (place_in (length x.ints) (int_in f k)) _ (λ at e.
    either_changes s f (Puti o k v) store x.mutable _ (Traps Frozen) (λ h. set_int s f (Puti o k v) store o at (int_in f v) n x reg is reg h refl (onward f)) (λ h. tt)))
effect_changes s f store (Cntr d o) = object_changes s f (Cntr d o) store o _ (λ n x reg is. inl refl)
effect_changes s f store (Cnti d o) = object_changes s f (Cnti d o) store o _ (λ n x reg is. inl refl)
effect_changes s f store (Freeze o) =
    object_changes s f (Freeze o) store o _ (λ n x reg is.
    either_changes s f (Freeze o) store (s.owner n.task == s.task) (Goes (onward f) (put_object store n (record x { mutable = false }))) (Traps Frozen)
    (λ h. freezes s f (Freeze o) store o n x reg is reg (eqb-true (s.owner n.task) s.task h) refl (onward f)) (λ h. tt))
effect_changes s f store (Cas d o k c v) =
    object_changes s f (Cas d o k c v) store o _ (λ n x reg is. trap_changes s f (Cas d o k c v) store Range (place_in (length x.refs) (int_in f k)) _ (λ at e.
    either_changes s f (Cas d o k c v) store x.mutable _ (Traps Frozen)
    (λ h. either_changes s f (Cas d o k c v) store (same_name (option_flatten (slice_get x.refs at)) (ref_in f c)) _ _
    (λ h'. set_ref s f (Cas d o k c v) store o v at n x reg is reg h (h, (at, e, refl, h')) (onward (with_int f d (pos 1)))) (λ h'. inl refl)) (λ h. tt)))
effect_changes s f store (Call g) = tt
effect_changes s f store (Par g h) = refl
effect_changes s f store Ret = tt
effect_changes s f store (Out a) = tt
