-- The act that a step is told as is its access.
use Rattle.run_race_laws.proofs.Common.{◌≡◌, ◌<◌, ◌+◌, ℕ, ℤ, pos, negsuc, nat_lt, arith, Bool, true, false, cond, Option, Some, None, IfSome, List, [], ◌∷◌, length, map, refl, ap, sym, subst, ◌∙◌, ◌==◌, option_flatten, ltb-true, same_Some, GraphStrand, Instr, Set, Mov, Movr, Nil as NilOf, Calc, Same, Jmp, Jz, Newm, Pack, Getr, Geti, Putr, Puti, Cntr, Cnti, Freeze, Cas, Call, Par, Ret, Out, at_in, Effect, Goes, Prints, Calls, Forks, Returns, Traps, Stops, StepContext, effect, object_at, int_in, ref_in, place_in, same_name, read_effect, or_trap, onward, with_ref, counts_in, next_name, precedes, setting, strand_of, owner_of, IsStored, NamesAreStoredIn, MachineState, Frame, Name, Object, Task, Trap, contains_from_in, index_of, access_by, unless_trap, object_references, with_some, Field, FieldAccess, in_log, location, Deed, deed, if_there, number_place, reference_in, number_in, act_told, on_strand, HasField, ToldAccess, told_access, accesses_told, as_told, field_region, Region, region_of, PlainRead, PlainWrite}
use Rattle.hh_model.specs.declared.data.Trap.TheVariants as traps
use Rattle.run_turn_laws.specs.below.run_deltas as deeds

within_by : (b : Bool) (c k at : ℕ) → nat_lt k c ≡ b → cond b (Some k) None ≡ Some at → at < c
within_by true c k at e h = let q : k ≡ at = same_Some k at h in let lt : k < c = ltb-true k c e in omega (arith, q, lt)
within_by false c k at e h = absurd cc

-- a place that is found is within the count
pub place_within : (c : ℕ) (z : ℤ) (at : ℕ) → place_in c z ≡ Some at → at < c
place_within c (pos k) at e = within_by (nat_lt k c) c k at refl e
place_within c (negsuc k) at e = absurd cc

pub none_unless : {A : Type 0} (e : Effect) → unless_trap {A = A} e None ≡ None
none_unless (Goes f store) = refl
none_unless (Prints k) = refl
none_unless (Calls g) = refl
none_unless (Forks g h) = refl
none_unless Returns = refl
none_unless (Traps kind) = refl
none_unless (Stops n) = refl

-- what a step reads, before the states m' that it leads to
module _ (m m' : MachineState) (t : ℕ) (x : Task) (n : ℕ) (names : NamesAreStoredIn m)
    (later : (nm : Name) (o : Object) → object_at m.store nm ≡ Some o → (o' : Object) × (object_at m'.store nm ≡ Some o') × (length o'.refs ≡ length o.refs)) where
  abbrev f : Frame
  f = x.top

  abbrev s : StepContext
  s = setting m t x

  abbrev u : GraphStrand
  u = in_log (strand_of t x)

  abbrev made : Instr → Option FieldAccess
  made i = unless_trap (effect s f m.store i) (access_by (strand_of t x) n f m.store i)

  abbrev told : Option Deed → List ToldAccess
  told d = accesses_told (on_strand u (act_told m' n d))

  abbrev seen : Option FieldAccess → List ToldAccess
  seen o = map (as_told m'.store) (with_some o [])

  -- of a field that is there, on the task's strand
  abbrev pub Good : FieldAccess → Type 0
  Good a = HasField m.store a.field × (a.strand ≡ strand_of t x)

  -- what is told is the access that is made
  pub record Agrees (i : Instr) : Type 0 where
    pub same : told (deed m t f i) ≡ seen (made i)
    pub stored : IfSome (made i) Good

  nothing : (i : Instr) → told (deed m t f i) ≡ [] → access_by (strand_of t x) n f m.store i ≡ None → Agrees i
  nothing i quiet none =
      let e : made i ≡ None = ap (unless_trap (effect s f m.store i)) none ∙ none_unless (effect s f m.store i) in
      record { same = quiet ∙ ap seen (sym e); stored = subst (λ o. IfSome o Good) (sym e) tt }

  trapped : (i : Instr) (kind : Trap) → deed m t f i ≡ None → effect s f m.store i ≡ Traps kind → Agrees i
  trapped i kind none trap =
      let e : made i ≡ None = ap (λ w. unless_trap w (access_by (strand_of t x) n f m.store i)) trap in
      record { same = ap told none ∙ ap seen (sym e); stored = subst (λ o. IfSome o Good) (sym e) tt }

  found : (i : Instr) (d : Deed) (a : FieldAccess) → deed m t f i ≡ Some d → access_by (strand_of t x) n f m.store i ≡ Some a → unless_trap (effect s f m.store i) (Some a) ≡ Some a
      → told (Some d) ≡ as_told m'.store a ∷ [] → Good a → Agrees i
  found i d a is by goes same stored =
      let e : made i ≡ Some a = ap (unless_trap (effect s f m.store i)) by ∙ goes in
      record { same = ap told is ∙ (same ∙ ap seen (sym e)); stored = subst (λ o. IfSome o Good) (sym e) stored }

  -- INSTRUCTIONS THAT ACCESS NO FIELD

  allocates : (o : Option (ℕ × ℕ)) (nm : Name) → told (if_there o (λ c. Some (deeds.Allocates nm))) ≡ []
  allocates None nm = refl
  allocates (Some c) nm = refl

  counts_of : (o : Option Object) (nm : Name) → told (if_there o (λ ob. Some (deeds.Counts nm))) ≡ []
  counts_of None nm = refl
  counts_of (Some ob) nm = refl

  counts : (r : Option Name) → told (if_there r (λ nm. if_there (object_at m.store nm) (λ ob. Some (deeds.Counts nm)))) ≡ []
  counts None = refl
  counts (Some nm) = counts_of (object_at m.store nm) nm

  freezes_by : (b : Bool) (nm : Name) → told (cond b (Some (deeds.Freezes nm)) None) ≡ []
  freezes_by true nm = refl
  freezes_by false nm = refl

  freezes_of : (o : Option Object) (b : Bool) (nm : Name) → told (if_there o (λ ob. cond b (Some (deeds.Freezes nm)) None)) ≡ []
  freezes_of None b nm = refl
  freezes_of (Some ob) b nm = freezes_by b nm

  freezes : (b : Name → Bool) (r : Option Name) → told (if_there r (λ nm. if_there (object_at m.store nm) (λ ob. cond (b nm) (Some (deeds.Freezes nm)) None))) ≡ []
  freezes b None = refl
  freezes b (Some nm) = freezes_of (object_at m.store nm) (b nm) nm

  -- FIELDS

  abbrev field : Name → Bool → ℕ → Field
  field nm number at = record { name = nm; is_number = number; index = at }

  abbrev access : Name → Bool → ℕ → Bool → Bool → FieldAccess
  access nm number at writes swaps = record { strand = strand_of t x; line = n; field = field nm number at; writes = writes; swaps = swaps }

  read_by : (b : Bool) (g : Frame) (store : List (List Object)) (r : Name) (a : FieldAccess) → unless_trap (cond b (Goes g store) (Stops r)) (Some a) ≡ Some a
  read_by true g store r a = refl
  read_by false g store r a = refl

  read_goes : (d : ℕ) (v : Option Name) (a : FieldAccess) → ((r : Name) → v ≡ Some r → IsStored m r) → unless_trap (read_effect s f m.store d v) (Some a) ≡ Some a
  read_goes d None a h = refl
  read_goes d (Some r) a h =
      let k = h r refl in
      ap (λ (o : Option Object). unless_trap (or_trap traps.Nil o (λ ob. cond (precedes s.edges ob.strand s.strand) (Goes (onward (with_ref f d (Some r))) m.store) (Stops r))) (Some a)) k.1
      ∙ read_by (precedes s.edges k.0.strand s.strand) (onward (with_ref f d (Some r))) m.store r a

  flat_some : (o : Option (Option Name)) (r : Name) → option_flatten o ≡ Some r → o ≡ Some (Some r)
  flat_some None r e = absurd cc
  flat_some (Some None) r e = absurd cc
  flat_some (Some (Some q)) r e = ap (λ w. Some w) e

  -- a number field's location, in the states before and after
  number_location : (nm : Name) (ob : Object) (at : ℕ) → object_at m.store nm ≡ Some ob → region_of (location nm (number_place ob at)) ≡ field_region m'.store (field nm true at)
  number_location nm ob at is = let l = later nm ob is in ap (λ k. region_of (location nm (k + at))) (sym (ap (λ o. length (object_references o)) l.1 ∙ l.2))

  getr_place : (d o k : ℕ) (nm : Name) (ob : Object) (pl : Option ℕ) → ref_in f o ≡ Some nm → object_at m.store nm ≡ Some ob → place_in (length ob.refs) (int_in f k) ≡ pl → Agrees (Getr d o k)
  getr_place d o k nm ob None name is place = trapped (Getr d o k) traps.Range (rw (name, is, place) refl) (rw (name, is, place) refl)
  getr_place d o k nm ob (Some at) name is place =
      let int : int_in f k ≡ pos at = index_of (length ob.refs) (int_in f k) at place in
      let e : effect s f m.store (Getr d o k) ≡ read_effect s f m.store d (reference_in ob at) = rw (name, is, place) refl in
      found (Getr d o k) (deeds.Reads nm at (deeds.Reference (reference_in ob at))) (access nm false at false false)
      (rw (name, is, place) refl) (rw (name, int) refl)
      (ap (λ w. unless_trap w (Some (access nm false at false false))) e ∙ read_goes d (reference_in ob at) (access nm false at false false) (λ r h. names.in_fields nm r ob is (contains_from_in ob.refs (Some r) (at_in ob.refs at r h))))
      refl ((ob, is, place_within (length ob.refs) (int_in f k) at place), refl)

  getr_object : (d o k : ℕ) (nm : Name) (q : Option Object) → ref_in f o ≡ Some nm → object_at m.store nm ≡ q → Agrees (Getr d o k)
  getr_object d o k nm None name is = trapped (Getr d o k) traps.Nil (rw (name, is) refl) (rw (name, is) refl)
  getr_object d o k nm (Some ob) name is = getr_place d o k nm ob (place_in (length ob.refs) (int_in f k)) name is refl

  getr : (d o k : ℕ) (r : Option Name) → ref_in f o ≡ r → Agrees (Getr d o k)
  getr d o k None name = trapped (Getr d o k) traps.Nil (rw name refl) (rw name refl)
  getr d o k (Some nm) name = getr_object d o k nm (object_at m.store nm) name refl

  geti_place : (d o k : ℕ) (nm : Name) (ob : Object) (pl : Option ℕ) → ref_in f o ≡ Some nm → object_at m.store nm ≡ Some ob → place_in (length ob.ints) (int_in f k) ≡ pl → Agrees (Geti d o k)
  geti_place d o k nm ob None name is place = trapped (Geti d o k) traps.Range (rw (name, is, place) refl) (rw (name, is, place) refl)
  geti_place d o k nm ob (Some at) name is place =
      let int : int_in f k ≡ pos at = index_of (length ob.ints) (int_in f k) at place in
      found (Geti d o k) (deeds.Reads nm (number_place ob at) (deeds.Number (number_in ob at))) (access nm true at false false)
      (rw (name, is, place) refl) (rw (name, int) refl) (rw (name, is, place) refl)
      (ap (λ (l : Region). told_access u (record { region = l; kind = PlainRead }) ∷ []) (number_location nm ob at is)) ((ob, is, place_within (length ob.ints) (int_in f k) at place), refl)

  geti_object : (d o k : ℕ) (nm : Name) (q : Option Object) → ref_in f o ≡ Some nm → object_at m.store nm ≡ q → Agrees (Geti d o k)
  geti_object d o k nm None name is = trapped (Geti d o k) traps.Nil (rw (name, is) refl) (rw (name, is) refl)
  geti_object d o k nm (Some ob) name is = geti_place d o k nm ob (place_in (length ob.ints) (int_in f k)) name is refl

  geti : (d o k : ℕ) (r : Option Name) → ref_in f o ≡ r → Agrees (Geti d o k)
  geti d o k None name = trapped (Geti d o k) traps.Nil (rw name refl) (rw name refl)
  geti d o k (Some nm) name = geti_object d o k nm (object_at m.store nm) name refl

  putr_frozen : (o k v : ℕ) (nm : Name) (ob : Object) (at : ℕ) (b : Bool) → ref_in f o ≡ Some nm → object_at m.store nm ≡ Some ob → place_in (length ob.refs) (int_in f k) ≡ Some at → ob.mutable ≡ b → Agrees (Putr o k v)
  putr_frozen o k v nm ob at false name is place mut = trapped (Putr o k v) traps.Frozen (rw (name, is, place, mut) refl) (rw (name, is, place, mut) refl)
  putr_frozen o k v nm ob at true name is place mut =
      let int : int_in f k ≡ pos at = index_of (length ob.refs) (int_in f k) at place in
      found (Putr o k v) (deeds.Writes nm at (deeds.Reference (ref_in f v))) (access nm false at true false)
      (rw (name, is, place, mut) refl) (rw (name, int) refl) (rw (name, is, place, mut) refl)
      refl ((ob, is, place_within (length ob.refs) (int_in f k) at place), refl)

  putr_place : (o k v : ℕ) (nm : Name) (ob : Object) (pl : Option ℕ) → ref_in f o ≡ Some nm → object_at m.store nm ≡ Some ob → place_in (length ob.refs) (int_in f k) ≡ pl → Agrees (Putr o k v)
  putr_place o k v nm ob None name is place = trapped (Putr o k v) traps.Range (rw (name, is, place) refl) (rw (name, is, place) refl)
  putr_place o k v nm ob (Some at) name is place = putr_frozen o k v nm ob at ob.mutable name is place refl

  putr_object : (o k v : ℕ) (nm : Name) (q : Option Object) → ref_in f o ≡ Some nm → object_at m.store nm ≡ q → Agrees (Putr o k v)
  putr_object o k v nm None name is = trapped (Putr o k v) traps.Nil (rw (name, is) refl) (rw (name, is) refl)
  putr_object o k v nm (Some ob) name is = putr_place o k v nm ob (place_in (length ob.refs) (int_in f k)) name is refl

  putr : (o k v : ℕ) (r : Option Name) → ref_in f o ≡ r → Agrees (Putr o k v)
  putr o k v None name = trapped (Putr o k v) traps.Nil (rw name refl) (rw name refl)
  putr o k v (Some nm) name = putr_object o k v nm (object_at m.store nm) name refl

  puti_frozen : (o k v : ℕ) (nm : Name) (ob : Object) (at : ℕ) (b : Bool) → ref_in f o ≡ Some nm → object_at m.store nm ≡ Some ob → place_in (length ob.ints) (int_in f k) ≡ Some at → ob.mutable ≡ b → Agrees (Puti o k v)
  puti_frozen o k v nm ob at false name is place mut = trapped (Puti o k v) traps.Frozen (rw (name, is, place, mut) refl) (rw (name, is, place, mut) refl)
  puti_frozen o k v nm ob at true name is place mut =
      let int : int_in f k ≡ pos at = index_of (length ob.ints) (int_in f k) at place in
      found (Puti o k v) (deeds.Writes nm (number_place ob at) (deeds.Number (int_in f v))) (access nm true at true false)
      (rw (name, is, place, mut) refl) (rw (name, int) refl) (rw (name, is, place, mut) refl)
      (ap (λ (l : Region). told_access u (record { region = l; kind = PlainWrite }) ∷ []) (number_location nm ob at is)) ((ob, is, place_within (length ob.ints) (int_in f k) at place), refl)

  puti_place : (o k v : ℕ) (nm : Name) (ob : Object) (pl : Option ℕ) → ref_in f o ≡ Some nm → object_at m.store nm ≡ Some ob → place_in (length ob.ints) (int_in f k) ≡ pl → Agrees (Puti o k v)
  puti_place o k v nm ob None name is place = trapped (Puti o k v) traps.Range (rw (name, is, place) refl) (rw (name, is, place) refl)
  puti_place o k v nm ob (Some at) name is place = puti_frozen o k v nm ob at ob.mutable name is place refl

  puti_object : (o k v : ℕ) (nm : Name) (q : Option Object) → ref_in f o ≡ Some nm → object_at m.store nm ≡ q → Agrees (Puti o k v)
  puti_object o k v nm None name is = trapped (Puti o k v) traps.Nil (rw (name, is) refl) (rw (name, is) refl)
  puti_object o k v nm (Some ob) name is = puti_place o k v nm ob (place_in (length ob.ints) (int_in f k)) name is refl

  puti : (o k v : ℕ) (r : Option Name) → ref_in f o ≡ r → Agrees (Puti o k v)
  puti o k v None name = trapped (Puti o k v) traps.Nil (rw name refl) (rw name refl)
  puti o k v (Some nm) name = puti_object o k v nm (object_at m.store nm) name refl

  swap_goes : (b : Bool) (g h : Frame) (store store' : List (List Object)) (a : FieldAccess) → unless_trap (cond b (Goes g store) (Goes h store')) (Some a) ≡ Some a
  swap_goes true g h store store' a = refl
  swap_goes false g h store store' a = refl

  swap_told : (b : Bool) (nm : Name) (at : ℕ) (r : Option Name) → told (Some (deeds.Swaps nm at r b)) ≡ as_told m'.store (access nm false at b true) ∷ []
  swap_told true nm at r = refl
  swap_told false nm at r = refl

  cas_frozen : (d o k e v : ℕ) (nm : Name) (ob : Object) (at : ℕ) (b : Bool) → ref_in f o ≡ Some nm → object_at m.store nm ≡ Some ob → place_in (length ob.refs) (int_in f k) ≡ Some at → ob.mutable ≡ b → Agrees (Cas d o k e v)
  cas_frozen d o k e v nm ob at false name is place mut = trapped (Cas d o k e v) traps.Frozen (rw (name, is, place, mut) refl) (rw (name, is, place, mut) refl)
  cas_frozen d o k e v nm ob at true name is place mut =
      let int : int_in f k ≡ pos at = index_of (length ob.refs) (int_in f k) at place in
      let b : Bool = same_name (reference_in ob at) (ref_in f e) in
      found (Cas d o k e v) (deeds.Swaps nm at (ref_in f v) b) (access nm false at b true)
      (rw (name, is, place, mut) refl) (rw (name, int, is) refl)
      (rw (name, is, place, mut) (swap_goes b _ _ _ _ (access nm false at b true)))
      (swap_told b nm at (ref_in f v)) ((ob, is, place_within (length ob.refs) (int_in f k) at place), refl)

  cas_place : (d o k e v : ℕ) (nm : Name) (ob : Object) (pl : Option ℕ) → ref_in f o ≡ Some nm → object_at m.store nm ≡ Some ob → place_in (length ob.refs) (int_in f k) ≡ pl → Agrees (Cas d o k e v)
  cas_place d o k e v nm ob None name is place = trapped (Cas d o k e v) traps.Range (rw (name, is, place) refl) (rw (name, is, place) refl)
  cas_place d o k e v nm ob (Some at) name is place = cas_frozen d o k e v nm ob at ob.mutable name is place refl

  cas_object : (d o k e v : ℕ) (nm : Name) (q : Option Object) → ref_in f o ≡ Some nm → object_at m.store nm ≡ q → Agrees (Cas d o k e v)
  cas_object d o k e v nm None name is = trapped (Cas d o k e v) traps.Nil (rw (name, is) refl) (rw (name, is) refl)
  cas_object d o k e v nm (Some ob) name is = cas_place d o k e v nm ob (place_in (length ob.refs) (int_in f k)) name is refl

  cas : (d o k e v : ℕ) (r : Option Name) → ref_in f o ≡ r → Agrees (Cas d o k e v)
  cas d o k e v None name = trapped (Cas d o k e v) traps.Nil (rw name refl) (rw name refl)
  cas d o k e v (Some nm) name = cas_object d o k e v nm (object_at m.store nm) name refl

  pub agrees : (i : Instr) → Agrees i
  agrees (Set d k) = nothing (Set d k) refl refl
  agrees (Mov d a) = nothing (Mov d a) refl refl
  agrees (Movr d a) = nothing (Movr d a) refl refl
  agrees (NilOf d) = nothing (NilOf d) refl refl
  agrees (Calc op d a b) = nothing (Calc op d a b) refl refl
  agrees (Same d a b) = nothing (Same d a b) refl refl
  agrees (Jmp to) = nothing (Jmp to) refl refl
  agrees (Jz a to) = nothing (Jz a to) refl refl
  agrees (Newm d a b) = nothing (Newm d a b) (allocates (counts_in m.field_limit (int_in f a) (int_in f b)) (next_name t m.store)) refl
  agrees (Pack d r i) = nothing (Pack d r i) refl refl
  agrees (Getr d o k) = getr d o k (ref_in f o) refl
  agrees (Geti d o k) = geti d o k (ref_in f o) refl
  agrees (Putr o k v) = putr o k v (ref_in f o) refl
  agrees (Puti o k v) = puti o k v (ref_in f o) refl
  agrees (Cntr d o) = nothing (Cntr d o) (counts (ref_in f o)) refl
  agrees (Cnti d o) = nothing (Cnti d o) (counts (ref_in f o)) refl
  agrees (Freeze o) = nothing (Freeze o) (freezes (λ nm. owner_of m.tasks nm.task == t) (ref_in f o)) refl
  agrees (Cas d o k e v) = cas d o k e v (ref_in f o) refl
  agrees (Call g) = nothing (Call g) refl refl
  agrees (Par g h) = nothing (Par g h) refl refl
  agrees Ret = nothing Ret refl refl
  agrees (Out a) = nothing (Out a) refl refl
