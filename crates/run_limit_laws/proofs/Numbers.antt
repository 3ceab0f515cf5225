-- The act that a step is told as is within the limits.
use Rattle.run_limit_laws.proofs.Common.{◌≡◌, ◌<◌, ◌≤◌, ◌+◌, ℕ, Bool, true, false, cond, Option, Some, None, IfSome, length, refl, subst, arith, ◌==◌, object_at, int_in, ref_in, place_in, counts_in, same_name, next_name, owner_of, IsStored, NamesAreStoredIn, Frame, MachineState, Name, Object, at_in, IsLogNumber, IsAct, IsLogPlace, IsLogReference, AccessKind, access, block_of, field_count, location, reference, swap_kind, target_of, act_of_deed, In, contains_from_in, Instr, Set, Mov, Movr, Nil as NilOf, Calc, Same, Jmp, Jz, Newm, Pack, Getr, Geti, Putr, Puti, Cntr, Cnti, Freeze, Cas, Call, Par, Ret, Out, place_within, Deed, deed, if_there, number_in, number_place, reference_in}
use Rattle.run_turn_laws.specs.below.run_deltas as deeds

-- what is there
pub there_is : {A B : Type 0} (o : Option A) (go : A → Option B) (b : B) → if_there o go ≡ Some b → (x : A) × (o ≡ Some x) × (go x ≡ Some b)
there_is None go b e = absurd cc
there_is (Some x) go b e = (x, refl, e)

pub same_deed : (c d : Deed) → Some c ≡ Some d → c ≡ d
same_deed c d e = cc

pub unfrozen : (b : Bool) (c d : Deed) → cond b (Some c) None ≡ Some d → c ≡ d
unfrozen true c d e = cc
unfrozen false c d e = absurd cc

-- what a step does in the states before and after it
module _ (m m' : MachineState) (t : ℕ) (f : Frame) (line : ℕ) (names : NamesAreStoredIn m)
    (stored : (n : Name) → IsStored m n → IsLogNumber (block_of n)) (made : IsLogNumber (block_of (next_name t m.store)))
    (size : (n : Name) → field_count (object_at m'.store n) ≤ 1000000) (few : (n : Name) (o : Object) → object_at m.store n ≡ Some o → length o.refs + length o.ints ≤ 1000000)
    (held : (r : Name) → In f.refs (Some r) → IsStored m r) (numbered : IsLogNumber line) where
  abbrev Fits : Deed → Type 0
  Fits d = IfSome (act_of_deed m' line d) IsAct

  place_fits : (n : Name) (at : ℕ) → IsStored m n → at < 1000000 → IsLogPlace (location n at)
  place_fits n at s lt = record {
    block = stored n s;
    offset = omega (arith, lt);
    length = omega arith;
    runs = omega arith;
    apart = omega arith;
    few = omega arith;
    within = omega (arith, lt);
    distinct = omega arith;
  }

  access_fits : (kind : AccessKind) (n : Name) (at : ℕ) → IsStored m n → at < 1000000 → IsAct (access kind n at line)
  access_fits kind n at s lt = record { place = place_fits n at s lt; site = numbered }

  target_fits : (r : Option Name) → ((n : Name) → r ≡ Some n → IsStored m n) → IsLogNumber (target_of r)
  target_fits None h = omega arith
  target_fits (Some n) h = stored n (h n refl)

  reference_fits : (n : Name) (at : ℕ) (r : Option Name) → IsStored m n → at < 1000000 → ((q : Name) → r ≡ Some q → IsStored m q) → IsLogReference (reference n at r line)
  reference_fits n at r s lt h = record { block = stored n s; offset = omega (arith, lt); target = target_fits r h; site = numbered }

  -- what registers and fields hold is in the store
  held_in : (v : ℕ) (r : Name) → ref_in f v ≡ Some r → IsStored m r
  held_in v r e = held r (at_in f.refs v r e)

  field_in : (n : Name) (x : Object) (at : ℕ) (r : Name) → object_at m.store n ≡ Some x → reference_in x at ≡ Some r → IsStored m r
  field_in n x at r is e = names.in_fields n r x is (contains_from_in x.refs (Some r) (at_in x.refs at r e))

  made_fits : (d : Deed) → Some (deeds.Allocates (next_name t m.store)) ≡ Some d → Fits d
  made_fits d e = subst Fits (same_deed (deeds.Allocates (next_name t m.store)) d e) (made, (let s = size (next_name t m.store) in omega (arith, s)))

  made_if_there : (o : Option (ℕ × ℕ)) (d : Deed) → if_there o (λ c. Some (deeds.Allocates (next_name t m.store))) ≡ Some d → Fits d
  made_if_there o d e = let h = there_is o (λ c. Some (deeds.Allocates (next_name t m.store))) d e in made_fits d h.2

  -- a reference field that is accessed
  in_refs : (o k : ℕ) (go : Name → Object → ℕ → Option Deed) (d : Deed)
      → if_there (ref_in f o) (λ n. if_there (object_at m.store n) (λ x. if_there (place_in (length x.refs) (int_in f k)) (go n x))) ≡ Some d
      → (n : Name) × (x : Object) × (at : ℕ) × (object_at m.store n ≡ Some x) × (at < 1000000) × (go n x at ≡ Some d)
  in_refs o k go d e =
      let a = there_is (ref_in f o) (λ n. if_there (object_at m.store n) (λ x. if_there (place_in (length x.refs) (int_in f k)) (go n x))) d e in
      let b = there_is (object_at m.store a.0) (λ x. if_there (place_in (length x.refs) (int_in f k)) (go a.0 x)) d a.2 in
      let c = there_is (place_in (length b.0.refs) (int_in f k)) (go a.0 b.0) d b.2 in
      (a.0, b.0, c.0, b.1, (let w = place_within (length b.0.refs) (int_in f k) c.0 c.1 in let s = few a.0 b.0 b.1 in omega (arith, w, s)), c.2)

  in_ints : (o k : ℕ) (go : Name → Object → ℕ → Option Deed) (d : Deed)
      → if_there (ref_in f o) (λ n. if_there (object_at m.store n) (λ x. if_there (place_in (length x.ints) (int_in f k)) (go n x))) ≡ Some d
      → (n : Name) × (x : Object) × (at : ℕ) × (object_at m.store n ≡ Some x) × (number_place x at < 1000000) × (go n x at ≡ Some d)
  in_ints o k go d e =
      let a = there_is (ref_in f o) (λ n. if_there (object_at m.store n) (λ x. if_there (place_in (length x.ints) (int_in f k)) (go n x))) d e in
      let b = there_is (object_at m.store a.0) (λ x. if_there (place_in (length x.ints) (int_in f k)) (go a.0 x)) d a.2 in
      let c = there_is (place_in (length b.0.ints) (int_in f k)) (go a.0 b.0) d b.2 in
      (a.0, b.0, c.0, b.1, (let w = place_within (length b.0.ints) (int_in f k) c.0 c.1 in let s = few a.0 b.0 b.1 in omega (arith, w, s)), c.2)

  counted : (o : Option Name) (d : Deed) → if_there o (λ n. if_there (object_at m.store n) (λ x. Some (deeds.Counts n))) ≡ Some d → Fits d
  counted o d e =
      let a = there_is o (λ n. if_there (object_at m.store n) (λ x. Some (deeds.Counts n))) d e in
      let b = there_is (object_at m.store a.0) (λ x. Some (deeds.Counts a.0)) d a.2 in
      subst Fits (same_deed (deeds.Counts a.0) d b.2) tt

  pub deed_fits : (i : Instr) (d : Deed) → deed m t f i ≡ Some d → Fits d
  deed_fits (Set d k) w e = absurd cc
  deed_fits (Mov d a) w e = absurd cc
  deed_fits (Movr d a) w e = absurd cc
  deed_fits (NilOf d) w e = absurd cc
  deed_fits (Calc op d a b) w e = absurd cc
  deed_fits (Same d a b) w e = absurd cc
  deed_fits (Jmp to) w e = absurd cc
  deed_fits (Jz a to) w e = absurd cc
  deed_fits (Newm d a b) w e = made_if_there (counts_in m.field_limit (int_in f a) (int_in f b)) w e
  deed_fits (Pack d r i) w e = made_fits w e
  deed_fits (Getr d o k) w e =
      let h = in_refs o k (λ n x at. Some (deeds.Reads n at (deeds.Reference (reference_in x at)))) w e in
      subst Fits (same_deed (deeds.Reads h.0 h.2 (deeds.Reference (reference_in h.1 h.2))) w h.5) (reference_fits h.0 h.2 (reference_in h.1 h.2) (h.1, h.3) h.4 (λ r q. field_in h.0 h.1 h.2 r h.3 q))
  deed_fits (Geti d o k) w e =
      let h = in_ints o k (λ n x at. Some (deeds.Reads n (number_place x at) (deeds.Number (number_in x at)))) w e in
      subst Fits (same_deed (deeds.Reads h.0 (number_place h.1 h.2) (deeds.Number (number_in h.1 h.2))) w h.5) (access_fits _ h.0 (number_place h.1 h.2) (h.1, h.3) h.4)
  deed_fits (Putr o k v) w e =
      let h = in_refs o k (λ n x at. cond x.mutable (Some (deeds.Writes n at (deeds.Reference (ref_in f v)))) None) w e in
      subst Fits (unfrozen h.1.mutable (deeds.Writes h.0 h.2 (deeds.Reference (ref_in f v))) w h.5) (reference_fits h.0 h.2 (ref_in f v) (h.1, h.3) h.4 (λ r q. held_in v r q))
  deed_fits (Puti o k v) w e =
      let h = in_ints o k (λ n x at. cond x.mutable (Some (deeds.Writes n (number_place x at) (deeds.Number (int_in f v)))) None) w e in
      subst Fits (unfrozen h.1.mutable (deeds.Writes h.0 (number_place h.1 h.2) (deeds.Number (int_in f v))) w h.5) (access_fits _ h.0 (number_place h.1 h.2) (h.1, h.3) h.4)
  deed_fits (Cntr d o) w e = counted (ref_in f o) w e
  deed_fits (Cnti d o) w e = counted (ref_in f o) w e
  deed_fits (Freeze o) w e =
      let a = there_is (ref_in f o) (λ n. if_there (object_at m.store n) (λ x. cond (owner_of m.tasks n.task == t) (Some (deeds.Freezes n)) None)) w e in
      let b = there_is (object_at m.store a.0) (λ x. cond (owner_of m.tasks a.0.task == t) (Some (deeds.Freezes a.0)) None) w a.2 in
      subst Fits (unfrozen (owner_of m.tasks a.0.task == t) (deeds.Freezes a.0) w b.2) tt
  deed_fits (Cas d o k x v) w e =
      let h = in_refs o k (λ n ob at. cond ob.mutable (Some (deeds.Swaps n at (ref_in f v) (same_name (reference_in ob at) (ref_in f x)))) None) w e in
      subst Fits (unfrozen h.1.mutable (deeds.Swaps h.0 h.2 (ref_in f v) (same_name (reference_in h.1 h.2) (ref_in f x))) w h.5) (access_fits (swap_kind (same_name (reference_in h.1 h.2) (ref_in f x))) h.0 h.2 (h.1, h.3) h.4)
  deed_fits (Call g) w e = absurd cc
  deed_fits (Par g h) w e = absurd cc
  deed_fits Ret w e = absurd cc
  deed_fits (Out a) w e = subst Fits (same_deed (deeds.Prints (int_in f a)) w e) tt
