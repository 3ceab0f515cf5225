-- What one instruction does, from its task's view: its top frame, and the store.
use Rattle.std.specs.Prelude.{ℕ, ℤ, pos, negsuc, ◌+◌, ◌==◌, ◌&&◌, Bool, true, false, Option, Some, None, List, [], ◌∷◌, ◌++◌, slice_get, slice_set, length, if◌then◌else◌, nat_lt, nat_le, take, replicate, int_rem, int_lt, unwrap_or}
use Rattle.std.specs.Option.{option_flatten}
use Rattle.std.specs.Int.{int_wrapping_add, int_wrapping_sub, int_wrapping_mul, int_wrapping_div, w64}
use Rattle.hh_model.specs.Common.{Operator, Add, Sub, Mul, Div, Rem, Lt, Eq, Instr, Set, Mov, Movr, Nil as NilOf, Calc, Same, Jmp, Jz, Newm, Pack, Getr, Geti, Putr, Puti, Cntr, Cnti, Freeze, Cas, Call, Par, Ret, Out}
use Rattle.hh_model.specs.declared.data.Name.{Name}
use Rattle.hh_model.specs.declared.data.Strand.{Strand}
use Rattle.hh_model.specs.declared.data.Edge.{Edge}
use Rattle.hh_model.specs.declared.data.Object.{Object}
use Rattle.hh_model.specs.declared.data.Frame.{Frame}
use Rattle.hh_model.specs.declared.data.Trap.{Trap}
use Rattle.hh_model.specs.declared.data.Trap.TheVariants.{Nil, Range, Frozen, Div as DivTrap, Size}
use Rattle.hh_model.specs.Precedence.{precedes}

-- THE STORE: for each task a row of its objects, in order of allocation

abbrev pub row_of : Option (List Object) → List Object
row_of None = []
row_of (Some row) = row

-- the object of a name
abbrev pub object_at : List (List Object) → Name → Option Object
object_at store n = slice_get (row_of (slice_get store n.task)) n.count

-- the store with this object under the name
abbrev pub put_object : List (List Object) → Name → Object → List (List Object)
put_object store n o = slice_set store n.task (slice_set (row_of (slice_get store n.task)) n.count o)

-- REGISTERS: 16 of each kind, so the values for missing registers never occur

-- what a number register holds
abbrev pub int_in : Frame → ℕ → ℤ
int_in f i = unwrap_or (slice_get f.ints i) (pos 0)

-- what a reference register holds
abbrev pub ref_in : Frame → ℕ → Option Name
ref_in f i = option_flatten (slice_get f.refs i)

abbrev pub with_int : Frame → ℕ → ℤ → Frame
with_int f i x = record f { ints = slice_set f.ints i x }

abbrev pub with_ref : Frame → ℕ → Option Name → Frame
with_ref f i r = record f { refs = slice_set f.refs i r }

-- the frame that goes on with the next instruction
abbrev pub onward : Frame → Frame
onward f = record f { next = f.next + 1 }

-- EFFECTS

pub data Effect : Type 0 where
  -- the top frame and the store become these
  Goes : Frame → List (List Object) → Effect
  -- one output
  Prints : ℤ → Effect
  -- a function is called
  Calls : ℕ → Effect
  -- two children start, the left one and the right one
  Forks : ℕ → ℕ → Effect
  -- the top frame returns
  Returns : Effect
  -- the instruction traps
  Traps : Trap → Effect
  -- a read is stopped; it would have yielded this name
  Stops : Name → Effect

-- NUMBERS

abbrev pub int_eq : ℤ → ℤ → Bool
int_eq (pos a) (pos b) = a == b
int_eq (pos a) (negsuc b) = false
int_eq (negsuc a) (pos b) = false
int_eq (negsuc a) (negsuc b) = a == b

abbrev pub flag : Bool → ℤ
flag true = pos 1
flag false = pos 0

-- the result of an operator, or none if it divides by 0. A quotient is rounded toward zero; the least number divided by
-- -1 gives the least number, with remainder 0
abbrev pub calculated : Operator → ℤ → ℤ → Option ℤ
calculated Add x y = Some (int_wrapping_add w64 x y)
calculated Sub x y = Some (int_wrapping_sub w64 x y)
calculated Mul x y = Some (int_wrapping_mul w64 x y)
calculated Div x y = if int_eq y (pos 0) then None else Some (int_wrapping_div w64 x y)
calculated Rem x y = if int_eq y (pos 0) then None else Some (int_rem x y)
calculated Lt x y = Some (flag (int_lt x y))
calculated Eq x y = Some (flag (int_eq x y))

-- two numbers as counts of fields, if neither is negative and their sum is within the limit
abbrev pub counts_in : ℕ → ℤ → ℤ → Option (ℕ × ℕ)
counts_in limit (pos a) (pos b) = if nat_le (a + b) limit then Some (a, b) else None
counts_in limit (pos a) (negsuc b) = None
counts_in limit (negsuc a) b = None

-- a number as an index below the number of fields
abbrev pub place_in : ℕ → ℤ → Option ℕ
place_in count (pos k) = if nat_lt k count then Some k else None
place_in count (negsuc k) = None

-- both nil, or the same object
abbrev pub same_name : Option Name → Option Name → Bool
same_name None None = true
same_name None (Some n) = false
same_name (Some m) None = false
same_name (Some m) (Some n) = (m.task == n.task) && (m.count == n.count)

-- STEPS THAT CAN FAIL

-- goes on with the value, or traps
abbrev pub or_trap : {A : Type 0} → Trap → Option A → (A → Effect) → Effect
or_trap t None go = Traps t
or_trap t (Some x) go = go x

-- goes on with the object of a reference, or traps at nil. By a law, the store has the object of every reference
abbrev pub with_object : List (List Object) → Option Name → (Name → Object → Effect) → Effect
with_object store None go = Traps Nil
with_object store (Some n) go = or_trap Nil (object_at store n) (go n)

abbrev pub unless_frozen : Object → Effect → Effect
unless_frozen o go = if o.mutable then go else Traps Frozen

-- what an instruction sees of its task and of the graph
pub record StepContext : Type 0 where
  pub task : ℕ
  -- the strand of the task
  pub strand : Strand
  -- the most fields that an object may have
  pub field_limit : ℕ
  pub edges : List Edge
  -- who owns what a task allocated
  pub owner : ℕ → ℕ

-- a new object is the last of its task's row, and the register d names it
abbrev pub made : StepContext → Frame → List (List Object) → ℕ → Object → Effect
made s f store d o =
    let row = row_of (slice_get store s.task) in
    Goes (onward (with_ref f d (Some (record { task = s.task; count = length row })))) (slice_set store s.task (row ++ o ∷ []))

-- reads a reference field into the register d: nil always; an object if its strand happens before the reader's,
-- otherwise the read is stopped
abbrev pub read_effect : StepContext → Frame → List (List Object) → ℕ → Option Name → Effect
read_effect s f store d None = Goes (onward (with_ref f d None)) store
read_effect s f store d (Some n) =
    or_trap Nil (object_at store n) (λ o. if precedes s.edges o.strand s.strand then Goes (onward (with_ref f d (Some n))) store else Stops n)

-- a compare and swap at a field of a mutable object: if the field holds what is expected, it gets the new reference and
-- d becomes 1; otherwise d becomes 0
abbrev pub swap_effect : Frame → List (List Object) → ℕ → ℕ → ℕ → Name → ℕ → Object → Effect
swap_effect f store d e v n at x =
    if same_name (option_flatten (slice_get x.refs at)) (ref_in f e)
    then Goes (onward (with_int f d (pos 1))) (put_object store n (record x { refs = slice_set x.refs at (ref_in f v) }))
    else Goes (onward (with_int f d (pos 0))) store

-- what an instruction does; one that can trap for several reasons traps for the first that applies
abbrev pub effect : StepContext → Frame → List (List Object) → Instr → Effect
effect s f store (Set d k) = Goes (onward (with_int f d k)) store
effect s f store (Mov d a) = Goes (onward (with_int f d (int_in f a))) store
effect s f store (Movr d a) = Goes (onward (with_ref f d (ref_in f a))) store
effect s f store (NilOf d) = Goes (onward (with_ref f d None)) store
effect s f store (Calc op d a b) = or_trap DivTrap (calculated op (int_in f a) (int_in f b)) (λ x. Goes (onward (with_int f d x)) store)
effect s f store (Same d a b) = Goes (onward (with_int f d (flag (same_name (ref_in f a) (ref_in f b))))) store
effect s f store (Jmp to) = Goes (record f { next = to }) store
effect s f store (Jz a to) = Goes (if int_eq (int_in f a) (pos 0) then record f { next = to } else onward f) store
-- a new mutable object, its references nil and its numbers 0
effect s f store (Newm d a b) =
    or_trap Size (counts_in s.field_limit (int_in f a) (int_in f b)) (λ n.
    made s f store d (record { strand = s.strand; mutable = true; refs = replicate n.0 None; ints = replicate n.1 (pos 0) }))
-- a new immutable object of the first registers
effect s f store (Pack d r i) = made s f store d (record { strand = s.strand; mutable = false; refs = take r f.refs; ints = take i f.ints })
effect s f store (Getr d o k) =
    with_object store (ref_in f o) (λ n x. or_trap Range (place_in (length x.refs) (int_in f k)) (λ at.
    read_effect s f store d (option_flatten (slice_get x.refs at))))
effect s f store (Geti d o k) =
    with_object store (ref_in f o) (λ n x. or_trap Range (place_in (length x.ints) (int_in f k)) (λ at.
    Goes (onward (with_int f d (unwrap_or (slice_get x.ints at) (pos 0)))) store))
effect s f store (Putr o k v) =
    with_object store (ref_in f o) (λ n x. or_trap Range (place_in (length x.refs) (int_in f k)) (λ at. unless_frozen x (
    Goes (onward f) (put_object store n (record x { refs = slice_set x.refs at (ref_in f v) })))))
effect s f store (Puti o k v) =
    with_object store (ref_in f o) (λ n x. or_trap Range (place_in (length x.ints) (int_in f k)) (λ at. unless_frozen x (
    Goes (onward f) (put_object store n (record x { ints = slice_set x.ints at (int_in f v) })))))
effect s f store (Cntr d o) = with_object store (ref_in f o) (λ n x. Goes (onward (with_int f d (pos (length x.refs)))) store)
effect s f store (Cnti d o) = with_object store (ref_in f o) (λ n x. Goes (onward (with_int f d (pos (length x.ints)))) store)
-- an object that the task owns becomes immutable, or stays so
effect s f store (Freeze o) =
    with_object store (ref_in f o) (λ n x. if s.owner n.task == s.task then Goes (onward f) (put_object store n (record x { mutable = false })) else Traps Frozen)
-- a compare and swap reads into no reference register, so it is never stopped
effect s f store (Cas d o k e v) =
    with_object store (ref_in f o) (λ n x. or_trap Range (place_in (length x.refs) (int_in f k)) (λ at. unless_frozen x (swap_effect f store d e v n at x)))
effect s f store (Call g) = Calls g
effect s f store (Par g h) = Forks g h
effect s f store Ret = Returns
effect s f store (Out a) = Prints (int_in f a)
