-- How an instruction changes the store, by what it does and not by the resulting store.
use Rattle.renaming_laws.proofs.Common.{◌≡◌, ℕ, ℤ, ◌==◌, Bool, true, false, Option, Some, None, List, [], ◌∷◌, ◌++◌, length, slice_get, slice_set, option_flatten, Instr, Getr, Geti, Putr, Puti, Freeze, Cas, Name, Object, Frame, StepContext, int_in, object_at, place_in, ref_in, row_of, same_name, name_to, object_to, ref_to}

-- one object becomes another
pub data Edit : Type 0 where
  SetRef : ℕ → Option Name → Edit
  SetNumber : ℕ → ℤ → Edit
  Freezes : Edit

abbrev pub edited : Edit → Object → Object
edited (SetRef at v) o = record o { refs = slice_set o.refs at v }
edited (SetNumber at k) o = record o { ints = slice_set o.ints at k }
edited Freezes o = record o { mutable = false }

abbrev pub edit_to : (ℕ → ℕ) → Edit → Edit
edit_to f (SetRef at v) = SetRef at (ref_to f v)
edit_to f (SetNumber at k) = SetNumber at k
edit_to f Freezes = Freezes

-- nothing changes, the task has one more object, or an object is edited
pub data Change : Type 0 where
  Same : Change
  Grows : Object → Change
  Edits : Name → Edit → Change

abbrev pub change_to : (ℕ → ℕ) → Change → Change
change_to f Same = Same
change_to f (Grows o) = Grows (object_to f o)
change_to f (Edits n e) = Edits (name_to f n) (edit_to f e)

abbrev pub put_in : List Object → ℕ → Edit → Option Object → List Object
put_in row c e None = row
put_in row c e (Some o) = slice_set row c (edited e o)

abbrev pub edited_row : List Object → ℕ → Edit → List Object
edited_row row c e = put_in row c e (slice_get row c)

abbrev pub changed : Change → ℕ → List (List Object) → List (List Object)
changed Same t store = store
changed (Grows o) t store = slice_set store t (row_of (slice_get store t) ++ o ∷ [])
changed (Edits n e) t store = slice_set store n.task (edited_row (row_of (slice_get store n.task)) n.count e)

-- WHICH FIELD

abbrev pub fields_of : Bool → Object → ℕ
fields_of false o = length o.refs
fields_of true o = length o.ints

module _ (s : StepContext) (x : Frame) (store : List (List Object)) where
  -- two registers name a field that exists; if it is to be written its object is mutable
  pub record Reach (number writes : Bool) (o k : ℕ) (b : Bool) (n : Name) (at : ℕ) : Type 0 where
    pub kind : b ≡ number
    pub name : ref_in x o ≡ Some n
    pub object : Object
    pub is : object_at store n ≡ Some object
    pub place : place_in (fields_of number object) (int_in x k) ≡ Some at
    pub mutable : writes ≡ true → object.mutable ≡ true

  -- the field that an instruction reads or writes
  abbrev pub Reaches : Instr → Bool → Name → ℕ → Type 0
  Reaches (Getr d o k) b n at = Reach false false o k b n at
  Reaches (Geti d o k) b n at = Reach true false o k b n at
  Reaches (Putr o k v) b n at = Reach false true o k b n at
  Reaches (Puti o k v) b n at = Reach true true o k b n at
  Reaches (Cas d o k e v) b n at = Reach false true o k b n at
  Reaches _ b n at = ⊥

  -- the field that it writes
  abbrev pub Writes : Instr → Bool → Name → ℕ → Type 0
  Writes (Putr o k v) b n at = Reach false true o k b n at
  Writes (Puti o k v) b n at = Reach true true o k b n at
  Writes (Cas d o k e v) b n at = (r : Reach false true o k b n at) × (same_name (option_flatten (slice_get r.object.refs at)) (ref_in x e) ≡ true)
  Writes _ b n at = ⊥

  -- the object that it freezes, which the task owns
  abbrev pub FreezesBy : Instr → Name → Type 0
  FreezesBy (Freeze o) n = (ref_in x o ≡ Some n) × ((s.owner n.task == s.task) ≡ true)
  FreezesBy _ n = ⊥

  abbrev pub EditsBy : Instr → Name → Edit → Type 0
  EditsBy instr n (SetRef at v) = Writes instr false n at
  EditsBy instr n (SetNumber at k) = Writes instr true n at
  EditsBy instr n Freezes = FreezesBy instr n

  abbrev pub ChangesBy : Instr → Change → Type 0
  ChangesBy instr Same = Unit {0}
  ChangesBy instr (Grows o) = Unit {0}
  ChangesBy instr (Edits n e) = ((old : Object) × (object_at store n ≡ Some old)) × EditsBy instr n e
