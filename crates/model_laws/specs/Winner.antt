-- One winner of compare and swap: of the tasks that try to set a nil field, the first succeeds.
use Rattle.std.specs.Prelude.{◌≡◌, ℕ, ℤ, pos, ◌+◌, ◌<◌, ◌≤◌, true, Option, Some, None, List, length, slice_get}
use Rattle.hh_lang.specs.declared.instr.Instr.TheVariants.{Putr, Cas}
use Rattle.hh_lang.specs.declared.program.Line.{Line}
use Rattle.hh_lang.specs.Form.{ProgramText}
use Rattle.hh_model.specs.declared.data.Name.{Name}
use Rattle.hh_model.specs.declared.data.Object.{Object}
use Rattle.hh_model.specs.declared.data.Frame.{Frame}
use Rattle.hh_model.specs.declared.data.Task.{Task}
use Rattle.hh_model.specs.declared.data.MachineState.{MachineState}
use Rattle.hh_model.specs.Effect.{int_in, ref_in, with_int, onward, object_at}
use Rattle.hh_model.specs.Store.{IsNext}
pub use Rattle.model_laws.specs.Turns.{after, IsTurn}

-- a reference field: its object, and its index among the object's reference fields
pub record FieldPlace : Type 0 where
  pub object : Name
  pub index : ℕ

-- in this state the field is there and holds this reference
pub record FieldHolds (m : MachineState) (field : FieldPlace) (r : Option Name) : Type 0 where
  pub object : Object
  pub is : object_at m.store field.object ≡ Some object
  pub value : slice_get object.refs field.index ≡ Some r

-- two registers of a frame name the field, and it may be written: so a putr or cas there doesn't trap
pub record MayWrite (m : MachineState) (f : Frame) (o k : ℕ) (field : FieldPlace) : Type 0 where
  pub name : ref_in f o ≡ Some field.object
  pub index : int_in f k ≡ pos field.index
  pub object : Object
  pub is : object_at m.store field.object ≡ Some object
  pub within : field.index < length object.refs
  pub mutable : object.mutable ≡ true

module _ (p : ProgramText) (limit : ℕ) (ts : List ℕ) where
  -- that step is a putr on the field, without a trap
  pub record IsPutr (field : FieldPlace) (i : ℕ) : Type 0 where
    pub t : ℕ
    pub task : Task
    pub line : Line
    pub object : ℕ
    pub index : ℕ
    pub value : ℕ
    pub turn : IsTurn p limit ts i t
    pub next : IsNext p (after p limit ts i) t task line
    pub instr : line.instr ≡ Putr object index value
    pub writes : MayWrite (after p limit ts i) task.top object index field

  -- that step is a cas on the field, without a trap
  pub record IsCas (field : FieldPlace) (i : ℕ) : Type 0 where
    pub t : ℕ
    pub task : Task
    pub line : Line
    pub target : ℕ
    pub object : ℕ
    pub index : ℕ
    pub expected : ℕ
    pub value : ℕ
    pub turn : IsTurn p limit ts i t
    pub next : IsNext p (after p limit ts i) t task line
    pub instr : line.instr ≡ Cas target object index expected value
    pub writes : MayWrite (after p limit ts i) task.top object index field

  module _ (field : FieldPlace) (i : ℕ) (c : IsCas field i) where
    -- what a cas expects, and what it stores: its registers before the step
    abbrev pub expects : Option Name
    expects = ref_in c.task.top c.expected

    abbrev pub brings : Option Name
    brings = ref_in c.task.top c.value

    -- it yields this number: its task continues with the number in the target register
    abbrev pub Yields : ℤ → Type 0
    Yields y = slice_get (after p limit ts (i + 1)).tasks c.t ≡ Some (record c.task { top = onward (with_int c.task.top c.target y) })

  -- no putr is taken on the field, and each cas on it expects nil and stores an object
  pub record OnlyFromNil (field : FieldPlace) : Type 0 where
    pub no_putr : (i : ℕ) → IsPutr field i → ⊥
    pub from_nil : (i : ℕ) (c : IsCas field i) → expects field i c ≡ None
    pub to_object : (i : ℕ) (c : IsCas field i) → (n : Name) × (brings field i c ≡ Some n)

  -- no cas was taken on the field in the first i steps
  abbrev pub IsUntried : FieldPlace → ℕ → Type 0
  IsUntried field i = (j : ℕ) → IsCas field j → i ≤ j

  pub record HasOneWinner (field : FieldPlace) : Type 0 where
    -- the field of an object that is or was mutable (so a newm made it) is nil until the first cas on it
    pub nil_at_first : (i h : ℕ) (o : Object) (r : Option Name) → IsUntried field i → object_at (after p limit ts h).store field.object ≡ Some o → o.mutable ≡ true → FieldHolds (after p limit ts i) field r → r ≡ None
    -- the first cas yields 1
    pub first_wins : (i : ℕ) (c : IsCas field i) → IsUntried field i → Yields field i c (pos 1)
    -- each other one yields 0
    pub others_lose : (i j : ℕ) (c : IsCas field i) (d : IsCas field j) → IsUntried field i → i < j → Yields field j d (pos 0)
    -- from the first one on the field holds what that one stored
    pub keeps : (i j : ℕ) (c : IsCas field i) → IsUntried field i → i < j → FieldHolds (after p limit ts j) field (brings field i c)

-- ONE WINNER: for every list of steps and every reference field that no putr writes, and that each cas tries to set
-- from nil to an object
abbrev pub OneWinner : Type 0
OneWinner = (p : ProgramText) (limit : ℕ) (ts : List ℕ) (field : FieldPlace) → OnlyFromNil p limit ts field → HasOneWinner p limit ts field

-- SOME CAS WINS: the law isn't vacuous. There is a run in which no putr is taken on a field, and each cas on it tries
-- to set it from nil to an object, with two of them, by two tasks: the first yields 1 and the second 0
abbrev pub SomeCasWins : Type 0
SomeCasWins =
    (p : ProgramText) × (limit : ℕ) × (ts : List ℕ) × (field : FieldPlace) × OnlyFromNil p limit ts field × (i : ℕ) × (j : ℕ) × (c : IsCas p limit ts field i) × (d : IsCas p limit ts field j)
    × IsUntried p limit ts field i × (i < j) × (c.t ≡ d.t → ⊥) × Yields p limit ts field i c (pos 1) × Yields p limit ts field j d (pos 0)
