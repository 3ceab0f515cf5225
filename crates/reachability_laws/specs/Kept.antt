-- What collections keep, in terms of reachability.
use Rattle.std.specs.Prelude.{◌≡◌, ◌⊎◌, ◌↔◌, ℕ, true, List, [], ◌∷◌, ◌++◌, slice_get, Contains}
use Rattle.hh_lang.specs.Form.{ProgramText}
use Rattle.walk_laws.specs.Reached.{IsReached}
use Rattle.hh_model.specs.declared.data.Name.{Name}
use Rattle.hh_model.specs.Names.{registers}
use Rattle.hh_model.specs.Step.{owner_of}
use Rattle.run_trace.specs.declared.entry.Kind.TheVariants.{Ran, Begin, End, Sweep}
use Rattle.run_trace.specs.Entry.{EntryValue}
use Rattle.run_trace.specs.Settings.{SettingsValue}
use Rattle.run_ledger.specs.declared.data.Ledger.{Ledger}
use Rattle.run_ledger.specs.Heaps.{frames_of, heap_of, held, held_in, is_proper_ancestor}
use Rattle.run_ledger.specs.Journals.{is_legal, ledger_of}
use Rattle.run_ledger.specs.Laws.{Refers}
use Rattle.journal_laws.specs.Frozen.{HasNone, begins, is_of_steps}

-- ROOTS

-- a register of one of the task's frames holds the name
abbrev pub IsInFrames : Ledger → ℕ → Name → Type 0
IsInFrames l t n = Contains (registers (frames_of (slice_get l.machine.tasks t))) n

-- an object in the heap of an ancestor refers to it, whether or not that object is reachable itself
pub record IsFromAbove (l : Ledger) (t : ℕ) (n : Name) : Type 0 where
  pub object : Name
  pub held_is : Contains (held l) object
  pub above : is_proper_ancestor l.machine.tasks (owner_of l.machine.tasks object.task) t ≡ true
  pub refers : Refers l.machine object n

abbrev pub IsRoot : Ledger → ℕ → Name → Type 0
IsRoot l t n = IsInFrames l t n ⊎ IsFromAbove l t n

-- WALKS

-- the heap of t holds the name
abbrev pub HeapHolds : Ledger → ℕ → Name → Type 0
HeapHolds l t n = Contains (held_in (heap_of l t)) n

-- a walk along references leads from a root to the name, through objects that t's heap holds
abbrev pub IsReachedIn : Ledger → ℕ → Name → Type 0
IsReachedIn l t n = IsReached (λ m. HeapHolds l t m × IsRoot l t m) (λ m k. HeapHolds l t k × Refers l.machine m k) n

-- of what t's heap holds before an entry, it holds after it exactly what was reachable at an earlier moment
abbrev pub KeepsReached : Ledger → Ledger → Ledger → ℕ → Type 0
KeepsReached earlier before after t = (n : Name) → HeapHolds after t n ↔ (HeapHolds before t n × IsReachedIn earlier t n)

-- LEAF COLLECTIONS

-- the last of these entries that began a leaf collection of t came after the first ones
pub record BeganAfter (journal : List EntryValue) (t : ℕ) (first : List EntryValue) : Type 0 where
  pub worker : ℕ
  pub rest : List EntryValue
  pub is : journal ≡ first ++ record { worker = worker; kind = Begin t } ∷ rest
  pub last : HasNone (begins t) rest

-- an entry that ends a leaf collection: its heap keeps what was reachable just before the collection began
abbrev pub LeafCollectionsKeepReached : Type 0
LeafCollectionsKeepReached =
    (p : ProgramText) (s : SettingsValue) (journal : List EntryValue) (w t taken given left : ℕ)
    → let whole = journal ++ record { worker = w; kind = End t taken given left } ∷ [] in is_legal p s whole ≡ true
    → (first : List EntryValue) × BeganAfter journal t first × KeepsReached (ledger_of p s first) (ledger_of p s journal) (ledger_of p s whole) t

-- SWEEPS

-- the last of these entries of steps of t, which has waited since, is the last of the first ones
pub record ForkedAt (journal : List EntryValue) (t : ℕ) (first : List EntryValue) : Type 0 where
  pub before : List EntryValue
  pub worker : ℕ
  pub steps : ℕ
  pub rest : List EntryValue
  pub first_is : first ≡ before ++ record { worker = worker; kind = Ran t steps } ∷ []
  pub is : journal ≡ before ++ record { worker = worker; kind = Ran t steps } ∷ rest
  pub last : HasNone (is_of_steps t) rest

-- an entry that sweeps: its heap keeps what was reachable just after the fork on which its task waits
abbrev pub SweepsKeepReached : Type 0
SweepsKeepReached =
    (p : ProgramText) (s : SettingsValue) (journal : List EntryValue) (w t given : ℕ)
    → let whole = journal ++ record { worker = w; kind = Sweep t given } ∷ [] in is_legal p s whole ≡ true
    → (first : List EntryValue) × ForkedAt journal t first × KeepsReached (ledger_of p s first) (ledger_of p s journal) (ledger_of p s whole) t
