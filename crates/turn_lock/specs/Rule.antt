-- The invariant between any two steps of a turn, and what each step guarantees.
use Rattle.std.specs.Prelude.{◌≡◌, ◌≢◌, ◌⊎◌, ℕ, ◌+◌, ◌-◌, ◌*◌, ◌/◌, ◌%◌, ◌<◌, ◌≤◌, true, false, List, [], ◌∷◌, ◌++◌, length, slice_index, Option, Some, None}
use mathlib.Core.Option.{some}
use lib.ListN.{get_elem?}
use Rattle.atomic_table.specs.Table.{State, Me, Step}
use Rattle.turn_lock.specs.declared.view.SeatView.{SeatView}
use Rattle.turn_lock.specs.Journal.{NoneBy, AllBelow}
use Rattle.turn_lock.specs.Seats.{Knows, with_looked, with_taken, with_given}

module _ {T E P S : Type 0} where
  -- worker 0's view after a seat was split from its
  abbrev pub with_seat_more : SeatView T E P S → SeatView T E P S
  with_seat_more v = record v { count = v.count + 1 }

  -- the view of the seat that was split
  abbrev pub split_view : SeatView T E P S → SeatView T E P S
  split_view v = record { live = true; worker = v.count; setup = v.setup; looked = 0; seen = v.seen; given = None; part = None; taken = None; count = 0; joined = [] }

  -- worker 0's view after a seat was joined with its
  abbrev pub with_joined : SeatView T E P S → SeatView T E P S → SeatView T E P S
  with_joined v w = record v { count = v.count - 1; joined = (w.worker, w.seen) ∷ v.joined }

  -- the view of the seat that was joined
  abbrev pub spent_view : SeatView T E P S
  spent_view = record { live = false; worker = 0; setup = None; looked = 0; seen = []; given = None; part = None; taken = None; count = 0; joined = [] }

  -- the live views have the numbers below the count, each once
  pub record Numbered (views : List (SeatView T E P S)) : Type 0 where
    pub once : (i j : ℕ) (v w : SeatView T E P S) → get_elem? views i ≡ some v → get_elem? views j ≡ some w → v.live ≡ true → w.live ≡ true → v.worker ≡ w.worker → i ≡ j
    pub counted : (i j : ℕ) (v w : SeatView T E P S) → get_elem? views i ≡ some v → get_elem? views j ≡ some w → v.live ≡ true → w.live ≡ true → v.worker ≡ 0 → w.worker < v.count
    pub each : (i n : ℕ) (v : SeatView T E P S) → get_elem? views i ≡ some v → v.live ≡ true → v.worker ≡ 0 → n < v.count
        → (j : ℕ) × (w : SeatView T E P S) × (get_elem? views j ≡ some w) × (w.live ≡ true) × (w.worker ≡ n)

module _ {T E P S : Type 0} (journal : T → List E) (worker_of : E → ℕ) (fits : T → ℕ → P → Type 0) (setup : T → S) where
  -- what a live view knows of the value
  pub record Sees (value : T) (v : SeatView T E P S) : Type 0 where
    pub known : Knows journal worker_of fits setup value v
    -- before the first join, worker 0 knows of all workers
    pub below : v.worker ≡ 0 → v.joined ≡ [] → AllBelow worker_of v.count known.rest
    -- worker 0 keeps what a joined seat had seen, whose worker makes no more entries
    pub joined : (i k : ℕ) (l : List E) → get_elem? v.joined i ≡ some (k, l) → (v.worker ≡ 0) × (v.count ≤ k) × (more : List E) × (journal value ≡ l ++ more) × NoneBy worker_of k more

  -- this seat, or one that was joined with it, has seen the whole journal
  abbrev pub HasAll : T → SeatView T E P S → Type 0
  HasAll value v = (v.seen ≡ journal value) ⊎ ((i : ℕ) × (k : ℕ) × (l : List E) × (get_elem? v.joined i ≡ some (k, l)) × (l ≡ journal value))

  -- nobody has the turn, the word is twice the number of entries, and the value is in its slot
  abbrev pub IsFree : State (Option T) (SeatView T E P S) → T → Type 0
  IsFree s value = (slice_index s.words 0 ≡ 2 * length (journal value)) × (get_elem? s.homes 0 ≡ some (some (Some value)))
      × ((i : ℕ) (v : SeatView T E P S) → get_elem? s.views i ≡ some v → v.taken ≡ None)

  -- one seat has the turn and took the value, and the word is twice the number of entries plus one
  abbrev pub IsTaken : State (Option T) (SeatView T E P S) → T → Type 0
  IsTaken s value = (slice_index s.words 0 ≡ 2 * length (journal value) + 1)
      × (h : ℕ) × (v : SeatView T E P S) × (get_elem? s.views h ≡ some v) × (v.live ≡ true) × (v.taken ≡ Some value)
      × ((i : ℕ) (w : SeatView T E P S) → get_elem? s.views i ≡ some w → i ≢ h → w.taken ≡ None)

  pub record Turning (s : State (Option T) (SeatView T E P S)) : Type 0 where
    -- the value in the slot, or the one that was taken
    pub value : T
    pub wide : length s.words ≡ 1
    pub turn : IsFree s value ⊎ IsTaken s value
    pub knows : (i : ℕ) (v : SeatView T E P S) → get_elem? s.views i ≡ some v → v.live ≡ true → Sees value v
    -- somebody has seen the whole journal
    pub whole : (i : ℕ) × (v : SeatView T E P S) × (get_elem? s.views i ≡ some v) × (v.live ≡ true) × HasAll value v
    pub seats : Numbered s.views

  -- the word read was even: the seat has the turn, and knows of the value. Otherwise nothing changes
  abbrev pub takes : Step (Option T) → Me (Option T) (SeatView T E P S) → ℕ → Me (Option T) (SeatView T E P S) → Type 0
  takes st m r m' = (r % 2 ≡ 0 → (value : T) × Knows journal worker_of fits setup value m.0 × (m' ≡ (with_taken m.0 value, (0, Some value) ∷ []))) × (r % 2 ≢ 0 → m' ≡ m)

  -- the value is put back with one more entry, and the seat knew of the value that it took
  abbrev pub gives : Option P → Step (Option T) → Me (Option T) (SeatView T E P S) → ℕ → Me (Option T) (SeatView T E P S) → Type 0
  gives part st m r m' = ((x : T) → m.1 ≡ (0, Some x) ∷ [] → m' ≡ (with_given m.0 x (journal x) part, []))
      × ((taken : T) → m.0.taken ≡ Some taken → Knows journal worker_of fits setup taken m.0)

  -- the value is put back as it was taken
  abbrev pub returns : Step (Option T) → Me (Option T) (SeatView T E P S) → ℕ → Me (Option T) (SeatView T E P S) → Type 0
  returns st m r m' = ((x : T) → m.1 ≡ (0, Some x) ∷ [] → m' ≡ (with_given m.0 x (journal x) m.0.part, []))
      × ((taken : T) → m.0.taken ≡ Some taken → Knows journal worker_of fits setup taken m.0)

module _ {T E P S : Type 0} where
  -- the number of entries is half the word, and not below what the seat knew
  abbrev pub looks : Step (Option T) → Me (Option T) (SeatView T E P S) → ℕ → Me (Option T) (SeatView T E P S) → Type 0
  looks st m r m' = (m' ≡ (with_looked m.0 (r / 2), m.1)) × (length m.0.seen ≤ r / 2) × (m.0.looked ≤ r / 2)
