-- The seats of a turn: what each knows, and what the calls require and ensure.
use Rattle.std.specs.Prelude.{zero, suc, slice_get, ◌≡◌, ◌≢◌, ℕ, ◌^◌, ◌<◌, ◌≤◌, true, List, [], ◌∷◌, ◌++◌, length, Option, Some, None}
use Rattle.atomic_table.specs.Seated.{TableId}
use Rattle.atomic_table.specs.declared.shared.Seat.{Seat}
use Rattle.turn_lock.specs.declared.view.SeatView.{SeatView}
use Rattle.turn_lock.specs.Journal.{NoneBy, entries_by}

-- worker 0 knows how many seats there are
abbrev pub count_for : ℕ → ℕ → ℕ
count_for zero n = n
count_for (suc k) n = 0

module _ {T E P S : Type 0} where
  -- what the seat knows
  abbrev pub view : Seat (Option T) (SeatView T E P S) → SeatView T E P S
  view s = s.me.0

  -- the entries of its own worker that the seat has seen
  abbrev pub own_entries : (E → ℕ) → SeatView T E P S → List E
  own_entries worker_of v = entries_by worker_of v.worker v.seen

  -- after a look that gave n
  abbrev pub with_looked : SeatView T E P S → ℕ → SeatView T E P S
  with_looked v n = record v { looked = n }

  -- after the turn was taken, with this value
  abbrev pub with_taken : SeatView T E P S → T → SeatView T E P S
  with_taken v value = record v { taken = Some value }

  -- after this value was given back, with this journal, while the worker keeps this part
  abbrev pub with_given : SeatView T E P S → T → List E → Option P → SeatView T E P S
  with_given v value journal part = record v { seen = journal; given = Some value; part = part; taken = None }

  -- a seat of the turn z that was not joined with another
  abbrev pub IsSeatOf : TableId → Seat (Option T) (SeatView T E P S) → Type 0
  IsSeatOf z s = (s.table_id ≡ z) × ((view s).live ≡ true)

  abbrev pub HasNoTurn : TableId → Seat (Option T) (SeatView T E P S) → Type 0
  HasNoTurn z s = IsSeatOf z s × ((view s).taken ≡ None) × (s.me.1 ≡ [])

  -- the seat has the turn, and took this value
  abbrev pub HasTurn : TableId → Seat (Option T) (SeatView T E P S) → T → Type 0
  HasTurn z s value = IsSeatOf z s × ((view s).taken ≡ Some value) × (s.me.1 ≡ (0, None) ∷ [])

  -- it is one worker's view before and after a call
  pub record SameWorker (v w : SeatView T E P S) : Type 0 where
    pub live : w.live ≡ v.live
    pub worker : w.worker ≡ v.worker
    pub setup : w.setup ≡ v.setup
    pub count : w.count ≡ v.count
    pub joined : w.joined ≡ v.joined

  -- the view of worker 0 alone, if the turn begins with this value
  abbrev pub opening_view : (T → List E) → (T → S) → T → SeatView T E P S
  opening_view journal setup value = record { live = true; worker = 0; setup = Some (setup value); looked = 0; seen = journal value; given = None; part = None; taken = None; count = 1; joined = [] }

  -- the view of worker k of n, if the first seat's began as v
  abbrev pub newcomer : SeatView T E P S → ℕ → ℕ → SeatView T E P S
  newcomer v k n = record v { worker = k; count = count_for k n }

  -- the seats of a new turn, in order of the workers
  abbrev pub AreNewSeats : TableId → SeatView T E P S → ℕ → List (Seat (Option T) (SeatView T E P S)) → Type 0
  AreNewSeats z v n seats = (length seats ≡ n)
      × ((k : ℕ) (s : Seat (Option T) (SeatView T E P S)) → slice_get seats k ≡ Some s → HasNoTurn z s × (view s ≡ newcomer v k n))

  -- all seats of a turn, none with the turn, in order of the workers
  pub record AreAllSeats (z : TableId) (seats : List (Seat (Option T) (SeatView T E P S))) : Type 0 where
    pub some_seat : 0 < length seats
    pub each_seat : (k : ℕ) (s : Seat (Option T) (SeatView T E P S)) → slice_get seats k ≡ Some s → HasNoTurn z s × ((view s).worker ≡ k)
    pub first_seat : (s : Seat (Option T) (SeatView T E P S)) → slice_get seats 0 ≡ Some s → ((view s).count ≡ length seats) × ((view s).joined ≡ [])

  -- the journal ends with one entry, by which the seat's own entries grew
  pub record GaveOne (worker_of : E → ℕ) (journal : List E) (v w : SeatView T E P S) : Type 0 where
    pub before : List E
    pub entry : E
    pub last : journal ≡ before ++ entry ∷ []
    pub own : own_entries worker_of w ≡ own_entries worker_of v ++ entry ∷ []

module _ {T E P S : Type 0} (journal : T → List E) (worker_of : E → ℕ) (fits : T → ℕ → P → Type 0) (setup : T → S) where
  -- what a seat knows of the value: its journal begins with all that the seat has seen, followed by entries of others,
  -- and the worker's part fits
  pub record Knows (value : T) (v : SeatView T E P S) : Type 0 where
    pub rest : List E
    pub begins : journal value ≡ v.seen ++ rest
    pub others : NoneBy worker_of v.worker rest
    pub looked : v.looked ≤ length (journal value)
    pub part : (p : P) → v.part ≡ Some p → fits value v.worker p
    pub setup_is : v.setup ≡ Some (setup value)

  -- the value has one more entry, by this worker, and the other workers' parts still fit
  pub record Extends (taken value : T) (worker : ℕ) : Type 0 where
    pub entry : E
    pub longer : journal value ≡ journal taken ++ entry ∷ []
    pub by_worker : worker_of entry ≡ worker
    pub others_fit : (w : ℕ) (p : P) → w ≢ worker → fits taken w p → fits value w p
    pub same_setup : setup value ≡ setup taken
    pub short : length (journal value) < 2 ^ 63

  -- journal, fitting parts and setup are as taken
  pub record IsAlike (taken value : T) : Type 0 where
    pub same_journal : journal value ≡ journal taken
    pub fit : (w : ℕ) (p : P) → fits taken w p → fits value w p
    pub same_setup : setup value ≡ setup taken

  -- the value has the longest journal that a seat has seen; each seat has seen a prefix of it, after which no entry is
  -- its worker's
  pub record IsFinalFor (value : T) (seats : List (Seat (Option T) (SeatView T E P S))) : Type 0 where
    pub begins : (k : ℕ) (s : Seat (Option T) (SeatView T E P S)) → slice_get seats k ≡ Some s
        → (rest : List E) × (journal value ≡ (view s).seen ++ rest) × NoneBy worker_of k rest
    pub longest : (k : ℕ) × (s : Seat (Option T) (SeatView T E P S)) × (slice_get seats k ≡ Some s) × ((view s).seen ≡ journal value)
    pub same_setup : (s : Seat (Option T) (SeatView T E P S)) → slice_get seats 0 ≡ Some s → (view s).setup ≡ Some (setup value)

  -- the entries of worker k are those of its own that seat k has seen
  abbrev pub HasOwnEntries : T → List (Seat (Option T) (SeatView T E P S)) → Type 0
  HasOwnEntries value seats = (k : ℕ) (s : Seat (Option T) (SeatView T E P S)) → slice_get seats k ≡ Some s
      → entries_by worker_of k (journal value) ≡ own_entries worker_of (view s)
