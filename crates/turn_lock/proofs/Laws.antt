-- Laws for users of a turn: a worker's own entries, and all seats at the end.
use Rattle.turn_lock.proofs.Common.{◌≡◌, ℕ, ◌<◌, cond, ◌==◌, ne_eqb, eq-eqb, List, [], ◌∷◌, ◌++◌, length, refl, sym, ap, ◌∙◌, arith, Option, Some, append-nil, slice_get, filter-append, got_within, got_some, TableId, Seat, SeatView, NoneBy, entries_by, Knows, Extends, IsAlike, IsFinalFor, HasOwnEntries, GaveOne, own_entries, view, HasNoTurn, SameWorker, AreNewSeats, AreAllSeats}

last_or : {E : Type 0} → E → List E → E
last_or d [] = d
last_or d (x ∷ []) = x
last_or d (x ∷ y ∷ ys) = last_or d (y ∷ ys)

last_or-append : {E : Type 0} (d : E) (xs : List E) (e : E) → last_or d (xs ++ e ∷ []) ≡ e
unfolding last_or
last_or-append d [] e = refl
last_or-append d (x ∷ []) e = refl
last_or-append d (x ∷ y ∷ ys) e = last_or-append d (y ∷ ys) e

module _ {E : Type 0} (by : E → ℕ) where
  pub none_by-entries_by : (w : ℕ) (es : List E) → NoneBy by w es → entries_by by w es ≡ []
  none_by-entries_by w [] f = refl
  none_by-entries_by w (e ∷ es) f = ap (λ b. cond b (e ∷ entries_by by w es) (entries_by by w es)) (ne_eqb (by e) w f.0) ∙ none_by-entries_by w es f.1

  pub entries_by-append : (w : ℕ) (xs ys : List E) → entries_by by w (xs ++ ys) ≡ entries_by by w xs ++ entries_by by w ys
  entries_by-append w xs ys = filter-append (λ e. by e == w) xs ys

  pub entries_by-own : (w : ℕ) (e : E) → by e ≡ w → entries_by by w (e ∷ []) ≡ e ∷ []
  entries_by-own w e is = ap (λ b. cond b (e ∷ []) []) (eq-eqb (by e) w is)

  pub entries_by-begins : (w : ℕ) (whole seen rest : List E) → whole ≡ seen ++ rest → NoneBy by w rest → entries_by by w whole ≡ entries_by by w seen
  entries_by-begins w whole seen rest e f = ap (entries_by by w) e ∙ (entries_by-append w seen rest ∙ (ap (λ l. entries_by by w seen ++ l) (none_by-entries_by w rest f) ∙ append-nil (entries_by by w seen)))

module _ {T E P S : Type 0} (journal : T → List E) (by : E → ℕ) (fits : T → ℕ → P → Type 0) (setup : T → S) where
  -- the value taken has no entries of this worker except those that it had seen
  pub own_of_taken : (value : T) (v : SeatView T E P S) → Knows journal by fits setup value v → entries_by by v.worker (journal value) ≡ own_entries by v
  own_of_taken value v k = entries_by-begins by v.worker (journal value) v.seen k.rest k.begins k.others

  -- giving back with an entry adds that entry to those of its worker
  pub gave_one : (taken value : T) (v w : SeatView T E P S) → Knows journal by fits setup taken v → Extends journal by fits setup taken value v.worker → w.worker ≡ v.worker → w.seen ≡ journal value → GaveOne by (journal value) v w
  gave_one taken value v w k more same seen = record {
    before = journal taken;
    entry = more.entry;
    last = more.longer;
    own = ap (λ (n : ℕ). entries_by by n w.seen) same ∙ (ap (entries_by by v.worker) (seen ∙ more.longer) ∙ (entries_by-append by v.worker (journal taken) (more.entry ∷ [])
        ∙ (ap (λ l. l ++ entries_by by v.worker (more.entry ∷ [])) (own_of_taken taken v k) ∙ ap (λ l. own_entries by v ++ l) (entries_by-own by v.worker more.entry more.by_worker))));
  }

  -- giving back the same value adds none
  pub gave_none : (taken value : T) (v w : SeatView T E P S) → Knows journal by fits setup taken v → IsAlike journal by fits setup taken value → w.worker ≡ v.worker → w.seen ≡ journal value → own_entries by w ≡ own_entries by v
  gave_none taken value v w k alike same seen = ap (λ (n : ℕ). entries_by by n w.seen) same ∙ (ap (entries_by by v.worker) (seen ∙ alike.same_journal) ∙ own_of_taken taken v k)

  -- the value at the end has no entries of a worker except those that its seat had seen
  pub own_at_end : (z : TableId) (value : T) (seats : List (Seat (Option T) (SeatView T E P S))) → AreAllSeats z seats → IsFinalFor journal by fits setup value seats → HasOwnEntries journal by fits setup value seats
  own_at_end z value seats all left k s at = let b = left.begins k s at in
      entries_by-begins by k (journal value) (view s).seen b.0 b.1 b.2 ∙ ap (λ (n : ℕ). entries_by by n (view s).seen) (sym (all.each_seat k s at).1)

-- a nonempty list has a first element
pub first_there : {A : Type 0} (l : List A) → 0 < length l → (a : A) × (slice_get l 0 ≡ Some a)
first_there l h = got_some l 0 h

module _ {T E P S : Type 0} where
  -- the seats of a new turn are all seats
  pub new_are_all : (z : TableId) (v : SeatView T E P S) (n : ℕ) (seats : List (Seat (Option T) (SeatView T E P S))) → 0 < n → v.joined ≡ [] → AreNewSeats z v n seats → AreAllSeats z seats
  new_are_all z v n seats some none_joined new = record {
    some_seat = (let e = new.0 in omega arith);
    each_seat = λ k s e. let h = new.1 k s e in (h.0, ap (λ (u : SeatView T E P S). u.worker) h.1);
    first_seat = λ s e. let h = new.1 0 s e in (ap (λ (u : SeatView T E P S). u.count) h.1 ∙ sym new.0, ap (λ (u : SeatView T E P S). u.joined) h.1 ∙ none_joined);
  }

  -- all seats after calls each of which left its seat without the turn
  pub kept_are_all : (z : TableId) (before after : List (Seat (Option T) (SeatView T E P S))) → AreAllSeats z before → length after ≡ length before
      → ((k : ℕ) (s t : Seat (Option T) (SeatView T E P S)) → slice_get before k ≡ Some s → slice_get after k ≡ Some t → HasNoTurn z t × SameWorker (view s) (view t)) → AreAllSeats z after
  kept_are_all z before after all long kept = record {
    some_seat = (let h = all.some_seat in omega arith);
    each_seat = λ k t e. let h = got_within after k t e in let s = got_some before k (omega arith) in let same = kept k s.0 t s.1 e in (same.0, same.1.worker ∙ (all.each_seat k s.0 s.1).1);
    first_seat = λ t e. let s = first_there before all.some_seat in let same = (kept 0 s.0 t s.1 e).1 in let f = all.first_seat s.0 s.1 in (same.count ∙ (f.0 ∙ sym long), same.joined ∙ f.1);
  }
