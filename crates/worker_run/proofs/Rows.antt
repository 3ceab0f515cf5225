-- Worker states and their seats.
use Rattle.worker_run.proofs.Common.{◌≡◌, ℕ, zero, suc, ◌<◌, ◌^◌, true, List, [], ◌∷◌, ◌++◌, length, map, take, drop, take_all, drop_of_length-le, slice_get, get_or, remove, sym, ap, ◌∙◌, subst, arith, Option, Some, append_assoc, append-nil, slice_get_within, slice_get-get_or, same_Some, none-some, map-append, length-map, TableId, Seat, got_map, map_got, ProgramText, EntryValue, SettingsValue, is_legal, is_paced, IsSharedValue, SharedValue, accounts, entries_by, view, HasNoTurn, HasOwnEntries, SameWorker, AreNewSeats, AreAllSeats, IsFinalFor, first_there, new_are_all, kept_are_all, removed_first, Run, Setup, Sight, FitsSnapshot, journal_of, setup_of, worker_of, WorkerState, AreAllWorkerStates, AreNewWorkerStates, AreOpened, HasOfEach, HaveSeen, HaveStopped, IsWorkerState, SameWorkerState, entries_of, IsRunOf, WasGivenBack, AllGoRound}

abbrev pub Chair : Type 0 → Type 0
Chair P = Seat (Option (Run P)) (Sight P)

pub first_of : {A : Type 0} (l : List A) (x : A) → 0 < length l → x ≡ get_or l 0 x → slice_get l 0 ≡ Some x
first_of [] x h e = absurd (omega arith)
first_of (y ∷ ys) x h e = ap Some (sym e)

pub rest_of : {A : Type 0} (l : List A) (x : A) → 0 < length l → x ≡ get_or l 0 x → (k : ℕ) (y : A) → slice_get (remove l 0) k ≡ Some y → slice_get l (suc k) ≡ Some y
rest_of [] x h e k y at = absurd (omega arith)
rest_of (z ∷ zs) x h e k y at = at

pub none_new : (P : Type 0) (s : SettingsValue) → AreNewWorkerStates {P = P} s []
none_new P s = λ k d at. absurd (none-some d at)

-- one more at the end
pub all_more : {A : Type 0} (P : ℕ → A → Type 0) (xs : List A) (x : A) → ((k : ℕ) (y : A) → slice_get xs k ≡ Some y → P k y) → P (length xs) x → (k : ℕ) (y : A) → slice_get (xs ++ x ∷ []) k ≡ Some y → P k y
all_more P [] x each last zero y e = subst (P 0) (same_Some x y e) last
all_more P [] x each last (suc k) y e = absurd (none-some y e)
all_more P (z ∷ zs) x each last zero y e = each 0 y e
all_more P (z ∷ zs) x each last (suc k) y e = all_more (λ j. P (suc j)) zs x (λ j w f. each (suc j) w f) last k y e

pub moved_on : {A B : Type 0} (f : A → B) (done : List A) (left : List B) (x : A) (y : B) → f x ≡ y → 0 < length left → y ≡ get_or left 0 y → map f (done ++ x ∷ []) ++ remove left 0 ≡ map f done ++ left
moved_on f done left x y is some first = ap (λ l. l ++ remove left 0) (map-append f done (x ∷ [])) ∙ (append_assoc (map f done) (f x ∷ []) (remove left 0)
    ∙ (ap (λ z. map f done ++ z ∷ remove left 0) is ∙ ap (λ l. map f done ++ l) (sym (removed_first left y some first))))

-- what a borrow of the whole slice leaves
pub whole_written : {A : Type 0} (len : ℕ) (new old : List A) → length new ≡ length old → len ≡ length old → take len (new ++ drop (length new) old) ≡ new
whole_written len new old e is = ap (λ l. take len (new ++ l)) (drop_of_length-le old (omega arith)) ∙ (ap (take len) (append-nil new) ∙ take_all len new (omega arith))

module _ {P : Type 0} where
  abbrev seat_of : WorkerState P → Chair P
  seat_of d = d.seat

  -- all worker states after calls each of which kept its own valid
  pub kept_worker_states : (z : TableId) (p : ProgramText) (s : SettingsValue) (before after : List (WorkerState P)) → AreAllWorkerStates z p s before → length after ≡ length before
      → ((k : ℕ) (d e : WorkerState P) → slice_get before k ≡ Some d → slice_get after k ≡ Some e → IsWorkerState z p e × SameWorkerState d e) → AreAllWorkerStates z p s after
  kept_worker_states z p s before after all long kept = record {
    count = long ∙ all.count;
    seats = kept_are_all z (map seat_of before) (map seat_of after) all.seats (length-map after seat_of ∙ (long ∙ sym (length-map before seat_of)))
        (λ k x y at to. let d = map_got seat_of before k x at in let e = map_got seat_of after k y to in let one = kept k d.0 e.0 d.1 e.1 in
        (subst (HasNoTurn z) e.2 one.0.idle, subst (λ (t : Chair P). SameWorkerOf x t) e.2 (subst (λ (t : Chair P). SameWorkerOf t e.0.seat) d.2 one.1.seat)));
    each_worker_state = λ k e at. let h = slice_get_within after k e at in let d = slice_get-get_or before k e (omega arith) in let one = kept k (get_or before k e) e d at in
        (one.0, one.1.worker ∙ (all.each_worker_state k (get_or before k e) d).1, one.1.settings ∙ (all.each_worker_state k (get_or before k e) d).2);
  }
    where
      SameWorkerOf : Chair P → Chair P → Type 0
      SameWorkerOf x t = SameWorker (view x) (view t)

  -- all worker states after calls on a borrow of the whole slice that keep them valid
  pub lent_worker_states : (z : TableId) (p : ProgramText) (s : SettingsValue) (len : ℕ) (opened lent after : List (WorkerState P)) → lent ≡ opened → length after ≡ length opened → len ≡ length opened → AreAllWorkerStates z p s opened
      → ((t : SettingsValue) → AreAllWorkerStates z p t lent → AreAllWorkerStates z p t after) → AreAllWorkerStates z p s after × AreAllWorkerStates z p s (take len (after ++ drop (length after) opened))
  lent_worker_states z p s len opened lent after was long many all kept = (done, subst (AreAllWorkerStates z p s) (sym (whole_written len after opened long many)) done)
    where
      done : AreAllWorkerStates z p s after
      done = kept s (subst (AreAllWorkerStates z p s) (sym was) all)

  -- the worker states of new seats
  pub new_worker_states : (z : TableId) (v : Sight P) (n : ℕ) (p : ProgramText) (s : SettingsValue) (seats : List (Chair P)) (worker_states : List (WorkerState P)) → 0 < n → n ≡ s.workers → s.workers < 2 ^ 32 → v.seen ≡ [] → v.joined ≡ [] → v.setup ≡ Some (record { program = p; settings = s }) → AreNewSeats z v n seats
      → map (λ d. d.seat) worker_states ≡ seats → AreNewWorkerStates s worker_states → AreAllWorkerStates z p s worker_states
  new_worker_states z v n p s seats worker_states some workers few none_seen none_joined under new same fresh = record {
    count = sym (length-map worker_states seat_of) ∙ (ap length same ∙ (new.0 ∙ workers));
    seats = subst (AreAllSeats z) (sym same) (new_are_all z v n seats some none_joined new);
    each_worker_state = λ k d e. let t = new.1 k d.seat (new_worker_states_at k d e) in let f = fresh k d e in (
      record {
        idle = t.0;
        number = ap (λ (u : Sight P). u.worker) t.1 ∙ sym f.0;
        under = ap (λ (u : Sight P). u.setup) t.1 ∙ (under ∙ ap (λ (x : SettingsValue). Some (record { program = p; settings = x })) (sym f.1));
        below = (let h = slice_get_within worker_states k d e in let m = sym (length-map worker_states seat_of) ∙ (ap length same ∙ new.0) in let a = f.0 in let b : d.settings.workers ≡ s.workers = ap (λ (x : SettingsValue). x.workers) f.1 in omega (arith, h, m, workers, a, b));
        few = (let b : d.settings.workers ≡ s.workers = ap (λ (x : SettingsValue). x.workers) f.1 in omega (arith, few, b));
        gave = f.2 ∙ ap length (sym (nothing k d e));
        thieves = f.3 ∙ ap (λ (x : SettingsValue). x.workers) (sym f.1);
      },
      f.0,
      f.1,
    );
  }
    where
      new_worker_states_at : (k : ℕ) (d : WorkerState P) → slice_get worker_states k ≡ Some d → slice_get seats k ≡ Some d.seat
      new_worker_states_at k d e = ap (λ l. slice_get l k) (sym same) ∙ got_map seat_of worker_states k d e

      nothing : (k : ℕ) (d : WorkerState P) → slice_get worker_states k ≡ Some d → entries_of d ≡ []
      nothing k d e = ap (λ (l : List EntryValue). entries_by worker_of (view d.seat).worker l) (ap (λ (u : Sight P). u.seen) (new.1 k d.seat (new_worker_states_at k d e)).1 ∙ none_seen)

-- ---- THE VALUE AT THE END

module _ {P : Type 0} (value : P → SharedValue) where
  module _ (z : TableId) (p : ProgramText) (s : SettingsValue) (worker_states : List (WorkerState P)) (seats : List (Chair P)) (run : Run P) (all : AreAllWorkerStates z p s worker_states) (is : seats ≡ map (λ d. d.seat) worker_states) where
    seat_there : (k : ℕ) (d : WorkerState P) → slice_get worker_states k ≡ Some d → slice_get seats k ≡ Some d.seat
    seat_there k d e = ap (λ (l : List (Chair P)). slice_get l k) is ∙ got_map seat_of worker_states k d e

    pub of_each : HasOwnEntries (journal_of value) worker_of (FitsSnapshot value) (setup_of value) run seats → HasOfEach (journal_of value run) worker_states
    of_each own = λ k d e. let same = own k d.seat (seat_there k d e) in (same, (all.each_worker_state k d e).0.gave ∙ ap length (sym same))

    pub have_seen : IsFinalFor (journal_of value) worker_of (FitsSnapshot value) (setup_of value) run seats → HaveSeen (journal_of value run) worker_states
    have_seen left = record {
      begins = λ k d e. left.begins k d.seat (seat_there k d e);
      whole = (let l = left.longest in let d = map_got seat_of worker_states l.0 l.1 (ap (λ (x : List (Chair P)). slice_get x l.0) (sym is) ∙ l.2) in (l.0, d.0, d.1, ap (λ (c : Chair P). (view c).seen) d.2 ∙ l.3));
    }

    setup_at_end : IsFinalFor (journal_of value) worker_of (FitsSnapshot value) (setup_of value) run seats → setup_of value run ≡ record { program = p; settings = s }
    setup_at_end left =
        let some = all.seats.some_seat in let long = length-map worker_states seat_of in let d = first_there worker_states (omega (arith, some, long)) in
        same_Some (setup_of value run) _ (sym (left.same_setup d.0.seat (seat_there 0 d.0 d.1)) ∙ ((all.each_worker_state 0 d.0 d.1).0.under ∙ ap (λ (x : SettingsValue). Some (record { program = p; settings = x })) (all.each_worker_state 0 d.0 d.1).2))

    pub settings_at_end : IsFinalFor (journal_of value) worker_of (FitsSnapshot value) (setup_of value) run seats → (value run.paced).settings ≡ s
    settings_at_end left = ap (λ (x : Setup). x.settings) (setup_at_end left)

    pub program_at_end : IsFinalFor (journal_of value) worker_of (FitsSnapshot value) (setup_of value) run seats → (value run.paced).program ≡ p
    program_at_end left = ap (λ (x : Setup). x.program) (setup_at_end left)

  -- what the workers gave back
  pub was_given : (z : TableId) (p : ProgramText) (s : SettingsValue) (first worker_states : List (WorkerState P)) (w : SharedValue) → AreAllWorkerStates z p s first → AreOpened s first → AreAllWorkerStates z p s worker_states → AllGoRound value p first worker_states → HaveStopped value worker_states
      → HaveSeen w.journal.items worker_states → HasOfEach w.journal.items worker_states → WasGivenBack value p s w.journal.items
  was_given z p s first worker_states w all_first opened all rounds stopped seen each = record {
    turn = z;
    first = first;
    all_first = all_first;
    opened = opened;
    worker_states = worker_states;
    all = all;
    rounds = rounds;
    stopped = stopped;
    seen = seen;
    of_each = each;
  }

-- a run of this program with these settings
pub is_run : (p : ProgramText) (s : SettingsValue) (w : SharedValue) → IsSharedValue w → w.program ≡ p → w.settings ≡ s → is_paced w.program w.settings w.journal.items ≡ true → IsRunOf p s w
is_run p s w I program settings paced = record {
  program = program;
  settings = settings;
  legal = subst (λ (q : ProgramText). is_legal q s w.journal.items ≡ true) program (subst (λ (t : SettingsValue). is_legal w.program t w.journal.items ≡ true) settings I.legal);
  paced = subst (λ (q : ProgramText). is_paced q s w.journal.items ≡ true) program (subst (λ (t : SettingsValue). is_paced w.program t w.journal.items ≡ true) settings paced);
  stands = I;
}
