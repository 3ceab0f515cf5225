-- A worker's state before and after a turn.
use Rattle.worker_run.proofs.Common.{◌≡◌, ℕ, suc, ◌^◌, ◌<◌, ◌≤◌, ◌==◌, Bool, true, false, cond, List, [], ◌∷◌, length, sym, ap, ap₂, ◌∙◌, subst, arith, Option, Some, Snapshot, same_Some, TableId, ProgramText, EntryValue, SettingsValue, Kind, Private, WorkerPartFits, IsSharedValue, SharedValue, entries_by, view, Extends, HasTurn, IsAlike, Knows, own_entries, with_taken, own_of_taken, Collecting, Next, Running, Forked, Resumed, Idle, Waits, Stop, Ready, Paused as HasPaused, Copied as IsCopied, Found, OutOfMemory, Run, Setup, ComesNext, BringsTo, ComesWith, GoesWith, KeepsPart, Sight, TakesFrom, WasCopied, EntersOne, FitsSnapshot, NoEntryMade, journal_of, setup_of, worker_of, WorkerState, HasEntry, IsWorkerState}
use Rattle.turn_entries.specs.declared.between_turns.Copied.{Copied}
use Rattle.turn_entries.specs.declared.between_turns.Next.TheVariants.{Collecting as Collects, Copied as HasCopied, Found as GoesFor}

-- there are no more of a worker's entries
own_within : (w : ℕ) (es : List EntryValue) → length (entries_by worker_of w es) ≤ length es
own_within w [] = omega arith
own_within w (e ∷ es) = own_within_by_cases (worker_of e == w) (own_within w es)
  where
    own_within_by_cases : (b : Bool) → length (entries_by worker_of w es) ≤ length es → length (cond b (e ∷ entries_by worker_of w es) (entries_by worker_of w es)) ≤ suc (length es)
    own_within_by_cases true h = omega (arith, h)
    own_within_by_cases false h = omega (arith, h)

pub same_text : (w : SharedValue) (p : ProgramText) (s : SettingsValue) → w.program ≡ p → w.settings ≡ s → ◌≡◌ {A = Setup} (record { program = w.program; settings = w.settings }) (record { program = p; settings = s })
same_text w p s a b = ap₂ (λ (x : ProgramText) (y : SettingsValue). record { program = x; settings = y }) a b

-- whoever keeps the shared value
module _ {P : Type 0} (value : P → SharedValue) where
  same_setup : (a b : Run P) → (value b.paced).program ≡ (value a.paced).program → (value b.paced).settings ≡ (value a.paced).settings → setup_of value b ≡ setup_of value a
  same_setup a b p s = ap₂ (λ (x : ProgramText) (y : SettingsValue). record { program = x; settings = y }) p s

  -- ---- THE TURN IS TAKEN: v is what the seat knew
  module _ (p : ProgramText) (d : WorkerState P) (run : Run P) (v : Sight P) (K : Knows (journal_of value) worker_of (FitsSnapshot value) (setup_of value) run v) (number : v.worker ≡ d.worker) (under : v.setup ≡ Some (record { program = p; settings = d.settings })) where
    setup_taken : setup_of value run ≡ record { program = p; settings = d.settings }
    setup_taken = same_Some (setup_of value run) _ (sym K.setup_is ∙ under)

    pub program_taken : (value run.paced).program ≡ p
    program_taken = ap (λ (s : Setup). s.program) setup_taken

    kept_fits : (part : Private) → KeepsPart v.part part → WorkerPartFits (value run.paced) d.worker part
    kept_fits part k = subst (λ (n : ℕ). WorkerPartFits (value run.paced) n part) number (subst (WorkerPartFits (value run.paced) v.worker) k.2 (K.part k.0 k.1))

    pub brings : (ready : Ready) → ComesWith p d.worker v.part ready → BringsTo (value run.paced) d.worker ready
    brings (HasPaused part why) C = (C.0, kept_fits C.0 C.1, λ w G f. C.2 w (record { shared = G.shared; program = G.program ∙ program_taken; goes = G.goes }) f)
    brings (IsCopied c) C = (kept_fits c.begun.value C.0, λ w G f. C.1 w (record { shared = G.shared; program = G.program ∙ program_taken; goes = G.goes }) f)
    brings (Found task) C = tt
    brings OutOfMemory C = tt

  -- the value after an entry runs the worker's program
  pub program_entered : (z : TableId) (p : ProgramText) (d : WorkerState P) (taken run : Run P) → IsWorkerState z p d → Knows (journal_of value) worker_of (FitsSnapshot value) (setup_of value) taken (view d.seat) → (kind : Kind) → EntersOne (value taken.paced) (value run.paced) d.worker kind → (value run.paced).program ≡ p
  program_entered z p d taken run D K kind enters = enters.enters.program ∙ program_taken p d taken (view d.seat) K D.number D.under

  -- an entry was made
  pub has_entry : (z : TableId) (p : ProgramText) (d e : WorkerState P) (taken run : Run P) → IsWorkerState z p d → e ≡ record d { seat = e.seat } → HasTurn z e.seat taken → view e.seat ≡ with_taken (view d.seat) taken
      → Knows (journal_of value) worker_of (FitsSnapshot value) (setup_of value) taken (view d.seat) → (kind : Kind) → EntersOne (value taken.paced) (value run.paced) d.worker kind → IsSharedValue (value run.paced) → HasEntry value z e run
  has_entry z p d e taken run D is turn sees K kind enters shared = subst (λ (x : WorkerState P). HasEntry value z x run) (sym is) (record {
    taken = taken;
    turn = turn;
    number = ap (λ (v : Sight P). v.worker) sees ∙ D.number;
    under = ap (λ (v : Sight P). v.setup) sees ∙ (D.under ∙ ap (λ (x : ProgramText). Some (record { program = x; settings = d.settings })) (sym (program_entered z p d taken run D K kind enters)));
    below = D.below;
    few = D.few;
    gave = D.gave ∙ ap length (sym own);
    thieves = D.thieves;
    kind = kind;
    enters = enters;
    shared = shared;
    within = (let a = own_within (view d.seat).worker (journal_of value taken) in let b = ap length (own_of_taken (journal_of value) worker_of (FitsSnapshot value) (setup_of value) taken (view d.seat) K) in let c = ap length own in omega (arith, a, b, c));
  })
    where
      own : own_entries worker_of (view e.seat) ≡ own_entries worker_of (view d.seat)
      own = ap (own_entries worker_of) sees

  -- ---- IT IS GIVEN BACK

  pub extends : (z : TableId) (d : WorkerState P) (run : Run P) (H : HasEntry value z d run) → length (journal_of value run) < 2 ^ 63 → Extends (journal_of value) worker_of (FitsSnapshot value) (setup_of value) H.taken run (view d.seat).worker
  extends z d run H short = record {
    entry = record { worker = d.worker; kind = H.kind };
    longer = H.enters.enters.journal;
    by_worker = sym H.number;
    others_fit = λ w s ne f. H.enters.others w s.value (λ e. ne (e ∙ sym H.number)) f;
    same_setup = same_setup H.taken run H.enters.enters.program H.enters.enters.settings;
    short = short;
  }

  -- the value is the same
  pub alike : (taken run : Run P) → NoEntryMade (value taken.paced) (value run.paced) → IsAlike (journal_of value) worker_of (FitsSnapshot value) (setup_of value) taken run
  alike taken run S = record { same_journal = S.journal; fit = λ w s f. S.all w s.value f; same_setup = same_setup taken run S.program S.settings }

-- what the worker goes on with after its entry, and after none
pub takes_from : (w after : SharedValue) (k : ℕ) (ready : Ready) (next : Next) → ComesNext w after k ready next → TakesFrom after k next
takes_from w after k ready (Running part) f = f
takes_from w after k ready (Collects c) f = f
takes_from w after k ready (HasCopied c) f = (f.2, f.3)
takes_from w after k ready (GoesFor t) f = tt
takes_from w after k ready (Forked l r) f = tt
takes_from w after k ready (Resumed t) f = tt
takes_from w after k ready Idle f = tt
takes_from w after k ready Waits f = tt
takes_from w after k ready Stop f = tt

-- the result of copying
pub comes_copied : (p : ProgramText) (k : ℕ) (kept : Option (Snapshot Private)) (next : Next) (c : Collecting) (d : Copied) → GoesWith p k kept next → next ≡ Collects c → d.begun.value ≡ c.part → WasCopied p k d → ComesWith p k kept (IsCopied d)
comes_copied p k kept next c d G is same was = let K : KeepsPart kept c.part = (subst (GoesWith p k kept) is G).0 in ((K.0, K.1, K.2 ∙ sym same), was)
