-- In a legal journal a task runs when an entry with its steps begins.
use Rattle.run_turn_laws.proofs.Common.{◌≡◌, ℕ, true, false, List, [], ◌∷◌, sym, subst, is_none, and_parts, ProgramText, start, none_is, EntryValue, SettingsValue, field_limit, Kind, Took, Ran, Chunk, Begin, End, PutOff, Mark, More, Sweep, Fuel, Ledger, refusal, after, opening, is_legal_from, is_legal, Allows, IsAccepted, accepted_is_allowed, LogsTellEdges, machine_moves, file_begin, spot_after, lines_of}
use Rattle.run_turn_laws.proofs.Along.{IsReady, AreReady, told_along, unclosed_along}

allowed_ready : (p : ProgramText) (s : SettingsValue) (l : Ledger) (w : ℕ) (kind : Kind) → Allows p s l w kind → IsReady l.machine kind
allowed_ready p s l w (Took t) a = tt
allowed_ready p s l w (Ran t k) a = a.0.out.runs
allowed_ready p s l w (Chunk t) a = tt
allowed_ready p s l w (Begin t) a = tt
allowed_ready p s l w (End t taken given left) a = tt
allowed_ready p s l w (PutOff t) a = tt
allowed_ready p s l w (Mark t) a = tt
allowed_ready p s l w (More t n) a = tt
allowed_ready p s l w (Sweep t given) a = tt
allowed_ready p s l w Fuel a = tt

ready_from : (p : ProgramText) (s : SettingsValue) (journal : List EntryValue) (l : Ledger) → is_legal_from p s l journal ≡ true → AreReady p l.machine journal
ready_from p s [] l legal = tt
ready_from p s (e ∷ es) l legal =
    let parts = and_parts (is_none (refusal p s l e)) (is_legal_from p s (after p s l e) es) legal in
    let accepted : IsAccepted p s l e = (accepted_is_allowed p s l e).0 (none_is (refusal p s l e) parts.0) in (
      allowed_ready p s l e.worker e.kind accepted.allows,
      subst (λ m. AreReady p m es) (sym (machine_moves p s l e.worker e.kind)) (ready_from p s es (after p s l e) parts.1),
    )

pub legal_ready : (p : ProgramText) (s : SettingsValue) (journal : List EntryValue) → is_legal p s journal ≡ true → AreReady p (start p (field_limit s.version)) journal
legal_ready p s journal legal = ready_from p s journal (opening p s) legal

pub logs_tell_edges : LogsTellEdges
logs_tell_edges p s journal legal =
    (told_along p (field_limit s.version) (λ ts events. Unit {0}) (λ ts t k events run q. tt) (λ ts t events none same q. tt) (λ ts t x line events can is at q. tt) journal tt (legal_ready p s journal legal)).0

pub lines_unclosed : (p : ProgramText) (s : SettingsValue) (journal : List EntryValue) → is_legal p s journal ≡ true → (spot_after (file_begin []) (lines_of p s journal)).closed ≡ false
lines_unclosed p s journal legal =
    unclosed_along p (field_limit s.version) (λ ts events. Unit {0}) (λ ts t k events run q. tt) (λ ts t events none same q. tt) (λ ts t x line events can is at q. tt) journal tt (legal_ready p s journal legal)
