-- The answers for runs.
use Rattle.command_answers.proofs.Common.{◌∙◌, ◌≡◌, ◌+◌, List, [], true, ap, ap₂, refl, sym, subst, append-nil, length, Option, Some, None, ProgramText, EntryValue, SettingsValue, TraceInput, settings_for, RunEnd, RefusedAt, IsPrefix, end_of, first_refused, is_legal, or_short, refused_as_run, out_text, first_refused_is_first, Extras, SharedValue, accounts, without_journal, IsSharedValue, Entry, Options, Answer, Wanted, Amid, status_of_end, AnswersTrace, IsReplay, Refuses, WhereWhole, extras_of, short_of, IsWanted, ReturnsRun, IsReplayedRun, LeavesPrefix}
use Rattle.command_answers.proofs.Traces.{trace_told}

-- a legal journal with an end is one of a whole run
pub whole_journal : (p : ProgramText) (s : SettingsValue) (journal : List EntryValue) (end : RunEnd) → is_legal p s journal ≡ true → end_of p s journal ≡ Some end → refused_as_run p s journal ≡ None
whole_journal p s journal end legal ended =
    ap₂ (λ (r : Option RefusedAt) (e : Option RunEnd). or_short r e (length journal + 1)) ((first_refused_is_first p s journal).none.1 legal) ended

-- and one without an end is refused as short
pub short_journal : (p : ProgramText) (s : SettingsValue) (journal : List EntryValue) → is_legal p s journal ≡ true → end_of p s journal ≡ None
    → refused_as_run p s journal ≡ Some (short_of journal)
short_journal p s journal legal none =
    ap₂ (λ (r : Option RefusedAt) (e : Option RunEnd). or_short r e (length journal + 1)) ((first_refused_is_first p s journal).none.1 legal) none

-- a journal with a refused entry is refused for that
pub refused_first : (p : ProgramText) (s : SettingsValue) (journal : List EntryValue) (r : RefusedAt) → first_refused p s journal ≡ Some r → refused_as_run p s journal ≡ Some r
refused_first p s journal r is = ap (λ (o : Option RefusedAt). or_short o (end_of p s journal) (length journal + 1)) is

-- what is returned of a shared value
pub handed : (p : ProgramText) (s : SettingsValue) (w : SharedValue) (journal : List EntryValue) (shared : Option SharedValue) → IsSharedValue w → w.program ≡ p → w.settings ≡ s
    → journal ≡ w.journal.items → shared ≡ Some (without_journal w) → ReturnsRun p s journal shared
handed p s w journal shared stands program settings moved remains = record {
  whole = w;
  stands = stands;
  program = program;
  settings = settings;
  legal = subst (λ j. is_legal p s j ≡ true) (sym moved) (subst (λ l. is_legal p l w.journal.items ≡ true) settings (subst (λ q. is_legal q w.settings w.journal.items ≡ true) program stands.legal));
  moved = moved;
  remains = remains;
}

-- the answer of a run with this end
pub ended_run : (w : SharedValue) (end : RunEnd) (extras : Extras) (a : Answer) → IsSharedValue w → (accounts w).end ≡ Some end
    → a.status ≡ status_of_end end → a.bytes ≡ out_text w.program w.settings extras.report extras.trace w.journal.items → a.journal ≡ w.journal.items → a.shared ≡ Some (without_journal w)
    → IsReplayedRun w.program w.settings extras w.journal.items a
ended_run w end extras a stands ended status bytes journal shared = (
  record {
    back = handed w.program w.settings w a.journal a.shared stands refl refl journal shared;
    end = end;
    ended = subst (λ j. end_of w.program w.settings j ≡ Some end) (sym journal) ended;
    status = status;
    bytes = subst (λ j. a.bytes ≡ out_text w.program w.settings extras.report extras.trace j) (sym journal) bytes;
  },
  journal,
)

-- ENTRIES

abbrev pub OfShared : SharedValue → Extras → Answer → Type 0
OfShared w extras = WhereWhole (IsReplayedRun w.program w.settings extras w.journal.items) (refused_as_run w.program w.settings w.journal.items)

-- all are made, and the run has this end, or none
pub made_ended : (w : SharedValue) (end : RunEnd) (extras : Extras) (a : Answer) → IsSharedValue w → (accounts w).end ≡ Some end → IsReplayedRun w.program w.settings extras w.journal.items a → OfShared w extras a
made_ended w end extras a stands ended h =
    subst (λ (r : Option RefusedAt). WhereWhole (IsReplayedRun w.program w.settings extras w.journal.items) r a)
    (sym (whole_journal w.program w.settings w.journal.items end stands.legal ended)) h

pub made_short : (w : SharedValue) (extras : Extras) (a : Answer) → IsSharedValue w → (accounts w).end ≡ None → Refuses (Entry (short_of w.journal.items)) a → OfShared w extras a
made_short w extras a stands none h =
    subst (λ (r : Option RefusedAt). WhereWhole (IsReplayedRun w.program w.settings extras w.journal.items) r a)
    (sym (short_journal w.program w.settings w.journal.items stands.legal none)) h

-- once all entries are made
pub made_told : (o : Options) (t : TraceInput) (s : SettingsValue) (entries : List EntryValue) (w : SharedValue) (a : Answer) → s ≡ settings_for o.settings t → entries ≡ t.trace.entries
    → w.program ≡ t.program → w.settings ≡ s → w.journal.items ≡ entries
    → WhereWhole (IsReplayedRun w.program w.settings (extras_of o) w.journal.items) (refused_as_run w.program w.settings w.journal.items) a → AnswersTrace (IsReplay o) o.settings t a
made_told o t s entries w a limits is program settings journal h =
    trace_told (IsReplay o) o.settings t s entries (refused_as_run t.program s entries) a limits is refl
    (subst (λ j. WhereWhole (IsReplayedRun t.program s (extras_of o) j) (refused_as_run t.program s j) a) journal
    (subst (λ l. WhereWhole (IsReplayedRun t.program l (extras_of o) w.journal.items) (refused_as_run t.program l w.journal.items) a) settings
    (subst (λ q. WhereWhole (IsReplayedRun q w.settings (extras_of o) w.journal.items) (refused_as_run q w.settings w.journal.items) a) program h)))

-- memory ran out during the run
pub entries_left : (o : Options) (t : TraceInput) (s : SettingsValue) (entries : List EntryValue) (w : SharedValue) (found : Wanted) → s ≡ settings_for o.settings t → entries ≡ t.trace.entries
    → IsSharedValue w → w.program ≡ t.program → w.settings ≡ s → IsPrefix w.journal.items entries → found ≡ Amid w.journal.items (without_journal w)
    → IsWanted (LeavesPrefix t.program (settings_for o.settings t) t.trace.entries) found
entries_left o t s entries w found limits is stands program settings prefix found_is =
    subst (IsWanted (LeavesPrefix t.program (settings_for o.settings t) t.trace.entries)) (sym found_is)
    (handed t.program (settings_for o.settings t) w w.journal.items (Some (without_journal w)) stands program (settings ∙ limits) refl refl, subst (IsPrefix w.journal.items) is prefix)

-- all of them are a prefix
pub all_prefix : (journal entries : List EntryValue) → journal ≡ entries → IsPrefix journal entries
all_prefix journal entries is = ([], sym is ∙ sym (append-nil journal))
