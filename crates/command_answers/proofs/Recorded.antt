-- A program's text followed by its run's trace is replayed with the same result.
use Rattle.command_answers.proofs.Common.{◌≡◌, ◌∙◌, ◌++◌, ℕ, Bool, cond, true, false, List, length, inl, inr, refl, ap, sym, subst, Option, Some, None, Result, Ok, Err, nat_le, ProgramText, program_limit, TextFault, reading_of, Two, Trace, EntryValue, SettingsValue, trace_text, InputFault, TraceInput, settings_for, too_long, TraceFollows, IsReadAsTrace, recorded_inputs_are_read, RunEnd, RefusedAt, end_of, refused_as_run, out_text, Options, Answer, status_of_end, program_in, IsWholeRun, AnswersTrace, AnswersTraced, IsModelled, IsReplay, WhereTraced, WhereWhole, extras_of, WriteTheSame, IsRecorded, RecordedRunsAreAlike}
use Rattle.command_answers.proofs.Runs.{whole_journal}

-- the text of a program within the limit is read as that program
refused_is : (r : TextFault) (p : ProgramText) → Err r ≡ Ok p → ⊥
refused_is r p e = cc

read_by : (b : Bool) (r : Result ProgramText TextFault) (p : ProgramText) → cond b r (Err too_long) ≡ Ok p → r ≡ Ok p
read_by true r p e = e
read_by false r p e = absurd (refused_is too_long p e)

read_is : (text : List ℕ) (p : ProgramText) → program_in text ≡ Ok p → reading_of text ≡ Ok p
read_is text p e = read_by (nat_le (length text) program_limit) (reading_of text) p e

-- settings of version 2
same_settings : (s : SettingsValue) → s.version ≡ Two → record s { version = Two } ≡ s
same_settings s e = subst (λ v. record s { version = v } ≡ s) e refl

same_end : (e f : RunEnd) → Some e ≡ Some f → e ≡ f
same_end e f h = cc

module _ (text : List ℕ) (p : ProgramText) (journal : List EntryValue) (is : IsRecorded text journal) (reads : reading_of text ≡ Ok p) where
  abbrev input : List ℕ
  input = text ++ trace_text Two journal

  abbrev trace : Trace
  trace = record { version = Two; entries = journal }

  abbrev read : TraceInput
  read = record { program = p; trace = trace }

  can : TraceFollows text (trace_text Two journal) p trace
  can = record { program = reads; feed = is.feed; new = refl; within = is.within }

  read_as : IsReadAsTrace input p trace
  read_as = recorded_inputs_are_read text p Two journal is.entries can

  module _ (P : ProgramText → SettingsValue → List EntryValue → Answer → Type 0) (s : SettingsValue) (b : Answer) (version : s.version ≡ Two) (whole : refused_as_run p s journal ≡ None) where
    of_trace : AnswersTrace P s read b → P p s journal b
    of_trace h =
        let same : settings_for s read ≡ s = same_settings s version in
        let there : WhereWhole (P p s journal) (refused_as_run p s journal) b = subst (λ x. WhereWhole (P p x journal) (refused_as_run p x journal) b) same h in
        subst (λ (r : Option RefusedAt). WhereWhole (P p s journal) r b) whole there

    of_input : AnswersTraced P s input b → P p s journal b
    of_input h =
        let found = subst (λ (f : Option InputFault). WhereTraced (AnswersTrace P s) input f b) (((read_as read).1 refl).no_fault) h in
        of_trace (subst (λ t. AnswersTrace P s t b) ((read_as found.0).0 found.1) found.2)

replay_alike : (o : Options) (p : ProgramText) (a b : Answer) → IsWholeRun p o.settings (extras_of o) a → IsReplay o p o.settings a.journal b → WriteTheSame a b
replay_alike o p a b run again =
    let here : end_of p o.settings a.journal ≡ Some again.0.end = subst (λ j. end_of p o.settings j ≡ Some again.0.end) again.1 again.0.ended in
    let same = same_end run.end again.0.end (sym run.ended ∙ here) in
    record {
      status = run.status ∙ (ap status_of_end same ∙ sym again.0.status);
      bytes = run.bytes ∙ (ap (λ j. out_text p o.settings o.report o.trace j) (sym again.1) ∙ sym again.0.bytes);
    }

model_alike : (o : Options) (p : ProgramText) (a b : Answer) → IsWholeRun p o.settings (extras_of o) a → IsModelled o p o.settings a.journal b → WriteTheSame a b
model_alike o p a b run again =
    let same = same_end run.end again.end (sym run.ended ∙ again.ended) in
    record { status = run.status ∙ (ap status_of_end same ∙ sym again.text.status); bytes = run.bytes ∙ sym again.text.written }

pub recorded_runs_are_alike : RecordedRunsAreAlike
recorded_runs_are_alike o text p a b version program run is answered =
    let reads = read_is text p program in
    let whole = whole_journal p o.settings a.journal run.0.end run.0.back.legal run.0.ended in
    elim answered [
      | inl h ↦ replay_alike o p a b run.0 (of_input text p a.journal is reads (IsReplay o) o.settings b version whole h)
      | inr h ↦ model_alike o p a b run.0 (of_input text p a.journal is reads (IsModelled o) o.settings b version whole h)
    ]
