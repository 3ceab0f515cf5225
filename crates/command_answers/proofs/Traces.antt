-- The answers for texts, and for programs with a trace.
use Rattle.command_answers.proofs.Common.{◌≡◌, ◌∙◌, ◌≤◌, ℕ, Bool, List, true, false, ap, length, sym, subst, Option, Result, Some, Ok, nat_le, le-leb, ProgramText, program_limit, program_of, reading_of, made_text, made_are_short, made_are_programs, EntryValue, SettingsValue, usual_settings, TraceInput, settings_for, RunEnd, RefusedAt, end_of, refused_as_run, out_text, Options, CommandStatus, Answer, Wanted, Amid, Before, status_of_end, program_in, AnswersMake, AnswersProgram, AnswersRun, AnswersTrace, IsModelled, IsText, LeavesMake, LeavesRun, WhereProgram, WhereWhole, summary, IsWanted, MadeAreRead, LeavesPaced}
use Rattle.command_answers.specs.declared.answer.CommandStatus.TheVariants.{Done}

-- the answer for a journal, which is the trace's, with its settings
pub trace_told : (P : ProgramText → SettingsValue → List EntryValue → Answer → Type 0) (l : SettingsValue) (t : TraceInput) (s : SettingsValue) (journal : List EntryValue) (r : Option RefusedAt) (a : Answer)
    → s ≡ settings_for l t → journal ≡ t.trace.entries → refused_as_run t.program s journal ≡ r → WhereWhole (P t.program s journal) r a → AnswersTrace P l t a
trace_told P l t s journal r a settings entries is h =
    subst (λ x. WhereWhole (P t.program x t.trace.entries) (refused_as_run t.program x t.trace.entries) a) settings
    (subst (λ j. WhereWhole (P t.program s j) (refused_as_run t.program s j) a) entries
    (subst (λ o. WhereWhole (P t.program s journal) o a) (sym is) h))

-- a journal of a whole run on the machine that never collects
pub modelled : (o : Options) (p : ProgramText) (s : SettingsValue) (journal : List EntryValue) (end : RunEnd) (named : CommandStatus) (bytes : List ℕ) (a : Answer) → end_of p s journal ≡ Some end
    → named ≡ status_of_end end → bytes ≡ out_text p s o.report o.trace journal → IsText named bytes a → IsModelled o p s journal a
modelled o p s journal end named bytes a ended status text h = record {
  end = end;
  ended = ended;
  text = subst (λ n. IsText n (out_text p s o.report o.trace journal) a) status (subst (λ x. IsText named x a) text h);
}

-- a text that is a program
program_read : (input : List ℕ) (p : ProgramText) → nat_le (length input) program_limit ≡ true → reading_of input ≡ Ok p → program_in input ≡ Ok p
program_read input p within reads = rw within reads

-- a made text is within the limit, and is its program's text
pub made_are_read : MadeAreRead
made_are_read = λ seed size some most.
    program_read (made_text seed size) (program_of (made_text seed size))
    (le-leb (length (made_text seed size)) program_limit (made_are_short seed size most)) (made_are_programs seed size some most)

-- a made text that is run
pub made_run : (seed size : ℕ) (run : Bool) (s : SettingsValue) (bytes : List ℕ) (a : Answer) → 1 ≤ size → size ≤ 1000 → run ≡ true → s ≡ usual_settings → bytes ≡ made_text seed size
    → AnswersRun (record { settings = s; report = true; trace = false }) bytes a → AnswersMake seed size run a
made_run seed size run s bytes a some most runs usual is h =
    let whole : AnswersRun summary (made_text seed size) a = subst (λ l. AnswersRun (record { settings = l; report = true; trace = false }) (made_text seed size) a) usual (subst (λ x. AnswersRun (record { settings = s; report = true; trace = false }) x a) is h) in
    subst (λ b. AnswersMake seed size b a) (sym runs)
    (subst (λ r. WhereProgram (AnswersProgram summary) r a)
    (made_are_read seed size some most)
    whole)

one_program : {X : Type 0} (r : Result ProgramText X) (p q : ProgramText) → r ≡ Ok p → r ≡ Ok q → p ≡ q
one_program r p q e f = let g : Ok p ≡ Ok q = sym e ∙ f in cc

-- what is left of its run
pub made_left : (seed size : ℕ) (run : Bool) (s : SettingsValue) (bytes : List ℕ) (w : Wanted) → 1 ≤ size → size ≤ 1000 → run ≡ true → s ≡ usual_settings → bytes ≡ made_text seed size
    → IsWanted (LeavesRun (record { settings = s; report = true; trace = false }) bytes) w → IsWanted (LeavesMake seed size run) w
made_left seed size run s bytes Before some most runs usual is h = tt
made_left seed size run s bytes (Amid journal remains) some most runs usual is h =
    let program = h.0 in
    let same : program ≡ program_of (made_text seed size) = one_program (program_in bytes) program (program_of (made_text seed size)) h.1 (ap program_in is ∙ made_are_read seed size some most) in
    subst (λ b. LeavesMake seed size b journal (Some remains)) (sym runs)
    (subst (λ p. LeavesPaced p usual_settings journal (Some remains)) same
    (subst (λ l. LeavesPaced program l journal (Some remains)) usual h.2))

-- a made text
pub text_made : (seed size : ℕ) (bytes : List ℕ) (a : Answer) → bytes ≡ made_text seed size → IsText Done bytes a → AnswersMake seed size false a
text_made seed size bytes a is h = subst (λ x. IsText Done x a) is h
