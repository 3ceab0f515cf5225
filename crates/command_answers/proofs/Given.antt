-- A command's answer if no fault occurred.
use Rattle.command_answers.proofs.Common.{◌≡◌, ◌∙◌, ◌⊎◌, ℕ, List, Bool, true, false, subst, sym, inl, inr, refl, Option, Some, None, Result, ProgramText, TextFault, EntryValue, SettingsValue, InputFault, Source, BadLine, TraceInput, input_fault, settings_for, Done as Finished, Trapped, Entangled, RunEnd, Machine, Fuel, Pool, RefusedAt, refused_as_run, Options, Run, Replay, Model, Make, CommandStatus, Answer, CallResult, status_of_end, AnswersLine, AnswersMake, AnswersProgram, AnswersRun, AnswersTrace, AnswersTraced, IsModelled, IsProgramInput, IsReplay, LeavesLine, LeavesMake, WhereProgram, WhereTraced, WhereWhole, DeliversBy, GivesAll, HasProgram, IsEnd, MadeAreAccepted, MadeAreRun, NoFaultGivesAll, ProgramsAreRun, TracesAreReplayed}
use Rattle.command_answers.specs.declared.answer.CommandStatus.TheVariants.{Done, Source as RefusedSource, NoMemory, Trace}
use Rattle.command_answers.proofs.Deliveries.{gives_all}

pub no_fault_gives_all : NoFaultGivesAll
no_fault_gives_all = λ line input r before after d none. gives_all (AnswersLine line input) (LeavesLine line input) r before after d none

-- the same, stated by what follows from answers
gives_so : (P Q : Answer → Type 0) (r : CallResult) (before after : Option (List ℕ)) → ((a : Answer) → P a → Q a) → GivesAll P r before after → GivesAll Q r before after
gives_so P Q r before after f g = elim g [
  | inl e ↦ inl e
  | inr h ↦ inr (h.0, f h.0 h.1, h.2, h.3, h.4, h.5)
]

-- PROGRAMS

program_run : (o : Options) (input : List ℕ) (p : ProgramText) (a : Answer) → IsProgramInput input p → AnswersRun o input a → AnswersProgram o p a
program_run o input p a is h =
    subst (λ (r : Result ProgramText TextFault). WhereProgram (AnswersProgram o) r a) is h

pub programs_are_run : ProgramsAreRun
programs_are_run = λ file o input p r before after is d none.
    gives_so _ (AnswersProgram o p) r before after (λ a. program_run o input p a is) (no_fault_gives_all (Run file o) input r before after d none)

pub made_are_run : MadeAreRun
made_are_run = λ seed size input r before after d none. no_fault_gives_all (Make seed size true) input r before after d none

no_end_is_refused : (e : RunEnd) → status_of_end e ≡ RefusedSource → ⊥
no_end_is_refused (Machine Finished) h = cc
no_end_is_refused (Machine (Trapped kind t at)) h = cc
no_end_is_refused (Machine (Entangled reader owner)) h = cc
no_end_is_refused (Fuel steps) h = cc
no_end_is_refused (Pool chunks) h = cc

never_refused : (seed size : ℕ) (run : Bool) (a : Answer) → AnswersMake seed size run a → a.status ≡ RefusedSource → ⊥
never_refused seed size false a h e = let f : Done ≡ RefusedSource = sym h.status ∙ e in cc
never_refused seed size true a h e = no_end_is_refused h.0.end (sym h.0.status ∙ e)

pub made_are_accepted : MadeAreAccepted
made_are_accepted = λ seed size run input r before after d e.
    let given = subst (λ status. DeliversBy status (AnswersMake seed size run) (LeavesMake seed size run) r before after) e d in
    never_refused seed size run given.0 given.1 given.2

-- TRACES

-- the status says this, or that the trace is refused
module _ (E : CommandStatus → Type 0) where
  abbrev SaysOrRefuses : Answer → Type 0
  SaysOrRefuses a = (a.status ≡ Trace) ⊎ E a.status

  whole_end : (P : Answer → Type 0) (r : Option RefusedAt) (a : Answer) → (P a → E a.status) → WhereWhole P r a → SaysOrRefuses a
  whole_end P None a f h = inr (f h)
  whole_end P (Some r) a f h = inl h.status

  input_end : (P : TraceInput → Answer → Type 0) (input : List ℕ) (f : Option InputFault) (a : Answer) → ((t : TraceInput) → P t a → SaysOrRefuses a) → ((r : TextFault) → f ≡ Some (Source r) → ⊥)
      → WhereTraced P input f a → SaysOrRefuses a
  input_end P input None a g none h = g h.0 h.2
  input_end P input (Some (Source r)) a g none h = absurd (none r refl)
  input_end P input (Some (BadLine n)) a g none h = inl h.status

  traced_end : (P : ProgramText → SettingsValue → List EntryValue → Answer → Type 0) (s : SettingsValue) (input : List ℕ) (a : Answer)
      → ((p : ProgramText) (l : SettingsValue) (entries : List EntryValue) → P p l entries a → E a.status) → HasProgram input → AnswersTraced P s input a → SaysOrRefuses a
  traced_end P s input a f has h =
      input_end (AnswersTrace P s) input (input_fault input) a
      (λ t. whole_end (P t.program (settings_for s t) t.trace.entries) (refused_as_run t.program (settings_for s t) t.trace.entries) a (f t.program (settings_for s t) t.trace.entries))
      has h

  given_end : (P : Answer → Type 0) (r : CallResult) (before after : Option (List ℕ)) → ((a : Answer) → P a → SaysOrRefuses a) → GivesAll P r before after → (r.status ≡ NoMemory) ⊎ ((r.status ≡ Trace) ⊎ E r.status)
  given_end P r before after f g = elim g [
    | inl e ↦ inl e
    | inr h ↦ inr (elim (f h.0 h.1) [
      | inl e ↦ inl (h.2 ∙ e)
      | inr e ↦ inr (subst E (sym h.2) e)
    ])
  ]

pub traces_are_replayed : TracesAreReplayed
traces_are_replayed = λ file o input r before after has d none. elim d [
  | inl replay ↦ given_end IsEnd _ r before after (λ a. traced_end IsEnd (IsReplay o) o.settings input a (λ p s entries h. (h.0.end, h.0.status)) has) (no_fault_gives_all (Replay file o) input r before after replay none)
  | inr model ↦ given_end IsEnd _ r before after (λ a. traced_end IsEnd (IsModelled o) o.settings input a (λ p s entries h. (h.end, h.text.status)) has) (no_fault_gives_all (Model file o) input r before after model none)
]
