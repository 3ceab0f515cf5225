-- Every answer has a status of a written answer.
use Rattle.command_answers.proofs.Common.{◌∙◌, ◌≡◌, ℕ, List, [], ◌∷◌, Bool, true, false, sym, subst, inl, inr, Option, Some, None, Result, Ok, Err, ProgramText, TextFault, End, Done, Trapped, Entangled, EntryValue, SettingsValue, InputFault, TraceInput, input_fault, settings_for, RunEnd, Machine, Fuel, Pool, RefusedAt, refused_as_run, Extras, Race, ImageFault, image_fault, objects_in, Refusal, Words, Line, Entry, Image as ImageRefused, refusal_of, Options, CommandLine, Check, Run, Replay, Model, Races, Make, Verify, CommandStatus, ReadFault, Answer, CallResult, status_of_end, program_in, IsWholeRun, IsText, Refuses, WhereProgram, AnswersText, AnswersProgram, AnswersRun, WhereWhole, AnswersTrace, WhereTraced, AnswersTraced, IsReplay, IsModelled, IsRaceAnswer, IsImaged, extras_of, races_status, AnswersImage, AnswersMake, AnswersLine, IsAnswered, Delivered}
use Rattle.refusal_lines.specs.declared.refusal.Refusal.TheVariants.{Source}
use Rattle.command_line.specs.declared.line.CommandLine.TheVariants.{Image}

text : (named : CommandStatus) (bytes : List ℕ) (a : Answer) → IsAnswered named → IsText named bytes a → IsAnswered a.status
text named bytes a ok h = subst IsAnswered (sym h.status) ok

machine_end : (e : End) → IsAnswered (status_of_end (Machine e))
machine_end Done = tt
machine_end (Trapped kind t at) = tt
machine_end (Entangled reader owner) = tt

end : (e : RunEnd) → IsAnswered (status_of_end e)
end (Machine e) = machine_end e
end (Fuel steps) = tt
end (Pool chunks) = tt

refused : (r : Refusal) (a : Answer) → Refuses r a → IsAnswered a.status
refused Words a h = text _ _ a tt h
refused (Source r) a h = text _ _ a tt h
refused (Line n) a h = text _ _ a tt h
refused (Entry r) a h = text _ _ a tt h
refused (ImageRefused f) a h = text _ _ a tt h

read_text : (P : ProgramText → Answer → Type 0) (r : Result ProgramText TextFault) (a : Answer) → ((p : ProgramText) → P p a → IsAnswered a.status) → WhereProgram P r a → IsAnswered a.status
read_text P (Ok p) a f h = f p h
read_text P (Err r) a f h = refused (Source r) a h

of_text : (P : ProgramText → Answer → Type 0) (input : List ℕ) (a : Answer) → ((p : ProgramText) → P p a → IsAnswered a.status) → AnswersText P input a → IsAnswered a.status
of_text P input a f h = read_text P (program_in input) a f h

whole : (p : ProgramText) (s : SettingsValue) (extras : Extras) (a : Answer) → IsWholeRun p s extras a → IsAnswered a.status
whole p s extras a h = subst IsAnswered (sym h.status) (end h.end)

of_run : (o : Options) (input : List ℕ) (a : Answer) → AnswersRun o input a → IsAnswered a.status
of_run o input a h = of_text (AnswersProgram o) input a (λ p k. whole p o.settings (extras_of o) a k.0) h

where_whole : (P : Answer → Type 0) (r : Option RefusedAt) (a : Answer) → (P a → IsAnswered a.status) → WhereWhole P r a → IsAnswered a.status
where_whole P None a f h = f h
where_whole P (Some r) a f h = refused (Entry r) a h

traced : (P : TraceInput → Answer → Type 0) (input : List ℕ) (f : Option InputFault) (a : Answer) → ((t : TraceInput) → P t a → IsAnswered a.status) → WhereTraced P input f a → IsAnswered a.status
traced P input None a g h = g h.0 h.2
traced P input (Some f) a g h = refused (refusal_of f) a h

of_trace : (P : ProgramText → SettingsValue → List EntryValue → Answer → Type 0) (s : SettingsValue) (input : List ℕ) (a : Answer)
    → ((p : ProgramText) (l : SettingsValue) (entries : List EntryValue) → P p l entries a → IsAnswered a.status) → AnswersTraced P s input a → IsAnswered a.status
of_trace P s input a f h =
    traced (AnswersTrace P s) input (input_fault input) a
    (λ t. where_whole (P t.program (settings_for s t) t.trace.entries) (refused_as_run t.program (settings_for s t) t.trace.entries) a (f t.program (settings_for s t) t.trace.entries)) h

races_are : (races : List Race) → IsAnswered (races_status races)
races_are [] = tt
races_are (r ∷ rs) = tt

image : (f : Option ImageFault) (objects : ℕ) (a : Answer) → AnswersImage f objects a → IsAnswered a.status
image (Some f) objects a h = refused (ImageRefused f) a h
image None objects a h = text _ _ a tt h

of_make : (seed size : ℕ) (run : Bool) (a : Answer) → AnswersMake seed size run a → IsAnswered a.status
of_make seed size false a h = text _ _ a tt h
of_make seed size true a h = whole _ _ _ a h.0

pub answered : (line : CommandLine) (input : List ℕ) (a : Answer) → AnswersLine line input a → IsAnswered a.status
answered (Check file) input a h = of_text _ input a (λ p k. text _ _ a tt k) h
answered (Run file o) input a h = of_run o input a h
answered (Replay file o) input a h = of_trace (IsReplay o) o.settings input a (λ p s entries k. whole p s (extras_of o) a k.0) h
answered (Model file o) input a h = of_trace (IsModelled o) o.settings input a (λ p s entries k. text _ _ a (end k.end) k.text) h
answered (Races file s) input a h = of_trace IsRaceAnswer s input a (λ p l entries k. text _ _ a (races_are k.races) k.text) h
answered (Image file s) input a h = of_trace IsImaged s input a (λ p l entries k. text _ _ a tt k.text) h
answered (Make seed size run) input a h = of_make seed size run a h
answered (Verify file) input a h = image (image_fault input) (objects_in input) a h

-- what was written isn't reported as a read fault
pub never_read_fault : (a : Answer) (r : CallResult) (before after : Option (List ℕ)) → IsAnswered a.status → Delivered a r before after → r.status ≡ ReadFault → ⊥
never_read_fault a r before after ok d e = elim d.written [
  | inl w ↦ subst IsAnswered (sym w.0 ∙ e) ok
  | inr w ↦ absurd (let f = w.0 in cc)
]
