-- `replay` and `model` write the same.
use Rattle.command_answers.proofs.Common.{◌≡◌, ◌∙◌, ℕ, List, [], ◌∷◌, ap, ap₂, sym, subst, Option, Some, None, unwrap_or, lines_of, ProgramText, EntryValue, SettingsValue, AreTraceLines, Version, Trace, InputFault, TraceInput, trace_lines, IsInput, input_fault, settings_for, RefusedAt, RunEnd, end_of, refused_as_run, out_text, Options, CommandStatus, Answer, status_of_end, AnswersTrace, IsModelled, IsReplay, IsText, WhereTraced, WhereWhole, WriteTheSame, ModelWritesTheSame}

texts_alike : (named : CommandStatus) (bytes : List ℕ) (a b : Answer) → IsText named bytes a → IsText named bytes b → WriteTheSame a b
texts_alike named bytes a b h k = record { status = h.status ∙ sym k.status; bytes = h.written ∙ sym k.written }

-- an input says one thing
same_trace : (lines : List (List ℕ)) (t u : Trace) → AreTraceLines lines t → AreTraceLines lines u → t ≡ u
same_trace [] t u h k = absurd h
same_trace (line ∷ lines) t u h k =
    let made : Version → List EntryValue → Trace = λ v entries. record { version = v; entries = entries } in
    ap₂ made (ap (λ (o : Option Version). unwrap_or o t.version) (sym h.0 ∙ k.0)) (h.1 ∙ sym k.1)

pub same_input : (input : List ℕ) (t u : TraceInput) → IsInput input t → IsInput input u → t ≡ u
same_input input t u h k =
    let made : ProgramText → Trace → TraceInput = λ p trace. record { program = p; trace = trace } in
    ap₂ made (h.program ∙ sym k.program) (same_trace (trace_lines (lines_of input)) t.trace u.trace h.trace k.trace)

module _ (o : Options) (a b : Answer) where
  runs : (p : ProgramText) (s : SettingsValue) (entries : List EntryValue) → IsReplay o p s entries a → IsModelled o p s entries b → WriteTheSame a b
  runs p s entries h k =
      let ended : end_of p s entries ≡ Some h.0.end = subst (λ j. end_of p s j ≡ Some h.0.end) h.1 h.0.ended in
      let same : h.0.end ≡ k.end = ap (λ (x : Option RunEnd). unwrap_or x k.end) (sym ended ∙ k.ended) in
      record {
        status = h.0.status ∙ ap status_of_end same ∙ sym k.text.status;
        bytes = subst (λ j. a.bytes ≡ out_text p s o.report o.trace j) h.1 h.0.bytes ∙ sym k.text.written;
      }

  wholes : (p : ProgramText) (s : SettingsValue) (entries : List EntryValue) (r : Option RefusedAt) → WhereWhole (IsReplay o p s entries) r a → WhereWhole (IsModelled o p s entries) r b → WriteTheSame a b
  wholes p s entries None h k = runs p s entries h k
  wholes p s entries (Some r) h k = texts_alike _ _ a b h k

  traces : (input : List ℕ) (f : Option InputFault) → WhereTraced (AnswersTrace (IsReplay o) o.settings) input f a → WhereTraced (AnswersTrace (IsModelled o) o.settings) input f b → WriteTheSame a b
  traces input (Some f) h k = texts_alike _ _ a b h k
  traces input None h k =
      let t = h.0 in
      let l = settings_for o.settings t in
      wholes t.program l t.trace.entries (refused_as_run t.program l t.trace.entries) h.2
      (subst (λ (u : TraceInput). AnswersTrace (IsModelled o) o.settings u b) (same_input input k.0 t k.1 h.1) k.2)

pub model_writes_the_same : ModelWritesTheSame
model_writes_the_same = λ o input a b h k.
    traces o a b input (input_fault input) h k
