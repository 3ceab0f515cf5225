-- How a call ends.
use Rattle.log_command.proofs.Common.{◌≡◌, ◌∙◌, ℕ, List, [], length, refl, sym, ap, subst, arith, Bool, true, false, Option, ◌≢◌, Result, IfOk, AllocError, HasRisen, CallStatus, ReadFault, WriteFault, NoMemory, Reply, SourceState, Streams, EndsWithReply, WritesReply, call_with_input, call_without_input, call_without_memory, gives_ends, silent_without_input, silent_without_memory, LogView, is_usage, log_request, Asked, Usage, Check, asked_of_log, asked_by, files_for, AreInputsOf, HasTakenFiles, HasReadFiles, ShowsLog, AnswersLog, ShowsInputs}
use Rattle.log_command.proofs.Names.{some_inputs}

no_files : (names : List (List ℕ)) (source : SourceState) → names ≡ [] → AreInputsOf names source []
no_files names source e = let n : length names ≡ 0 = ap length e in record { count = omega (arith, n); each = λ k lt. absurd (omega (arith, n, lt)) }

untouched : (names : List (List ℕ)) (source : SourceState) → names ≡ [] → HasTakenFiles names source source
untouched names source e = let n : length names ≡ 0 = ap length e in record { none = λ z. refl; last = λ k z. absurd (omega (arith, n, z)) }

module _ (a : Asked) (found : Result Reply AllocError) (status : CallStatus) (source : SourceState) (before after : Streams) (WriteFails : Type 0) where
  -- nothing is read
  pub answered_unread : files_for a ≡ [] → IfOk found (ShowsInputs a []) → WritesReply found status before after → status ≢ ReadFault → (status ≡ WriteFault → WriteFails) → AnswersLog a status source source before after WriteFails
  answered_unread none shows given read fails =
      call_with_input (AreInputsOf (files_for a) source) (λ inputs. EndsWithReply (ShowsInputs a inputs) status before after) (files_for a ≡ []) (HasTakenFiles (files_for a) source source) WriteFails source source status [] (no_files (files_for a) source none) (untouched (files_for a) source none)
      (gives_ends (ShowsInputs a []) found status before after shows given) read fails

-- memory failed before the words were read
pub answered_words_without_memory : (a : Asked) (source : SourceState) (streams : Streams) (WriteFails : Type 0) → AnswersLog a NoMemory source source streams streams WriteFails
answered_words_without_memory a source streams WriteFails =
    let at = some_inputs (files_for a) source (length (files_for a)) in
    call_without_memory (AreInputsOf (files_for a) source) (λ inputs. EndsWithReply (ShowsInputs a inputs) NoMemory streams streams) (files_for a ≡ []) (HasTakenFiles (files_for a) source source) WriteFails source source at.0 at.1
    (silent_without_memory (ShowsInputs a at.0) streams) (untouched (files_for a) source)

module _ (view : LogView) (names : List (List ℕ)) (source left : SourceState) (WriteFails : Type 0) where
  -- memory failed before all files were read
  pub answered_without_memory : (streams : Streams) → names ≢ [] → AnswersLog (Check view names) NoMemory source left streams streams WriteFails
  answered_without_memory streams some =
      let at = some_inputs names source (length names) in
      call_without_memory (AreInputsOf names source) (λ inputs. EndsWithReply (ShowsInputs (Check view names) inputs) NoMemory streams streams) (names ≡ []) (HasTakenFiles names source left) WriteFails source left at.0 at.1
      (silent_without_memory (ShowsInputs (Check view names) at.0) streams) (λ e. absurd (some e))

  -- a file couldn't be read
  pub answered_without_input : (streams : Streams) → names ≢ [] → HasRisen source.faults left.faults → AnswersLog (Check view names) ReadFault source left streams streams WriteFails
  answered_without_input streams some risen =
      let at = some_inputs names source (length names) in
      call_without_input (AreInputsOf names source) (λ inputs. EndsWithReply (ShowsInputs (Check view names) inputs) ReadFault streams streams) (names ≡ []) (HasTakenFiles names source left) WriteFails source left at.0 at.1
      (silent_without_input (ShowsInputs (Check view names) at.0) streams) some risen

  -- all files were read
  pub answered_log : (texts shown : List (List ℕ)) (found : Result Reply AllocError) (status : CallStatus) (before after : Streams) → HasReadFiles names source left texts → shown ≡ texts → IfOk found (ShowsLog names shown view) → WritesReply found status before after → status ≢ ReadFault → (status ≡ WriteFault → WriteFails)
      → AnswersLog (Check view names) status source left before after WriteFails
  answered_log texts shown found status before after read same shows given none fails =
      call_with_input (AreInputsOf names source) (λ inputs. EndsWithReply (ShowsInputs (Check view names) inputs) status before after) (names ≡ []) (HasTakenFiles names source left) WriteFails source left status read.inputs read.are read.taken
      (gives_ends (ShowsInputs (Check view names) read.inputs) found status before after (subst (λ (ts : List (List ℕ)). IfOk found (ShowsLog names ts view)) (same ∙ read.texts_are) shows) given) none fails

-- WORDS

pub usage_asked : (words : List (List ℕ)) → is_usage words ≡ true → asked_of_log words ≡ Usage
usage_asked words e = rw e

pub names_asked : (words : List (List ℕ)) (o : Option (LogView × List (List ℕ))) → is_usage words ≡ false → o ≡ log_request words → asked_of_log words ≡ asked_by o
names_asked words o e is = rw (e, ← is)

pub answered_as : (a b : Asked) (status : CallStatus) (source left : SourceState) (before after : Streams) (WriteFails : Type 0) → a ≡ b → AnswersLog b status source left before after WriteFails → AnswersLog a status source left before after WriteFails
answered_as a b status source left before after WriteFails e h = subst (λ (x : Asked). AnswersLog x status source left before after WriteFails) (sym e) h
