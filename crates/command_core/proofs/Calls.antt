-- How the calls of commands end.
use Rattle.command_core.proofs.Common.{◌≡◌, ◌≤◌, ◌+◌, ℕ, Bool, true, false, List, [], length, take, drop, refl, ap, sym, subst, arith, ◌≢◌, Option, Some, None, false≢true, HasRisen, input_of, CommandLine, Check, Run, Replay, Model, Races as RacesOf, Image as ImageOf, Make, Verify, CommandStatus, Done, Words, Source, Trap, Entangled, Fuel, Pool, ReadFault, WriteFault, NoMemory, Trace, CallResult, AnswersLine, AnswersWords, LeavesLine, LeavesNone, DeliversLine, DeliversWords, ReturnsNothing, IsSilent, nothing_given, is_reading, limit_of, source_bytes_for, CallStatus, Answered, AnswerStatus, Reads, ReadsNothing, ReadsUpTo, SourceState, HasRead, HasTaken, IsWholeCall, AnswersCommand, AnswersInput, call_reads, call_status, line_reads}
use Rattle.run_answers.specs.below.command_answers.{Races, Image}
use Rattle.whole_call.specs.declared.status.CallStatus.TheVariants.{ReadFault as ReadFailed, WriteFault as WriteFailed, NoMemory as MemoryFailed}
use Rattle.whole_call.proofs.Calls as calls

-- STATUSES

no_read : (s : AnswerStatus) → Answered s ≡ ReadFailed → ⊥
no_read s e = cc

no_write : (s : AnswerStatus) → Answered s ≡ WriteFailed → ⊥
no_write s e = cc

pub read_failed : (s : CommandStatus) → call_status s ≡ ReadFailed → s ≡ ReadFault
read_failed ReadFault e = refl
read_failed WriteFault e = absurd cc
read_failed NoMemory e = absurd cc
read_failed Done e = absurd (no_read _ e)
read_failed Words e = absurd (no_read _ e)
read_failed Source e = absurd (no_read _ e)
read_failed Trap e = absurd (no_read _ e)
read_failed Entangled e = absurd (no_read _ e)
read_failed Fuel e = absurd (no_read _ e)
read_failed Pool e = absurd (no_read _ e)
read_failed Trace e = absurd (no_read _ e)
read_failed Races e = absurd (no_read _ e)
read_failed Image e = absurd (no_read _ e)

pub write_failed : (s : CommandStatus) → call_status s ≡ WriteFailed → s ≡ WriteFault
write_failed WriteFault e = refl
write_failed ReadFault e = absurd cc
write_failed NoMemory e = absurd cc
write_failed Done e = absurd (no_write _ e)
write_failed Words e = absurd (no_write _ e)
write_failed Source e = absurd (no_write _ e)
write_failed Trap e = absurd (no_write _ e)
write_failed Entangled e = absurd (no_write _ e)
write_failed Fuel e = absurd (no_write _ e)
write_failed Pool e = absurd (no_write _ e)
write_failed Trace e = absurd (no_write _ e)
write_failed Races e = absurd (no_write _ e)
write_failed Image e = absurd (no_write _ e)

-- WHAT A COMMAND READS

reads_some : (limit : ℕ) (file : Option (List ℕ)) → ReadsUpTo limit file ≡ ReadsNothing → ⊥
reads_some limit file e = cc

pub is_read : (line : CommandLine) → is_reading line ≡ true → line_reads line ≢ ReadsNothing
is_read (Check file) r = reads_some _ _
is_read (Run file options) r = reads_some _ _
is_read (Replay file options) r = reads_some _ _
is_read (Model file options) r = reads_some _ _
is_read (RacesOf file limits) r = reads_some _ _
is_read (ImageOf file limits) r = reads_some _ _
is_read (Make seed size run) r = absurd (false≢true r)
is_read (Verify file) r = reads_some _ _

module _ (before after : SourceState) where
  pub nothing_read : (line : CommandLine) → (is_reading line ≡ false → after.left ≡ before.left) → line_reads line ≡ ReadsNothing → HasTaken (line_reads line) before after
  nothing_read (Check file) u e = absurd (reads_some _ _ e)
  nothing_read (Run file options) u e = absurd (reads_some _ _ e)
  nothing_read (Replay file options) u e = absurd (reads_some _ _ e)
  nothing_read (Model file options) u e = absurd (reads_some _ _ e)
  nothing_read (RacesOf file limits) u e = absurd (reads_some _ _ e)
  nothing_read (ImageOf file limits) u e = absurd (reads_some _ _ e)
  nothing_read (Make seed size run) u e = u refl
  nothing_read (Verify file) u e = absurd (reads_some _ _ e)

  some_item : (x y : List ℕ) → Some x ≡ Some y → x ≡ y
  some_item x y e = cc

  module _ (input : List ℕ) where
    pub has_read : (line : CommandLine) → length input ≤ limit_of line + 1
        → ((whole : List ℕ) → source_bytes_for before.left before.named line ≡ Some whole → input ≡ input_of (limit_of line) whole)
        → (is_reading line ≡ true → (whole : List ℕ) → source_bytes_for before.left before.named line ≡ Some whole → after.left ≡ Some (drop (limit_of line + 1) whole))
        → (is_reading line ≡ false → after.left ≡ before.left) → HasRead (line_reads line) before after input
    has_read (Check file) w i t u = record { is = record { within = w; first = i }; taken = t refl }
    has_read (Run file options) w i t u = record { is = record { within = w; first = i }; taken = t refl }
    has_read (Replay file options) w i t u = record { is = record { within = w; first = i }; taken = t refl }
    has_read (Model file options) w i t u = record { is = record { within = w; first = i }; taken = t refl }
    has_read (RacesOf file limits) w i t u = record { is = record { within = w; first = i }; taken = t refl }
    has_read (ImageOf file limits) w i t u = record { is = record { within = w; first = i }; taken = t refl }
    has_read (Make seed size run) w i t u =
        let none : input ≡ [] = i [] refl in
        record {
          is = record {
            within = let e : length input ≡ 0 = ap length none in omega (arith, e);
            first = λ whole e. subst (λ (z : List ℕ). input ≡ take 0 z) (some_item [] whole e) none;
          };
          taken = u refl;
        }
    has_read (Verify file) w i t u = record { is = record { within = w; first = i }; taken = t refl }

-- HOW A CALL ENDS

nothing_ends : (asked : Option CommandLine) (input : List ℕ) (r : CallResult) (w : Option (List ℕ)) (s : CommandStatus) → IsSilent s → ReturnsNothing s r → AnswersInput asked input r w w
nothing_ends None input r w s ok h = nothing_given AnswersWords LeavesNone r w s ok h
nothing_ends (Some line) input r w s ok h = nothing_given (AnswersLine line input) (LeavesLine line input) r w s ok h

module _ (asked : Option CommandLine) (r : CallResult) (before after : SourceState) (w : Option (List ℕ)) (WriteFails : Type 0) where
  ends_as : (s : CommandStatus) → r.status ≡ s → IsWholeCall (call_reads asked) (λ input. AnswersInput asked input r w w) WriteFails (call_status s) before after → AnswersCommand asked r before after w w WriteFails
  ends_as s e is = subst (λ x. IsWholeCall (call_reads asked) (λ input. AnswersInput asked input r w w) WriteFails (call_status x) before after) (sym e) is

  -- reading failed
  pub without_input : ReturnsNothing ReadFault r → call_reads asked ≢ ReadsNothing → HasRisen before.faults after.faults → AnswersCommand asked r before after w w WriteFails
  without_input h some risen = ends_as ReadFault h.status (calls.without_input _ _ WriteFails _ _ (λ input. nothing_ends asked input r w ReadFault tt h) some risen)

  -- an allocation failed before the input was there
  pub without_memory : ReturnsNothing NoMemory r → (call_reads asked ≡ ReadsNothing → HasTaken (call_reads asked) before after) → AnswersCommand asked r before after w w WriteFails
  without_memory h untouched = ends_as NoMemory h.status (calls.without_memory _ _ WriteFails _ _ (λ input. nothing_ends asked input r w NoMemory tt h) untouched)

-- an allocation failed before the arguments were read
pub unread_words : (asked : Option CommandLine) (r : CallResult) (source : SourceState) (w : Option (List ℕ)) (WriteFails : Type 0) → ReturnsNothing NoMemory r → AnswersCommand asked r source source w w WriteFails
unread_words asked r source w W h = without_memory asked r source source w W h (calls.nothing_taken (call_reads asked) source)

-- an input was answered
pub served : (asked : Option CommandLine) (r : CallResult) (before after : SourceState) (w w' : Option (List ℕ)) (WriteFails : Type 0) (input : List ℕ) → HasRead (call_reads asked) before after input → AnswersInput asked input r w w' → r.status ≢ ReadFault
    → (r.status ≡ WriteFault → WriteFails) → AnswersCommand asked r before after w w' WriteFails
served asked r before after w w' W input read ends none fails =
    calls.with_input _ _ W _ _ (call_status r.status) input read ends (λ e. none (read_failed r.status e)) (λ e. fails (write_failed r.status e))

-- arguments that are no command line were refused
pub refused : (asked : Option CommandLine) (r : CallResult) (source : SourceState) (w w' : Option (List ℕ)) (WriteFails : Type 0) → asked ≡ None → DeliversWords r w w' → r.status ≢ ReadFault → (r.status ≡ WriteFault → WriteFails)
    → AnswersCommand asked r source source w w' WriteFails
refused asked r source w w' W is words none fails = subst (λ v. AnswersCommand v r source source w w' W) (sym is) (served None r source source w w' W [] (calls.nothing_read source) words none fails)
