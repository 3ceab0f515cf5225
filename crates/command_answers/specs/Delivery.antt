-- How an answer reaches the sink, and what a call returns.
use Rattle.std.specs.Prelude.{◌≡◌, ◌⊎◌, ℕ, Option, Some, None, List, [], Result, Ok, Err, take}
use Rattle.command_answers.specs.Common.{with_more, EntryValue, SharedValue, without_journal, CommandLine, WroteSome}
use Rattle.command_answers.specs.declared.answer.CommandStatus.{CommandStatus}
use Rattle.command_answers.specs.declared.answer.CommandStatus.TheVariants.{ReadFault, WriteFault, NoMemory}
use Rattle.command_answers.specs.declared.answer.Answer.{Answer}
use Rattle.command_answers.specs.declared.answer.CallResult.{CallResult}
use Rattle.command_answers.specs.declared.wanted.Wanted.{Wanted}
use Rattle.command_answers.specs.declared.wanted.Wanted.TheVariants.{Before, Amid}
use Rattle.command_answers.specs.Answers.{AnswersLine, AnswersWords, LeavesLine, LeavesNone}

-- nothing was written, and nothing is returned
abbrev pub DeliversNothing : CallResult → Option (List ℕ) → Option (List ℕ) → Type 0
DeliversNothing r before after = (r.journal ≡ []) × (r.shared ≡ None) × (after ≡ before)

-- an answer was given: all its bytes were written; or the sink failed after a prefix of them; or the source or an
-- allocation failed before the first byte, and nothing was written. Nothing is returned then, unless memory ran out
-- during a run: then what the run leaves is returned
abbrev pub DeliversBy : CommandStatus → (Answer → Type 0) → (List EntryValue → Option SharedValue → Type 0) → CallResult → Option (List ℕ) → Option (List ℕ) → Type 0
DeliversBy ReadFault P L r before after = DeliversNothing r before after
DeliversBy NoMemory P L r before after = DeliversNothing r before after ⊎ (L r.journal r.shared × (after ≡ before))
DeliversBy WriteFault P L r before after =
    (a : Answer) × (n : ℕ) × P a × (r.journal ≡ a.journal) × (r.shared ≡ a.shared) × (after ≡ with_more before (take n a.bytes))
DeliversBy status P L r before after =
    (a : Answer) × P a × (a.status ≡ status) × (r.journal ≡ a.journal) × (r.shared ≡ a.shared) × (after ≡ with_more before a.bytes)

-- by an answer with P, or by what L says is left of a run
abbrev pub DeliversResult : (Answer → Type 0) → (List EntryValue → Option SharedValue → Type 0) → CallResult → Option (List ℕ) → Option (List ℕ) → Type 0
DeliversResult P L r before after = DeliversBy r.status P L r before after

abbrev pub DeliversLine : CommandLine → List ℕ → CallResult → Option (List ℕ) → Option (List ℕ) → Type 0
DeliversLine line input = DeliversResult (AnswersLine line input) (LeavesLine line input)

-- words that are no command line
abbrev pub DeliversWords : CallResult → Option (List ℕ) → Option (List ℕ) → Type 0
DeliversWords = DeliversResult AnswersWords LeavesNone

-- the statuses of written answers
abbrev pub IsAnswered : CommandStatus → Type 0
IsAnswered ReadFault = ⊥
IsAnswered WriteFault = ⊥
IsAnswered NoMemory = ⊥
IsAnswered _ = Unit {0}

-- the journal and the value returned are the answer's, and all its bytes were written, or a prefix if the sink failed
pub record Delivered (a : Answer) (r : CallResult) (before after : Option (List ℕ)) : Type 0 where
  pub journal : r.journal ≡ a.journal
  pub shared : r.shared ≡ a.shared
  pub written : ((r.status ≡ a.status) × (after ≡ with_more before a.bytes)) ⊎ ((r.status ≡ WriteFault) × WroteSome before after a.bytes)

-- nothing was returned
pub record ReturnsNothing (named : CommandStatus) (r : CallResult) : Type 0 where
  pub status : r.status ≡ named
  pub journal : r.journal ≡ []
  pub shared : r.shared ≡ None

-- OUT OF MEMORY while an answer is made

-- a run that has made no entry leaves nothing, any other leaves its shared value so far
abbrev pub remains_of : Option SharedValue → Wanted
remains_of None = Before
remains_of (Some w) = Amid w.journal.items (without_journal w)

-- before a run began, or during it, with this left of it
abbrev pub IsWanted : (List EntryValue → Option SharedValue → Type 0) → Wanted → Type 0
IsWanted L Before = Unit {0}
IsWanted L (Amid journal remains) = L journal (Some remains)

-- and what is returned then
abbrev pub ReturnsWanted : Wanted → CallResult → Type 0
ReturnsWanted Before r = (r.journal ≡ []) × (r.shared ≡ None)
ReturnsWanted (Amid journal remains) r = (r.journal ≡ journal) × (r.shared ≡ Some remains)

pub record ReturnsBlock (w : Wanted) (r : CallResult) : Type 0 where
  pub status : r.status ≡ NoMemory
  pub returned : ReturnsWanted w r

-- AN ANSWER IS GIVEN OR NONE, with no status but its own, or that of a sink that failed
abbrev pub GivesFound : Result Answer Wanted → CallResult → Option (List ℕ) → Option (List ℕ) → Type 0
GivesFound (Ok a) r before after = Delivered a r before after
GivesFound (Err w) r before after = ReturnsBlock w r × (after ≡ before)
