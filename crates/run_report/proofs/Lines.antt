-- How lines are put together.
use Rattle.run_report.proofs.Common.{◌≡◌, ℕ, List, [], ◌∷◌, ◌++◌, codes, refl, append_assoc, join_with_byte, decimal, Refused, Over, Spent, NoWorker, NotReady, Holding, NotOut, Collecting, NotCollecting, NotWaiting, Swept, Marking, NotMarking, Long, Due, NotNeeded, NotDue, PoolShort, PoolEnough, Marked, Left, Count, NotSpent, Short, Stopped, RefusedAt, cause_words, refused_words, refused_line}

-- words before the words of a cause
before_cause : (w : List ℕ) (cause : Refused) → join_with_byte 32 (w ∷ cause_words cause) ≡ w ++ 32 ∷ join_with_byte 32 (cause_words cause)
before_cause w Over = refl
before_cause w (Spent steps) = refl
before_cause w NoWorker = refl
before_cause w NotReady = refl
before_cause w (Holding t) = refl
before_cause w NotOut = refl
before_cause w Collecting = refl
before_cause w NotCollecting = refl
before_cause w NotWaiting = refl
before_cause w Swept = refl
before_cause w Marking = refl
before_cause w NotMarking = refl
before_cause w (Long steps) = refl
before_cause w (Due since) = refl
before_cause w (NotNeeded room) = refl
before_cause w (NotDue words) = refl
before_cause w (PoolShort chunks) = refl
before_cause w (PoolEnough chunks) = refl
before_cause w Marked = refl
before_cause w (Left marked) = refl
before_cause w (Count said is) = refl
before_cause w (NotSpent steps) = refl
before_cause w Short = refl
before_cause w Stopped = refl

at_entry : (index : ℕ) (cause : Refused) → (cause ≡ Short → ⊥) → refused_words index cause ≡ codes "entry" ∷ decimal index ∷ cause_words cause
at_entry index Over ne = refl
at_entry index (Spent steps) ne = refl
at_entry index NoWorker ne = refl
at_entry index NotReady ne = refl
at_entry index (Holding t) ne = refl
at_entry index NotOut ne = refl
at_entry index Collecting ne = refl
at_entry index NotCollecting ne = refl
at_entry index NotWaiting ne = refl
at_entry index Swept ne = refl
at_entry index Marking ne = refl
at_entry index NotMarking ne = refl
at_entry index (Long steps) ne = refl
at_entry index (Due since) ne = refl
at_entry index (NotNeeded room) ne = refl
at_entry index (NotDue words) ne = refl
at_entry index (PoolShort chunks) ne = refl
at_entry index (PoolEnough chunks) ne = refl
at_entry index Marked ne = refl
at_entry index (Left marked) ne = refl
at_entry index (Count said is) ne = refl
at_entry index (NotSpent steps) ne = refl
at_entry index Short ne = absurd (ne refl)
at_entry index Stopped ne = refl

-- the end line of a refused entry, from the text of its cause
pub refused_is : (r : RefusedAt) (text : List ℕ) → (r.cause ≡ Short → ⊥) → text ≡ join_with_byte 32 (cause_words r.cause)
    → codes "end: trace refused entry " ++ (decimal r.index ++ 32 ∷ (text ++ 10 ∷ [])) ≡ refused_line r
refused_is r text ne e = rw (at_entry r.index r.cause ne, before_cause (decimal r.index) r.cause, e) (simp append_assoc)
