-- The lines of a run: at most seven for each step, and their work is the number of steps.
use Rattle.run_size_laws.proofs.Common.{◌≡◌, ◌+◌, ◌*◌, ◌≤◌, ℕ, zero, suc, Option, Some, None, List, [], ◌∷◌, ◌++◌, length, refl, arith, inl, inr, slice_get, sum_by, length-append, length-replicate, sum_by-append, sum_by-cons, In, MachineState, Task, TaskStatus, Running, Waiting, Ended, Joined, EntryValue, IsKind, FitInLog, IsInPlace, GraphStrand, ProgramText, act_line, deed_lines, entry_lines, lines_from, lines_of_deed, step_lines, steps_lines, strand_lines, spot_after, Event, Spot, event, spot_behind, Act, LogLine, Deed, act_of, deed_of, machine_after, stepped, tasks_in, tasks_of, act_of_deed, moved_lines, turn_lines, Kind, Took, Ran, Chunk, Begin, End, PutOff, Mark, More, Sweep, Fuel, work_told, units_of}
use Rattle.run_turn_laws.specs.below.line_kinds as lines
use Rattle.run_turn_laws.specs.below.run_deltas as deeds

-- WHAT LINES TELL

abbrev pub line_work : LogLine → ℕ
line_work lines.Version = 0
line_work (lines.Strand t i) = 0
line_work (lines.Act a) = units_of a
line_work (lines.Name site) = 0
line_work lines.Comment = 0
line_work lines.End = 0

abbrev pub lines_work : List LogLine → ℕ
lines_work ls = sum_by line_work ls

-- a line tells one act at most
one_told : (s : Spot) (l : LogLine) → length (spot_behind s l).events ≤ length s.events + 1
one_told s lines.Version = omega arith
one_told s (lines.Strand t i) = omega arith
one_told s (lines.Act a) = by s.here refl
  where
    by : (o : Option GraphStrand) → s.here ≡ o → length (spot_behind s (lines.Act a)).events ≤ length s.events + 1
    by None e = rw e (omega arith)
    by (Some u) e = rw e (let more = length-append s.events (event u a ∷ []) in omega (arith, more))
one_told s (lines.Name site) = omega arith
one_told s lines.Comment = omega arith
one_told s lines.End = omega arith

pub few_told : (s : Spot) (ls : List LogLine) → length (spot_after s ls).events ≤ length s.events + length ls
few_told s [] = omega arith
few_told s (l ∷ ls) = let one = one_told s l in let rest = few_told (spot_behind s l) ls in omega (arith, one, rest)

-- a line in its place tells its work
one_work : (s : Spot) (l : LogLine) → IsInPlace s l → work_told (spot_behind s l).events ≡ work_told s.events + line_work l
one_work s lines.Version in_place = absurd in_place
one_work s (lines.Strand t i) in_place = omega arith
one_work s (lines.Act a) in_place =
    rw in_place.1 (let more = sum_by-append (λ (d : Event). units_of d.act) s.events (event in_place.0 a ∷ []) in omega (arith, more))
one_work s (lines.Name site) in_place = absurd in_place
one_work s lines.Comment in_place = absurd in_place
one_work s lines.End in_place = absurd in_place

pub all_work : (s : Spot) (ls : List LogLine) → FitInLog s ls → work_told (spot_after s ls).events ≡ work_told s.events + lines_work ls
all_work s [] fit = omega arith
all_work s (l ∷ ls) fit =
    let one = one_work s l fit.0.1 in
    let rest = all_work (spot_behind s l) ls fit.1 in
    let more = sum_by-cons line_work l ls in
    omega (arith, one, rest, more)

-- THE LINES OF A STEP: five at most, none of which is work

both_work : (ks ls : List LogLine) → lines_work (ks ++ ls) ≡ lines_work ks + lines_work ls
both_work ks ls = sum_by-append line_work ks ls

act_lines : (o : Option Act) → length (act_line o) ≤ 1
act_lines None = omega arith
act_lines (Some a) = omega arith

few_deeds : (m : MachineState) (line : ℕ) (o : Option Deed) → length (deed_lines m line o) ≤ 1
few_deeds m line None = omega arith
few_deeds m line (Some deed) = act_lines (act_of_deed m line deed)

deed_work : (m : MachineState) (line : ℕ) (deed : Deed) → lines_work (act_line (act_of_deed m line deed)) ≡ 0
deed_work m line (deeds.Allocates n) = refl
deed_work m line (deeds.Reads n at (deeds.Reference r)) = refl
deed_work m line (deeds.Reads n at (deeds.Number k)) = refl
deed_work m line (deeds.Counts n) = refl
deed_work m line (deeds.Writes n at (deeds.Reference r)) = refl
deed_work m line (deeds.Writes n at (deeds.Number k)) = refl
deed_work m line (deeds.Swaps n at r swapped) = refl
deed_work m line (deeds.Freezes n) = refl
deed_work m line (deeds.Prints k) = refl

deeds_work : (m : MachineState) (line : ℕ) (o : Option Deed) → lines_work (deed_lines m line o) ≡ 0
deeds_work m line None = refl
deeds_work m line (Some deed) = deed_work m line deed

-- so many lines, without work
abbrev AreTurns : List LogLine → Type 0
AreTurns ls = (length ls ≤ 4) × (lines_work ls ≡ 0)

turns_are : (made : ℕ) (m : MachineState) (t : ℕ) (parent : Option ℕ) (status : TaskStatus) → AreTurns (turn_lines made m t parent status)
turns_are made m t parent Running = (omega arith, refl)
turns_are made m t parent Waiting = (omega arith, refl)
turns_are made m t parent (Ended k n) = (omega arith, refl)
turns_are made m t None Joined = (omega arith, refl)
turns_are made m t (Some q) Joined = (omega arith, refl)

moved_are : (made : ℕ) (m : MachineState) (t : ℕ) (o : Option Task) → AreTurns (moved_lines made m t o)
moved_are made m t None = (omega arith, refl)
moved_are made m t (Some x) = turns_are made m t x.parent x.status

abbrev IsStep : List LogLine → Type 0
IsStep ls = (length ls ≤ 5) × (lines_work ls ≡ 0)

step_is : (made : ℕ) (m : MachineState) (t : ℕ) (o : _) → IsStep (lines_of_deed made m t o)
step_is made m t None = (omega arith, refl)
step_is made m t (Some s) =
    let first = deed_lines m s.line s.deed in
    let rest = moved_lines made m t (slice_get m.tasks t) in
    let moved = moved_are made m t (slice_get m.tasks t) in
    let few = few_deeds m s.line s.deed in
    let none = deeds_work m s.line s.deed in
    let both = length-append first rest in
    let works = both_work first rest in
    (omega (arith, few, moved.0, both), omega (arith, none, moved.1, works))

-- ENTRIES

abbrev AreSteps : ℕ → List LogLine → Type 0
AreSteps k ls = (length ls ≤ 5 * k) × (lines_work ls ≡ 0)

steps_are : (p : ProgramText) (m : MachineState) (t k : ℕ) → AreSteps k (steps_lines p m t k)
steps_are p m t zero = (omega arith, refl)
steps_are p m t (suc k) =
    let m' = stepped p m t k in
    let before = steps_are p m t k in
    let last = step_is (length m'.tasks) (stepped p m' t 1) t (deed_of (act_of p m' t)) in
    let both = length-append (steps_lines p m t k) (step_lines p m' t) in
    let works = both_work (steps_lines p m t k) (step_lines p m' t) in
    (omega (arith, before.0, last.0, both), omega (arith, before.1, last.1, works))

-- lines of so many steps
abbrev pub TellSteps : ℕ → List LogLine → Type 0
TellSteps k ls = (length ls ≤ 7 * k) × (lines_work ls ≡ k)

entry_tells : (p : ProgramText) (m : MachineState) (kind : Kind) → IsKind kind → TellSteps (length (tasks_in kind)) (entry_lines p m kind)
entry_tells p m (Took t) is = (omega arith, refl)
entry_tells p m (Ran t k) is =
    let steps = steps_are p m t k in
    let both = length-append (strand_lines m t k) (steps_lines p m t k) in
    let works = both_work (strand_lines m t k) (steps_lines p m t k) in
    let first : lines_work (strand_lines m t k) ≡ k = omega arith in
    let two : length (strand_lines m t k) ≡ 2 = refl in
    let some = is.1.0 in
    let n = length-replicate k t in
    (omega (arith, steps.0, both, two, some, n), omega (arith, steps.1, works, first, n))
entry_tells p m (Chunk t) is = (omega arith, refl)
entry_tells p m (Begin t) is = (omega arith, refl)
entry_tells p m (End t taken given left) is = (omega arith, refl)
entry_tells p m (PutOff t) is = (omega arith, refl)
entry_tells p m (Mark t) is = (omega arith, refl)
entry_tells p m (More t k) is = (omega arith, refl)
entry_tells p m (Sweep t given) is = (omega arith, refl)
entry_tells p m Fuel is = (omega arith, refl)

pub entries_tell : (p : ProgramText) (m : MachineState) (journal : List EntryValue) → ((e : EntryValue) → In journal e → IsKind e.kind) → TellSteps (length (tasks_of journal)) (lines_from p m journal)
entries_tell p m [] are = (omega arith, refl)
entries_tell p m (e ∷ es) are =
    let m' = machine_after p m e.kind in
    let one = entry_tells p m e.kind (are e (inl refl)) in
    let rest = entries_tell p m' es (λ d i. are d (inr i)) in
    let both = length-append (entry_lines p m e.kind) (lines_from p m' es) in
    let works = both_work (entry_lines p m e.kind) (lines_from p m' es) in
    let steps = length-append (tasks_in e.kind) (tasks_of es) in
    (omega (arith, one.0, rest.0, both, steps), omega (arith, one.1, rest.1, works, steps))
