-- No line of a run's log has a fault.
use Rattle.run_line_laws.proofs.Common.{◌≡◌, ◌+◌, ℕ, Bool, true, false, cond, Option, Some, None, Result, Ok, List, [], ◌∷◌, ◌++◌, length, map, refl, ap, sym, subst, ◌∙◌, arith, flat_map, line_of, LogCause, Spot, file_begin, spot_behind, spot_behind_said, fault_from, fault_of_lines, first_fault, found_at, line_fault, or_later, lines_in, text_of, LocatedFault, name_lines, names_at, names_in, logs_again, logs_are_cut_runs, logs_tell_tasks, Fun, Line, accesses_field, end_lines, log_of, blocks_are_born_once, lines_within, logs_are_within_limits, few_turns, events_told, spot_after, LogLine, Done, Machine, end_of, machine_of, lines_of, lines_unclosed, spot_both, RunLinesHaveNoFault}
use Rattle.run_turn_laws.specs.below.line_kinds as lines
use Rattle.run_line_laws.proofs.Events.{AreToldWell}
use Rattle.run_line_laws.proofs.Lines.{HaveNoFault, before_end, none_both, none_in}

-- NAMES OF SITES

abbrev AreNames : List LogLine → Type 0
AreNames [] = Unit {0}
AreNames (lines.Name site ∷ ls) = AreNames ls
AreNames (lines.Version ∷ ls) = ⊥
AreNames (lines.Strand t i ∷ ls) = ⊥
AreNames (lines.Act a ∷ ls) = ⊥
AreNames (lines.Comment ∷ ls) = ⊥
AreNames (lines.End ∷ ls) = ⊥

names_both : (xs ys : List LogLine) → AreNames xs → AreNames ys → AreNames (xs ++ ys)
names_both [] ys h k = k
names_both (lines.Name site ∷ xs) ys h k = names_both xs ys h k
names_both (lines.Version ∷ xs) ys h k = absurd h
names_both (lines.Strand t i ∷ xs) ys h k = absurd h
names_both (lines.Act a ∷ xs) ys h k = absurd h
names_both (lines.Comment ∷ xs) ys h k = absurd h
names_both (lines.End ∷ xs) ys h k = absurd h

one_name : (b : Bool) (number : ℕ) → AreNames (cond b (lines.Name number ∷ []) [])
one_name true number = tt
one_name false number = tt

code_names : (ls : List Line) → AreNames (flat_map names_at ls)
code_names [] = tt
code_names (l ∷ ls) = names_both (names_at l) (flat_map names_at ls) (one_name (accesses_field l.instr) l.number) (code_names ls)

all_names : (fs : List Fun) → AreNames (flat_map names_in fs)
all_names [] = tt
all_names (f ∷ fs) = names_both (names_in f) (flat_map names_in fs) (code_names f.code) (all_names fs)

-- they have no fault, and lead nowhere
named : (s : Spot) (ls : List LogLine) → s.closed ≡ false → AreNames ls → HaveNoFault s ls × (spot_after s ls ≡ s)
named s [] unclosed h = (tt, refl)
named s (lines.Name site ∷ ls) unclosed h = let more = named s ls unclosed h in ((before_end s.closed unclosed, more.0), more.1)
named s (lines.Version ∷ ls) unclosed h = absurd h
named s (lines.Strand t i ∷ ls) unclosed h = absurd h
named s (lines.Act a ∷ ls) unclosed h = absurd h
named s (lines.Comment ∷ ls) unclosed h = absurd h
named s (lines.End ∷ ls) unclosed h = absurd h

-- THE END

ending : (s : Spot) (e : Option _) → s.closed ≡ false → HaveNoFault s (end_lines e)
ending s (Some (Machine Done)) unclosed = (before_end s.closed unclosed, tt)
ending s _ unclosed = tt

-- LINES AS THEY ARE READ

abbrev said_fault : ℕ → Spot → ℕ → List (Result LogLine LogCause) → Option LocatedFault
said_fault file s line [] = None
said_fault file s line (r ∷ rs) = found_at file line (line_fault s r) (said_fault file (spot_behind_said s r) (line + 1) rs)

by_said : (file : ℕ) (s : Spot) (line : ℕ) (ws : List (List ℕ)) → fault_from file s line ws ≡ said_fault file s line (map line_of ws)
by_said file s line [] = refl
by_said file s line (w ∷ ws) = ap (found_at file line (line_fault s (line_of w))) (by_said file (spot_behind_said s (line_of w)) (line + 1) ws)

none_said : (file : ℕ) (s : Spot) (line : ℕ) (ls : List LogLine) → HaveNoFault s ls → said_fault file s line (map Ok ls) ≡ None
none_said file s line [] h = refl
none_said file s line (l ∷ ls) h = ap (λ o. found_at file line o (said_fault file (spot_behind s l) (line + 1) (map Ok ls))) h.0 ∙ none_said file (spot_behind s l) (line + 1) ls h.1

heads : {A : Type 0} (x y : A) (xs ys : List A) → x ∷ xs ≡ y ∷ ys → x ≡ y
heads x y xs ys e = cc

tails : {A : Type 0} (x y : A) (xs ys : List A) → x ∷ xs ≡ y ∷ ys → xs ≡ ys
tails x y xs ys e = cc

-- behind the version
none_read : (ws : List (List ℕ)) (ls : List LogLine) → map line_of ws ≡ Ok lines.Version ∷ map Ok ls → HaveNoFault (file_begin []) ls → fault_of_lines 0 [] ws ≡ None
none_read [] ls e h = absurd cc
none_read (w ∷ ws) ls e h =
    ap (λ r. found_at 0 1 (first_fault r) (fault_from 0 (file_begin []) 2 ws)) (heads (line_of w) (Ok lines.Version) (map line_of ws) (map Ok ls) e)
    ∙ (by_said 0 (file_begin []) 2 ws ∙ (ap (said_fault 0 (file_begin []) 2) (tails (line_of w) (Ok lines.Version) (map line_of ws) (map Ok ls) e) ∙ none_said 0 (file_begin []) 2 ls h))

-- THE LOG OF A RUN

pub run_lines_have_no_fault : RunLinesHaveNoFault
run_lines_have_no_fault p s journal legal small =
    let steps = small.steps in
    let begin : Spot = file_begin [] in
    let events = events_told (lines_of p s journal) in
    let n = length (machine_of p s journal).tasks in
    let tasks = logs_tell_tasks p s journal legal in
    let T : AreToldWell n events = record {
      told = tasks.tasks;
      run = logs_are_cut_runs p s journal legal;
      few = few_turns p s journal legal steps;
      unreleased = tasks.unreleased;
      born = blocks_are_born_once p s journal legal (omega (arith, steps));
    } in
    let names = named begin (name_lines p) refl (all_names p.functions) in
    let acted = none_in n events T begin (lines_of p s journal) refl (logs_are_within_limits p s journal legal small) refl in
    let front = none_both begin (name_lines p) (lines_of p s journal) names.0 (subst (λ r. HaveNoFault r (lines_of p s journal)) (sym names.1) acted) in
    let at : spot_after begin (name_lines p ++ lines_of p s journal) ≡ spot_after begin (lines_of p s journal) =
    spot_both begin (name_lines p) (lines_of p s journal) ∙ ap (λ r. spot_after r (lines_of p s journal)) names.1 in
    let end = ending (spot_after begin (lines_of p s journal)) (end_of p s journal) (lines_unclosed p s journal legal) in
    let all = none_both begin (name_lines p ++ lines_of p s journal) (end_lines (end_of p s journal)) front (subst (λ r. HaveNoFault r (end_lines (end_of p s journal))) (sym at) end) in
    ap (λ o. or_later o None)
    (none_read (lines_in (text_of (log_of p s journal))) ((name_lines p ++ lines_of p s journal) ++ end_lines (end_of p s journal)) (logs_again p s journal small.names (lines_within p s journal legal small)) all)
