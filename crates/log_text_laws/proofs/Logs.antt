-- The log of a run is read again as its lines, and tells what they tell.
use Rattle.log_text_laws.proofs.Common.{◌≡◌, ℕ, Bool, true, false, cond, List, [], ◌∷◌, ◌++◌, Option, Some, Result, Ok, map, refl, ap, ◌∙◌, flat_map, recursion_from_All, Fun, Line, Done, RunEnd, Machine, end_of, LogCause, LogLine, line_of, IsLine, lines_in, text_of, Spot, spot_behind, spot_behind_said, spot_behind_all, file_begin, accesses_field, end_lines, lines_of, spot_after, spot_both, names_at, names_in, name_lines, lines_in_log, LogsAreReadAgain, LogsAreToldAgain, Trapped, Entangled, Fuel, Pool, lines_unclosed, LogsAreCutUnlessDone, None, sym, subst, not, ◌||◌, ◌↔◌, All, ProgramText, EntryValue, SettingsValue, AllFunctionsNamed}
use Rattle.log_lines.specs.declared.line.LogLine.TheVariants as lines
use Rattle.run_log.specs.Log.{log_of}
use Rattle.log_text_laws.proofs.Texts.{AreWithin, log_again}

end_within : (e : Option RunEnd) → AreWithin (end_lines e)
end_within (Some (Machine Done)) = (tt, tt)
end_within _ = tt

pub logs_again : LogsAreReadAgain
unfolding log_of
logs_again p s journal names within = log_again p (lines_of p s journal) (end_lines (end_of p s journal)) names (recursion_from_All IsLine (lines_of p s journal) within) (end_within (end_of p s journal))

-- WHAT IS TOLD

abbrev spots : Spot → List (Result LogLine LogCause) → Spot
spots s [] = s
spots s (r ∷ rs) = spots (spot_behind_said s r) rs

by_said : (s : Spot) (ws : List (List ℕ)) → spot_behind_all s ws ≡ spots s (map line_of ws)
by_said s [] = refl
by_said s (w ∷ ws) = by_said (spot_behind_said s (line_of w)) ws

said_lines : (s : Spot) (ls : List LogLine) → spots s (map Ok ls) ≡ spot_after s ls
said_lines s [] = refl
said_lines s (l ∷ ls) = said_lines (spot_behind s l) ls

-- names tell nothing
quiet_at : (s : Spot) (number : ℕ) (b : Bool) → spot_after s (cond b (lines.Name number ∷ []) []) ≡ s
quiet_at s number true = refl
quiet_at s number false = refl

quiet_code : (s : Spot) (ls : List Line) → spot_after s (flat_map names_at ls) ≡ s
quiet_code s [] = refl
quiet_code s (l ∷ ls) = spot_both s (names_at l) (flat_map names_at ls) ∙ (ap (λ r. spot_after r (flat_map names_at ls)) (quiet_at s l.number (accesses_field l.instr)) ∙ quiet_code s ls)

quiet_names : (s : Spot) (fs : List Fun) → spot_after s (flat_map names_in fs) ≡ s
quiet_names s [] = refl
quiet_names s (f ∷ fs) = spot_both s (names_in f) (flat_map names_in fs) ∙ (ap (λ r. spot_after r (flat_map names_in fs)) (quiet_code s f.code) ∙ quiet_names s fs)

-- nor does an end
quiet_end : (s : Spot) (e : Option RunEnd) → (spot_after s (end_lines e)).events ≡ s.events
quiet_end s (Some (Machine Done)) = refl
quiet_end s _ = refl

-- where the text ends
text_spot : (p : ProgramText) (s : SettingsValue) (journal : List EntryValue) → AllFunctionsNamed p → All IsLine (lines_of p s journal)
    → spot_behind_all (file_begin []) (lines_in (text_of (log_of p s journal))) ≡ spot_after (spot_after (file_begin []) (lines_of p s journal)) (end_lines (end_of p s journal))
text_spot p s journal names within =
    let begin : Spot = file_begin [] in
    let ls = lines_of p s journal in
    let es = end_lines (end_of p s journal) in
    by_said begin (lines_in (text_of (log_of p s journal)))
    ∙ (ap (spots begin) (logs_again p s journal names within)
    ∙ (said_lines begin (lines_in_log p s journal)
    ∙ (spot_both begin ((lines.Version ∷ []) ++ name_lines p ++ ls) es
    ∙ ap (λ r. spot_after r es) (spot_both begin ((lines.Version ∷ []) ++ name_lines p) ls ∙ ap (λ r. spot_after r ls) (spot_both begin (lines.Version ∷ []) (name_lines p) ∙ quiet_names begin p.functions)))))

pub logs_told : LogsAreToldAgain
logs_told p s journal names within = ap (λ (r : Spot). r.events) (text_spot p s journal names within) ∙ quiet_end (spot_after (file_begin []) (lines_of p s journal)) (end_of p s journal)

-- WHETHER IT IS CUT

cut_by : (s : Spot) (e : Option RunEnd) → s.closed ≡ false → ((not (spot_after s (end_lines e)).closed || false) ≡ false) ↔ (e ≡ Some (Machine Done))
cut_by s None unclosed = (λ h. absurd (let z : true ≡ false = ap (λ b. not b || false) (sym unclosed) ∙ h in cc), λ e. absurd cc)
cut_by s (Some (Machine Done)) unclosed = (λ h. refl, λ e. refl)
cut_by s (Some (Machine (Trapped kind t line))) unclosed = (λ h. absurd (let z : true ≡ false = ap (λ b. not b || false) (sym unclosed) ∙ h in cc), λ e. absurd cc)
cut_by s (Some (Machine (Entangled reader owner))) unclosed = (λ h. absurd (let z : true ≡ false = ap (λ b. not b || false) (sym unclosed) ∙ h in cc), λ e. absurd cc)
cut_by s (Some (Fuel steps)) unclosed = (λ h. absurd (let z : true ≡ false = ap (λ b. not b || false) (sym unclosed) ∙ h in cc), λ e. absurd cc)
cut_by s (Some (Pool chunks)) unclosed = (λ h. absurd (let z : true ≡ false = ap (λ b. not b || false) (sym unclosed) ∙ h in cc), λ e. absurd cc)

pub logs_cut : LogsAreCutUnlessDone
logs_cut p s journal legal names within =
    subst (λ (r : Spot). ((not r.closed || false) ≡ false) ↔ (end_of p s journal ≡ Some (Machine Done))) (sym (text_spot p s journal names within))
    (cut_by (spot_after (file_begin []) (lines_of p s journal)) (end_of p s journal) (lines_unclosed p s journal legal))
