-- What lines tell, added to what was told before.
use Rattle.run_turn_laws.proofs.Common.{◌≡◌, ℕ, Bool, false, List, [], ◌∷◌, ◌++◌, length, Option, Some, None, refl, ap, sym, ◌∙◌, append-nil, append_assoc, flat_map-append, GraphStrand, Act, LogLine, Event, event, Spot, spot_behind, spot_behind_act, strand_behind, spot_after, turns_by, turns_told, FollowTurns}
use Rattle.log_lines.specs.declared.line.LogLine.TheVariants as lines

-- LINES ADD TO WHAT WAS TOLD

abbrev pub spot : Option GraphStrand → List Event → Spot
spot here events = record { here = here; closed = false; events = events }

pub spot_both : (s : Spot) (ks ls : List LogLine) → spot_after s (ks ++ ls) ≡ spot_after (spot_after s ks) ls
spot_both s [] ls = refl
spot_both s (k ∷ ks) ls = spot_both (spot_behind s k) ks ls

-- where a line leads from an open file's spot, and what it tells there
abbrev pub onto : Spot → List Event → Spot
onto s before = record { here = s.here; closed = s.closed; events = before ++ s.events }

act_adds : (here : Option GraphStrand) (closed : Bool) (before events : List Event) (a : Act)
    → spot_behind_act (record { here = here; closed = closed; events = before ++ events }) here a ≡ onto (spot_behind_act (record { here = here; closed = closed; events = events }) here a) before
act_adds None closed before events a = refl
act_adds (Some u) closed before events a = ap (λ es. record { here = strand_behind u a; closed = closed; events = es }) (append_assoc before events (event u a ∷ []))

line_adds : (s : Spot) (before : List Event) (l : LogLine) → spot_behind (onto s before) l ≡ onto (spot_behind s l) before
line_adds s before lines.Version = refl
line_adds s before (lines.Strand t i) = refl
line_adds s before (lines.Act a) = act_adds s.here s.closed before s.events a
line_adds s before (lines.Name site) = refl
line_adds s before lines.Comment = refl
line_adds s before lines.End = refl

pub lines_add : (s : Spot) (before : List Event) (ls : List LogLine) → spot_after (onto s before) ls ≡ onto (spot_after s ls) before
lines_add s before [] = refl
lines_add s before (l ∷ ls) = ap (λ r. spot_after r ls) (line_adds s before l) ∙ lines_add (spot_behind s l) before ls

-- TURNS THAT ARE TOLD

pub told_both : (events more : List Event) (t : ℕ) → turns_told (events ++ more) t ≡ turns_told events t ++ turns_told more t
told_both events more t = flat_map-append (turns_by t) events more

pub order_more : (before rest : List Event) (e : Event) → FollowTurns before rest → e.strand.index ≡ length (turns_told (before ++ rest) e.strand.task) → FollowTurns before (rest ++ e ∷ [])
order_more before [] e h i = (i ∙ ap (λ es. length (turns_told es e.strand.task)) (append-nil before), tt)
order_more before (d ∷ rest) e h i = (h.0, order_more (before ++ d ∷ []) rest e h.1 (i ∙ ap (λ es. length (turns_told es e.strand.task)) (sym (append_assoc before (d ∷ []) rest))))

-- a spot's lines, by what they tell after nothing
pub after_on : (here : Option GraphStrand) (before : List Event) (ls : List LogLine) → spot_after (spot here before) ls ≡ onto (spot_after (spot here []) ls) before
after_on here before ls = ap (λ es. spot_after (spot here es) ls) (sym (append-nil before)) ∙ lines_add (spot here []) before ls
