-- Lines whose acts aren't at fault have no fault.
use Rattle.run_line_laws.proofs.Common.{◌≡◌, ℕ, Bool, false, Option, Some, None, List, [], ◌∷◌, ◌++◌, refl, ap, sym, subst, ◌∙◌, append-nil, append_assoc, Ok, Event, event, Spot, spot_behind, spot_behind_act, strand_behind, act_fault, line_fault, where_true, FitInLog, GraphStrand, spot_after, Act, LogLine}
use Rattle.log_form.specs.declared.fault.LogFault.TheVariants as faults
use Rattle.run_turn_laws.specs.below.line_kinds as lines
use Rattle.run_line_laws.proofs.Events.{AreToldWell, faultless}

abbrev pub HaveNoFault : Spot → List LogLine → Type 0
HaveNoFault s [] = Unit {0}
HaveNoFault s (l ∷ ls) = (line_fault s (Ok l) ≡ None) × HaveNoFault (spot_behind s l) ls

pub none_both : (s : Spot) (xs ys : List LogLine) → HaveNoFault s xs → HaveNoFault (spot_after s xs) ys → HaveNoFault s (xs ++ ys)
none_both s [] ys h k = k
none_both s (x ∷ xs) ys h k = (h.0, none_both (spot_behind s x) xs ys h.1 k)

-- a line that opens a strand, names a site or ends the log, before the end
pub before_end : (b : Bool) → b ≡ false → where_true b faults.AfterEnd None ≡ None
before_end b unclosed = ap (λ v. where_true v faults.AfterEnd None) unclosed

-- WHAT IS TOLD GROWS

act_grows : (s : Spot) (here : Option GraphStrand) (a : Act) → (more : List Event) × ((spot_behind_act s here a).events ≡ s.events ++ more)
act_grows s None a = ([], sym (append-nil s.events))
act_grows s (Some u) a = (event u a ∷ [], refl)

line_grows : (s : Spot) (l : LogLine) → (more : List Event) × ((spot_behind s l).events ≡ s.events ++ more)
line_grows s lines.Version = ([], sym (append-nil s.events))
line_grows s (lines.Strand t i) = ([], sym (append-nil s.events))
line_grows s (lines.Act a) = act_grows s s.here a
line_grows s (lines.Name site) = ([], sym (append-nil s.events))
line_grows s lines.Comment = ([], sym (append-nil s.events))
line_grows s lines.End = ([], sym (append-nil s.events))

grows : (s : Spot) (ls : List LogLine) → (more : List Event) × ((spot_after s ls).events ≡ s.events ++ more)
grows s [] = ([], sym (append-nil s.events))
grows s (l ∷ ls) =
    let one = line_grows s l in
    let all = grows (spot_behind s l) ls in
    (one.0 ++ all.0, all.1 ∙ (ap (λ es. es ++ all.0) one.1 ∙ append_assoc s.events one.0 all.0))

-- THE LINES OF A RUN

module _ (n : ℕ) (events : List Event) (T : AreToldWell n events) where
  pub none_in : (s : Spot) (ls : List LogLine) → s.closed ≡ false → FitInLog s ls → (spot_after s ls).events ≡ events → HaveNoFault s ls
  none_in s [] unclosed fit is = tt
  none_in s (lines.Strand t i ∷ ls) unclosed fit is = (before_end s.closed unclosed, none_in (spot_behind s (lines.Strand t i)) ls unclosed fit.1 is)
  none_in s (lines.Act a ∷ ls) unclosed fit is =
      let u : GraphStrand = fit.0.1.0 in
      let here : s.here ≡ Some u = fit.0.1.1 in
      let behind : Spot = spot_behind s (lines.Act a) in
      let next : behind ≡ record { here = strand_behind u a; closed = s.closed; events = s.events ++ event u a ∷ [] } = ap (λ o. spot_behind_act s o a) here in
      let more = grows behind ls in
      let all : s.events ++ event u a ∷ more.0 ≡ events = sym (append_assoc s.events (event u a ∷ []) more.0) ∙ (ap (λ (r : Spot). r.events ++ more.0) (sym next) ∙ (sym more.1 ∙ is)) in
      let none : act_fault s.events (Some u) a ≡ None = faultless n s.events (event u a) more.0 (subst (AreToldWell n) (sym all) T) in
      ((λ i. where_true (unclosed i) faults.AfterEnd (act_fault s.events (here i) a)) ∙ none, none_in behind ls (ap (λ (r : Spot). r.closed) next ∙ unclosed) fit.1 is)
  none_in s (lines.Version ∷ ls) unclosed fit is = absurd fit.0.1
  none_in s (lines.Name site ∷ ls) unclosed fit is = absurd fit.0.1
  none_in s (lines.Comment ∷ ls) unclosed fit is = absurd fit.0.1
  none_in s (lines.End ∷ ls) unclosed fit is = absurd fit.0.1
