-- How far the walk has come along the lines of a text.
use Rattle.log_pieces.proofs.Common.{◌≡◌, ◌<◌, ◌≤◌, ◌+◌, ℕ, List, [], ◌∷◌, length, drop, refl, ap, sym, subst, ◌∙◌, slice_range, arith, Option, Some, None, option_map, line_of, GraphStrand, LogFault, lines_in, Spot, spot_behind_said, spot_behind_all, line_fault, fault_from, found_at, OpenStrand, LineWalk, LogPiece, IsAtSpot, open_place, cut_of, cut_behind_said, with_piece, text_at, events_of_pieces, Cuts, IsLineAt}
use Rattle.log_pieces.proofs.Whole.{lines_from}
use Rattle.log_pieces.proofs.Steps.{closed_events, line_step}

-- from a spot on at which the walk began, it is at a spot from which the rest of the lines has what all had
pub record Reaches (old now : LineWalk) (text : List ℕ) (from at : ℕ) (first : Spot) (line : ℕ) : Type 0 where
  pub spot : Spot
  pub follows : IsAtSpot now spot
  pub faults : fault_from old.file first 2 (lines_in (drop from text)) ≡ fault_from old.file spot line (lines_in (drop at text))
  pub ends : spot_behind_all first (lines_in (drop from text)) ≡ spot_behind_all spot (lines_in (drop at text))
  pub cuts : (texts : List (List ℕ)) → text_at texts old.file ≡ text → Cuts texts text (cut_of old) from first.events → Cuts texts text (cut_of now) at spot.events

same_place : (here : Option OpenStrand) (strand : Option GraphStrand) → option_map (λ o. o.strand) here ≡ strand → option_map (λ p. p.0) (option_map open_place here) ≡ strand
same_place None strand e = e
same_place (Some o) strand e = e

-- at the beginning
pub reached_none : (old : LineWalk) (text : List ℕ) (from : ℕ) (first : Spot) → IsAtSpot old first → Reaches old old text from from first 2
reached_none old text from first f = record { spot = first; follows = f; faults = refl; ends = refl; cuts = λ texts t c. c }

module _ (old now : LineWalk) (text : List ℕ) (from at end : ℕ) (first : Spot) (line : ℕ) (is : IsLineAt text at end) (r : Reaches old now text from at first line) where
  -- the fault of the next line
  fault_next : fault_from old.file first 2 (lines_in (drop from text)) ≡ found_at old.file line (line_fault r.spot (line_of (slice_range text at end))) (fault_from old.file (spot_behind_said r.spot (line_of (slice_range text at end))) (line + 1) (lines_in (drop (end + 1) text)))
  fault_next = r.faults ∙ ap (fault_from old.file r.spot line) (lines_from text at end is)

  -- the next line is the first with a fault
  pub reached_fault : (fault : LogFault) → Some fault ≡ line_fault r.spot (line_of (slice_range text at end))
      → Some (record { at = record { file = old.file; line = line }; fault = fault }) ≡ fault_from old.file first 2 (lines_in (drop from text))
  reached_fault fault e = sym (fault_next ∙ ap (λ f. found_at old.file line f (fault_from old.file (spot_behind_said r.spot (line_of (slice_range text at end))) (line + 1) (lines_in (drop (end + 1) text)))) (sym e))

  -- the next line has no fault
  pub reached_more : (new : LineWalk) → now.file ≡ old.file → None ≡ line_fault r.spot (line_of (slice_range text at end))
      → IsAtSpot new (spot_behind_said r.spot (line_of (slice_range text at end)))
      → cut_of new ≡ cut_behind_said now.file (cut_of now) (line_of (slice_range text at end)) at (end + 1)
      → Reaches old new text from (end + 1) first (line + 1)
  reached_more new file e f c = record {
    spot = spot_behind_said r.spot (line_of (slice_range text at end));
    follows = f;
    faults = fault_next ∙ ap (λ g. found_at old.file line g (fault_from old.file (spot_behind_said r.spot (line_of (slice_range text at end))) (line + 1) (lines_in (drop (end + 1) text)))) (sym e);
    ends = r.ends ∙ ap (spot_behind_all r.spot) (lines_from text at end is);
    cuts = λ texts t k.
        subst (λ d. Cuts texts text d (end + 1) (spot_behind_said r.spot (line_of (slice_range text at end))).events) (sym (c ∙ ap (λ n. cut_behind_said n (cut_of now) (line_of (slice_range text at end)) at (end + 1)) file))
        (line_step texts old.file text t r.spot (cut_of now) at end (same_place now.here r.spot.here r.follows.here) is (r.cuts texts t k));
  }

module _ (old now : LineWalk) (text : List ℕ) (from at : ℕ) (first : Spot) (line : ℕ) (r : Reaches old now text from at first line) where
  -- the last piece ends where no line is left
  pub pieces_end : (texts : List (List ℕ)) (place : List LogPiece) → text_at texts old.file ≡ text → now.file ≡ old.file → Cuts texts text (cut_of old) from first.events → lines_in (drop at text) ≡ []
      → place ≡ with_piece now.file (cut_of now).place at now.pieces
      → events_of_pieces texts place ≡ (spot_behind_all first (lines_in (drop from text))).events
  pieces_end texts place t file k none e =
      ap (events_of_pieces texts) e
      ∙ closed_events texts now.file text (cut_of now).place at now.pieces (ap (text_at texts) file ∙ t)
      ∙ (r.cuts texts t k).all
      ∙ sym (ap (λ s. s.events) (r.ends ∙ ap (spot_behind_all r.spot) none))
