-- How far a walk along the lines of a log has come.
use Rattle.std.specs.Prelude.{◌≡◌, ◌<◌, ℕ, ◌+◌, Bool, Option, Some, None, Result, Ok, Err, List, [], ◌∷◌, ◌++◌, IfSome, option_map, nat_lt, if◌then◌else◌}
use Rattle.log_pieces.specs.Common.{LogCause, Act, LogLine, strand_limit, GraphStrand, strand, Event, Spot, has_ended, is_last, strand_behind}
use Rattle.log_lines.specs.declared.line.LogLine.TheVariants as lines
use Rattle.log_pieces.specs.declared.piece.LogPiece.{LogPiece}
use Rattle.log_pieces.specs.declared.walk.OpenStrand.{OpenStrand}
use Rattle.log_pieces.specs.declared.walk.LineWalk.{LineWalk}
use Rattle.log_pieces.specs.Claims.{ClaimsHold}

-- the walk is at this spot
pub record IsAtSpot (walk : LineWalk) (spot : Spot) : Type 0 where
  pub here : option_map (λ o. o.strand) walk.here ≡ spot.here
  pub ended : IfSome walk.here (λ o. o.ended ≡ has_ended spot.events o.strand)
  pub closed : walk.closed ≡ spot.closed
  pub knows : ClaimsHold walk.claims spot.events

-- the open strand's number is within the limit
abbrev pub OpenStrandIsSmall : Option OpenStrand → Type 0
OpenStrandIsSmall here = IfSome here (λ o. o.strand.index < strand_limit)

-- the strand of the next line and where its piece begins, and the pieces that have ended
pub record Cut : Type 0 where
  pub place : Option (GraphStrand × ℕ)
  pub pieces : List LogPiece

abbrev pub open_place : OpenStrand → GraphStrand × ℕ
open_place o = (o.strand, o.begin)

abbrev pub cut_of : LineWalk → Cut
cut_of walk = record { place = option_map open_place walk.here; pieces = walk.pieces }

-- with the piece of the open strand, unless it is empty
abbrev pub with_piece : ℕ → Option (GraphStrand × ℕ) → ℕ → List LogPiece → List LogPiece
with_piece file None end pieces = pieces
with_piece file (Some (u, begin)) end pieces =
    if nat_lt begin end then pieces ++ record { strand = u; file = file; begin = begin; end = end } ∷ [] else pieces

-- behind an act that ends its strand, another one is open, or none
abbrev pub turned : ℕ → Cut → GraphStrand → Act → ℕ → Cut
turned file cut u act end = record { place = option_map (λ v. (v, end)) (strand_behind u act); pieces = with_piece file cut.place end cut.pieces }

-- the strand that is open behind an act that ends another one
abbrev pub open_behind : List Event → GraphStrand → Act → ℕ → Option OpenStrand
open_behind events u act end = option_map (λ v. record { strand = v; ended = has_ended events v; begin = end }) (strand_behind u act)

abbrev pub cut_behind_act : ℕ → Cut → Option (GraphStrand × ℕ) → Act → ℕ → Cut
cut_behind_act file cut None act end = cut
cut_behind_act file cut (Some (u, begin)) act end = if is_last act then turned file cut u act end else cut

-- behind a line that stands from one place up to another
abbrev pub cut_behind : ℕ → Cut → LogLine → ℕ → ℕ → Cut
cut_behind file cut lines.Version begin end = cut
cut_behind file cut (lines.Strand t i) begin end = record { place = Some (strand t i, end); pieces = with_piece file cut.place begin cut.pieces }
cut_behind file cut (lines.Act act) begin end = cut_behind_act file cut cut.place act end
cut_behind file cut (lines.Name site) begin end = cut
cut_behind file cut lines.Comment begin end = cut
cut_behind file cut lines.End begin end = cut

abbrev pub cut_behind_said : ℕ → Cut → Result LogLine LogCause → ℕ → ℕ → Cut
cut_behind_said file cut (Ok line) begin end = cut_behind file cut line begin end
cut_behind_said file cut (Err cause) begin end = cut
