-- What pieces of texts say.
use Rattle.std.specs.Prelude.{◌≡◌, ◌≤◌, ◌<◌, ◌+◌, ℕ, Bool, Option, Some, None, Result, Ok, Err, List, [], ◌∷◌, ◌++◌, map, drop, length, slice_range, slice_index_or}
use Rattle.std.specs.List.{flat_map}
use Rattle.log_pieces.specs.Common.{lines_of, LogCause, Act, LogLine, line_of, GraphStrand, LocatedFault, Event, event}
use Rattle.log_lines.specs.declared.line.LogLine.TheVariants as lines
use Rattle.log_pieces.specs.declared.piece.LogPiece.{LogPiece}
use Rattle.log_pieces.specs.LineWalk.{Cut}

abbrev pub act_said : Result LogLine LogCause → List Act
act_said (Ok lines.Version) = []
act_said (Ok (lines.Strand t i)) = []
act_said (Ok (lines.Act act)) = act ∷ []
act_said (Ok (lines.Name site)) = []
act_said (Ok lines.Comment) = []
act_said (Ok lines.End) = []
act_said (Err cause) = []

-- the acts that a text says
abbrev pub acts_in : List ℕ → List Act
acts_in text = flat_map (λ line. act_said (line_of line)) (lines_of text)

abbrev pub text_at : List (List ℕ) → ℕ → List ℕ
text_at texts file = slice_index_or texts file []

abbrev pub acts_of_piece : List (List ℕ) → LogPiece → List Act
acts_of_piece texts p = acts_in (slice_range (text_at texts p.file) p.begin p.end)

abbrev pub on_strand : GraphStrand → List Act → List Event
on_strand u acts = map (event u) acts

-- what happens in a piece
abbrev pub events_in : List (List ℕ) → LogPiece → List Event
events_in texts p = on_strand p.strand (acts_of_piece texts p)

abbrev pub events_of_pieces : List (List ℕ) → List LogPiece → List Event
events_of_pieces texts pieces = flat_map (events_in texts) pieces

-- what happens on the open strand up to a place
abbrev pub events_open : List ℕ → Option (GraphStrand × ℕ) → ℕ → List Event
events_open text None at = []
events_open text (Some (u, begin)) at = on_strand u (acts_in (slice_range text begin at))

-- from one place of a text up to another stands a line, and behind it its line feed
pub record IsLineAt (text : List ℕ) (at end : ℕ) : Type 0 where
  pub after : at ≤ end
  pub within : end < length text
  pub cut : drop at text ≡ slice_range text at end ++ 10 ∷ drop (end + 1) text
  pub alone : lines_of (slice_range text at end) ≡ slice_range text at end ∷ []

-- what follows begins a line
abbrev pub BeginsLine : List ℕ → Type 0
BeginsLine xs = (ys : List ℕ) → acts_in (xs ++ ys) ≡ acts_in xs ++ acts_in ys

abbrev pub IsBegun : List ℕ → Option (GraphStrand × ℕ) → ℕ → Type 0
IsBegun text None at = Unit {0}
IsBegun text (Some (u, begin)) at = (begin ≤ at) × BeginsLine (slice_range text begin at)

-- up to a place of a text, the pieces and the open one have all that has happened
pub record Cuts (texts : List (List ℕ)) (text : List ℕ) (cut : Cut) (at : ℕ) (events : List Event) : Type 0 where
  pub all : events_of_pieces texts cut.pieces ++ events_open text cut.place at ≡ events
  pub begun : IsBegun text cut.place at

-- what a walk answers: the first fault, or, where there is none, whether the log was cut off
abbrev pub WalkTells : Result Bool LocatedFault → Option LocatedFault → Bool → Type 0
WalkTells (Ok cut) fault is_cut = (fault ≡ None) × (cut ≡ is_cut)
WalkTells (Err found) fault is_cut = fault ≡ Some found
