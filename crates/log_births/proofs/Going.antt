-- Along the pieces of a log.
use Rattle.log_births.proofs.Common.{◌≡◌, ◌<◌, ◌∙◌, ℕ, List, length, get_or, take, slice_range, refl, ap, Option, Some, None, slice_get, arith, IfSome, take_all, slice_get-get_or, GraphStrand, WalkValue, LogPiece, text_at, acts_in, events_of_pieces, LogTasks, IsPlaceOf, ArePiecePlaces, Event, Lifetimes, Findings, IsPart, KnowAll, IsScene, AreFoundBelow}
use Rattle.log_births.proofs.Parts.{part_of}

module _ (texts : List (List ℕ)) (pieces : List LogPiece) (places : List (Option ℕ)) (i : ℕ) (d : LogPiece) (e : Option ℕ) (text : List ℕ) (first line : ℕ) (lt : i < length pieces) (size : length places ≡ length pieces)
    (is : text ≡ slice_range (text_at texts (get_or pieces i d).file) (get_or pieces i d).begin (get_or pieces i d).end) (count : first ≡ length (events_of_pieces texts (take i pieces))) where
  place_here : (tasks : LogTasks) (order : List GraphStrand) → ArePiecePlaces tasks order pieces places → IsPlaceOf tasks order (get_or pieces i d).strand (get_or places i e)
  place_here tasks order are = are.each i (get_or pieces i d) (get_or places i e) (slice_get-get_or pieces i d lt) (slice_get-get_or places i e (omega (arith, lt, size)))

  -- the births and releases of the next piece
  pub known_on : (old new : Lifetimes)
      → ((tasks : LogTasks) (order : List GraphStrand) (events : List Event) (s : GraphStrand) → IsPlaceOf tasks order s (get_or places i e) → IsPart events first s (acts_in text) → KnowAll tasks order events first old → KnowAll tasks order events line new)
      → ((tasks : LogTasks) (order : List GraphStrand) → ArePiecePlaces tasks order pieces places → KnowAll tasks order (events_of_pieces texts pieces) first old)
      → (tasks : LogTasks) (order : List GraphStrand) → ArePiecePlaces tasks order pieces places → KnowAll tasks order (events_of_pieces texts pieces) line new
  known_on old new step before tasks order are =
      step tasks order (events_of_pieces texts pieces) (get_or pieces i d).strand (place_here tasks order are) (part_of texts pieces i d text first lt is count) (before tasks order are)

  -- what is found in it
  pub found_on : (walk : WalkValue) (known : Lifetimes) (start old new : Findings)
      → ((tasks : LogTasks) (events : List Event) (s : GraphStrand) → IsScene tasks events walk known → IsPlaceOf tasks walk.order s (get_or places i e) → IsPart events first s (acts_in text) → AreFoundBelow events tasks first old → AreFoundBelow events tasks line new)
      → ((tasks : LogTasks) → IsScene tasks (events_of_pieces texts pieces) walk known → ArePiecePlaces tasks walk.order pieces places → AreFoundBelow (events_of_pieces texts pieces) tasks 0 start → AreFoundBelow (events_of_pieces texts pieces) tasks first old)
      → (tasks : LogTasks) → IsScene tasks (events_of_pieces texts pieces) walk known → ArePiecePlaces tasks walk.order pieces places → AreFoundBelow (events_of_pieces texts pieces) tasks 0 start → AreFoundBelow (events_of_pieces texts pieces) tasks line new
  found_on walk known start old new step before tasks scene are none =
      step tasks (events_of_pieces texts pieces) (get_or pieces i d).strand scene (place_here tasks walk.order are) (part_of texts pieces i d text first lt is count) (before tasks scene are none)

-- past the last piece
pub count_all : (texts : List (List ℕ)) (pieces : List LogPiece) (i line : ℕ) → i ≡ length pieces → line ≡ length (events_of_pieces texts (take i pieces)) → line ≡ length (events_of_pieces texts pieces)
count_all texts pieces i line end count = count ∙ ap (λ (ps : List LogPiece). length (events_of_pieces texts ps)) (take_all i pieces (omega (arith, end)))

place_by : (o : Option ℕ) (n : ℕ) → ((p : ℕ) → o ≡ Some p → p < n) → IfSome o (λ p. p < n)
place_by None n h = tt
place_by (Some p) n h = h p refl

-- the place of a piece is there
pub place_there : (places : List (Option ℕ)) (i : ℕ) (e : Option ℕ) (n : ℕ) → i < length places → ((k p : ℕ) → slice_get places k ≡ Some (Some p) → p < n) → IfSome (get_or places i e) (λ p. p < n)
place_there places i e n lt there = place_by (get_or places i e) n (λ p is. there i p (slice_get-get_or places i e lt ∙ ap (λ (o : Option ℕ). Some o) is))
