-- Along the pieces of a log.
use Rattle.log_heaps.proofs.Common.{◌≡◌, ◌<◌, ℕ, List, length, get_or, take, slice_range, Option, arith, slice_get-get_or, WalkValue, LogPiece, text_at, acts_in, events_of_pieces, LogTasks, IsPlaceOf, ArePiecePlaces, Event, GraphStrand, Lifetimes, IsScene, IsPart, part_of, Tally, AreTallied}

-- the acts of one piece more are taken
pub tallied_on : (texts : List (List ℕ)) (pieces : List LogPiece) (places : List (Option ℕ)) (i : ℕ) (d : LogPiece) (e : Option ℕ) (text : List ℕ) (first line : ℕ) → i < length pieces → length places ≡ length pieces
    → text ≡ slice_range (text_at texts (get_or pieces i d).file) (get_or pieces i d).begin (get_or pieces i d).end → first ≡ length (events_of_pieces texts (take i pieces))
    → (walk : WalkValue) (known : Lifetimes) (start old new : Tally)
    → ((tasks : LogTasks) (events : List Event) (s : GraphStrand) → IsScene tasks events walk known → IsPlaceOf tasks walk.order s (get_or places i e) → IsPart events first s (acts_in text) → AreTallied events tasks first old → AreTallied events tasks line new)
    → ((tasks : LogTasks) → IsScene tasks (events_of_pieces texts pieces) walk known → ArePiecePlaces tasks walk.order pieces places → AreTallied (events_of_pieces texts pieces) tasks 0 start → AreTallied (events_of_pieces texts pieces) tasks first old)
    → (tasks : LogTasks) → IsScene tasks (events_of_pieces texts pieces) walk known → ArePiecePlaces tasks walk.order pieces places → AreTallied (events_of_pieces texts pieces) tasks 0 start → AreTallied (events_of_pieces texts pieces) tasks line new
tallied_on texts pieces places i d e text first line lt size is count walk known start old new step before tasks scene are none =
    step tasks (events_of_pieces texts pieces) (get_or pieces i d).strand scene
    (are.each i (get_or pieces i d) (get_or places i e) (slice_get-get_or pieces i d lt) (slice_get-get_or places i e (omega (arith, lt, size))))
    (part_of texts pieces i d text first lt is count) (before tasks scene are none)
