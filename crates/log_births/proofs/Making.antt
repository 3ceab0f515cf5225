-- What is found in a log.
use Rattle.log_births.proofs.Common.{◌≡◌, ℕ, List, [], length, sym, subst, Option, None, GraphStrand, Extent, WalkValue, IsWalked, LogPiece, events_of_pieces, LogTasks, IsLog, ArePiecePlaces, Event, events_of, log_fault, Lifetimes, Findings, AreFindings, KnowAll, IsScene, AreFoundBelow}
use Rattle.log_births.proofs.Whole.{scene_is, nothing_found, all_found}

-- the places of the walk's order, in a slice
pub places_are : (tasks : LogTasks) (order walked : List GraphStrand) (pieces : List LogPiece) (places slice : List (Option ℕ)) → order ≡ walked → slice ≡ places → ArePiecePlaces tasks order pieces places → ArePiecePlaces tasks walked pieces slice
places_are tasks order walked pieces places slice same is are = subst (λ (ps : List (Option ℕ)). ArePiecePlaces tasks walked pieces ps) (sym is) (subst (λ (us : List GraphStrand). ArePiecePlaces tasks us pieces places) same are)

module _ (texts : List (List ℕ)) (pieces : List LogPiece) (tasks : LogTasks) (walk : WalkValue) (known : Lifetimes) (start found : Findings) (places : List (Option ℕ)) (cut : events_of_pieces texts pieces ≡ events_of texts)
    (whole : log_fault texts ≡ None) (extent : Extent) (log : IsLog (events_of texts) extent tasks) (walked : IsWalked walk) (turns : walk.tasks ≡ tasks.turns) (are : ArePiecePlaces tasks walk.order pieces places)
    (all : KnowAll tasks walk.order (events_of_pieces texts pieces) (length (events_of_pieces texts pieces)) known) where
  scene : IsScene tasks (events_of_pieces texts pieces) walk known
  scene =
      subst (λ (events : List Event). IsScene tasks events walk known) (sym cut)
      (scene_is texts tasks walk known whole extent log walked turns (subst (λ (events : List Event). KnowAll tasks walk.order events (length events) known) cut all))

  pub found_all : start ≡ record { reads = []; uses = []; stale = [] }
      → ((tasks' : LogTasks) → IsScene tasks' (events_of_pieces texts pieces) walk known → ArePiecePlaces tasks' walk.order pieces places → AreFoundBelow (events_of_pieces texts pieces) tasks' 0 start
      → AreFoundBelow (events_of_pieces texts pieces) tasks' (length (events_of_pieces texts pieces)) found)
      → AreFindings (events_of texts) tasks found
  found_all none step =
      all_found (events_of texts) tasks found
      (subst (λ (events : List Event). AreFoundBelow events tasks (length events) found) cut
      (step tasks scene are (subst (AreFoundBelow (events_of_pieces texts pieces) tasks 0) (sym none) (nothing_found (events_of_pieces texts pieces) tasks))))
