-- What is told of a log's heaps.
use Rattle.log_heaps.proofs.Common.{◌≡◌, ◌<◌, ◌∙◌, ℕ, true, false, List, [], length, sym, subst, arith, Option, None, not, slice_get_within, WalkValue, IsWalked, LogPiece, events_of_pieces, LogTasks, IsLog, ArePiecePlaces, Event, events_of, log_fault, Extent, Lifetimes, IsScene, KnowAll, scene_is, LogHeaps, BlockBirth, Tally, HeapsError, TooLong, TooManyWords, NoMemory, IsBirth, StoresReference, IsDownPointer, CountsActs, AreHeaps, HeapsAreTooLarge, IsTooManyAt, is_shared, AreTallied, IsToldOf}
use Rattle.log_heaps.proofs.Those.{nothing_below, all_below}
use Rattle.log_heaps.proofs.Counts.{no_count, count_all}
use Rattle.log_heaps.proofs.Sharing.{are_own}

-- nothing is taken
pub nothing_tallied : (events : List Event) (tasks : LogTasks) (tally : Tally) → tally.births ≡ [] → ((b : ℕ) → is_shared tally.shared b ≡ false) → tally.stores ≡ 0 → tally.down ≡ 0 → AreTallied events tasks 0 tally
nothing_tallied events tasks tally births shared stores down = record {
  births = nothing_below (λ (b : BlockBirth). b.line) (IsBirth events tasks) tally.births births;
  shared = λ b. (λ e. absurd (let z : false ≡ true = sym (shared b) ∙ e in cc), λ h. absurd (let lt : h.0 < 0 = h.1 in omega (arith, lt)));
  stores = no_count (StoresReference events tasks) tally.stores stores;
  down = no_count (IsDownPointer events tasks) tally.down down;
}

module _ (texts : List (List ℕ)) (pieces : List LogPiece) (tasks : LogTasks) (walk : WalkValue) (known : Lifetimes) (start tally : Tally) (places : List (Option ℕ)) (cut : events_of_pieces texts pieces ≡ events_of texts)
    (whole : log_fault texts ≡ None) (extent : Extent) (log : IsLog (events_of texts) extent tasks) (walked : IsWalked walk) (turns : walk.tasks ≡ tasks.turns) (are : ArePiecePlaces tasks walk.order pieces places)
    (all : KnowAll tasks walk.order (events_of_pieces texts pieces) (length (events_of_pieces texts pieces)) known)
    (none : AreTallied (events_of_pieces texts pieces) tasks 0 start)
    (step : (tasks' : LogTasks) → IsScene tasks' (events_of_pieces texts pieces) walk known → ArePiecePlaces tasks' walk.order pieces places → AreTallied (events_of_pieces texts pieces) tasks' 0 start
    → AreTallied (events_of_pieces texts pieces) tasks' (length (events_of_pieces texts pieces)) tally) where
  scene : IsScene tasks (events_of texts) walk known
  scene = scene_is texts tasks walk known whole extent log walked turns (subst (λ (events : List Event). KnowAll tasks walk.order events (length events) known) cut all)

  tallied : AreTallied (events_of texts) tasks (length (events_of texts)) tally
  tallied = subst (λ (events : List Event). AreTallied events tasks (length events) tally) cut (step tasks (subst (λ (events : List Event). IsScene tasks events walk known) (sym cut) scene) are none)

  pub heaps_are : (heaps : LogHeaps) → IsToldOf tally heaps → AreHeaps (events_of texts) tasks heaps
  heaps_are heaps told = record {
    births = tally.births;
    own = λ b. not (is_shared tally.shared b);
    are_births = all_below (λ (b : BlockBirth). b.line) (IsBirth (events_of texts) tasks) (length (events_of texts)) tally.births (λ b is. slice_get_within (events_of texts) b.line _ is.born_there.at) tallied.births;
    are_own = are_own tasks (events_of texts) walk known scene (length (events_of texts)) (λ k e got. slice_get_within (events_of texts) k e got) (is_shared tally.shared) tallied.shared;
    depths = told.depths;
    stores = subst (CountsActs (StoresReference (events_of texts) tasks)) (sym told.stores) (count_all (StoresReference (events_of texts) tasks) (length (events_of texts)) tally.stores (λ k is. slice_get_within (events_of texts) k _ is.2.at) tallied.stores);
    down = subst (CountsActs (IsDownPointer (events_of texts) tasks)) (sym told.down) (count_all (IsDownPointer (events_of texts) tasks) (length (events_of texts)) tally.down (λ k is. slice_get_within (events_of texts) k _ is.into.at) tallied.down);
  }

  pub too_many : (cause : HeapsError) → IsTooManyAt tally.births cause → HeapsAreTooLarge (events_of texts) tasks cause
  too_many TooLong h = absurd h
  too_many TooManyWords h = record {
    births = tally.births;
    are_births = all_below (λ (b : BlockBirth). b.line) (IsBirth (events_of texts) tasks) (length (events_of texts)) tally.births (λ b is. slice_get_within (events_of texts) b.line _ is.born_there.at) tallied.births;
    depth = h.0;
    many = h.1;
  }
  too_many NoMemory h = tt
