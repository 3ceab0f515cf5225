-- One act more is taken.
use Rattle.log_heaps.proofs.Common.{◌≡◌, ◌+◌, ℕ, true, false, List, refl, sym, ap, subst, Option, Some, None, slice_get, is_some, WalkValue, LogTasks, IsPlaceOf, Event, event, Act, GraphStrand, Lifetimes, born, DoesToBlock, IsScene, not_seen, seen_block, see, BlockBirth, Tally, stored, IsBirth, StoresReference, IsDownPointer, AreTaken, AreTallied, is_shared}
use Rattle.log_heaps.proofs.Those.{none_more, answer_more}
use Rattle.log_heaps.proofs.Counts.{count_more}
use Rattle.log_heaps.proofs.BornBlocks.{birth_sound, birth_complete}
use Rattle.log_heaps.proofs.BlockHomes.{down_sound, down_complete}
use Rattle.log_heaps.proofs.Sharing.{shared_more, shared_same}

some_is : (o : Option ℕ) → is_some o ≡ true → (c : ℕ) × (o ≡ Some c)
some_is None e = absurd (let z : false ≡ true = e in cc)
some_is (Some c) e = (c, refl)

module _ (tasks : LogTasks) (events : List Event) (walk : WalkValue) (known : Lifetimes) (scene : IsScene tasks events walk known)
    (n : ℕ) (s : GraphStrand) (a : Act) (at : slice_get events n ≡ Some (event s a)) where
  tallied_by : (place : Option ℕ) → IsPlaceOf tasks walk.order s place → (before after : Tally) → AreTaken walk known.births a place n before after → AreTallied events tasks n before → AreTallied events tasks (n + 1) after
  tallied_by None nowhere before after h old = subst (AreTallied events tasks (n + 1)) (sym h) (record {
    births = none_more (λ (b : BlockBirth). b.line) (IsBirth events tasks) n before.births old.births (λ b line is. no_birth b.block is.strand (subst (λ (k : ℕ). DoesToBlock born events tasks b.block k is.strand) line is.born_there));
    shared = shared_same tasks events walk known scene n s a at nowhere (is_shared before.shared) old.shared;
    stores = count_more (StoresReference events tasks) n before.stores before.stores false refl (λ e. absurd (no_hit e)) (λ is. absurd (not_seen tasks events walk known scene n s a at stored nowhere is.0 is.1 is.2)) old.stores;
    down = count_more (IsDownPointer events tasks) n before.down before.down false refl (λ e. absurd (no_hit e)) (λ is. absurd (not_seen tasks events walk known scene n s a at stored nowhere is.target is.strand is.refers)) old.down;
  })
    where
      no_hit : false ≡ true → ⊥
      no_hit e = cc

      no_birth : (b : ℕ) (v : GraphStrand) → DoesToBlock born events tasks b n v → ⊥
      no_birth b v d = not_seen tasks events walk known scene n s a at born nowhere b v d
  tallied_by (Some place) stands before after h old = record {
    births =
        answer_more (λ (b : BlockBirth). b.line) (IsBirth events tasks) n before.births old.births h.birth after.births h.births_are
        (birth_sound tasks events walk known scene n s a at place stands h.birth h.is_birth) (birth_complete tasks events walk known scene n s a at place stands h.birth h.is_birth);
    shared = shared_more tasks events walk known scene n s a at place stands before.shared after.shared h.shared_are old.shared;
    stores = count_more (StoresReference events tasks) n before.stores after.stores (is_some (stored a)) h.stores_are store_sound store_complete old.stores;
    down =
        count_more (IsDownPointer events tasks) n before.down after.down h.is_down h.down_are (down_sound tasks events walk known scene n s a at place stands h.is_down h.leads_down)
        (down_complete tasks events walk known scene n s a at place stands h.is_down h.leads_down) old.down;
  }
    where
      store_sound : is_some (stored a) ≡ true → StoresReference events tasks n
      store_sound e = let c = some_is (stored a) e in (c.0, stands.strand, see tasks events walk known scene n s a at stored place stands c.0 c.1)

      store_complete : StoresReference events tasks n → is_some (stored a) ≡ true
      store_complete is = ap is_some (seen_block tasks events walk known scene n s a at stored place stands is.0 is.1 is.2)

  pub tallied_more : (place : Option ℕ) → IsPlaceOf tasks walk.order s place → (before after : Tally) → AreTaken walk known.births a place n before after → AreTallied events tasks n before → AreTallied events tasks (n + 1) after
  tallied_more = tallied_by
