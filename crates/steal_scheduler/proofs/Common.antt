-- The names of lower crates and of the specifications that these proofs use. Declares nothing.
pub use Rattle.crossbeam_deque.proofs.Lists.{at_set, at_snoc}
pub use Rattle.crossbeam_deque.specs.Handles.{worker_deque, stealer_deque, view, SamePass}
pub use Rattle.crossbeam_deque.specs.Tasks.{Pushes, Takes, Pops, Admits}
pub use Rattle.plain_vec.proofs.Members.{got_within, got_same, got_other}
pub use Rattle.plain_vec.proofs.Options.{none_some, if_none}
pub use Rattle.plain_vec.proofs.Places.{got_more, got_some, got_item}
pub use Rattle.std.proofs.Common.{◌≡◌, ⊎_elim, ◌⊎◌, ◌++◌, ℕ, List, [], ◌∷◌, length, set, slice_get, Some, length-append, sym, ◌∙◌, subst, arith, ap, ◌≢◌, zero, suc, ◌+◌, ◌<◌, get_or, true, false, true≢false, sum_by, refl, append_assoc, rules, All}
pub use Rattle.std.proofs.lemmas.Iterator.Adapters.{YieldsList-from_vec}
pub use Rattle.std.proofs.lemmas.Iterator.Consumers.{YieldsList-end}
pub use Rattle.std.proofs.lemmas.List.{map-id}
pub use Rattle.std.proofs.lemmas.List.Sums.{sum_by-append, sum_by-set}
pub use Rattle.std.proofs.lemmas.Option.{same_Some, IfSome_then}
pub use Rattle.std.specs.Vec.Iter.{into_iter_items, into_iter_len}
pub use Rattle.steal_scheduler.specs.Hands.{ChangesAt, IsNewHand, AreNewHands, thefts}
pub use Rattle.steal_scheduler.specs.New.{EachPlace, Owner, Thief, StealFrom, AreTheftsOf, IsHandOf, IsNewOwner, IsNewTheft}
pub use Rattle.steal_scheduler.specs.Rule.{times, opening_view, guest_view, with_put, with_taken, TookBack, Dealt}
pub use Rattle.steal_scheduler.specs.Thefts.{SameTheft, Stole, StoleNone}
pub use Rattle.steal_scheduler.specs.declared.hand.Hand.{Hand}
pub use Rattle.steal_scheduler.specs.declared.theft.Theft.{Theft}
pub use Rattle.steal_scheduler.specs.declared.view.PassView.{PassView}
