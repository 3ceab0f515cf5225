-- What the ends of leaf collections and sweeps keep.
use Rattle.std.proofs.Common.{◌≡◌, ◌∙◌, ◌↔◌, ◌++◌, ℕ, Bool, true, List, [], ◌∷◌, Contains, is_some, refl, ap, sym, subst}
use Rattle.std.specs.Prelude.{Option, Some, None, is_none}
use Rattle.std.proofs.lemmas.Bool.{and_parts, false≢true}
use Rattle.plain_vec.proofs.Members.{got_same}
use Rattle.plain_vec.proofs.Options.{none_is}
use Rattle.hh_lang.specs.Form.{ProgramText}
use Rattle.hh_model.specs.declared.data.Name.{Name}
use Rattle.run_trace.specs.declared.entry.Kind.TheVariants.{Ran, End, Sweep}
use Rattle.run_trace.specs.Entry.{EntryValue}
use Rattle.run_trace.specs.Settings.{SettingsValue}
use Rattle.run_ledger.specs.declared.data.Heap.{Heap}
use Rattle.run_ledger.specs.declared.data.Ledger.{Ledger}
use Rattle.run_ledger.specs.Entries.{after, refusal}
use Rattle.run_ledger.specs.Heaps.{collected, heap_at, heap_of, held_in, or_fresh, swept_heap, with_heap, with_heap_at, within}
use Rattle.run_ledger.specs.Journals.{is_legal, is_legal_from, ledger_of}
use Rattle.run_ledger.proofs.Collections.{collections_keep_just}
use Rattle.run_ledger.proofs.Cuts.{journals_can_be_cut}
use Rattle.journal_laws.specs.Accepted.{Allows}
use Rattle.journal_laws.proofs.Accepted.{accepted_is_allowed}
use Rattle.journal_laws.proofs.History.{snapshots_are_within, survivors_are_within}
use Rattle.reachability_laws.specs.Kept.{KeepsReached, LeafCollectionsKeepReached, SweepsKeepReached}
use Rattle.reachability_laws.proofs.Walks.{within_is_reached}

-- HEAPS

abbrev HasHeap : Ledger → ℕ → Type 0
HasHeap l t = (h : Heap) × (heap_at l t ≡ Some h)

has_heap : (l : Ledger) (t : ℕ) (test : Heap → Bool) (o : Option Heap) → heap_at l t ≡ o → (test (or_fresh None) ≡ true → ⊥) → test (or_fresh o) ≡ true → HasHeap l t
has_heap l t test (Some h) e fails is = (h, e)
has_heap l t test None e fails is = absurd (fails is)

heap_after : (l : Ledger) (t : ℕ) (f : Heap → Heap) (h : Heap) → heap_at l t ≡ Some h → heap_of (with_heap l t f) t ≡ f h
heap_after l t f h e = ap (λ o. heap_of (with_heap_at l t f o) t) e ∙ ap or_fresh (got_same l.heaps t h (f h) e)

-- a heap that keeps exactly these names of those that it holds
kept_so : (earlier l : Ledger) (t : ℕ) (f : Heap → Heap) (h : Heap) (names : List Name) → heap_at l t ≡ Some h → names ≡ within earlier t
    → ((n : Name) → Contains (held_in (f h)) n ↔ (Contains (held_in h) n × Contains names n)) → KeepsReached earlier l (with_heap l t f) t
kept_so earlier l t f h names is named just n =
    let here : heap_of l t ≡ h = ap or_fresh is in
    let then_ : heap_of (with_heap l t f) t ≡ f h = heap_after l t f h is in
    let reach = within_is_reached earlier t n in (
      λ c.
          let k = (just n).0 (subst (λ g. Contains (held_in g) n) then_ c) in
          (subst (λ g. Contains (held_in g) n) (sym here) k.0, reach.0 (subst (λ ns. Contains ns n) named k.1)),
      λ k.
          subst (λ g. Contains (held_in g) n) (sym then_)
          ((just n).1 (subst (λ g. Contains (held_in g) n) here k.0, subst (λ ns. Contains ns n) (sym named) (reach.1 k.1))),
    )

-- ENTRIES

module _ (p : ProgramText) (s : SettingsValue) (journal : List EntryValue) (e : EntryValue) (legal : is_legal p s (journal ++ e ∷ []) ≡ true) where
  before_legal : is_legal p s journal ≡ true
  before_legal = ((journals_can_be_cut p s journal (e ∷ [])).legal.0 legal).0

  unrefused : refusal p s (ledger_of p s journal) e ≡ None
  unrefused =
      none_is (refusal p s (ledger_of p s journal) e)
      (and_parts (is_none (refusal p s (ledger_of p s journal) e)) (is_legal_from p s (after p s (ledger_of p s journal) e) []) ((journals_can_be_cut p s journal (e ∷ [])).legal.0 legal).1).0

  allowed : Allows p s (ledger_of p s journal) e.worker e.kind
  allowed = ((accepted_is_allowed p s (ledger_of p s journal) e).0 unrefused).allows

  accounts : ledger_of p s (journal ++ e ∷ []) ≡ after p s (ledger_of p s journal) e
  accounts = (journals_can_be_cut p s journal (e ∷ [])).accounts

pub leaf_collections_keep_reached : LeafCollectionsKeepReached
leaf_collections_keep_reached p s journal w t taken given left legal =
    let e : EntryValue = record { worker = w; kind = End t taken given left } in
    let l = ledger_of p s journal in
    let begun = (allowed p s journal e legal).1 in
    let heap = has_heap l t (λ h. is_some h.begun) (heap_at l t) refl false≢true begun in
    let began = survivors_are_within p s journal t (before_legal p s journal e legal) begun in (
      began.before,
      record { worker = began.worker; rest = began.rest; is = began.is; last = began.last },
      subst (λ k. KeepsReached (ledger_of p s began.before) l k t) (sym (accounts p s journal e legal))
          (kept_so (ledger_of p s began.before) l t (collected l.machine) heap.0 heap.0.survivors heap.1
          (ap (λ o. (or_fresh o).survivors) (sym heap.1) ∙ began.survivors)
          (collections_keep_just l.machine heap.0).survivors),
    )

pub sweeps_keep_reached : SweepsKeepReached
sweeps_keep_reached p s journal w t given legal =
    let e : EntryValue = record { worker = w; kind = Sweep t given } in
    let l = ledger_of p s journal in
    let allows = allowed p s journal e legal in
    let heap = has_heap l t (λ h. is_some h.marked) (heap_at l t) refl false≢true allows.1 in
    let forked = snapshots_are_within p s journal t (before_legal p s journal e legal) allows.0.waits in
    let first = forked.before ++ record { worker = forked.worker; kind = Ran t forked.steps } ∷ [] in (
      first,
      record { before = forked.before; worker = forked.worker; steps = forked.steps; rest = forked.rest; first_is = refl; is = forked.is; last = forked.last },
      subst (λ k. KeepsReached (ledger_of p s first) l k t) (sym (accounts p s journal e legal))
          (kept_so (ledger_of p s first) l t swept_heap heap.0 heap.0.snapshot heap.1
          (ap (λ o. (or_fresh o).snapshot) (sym heap.1) ∙ forked.snapshot)
          (collections_keep_just l.machine heap.0).snapshot),
    )
