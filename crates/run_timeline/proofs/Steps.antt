-- One entry more of a timeline.
use Rattle.run_timeline.proofs.Common.{◌≡◌, ◌<◌, ◌+◌, ℕ, List, ◌++◌, length, drop, get_or, ap, sym, ◌∙◌, append_assoc, flat_map, ProgramText, EntryValue, after, BookValue, further, counts_of, slice_name, entry_events, events_from}
use Rattle.run_timeline.proofs.Loops.{events_next}

module _ (journal : List EntryValue) (b b' : BookValue) (i : ℕ) (e : EntryValue) (lt : i < length journal) (is : e ≡ get_or journal i e) (eb : b' ≡ record b { ledger = after b.program b.settings b.ledger e }) where
  -- what is written and what is left are the whole, also behind the entry
  pub text_on : (n : ℕ) (p : ProgramText) (now later all : List ℕ) → b.program ≡ p
      → now ++ flat_map further (events_from b.program b.settings b.ledger n (drop i journal)) ≡ all
      → later ≡ now ++ flat_map further (entry_events p (slice_name p b.ledger.machine e.kind) (counts_of b.ledger) (after b.program b.settings b.ledger e) n e)
      → later ++ flat_map further (events_from b'.program b'.settings b'.ledger (n + 1) (drop (i + 1) journal)) ≡ all
  text_on n p now later all ep inv el =
      (λ j. (el ∙ (λ k. now ++ flat_map further (entry_events (sym ep k) (slice_name (sym ep k) b.ledger.machine e.kind) (counts_of b.ledger) (after b.program b.settings b.ledger e) n e))) j
      ++ flat_map further (events_from (eb j).program (eb j).settings (eb j).ledger (n + 1) (drop (i + 1) journal)))
      ∙ append_assoc now
      (flat_map further (entry_events b.program (slice_name b.program b.ledger.machine e.kind) (counts_of b.ledger) (after b.program b.settings b.ledger e) n e))
      (flat_map further (events_from b.program b.settings (after b.program b.settings b.ledger e) (n + 1) (drop (i + 1) journal)))
      ∙ ap (λ x. now ++ x) (sym (events_next b.program b.settings b.ledger n journal i e lt is))
      ∙ inv
