-- The totals of a journal, entry by entry.
use Rattle.run_report.proofs.Common.{◌≡◌, ℕ, zero, suc, ◌+◌, ◌-◌, ◌<◌, ◌≤◌, ◌^◌, ◌&&◌, true, is_none, take, ap₂, subst, Option, Some, None, List, [], ◌∷◌, ◌++◌, length, drop, get_or, max, refl, ap, sym, ◌∙◌, arith, length-append, length-take-le, take_all, got_same, Kind, Took, Ran, Chunk, Begin, End, PutOff, Mark, More, Sweep, Fuel, EntryValue, SettingsValue, AreSettings, ProgramText, Heap, Ledger, fresh, heap_at, heap_of, or_fresh, with_heap, with_heap_at, words_in, in_use, collected, swept_heap, refusal, after_kind, after, tally, lost, count_end, count_putoff, count_sweep, freed_by_end, freed_by_sweep, opening, after_all, ledger_of, is_legal, first_refused_from, first_refused, BookValue, after_cut, joined_legal, words_are_accounted, legal_stored, accounts_next, refused_next, Totals, SumsFit, no_totals, totals_joined, counted, cleared_words, entry_totals, totals_from}

-- SUMS

pub joined_assoc : (a b c : Totals) → totals_joined (totals_joined a b) c ≡ totals_joined a (totals_joined b c)
joined_assoc a b c =
    let e1 : (a.leaf + b.leaf) + c.leaf ≡ a.leaf + (b.leaf + c.leaf) = omega arith in
    let e2 : (a.putoff + b.putoff) + c.putoff ≡ a.putoff + (b.putoff + c.putoff) = omega arith in
    let e3 : (a.leaf_freed + b.leaf_freed) + c.leaf_freed ≡ a.leaf_freed + (b.leaf_freed + c.leaf_freed) = omega arith in
    let e4 : (a.inner + b.inner) + c.inner ≡ a.inner + (b.inner + c.inner) = omega arith in
    let e5 : (a.inner_freed + b.inner_freed) + c.inner_freed ≡ a.inner_freed + (b.inner_freed + c.inner_freed) = omega arith in
    let e6 : max (max a.peak b.peak) c.peak ≡ max a.peak (max b.peak c.peak) = omega arith in
    cc

same_fields : (a b : Totals) → a.leaf ≡ b.leaf → a.putoff ≡ b.putoff → a.leaf_freed ≡ b.leaf_freed → a.inner ≡ b.inner → a.inner_freed ≡ b.inner_freed → a.peak ≡ b.peak → a ≡ b
same_fields a b e1 e2 e3 e4 e5 e6 =
    let e : record { leaf = a.leaf; putoff = a.putoff; leaf_freed = a.leaf_freed; inner = a.inner; inner_freed = a.inner_freed; peak = a.peak }
    ≡ record { leaf = b.leaf; putoff = b.putoff; leaf_freed = b.leaf_freed; inner = b.inner; inner_freed = b.inner_freed; peak = b.peak } = cc in
    e

pub joined_none : (a : Totals) → totals_joined a no_totals ≡ a
joined_none a = same_fields (totals_joined a no_totals) a (omega arith) (omega arith) (omega arith) (omega arith) (omega arith) (omega arith)

pub none_joined : (a : Totals) → totals_joined no_totals a ≡ a
none_joined a = same_fields (totals_joined no_totals a) a (omega arith) (omega arith) (omega arith) (omega arith) (omega arith) (omega arith)

-- ONE ENTRY

-- the words that a heap loses are those before less those after
pub lost_is : (l : Ledger) (t : ℕ) (f : Heap → Heap) → words_in l.machine (heap_of l t) - words_in (with_heap l t f).machine (heap_of (with_heap l t f) t) ≡ lost l t f
lost_is l t f = lost_is_by_cases (heap_at l t) refl
  where
    lost_is_by_cases : (o : Option Heap) → heap_at l t ≡ o
        → words_in l.machine (or_fresh o) - words_in (with_heap_at l t f o).machine (heap_of (with_heap_at l t f o) t) ≡ words_in l.machine (or_fresh o) - words_in l.machine (f (or_fresh o))
    lost_is_by_cases None e = let z : words_in l.machine fresh ≡ 0 = refl in omega arith
    lost_is_by_cases (Some h) e = ap (λ o. words_in l.machine h - words_in l.machine (or_fresh o)) (got_same l.heaps t h (f h) e)

module _ (p : ProgramText) (s : SettingsValue) (l : Ledger) where
  -- what an entry of this kind counts by the report's sums
  abbrev summed : Kind → ℕ → Totals
  summed kind used = record {
    leaf = count_end l kind;
    putoff = count_putoff l kind;
    leaf_freed = freed_by_end l kind;
    inner = count_sweep l kind;
    inner_freed = freed_by_sweep l kind;
    peak = used;
  }

  counted_is : (w : ℕ) (kind : Kind) (used : ℕ) → counted kind (cleared_words l kind - cleared_words (after_kind p s l w kind) kind) used ≡ summed kind used
  counted_is w (Took t) used = refl
  counted_is w (Ran t k) used = refl
  counted_is w (Chunk t) used = refl
  counted_is w (Begin t) used = refl
  counted_is w (End t taken given left) used = ap (λ n. record no_totals { leaf = 1; leaf_freed = n; peak = used }) (lost_is l t (collected l.machine))
  counted_is w (PutOff t) used = refl
  counted_is w (Mark t) used = refl
  counted_is w (More t n) used = refl
  counted_is w (Sweep t given) used = ap (λ n. record no_totals { inner = 1; inner_freed = n; peak = used }) (lost_is l t swept_heap)
  counted_is w Fuel used = refl

  totals_next : (e : EntryValue) (rest : List EntryValue) → totals_from p s l (e ∷ rest) ≡ totals_joined (entry_totals p s l e) (totals_from p s (after p s l e) rest)
  totals_next e rest = ap (λ a. totals_joined a (totals_from p s (after p s l e) rest)) (sym (counted_is e.worker e.kind (in_use (after p s l e))))

module _ (p : ProgramText) (s : SettingsValue) where
  -- one more entry at the end
  pub totals_last : (before : List EntryValue) (l : Ledger) (e : EntryValue) → totals_from p s l (before ++ e ∷ []) ≡ totals_joined (totals_from p s l before) (entry_totals p s (after_all p s l before) e)
  totals_last [] l e = totals_next p s l e [] ∙ (joined_none (entry_totals p s l e) ∙ sym (none_joined (entry_totals p s l e)))
  totals_last (x ∷ before) l e =
      totals_next p s l x (before ++ e ∷ [])
      ∙ (ap (totals_joined (entry_totals p s l x)) (totals_last before (after p s l x) e)
      ∙ (sym (joined_assoc (entry_totals p s l x) (totals_from p s (after p s l x) before) (entry_totals p s (after_all p s (after p s l x) before) e))
      ∙ ap (λ sums. totals_joined sums (entry_totals p s (after_all p s (after p s l x) before) e)) (sym (totals_next p s l x before))))

-- NO TOTAL IS TOO LARGE

module _ (p : ProgramText) (s : SettingsValue) where
  -- what counts at most one for each entry is at most their number
  most_of : (count : Ledger → Kind → ℕ) → ((l : Ledger) (kind : Kind) → count l kind ≤ 1) → (journal : List EntryValue) (l : Ledger) → tally p s count l journal ≤ length journal
  most_of count one [] l = omega arith
  most_of count one (e ∷ journal) l = let a = one l e.kind in let b = most_of count one journal (after p s l e) in omega arith

  one_end : (l : Ledger) (kind : Kind) → count_end l kind ≤ 1
  one_end l (Took t) = omega arith
  one_end l (Ran t k) = omega arith
  one_end l (Chunk t) = omega arith
  one_end l (Begin t) = omega arith
  one_end l (End t taken given left) = omega arith
  one_end l (PutOff t) = omega arith
  one_end l (Mark t) = omega arith
  one_end l (More t n) = omega arith
  one_end l (Sweep t given) = omega arith
  one_end l Fuel = omega arith

  one_putoff : (l : Ledger) (kind : Kind) → count_putoff l kind ≤ 1
  one_putoff l (Took t) = omega arith
  one_putoff l (Ran t k) = omega arith
  one_putoff l (Chunk t) = omega arith
  one_putoff l (Begin t) = omega arith
  one_putoff l (End t taken given left) = omega arith
  one_putoff l (PutOff t) = omega arith
  one_putoff l (Mark t) = omega arith
  one_putoff l (More t n) = omega arith
  one_putoff l (Sweep t given) = omega arith
  one_putoff l Fuel = omega arith

  one_sweep : (l : Ledger) (kind : Kind) → count_sweep l kind ≤ 1
  one_sweep l (Took t) = omega arith
  one_sweep l (Ran t k) = omega arith
  one_sweep l (Chunk t) = omega arith
  one_sweep l (Begin t) = omega arith
  one_sweep l (End t taken given left) = omega arith
  one_sweep l (PutOff t) = omega arith
  one_sweep l (Mark t) = omega arith
  one_sweep l (More t n) = omega arith
  one_sweep l (Sweep t given) = omega arith
  one_sweep l Fuel = omega arith

  pub legal_few : AreSettings s → (journal : List EntryValue) → is_legal p s journal ≡ true → length journal < 2 ^ 64 → SumsFit (totals_from p s (opening p s) journal)
  legal_few A journal legal short =
      let all = words_are_accounted p s journal legal in
      let stored = legal_stored p s A journal legal in
      let freed : tally p s freed_by_end (opening p s) journal + tally p s freed_by_sweep (opening p s) journal < 2 ^ 62 = omega arith in
      record {
        leaf = let a = most_of count_end one_end journal (opening p s) in omega arith;
        putoff = let a = most_of count_putoff one_putoff journal (opening p s) in omega arith;
        leaf_freed = omega arith;
        inner = let a = most_of count_sweep one_sweep journal (opening p s) in omega arith;
        inner_freed = omega arith;
      }

-- A REPLAY

take_next : {A : Type 0} (xs : List A) (i : ℕ) (e : A) → i < length xs → e ≡ get_or xs i e → take (i + 1) xs ≡ take i xs ++ e ∷ []
take_next [] i e lt is = absurd (omega arith)
take_next (x ∷ xs) zero e lt is = ap (λ y. y ∷ []) (sym is)
take_next (x ∷ xs) (suc i) e lt is = let q : suc i + 1 ≡ suc (i + 1) = omega arith in ap (λ k. take k (x ∷ xs)) q ∙ ap (λ ys. x ∷ ys) (take_next xs i e (omega arith) is)

-- a book that has come to the entry i, and the totals of the entries before it
pub record IsAt (journal : List EntryValue) (b : BookValue) (i : ℕ) (sums : Totals) : Type 0 where
  pub legal : is_legal b.program b.settings (take i journal) ≡ true
  pub ledger : b.ledger ≡ ledger_of b.program b.settings (take i journal)
  pub sums_are : sums ≡ totals_from b.program b.settings (opening b.program b.settings) (take i journal)

pub at_first : (journal : List EntryValue) (b : BookValue) (sums : Totals) → sums ≡ no_totals → b.ledger ≡ opening b.program b.settings → IsAt journal b 0 sums
at_first journal b sums es el = record { legal = refl; ledger = el; sums_are = es }

module _ (journal : List EntryValue) (b : BookValue) (i : ℕ) (e : EntryValue) (lt : i < length journal) (is : e ≡ get_or journal i e) (none : refusal b.program b.settings b.ledger e ≡ None) (sums : Totals) (at : IsAt journal b i sums) where
  legal_next : is_legal b.program b.settings (take (i + 1) journal) ≡ true
  legal_next =
      let here : refusal b.program b.settings (ledger_of b.program b.settings (take i journal)) e ≡ None = ap (λ l. refusal b.program b.settings l e) (sym at.ledger) ∙ none in
      ap (is_legal b.program b.settings) (take_next journal i e lt is)
      ∙ joined_legal b.program b.settings (take i journal) (e ∷ []) (opening b.program b.settings) at.legal (ap (λ o. is_none o && true) here)

  ledger_next : after b.program b.settings b.ledger e ≡ ledger_of b.program b.settings (take (i + 1) journal)
  ledger_next =
      ap (λ l. after b.program b.settings l e) at.ledger
      ∙ (sym (after_cut b.program b.settings (take i journal) (e ∷ []) (opening b.program b.settings)) ∙ ap (ledger_of b.program b.settings) (sym (take_next journal i e lt is)))

  sums_next : totals_joined sums (entry_totals b.program b.settings b.ledger e) ≡ totals_from b.program b.settings (opening b.program b.settings) (take (i + 1) journal)
  sums_next =
      ap₂ (λ a l. totals_joined a (entry_totals b.program b.settings l e)) at.sums_are at.ledger
      ∙ (sym (totals_last b.program b.settings (take i journal) (opening b.program b.settings) e)
      ∙ ap (totals_from b.program b.settings (opening b.program b.settings)) (sym (take_next journal i e lt is)))

  pub few_next : AreSettings b.settings → i + 1 < 2 ^ 64 → SumsFit (totals_joined sums (entry_totals b.program b.settings b.ledger e))
  few_next A short =
      let long : length (take (i + 1) journal) ≡ length (take i journal ++ e ∷ []) = ap length (take_next journal i e lt is) in
      let a = length-append (take i journal) (e ∷ []) in
      let c = length-take-le i journal (omega arith) in
      subst SumsFit (sym sums_next) (legal_few b.program b.settings A (take (i + 1) journal) legal_next (omega arith))

  pub at_next : (b' : BookValue) (sums' : Totals) → b' ≡ record b { ledger = after b.program b.settings b.ledger e } → sums' ≡ totals_joined sums (entry_totals b.program b.settings b.ledger e) → IsAt journal b' (i + 1) sums'
  at_next b' sums' eb es =
      subst (λ x. IsAt journal x (i + 1) sums') (sym eb)
      (subst (λ z. IsAt journal (record b { ledger = after b.program b.settings b.ledger e }) (i + 1) z) (sym es) (record { legal = legal_next; ledger = ledger_next; sums_are = sums_next }))

pub at_end : (journal : List EntryValue) (b : BookValue) (i : ℕ) (sums : Totals) (p : ProgramText) (s : SettingsValue) → length journal ≤ i → b.program ≡ p → b.settings ≡ s → IsAt journal b i sums
    → sums ≡ totals_from p s (opening p s) journal
at_end journal b i sums p s ge ep es at =
    at.sums_are ∙ (ap (totals_from b.program b.settings (opening b.program b.settings)) (take_all i journal ge) ∙ ap₂ (λ q k. totals_from q k (opening q k) journal) ep es)

module _ (journal : List EntryValue) (b b' : BookValue) (i : ℕ) (e : EntryValue) (lt : i < length journal) (is : e ≡ get_or journal i e) (eb : b' ≡ record b { ledger = after b.program b.settings b.ledger e }) where
  pub accounts_on : after_all b.program b.settings b.ledger (drop i journal) ≡ ledger_of b.program b.settings journal
      → after_all b'.program b'.settings b'.ledger (drop (i + 1) journal) ≡ ledger_of b'.program b'.settings journal
  accounts_on inv =
      subst (λ (x : BookValue). after_all x.program x.settings x.ledger (drop (i + 1) journal) ≡ ledger_of x.program x.settings journal) (sym eb)
      (sym (accounts_next b.program b.settings b.ledger 0 journal i e lt is) ∙ inv)

  pub refused_on : (n : ℕ) → refusal b.program b.settings b.ledger e ≡ None
      → first_refused_from b.program b.settings b.ledger n (drop i journal) ≡ first_refused b.program b.settings journal
      → first_refused_from b'.program b'.settings b'.ledger (n + 1) (drop (i + 1) journal) ≡ first_refused b'.program b'.settings journal
  refused_on n none inv =
      subst (λ (x : BookValue). first_refused_from x.program x.settings x.ledger (n + 1) (drop (i + 1) journal) ≡ first_refused x.program x.settings journal) (sym eb)
      (sym (refused_next b.program b.settings b.ledger n journal i e lt is none) ∙ inv)
