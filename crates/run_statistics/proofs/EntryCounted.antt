-- What is recorded of the entries of a journal, over one more entry.
use Rattle.run_statistics.proofs.Common.{◌≡◌, ℕ, zero, suc, ◌+◌, ◌-◌, ◌<◌, ◌==◌, ◌^◌, Bool, true, false, cond, Some, None, List, [], ◌∷◌, ◌++◌, length, length-set, slice_get, slice_set, inl, inr, refl, ap, ap₂, sym, subst, ◌∙◌, is_some, arith, length-append, first_worker, cases_eq, eqb-true, ltb-true, same_Some, got_back, got_other, got_set, ProgramText, Kind, Took, Ran, Chunk, Begin, End as EndOf, PutOff, Mark, More, Sweep, Fuel, EntryValue, SettingsValue, MachineState, is_running, is_waiting, waiting_stops, Ledger, after, after_kind, collected, heap_of, held_in, in_use, swept_heap, with_heap, words_in, words_sum, ledger_of, opening, lost, begins, heap_machine, legal_then, held_words, saturating_words as counted64, SumsFit, cleared_words, entry_totals, totals_joined, no_totals, totals_from, legal_few, lost_is, totals_last, Private, NotEntered, NoMemory, Refuses, Enters, refused, WorkerPartFits, IsSharedValue, SharedValue, accounts, alone_entry, IsUnchanged, Forked as ForksInto, Ended as EndsWith, Over as IsOver, Done as IsDone, Leaving, Lent, Goes as GoesOn, Leaves, LentTo, RanTo, entered_accounts, held_unless_running, counted_few, JournalCounts, HasWords, IsMade, CountsJournal, begun_with, totals_of, counted}
use Rattle.shared_tree.specs.below.entry_calls.{Ran as RanOf, HasEnded}
use Rattle.run_statistics.proofs.BegunCollections.{WentOn, begin_apart, begin_words, begin_worker, end_begun, end_left, end_worker, entry_worker, sweep_waits, went_on}
use Rattle.run_statistics.proofs.PartWords.{part_words, words_small}

-- LISTS

pub last_of : {A : Type 0} (xs : List A) (e x : A) → slice_get (xs ++ e ∷ []) (length (xs ++ e ∷ []) - 1) ≡ Some x → x ≡ e
last_of xs e x h =
    let long = length-append xs (e ∷ []) in
    let at : length (xs ++ e ∷ []) - 1 ≡ length xs + 0 = omega (arith, long) in
    sym (same_Some e x (sym (got_back xs (e ∷ []) 0) ∙ (ap (slice_get (xs ++ e ∷ [])) (sym at) ∙ h)))

-- BEFORE THE FIRST ENTRY

pub first_kept : (w : SharedValue) (c : JournalCounts) → w.journal.items ≡ [] → c.totals ≡ no_totals → length c.begun ≡ w.settings.workers → CountsJournal w c
first_kept w c none totals workers = record {
  totals = totals ∙ ap (totals_from w.program w.settings (opening w.program w.settings)) (sym none);
  workers = workers;
  begun = λ k t h b. absurd (first_worker w.program w.settings t k (ap (λ j. (heap_of (ledger_of w.program w.settings j) t).worker) (sym none) ∙ h));
}

-- the same program, settings and entries
pub same_kept : (w v : SharedValue) (c : JournalCounts) → v.program ≡ w.program → v.settings ≡ w.settings → v.journal.items ≡ w.journal.items → CountsJournal w c → CountsJournal v c
same_kept w v c p s j K =
    let l : accounts v ≡ accounts w =
    ap (λ q. ledger_of q v.settings v.journal.items) p ∙ (ap (λ z. ledger_of w.program z v.journal.items) s ∙ ap (ledger_of w.program w.settings) j) in record {
      totals = K.totals
          ∙ sym (ap (λ q. totals_from q v.settings (opening q v.settings) v.journal.items) p
          ∙ (ap (λ z. totals_from w.program z (opening w.program z) v.journal.items) s ∙ ap (totals_from w.program w.settings (opening w.program w.settings)) j));
      workers = K.workers ∙ ap (λ (z : SettingsValue). z.workers) (sym s);
      begun = λ k t h b.
          K.begun k t (ap (λ (z : Ledger). (heap_of z t).worker) (sym l) ∙ h) (ap (λ (z : Ledger). is_some (heap_of z t).begun) (sym l) ∙ b)
          ∙ ap (λ (z : Ledger). Some (words_in z.machine (heap_of z t))) (sym l);
    }

-- if an entry is refused, or an allocation failed
pub unchanged_kept : (w v : SharedValue) (cause : NotEntered) (c : JournalCounts) → IsUnchanged cause w v → CountsJournal w c → CountsJournal v c
unchanged_kept w v (Refuses why) c same K = subst (λ (z : SharedValue). CountsJournal z c) (sym same) K
unchanged_kept w v NoMemory c S K = same_kept w v c (ap (λ (z : SharedValue). z.program) S.rest) (ap (λ (z : SharedValue). z.settings) S.rest) (ap (λ (z : SharedValue). z.journal.items) S.rest) K

-- committed steps, whatever their result
pub ran_enters : (w v : SharedValue) (k : ℕ) (q : Private) (r : RanOf) → RanTo w v k q r → Enters w v (alone_entry k q)
ran_enters w v k q (ForksInto left right) a = a.0.enters
ran_enters w v k q (EndsWith resumed) a = a.0.enters
ran_enters w v k q (IsOver x) a = a.enters
ran_enters w v k q IsDone a = a.enters

-- and those of a part that stays
pub lent_enters : (w v : SharedValue) (k : ℕ) (p q : Private) (l : Lent) → ((x : Leaving) → l ≡ Leaves x → ⊥) → LentTo w v k p q l → Enters w v (alone_entry k p)
lent_enters w v k p q GoesOn stays a = a.enters
lent_enters w v k p q HasEnded stays a = a.enters
lent_enters w v k p q (Leaves x) stays a = absurd (stays x refl)

-- an entry that was made
pub is_made : (w v : SharedValue) (c : JournalCounts) (e : EntryValue) (words : ℕ) → IsSharedValue w → Enters w v e → refused w e ≡ None → CountsJournal w c → HasWords (accounts w) e.kind words
    → (z : SharedValue) × (x : EntryValue) × IsMade z v c x words
is_made w v c e words I E free K H = (w, e, record { stands = I; enters = E; free = free; keeps = K; had = H })

-- ONE MORE ENTRY
module _ (w v : SharedValue) (c : JournalCounts) (e : EntryValue) (words : ℕ) (M : IsMade w v c e words) where
  abbrev p : ProgramText
  p = w.program

  abbrev s : SettingsValue
  s = w.settings

  abbrev l : Ledger
  l = accounts w

  abbrev l' : Ledger
  l' = after p s l e

  now_is : accounts v ≡ l'
  now_is = entered_accounts w v e M.enters

  pub worker_few : e.worker < length c.begun
  worker_few = let q = M.keeps.workers in let h = ltb-true e.worker s.workers (entry_worker p s l e M.free) in omega (arith, q, h)

  -- THE TOTALS
  totals_then : totals_of v ≡ totals_joined (totals_of w) (entry_totals p s l e)
  totals_then =
      ap (λ q. totals_from q v.settings (opening q v.settings) v.journal.items) M.enters.program
      ∙ (ap (λ z. totals_from p z (opening p z) v.journal.items) M.enters.settings
      ∙ (ap (totals_from p s (opening p s)) M.enters.journal ∙ totals_last p s w.journal.items (opening p s) e))

  counted_is : (lost used : ℕ) → lost ≡ cleared_words l e.kind - cleared_words (accounts v) e.kind → used ≡ in_use (accounts v) → counted e.kind lost used ≡ entry_totals p s l e
  counted_is lost used a b =
      ap₂ (counted e.kind) (a ∙ ap (λ z. cleared_words l e.kind - cleared_words z e.kind) now_is) (b ∙ ap in_use now_is)

  pub totals_few : length v.journal.items < 2 ^ 64 → (lost used : ℕ) → lost ≡ cleared_words l e.kind - cleared_words (accounts v) e.kind → used ≡ in_use (accounts v) → SumsFit (totals_joined c.totals (counted e.kind lost used))
  totals_few short lost used a b =
      let all : List EntryValue = w.journal.items ++ e ∷ [] in
      let few : SumsFit (totals_from p s (opening p s) all) =
      legal_few p s M.stands.settings all (legal_then p s w.journal.items e M.stands.legal M.free) (subst (λ xs. length xs < 2 ^ 64) M.enters.journal short) in
      subst SumsFit (totals_last p s w.journal.items (opening p s) e ∙ ap₂ totals_joined (sym M.keeps.totals) (sym (counted_is lost used a b))) few

  -- THE RECORDS OF WORKERS
  abbrev Kept : Kind → Type 0
  Kept kind = (k t : ℕ) → (heap_of l' t).worker ≡ Some k → is_some (heap_of l' t).begun ≡ true → slice_get (begun_with c.begun e.worker words kind) k ≡ Some (words_in l'.machine (heap_of l' t))

  other : ((t : ℕ) → begins t e.kind ≡ false) → (k t : ℕ) → (heap_of l' t).worker ≡ Some k → is_some (heap_of l' t).begun ≡ true → slice_get c.begun k ≡ Some (words_in l'.machine (heap_of l' t))
  other off k t h b =
      let W : WentOn l l' t k = went_on p s w.journal.items e M.stands.legal M.free t k (off t) h b in
      M.keeps.begun k t W.worker W.begun ∙ ap Some (sym W.words)

  kept_begin : (u : ℕ) → e.kind ≡ Begin u → HasWords l (Begin u) words → Kept (Begin u)
  kept_begin u is has k t h b = elim (cases_eq t u) [
    | inl q ↦
        let k_is : k ≡ e.worker = same_Some k e.worker (sym h ∙ (ap (λ z. (heap_of l' z).worker) q ∙ begin_worker p s w.journal.items e M.stands.legal M.free t k u is)) in
        ap (slice_get (slice_set c.begun e.worker words)) k_is
        ∙ (got_set c.begun e.worker words worker_few
        ∙ ap Some (has ∙ (sym (begin_words p s w.journal.items e M.stands.legal M.free t k u is) ∙ ap (λ z. words_in l'.machine (heap_of l' z)) (sym q))))
    | inr ne ↦
        let W : WentOn l l' t k = went_on p s w.journal.items e M.stands.legal M.free t k (ap (begins t) is ∙ off ne (u == t) refl) h b in
        got_other c.begun e.worker k words (begin_apart p s w.journal.items e M.stands.legal M.free t k u is ne W.worker)
        ∙ (M.keeps.begun k t W.worker W.begun ∙ ap Some (sym W.words))
  ]
    where
      off : (t ≡ u → ⊥) → (z : Bool) → (u == t) ≡ z → z ≡ false
      off ne true q = absurd (ne (sym (eqb-true u t q)))
      off ne false q = refl

  kept_kind : (kind : Kind) → e.kind ≡ kind → HasWords l kind words → Kept kind
  kept_kind (Took u) is has = other (λ t. ap (begins t) is)
  kept_kind (Ran u n) is has = other (λ t. ap (begins t) is)
  kept_kind (Chunk u) is has = other (λ t. ap (begins t) is)
  kept_kind (Begin u) is has = kept_begin u is has
  kept_kind (EndOf u a g n) is has = other (λ t. ap (begins t) is)
  kept_kind (PutOff u) is has = other (λ t. ap (begins t) is)
  kept_kind (Mark u) is has = other (λ t. ap (begins t) is)
  kept_kind (More u n) is has = other (λ t. ap (begins t) is)
  kept_kind (Sweep u g) is has = other (λ t. ap (begins t) is)
  kept_kind Fuel is has = other (λ t. ap (begins t) is)

  long_with : (kind : Kind) → length (begun_with c.begun e.worker words kind) ≡ length c.begun
  long_with (Took u) = refl
  long_with (Ran u n) = refl
  long_with (Chunk u) = refl
  long_with (Begin u) = length-set c.begun e.worker words
  long_with (EndOf u a g n) = refl
  long_with (PutOff u) = refl
  long_with (Mark u) = refl
  long_with (More u n) = refl
  long_with (Sweep u g) = refl
  long_with Fuel = refl

  pub counts_then : (c' : JournalCounts) (lost used : ℕ) → lost ≡ cleared_words l e.kind - cleared_words (accounts v) e.kind → used ≡ in_use (accounts v) → c'.totals ≡ totals_joined c.totals (counted e.kind lost used)
      → c'.begun ≡ begun_with c.begun e.worker words e.kind → CountsJournal v c'
  counts_then c' lost used a b et eb = record {
    totals = et ∙ (ap₂ totals_joined M.keeps.totals (counted_is lost used a b) ∙ sym totals_then);
    workers = ap length eb ∙ (long_with e.kind ∙ (M.keeps.workers ∙ ap (λ (z : SettingsValue). z.workers) (sym M.enters.settings)));
    begun = λ k t h g.
        ap (λ xs. slice_get xs k) eb
        ∙ (kept_kind e.kind refl M.had k t (ap (λ (z : Ledger). (heap_of z t).worker) (sym now_is) ∙ h) (ap (λ (z : Ledger). is_some (heap_of z t).begun) (sym now_is) ∙ g)
        ∙ ap (λ (z : Ledger). Some (words_in z.machine (heap_of z t))) (sym now_is));
  }

  -- WHAT HEAPS LOSE
  -- as a leaf collection ends
  pub end_lost : (t taken given left before : ℕ) → e.kind ≡ EndOf t taken given left → slice_get c.begun e.worker ≡ Some before
      → before - left ≡ cleared_words l e.kind - cleared_words (accounts v) e.kind
  end_lost t taken given left before is got =
      let held = end_worker p s w.journal.items e M.stands.legal M.free t e.worker t taken given left is in
      let begun = end_begun p s w.journal.items e M.stands.legal M.free t e.worker t taken given left is in
      let before_is : before ≡ words_in l.machine (heap_of l t) = same_Some before (words_in l.machine (heap_of l t)) (sym got ∙ M.keeps.begun e.worker t held begun) in
      let left_is : left ≡ words_in l.machine (collected l.machine (heap_of l t)) = end_left p s w.journal.items e M.stands.legal M.free t e.worker t taken given left is in
      let then_is : accounts v ≡ with_heap l t (collected l.machine) = now_is ∙ ap (after_kind p s l e.worker) is in
      ap₂ (λ a b. a - b) before_is left_is
      ∙ (sym (lost_is l t (collected l.machine))
      ∙ (ap (λ (z : Ledger). words_in l.machine (heap_of l t) - words_in z.machine (heap_of z t)) (sym then_is) ∙ ap (λ k. cleared_words l k - cleared_words (accounts v) k) (sym is)))

  -- and with a sweep
  pub sweep_lost : IsSharedValue v → (t given rest : ℕ) → e.kind ≡ Sweep t given → rest ≡ counted64 (words_sum (accounts v).machine (held_unless_running (accounts v) t))
      → words - rest ≡ cleared_words l e.kind - cleared_words (accounts v) e.kind
  sweep_lost I t given rest is r =
      let has : words ≡ words_in l.machine (heap_of l t) = subst (λ z. HasWords l z words) is M.had in
      let waits : is_waiting (slice_get l.machine.tasks t) ≡ true = sweep_waits p s w.journal.items e M.stands.legal M.free t given is in
      let then_is : accounts v ≡ with_heap l t swept_heap = now_is ∙ ap (after_kind p s l e.worker) is in
      let same : (accounts v).machine ≡ l.machine = ap (λ (z : Ledger). z.machine) then_is ∙ heap_machine l t swept_heap in
      let idle : is_running (slice_get (accounts v).machine.tasks t) ≡ false = ap (λ (m : MachineState). is_running (slice_get m.tasks t)) same ∙ waiting_stops (slice_get l.machine.tasks t) waits in
      let kept : held_unless_running (accounts v) t ≡ held_in (heap_of (accounts v) t) = ap (λ b. cond b [] (held_in (heap_of (accounts v) t))) idle in
      let rest_is : rest ≡ words_in (accounts v).machine (heap_of (accounts v) t) = r ∙ (ap (λ ns. counted64 (words_sum (accounts v).machine ns)) kept ∙ counted_few _ (words_small v I t)) in
      ap₂ (λ a b. a - b) has rest_is ∙ ap (λ k. cleared_words l k - cleared_words (accounts v) k) (sym is)

-- WHAT A HEAP HAS BEFORE AN ENTRY

-- that of a part whose leaf collection begins
pub begin_had : (w : SharedValue) → IsSharedValue w → (k : ℕ) (q : Private) → WorkerPartFits w k (record q { fresh = 0 }) → (words : ℕ) → words ≡ counted64 (held_words q.heap.chunks) → words ≡ words_in (accounts w).machine (heap_of (accounts w) q.task)
begin_had w I k q F words is =
    is ∙ (ap counted64 (sym (part_words w k q F)) ∙ counted_few (words_in (accounts w).machine (heap_of (accounts w) q.task)) (words_small w I q.task))

-- and one that is swept
pub sweep_had : (w : SharedValue) → IsSharedValue w → (e : EntryValue) (t given : ℕ) → e.kind ≡ Sweep t given → refused w e ≡ None → (words : ℕ) → words ≡ counted64 (words_sum (accounts w).machine (held_unless_running (accounts w) t))
    → words ≡ words_in (accounts w).machine (heap_of (accounts w) t)
sweep_had w I e t given is free words r =
    let l : Ledger = accounts w in
    let waits : is_waiting (slice_get l.machine.tasks t) ≡ true = sweep_waits w.program w.settings w.journal.items e I.legal free t given is in
    let kept : held_unless_running l t ≡ held_in (heap_of l t) = ap (λ b. cond b [] (held_in (heap_of l t))) (waiting_stops (slice_get l.machine.tasks t) waits) in
    r ∙ (ap (λ ns. counted64 (words_sum l.machine ns)) kept ∙ counted_few (words_in l.machine (heap_of l t)) (words_small w I t))
