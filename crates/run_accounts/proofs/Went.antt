-- What an entry changes of the accounts, with the count of the chunks in use.
use Rattle.run_accounts.proofs.Common.{◌≡◌, ℕ, ◌+◌, ◌-◌, Bool, true, false, cond, Option, Some, None, List, [], ◌∷◌, ◌++◌, length, slice_set, nat_lt, refl, ap, ap₂, sym, ◌∙◌, arith, got_same, Took, Chunk, Begin, PutOff, Mark, More, Sweep, asked, Heap, Ledger, Pool, heap_at, heap_of, or_fresh, with_heap, with_heap_at, in_use, units_in, units_sum, begun_in, is_small_size, chunk_words, collected, end_numbers, swept_heap, sweep_number, on_asked, after_kind, with_chunk, chunk_units, Collected, with_collected, with_heap_any, same_use, AccountsValue, CachesAgree, went_on, places_in}
use Rattle.run_trace.specs.declared.entry.Kind.TheVariants.{End as EndOf}
use Rattle.run_accounts.proofs.Uses.{use_set, use_least, use_collected, use_swept}

-- the chunks in use are unchanged
same_went : (s new : AccountsValue) (l : Ledger) → CachesAgree s → in_use l ≡ in_use s.ledger → new ≡ record s { ledger = l } → new ≡ went_on s l
same_went s new l A same e = e ∙ ap (λ (u : ℕ). record s { ledger = l; used = u }) (A.used ∙ sym same)

module _ (s new : AccountsValue) (w t : ℕ) (A : CachesAgree s) where
  pub went_took : (taken : List (Option ℕ)) → new ≡ record s { ledger = after_kind s.program s.settings s.ledger w (Took t); taken = taken } → new ≡ record (went_on s (after_kind s.program s.settings s.ledger w (Took t))) { taken = taken }
  went_took taken e =
      e ∙ ap (λ (u : ℕ). record s { ledger = after_kind s.program s.settings s.ledger w (Took t); used = u; taken = taken }) (A.used ∙ sym (same_use s.ledger t _ (λ h. refl)))

  pub went_put_off : new ≡ record s { ledger = after_kind s.program s.settings s.ledger w (PutOff t) } → new ≡ went_on s (after_kind s.program s.settings s.ledger w (PutOff t))
  went_put_off e = same_went s new _ A (same_use s.ledger t _ (λ h. refl)) e

  pub went_mark : new ≡ record s { ledger = after_kind s.program s.settings s.ledger w (Mark t) } → new ≡ went_on s (after_kind s.program s.settings s.ledger w (Mark t))
  went_mark e = same_went s new _ A (same_use s.ledger t _ (λ h. refl)) e

  pub went_more : (n : ℕ) → new ≡ record s { ledger = after_kind s.program s.settings s.ledger w (More t n) } → new ≡ went_on s (after_kind s.program s.settings s.ledger w (More t n))
  went_more n e = same_went s new _ A (same_use s.ledger t _ (λ h. refl)) e

-- CHUNKS AND COLLECTIONS THAT BEGIN

-- other chunks of one heap, except those of large objects
Placed : Ledger → ℕ → Ledger → Type 0
Placed l t k = in_use k ≡ in_use l + places_in (heap_of k t) - places_in (heap_of l t)

placed_set : (l : Ledger) (t : ℕ) (f : Heap → Heap) → ((h : Heap) → units_in l.machine (f h) + places_in h ≡ units_in l.machine h + places_in (f h)) → in_use (with_heap l t f) ≡ in_use l + places_in (heap_of (with_heap l t f) t) - places_in (heap_of l t)
placed_set l t f same =
    with_heap_any (λ k. in_use k ≡ in_use l + places_in (heap_of k t) - places_in (heap_of l t)) l t f (omega arith) (λ h e.
    let a = use_set l t h (f h) e in
    let b = use_least l t h e in
    let c = same h in
    let d : places_in (heap_of (record l { heaps = slice_set l.heaps t (f h) }) t) ≡ places_in (f h) = ap (λ o. places_in (or_fresh o)) (got_same l.heaps t h (f h) e) in
    let g : places_in (heap_of l t) ≡ places_in h = ap (λ o. places_in (or_fresh o)) e in
    omega arith)

placed_went : (s s1 new : AccountsValue) (t : ℕ) (l : Ledger) (before : ℕ) → CachesAgree s → before ≡ places_in (heap_of s.ledger t) → in_use l ≡ in_use s.ledger + places_in (heap_of l t) - places_in (heap_of s.ledger t)
    → s1 ≡ record s { ledger = l } → new ≡ record s1 { used = s1.used + places_in (heap_of s1.ledger t) - before } → new ≡ went_on s l
placed_went s s1 new t l before A was is e1 e =
    e ∙ (ap (λ (k : AccountsValue). record k { used = k.used + places_in (heap_of k.ledger t) - before }) e1
    ∙ ap (λ (u : ℕ). record s { ledger = l; used = u }) (ap₂ (λ a b. a + places_in (heap_of l t) - b) A.used was ∙ sym is))

chunk_units_in : (l : Ledger) (next : Option ℕ) (h : Heap) → units_in l.machine (with_chunk next h) + places_in h ≡ units_in l.machine h + places_in (with_chunk next h)
chunk_units_in l next h = chunk_units_in_by_cases (on_asked next is_small_size)
  where
    chunk_units_in_by_cases : (v : Bool) → let k = cond v (record h { chunks = h.chunks ++ [] ∷ []; room = chunk_words }) (record h { reserved = chunk_units next }) in units_in l.machine k + places_in h ≡ units_in l.machine h + places_in k
    chunk_units_in_by_cases true = omega arith
    chunk_units_in_by_cases false = omega arith

pub went_chunk : (s s1 new : AccountsValue) (w t before : ℕ) → CachesAgree s → before ≡ places_in (heap_of s.ledger t) → s1 ≡ record s { ledger = after_kind s.program s.settings s.ledger w (Chunk t) }
    → new ≡ record s1 { used = s1.used + places_in (heap_of s1.ledger t) - before } → new ≡ went_on s (after_kind s.program s.settings s.ledger w (Chunk t))
went_chunk s s1 new w t before A was e1 e =
    placed_went s s1 new t _ before A was (went_chunk_by_cases (nat_lt s.settings.chunks (in_use s.ledger + chunk_units (asked s.program s.ledger.machine t)))) e1 e
  where
    went_chunk_by_cases : (full : Bool) → let k = cond full (record s.ledger { end = Some (Pool (in_use s.ledger)) }) (with_heap s.ledger t (with_chunk (asked s.program s.ledger.machine t))) in
        in_use k ≡ in_use s.ledger + places_in (heap_of k t) - places_in (heap_of s.ledger t)
    went_chunk_by_cases true = omega arith
    went_chunk_by_cases false = placed_set s.ledger t (with_chunk (asked s.program s.ledger.machine t)) (chunk_units_in s.ledger (asked s.program s.ledger.machine t))

pub went_begin : (s s1 new : AccountsValue) (w t before : ℕ) → CachesAgree s → before ≡ places_in (heap_of s.ledger t) → s1 ≡ record s { ledger = after_kind s.program s.settings s.ledger w (Begin t) }
    → new ≡ record s1 { used = s1.used + places_in (heap_of s1.ledger t) - before } → new ≡ went_on s (after_kind s.program s.settings s.ledger w (Begin t))
went_begin s s1 new w t before A was e1 e = placed_went s s1 new t _ before A was (placed_set s.ledger t _ (λ h. omega arith)) e1 e

-- COLLECTIONS THAT END, AND SWEEPS

pub went_end : (s s1 new : AccountsValue) (w t a g n : ℕ) (parts : Collected) → CachesAgree s → with_collected (heap_of s.ledger t) parts ≡ collected s.ledger.machine (heap_of s.ledger t)
    → (parts.taken, parts.given, parts.left) ≡ end_numbers s.ledger.machine (heap_of s.ledger t)
    → s1 ≡ record s { used = s.used + (length parts.chunks - begun_in (heap_of s.ledger t)) - parts.given }
    → new ≡ record s1 { ledger = with_heap s1.ledger t (collected s1.ledger.machine) } → new ≡ went_on s (after_kind s.program s.settings s.ledger w (EndOf t a g n))
went_end s s1 new w t a g n parts A heap numbers e1 e =
    e ∙ (ap (λ (k : AccountsValue). record k { ledger = with_heap k.ledger t (collected k.ledger.machine) }) e1
    ∙ ap (λ (u : ℕ). record s { ledger = with_heap s.ledger t (collected s.ledger.machine); used = u }) (ap (λ u. u + (length parts.chunks - begun_in (heap_of s.ledger t)) - parts.given) A.used ∙ went_end_by_cases (heap_at s.ledger t) refl heap (ap (λ (q : ℕ × ℕ × ℕ). q.1) numbers)))
  where
    went_end_by_cases : (o : Option Heap) → heap_at s.ledger t ≡ o → with_collected (or_fresh o) parts ≡ collected s.ledger.machine (or_fresh o)
        → parts.given ≡ length (or_fresh o).chunks + (begun_in (or_fresh o) - length (collected s.ledger.machine (or_fresh o)).chunks) + (units_sum s.ledger.machine (or_fresh o).large - units_sum s.ledger.machine (collected s.ledger.machine (or_fresh o)).large)
        → in_use s.ledger + (length parts.chunks - begun_in (heap_of s.ledger t)) - parts.given ≡ in_use (with_heap s.ledger t (collected s.ledger.machine))
    went_end_by_cases None is c d =
        let x : length parts.chunks ≡ 0 = ap (λ (h : Heap). length h.chunks) c in
        let y : begun_in (heap_of s.ledger t) ≡ 0 = ap (λ o. begun_in (or_fresh o)) is in
        let z : in_use (with_heap s.ledger t (collected s.ledger.machine)) ≡ in_use s.ledger = ap in_use (ap (with_heap_at s.ledger t (collected s.ledger.machine)) is) in
        let d' : parts.given ≡ 0 = d in
        omega arith
    went_end_by_cases (Some h) is c d =
        let x : length parts.chunks ≡ length (collected s.ledger.machine h).chunks = ap (λ (h : Heap). length h.chunks) c in
        let y : begun_in (heap_of s.ledger t) ≡ begun_in h = ap (λ o. begun_in (or_fresh o)) is in
        let z : in_use (with_heap s.ledger t (collected s.ledger.machine)) ≡ in_use (record s.ledger { heaps = slice_set s.ledger.heaps t (collected s.ledger.machine h) }) = ap in_use (ap (with_heap_at s.ledger t (collected s.ledger.machine)) is) in
        let q = use_collected s.ledger t h is parts.given d in
        omega arith

pub went_sweep : (s s1 new : AccountsValue) (w t g given : ℕ) → CachesAgree s → given ≡ sweep_number s.ledger.machine (heap_of s.ledger t) → s1 ≡ record s { used = s.used - given }
    → new ≡ record s1 { ledger = with_heap s1.ledger t swept_heap } → new ≡ went_on s (after_kind s.program s.settings s.ledger w (Sweep t g))
went_sweep s s1 new w t g given A number e1 e =
    e ∙ (ap (λ (k : AccountsValue). record k { ledger = with_heap k.ledger t swept_heap }) e1
    ∙ ap (λ (u : ℕ). record s { ledger = with_heap s.ledger t swept_heap; used = u }) (ap (λ u. u - given) A.used ∙ went_sweep_by_cases (heap_at s.ledger t) refl number))
  where
    went_sweep_by_cases : (o : Option Heap) → heap_at s.ledger t ≡ o → given ≡ sweep_number s.ledger.machine (or_fresh o) → in_use s.ledger - given ≡ in_use (with_heap s.ledger t swept_heap)
    went_sweep_by_cases None is d =
        let z : in_use (with_heap s.ledger t swept_heap) ≡ in_use s.ledger = ap in_use (ap (with_heap_at s.ledger t swept_heap) is) in
        let d' : given ≡ 0 = d in
        omega arith
    went_sweep_by_cases (Some h) is d =
        let z : in_use (with_heap s.ledger t swept_heap) ≡ in_use (record s.ledger { heaps = slice_set s.ledger.heaps t (swept_heap h) }) = ap in_use (ap (with_heap_at s.ledger t swept_heap) is) in
        let q = use_swept s.ledger t h is in
        omega arith
