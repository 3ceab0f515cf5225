-- Which race is reported of an access and what is kept.
use Rattle.race_cells.proofs.Common.{◌≡◌, Bool, true, false, not, cond, Option, Some, None, List, reverse, refl, sym, ◌∙◌, find, option_or, option_map, false≢true, not-true, not-false, same_Some, In, CellAccessKind, PlainRead, PlainWrite, AtomicRead, AtomicWrite, CellAccess, CellEntry, CellRace, Stacks, clash, race_of, StrandOrder, lowest_unordered, race_among, race_in, stack_of}
use Rattle.race_cells.proofs.Lists.{found_in, none_found, from_reversed, to_reversed}

module _ (o : StrandOrder) (v : CellAccess) where
  -- a race of v with an entry of a stack of this kind
  pub record IsWith (kind : CellAccessKind) (stack : List CellEntry) (race : CellRace) : Type 0 where
    pub entry : CellEntry
    pub among : In stack entry
    pub clashing : clash kind v.kind ≡ true
    pub unordered : o.before entry.strand v.strand ≡ false
    pub is : race ≡ race_of kind v entry

  -- if v clashes with the stack's kind, all of the stack happens before v
  abbrev pub IsAfterAll : CellAccessKind → List CellEntry → Type 0
  IsAfterAll kind stack = (e : CellEntry) → In stack e → clash kind v.kind ≡ true → o.before e.strand v.strand ≡ true

  some_lowest : (kind : CellAccessKind) (stack : List CellEntry) (race : CellRace) (found : Option CellEntry) → find (λ u. not (o.before u.strand v.strand)) (reverse stack) ≡ found
      → clash kind v.kind ≡ true → option_map (race_of kind v) found ≡ Some race → IsWith kind stack race
  some_lowest kind stack race None is clashing e = absurd cc
  some_lowest kind stack race (Some u) is clashing e =
      let r = found_in (λ (x : CellEntry). not (o.before x.strand v.strand)) (reverse stack) u is in
      record {
        entry = u;
        among = from_reversed stack u r.0;
        clashing = clashing;
        unordered = not-true (o.before u.strand v.strand) r.1;
        is = sym (same_Some (race_of kind v u) race e);
      }

  no_lowest : (kind : CellAccessKind) (stack : List CellEntry) (found : Option CellEntry) → find (λ u. not (o.before u.strand v.strand)) (reverse stack) ≡ found
      → option_map (race_of kind v) found ≡ None → (e : CellEntry) → In stack e → o.before e.strand v.strand ≡ true
  no_lowest kind stack (Some u) is none e i = absurd cc
  no_lowest kind stack None is none e i =
      not-false (o.before e.strand v.strand) (none_found (λ (x : CellEntry). not (o.before x.strand v.strand)) (reverse stack) e is (to_reversed stack e i))

  some_step : (kind : CellAccessKind) (stack : List CellEntry) (race : CellRace) (b : Bool) → clash kind v.kind ≡ b
      → cond b (option_map (race_of kind v) (lowest_unordered o v.strand stack)) None ≡ Some race → IsWith kind stack race
  some_step kind stack race true clashing e = some_lowest kind stack race (lowest_unordered o v.strand stack) refl clashing e
  some_step kind stack race false clashing e = absurd cc

  some_in : (kind : CellAccessKind) (stack : List CellEntry) (race : CellRace) → race_in o v kind stack ≡ Some race → IsWith kind stack race
  some_in kind stack race e = some_step kind stack race (clash kind v.kind) refl e

  none_step : (kind : CellAccessKind) (stack : List CellEntry) (b : Bool) → clash kind v.kind ≡ b
      → cond b (option_map (race_of kind v) (lowest_unordered o v.strand stack)) None ≡ None → IsAfterAll kind stack
  none_step kind stack true is none e i clashing = no_lowest kind stack (lowest_unordered o v.strand stack) refl none e i
  none_step kind stack false is none e i clashing = absurd (false≢true (sym is ∙ clashing))

  none_in : (kind : CellAccessKind) (stack : List CellEntry) → race_in o v kind stack ≡ None → IsAfterAll kind stack
  none_in kind stack e = none_step kind stack (clash kind v.kind) refl e

  -- ---- by kinds

  or_some : {A B : Type 0} (a b : Option A) (x : A) → (a ≡ Some x → B) → (b ≡ Some x → B) → option_or a b ≡ Some x → B
  or_some None b x f g e = g e
  or_some (Some y) b x f g e = f e

  or_none : {A : Type 0} (a b : Option A) → option_or a b ≡ None → (a ≡ None) × (b ≡ None)
  or_none None b e = (refl, e)
  or_none (Some y) b e = absurd cc

  -- what is reported is a race with something that is kept
  pub record IsWithKept (s : Stacks) (race : CellRace) : Type 0 where
    pub kind : CellAccessKind
    pub with : IsWith kind (stack_of s kind) race

  pub reported_with : (s : Stacks) (race : CellRace) → race_among o v s ≡ Some race → IsWithKept s race
  reported_with s race e =
      or_some _ _ race
      (or_some _ _ race
      (λ h. record { kind = PlainRead; with = some_in PlainRead (stack_of s PlainRead) race h })
      (λ h. record { kind = PlainWrite; with = some_in PlainWrite (stack_of s PlainWrite) race h }))
      (or_some _ _ race
      (λ h. record { kind = AtomicRead; with = some_in AtomicRead (stack_of s AtomicRead) race h })
      (λ h. record { kind = AtomicWrite; with = some_in AtomicWrite (stack_of s AtomicWrite) race h }))
      e

  -- where nothing is reported, all that v clashes with happens before v
  pub none_reported : (s : Stacks) → race_among o v s ≡ None → (kind : CellAccessKind) → IsAfterAll kind (stack_of s kind)
  none_reported s e =
      let both = or_none _ _ e in
      let plain = or_none _ _ both.0 in
      let atomic = or_none _ _ both.1 in
      λ kind. by_kind s plain.0 plain.1 atomic.0 atomic.1 kind
    where
      by_kind : (s : Stacks) → race_in o v PlainRead (stack_of s PlainRead) ≡ None → race_in o v PlainWrite (stack_of s PlainWrite) ≡ None
          → race_in o v AtomicRead (stack_of s AtomicRead) ≡ None → race_in o v AtomicWrite (stack_of s AtomicWrite) ≡ None
          → (kind : CellAccessKind) → IsAfterAll kind (stack_of s kind)
      by_kind s a b c d PlainRead = none_in PlainRead (stack_of s PlainRead) a
      by_kind s a b c d PlainWrite = none_in PlainWrite (stack_of s PlainWrite) b
      by_kind s a b c d AtomicRead = none_in AtomicRead (stack_of s AtomicRead) c
      by_kind s a b c d AtomicWrite = none_in AtomicWrite (stack_of s AtomicWrite) d
