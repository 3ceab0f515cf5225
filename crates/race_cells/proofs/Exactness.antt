-- What is reported of a location's accesses is exactly its first race.
use Rattle.race_cells.proofs.Common.{◌≡◌, ℕ, zero, suc, ◌<◌, ◌≤◌, true, false, cond, Option, Some, None, is_some, List, [], ◌∷◌, ◌++◌, All, AllPairs, fold, ◌⊎◌, inl, inr, refl, ap, sym, subst, ◌∙◌, arith, option_or, false≢true, false_from_ne_true, append-nil, append_assoc, All-head, All-tail, In, in_append_left, in_append_right, in_append_cases, CellAccessKind, PlainRead, PlainWrite, AtomicRead, AtomicWrite, CellAccess, CellEntry, CellRace, Stacks, access_of, clash, entry_of, StrandOrder, ExtendsPrecedence, MeetsAsInTree, settled, after, keep, kept_by, no_stacks, race_among, race_at, reported_from, scanned, stack_of, AreStrandsInOrder, IsExact, IsExactNext, IsFirstRace, RaceFree, Races, ScanIsExact}
use Rattle.race_cells.proofs.Standing.{Falling, StandsFor, falling_in, falling_later, settled_among, settled_falls, settled_stands, stands_after, stands_itself, stands_later, stands_through}
use Rattle.race_cells.proofs.Reports.{IsWithKept, none_reported, reported_with}

-- ---- kinds

write_clashes : (kind : CellAccessKind) → clash PlainWrite kind ≡ true
write_clashes PlainRead = refl
write_clashes PlainWrite = refl
write_clashes AtomicRead = refl
write_clashes AtomicWrite = refl

clashes_with_write : (kind : CellAccessKind) → clash kind PlainWrite ≡ true
clashes_with_write PlainRead = refl
clashes_with_write PlainWrite = refl
clashes_with_write AtomicRead = refl
clashes_with_write AtomicWrite = refl

pub clash_either_way : (a b : CellAccessKind) → clash a b ≡ clash b a
clash_either_way PlainRead PlainRead = refl
clash_either_way PlainRead PlainWrite = refl
clash_either_way PlainRead AtomicRead = refl
clash_either_way PlainRead AtomicWrite = refl
clash_either_way PlainWrite PlainRead = refl
clash_either_way PlainWrite PlainWrite = refl
clash_either_way PlainWrite AtomicRead = refl
clash_either_way PlainWrite AtomicWrite = refl
clash_either_way AtomicRead PlainRead = refl
clash_either_way AtomicRead PlainWrite = refl
clash_either_way AtomicRead AtomicRead = refl
clash_either_way AtomicRead AtomicWrite = refl
clash_either_way AtomicWrite PlainRead = refl
clash_either_way AtomicWrite PlainWrite = refl
clash_either_way AtomicWrite AtomicRead = refl
clash_either_way AtomicWrite AtomicWrite = refl

-- the stack of a kind is settled, or a plain write has emptied all
data Changes (o : StrandOrder) (v : CellAccess) (k : CellAccessKind) (s s' : Stacks) : Type 0 where
  Settles : (stack_of s' k ≡ settled o (entry_of v) (stack_of s k)) → ((j : CellAccessKind) → (j ≡ k) ⊎ (stack_of s' j ≡ stack_of s j)) → Changes o v k s s'
  Empties : (k ≡ PlainWrite) → (stack_of s' k ≡ entry_of v ∷ []) → ((j : CellAccessKind) → (j ≡ k) ⊎ (stack_of s' j ≡ [])) → Changes o v k s s'

changes : (o : StrandOrder) (v : CellAccess) (s : Stacks) (k : CellAccessKind) → Changes o v k s (kept_by o v s k)
changes o v s PlainRead = Settles refl elim [ PlainRead ↦ inl refl | PlainWrite ↦ inr refl | AtomicRead ↦ inr refl | AtomicWrite ↦ inr refl ]
changes o v s PlainWrite = Empties refl refl elim [ PlainRead ↦ inr refl | PlainWrite ↦ inl refl | AtomicRead ↦ inr refl | AtomicWrite ↦ inr refl ]
changes o v s AtomicRead = Settles refl elim [ PlainRead ↦ inr refl | PlainWrite ↦ inr refl | AtomicRead ↦ inl refl | AtomicWrite ↦ inr refl ]
changes o v s AtomicWrite = Settles refl elim [ PlainRead ↦ inr refl | PlainWrite ↦ inr refl | AtomicRead ↦ inr refl | AtomicWrite ↦ inl refl ]

-- an access from its kind and its entry
pub same_access : (v : CellAccess) (k : CellAccessKind) (e : CellEntry) → k ≡ v.kind → entry_of v ≡ e → access_of k e ≡ v
same_access v k e is same = ap (λ (x : CellEntry). access_of k x) (sym same) ∙ ap (λ j. access_of j (entry_of v)) is

-- ---- accesses in order

-- in order, from a strand on
abbrev pub InOrderFrom : StrandOrder → ℕ → List CellAccess → Type 0
InOrderFrom o now [] = Unit {0}
InOrderFrom o now (v ∷ vs) = (now ≤ v.strand) × (v.strand < o.strands) × InOrderFrom o v.strand vs

pub in_order_from : (o : StrandOrder) (now : ℕ) (vs : List CellAccess) → All (λ v. now ≤ v.strand) vs → All (λ v. v.strand < o.strands) vs
    → AllPairs (λ u v. u.strand ≤ v.strand) vs → InOrderFrom o now vs
in_order_from o now [] late known serial = tt
in_order_from o now (v ∷ vs) late known serial = (
  All-head (λ (x : CellAccess). now ≤ x.strand) v vs late,
  All-head (λ (x : CellAccess). x.strand < o.strands) v vs known,
  in_order_from o v.strand vs (λ k d lt. serial zero (suc k) d (omega arith) (omega arith)) (All-tail (λ (x : CellAccess). x.strand < o.strands) v vs known)
      (λ i j d lt lt'. serial (suc i) (suc j) d (omega arith) (omega arith)),
)

pub in_order : (o : StrandOrder) (vs : List CellAccess) → AreStrandsInOrder o vs → InOrderFrom o 0 vs
in_order o vs are = in_order_from o 0 vs (λ k d lt. omega arith) are.known are.serial

module _ (o : StrandOrder) (order : ExtendsPrecedence o) (tree : MeetsAsInTree o) where
  abbrev Stands : ℕ → ℕ → ℕ → Type 0
  Stands now y x = StandsFor o order tree now y x

  -- an entry of its kind stands for an access, or a plain write
  record IsKnown (now : ℕ) (s : Stacks) (x : CellAccess) : Type 0 where
    kind : CellAccessKind
    entry : CellEntry
    among : In (stack_of s kind) entry
    of_kind : (kind ≡ x.kind) ⊎ (kind ≡ PlainWrite)
    stands : Stands now entry.strand x.strand

  -- what a cell keeps of the accesses so far
  record Keeps (now : ℕ) (past : List CellAccess) (s : Stacks) : Type 0 where
    members : (kind : CellAccessKind) (e : CellEntry) → In (stack_of s kind) e → In past (access_of kind e)
    known : (x : CellAccess) → In past x → IsKnown now s x
    falling : (kind : CellAccessKind) → Falling now (stack_of s kind)
    free : RaceFree o past

  turned : (u v : CellAccess) → Races o u v → Races o v u
  turned u v r = record { clashing = clash_either_way v.kind u.kind ∙ r.clashing; not_before = r.not_after; not_after = r.not_before }

  module _ (now : ℕ) (past : List CellAccess) (s : Stacks) (keeps : Keeps now past s) (v : CellAccess) (late : now ≤ v.strand) (there : v.strand < o.strands) where
    -- ---- a race is reported

    not_after_it : (e : CellEntry) → e.strand ≤ now → o.before e.strand v.strand ≡ false → o.before v.strand e.strand ≡ false
    not_after_it e early unordered =
        false_from_ne_true (o.before v.strand e.strand)
        (λ h.
        let le : v.strand ≤ e.strand = order.serial v.strand e.strand (omega arith) h in
        let same : v.strand ≡ e.strand = omega arith in
        false≢true (sym unordered ∙ (ap (λ x. o.before x v.strand) (sym same) ∙ order.same v.strand there)))

    first_race : (race : CellRace) (later : List CellAccess) → IsWithKept o v s race → IsFirstRace o (past ++ v ∷ later) race
    first_race race later kept =
        let w = kept.with in
        let e = w.entry in
        let early : e.strand ≤ now = falling_in now (stack_of s kept.kind) e (keeps.falling kept.kind) w.among in
        subst (λ (r : CellRace). IsFirstRace o (past ++ v ∷ later) r) (sym w.is)
        (record {
          earlier = past;
          later = later;
          apart = refl;
          free = keeps.free;
          among = keeps.members kept.kind e w.among;
          races = record { clashing = w.clashing; not_before = w.unordered; not_after = not_after_it e early w.unordered };
        })

    -- ---- none is reported

    module _ (none : race_among o v s ≡ None) where
      clash_with : (kind : CellAccessKind) (x : CellAccess) → (kind ≡ x.kind) ⊎ (kind ≡ PlainWrite) → clash x.kind v.kind ≡ true → clash kind v.kind ≡ true
      clash_with kind x (inl is) clashing = ap (λ k. clash k v.kind) is ∙ clashing
      clash_with kind x (inr is) clashing = ap (λ k. clash k v.kind) is ∙ write_clashes v.kind

      -- what v clashes with happens before v
      is_before : (x : CellAccess) → In past x → clash x.kind v.kind ≡ true → o.before x.strand v.strand ≡ true
      is_before x i clashing =
          let k = keeps.known x i in
          k.stands.on v.strand late there (none_reported o v s none k.kind k.entry k.among (clash_with k.kind x k.of_kind clashing))

      no_race : (x : CellAccess) → In past x → Races o x v → ⊥
      no_race x i r = false≢true (sym r.not_before ∙ is_before x i r.clashing)

      own_free : Races o v v → ⊥
      own_free r = false≢true (sym r.not_before ∙ order.same v.strand there)

      from_last : (x : CellAccess) → In (v ∷ []) x → v ≡ x
      from_last x (inl is) = is
      from_last x (inr i) = absurd i

      free_next : RaceFree o (past ++ v ∷ [])
      free_next x y i j r =
          elim (in_append_cases past (v ∷ []) x i) [
            | inl a ↦ elim (in_append_cases past (v ∷ []) y j) [
              | inl b ↦ keeps.free x y a b r
              | inr b ↦ no_race x a (subst (λ (z : CellAccess). Races o x z) (sym (from_last y b)) r)
            ]
            | inr a ↦
                let r' : Races o v y = subst (λ (z : CellAccess). Races o z y) (sym (from_last x a)) r in
                elim (in_append_cases past (v ∷ []) y j) [
                  | inl b ↦ no_race y b (turned v y r')
                  | inr b ↦ own_free (subst (λ (z : CellAccess). Races o v z) (sym (from_last y b)) r')
                ]
          ]

      fell : (kind : CellAccessKind) → Falling v.strand (stack_of s kind)
      fell kind = falling_later now v.strand (stack_of s kind) late (keeps.falling kind)

      -- v itself, where its entry is in a stack
      own_known : (s' : Stacks) → In (stack_of s' v.kind) (entry_of v) → IsKnown v.strand s' v
      own_known s' i = record { kind = v.kind; entry = entry_of v; among = i; of_kind = inl refl; stands = stands_itself o order tree v.strand v.strand }

      with_last : (s' : Stacks) → ((x : CellAccess) → In past x → IsKnown v.strand s' x) → IsKnown v.strand s' v → (x : CellAccess) → In (past ++ v ∷ []) x → IsKnown v.strand s' x
      with_last s' old own x i =
          elim (in_append_cases past (v ∷ []) x i) [
            | inl a ↦ old x a
            | inr a ↦ subst (λ (z : CellAccess). IsKnown v.strand s' z) (from_last x a) own
          ]

      -- ---- a stack is settled

      module _ (s' : Stacks) (here : stack_of s' v.kind ≡ settled o (entry_of v) (stack_of s v.kind))
          (at : (j : CellAccessKind) → (j ≡ v.kind) ⊎ (stack_of s' j ≡ stack_of s j)) where
        settled_member : (kind : CellAccessKind) (e : CellEntry) → In (stack_of s' kind) e → (kind ≡ v.kind) ⊎ (stack_of s' kind ≡ stack_of s kind) → In (past ++ v ∷ []) (access_of kind e)
        settled_member kind e i (inl is) =
            let j : In (settled o (entry_of v) (stack_of s v.kind)) e = subst (λ (l : List CellEntry). In l e) (ap (stack_of s') is ∙ here) i in
            elim (settled_among o order tree (entry_of v) (stack_of s v.kind) (fell v.kind) e j) [
              | inl same ↦ in_append_right past (v ∷ []) (access_of kind e) (inl (sym (same_access v kind e is same)))
              | inr old ↦
                  in_append_left past (v ∷ []) (access_of kind e)
                  (subst (λ (k : CellAccessKind). In past (access_of k e)) (sym is) (keeps.members v.kind e old))
            ]
        settled_member kind e i (inr same) =
            in_append_left past (v ∷ []) (access_of kind e) (keeps.members kind e (subst (λ (l : List CellEntry). In l e) same i))

        settled_known : (x : CellAccess) (k : IsKnown now s x) → (k.kind ≡ v.kind) ⊎ (stack_of s' k.kind ≡ stack_of s k.kind) → IsKnown v.strand s' x
        settled_known x k (inl is) =
            let j : In (stack_of s v.kind) k.entry = subst (λ (q : CellAccessKind). In (stack_of s q) k.entry) is k.among in
            let r = settled_stands o order tree (entry_of v) (stack_of s v.kind) (fell v.kind) k.entry j in
            record {
              kind = k.kind;
              entry = r.0;
              among = subst (λ (l : List CellEntry). In l r.0) (sym (ap (stack_of s') is ∙ here)) r.1;
              of_kind = k.of_kind;
              stands = stands_through o order tree v.strand r.0.strand k.entry.strand x.strand r.2 (stands_later o order tree now v.strand k.entry.strand x.strand late k.stands);
            }
        settled_known x k (inr same) = record {
          kind = k.kind;
          entry = k.entry;
          among = subst (λ (l : List CellEntry). In l k.entry) (sym same) k.among;
          of_kind = k.of_kind;
          stands = stands_later o order tree now v.strand k.entry.strand x.strand late k.stands;
        }

        settled_falling : (kind : CellAccessKind) → (kind ≡ v.kind) ⊎ (stack_of s' kind ≡ stack_of s kind) → Falling v.strand (stack_of s' kind)
        settled_falling kind (inl is) =
            subst (λ (l : List CellEntry). Falling v.strand l) (sym (ap (stack_of s') is ∙ here)) (settled_falls o order tree (entry_of v) (stack_of s v.kind) (fell v.kind))
        settled_falling kind (inr same) = subst (λ (l : List CellEntry). Falling v.strand l) (sym same) (fell kind)

        settled_keeps : Keeps v.strand (past ++ v ∷ []) s'
        settled_keeps = record {
          members = λ kind e i. settled_member kind e i (at kind);
          known = with_last s' (λ x i. let k = keeps.known x i in settled_known x k (at k.kind))
              (own_known s' (subst (λ (l : List CellEntry). In l (entry_of v)) (sym here) (inl refl)));
          falling = λ kind. settled_falling kind (at kind);
          free = free_next;
        }

      -- ---- a plain write empties all stacks

      module _ (s' : Stacks) (write : v.kind ≡ PlainWrite) (here : stack_of s' v.kind ≡ entry_of v ∷ [])
          (at : (j : CellAccessKind) → (j ≡ v.kind) ⊎ (stack_of s' j ≡ [])) where
        emptied_member : (kind : CellAccessKind) (e : CellEntry) → In (stack_of s' kind) e → (kind ≡ v.kind) ⊎ (stack_of s' kind ≡ []) → In (past ++ v ∷ []) (access_of kind e)
        emptied_member kind e i (inl is) =
            let j : In (entry_of v ∷ []) e = subst (λ (l : List CellEntry). In l e) (ap (stack_of s') is ∙ here) i in
            elim j [
              | inl same ↦ in_append_right past (v ∷ []) (access_of kind e) (inl (sym (same_access v kind e is same)))
              | inr never ↦ absurd never
            ]
        emptied_member kind e i (inr same) = absurd (subst (λ (l : List CellEntry). In l e) same i)

        emptied_falling : (kind : CellAccessKind) → (kind ≡ v.kind) ⊎ (stack_of s' kind ≡ []) → Falling v.strand (stack_of s' kind)
        emptied_falling kind (inl is) = subst (λ (l : List CellEntry). Falling v.strand l) (sym (ap (stack_of s') is ∙ here)) (omega arith, tt)
        emptied_falling kind (inr same) = subst (λ (l : List CellEntry). Falling v.strand l) (sym same) tt

        emptied_known : (x : CellAccess) → In past x → IsKnown v.strand s' x
        emptied_known x i = record {
          kind = v.kind;
          entry = entry_of v;
          among = subst (λ (l : List CellEntry). In l (entry_of v)) (sym here) (inl refl);
          of_kind = inr write;
          stands = stands_after o order tree v.strand v.strand x.strand (is_before x i (ap (clash x.kind) write ∙ clashes_with_write x.kind));
        }

        emptied_keeps : Keeps v.strand (past ++ v ∷ []) s'
        emptied_keeps = record {
          members = λ kind e i. emptied_member kind e i (at kind);
          known = with_last s' emptied_known (own_known s' (subst (λ (l : List CellEntry). In l (entry_of v)) (sym here) (inl refl)));
          falling = λ kind. emptied_falling kind (at kind);
          free = free_next;
        }

      keeps_changed : (s' : Stacks) → Changes o v v.kind s s' → Keeps v.strand (past ++ v ∷ []) s'
      keeps_changed s' (Settles here at) = settled_keeps s' here at
      keeps_changed s' (Empties write here at) = emptied_keeps s' write here at

      keeps_next : Keeps v.strand (past ++ v ∷ []) (keep o v s)
      keeps_next = keeps_changed (keep o v s) (changes o v s v.kind)

  -- ---- all accesses

  abbrev if_none : Option CellRace → Stacks → Option Stacks
  if_none found s = cond (is_some found) None (Some s)

  exact_step : (now : ℕ) (past : List CellAccess) (s : Stacks) → Keeps now past s → (v : CellAccess) (vs : List CellAccess) → InOrderFrom o now (v ∷ vs)
      → (found : Option CellRace) → race_among o v s ≡ found
      → (Keeps v.strand (past ++ v ∷ []) (keep o v s) → IsExact o ((past ++ v ∷ []) ++ vs) (reported_from o (Some (keep o v s)) vs))
      → IsExact o (past ++ v ∷ vs) (option_or found (reported_from o (if_none found (keep o v s)) vs))
  exact_step now past s keeps v vs ordered (Some race) is more = first_race now past s keeps v ordered.0 ordered.1 race vs (reported_with o v s race is)
  exact_step now past s keeps v vs ordered None is more =
      subst (λ (l : List CellAccess). IsExact o l (reported_from o (Some (keep o v s)) vs)) (append_assoc past (v ∷ []) vs)
      (more (keeps_next now past s keeps v ordered.0 ordered.1 is))

  exact_from : (vs : List CellAccess) (now : ℕ) (past : List CellAccess) (s : Stacks) → Keeps now past s → InOrderFrom o now vs → IsExact o (past ++ vs) (reported_from o (Some s) vs)
  exact_from [] now past s keeps ordered = subst (λ (l : List CellAccess). RaceFree o l) (sym (append-nil past)) keeps.free
  exact_from (v ∷ vs) now past s keeps ordered =
      exact_step now past s keeps v vs ordered (race_among o v s) refl (λ next. exact_from vs v.strand (past ++ v ∷ []) (keep o v s) next ordered.2)

  nothing_in : (kind : CellAccessKind) (e : CellEntry) → In (stack_of no_stacks kind) e → ⊥
  nothing_in PlainRead e i = i
  nothing_in PlainWrite e i = i
  nothing_in AtomicRead e i = i
  nothing_in AtomicWrite e i = i

  nothing_falls : (kind : CellAccessKind) → Falling 0 (stack_of no_stacks kind)
  nothing_falls PlainRead = tt
  nothing_falls PlainWrite = tt
  nothing_falls AtomicRead = tt
  nothing_falls AtomicWrite = tt

  keeps_nothing : Keeps 0 [] no_stacks
  keeps_nothing = record {
    members = λ kind e i. absurd (nothing_in kind e i);
    known = λ x i. absurd i;
    falling = nothing_falls;
    free = λ u v i j r. absurd i;
  }

-- ---- the access after these

-- what a cell is after these accesses: it keeps of them what it has to, or two of them race
abbrev IsRight : (o : StrandOrder) → ExtendsPrecedence o → MeetsAsInTree o → ℕ → List CellAccess → Option Stacks → Type 0
IsRight o order tree now past None = RaceFree o past → ⊥
IsRight o order tree now past (Some s) = Keeps o order tree now past s

module _ (o : StrandOrder) (order : ExtendsPrecedence o) (tree : MeetsAsInTree o) where
  free_front : (past : List CellAccess) (v : CellAccess) → RaceFree o (past ++ v ∷ []) → RaceFree o past
  free_front past v free x y i j r = free x y (in_append_left past (v ∷ []) x i) (in_append_left past (v ∷ []) y j) r

  reported_races : (past : List CellAccess) (v : CellAccess) (race : CellRace) → IsFirstRace o (past ++ v ∷ []) race → RaceFree o (past ++ v ∷ []) → ⊥
  reported_races past v race first free =
      free race.first race.second
      (subst (λ (l : List CellAccess). In l race.first) (sym first.apart) (in_append_left first.earlier (race.second ∷ first.later) race.first first.among))
      (subst (λ (l : List CellAccess). In l race.second) (sym first.apart) (in_append_right first.earlier (race.second ∷ first.later) race.second (inl refl)))
      first.races

  right_step : (now : ℕ) (past : List CellAccess) (s : Stacks) → Keeps o order tree now past s → (v : CellAccess) → now ≤ v.strand → v.strand < o.strands
      → (found : Option CellRace) → race_among o v s ≡ found → IsRight o order tree v.strand (past ++ v ∷ []) (cond (is_some found) None (Some (keep o v s)))
  right_step now past s keeps v late there (Some race) is =
      reported_races past v race (first_race o order tree now past s keeps v late there race [] (reported_with o v s race is))
  right_step now past s keeps v late there None is = keeps_next o order tree now past s keeps v late there is

  right_after : (now : ℕ) (past : List CellAccess) (cell : Option Stacks) → IsRight o order tree now past cell → (v : CellAccess) → now ≤ v.strand → v.strand < o.strands
      → IsRight o order tree v.strand (past ++ v ∷ []) (after o cell v)
  right_after now past None right v late there = λ free. right (free_front past v free)
  right_after now past (Some s) right v late there = right_step now past s right v late there (race_among o v s) refl

  -- what is reported next
  next_found : (now : ℕ) (past : List CellAccess) (s : Stacks) → Keeps o order tree now past s → (v : CellAccess) → now ≤ v.strand → v.strand < o.strands
      → (found : Option CellRace) → race_among o v s ≡ found → IsExactNext o past v found
  next_found now past s keeps v late there None is = λ free. free_next o order tree now past s keeps v late there is
  next_found now past s keeps v late there (Some race) is =
      let kept = reported_with o v s race is in
      let first = first_race o order tree now past s keeps v late there race [] kept in
      let second : race.second ≡ v = ap (λ (r : CellRace). r.second) kept.with.is in (
        keeps.free,
        second,
        subst (λ (r : CellRace). In past r.first) (sym kept.with.is) (keeps.members kept.kind kept.with.entry kept.with.among),
        subst (λ (z : CellAccess). Races o race.first z) second first.races,
      )

  next_reported : (now : ℕ) (past : List CellAccess) (cell : Option Stacks) → IsRight o order tree now past cell → (v : CellAccess) → now ≤ v.strand → v.strand < o.strands
      → IsExactNext o past v (race_at o cell v)
  next_reported now past None right v late there = λ free. absurd (right free)
  next_reported now past (Some s) right v late there = next_found now past s right v late there (race_among o v s) refl

  next_from : (vs : List CellAccess) (now : ℕ) (past : List CellAccess) (cell : Option Stacks) → IsRight o order tree now past cell → (v : CellAccess) → InOrderFrom o now (vs ++ v ∷ [])
      → IsExactNext o (past ++ vs) v (race_at o (fold (after o) cell vs) v)
  next_from [] now past cell right v ordered =
      subst (λ (l : List CellAccess). IsExactNext o l v (race_at o cell v)) (sym (append-nil past)) (next_reported now past cell right v ordered.0 ordered.1)
  next_from (u ∷ us) now past cell right v ordered =
      subst (λ (l : List CellAccess). IsExactNext o l v (race_at o (fold (after o) (after o cell u) us) v)) (append_assoc past (u ∷ []) us)
      (next_from us u.strand (past ++ u ∷ []) (after o cell u) (right_after now past cell right u ordered.0 ordered.1) v ordered.2)

next_is_exact : (o : StrandOrder) → ExtendsPrecedence o → MeetsAsInTree o → (past : List CellAccess) (v : CellAccess) → AreStrandsInOrder o (past ++ v ∷ [])
    → IsExactNext o past v (race_at o (scanned o past) v)
next_is_exact o order tree past v are = next_from o order tree past 0 [] (Some no_stacks) (keeps_nothing o order tree) v (in_order o (past ++ v ∷ []) are)

-- the same of a cell that has seen these accesses
pub next_of_cell : (o : StrandOrder) (cell : Option Stacks) (v : CellAccess) (found : Option CellRace) → race_at o cell v ≡ found
    → (past : List CellAccess) → cell ≡ scanned o past → ExtendsPrecedence o → MeetsAsInTree o → AreStrandsInOrder o (past ++ v ∷ []) → IsExactNext o past v found
next_of_cell o cell v found is past seen order tree are =
    subst (λ (r : Option CellRace). IsExactNext o past v r) (ap (λ c. race_at o c v) (sym seen) ∙ is) (next_is_exact o order tree past v are)

pub scan_is_exact : ScanIsExact
scan_is_exact o order tree accesses are = exact_from o order tree accesses 0 [] no_stacks (keeps_nothing o order tree) (in_order o accesses are)
