-- A release is one plain write of each location of its block that is accessed, however many regions have it.
use Rattle.race_scan.proofs.Common.{◌≡◌, ◌==◌, ℕ, ◌+◌, ◌*◌, ◌/◌, ◌%◌, ◌<◌, ◌≤◌, true, Option, Some, None, List, [], ◌∷◌, ◌++◌, length, get_or, filter, is_some, fold, inl, inr, refl, ap, sym, subst, ◌∙◌, append-nil, arith, eq-eqb, if◌then◌else◌, option_or, eqb-true, false≢true, append_assoc, In, any_from_in, in_from_any, in_kept, in_from_kept, in_map, in_read, map_in, LocationSlot, Region, page_key, Covers, PlacesValue, stretch_count, slots_of_block, AreMarked, IsAccessed, found_on, marked_whole, slot_each, slot_some, slots_are_counted, slots_differ, CellAccess, CellRace, Stacks, StrandOrder, entry_of, after, no_stacks, race_among, race_at, reported, scanned, scans_go_on, Touch, accesses_at, covers, is_accessed, plain_write, touch_of, touches_of_release, AreSlots, ScanValue, visited, HasScanned, ReleasesWriteWhatIsAccessed}
use Rattle.race_scan.proofs.Covering.{run_covers, run_of}
use Rattle.race_scan.proofs.Scanning.{AreOneAccess, DoesOnce, same_upto, scanned_more}
use Rattle.race_scan.proofs.Visiting.{or_none}

-- A PLAIN WRITE THAT COMES AGAIN

module _ (o : StrandOrder) (strand line : ℕ) (known : o.before strand strand ≡ true) where
  abbrev a : CellAccess
  a = plain_write strand line

  -- the cell once it was written, which writing again leaves
  abbrev written : Stacks
  written = record no_stacks { plain_write = Some (entry_of a) }

  no_race : race_among o a written ≡ None
  no_race = rw known refl

  pub record IsSettled (cell : Option Stacks) : Type 0 where
    pub same : after o cell a ≡ cell
    pub free : race_at o cell a ≡ None

  settled_written : IsSettled (Some written)
  settled_written = record { same = ap (λ (r : Option CellRace). if is_some r then None else Some written) no_race; free = no_race }

  settled_by : (r : Option CellRace) → IsSettled (if is_some r then None else Some written)
  settled_by None = settled_written
  settled_by (Some r) = record { same = refl; free = refl }

  settled : (cell : Option Stacks) → IsSettled (after o cell a)
  settled None = record { same = refl; free = refl }
  settled (Some s) = settled_by (race_among o a s)

  abbrev AllAre : List CellAccess → Type 0
  AllAre vs = (v : CellAccess) → In vs v → v ≡ a

  stays : (vs : List CellAccess) → AllAre vs → (past : List CellAccess) → IsSettled (scanned o past) → (scanned o (past ++ vs) ≡ scanned o past) × (reported o (past ++ vs) ≡ reported o past)
  stays [] all past is = (ap (scanned o) (append-nil past), ap (reported o) (append-nil past))
  stays (v ∷ vs) all past is =
      let e : v ≡ a = all v (inl refl) in
      let g = scans_go_on o past a in
      let cell : scanned o (past ++ v ∷ []) ≡ scanned o past = ap (λ (u : CellAccess). scanned o (past ++ u ∷ [])) e ∙ (g.cell ∙ is.same) in
      let race : reported o (past ++ v ∷ []) ≡ reported o past =
      ap (λ (u : CellAccess). reported o (past ++ u ∷ [])) e ∙ (g.race ∙ (ap (option_or (reported o past)) is.free ∙ or_none (reported o past))) in
      let more = stays vs (λ u i. all u (inr i)) (past ++ v ∷ []) (subst (λ (c : Option Stacks). IsSettled c) (sym cell) is) in
      let l : past ++ v ∷ vs ≡ (past ++ v ∷ []) ++ vs = sym (append_assoc past (v ∷ []) vs) in
      (ap (scanned o) l ∙ (more.0 ∙ cell), ap (reported o) l ∙ (more.1 ∙ race))

  pub many_writes : (vs : List CellAccess) → AllAre vs → In vs a → DoesOnce o a vs
  many_writes [] all i past = absurd i
  many_writes (v ∷ vs) all i past =
      let e : v ≡ a = all v (inl refl) in
      let g = scans_go_on o past a in
      let cell : scanned o (past ++ v ∷ []) ≡ after o (scanned o past) a = ap (λ (u : CellAccess). scanned o (past ++ u ∷ [])) e ∙ g.cell in
      let race : reported o (past ++ v ∷ []) ≡ option_or (reported o past) (race_at o (scanned o past) a) = ap (λ (u : CellAccess). reported o (past ++ u ∷ [])) e ∙ g.race in
      let more = stays vs (λ u j. all u (inr j)) (past ++ v ∷ []) (subst (λ (c : Option Stacks). IsSettled c) (sym cell) (settled (scanned o past))) in
      let l : past ++ v ∷ vs ≡ (past ++ v ∷ []) ++ vs = sym (append_assoc past (v ∷ []) vs) in
      (ap (scanned o) l ∙ (more.0 ∙ cell), ap (reported o) l ∙ (more.1 ∙ race))

-- WHAT A RELEASE TOUCHES

-- a touch of a release is of a region of its block
pub record IsOfRelease (rs : List Region) (block : ℕ) (access : CellAccess) (t : Touch) : Type 0 where
  pub among : In rs t.region
  pub of_block : t.region.block ≡ block
  pub access_is : t.access ≡ access

of_release : (rs : List Region) (block strand line : ℕ) (t : Touch) → In (touches_of_release rs block strand line) t → IsOfRelease rs block (plain_write strand line) t
of_release rs block strand line t i =
    let m = map_in (touch_of (plain_write strand line)) (filter (λ (r : Region). r.block == block) rs) t i in
    let k = in_from_kept (λ (r : Region). r.block == block) rs m.0 m.1 in
    record {
      among = subst (λ (u : Touch). In rs u.region) m.2 k.0;
      of_block = subst (λ (u : Touch). u.region.block ≡ block) m.2 (eqb-true m.0.block block k.1);
      access_is = ap (λ (u : Touch). u.access) (sym m.2);
    }

release_of : (rs : List Region) (block strand line : ℕ) (r : Region) → In rs r → r.block ≡ block → In (touches_of_release rs block strand line) (touch_of (plain_write strand line) r)
release_of rs block strand line r i e =
    in_map (touch_of (plain_write strand line)) (filter (λ (q : Region). q.block == block) rs) r (in_kept (λ (q : Region). q.block == block) rs r i (eq-eqb r.block block e))

nothing : {A : Type 0} (xs : List A) → ((x : A) → In xs x → ⊥) → xs ≡ []
nothing [] never = refl
nothing (x ∷ xs) never = absurd (never x (inl refl))

module _ (rs : List Region) (block strand line : ℕ) where
  abbrev ts : List Touch
  ts = touches_of_release rs block strand line

  -- whose access it is
  access_in : (other x : ℕ) (v : CellAccess) → In (accesses_at ts other x) v → (t : Touch) × In ts t × (covers t.region other x ≡ true) × (t.access ≡ v)
  access_in other x v i =
      let m = map_in (λ (t : Touch). t.access) (filter (λ (t : Touch). covers t.region other x) ts) v i in
      let k = in_from_kept (λ (t : Touch). covers t.region other x) ts m.0 m.1 in
      (m.0, k.0, k.1, m.2)

  all_are : (x : ℕ) (v : CellAccess) → In (accesses_at ts block x) v → v ≡ plain_write strand line
  all_are x v i = let m = access_in block x v i in sym m.3 ∙ (of_release rs block strand line m.0 m.1).access_is

  pub release_is_one : (o : StrandOrder) → o.before strand strand ≡ true → AreOneAccess o ts block (plain_write strand line) (is_accessed rs block)
  release_is_one o known = record {
    here = λ x h.
        let m = in_from_any (λ (r : Region). covers r block x) rs h in
        let i = release_of rs block strand line m.0 m.1 (run_of m.0 block x m.2).0 in
        many_writes o strand line known (accesses_at ts block x) (all_are x)
        (in_map (λ (t : Touch). t.access) (filter (λ (t : Touch). covers t.region block x) ts) (touch_of (plain_write strand line) m.0)
        (in_kept (λ (t : Touch). covers t.region block x) ts (touch_of (plain_write strand line) m.0) i m.2));
    none = λ x h. nothing (accesses_at ts block x) (λ v i.
        let m = access_in block x v i in
        false≢true (sym h ∙ any_from_in (λ (r : Region). covers r block x) rs m.0.region (of_release rs block strand line m.0 m.1).among m.2));
    elsewhere = λ other x never. nothing (accesses_at ts other x) (λ v i.
        let m = access_in other x v i in
        never (sym (run_of m.0.region other x m.2).0 ∙ (of_release rs block strand line m.0 m.1).of_block));
    known = λ t x i h.
        let m = of_release rs block strand line t i in
        (m.of_block, any_from_in (λ (r : Region). covers r block x) rs t.region m.among (subst (λ (y : ℕ). covers t.region y x ≡ true) m.of_block h));
  }

pub releases_write : ReleasesWriteWhatIsAccessed
releases_write rs block strand line = record {
  access = λ t i. (of_release rs block strand line t i).access_is;
  covers = λ other x. (
    λ w.
        let m = of_release rs block strand line w.0 w.1 in
        let same = sym w.2.of_block ∙ m.of_block in
        (same, (w.0.region, m.among, subst (λ (y : ℕ). Covers w.0.region y x) same w.2)),
    λ h. (
      touch_of (plain_write strand line) h.1.0,
      release_of rs block strand line h.1.0 h.1.1 h.1.2.of_block,
      subst (λ (y : ℕ). Covers h.1.0 y x) (sym h.0) h.1.2,
    ),
  );
}

-- THE SLOTS OF A BLOCK

accessed_from : (rs : List Region) (block x : ℕ) → IsAccessed rs block x → is_accessed rs block x ≡ true
accessed_from rs block x h =
    any_from_in (λ (r : Region). covers r block x) rs h.0 h.1 (subst (λ b. covers h.0 b x ≡ true) h.2.of_block (run_covers h.0 h.2.run x h.2.there h.2.from h.2.below))

from_accessed : (rs : List Region) (block x : ℕ) → is_accessed rs block x ≡ true → IsAccessed rs block x
from_accessed rs block x h =
    let m = in_from_any (λ (r : Region). covers r block x) rs h in
    let c = run_of m.0 block x m.2 in
    (m.0, m.1, record { of_block = c.0; run = c.1.run; there = c.1.there; from = c.1.from; below = c.1.below })

pub block_slots : (rs : List Region) (v : PlacesValue) → AreMarked rs v → (block : ℕ) → AreSlots v block (is_accessed rs block) (slots_of_block v block)
block_slots rs v are block = record {
  are = λ s x i low high.
      let is = slot_each v block (marked_whole rs v are) s i x low high in
      let n : x / 4096 * 4096 + x % 4096 ≡ x = omega arith in
      (is, accessed_from rs block x (subst (λ (y : ℕ). IsAccessed rs block y) n ((are.page (page_key block (x / 4096))).only (x % 4096) (omega arith) (is.stretch, is.among.among, is.among.has))));
  some = λ s i. slot_some v block (marked_whole rs v are) s i;
  all = λ x h.
      let n : x / 4096 * 4096 + x % 4096 ≡ x = omega arith in
      let w = (are.page (page_key block (x / 4096))).all (x % 4096) (omega arith) (subst (λ (y : ℕ). IsAccessed rs block y) (sym n) (from_accessed rs block x h)) in
      let f = found_on block 0 v.keys v.pages (page_key block (x / 4096)) w.0 refl w.1 in
      let low : w.0.start ≤ x % 4096 = w.2.0 in
      let high : x % 4096 < w.0.end = w.2.1 in
      let start : f.slot.start ≡ x / 4096 * 4096 + w.0.start = f.start in
      let end : f.slot.end ≡ x / 4096 * 4096 + w.0.end = f.end in
      (f.slot, f.among, omega arith, omega arith);
  apart = slots_differ v block;
}

pub block_counted : (v : PlacesValue) (block : ℕ) (slots : List LocationSlot) → slots ≡ slots_of_block v block → (k : ℕ) (d : LocationSlot) → k < length slots → (get_or slots k d).number < stretch_count v
block_counted v block slots is k d lt = slots_are_counted v block (get_or slots k d) (subst (λ (l : List LocationSlot). In l (get_or slots k d)) is (in_read slots k d lt))

-- as the code goes on
pub released_more : (o : StrandOrder) (v : PlacesValue) (rs : List Region) (past : List Touch) (block strand line : ℕ) (old inner new : ScanValue) (slots items : List LocationSlot) → o.before strand strand ≡ true
    → inner ≡ old → items ≡ slots → slots ≡ slots_of_block v block → new ≡ fold (visited o block (plain_write strand line)) inner items → AreMarked rs v → HasScanned o v past old
    → HasScanned o v (past ++ touches_of_release rs block strand line) new
released_more o v rs past block strand line old inner new slots items known same is all grown are seen =
    subst (HasScanned o v (past ++ touches_of_release rs block strand line))
    (sym (grown ∙ (ap (λ s. fold (visited o block (plain_write strand line)) s items) same ∙ ap (fold (visited o block (plain_write strand line)) old) (is ∙ all))))
    (scanned_more o v past (touches_of_release rs block strand line) block (plain_write strand line) (is_accessed rs block) old (slots_of_block v block) seen (block_slots rs v are block)
    (release_is_one rs block strand line o known))
