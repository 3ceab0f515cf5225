-- The slots of a region's stretches, run by run.
use Rattle.race_scan.proofs.Common.{◌≡◌, ℕ, ◌+◌, ◌*◌, ◌<◌, ◌≤◌, true, List, [], ◌∷◌, ◌++◌, inl, inr, refl, ap, sym, subst, arith, cases_lt, mul-le-mul_right, In, in_append_cases, in_append_left, in_append_right, Region, LocationSlot, run_start, IsRegion, IsRegionCut, PlacesValue, IsSlot, slots_are_one, SlotsDiffer, covers, AreSlots, AreUpto}
use Rattle.race_scan.proofs.Covering.{run_covers, run_of}

apart_push : (ss : List LocationSlot) (s : LocationSlot) → SlotsDiffer ss → ((t : LocationSlot) → In ss t → t.number ≡ s.number → ⊥) → SlotsDiffer (ss ++ s ∷ [])
apart_push [] s apart new = (λ t none. absurd none, tt)
apart_push (r ∷ rs) s apart new = (
  λ t i same. elim (in_append_cases rs (s ∷ []) t i) [
    | inl old ↦ apart.0 t old same
    | inr last ↦ elim last [
      | inl is ↦ new r (inl refl) (subst (λ (x : LocationSlot). r.number ≡ x.number) (sym is) same)
      | inr none ↦ absurd none
    ]
  ],
  apart_push rs s apart.1 (λ t i. new t (inr i)),
)

module _ (v : PlacesValue) (r : Region) where
  starts_ascend : (i k : ℕ) → i ≤ k → run_start r i ≤ run_start r k
  starts_ascend i k le = let more : i * r.apart ≤ k * r.apart = mul-le-mul_right r.apart le in omega arith

  pub begun : AreUpto v r (run_start r 0) []
  begun = record {
    are = λ s x none from below. absurd none;
    some = λ s none. absurd none;
    ended = λ s none. absurd none;
    all = λ x h lt.
        let c = (run_of r r.block x h).1 in
        let from : run_start r c.run ≤ x = c.from in
        let first : run_start r 0 ≤ run_start r c.run = starts_ascend 0 c.run (omega arith) in
        absurd (omega arith);
    apart = tt;
  }

  module _ (cut : IsRegionCut v r) (run at : ℕ) (slots : List LocationSlot) (slot : LocationSlot) (lt : run < r.runs) (from : run_start r run ≤ at) (below : at < run_start r run + r.length)
      (is : IsSlot v r.block at slot) (upto : AreUpto v r at slots) where
    inside : (run_start r run ≤ slot.start) × (slot.end ≤ run_start r run + r.length) × ((y : ℕ) → slot.start ≤ y → y < slot.end → IsSlot v r.block y slot)
    inside = slots_are_one.cut v r.block (run_start r run) (run_start r run + r.length) at slot (cut run lt) from below is

    around : (slot.start ≤ at) × (at < slot.end)
    around = slots_are_one.within v r.block at slot is

    new_are : (x : ℕ) → slot.start ≤ x → x < slot.end → IsSlot v r.block x slot × (covers r r.block x ≡ true)
    new_are x low high =
        let a : run_start r run ≤ slot.start = inside.0 in
        let b : slot.end ≤ run_start r run + r.length = inside.1 in
        (inside.2 x low high, run_covers r run x lt (omega arith) (omega arith))

    new_number : (t : LocationSlot) → In slots t → t.number ≡ slot.number → ⊥
    new_number t i same =
        let some : t.start < t.end = upto.some t i in
        let there = upto.are t t.start i (omega arith) some in
        let one = slots_are_one.same v r.block r.block t.start at t slot there.0 is same in
        let end : t.end ≡ slot.end = ap (λ (x : LocationSlot). x.end) one.1 in
        let old : t.end ≤ at = upto.ended t i in
        let past : at < slot.end = around.1 in
        omega arith

    covered : (x : ℕ) → covers r r.block x ≡ true → x < slot.end → (s : LocationSlot) × In (slots ++ slot ∷ []) s × (s.start ≤ x) × (x < s.end)
    covered x h high =
        elim (cases_lt x at) [
          | inl less ↦ let s = upto.all x h less in (s.0, in_append_left slots (slot ∷ []) s.0 s.1, s.2, s.3)
          | inr ge ↦ let low : slot.start ≤ at = around.0 in (slot, in_append_right slots (slot ∷ []) slot (inl refl), omega arith, high)
        ]

    -- one more
    pub slot_added : AreUpto v r slot.end (slots ++ slot ∷ [])
    slot_added = record {
      are = λ s x i low high. elim (in_append_cases slots (slot ∷ []) s i) [
        | inl old ↦ upto.are s x old low high
        | inr last ↦ elim last [
          | inl same ↦ subst (λ (t : LocationSlot). IsSlot v r.block x t × (covers r r.block x ≡ true)) same
              (new_are x (subst (λ (t : LocationSlot). t.start ≤ x) (sym same) low) (subst (λ (t : LocationSlot). x < t.end) (sym same) high))
          | inr none ↦ absurd none
        ]
      ];
      some = λ s i. elim (in_append_cases slots (slot ∷ []) s i) [
        | inl old ↦ upto.some s old
        | inr last ↦ elim last [
          | inl same ↦ subst (λ (t : LocationSlot). t.start < t.end) same (let a : slot.start ≤ at = around.0 in let b : at < slot.end = around.1 in omega arith)
          | inr none ↦ absurd none
        ]
      ];
      ended = λ s i. elim (in_append_cases slots (slot ∷ []) s i) [
        | inl old ↦ let a : s.end ≤ at = upto.ended s old in let b : at < slot.end = around.1 in omega arith
        | inr last ↦ elim last [
          | inl same ↦ subst (λ (t : LocationSlot). t.end ≤ slot.end) same (omega arith)
          | inr none ↦ absurd none
        ]
      ];
      all = covered;
      apart = apart_push slots slot upto.apart new_number;
    }

    pub slot_rises : at < slot.end
    slot_rises = around.1

    pub slot_upto : slot.end ≤ run_start r run + r.length
    slot_upto = inside.1

  -- on to the next run
  pub run_done : IsRegion r → (run : ℕ) (slots : List LocationSlot) → AreUpto v r (run_start r run + r.length) slots → AreUpto v r (run_start r (run + 1)) slots
  run_done region run slots upto = record {
    are = upto.are;
    some = upto.some;
    ended = λ s i. let a : s.end ≤ run_start r run + r.length = upto.ended s i in let b : r.length ≤ r.apart = region.distinct in omega arith;
    all = λ x h lt.
        let c = (run_of r r.block x h).1 in
        let from : run_start r c.run ≤ x = c.from in
        let below : x < run_start r c.run + r.length = c.below in
        elim (cases_lt run c.run) [
          | inl later ↦
              let up : run_start r (run + 1) ≤ run_start r c.run = starts_ascend (run + 1) c.run (omega arith) in
              absurd (omega arith)
          | inr le ↦
              let up : run_start r c.run ≤ run_start r run = starts_ascend c.run run le in
              upto.all x h (omega arith)
        ];
    apart = upto.apart;
  }

  -- all runs
  pub all_done : (run : ℕ) → r.runs ≤ run → IsRegion r → (slots : List LocationSlot) → AreUpto v r (run_start r run) slots → AreSlots v r.block (covers r r.block) slots
  all_done run last region slots upto = record {
    are = upto.are;
    some = upto.some;
    all = λ x h.
        let c = (run_of r r.block x h).1 in
        let there : c.run < r.runs = c.there in
        let below : x < run_start r c.run + r.length = c.below in
        let b : r.length ≤ r.apart = region.distinct in
        let up : run_start r (c.run + 1) ≤ run_start r run = starts_ascend (c.run + 1) run (omega arith) in
        upto.all x h (omega arith);
    apart = upto.apart;
  }
