-- The words that a heap counts stay few as private steps are taken: they fit in 64 bits.
use Rattle.step_commit.proofs.Common.{◌≡◌, ℕ, zero, suc, ◌+◌, ◌<◌, ◌≤◌, ◌^◌, arith, false, Option, Some, None, length, slice_get, nat_le, refl, subst, leb-false, same_Some, Instr, Newm, Pack, ProgramText, Frame, MachineState, int_in, row_of, words_asked, asked, Heap, AsksAtMost, on_asked, placed_since, counts_few, asked_at_line, account_after, account_by, steps, IsFew, PacksFew}

instr_few : (limit : ℕ) (f : Frame) (i : Instr) (w : ℕ) → IsFew i → words_asked limit f i ≡ Some w → w ≤ limit + 34
instr_few limit f (Newm d a b) w h e = counts_few limit (int_in f a) (int_in f b) w e
instr_few limit f (Pack d r i) w h e = let z : 2 + r + i ≡ w = same_Some (2 + r + i) w e in omega (arith, z, h.0, h.1)
instr_few limit f _ w h e = absurd cc

pub asks_few : (p : ProgramText) → PacksFew p → (limit : ℕ) → AsksAtMost p limit (limit + 34)
asks_few p few limit m t w q e =
    asked_at_line p m t w (λ x line il h. subst (λ z. w ≤ z + 34) q (instr_few m.field_limit x.top line.instr w (few x.top.function x.top.next line il) h)) e

-- a step that wasn't due when its turn came adds few words to few
since_by : (m : MachineState) (t : ℕ) (a : Heap) (o : Option ℕ) (leaf most : ℕ) → a.since < 2 ^ 64 → on_asked o (λ w. nat_le leaf a.since) ≡ false → ((w : ℕ) → o ≡ Some w → w ≤ most) → leaf + most < 2 ^ 64 → (account_by m t a o).since < 2 ^ 64
since_by m t a None leaf most few due le lt = few
since_by m t a (Some w) leaf most few due le lt =
    let s : a.since < leaf = leb-false leaf a.since due in
    let more : w ≤ most = le w refl in
    let e = placed_since a (record { task = t; count = length (row_of (slice_get m.store t)) }) w in
    omega (arith, s, more, e, lt)

pub since_after : (p : ProgramText) (m : MachineState) (t : ℕ) (a : Heap) (leaf most : ℕ) → a.since < 2 ^ 64 → leaf + most < 2 ^ 64 → (k : ℕ) → ((i : ℕ) → i < k → on_asked (asked p (steps p m t i) t) (λ w. nat_le leaf (account_after p m t a i).since) ≡ false)
    → ((i : ℕ) → i < k → (w : ℕ) → asked p (steps p m t i) t ≡ Some w → w ≤ most) → (account_after p m t a k).since < 2 ^ 64
since_after p m t a leaf most few lt zero due le = few
since_after p m t a leaf most few lt (suc k) due le =
    since_by (steps p m t k) t (account_after p m t a k) (asked p (steps p m t k) t) leaf most (since_after p m t a leaf most few lt k (λ i l. due i (omega (arith, l))) (λ i l. le i (omega (arith, l)))) (due k (omega arith)) (le k (omega arith)) lt
