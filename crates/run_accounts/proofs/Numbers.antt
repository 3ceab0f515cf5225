-- The numbers of entries and of accounts fit in 32 bits.
use Rattle.run_accounts.proofs.Common.{◌≡◌, ℕ, ◌+◌, ◌-◌, ◌<◌, ◌≤◌, ◌^◌, min, length, ap, arith, sum_by-append, MachineState, Heap, words_at, words_in, units_in, units_sum, small_in, begun_in, take_of, collected, end_numbers, sweep_number, left_in, marked_in, collected_weight, collected_bound}

-- chunks that a leaf collection takes
pub take_few : (m : MachineState) (h : Heap) → words_in m h < 2 ^ 27 → take_of m h < 2 ^ 32
take_few m h few =
    let a = sum_by-append (words_at m) (small_in h) h.large in
    omega arith

-- the numbers of its end
pub end_few : (m : MachineState) (h : Heap) → words_in m h < 2 ^ 27 → units_in m h < 2 ^ 20 → (taken given left : ℕ) → (taken, given, left) ≡ end_numbers m h
    → (taken < 2 ^ 32) × (given < 2 ^ 32) × (left < 2 ^ 32)
end_few m h words few taken given left is =
    let a = ap (λ (q : ℕ × ℕ × ℕ). q.0) is in
    let b : given ≡ length h.chunks + (begun_in h - length (collected m h).chunks) + (units_sum m h.large - units_sum m (collected m h).large) = ap (λ (q : ℕ × ℕ × ℕ). q.1) is in
    let c : left ≡ words_in m (collected m h) = ap (λ (q : ℕ × ℕ × ℕ). q.2) is in
    let d = collected_bound m h in
    let e = take_few m h words in
    let f : words_in m (collected m h) ≤ words_in m h = collected_weight (words_at m) m h in
    (omega arith, omega arith, omega arith)

-- and that of a sweep
pub sweep_few : (m : MachineState) (h : Heap) → units_in m h < 2 ^ 20 → (given : ℕ) → given ≡ sweep_number m h → given < 2 ^ 32
sweep_few m h few given is = omega arith

-- the objects that are marked
pub marked_few : (h : Heap) (marked count : ℕ) → length h.snapshot < 2 ^ 31 → marked ≡ marked_in h → marked < 2 ^ 32 → marked + min count (left_in h) < 2 ^ 32
marked_few h marked count few is fits = omega arith
