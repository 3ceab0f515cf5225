-- What is kept has at most the same weight.
use Rattle.ledger_heaps.proofs.Common.{◌≡◌, ◌≤◌, ◌+◌, List, [], ◌∷◌, subst, sym, length, map, ap, arith, Name, MachineState, Heap, holds_name, collected, in_snapshot, large_survivors, small_survivors, units, units_sum, without_empty, words_at, words_in, words_sum, kept_weight, survivors_weight, weight_parts, laid_flat, length_kept, not, length-map, sum_by-cons, is_empty}

pub survivors_units : (m : MachineState) (h : Heap) (ns : List Name) → ns ≡ large_survivors h → units_sum m ns ≤ units_sum m h.large
survivors_units m h ns e = subst (λ k. units_sum m k ≤ units_sum m h.large) (sym e) (kept_weight (λ n. units (words_at m n)) (holds_name h.survivors) h.large)

pub snapshot_units : (m : MachineState) (h : Heap) (ns : List Name) → ns ≡ in_snapshot h h.large → units_sum m ns ≤ units_sum m h.large
snapshot_units m h ns e = subst (λ k. units_sum m k ≤ units_sum m h.large) (sym e) (kept_weight (λ n. units (words_at m n)) (holds_name h.snapshot) h.large)

pub left_words : (m : MachineState) (h : Heap) (small large : List Name) → small ≡ small_survivors h → large ≡ large_survivors h → words_sum m small + words_sum m large ≡ words_in m (collected m h)
left_words m h small large e k =
    let parts = weight_parts (words_at m) (collected m h) in
    let flat = ap (words_sum m) (laid_flat m (small_survivors h)) in
    let a = ap (words_sum m) e in
    let b = ap (words_sum m) k in
    omega arith

pub small_bound : (m : MachineState) (h : Heap) (small : List Name) → small ≡ small_survivors h → words_sum m small ≤ words_in m h
small_bound m h small e =
    let a = survivors_weight (words_at m) h in
    let b = weight_parts (words_at m) h in
    let d = ap (words_sum m) e in
    omega arith

pub large_bound : (m : MachineState) (h : Heap) (large : List Name) → large ≡ large_survivors h → words_sum m large ≤ words_in m h
large_bound m h large e =
    let a = kept_weight (words_at m) (holds_name h.survivors) h.large in
    let b = weight_parts (words_at m) h in
    let d = ap (words_sum m) e in
    omega arith

pub fewer_chunks : (h : Heap) (lists : List (List Name)) → lists ≡ without_empty (map (in_snapshot h) h.chunks) → length lists ≤ length h.chunks
fewer_chunks h lists e =
    let a = ap length e in
    let b = length_kept (λ (ns : List Name). not (is_empty ns)) (map (in_snapshot h) h.chunks) in
    let d = length-map h.chunks (in_snapshot h) in
    omega arith

-- a unit has at least one word
units_below : (m : MachineState) (ns : List Name) → units_sum m ns ≤ words_sum m ns
units_below m [] = omega arith
units_below m (n ∷ ns) =
    let a = sum_by-cons (λ k. units (words_at m k)) n ns in
    let b = sum_by-cons (words_at m) n ns in
    let c = units_below m ns in
    omega arith

pub large_units : (m : MachineState) (h : Heap) → units_sum m h.large ≤ words_in m h
large_units m h = let a = units_below m h.large in let b = weight_parts (words_at m) h in omega arith
