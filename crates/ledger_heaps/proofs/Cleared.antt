-- Lists without a name, and whether the last list is one.
use Rattle.ledger_heaps.proofs.Common.{◌≡◌, Bool, true, false, not, List, [], ◌∷◌, ◌++◌, filter, refl, ap, sym, ◌∙◌, ℕ, ◌<◌, ◌+◌, length, drop, map, get_or, cond, append_assoc, append-nil, drop_more, is_empty, Name, Heap, holds_name, in_snapshot, is_last_empty, without_empty}

-- whether the last list has no name; if there are no lists, the previous value
abbrev pub ends_empty : Bool → List (List Name) → Bool
ends_empty b [] = b
ends_empty b (ns ∷ rest) = ends_empty (is_empty ns) rest

ends_is : (ns : List Name) (rest : List (List Name)) → ends_empty (is_empty ns) rest ≡ is_last_empty (ns ∷ rest)
ends_is ns [] = refl
ends_is ns (ms ∷ rest) = ends_is ms rest

pub ends_last : (lists : List (List Name)) → ends_empty false lists ≡ is_last_empty lists
ends_last [] = refl
ends_last (ns ∷ rest) = ends_is ns rest

-- equal tests keep the same
pub same_kept : (p q : Name → Bool) (ns : List Name) → ((n : Name) → p n ≡ q n) → filter p ns ≡ filter q ns
same_kept p q ns h = ap (λ (f : Name → Bool). filter f ns) (λ i n. h n i)

pub snapshot_kept : (p : Name → Bool) (h : Heap) (ns : List Name) → ((n : Name) → p n ≡ holds_name h.snapshot n) → filter p ns ≡ in_snapshot h ns
snapshot_kept p h ns e = same_kept p (holds_name h.snapshot) ns e

pub chunks_more : (h : Heap) (i : ℕ) (ns : List Name) (lists : List (List Name)) → i < length lists → ns ≡ get_or lists i ns
    → map (in_snapshot h) (drop i lists) ≡ in_snapshot h ns ∷ map (in_snapshot h) (drop (i + 1) lists)
chunks_more h i ns lists lt is = ap (map (in_snapshot h)) (drop_more lists i ns lt) ∙ ap (λ ms. in_snapshot h ms ∷ map (in_snapshot h) (drop (i + 1) lists)) (sym is)

filled_by : (done : List (List Name)) (ns : List Name) (rest : List (List Name)) (b : Bool)
    → (done ++ cond b (ns ∷ []) []) ++ rest ≡ done ++ cond b (ns ∷ rest) rest
filled_by done ns rest true = append_assoc done (ns ∷ []) rest
filled_by done ns rest false = ap (λ ls. ls ++ rest) (append-nil done)

-- one more list is done
pub filled_more : (done : List (List Name)) (ns : List Name) (rest : List (List Name)) → (done ++ without_empty (ns ∷ [])) ++ without_empty rest ≡ done ++ without_empty (ns ∷ rest)
filled_more done ns rest = filled_by done ns (without_empty rest) (not (is_empty ns))
