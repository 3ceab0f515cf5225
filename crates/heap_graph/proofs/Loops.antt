-- What is left to be written, item by item.
use Rattle.heap_graph.proofs.Common.{◌≡◌, ◌<◌, ◌≤◌, ◌+◌, ℕ, zero, suc, List, [], ◌∷◌, ◌++◌, length, take, drop, get_or, ap, sym, ◌∙◌, append_assoc, append-nil, arith, length-drop, drop_all, drop_more, flat_map, Some, slice_get, slice_get_within, get_or_from_slice_get, dot, Read, DrawnLinks, link_edge, links_drawn}

-- one more item has the same piece as each
same_next : (piece : List ℕ) (xs : List ℕ) (i : ℕ) → i < length xs → flat_map (λ _. piece) (take (suc i) xs) ≡ flat_map (λ _. piece) (take i xs) ++ piece
same_next piece [] i lt = absurd (omega (arith, lt))
same_next piece (x ∷ xs) zero lt = append-nil piece
same_next piece (x ∷ xs) (suc i) lt =
    let within : i < length xs = omega (arith, lt) in
    ap (λ ys. piece ++ ys) (same_next piece xs i within) ∙ sym (append_assoc piece (flat_map (λ _. piece) (take i xs)) piece)

pub same_more : (piece : List ℕ) (xs : List ℕ) (i : ℕ) → i < length xs → flat_map (λ _. piece) (take (i + 1) xs) ≡ flat_map (λ _. piece) (take i xs) ++ piece
same_more piece xs i lt = let next : i + 1 ≡ suc i = omega arith in ap (λ n. flat_map (λ _. piece) (take n xs)) next ∙ same_next piece xs i lt

-- one more piece is written of what is left
pub piece_more : (now later piece left rest all : List ℕ) → now ++ left ≡ all → left ≡ piece ++ rest → later ≡ now ++ piece → later ++ rest ≡ all
piece_more now later piece left rest all e f g =
    ap (λ x. x ++ rest) g ∙ append_assoc now piece rest ∙ ap (λ x. now ++ x) (sym f) ∙ e

-- the edge of the pair at an index, and those after it
pub pairs_cut : (r : Read) (ls : DrawnLinks) (i : ℕ) (l : (ℕ × ℕ) × ℕ) → slice_get ls i ≡ Some l
    → flat_map dot (links_drawn r (drop i ls)) ≡ dot (link_edge r l) ++ flat_map dot (links_drawn r (drop (i + 1) ls))
pairs_cut r ls i l e =
    ap (λ ys. flat_map dot (links_drawn r ys)) (drop_more ls i l (slice_get_within ls i l e))
    ∙ ap (λ x. dot (link_edge r x) ++ flat_map dot (links_drawn r (drop (i + 1) ls))) (get_or_from_slice_get ls i l l e)

-- WORDS

pub nothing_behind : (ws : List (List ℕ)) (i n : ℕ) → i ≤ n → drop i ws ≡ [] → drop n ws ≡ []
nothing_behind ws i n le e = let short : length ws ≤ n = omega (arith, length-drop i ws, ap length e) in drop_all n ws short

pub behind_more : (ws : List (List ℕ)) (i : ℕ) (x : List ℕ) (xs : List (List ℕ)) → drop i ws ≡ x ∷ xs → xs ≡ drop (i + 1) ws
behind_more ws i x xs e =
    let lt : i < length ws = omega (arith, length-drop i ws, ap length e) in
    let f : drop i ws ≡ get_or ws i x ∷ drop (i + 1) ws = drop_more ws i x lt in
    cc (e, f)
