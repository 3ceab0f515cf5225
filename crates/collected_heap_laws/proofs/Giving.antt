-- The chunks after a collection and those released.
use Rattle.collected_heap_laws.proofs.Common.{◌≡◌, ℕ, Bool, true, false, cond, List, [], ◌∷◌, ◌++◌, map, filter, refl, sym, ap, ◌∙◌, subst, Option, Some, None, append_assoc, nat_lt, reverse, IsPermutation, IsPermutation-append, IsPermutation-append_comm, IsPermutation-append_left, IsPermutation-append_right, IsPermutation-filter_both, IsPermutation-map, IsPermutation-refl, IsPermutation-remove, IsPermutation-reverse, IsPermutation-trans, get_or_default, Addr, Cell, size_of, ChunkValue, cell_of, chunk_at, no_chunk, LeafHeapValue, IsReserved, Survivor, olds, Laying, nothing_laid, laid_all, laid_one, open_next, opened, placed_behind, room_in, smalls, led_chunk, emptied, reserved_of, unreserved, back_of, collected, keeps, large_of, laid_of, laying_of, leaves, redirection, labels, NoChunkIsLost}

abbrev Label : Type 0
Label = ℕ × ℕ

-- ---- labels that stay

labels_append : (ks ls : List ChunkValue) → labels (ks ++ ls) ≡ labels ks ++ labels ls
labels_append [] ls = refl
labels_append (k ∷ ks) ls = ap (λ (ns : List Label). (k.number, k.size) ∷ ns) (labels_append ks ls)

labels_led : (f : Option Addr → Option Addr) (ks : List ChunkValue) → labels (map (led_chunk f) ks) ≡ labels ks
labels_led f [] = refl
labels_led f (k ∷ ks) = ap (λ (ns : List Label). (k.number, k.size) ∷ ns) (labels_led f ks)

labels_emptied : (ks : List ChunkValue) → labels (map emptied ks) ≡ labels ks
labels_emptied [] = refl
labels_emptied (k ∷ ks) = ap (λ (ns : List Label). (k.number, k.size) ∷ ns) (labels_emptied ks)

labels_placed : (ks : List ChunkValue) (c : Cell) → labels (placed_behind ks c) ≡ labels ks
labels_placed [] c = refl
labels_placed (k ∷ []) c = refl
labels_placed (k ∷ (l ∷ ks)) c = ap (λ (ns : List Label). (k.number, k.size) ∷ ns) (labels_placed (l ∷ ks) c)

labels_open : (laid spare : List ChunkValue) → labels (open_next laid spare).laid ++ labels (open_next laid spare).spare ≡ labels laid ++ labels spare
labels_open laid [] = refl
labels_open laid (k ∷ ks) = ap (λ (ns : List Label). ns ++ labels ks) (labels_append laid (k ∷ [])) ∙ append_assoc (labels laid) ((k.number, k.size) ∷ []) (labels ks)

labels_opened : (y : Laying) (b : Bool) → labels (cond b (open_next y.laid y.spare) y).laid ++ labels (cond b (open_next y.laid y.spare) y).spare ≡ labels y.laid ++ labels y.spare
labels_opened y true = labels_open y.laid y.spare
labels_opened y false = refl

labels_laid : (y : Laying) (h : List ChunkValue) (xs : List Addr) → labels (laid_all y h xs).laid ++ labels (laid_all y h xs).spare ≡ labels y.laid ++ labels y.spare
labels_laid y h [] = refl
labels_laid y h (a ∷ xs) =
    labels_laid (laid_one y (cell_of h a)) h xs
    ∙ (ap (λ (ns : List Label). ns ++ labels (opened y (size_of (cell_of h a))).spare) (labels_placed (opened y (size_of (cell_of h a))).laid (cell_of h a))
    ∙ labels_opened y (nat_lt (room_in y.laid) (size_of (cell_of h a))))

-- ---- the parts of the old heap

abbrev Perm : List Label → List Label → Type 0
Perm xs ys = IsPermutation xs ys

within : (ks : List ChunkValue) (o : Option ℕ) → IsReserved ks o → IsPermutation ks (reserved_of ks o ++ unreserved ks o)
within ks None w = IsPermutation-refl ks
within ks (Some i) w = IsPermutation-remove ks i (chunk_at ks i) w.0 (get_or_default ks i no_chunk (chunk_at ks i) w.0)

of_labels : (xs ys : List ChunkValue) → IsPermutation xs ys → Perm (labels xs) (labels ys)
of_labels xs ys p = IsPermutation-map (λ k. (k.number, k.size)) xs ys p

-- five lists in another order
shuffled : (r k e l s : List Label) → Perm ((r ++ (k ++ e)) ++ (l ++ s)) ((l ++ (k ++ r)) ++ (e ++ s))
shuffled r k e l s =
    let one : (r ++ (k ++ e)) ++ (l ++ s) ≡ (r ++ k) ++ ((e ++ l) ++ s) = simp append_assoc in
    let two : Perm ((r ++ k) ++ ((e ++ l) ++ s)) ((r ++ k) ++ ((l ++ e) ++ s)) = IsPermutation-append_right (r ++ k) ((e ++ l) ++ s) ((l ++ e) ++ s) (IsPermutation-append_left s (e ++ l) (l ++ e) (IsPermutation-append_comm e l)) in
    let three : (r ++ k) ++ ((l ++ e) ++ s) ≡ ((r ++ k) ++ l) ++ (e ++ s) = simp append_assoc in
    let four : Perm (((r ++ k) ++ l) ++ (e ++ s)) ((l ++ (k ++ r)) ++ (e ++ s)) =
    IsPermutation-append_left (e ++ s) ((r ++ k) ++ l) (l ++ (k ++ r))
    (IsPermutation-trans ((r ++ k) ++ l) (l ++ (r ++ k)) (l ++ (k ++ r)) (IsPermutation-append_comm (r ++ k) l) (IsPermutation-append_right l (r ++ k) (k ++ r) (IsPermutation-append_comm r k))) in
    IsPermutation-trans ((r ++ (k ++ e)) ++ (l ++ s)) ((r ++ k) ++ ((l ++ e) ++ s)) ((l ++ (k ++ r)) ++ (e ++ s))
    (subst (λ (xs : List Label). Perm xs ((r ++ k) ++ ((l ++ e) ++ s))) (sym one) two)
    (subst (λ (xs : List Label). Perm xs ((l ++ (k ++ r)) ++ (e ++ s))) (sym three) four)

-- ---- the law

module _ (h : LeafHeapValue) (ss : List Survivor) (news : List ChunkValue) (w : IsReserved h.chunks h.reserved) where
  abbrev U : List ChunkValue
  U = unreserved h.chunks h.reserved

  abbrev R : List Label
  R = labels (reserved_of h.chunks h.reserved)

  abbrev K : List Label
  K = labels (filter (keeps ss) U)

  abbrev E : List Label
  E = labels (filter (leaves ss) U)

  abbrev L : List Label
  L = labels (laying_of h.chunks ss (reverse news)).laid

  abbrev spare : List ChunkValue
  spare = (laying_of h.chunks ss (reverse news)).spare

  abbrev S : List Label
  S = labels (reverse spare)

  old_parts : Perm (labels h.chunks) (R ++ (K ++ E))
  old_parts =
      let one = of_labels h.chunks (reserved_of h.chunks h.reserved ++ U) (within h.chunks h.reserved w) in
      let two = of_labels U (filter (keeps ss) U ++ filter (leaves ss) U) (IsPermutation-filter_both (keeps ss) (leaves ss) (λ k. refl) U) in
      let three : Perm (R ++ labels U) (R ++ (K ++ E)) = IsPermutation-append_right R (labels U) (K ++ E) (subst (Perm (labels U)) (labels_append (filter (keeps ss) U) (filter (leaves ss) U)) two) in
      IsPermutation-trans (labels h.chunks) (R ++ labels U) (R ++ (K ++ E)) (subst (Perm (labels h.chunks)) (labels_append (reserved_of h.chunks h.reserved) U) one) three

  new_parts : Perm (labels news) (L ++ S)
  new_parts =
      let one : Perm (labels news) (labels (reverse news)) = of_labels news (reverse news) (IsPermutation-reverse news) in
      let laid : labels (reverse news) ≡ L ++ labels spare = sym (labels_laid (nothing_laid (reverse news)) h.chunks (smalls h.chunks (olds ss))) in
      let two : Perm (L ++ labels spare) (L ++ S) = IsPermutation-append_right L (labels spare) S (of_labels spare (reverse spare) (IsPermutation-reverse spare)) in
      IsPermutation-trans (labels news) (L ++ labels spare) (L ++ S) (subst (Perm (labels news)) laid one) two

  after : labels ((collected h ss (reverse news)).chunks ++ back_of h ss (reverse news)) ≡ (L ++ (K ++ R)) ++ (E ++ S)
  after =
      let f = redirection h.chunks ss (reverse news) in
      let a : labels (laid_of h ss (reverse news)) ≡ L = labels_led f (laying_of h.chunks ss (reverse news)).laid in
      let b : labels (large_of h ss (reverse news)) ≡ K = labels_led f (filter (keeps ss) U) in
      let c : labels (map emptied (filter (leaves ss) U)) ≡ E = labels_emptied (filter (leaves ss) U) in
      let now : labels (collected h ss (reverse news)).chunks ≡ L ++ (K ++ R) =
      labels_append (laid_of h ss (reverse news)) (large_of h ss (reverse news) ++ reserved_of h.chunks h.reserved)
      ∙ (ap (λ (xs : List Label). labels (laid_of h ss (reverse news)) ++ xs) (labels_append (large_of h ss (reverse news)) (reserved_of h.chunks h.reserved))
      ∙ (ap (λ (xs : List Label). xs ++ (labels (large_of h ss (reverse news)) ++ R)) a ∙ ap (λ (xs : List Label). L ++ (xs ++ R)) b)) in
      let given : labels (back_of h ss (reverse news)) ≡ E ++ S = labels_append (map emptied (filter (leaves ss) U)) (reverse spare) ∙ ap (λ (xs : List Label). xs ++ S) c in
      labels_append (collected h ss (reverse news)).chunks (back_of h ss (reverse news))
      ∙ (ap (λ (xs : List Label). xs ++ labels (back_of h ss (reverse news))) now ∙ ap (λ (xs : List Label). (L ++ (K ++ R)) ++ xs) given)

  pub kept : IsPermutation (labels (h.chunks ++ news)) (labels ((collected h ss (reverse news)).chunks ++ back_of h ss (reverse news)))
  kept =
      let both : Perm (labels h.chunks ++ labels news) ((R ++ (K ++ E)) ++ (L ++ S)) = IsPermutation-append (labels h.chunks) (R ++ (K ++ E)) (labels news) (L ++ S) old_parts new_parts in
      let all : Perm (labels h.chunks ++ labels news) ((L ++ (K ++ R)) ++ (E ++ S)) =
      IsPermutation-trans (labels h.chunks ++ labels news) ((R ++ (K ++ E)) ++ (L ++ S)) ((L ++ (K ++ R)) ++ (E ++ S)) both (shuffled R K E L S) in
      subst (λ (xs : List Label). Perm xs (labels ((collected h ss (reverse news)).chunks ++ back_of h ss (reverse news)))) (sym (labels_append h.chunks news))
      (subst (Perm (labels h.chunks ++ labels news)) (sym after) all)

pub no_chunk_is_lost : NoChunkIsLost
no_chunk_is_lost h ss news w = kept h ss news w
