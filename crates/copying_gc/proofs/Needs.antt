-- What a collection needs, and the counts of the heap.
use Rattle.copying_gc.proofs.Common.{◌≡◌, ℕ, ◌+◌, List, [], ◌∷◌, None, All, refl, ap, ◌∙◌, All-head, All-tail, Born, Cell, Hole, Mark, Moved, moved_to, size_of, held_size, object_count, one_each, small_part, sum_in, sum_of, ChunkValue, AreTidy, IsSettled, IsTidy, small_in, small_size, born_in, born_of, live_count}
use Rattle.copying_gc.specs.Laid.{small_words}

size_one : (m : Mark) (n : ℕ) → moved_to m ≡ None → small_size m n ≡ held_size m (small_part n)
size_one (Born b) n e = refl
size_one (Moved to) n e = absurd cc
size_one Hole n e = refl

born_one : (m : Mark) → moved_to m ≡ None → born_of m ≡ held_size m 1
born_one (Born b) e = refl
born_one (Moved to) e = absurd cc
born_one Hole e = refl

small_cells : (cs : List Cell) → All (λ (c : Cell). moved_to c.mark ≡ None) cs → small_in cs ≡ sum_in small_part cs
small_cells [] a = refl
small_cells (c ∷ cs) a =
    let one = size_one c.mark (size_of c) (All-head (λ (d : Cell). moved_to d.mark ≡ None) c cs a) in
    let ih = small_cells cs (All-tail (λ (d : Cell). moved_to d.mark ≡ None) c cs a) in
    ap (λ (n : ℕ). n + small_in cs) one ∙ ap (λ (n : ℕ). held_size c.mark (small_part (size_of c)) + n) ih

born_cells : (cs : List Cell) → All (λ (c : Cell). moved_to c.mark ≡ None) cs → born_in cs ≡ sum_in one_each cs
born_cells [] a = refl
born_cells (c ∷ cs) a =
    let one = born_one c.mark (All-head (λ (d : Cell). moved_to d.mark ≡ None) c cs a) in
    let ih = born_cells cs (All-tail (λ (d : Cell). moved_to d.mark ≡ None) c cs a) in
    ap (λ (n : ℕ). n + born_in cs) one ∙ ap (λ (n : ℕ). held_size c.mark 1 + n) ih

small_chunks : (ks : List ChunkValue) → AreTidy ks → small_words ks ≡ sum_of small_part ks
small_chunks [] t = refl
small_chunks (k ∷ ks) t =
    let one = small_cells k.cells (All-head IsTidy k ks t).unmoved in
    let ih = small_chunks ks (All-tail IsTidy k ks t) in
    ap (λ (n : ℕ). n + small_words ks) one ∙ ap (λ (n : ℕ). sum_in small_part k.cells + n) ih

born_chunks : (ks : List ChunkValue) → AreTidy ks → live_count ks ≡ object_count ks
born_chunks [] t = refl
born_chunks (k ∷ ks) t =
    let one = born_cells k.cells (All-head IsTidy k ks t).unmoved in
    let ih = born_chunks ks (All-tail IsTidy k ks t) in
    ap (λ (n : ℕ). n + live_count ks) one ∙ ap (λ (n : ℕ). sum_in one_each k.cells + n) ih

pub needs_are_counted : (ks : List ChunkValue) → IsSettled ks → (small_words ks ≡ sum_of small_part ks) × (live_count ks ≡ object_count ks)
needs_are_counted ks s = (small_chunks ks s.tidy, born_chunks ks s.tidy)

pub live_is_counted : (ks : List ChunkValue) → IsSettled ks → live_count ks ≡ object_count ks
live_is_counted ks s = born_chunks ks s.tidy
