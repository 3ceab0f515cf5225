-- New chunks hold only small objects, as many as were moved.
use Rattle.copying_gc.proofs.Common.{◌≡◌, ℕ, suc, ◌+◌, ◌*◌, ◌/◌, ◌<◌, ◌≤◌, Bool, true, false, cond, List, [], ◌∷◌, ◌++◌, length, get_or, map, take, refl, sym, ap, ◌∙◌, subst, arith, inl, inr, Option, Some, nat_lt, le-leb, leb-true, append-nil, get_or_read, take_more, All-push, Addr, Cell, IsObject, size_of, ChunkValue, cell_of, chunk_at, object_words_in, held_size, held_words, no_chunk, one_each, small_part, sum_in, sum_of, words_in, Once, In, AreCounted, saturating_words, IsReserved, Counts, Survivor, olds, HaveNames, nothing_laid, laid_all, laid_one, open_next, opened, placed_behind, relocations, room_in, smalls, AreNew, HaveRoom, Laying, used_words, ArePacked, led_cell, led_chunk, laying_of, moves_of}
use Rattle.object_layout.proofs.ChunkLaws as laws
use Rattle.object_layout.proofs.PlaceLemmas as place
use Rattle.leaf_heap.proofs.HeapLemmas as heap
use Rattle.copying_gc.specs.Laid.{small_words}
use Rattle.copying_gc.proofs.FollowLemmas.{size_led}
use Rattle.copying_gc.proofs.LastChunk.{some_room}
use Rattle.copying_gc.proofs.SmallSurvivors.{small_lives, small_room}

-- ---- one more object

used_placed : (ks : List ChunkValue) (c : Cell) → 0 < length ks → used_words (placed_behind ks c) ≡ used_words ks + size_of c
used_placed [] c l = absurd (omega arith)
used_placed (k ∷ []) c l = let e = place.words_in-push k.cells c in omega arith
used_placed (k ∷ (x ∷ ks)) c l = let ih = used_placed (x ∷ ks) c (omega arith) in omega arith

held_placed : (ks : List ChunkValue) (c : Cell) → 0 < length ks → held_words (placed_behind ks c) ≡ held_words ks + held_size c.mark (size_of c)
held_placed [] c l = absurd (omega arith)
held_placed (k ∷ []) c l = let e = heap.object_words_in-push k.cells c in omega arith
held_placed (k ∷ (x ∷ ks)) c l = let ih = held_placed (x ∷ ks) c (omega arith) in omega arith

sum_placed : (f : ℕ → ℕ) (ks : List ChunkValue) (c : Cell) → 0 < length ks → sum_of f (placed_behind ks c) ≡ sum_of f ks + held_size c.mark (f (size_of c))
sum_placed f [] c l = absurd (omega arith)
sum_placed f (k ∷ []) c l = let e = heap.sum_in-push f k.cells c in omega arith
sum_placed f (k ∷ (x ∷ ks)) c l = let ih = sum_placed f (x ∷ ks) c (omega arith) in omega arith

part_whole : (n : ℕ) → n ≤ 1024 → small_part n ≡ n
part_whole n l = rw (le-leb n 1024 l) refl

packed_placed : (ks : List ChunkValue) (c : Cell) (n : ℕ) → 0 < length ks → IsObject c.mark → size_of c ≤ 1024 → ArePacked ks n → ArePacked (placed_behind ks c) (n + 1)
packed_placed ks c n some o l p =
    let whole : held_size c.mark (size_of c) ≡ size_of c = heap.held_object c.mark (size_of c) o in
    let small : held_size c.mark (small_part (size_of c)) ≡ size_of c = heap.held_object c.mark (small_part (size_of c)) o ∙ part_whole (size_of c) l in
    let one : held_size c.mark (one_each (size_of c)) ≡ 1 = heap.held_object c.mark (one_each (size_of c)) o in
    record {
      full = held_placed ks c some ∙ (ap (λ (x : ℕ). x + held_size c.mark (size_of c)) p.full ∙ (ap (λ (x : ℕ). used_words ks + x) whole ∙ sym (used_placed ks c some)));
      small =
          sum_placed small_part ks c some
          ∙ (ap (λ (x : ℕ). x + held_size c.mark (small_part (size_of c))) p.small ∙ (ap (λ (x : ℕ). used_words ks + x) small ∙ sym (used_placed ks c some)));
      count = sum_placed one_each ks c some ∙ (ap (λ (x : ℕ). x + held_size c.mark (one_each (size_of c))) p.count ∙ ap (λ (x : ℕ). n + x) one);
    }

-- ---- one more chunk

used_push : (ks : List ChunkValue) (k : ChunkValue) → used_words (ks ++ k ∷ []) ≡ used_words ks + words_in k.cells
used_push [] k = omega arith
used_push (x ∷ ks) k = let ih = used_push ks k in omega arith

pub used_more : (ks : List ChunkValue) (i : ℕ) (k : ChunkValue) → i < length ks → k ≡ get_or ks i k → used_words (take (i + 1) ks) ≡ used_words (take i ks) + words_in k.cells
used_more ks i k l read = let more = take_more ks i k l in rw (more, ← read) (used_push (take i ks) k)

-- an empty one changes nothing
used_empty : (ks : List ChunkValue) (k : ChunkValue) → k.cells ≡ [] → used_words (ks ++ k ∷ []) ≡ used_words ks
used_empty ks k e = let none : words_in k.cells ≡ 0 = ap words_in e in used_push ks k ∙ omega arith

held_empty : (ks : List ChunkValue) (k : ChunkValue) → k.cells ≡ [] → held_words (ks ++ k ∷ []) ≡ held_words ks
held_empty ks k e = let none : object_words_in k.cells ≡ 0 = ap object_words_in e in heap.held_words-append ks (k ∷ []) ∙ omega arith

sum_empty : (f : ℕ → ℕ) (ks : List ChunkValue) (k : ChunkValue) → k.cells ≡ [] → sum_of f (ks ++ k ∷ []) ≡ sum_of f ks
sum_empty f ks k e = let none : sum_in f k.cells ≡ 0 = ap (sum_in f) e in heap.sum_of-append f ks (k ∷ []) ∙ omega arith

packed_next : (laid spare : List ChunkValue) (n : ℕ) → AreNew spare → ArePacked laid n → ArePacked (open_next laid spare).laid n × AreNew (open_next laid spare).spare
packed_next laid [] n new p = (p, new)
packed_next laid (k ∷ ks) n new p = (
  record {
    full = held_empty laid k new.0.0 ∙ (p.full ∙ sym (used_empty laid k new.0.0));
    small = sum_empty small_part laid k new.0.0 ∙ (p.small ∙ sym (used_empty laid k new.0.0));
    count = sum_empty one_each laid k new.0.0 ∙ p.count;
  },
  new.1,
)

packed_opened : (y : Laying) (b : Bool) (n : ℕ) → AreNew y.spare → ArePacked y.laid n → ArePacked (cond b (open_next y.laid y.spare) y).laid n × AreNew (cond b (open_next y.laid y.spare) y).spare
packed_opened y true n new p = packed_next y.laid y.spare n new p
packed_opened y false n new p = (p, new)

-- ---- all objects

all_packed : (y : Laying) (h : List ChunkValue) (xs : List Addr) (n : ℕ) → ((a : Addr) → In xs a → IsObject (cell_of h a).mark × (size_of (cell_of h a) ≤ 1024)) → HaveRoom y h xs → AreNew y.spare → ArePacked y.laid n
    → ArePacked (laid_all y h xs).laid (n + length xs)
all_packed y h [] n f room new p = let e : n ≡ n + 0 = omega arith in subst (λ (m : ℕ). ArePacked y.laid m) e p
all_packed y h (a ∷ xs) n f room new p =
    let next = packed_opened y (nat_lt (room_in y.laid) (size_of (cell_of h a))) n new p in
    let some = some_room (opened y (size_of (cell_of h a))).laid (cell_of h a) room.0.0 in
    let here : IsObject (cell_of h a).mark × (size_of (cell_of h a) ≤ 1024) = f a (inl refl) in
    let one : ArePacked (laid_one y (cell_of h a)).laid (n + 1) = packed_placed (opened y (size_of (cell_of h a))).laid (cell_of h a) n some here.0 here.1 next.0 in
    let e : n + 1 + length xs ≡ n + suc (length xs) = omega arith in
    subst (λ (m : ℕ). ArePacked (laid_all (laid_one y (cell_of h a)) h xs).laid m) e (all_packed (laid_one y (cell_of h a)) h xs (n + 1) (λ b i. f b (inr i)) room.1 next.1 one)

length_moves : (y : Laying) (h : List ChunkValue) (xs : List Addr) → length (relocations y h xs) ≡ length xs
length_moves y h [] = refl
length_moves y h (a ∷ xs) = ap suc (length_moves (laid_one y (cell_of h a)) h xs)

-- ---- with references updated

module _ (f : Option Addr → Option Addr) where
  pub used_led : (cs : List Cell) → words_in (map (led_cell f) cs) ≡ words_in cs
  used_led [] = refl
  used_led (c ∷ cs) = ap (λ (n : ℕ). n + words_in (map (led_cell f) cs)) (size_led f c) ∙ ap (λ (n : ℕ). size_of c + n) (used_led cs)

  held_led : (cs : List Cell) → object_words_in (map (led_cell f) cs) ≡ object_words_in cs
  held_led [] = refl
  held_led (c ∷ cs) = ap (λ (n : ℕ). held_size c.mark n + object_words_in (map (led_cell f) cs)) (size_led f c) ∙ ap (λ (n : ℕ). held_size c.mark (size_of c) + n) (held_led cs)

  sum_led : (g : ℕ → ℕ) (cs : List Cell) → sum_in g (map (led_cell f) cs) ≡ sum_in g cs
  sum_led g [] = refl
  sum_led g (c ∷ cs) = ap (λ (n : ℕ). held_size c.mark (g n) + sum_in g (map (led_cell f) cs)) (size_led f c) ∙ ap (λ (n : ℕ). held_size c.mark (g (size_of c)) + n) (sum_led g cs)

  all_used : (ks : List ChunkValue) → used_words (map (led_chunk f) ks) ≡ used_words ks
  all_used [] = refl
  all_used (k ∷ ks) = ap (λ (n : ℕ). n + used_words (map (led_chunk f) ks)) (used_led k.cells) ∙ ap (λ (n : ℕ). words_in k.cells + n) (all_used ks)

  all_held : (ks : List ChunkValue) → held_words (map (led_chunk f) ks) ≡ held_words ks
  all_held [] = refl
  all_held (k ∷ ks) = ap (λ (n : ℕ). n + held_words (map (led_chunk f) ks)) (held_led k.cells) ∙ ap (λ (n : ℕ). object_words_in k.cells + n) (all_held ks)

  all_sum : (g : ℕ → ℕ) (ks : List ChunkValue) → sum_of g (map (led_chunk f) ks) ≡ sum_of g ks
  all_sum g [] = refl
  all_sum g (k ∷ ks) = ap (λ (n : ℕ). n + sum_of g (map (led_chunk f) ks)) (sum_led g k.cells) ∙ ap (λ (n : ℕ). sum_in g k.cells + n) (all_sum g ks)

  packed_led : (ks : List ChunkValue) (n : ℕ) → ArePacked ks n → ArePacked (map (led_chunk f) ks) n
  packed_led ks n p = record {
    full = all_held ks ∙ (p.full ∙ sym (all_used ks));
    small = all_sum small_part ks ∙ (p.small ∙ sym (all_used ks));
    count = all_sum one_each ks ∙ p.count;
  }

-- ---- the new chunks of a collection

module _ (h : List ChunkValue) (ss : List Survivor) (spare : List ChunkValue) (names : HaveNames h ss) (once : Once (olds ss)) (new : AreNew spare)
    (enough : 2 * ((small_words h + 1023) / 1024) ≤ length spare + 1) where
  room : HaveRoom (nothing_laid spare) h (smalls h (olds ss))
  room = small_room h ss names spare once new enough

  pub packed : (f : Option Addr → Option Addr) (laid : List ChunkValue) → laid ≡ map (led_chunk f) (laying_of h ss spare).laid → (n : ℕ) → n ≡ length (moves_of h ss spare) → ArePacked laid n
  packed f laid is n count =
      let none : ArePacked [] 0 = record { full = refl; small = refl; count = refl } in
      let all : ArePacked (laying_of h ss spare).laid (0 + length (smalls h (olds ss))) =
      all_packed (nothing_laid spare) h (smalls h (olds ss)) 0 (λ a i. let lives = small_lives h ss names a i in (laws.born_object h a lives.0, leb-true (size_of (cell_of h a)) 1024 lives.1)) room new none in
      let many : length (moves_of h ss spare) ≡ length (smalls h (olds ss)) = length_moves (nothing_laid spare) h (smalls h (olds ss)) in
      let e : 0 + length (smalls h (olds ss)) ≡ n = omega arith in
      subst (λ (ks : List ChunkValue). ArePacked ks n) (sym is) (packed_led f (laying_of h ss spare).laid n (subst (λ (m : ℕ). ArePacked (laying_of h ss spare).laid m) e all))

-- ---- what was counted still counts

-- if no chunk was added to these
pub counted_still : (ks ls js : List ChunkValue) (n : Counts) → js ≡ ks ++ ls → ls ≡ [] → AreCounted ks n → AreCounted js n
counted_still ks ls js n e none c = subst (λ (xs : List ChunkValue). AreCounted xs n) (sym (e ∙ (ap (λ (xs : List ChunkValue). ks ++ xs) none ∙ append-nil ks))) c

-- if an empty one was added
pub counted_empty : (ks js : List ChunkValue) (k : ChunkValue) (n : Counts) → js ≡ ks ++ k ∷ [] → k.cells ≡ [] → AreCounted ks n → AreCounted js n
counted_empty ks js k n e none c =
    let no_words : words_in k.cells ≡ 0 = ap words_in none in
    let inside : words_in k.cells ≤ k.size = omega arith in
    subst (λ (xs : List ChunkValue). AreCounted xs n) (sym e) (record {
      words = c.words ∙ ap (λ (w : ℕ). saturating_words w) (sym (held_empty ks k none));
      objects = heap.sum_pushed one_each ks k none n.objects c.objects;
      small = heap.sum_pushed small_part ks k none n.small c.small;
      within = All-push (λ (x : ChunkValue). words_in x.cells ≤ x.size) ks k c.within inside;
    })

-- the reserved chunk, taken out, is empty
pub kept_empty : (hs gs : List ChunkValue) (r : Option ℕ) (i : ℕ) (k : ChunkValue) → IsReserved hs r → r ≡ Some i → gs ≡ hs → k ≡ get_or gs i k → k.cells ≡ []
kept_empty hs gs r i k w e g read =
    let there : IsReserved gs (Some i) = subst (λ (xs : List ChunkValue). IsReserved xs (Some i)) (sym g) (subst (λ (o : Option ℕ). IsReserved hs o) e w) in
    let is : k ≡ chunk_at gs i = get_or_read gs i k there.0 read no_chunk in
    ap (λ (x : ChunkValue). x.cells) is ∙ there.1.1
