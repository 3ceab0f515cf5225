-- The result of a leaf collection on a part is a copy of it.
use Rattle.copied_part_laws.proofs.Common.{◌≡◌, ℕ, ◌+◌, arith, Option, Some, None, is_some, List, [], ◌∷◌, ◌++◌, length, map, filter, inl, inr, refl, ap, ap₂, sym, subst, ◌∙◌, option_map, reverse, unwrap_or, contains_from_in, in_append_cases, in_from_contains, in_map, map_in, ProgramText, Object, MachineState, object_at, SettingsValue, Heap, Ledger, heap_of, let_go, words_at, object_words_of, heap_machine, Addr, ChunkValue, number_of, Located, LeafHeapValue, with_places, Level, CallFrame, FramesValue, frames_of, led_frame, Survivor, olds, outside, led_chunk, new_address, reserved_of, unreserved, AreSurvivors, collected, keeps, large_of, laid_of, IsCollected, moves_are_told, rested, rested_view, rested_worker, Begun, Chunk, Belongings, In, Memory, copied_object, object_name, objects_of_chunks, AreLaidOut, words, IsReachedAt, ChunksHaveNames, BelongingsStand, LiesWithOwner, MemoryStands, with_belongings, BegunStands, CopyFits, IsCopy, at_belongings, chunk_of, chunks_of, HeapForm, frames_down, refs_long, inside_from, CopiesFit, CollectionHasBegun, part_belongings}
use Rattle.leaf_collections.specs.below.copying_gc.{Moved}
use Rattle.address_laws.proofs.Extent as extent
use Rattle.copied_part_laws.proofs.CopiedForm as forming
use Rattle.copied_part_laws.proofs.BeforeTheCopy.{Old}
use Rattle.copied_part_laws.proofs.NamesLaid.{room_last}
use Rattle.copied_part_laws.proofs.ObjectsApart.{held_by, once, span}
use Rattle.copied_part_laws.proofs.ObjectsMoved as moving
use Rattle.copied_part_laws.proofs.CopiedNames as naming
use Rattle.copied_part_laws.proofs.SurvivorsReached.{reached_back, reached_to}

-- ---- FRAMES

last_same : (xs ys : List CallFrame) (x y : CallFrame) → xs ++ x ∷ [] ≡ ys ++ y ∷ [] → (xs ≡ ys) × (x ≡ y)
last_same [] [] x y e = (refl, cc)
last_same [] (z ∷ []) x y e = absurd cc
last_same [] (z ∷ (w ∷ ys)) x y e = absurd cc
last_same (z ∷ []) [] x y e = absurd cc
last_same (z ∷ (w ∷ xs)) [] x y e = absurd cc
last_same (z ∷ xs) (w ∷ ys) x y e =
    let head : z ≡ w = cc in
    let tail : xs ++ x ∷ [] ≡ ys ++ y ∷ [] = cc in
    let r = last_same xs ys x y tail in
    (ap₂ (λ q qs. q ∷ qs) head r.0, r.1)

map_last : (f : CallFrame → CallFrame) (xs : List CallFrame) (x : CallFrame) → map f (xs ++ x ∷ []) ≡ map f xs ++ f x ∷ []
map_last f [] x = refl
map_last f (z ∷ xs) x = ap (λ qs. f z ∷ qs) (map_last f xs x)

-- frames with their references updated
frames_led : (f : Addr → Addr) (s s' : FramesValue) → frames_of s' ≡ map (led_frame (option_map f)) (frames_of s) → frames_down s' ≡ map (led_frame (option_map f)) (frames_down s)
frames_led f s s' e =
    let r = last_same s'.below (map (led_frame (option_map f)) s.below) s'.top (led_frame (option_map f) s.top) (e ∙ map_last (led_frame (option_map f)) s.below s.top) in
    ap₂ (λ x xs. x ∷ xs) r.1 r.0

-- ---- WORDS

module _ (p : ProgramText) (st : SettingsValue) (t : ℕ) (h : LeafHeapValue) (view : List Level) (count : ℕ) (s : FramesValue) (b : Begun) (news : List ChunkValue) (v : Memory) (l : Ledger) (B : CollectionHasBegun p st t h view count s b news v l) where
  abbrev pub H : Belongings
  H = part_belongings h view count s (Some b)

  abbrev pub V : Memory
  V = with_belongings v t H

  abbrev pub lt : Ledger
  lt = rested l t

  abbrev pub a : Heap
  a = heap_of l t

  pub stands : MemoryStands V lt
  stands = B.fits.fits.stands

  pub belongings : BelongingsStand V lt t
  belongings = stands.belongings t (rested_worker l t)

  pub own_belongings : V.belongings t ≡ H
  own_belongings = at_belongings v t H

  pub began : BegunStands V lt t b
  began = B.fits.begun

  pub object_among_own : (o : Located) → In (objects_of_chunks (chunks_of h.chunks)) o → In (objects_of_chunks (V.belongings t).chunks) o
  object_among_own o i = subst (λ (z : Belongings). In (objects_of_chunks z.chunks) o) (sym own_belongings) i

  names : ChunksHaveNames (chunks_of h.chunks) a
  names =
      let n : ChunksHaveNames (chunks_of h.chunks) (heap_of lt t) = subst (λ (z : Belongings). ChunksHaveNames z.chunks (heap_of lt t)) own_belongings belongings.names in
      record { small = n.small ∙ rested_view (λ x. x.chunks) (λ x. refl) l t; large = n.large ∙ rested_view (λ x. x.large) (λ x. refl) l t }

  laid : AreLaidOut (chunks_of h.chunks) a.reserved
  laid = subst (AreLaidOut (chunks_of h.chunks)) (rested_view (λ x. x.reserved) (λ x. refl) l t) (subst (λ (z : Belongings). AreLaidOut z.chunks (heap_of lt t).reserved) own_belongings belongings.laid)

  survivors_same : (heap_of lt t).survivors ≡ a.survivors
  survivors_same = rested_view (λ x. x.survivors) (λ x. refl) l t

  read_words : (o : Located) → In (objects_of_chunks (chunks_of h.chunks)) o → words_at l.machine (object_name o) ≡ words o
  read_words o i =
      let c = stands.contents t o (rested_worker l t) (object_among_own o i) in
      let x : Object = c.0 in
      let e : words_at l.machine (object_name o) ≡ object_words_of (Some c.0) = ap (λ (m : MachineState). object_words_of (object_at m.store (object_name o))) (sym (heap_machine l t let_go)) ∙ ap object_words_of c.1 in
      let r : length c.0.refs ≡ length o.refs = sym (refs_long (LiesWithOwner V lt) o.refs c.0.refs c.2.refs) in
      let n : length c.0.ints ≡ length o.ints = ap (λ zs. length zs) (sym c.2.ints) in
      e ∙ (let q : 2 + length c.0.refs + length c.0.ints ≡ 2 + length o.refs + length o.ints = omega (arith, r, n) in q)

  -- its chunks are t's
  pub owned_chunk : (k : ChunkValue) → In h.chunks k → v.owner k.number ≡ Some t
  owned_chunk k i = belongings.owned (chunk_of k) (subst (λ (z : Belongings). In z.chunks (chunk_of k)) (sym own_belongings) (in_map chunk_of h.chunks k i))

  module _ (ss : List Survivor) (S : AreSurvivors h.chunks (outside s b.roots) ss) where
    lives : (o : Located) → In (objects_of_chunks (chunks_of h.chunks)) o → In (olds ss) o.at → In a.survivors (object_name o)
    lives o i j =
        let w : IsReachedAt H b.roots o.at = reached_back h.chunks B.form.shaped.apart H s b.roots refl refl o.at ((S.exactly o.at).0 (contains_from_in (olds ss) o.at j)) in
        subst (λ ns. In ns (object_name o)) survivors_same ((began.survivors o (object_among_own o i)).0 (subst (λ (z : Belongings). IsReachedAt z b.roots o.at) (sym own_belongings) w))

    dies : (o : Located) → In (objects_of_chunks (chunks_of h.chunks)) o → In a.survivors (object_name o) → In (olds ss) o.at
    dies o i j =
        let w : IsReachedAt (V.belongings t) b.roots o.at = (began.survivors o (object_among_own o i)).1 (subst (λ ns. In ns (object_name o)) (sym survivors_same) j) in
        in_from_contains (olds ss) o.at ((S.exactly o.at).1 (reached_to h.chunks B.form.shaped.apart H s b.roots refl refl o.at (subst (λ (z : Belongings). IsReachedAt z b.roots o.at) own_belongings w)))

    pub old : Old h ss l.machine a
    old = record {
      form = B.form;
      names = names;
      named = λ o q i j e. belongings.named o q (object_among_own o i) (object_among_own q j) e;
      words = read_words;
      laid = laid;
      lives = lives;
      dies = dies;
    }

  -- ---- THE COPY

  module _ (h' : LeafHeapValue) (s' : FramesValue) (out : Moved) (C : IsCollected h s b.roots news h' s' out) where
    abbrev pub ss : List Survivor
    ss = C.survivors

    pub O : Old h C.survivors l.machine a
    O = old C.survivors C.are

    abbrev to : Addr → Addr
    to = moving.to h (outside s b.roots) C.survivors news C.are B.new (naming.settled h (outside s b.roots) C.survivors news C.are B.new l.machine a O) (naming.reserved h (outside s b.roots) C.survivors news C.are B.new l.machine a O)

    abbrev L : List ChunkValue
    L = laid_of h C.survivors (reverse news)

    abbrev K : List ChunkValue
    K = large_of h C.survivors (reverse news)

    abbrev R : List ChunkValue
    R = reserved_of h.chunks h.reserved

    abbrev N : LeafHeapValue
    N = with_places (collected h C.survivors (reverse news)) h'.slots h'.spare

    f_is : new_address out.moved.items ≡ to
    f_is = λ i x. ap (λ (o : Option Addr). unwrap_or o x) ((moves_are_told h (outside s b.roots) C.survivors news out.moved.items C.are B.new C.moved).same x) i

    came : (o' : Located) → In (objects_of_chunks (chunks_of (L ++ (K ++ R)))) o' → (o : Located) × In (objects_of_chunks (chunks_of h.chunks)) o × In a.survivors (object_name o) × (o' ≡ copied_object to o)
    came o' i =
        let c = moving.came h (outside s b.roots) C.survivors news C.are B.new (naming.settled h (outside s b.roots) C.survivors news C.are B.new l.machine a O) (naming.reserved h (outside s b.roots) C.survivors news C.are B.new l.machine a O) o' i in
        (c.object, c.there, lives C.survivors C.are c.object c.there c.survives, c.is)

    named_now : (o q : Located) → In (objects_of_chunks (chunks_of (L ++ (K ++ R)))) o → In (objects_of_chunks (chunks_of (L ++ (K ++ R)))) q → object_name o ≡ object_name q → o ≡ q
    named_now o q i j e =
        let x = came o i in
        let z = came q j in
        let same : x.0 ≡ z.0 = belongings.named x.0 z.0 (object_among_own x.0 x.1) (object_among_own z.0 z.1) (ap object_name (sym x.3) ∙ (e ∙ ap object_name z.3)) in
        x.3 ∙ (ap (copied_object to) same ∙ sym z.3)

    owned_each : (k : ChunkValue) → In (L ++ (K ++ R)) k → v.owner k.number ≡ Some t
    owned_each k i = elim (in_append_cases L (K ++ R) k i) [
      | inl j ↦
          let n = moving.laid_new h (outside s b.roots) C.survivors news C.are B.new (naming.settled h (outside s b.roots) C.survivors news C.are B.new l.machine a O) (naming.reserved h (outside s b.roots) C.survivors news C.are B.new l.machine a O) k.number (extent.number_there L k j) in
          let c = map_in number_of news k.number n in
          began.owned k.number (subst (In b.news) c.2 (B.took c.0 c.1))
      | inr j ↦ elim (in_append_cases K R k j) [
        | inl d ↦
            let x = map_in (led_chunk (moving.g h (outside s b.roots) C.survivors news C.are B.new (naming.settled h (outside s b.roots) C.survivors news C.are B.new l.machine a O) (naming.reserved h (outside s b.roots) C.survivors news C.are B.new l.machine a O))) (filter (keeps C.survivors) (unreserved h.chunks h.reserved)) k d in
            let A = moving.alone h (outside s b.roots) C.survivors news C.are B.new (naming.settled h (outside s b.roots) C.survivors news C.are B.new l.machine a O) (naming.reserved h (outside s b.roots) C.survivors news C.are B.new l.machine a O) x.0 x.1 in
            ap (λ (z : ChunkValue). v.owner z.number) (sym x.2) ∙ owned_chunk x.0 A.there
        | inr d ↦ owned_chunk k (moving.of_reserved h.chunks h.reserved B.form.shaped.reserved k d).0
      ]
    ]

    same_out : (x : Addr) → ((c : Chunk) → In (chunks_of h.chunks) c → c.number ≡ x.chunk → ⊥) → to x ≡ x
    same_out x out' =
        moving.to_itself h (outside s b.roots) C.survivors news C.are B.new (naming.settled h (outside s b.roots) C.survivors news C.are B.new l.machine a O) (naming.reserved h (outside s b.roots) C.survivors news C.are B.new l.machine a O) x
        (λ i.
        let j = (moving.in_xs h (outside s b.roots) C.survivors news C.are B.new (naming.settled h (outside s b.roots) C.survivors news C.are B.new l.machine a O) (naming.reserved h (outside s b.roots) C.survivors news C.are B.new l.machine a O) x i).0 in
        let q = moving.seen_there h (outside s b.roots) C.survivors news C.are B.new (naming.settled h (outside s b.roots) C.survivors news C.are B.new l.machine a O) (naming.reserved h (outside s b.roots) C.survivors news C.are B.new l.machine a O) x j in
        let k = held_by h.chunks q.0 q.1 in
        out' (chunk_of k.chunk) (in_map chunk_of h.chunks k.chunk k.there) (sym (span k.chunk.cells k.chunk.number 0 q.0 k.object).chunk ∙ ap (λ (z : Addr). z.chunk) q.2))

    copy_now : IsCopy v l t H (part_belongings N view count s' None) to
    copy_now = record {
      names = naming.names h (outside s b.roots) C.survivors news C.are B.new l.machine a O;
      room = room_last L (K ++ R) ∙ naming.room_now h (outside s b.roots) C.survivors news C.are B.new l.machine a O;
      since = refl;
      view = refl;
      count = refl;
      inside = λ c o i j. inside_from (L ++ (K ++ R)) c o i j;
      once = once (L ++ (K ++ R)) (moving.apart_now h (outside s b.roots) C.survivors news C.are B.new (naming.settled h (outside s b.roots) C.survivors news C.are B.new l.machine a O) (naming.reserved h (outside s b.roots) C.survivors news C.are B.new l.machine a O));
      named = named_now;
      laid = forming.laid_now h (outside s b.roots) C.survivors news C.are B.new l.machine a O;
      owned = λ c i. (let k = map_in chunk_of (L ++ (K ++ R)) c i in ap (λ (z : Chunk). v.owner z.number) (sym k.2) ∙ owned_each k.0 k.1);
      copied = λ o i j. moving.copied h (outside s b.roots) C.survivors news C.are B.new (naming.settled h (outside s b.roots) C.survivors news C.are B.new l.machine a O) (naming.reserved h (outside s b.roots) C.survivors news C.are B.new l.machine a O) o i (dies C.survivors C.are o i j);
      only = came;
      frames = frames_led to s s' (C.frames ∙ ap (λ (w : Option Addr → Option Addr). map (led_frame w) (frames_of s)) (moving.g_is h (outside s b.roots) C.survivors news C.are B.new (naming.settled h (outside s b.roots) C.survivors news C.are B.new l.machine a O) (naming.reserved h (outside s b.roots) C.survivors news C.are B.new l.machine a O)));
      same = same_out;
    }

    pub fits : CopyFits p st t H (part_belongings h' view count s' None) (new_address out.moved.items) v l
    fits = record {
      old = B.fits;
      collects = ap is_some (sym (rested_view (λ x. x.begun) (λ x. refl) l t) ∙ began.few);
      copy = subst (λ w. IsCopy v l t H (part_belongings h' view count s' None) w) (sym f_is) (subst (λ (z : LeafHeapValue). IsCopy v l t H (part_belongings z view count s' None) to) (sym C.heap) copy_now);
    }

    pub form : HeapForm h'
    form = subst HeapForm (sym C.heap) (forming.form_now h (outside s b.roots) C.survivors news C.are B.new l.machine a O h'.slots h'.spare)

pub copies_fit : CopiesFit
copies_fit p st t h view count s b news v l B h' s' out C = (fits p st t h view count s b news v l B h' s' out C, form p st t h view count s b news v l B h' s' out C)
