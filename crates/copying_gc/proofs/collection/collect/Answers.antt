use Rattle.copying_gc.proofs.Common.{◌≡◌, ℕ, ◌+◌, ◌*◌, ◌/◌, ◌≤◌, List, length, fold, reverse, refl, sym, ap, ◌∙◌, subst, arith, Option, All, length-map, length-reverse, length_permutation, Addr, ChunkValue, HeapIsClosed, IsSoundReference, once_from, AreCounted, LeafHeapValue, IsPermutation, contains_from_in, Survivor, olds, outside, with_chunks, CollectorValue, led_chunk, ArePacked, laying_of, moves_of, redirection, CollectorBegins, IsEvacuated, counted32, with_birth_name, unit_count, CanName, nothing_laid, smalls}
use Rattle.copying_gc.proofs.Collecting as collecting
use Rattle.copying_gc.proofs.Collecting.{AreEvacuated}
use Rattle.address_laws.proofs.Numbers as nums
use Rattle.copying_gc.proofs.NewNumbers as new_numbers
use Rattle.copying_gc.proofs.Order as orders
use Rattle.copying_gc.proofs.Moves as moves
use Rattle.copying_gc.proofs.Packing as packing
use Rattle.copying_gc.proofs.Places as places
use Rattle.copying_gc.specs.Laid.{small_words}
use Rattle.copying_gc.proofs.collection.collect.Goals.{After-sort}
use Rattle.copying_gc.proofs.collection.collect.Goals as goal

-- the collector as it begins, and after it has evacuated
abbrev begun : After-sort → CollectorValue
begun c = record { heap = c.args.heap; found = c.args.to_chunks.found.items; laying = record { laid = c.args.to_chunks.laid.items; spare = reverse c.args.to_chunks.chunks.items }; moved = c.args.to_chunks.lists.moved.items }

abbrev ended : After-sort → CollectorValue
ended c = record { heap = c.collector.inside.heap; found = c.collector.inside.found.items; laying = record { laid = c.collector.inside.laid.items; spare = reverse c.collector.inside.spare.items }; moved = c.collector.inside.moved.items }

evacuated : (c : After-sort) → IsEvacuated (begun c) c.args.frames.now c.args.roots.now (ended c) c.evacuate.new.frames
evacuated c =
    subst (λ (z : CollectorValue). IsEvacuated (begun c) c.args.frames.now c.args.roots.now z c.evacuate.new.frames) (sym c.collector.view_is)
    (subst (λ (y : CollectorValue). IsEvacuated y c.args.frames.now c.args.roots.now c.evacuate.new.self c.evacuate.new.frames) c.of-collector.ensures c.evacuate.ensures)

are_evacuated : (c : After-sort) → AreEvacuated c.args.heap.chunks c.collector.inside.heap.chunks c.collector.inside.found.items c.args.to_chunks.chunks.items c.collector.inside.laid.items
are_evacuated c =
    let e = evacuated c in
    record {
      vacated = e.vacated;
      tidy = c.requires.tidy;
      apart = c.requires.apart;
      new = c.requires.new;
      once = once_from (olds c.collector.inside.found.items) e.survivors.once;
      names = e.survivors.names;
      placed = e.laid;
    }

pub evacuate-requires-clause-begins : goal.evacuate-requires-clause-begins
evacuate-requires-clause-begins c =
    let news : List ChunkValue = c.args.to_chunks.chunks.items in
    let enough = c.requires.enough in
    let count = length-reverse news in
    subst CollectorBegins (sym c.of-collector.ensures) (record {
      found = c.requires.reserved.found;
      laid = c.requires.reserved.laid;
      moved = c.requires.reserved.moved;
      new = new_numbers.new_reverse news c.requires.new;
      enough = rw count enough;
    })

pub evacuate-requires-clause-closed : goal.evacuate-requires-clause-closed
evacuate-requires-clause-closed c = subst (λ (z : CollectorValue). HeapIsClosed z.heap.chunks) (sym c.of-collector.ensures) c.requires.closed

pub evacuate-requires-clause-outside : goal.evacuate-requires-clause-outside
evacuate-requires-clause-outside c = subst (λ (z : CollectorValue). All (IsSoundReference z.heap.chunks) (outside c.args.frames.now c.args.roots.now)) (sym c.of-collector.ensures) c.requires.outside

pub counts_of_packed-counts-requires : goal.counts_of_packed-counts-requires
counts_of_packed-counts-requires c =
    let h : List ChunkValue = c.args.heap.chunks in
    let news : List ChunkValue = c.args.to_chunks.chunks.items in
    let e = evacuated (goal.at.counts_of_packed-counts-requires c).After-sort in
    let ss : List Survivor = c.collector.inside.found.items in
    let laid : List ChunkValue = c.collector.inside.laid.items in
    let s = e.survivors in
    let asked = c.requires.enough in
    let turned = length-reverse news in
    let enough : 2 * ((small_words h + 1023) / 1024) ≤ length (reverse news) + 1 = rw turned asked in
    let permuted = subst (λ (ms : List (Addr × Addr)). IsPermutation ms c.sort.new.list.items) e.moved c.sort.ensures.permutation in
    let many : length c.sort.new.list.items ≡ length (moves_of h ss (reverse news)) = length_permutation (moves_of h ss (reverse news)) c.sort.new.list.items permuted in
    let count : c.len.result ≡ length (moves_of h ss (reverse news)) = c.len.ensures ∙ (c.sort.new.list.ok.0 ∙ many) in
    subst (λ (ks : List ChunkValue). ArePacked ks c.len.result) (sym c.deref-2.ensures.value)
    (packing.packed h ss (reverse news) s.names (once_from (olds ss) s.once) (new_numbers.new_reverse news c.requires.new) enough (redirection h ss (reverse news)) laid e.laid c.len.result count)

pub exchange-are_large-requires-clause-counted : goal.exchange-are_large-requires-clause-counted
exchange-are_large-requires-clause-counted c = subst (λ (ks : List ChunkValue). AreCounted ks c.counts_of_packed-counts.result) c.deref-2.ensures.value c.counts_of_packed-counts.ensures

pub exchange-are_large-requires-clause-apart : goal.exchange-are_large-requires-clause-apart
exchange-are_large-requires-clause-apart c = collecting.now_apart (are_evacuated (goal.at.exchange-are_large-requires-clause-apart c).After-sort) c.reserved-reserved.result c.reserved-reserved.ensures.empty

pub exchange-are_large-requires-clause-small : goal.exchange-are_large-requires-clause-small
exchange-are_large-requires-clause-small c = collecting.small_last (are_evacuated (goal.at.exchange-are_large-requires-clause-small c).After-sort) c.reserved-reserved.result c.reserved-reserved.ensures.empty

pub exchange-are_large-requires-clause-back : goal.exchange-are_large-requires-clause-back
exchange-are_large-requires-clause-back c =
    let n = nums.alike_length c.args.heap.chunks c.collector.inside.heap.chunks (are_evacuated (goal.at.exchange-are_large-requires-clause-back c).After-sort).vacated.alike in
    let none = ap (λ (ks : List ChunkValue). length ks) c.requires.reserved.back in
    let room = c.requires.reserved.back_room in
    omega arith

pub exchange-are_large-requires-clause-spare : goal.exchange-are_large-requires-clause-spare
exchange-are_large-requires-clause-spare c =
    let h : List ChunkValue = c.args.heap.chunks in
    let news : List ChunkValue = c.args.to_chunks.chunks.items in
    let ss : List Survivor = c.collector.inside.found.items in
    let same : length c.collector.inside.laid.items ≡ length (laying_of h ss (reverse news)).laid =
    ap (λ (ks : List ChunkValue). length ks) (are_evacuated (goal.at.exchange-are_large-requires-clause-spare c).After-sort).placed ∙ length-map (laying_of h ss (reverse news)).laid (led_chunk (redirection h ss (reverse news))) in
    let count = places.count_laid (nothing_laid (reverse news)) h (smalls h (olds ss)) in
    let turned = length-reverse news in
    let kept : c.collector.inside.heap.spare ≡ c.args.heap.spare = ap (λ (x : LeafHeapValue). x.spare) (evacuated (goal.at.exchange-are_large-requires-clause-spare c).After-sort).heap in
    let room = c.requires.reserved.spare in
    omega arith

pub give_rest-requires : goal.give_rest-requires
give_rest-requires c =
    let h : List ChunkValue = c.args.heap.chunks in
    let news : List ChunkValue = c.args.to_chunks.chunks.items in
    let ss : List Survivor = c.collector.inside.found.items in
    let n = nums.alike_length h c.collector.inside.heap.chunks (are_evacuated (goal.at.give_rest-requires c).After-sort).vacated.alike in
    let none = ap (λ (ks : List ChunkValue). length ks) c.requires.reserved.back in
    let room = c.requires.reserved.back_room in
    let count = c.exchange-are_large.ensures.back_count in
    let same = c.exchange-are_large.ensures.back_room in
    let rest : length (reverse c.collector.inside.spare.items) ≡ length (laying_of h ss (reverse news)).spare = ap (λ (ks : List ChunkValue). length ks) (evacuated (goal.at.give_rest-requires c).After-sort).spare in
    let all = places.count_laid (nothing_laid (reverse news)) h (smalls h (olds ss)) in
    let turned = length-reverse news in
    let turned_rest = length-reverse c.collector.inside.spare.items in
    omega arith

pub name_larges-requires-clause-can : goal.name_larges-requires-clause-can
name_larges-requires-clause-can c =
    let chunks = ap (λ (x : LeafHeapValue). x.chunks) c.exchange-are_large.ensures.heap in
    subst (CanName c.exchange-are_large.new.heap.chunks) (sym c.deref-3.ensures.value)
    (subst (λ (ks : List ChunkValue). CanName ks c.collector.inside.found.items) (sym chunks) (collecting.can_name (are_evacuated (goal.at.name_larges-requires-clause-can c).After-sort) c.reserved-reserved.result c.reserved-reserved.ensures.empty))

pub name_larges-requires-clause-none : goal.name_larges-requires-clause-none
name_larges-requires-clause-none c =
    let chunks = ap (λ (x : LeafHeapValue). x.chunks) c.exchange-are_large.ensures.heap in
    λ no. ap (λ (xs : List Survivor). fold with_birth_name c.exchange-are_large.new.heap.chunks xs) c.deref-3.ensures.value
    ∙ (ap (λ (ks : List ChunkValue). fold with_birth_name ks c.collector.inside.found.items) chunks ∙ (collecting.none_named (are_evacuated (goal.at.name_larges-requires-clause-none c).After-sort) c.reserved-reserved.result c.reserved-reserved.ensures.empty (c.exchange-are_large.ensures.none no) ∙ sym chunks))

pub returns-clause-collected : goal.returns-clause-collected
returns-clause-collected c =
    let h : List ChunkValue = c.args.heap.chunks in
    let news : List ChunkValue = c.args.to_chunks.chunks.items in
    let e = evacuated (goal.at.returns-clause-collected c).After-sort in
    let are = are_evacuated (goal.at.returns-clause-collected c).After-sort in
    let ss : List Survivor = c.collector.inside.found.items in
    let s = e.survivors in
    let r_is : c.reserved-reserved.result ≡ c.args.heap.reserved = c.reserved-reserved.ensures.place ∙ ap (λ (x : LeafHeapValue). x.reserved) e.heap in
    let permuted = subst (λ (ms : List (Addr × Addr)). IsPermutation ms c.sort.new.list.items) e.moved c.sort.ensures.permutation in
    record {
      survivors = ss;
      are = s;
      heap = collecting.heap_is are c.reserved-reserved.result c.reserved-reserved.ensures.empty c.args.heap r_is refl c.exchange-are_large.new.heap c.name_larges.new.heap c.reset_since.new.self c.collector.inside.heap c.exchange-are_large.ensures.heap
          (c.name_larges.ensures ∙ ap (λ (xs : List Survivor). with_chunks c.exchange-are_large.new.heap (fold with_birth_name c.exchange-are_large.new.heap.chunks xs)) c.deref-3.ensures.value) c.reset_since.ensures;
      frames = e.frames;
      moved = permuted;
      order = orders.moved_in_order (nothing_laid (reverse news)) h (smalls h (olds ss)) c.sort.new.list.items permuted c.sort.ensures.sorted (moves.once_smalls h (olds ss) (once_from (olds ss) s.once))
          (λ a i. orders.survivor_place h (outside c.args.frames.now c.args.roots.now) c.requires.closed c.requires.outside a ((s.exactly a).0 (contains_from_in (olds ss) a (moves.in_smalls h (olds ss) a i).0)));
      taken = c.count_of-taken.ensures ∙ ap (λ (ks : List ChunkValue). counted32 (length ks)) (c.deref.ensures.value ∙ e.laid);
      given = c.units_of.ensures ∙ ap (λ (ks : List ChunkValue). counted32 (unit_count ks)) c.deref-4.ensures.value;
      left = c.counted.ensures ∙ (ap counted32 c.words.ensures ∙ omega arith);
      back = c.give_rest.ensures ∙ collecting.back_is are c.reserved-reserved.result c.reserved-reserved.ensures.empty c.args.heap r_is c.args.to_chunks.lists.back.items c.requires.reserved.back c.collector.inside.spare.items e.spare c.exchange-are_large.new.back.items c.exchange-are_large.ensures.back;
    }

pub returns-clause-settled : goal.returns-clause-settled
returns-clause-settled c =
    collecting.settled_now (are_evacuated (goal.at.returns-clause-settled c).After-sort) c.reserved-reserved.result c.reserved-reserved.ensures.empty c.exchange-are_large.new.heap c.name_larges.new.heap c.reset_since.new.self (ap (λ (x : LeafHeapValue). x.chunks) c.exchange-are_large.ensures.heap)
    (c.name_larges.ensures ∙ ap (λ (xs : List Survivor). with_chunks c.exchange-are_large.new.heap (fold with_birth_name c.exchange-are_large.new.heap.chunks xs)) c.deref-3.ensures.value) c.reset_since.ensures
