use Rattle.heap_reading.proofs.Common.{◌≡◌, ◌++◌, ◌∷◌, [], None, All, ap, ◌∙◌, subst, rules, map, All-head, Cell, IsObject, moved_to, cell_at, cells_from, located, objects_from, born_name, IsInWords, in_words}
use Rattle.heap_reading.proofs.ObjectsRead.{born_from, objects_more, objects_same, unmoved_next, words_more, words_same}
use Rattle.heap_reading.proofs.seen.seen_in.Goals as goal

pub seen_at-requires : goal.seen_at-requires
seen_at-requires c =
    let cells = c.args.chunk.now.cells in
    let at = c.loop-at.at in
    let still : moved_to (cell_at cells at).mark ≡ None = All-head (λ (k : Cell). moved_to k.mark ≡ None) (cell_at cells at) (cells_from cells c.next_at-next.result) (subst (All (λ (k : Cell). moved_to k.mark ≡ None)) c.next_at-next.ensures.rest c.loop-at.invariant.unmoved) in
    born_from (cell_at cells at).mark still (c.is_object_at.ensures.0 c.if-is_object_at.true)

pub loop-at-preserved-in_ok-push : goal.loop-at-preserved-in_ok-push
loop-at-preserved-in_ok-push c =
    let number = c.args.chunk.now.number in
    let cells = c.args.chunk.now.cells in
    let at = c.loop-at.at in
    let next = c.next_at-next.result in
    let cell = cell_at cells at in
    let all = objects_from number 0 cells in
    let rest = c.next_at-next.ensures.rest in
    let step = c.next_at-next.ensures.next in
    let still : moved_to cell.mark ≡ None = All-head (λ (k : Cell). moved_to k.mark ≡ None) cell (cells_from cells next) (subst (All (λ (k : Cell). moved_to k.mark ≡ None)) rest c.loop-at.invariant.unmoved) in
    let b = born_name cell.mark (born_from cell.mark still (c.is_object_at.ensures.0 c.if-is_object_at.true)) in
    let more : c.push.new.self ≡ c.loop-at.objects ++ in_words (located number at b.0 cell) ∷ [] = c.in_ok-push.ensures.ok ∙ ap (λ z. c.loop-at.objects ++ z ∷ []) (c.in_ok-seen_at.ensures.object b.0 b.1) in
    let words : IsInWords (located number at b.0 cell) = record { refs = c.in_ok-seen_at.ensures.refs; ints = c.in_ok-seen_at.ensures.ints } in
    record {
      end = search rules;
      begins = search rules;
      unmoved = unmoved_next number at next cells cell rest step c.loop-at.invariant.unmoved;
      objects = objects_more number at next cells cell rest step b.0 b.1 c.loop-at.objects c.push.new.self (map in_words all) more c.loop-at.invariant.objects;
      words = words_more number at next cells cell rest step b.0 b.1 all words c.loop-at.invariant.words;
    }

pub loop-at-preserved : goal.loop-at-preserved
loop-at-preserved c =
    let number = c.args.chunk.now.number in
    let cells = c.args.chunk.now.cells in
    let at = c.loop-at.at in
    let next = c.next_at-next.result in
    let cell = cell_at cells at in
    let all = objects_from number 0 cells in
    let rest = c.next_at-next.ensures.rest in
    let step = c.next_at-next.ensures.next in
    let still : moved_to cell.mark ≡ None = All-head (λ (k : Cell). moved_to k.mark ≡ None) cell (cells_from cells next) (subst (All (λ (k : Cell). moved_to k.mark ≡ None)) rest c.loop-at.invariant.unmoved) in
    let off : IsObject cell.mark → ⊥ = λ h. (let t = c.is_object_at.ensures.1 h in let f = c.if-is_object_at.false in cc) in
    record {
      end = search rules;
      begins = search rules;
      unmoved = unmoved_next number at next cells cell rest step c.loop-at.invariant.unmoved;
      objects = objects_same number at next cells cell rest step still off c.loop-at.objects (map in_words all) c.loop-at.invariant.objects;
      words = words_same number at next cells cell rest step still off all c.loop-at.invariant.words;
    }
