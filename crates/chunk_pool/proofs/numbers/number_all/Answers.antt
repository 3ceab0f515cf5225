use Rattle.chunk_pool.proofs.Common.{◌≡◌, ◌+◌, ◌-◌, ◌≤◌, [], ◌∷◌, ◌++◌, length, ap, ◌∙◌, sym, subst, arith, rules, length-append, All, All-head, ChunkValue, IsBlank, NumbersBehind, one_unit}
use Rattle.chunk_pool.proofs.Numbering.{all_left, all_right, behind_more}
use Rattle.chunk_pool.proofs.UnitLemmas.{chunks_set}
use Rattle.chunk_pool.proofs.numbers.number_all.Goals as goal

pub loop-chunk-preserved : goal.loop-chunk-preserved
loop-chunk-preserved c =
    let items : c.loop-chunk.blank.items ≡ c.pop.new.self.items ++ c.in-Some.chunk ∷ [] = c.in-Some.ensures.items in
    let fewer : length c.loop-chunk.blank.items ≡ length c.pop.new.self.items + 1 = ap length items ∙ length-append c.pop.new.self.items (c.in-Some.chunk ∷ []) in
    let both : All IsBlank (c.pop.new.self.items ++ c.in-Some.chunk ∷ []) = rw items at c.loop-chunk.invariant.blank in
    let blank : IsBlank c.in-Some.chunk = All-head IsBlank c.in-Some.chunk [] (all_right c.pop.new.self.items (c.in-Some.chunk ∷ []) both) in
    let same : c.number_one.new.chunk ≡ record c.in-Some.chunk { number = c.number_one.new.chunk.number } = c.number_one.ensures.chunk in
    let new : IsBlank c.number_one.new.chunk = record { size = ap (λ (k : ChunkValue). k.size) same ∙ blank.size; cells = ap (λ (k : ChunkValue). k.cells) same ∙ blank.cells } in
    let u = c.number_one.ensures.updates in
    let first : length c.loop-chunk.blank.items ≤ length c.args.blank.now.items = c.loop-chunk.invariant.fewer in
    let step : length c.args.blank.now.items - length c.pop.new.self.items ≡ length c.args.blank.now.items - length c.loop-chunk.blank.items + 1 = omega arith in
    record {
      room = omega (arith, fewer);
      small = search rules;
      places = omega (arith, fewer);
      blank = all_left c.pop.new.self.items (c.in-Some.chunk ∷ []) both;
      fewer = omega (arith, fewer);
      chunks = λ C. chunks_set c.loop-chunk.slots.slots c.number_one.new.slots.slots c.number_one.new.chunk.number (one_unit c.args.owner) (c.loop-chunk.invariant.chunks C) u.others u.changed (c.number_one.ensures.short, omega arith);
      numbered = subst (λ is. NumbersBehind c.args.slots.now.slots c.number_one.new.slots.slots c.args.owner (length c.args.blank.now.items - length c.pop.new.self.items) c.args.list.now.items is) (sym c.push_reserved.ensures.items)
          (behind_more c.args.slots.now.slots c.loop-chunk.slots.slots c.number_one.new.slots.slots c.args.owner (length c.args.blank.now.items - length c.loop-chunk.blank.items) (length c.args.blank.now.items - length c.pop.new.self.items)
          c.args.list.now.items c.loop-chunk.list.items c.number_one.new.chunk c.loop-chunk.invariant.numbered new c.number_one.ensures.was_free u.changed u.others step);
    }
