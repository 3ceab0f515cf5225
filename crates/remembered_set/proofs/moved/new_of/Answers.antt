use Rattle.remembered_set.proofs.Common.{◌+◌, ◌-◌, ◌/◌, ◌<◌, ◌≤◌, ⊎_elim, arith, length, sym, cases_lt, Addr}
use Rattle.remembered_set.proofs.MovedLemmas as lemma
use Rattle.remembered_set.proofs.moved.new_of.Goals as goal

abbrev none : Addr × Addr
none = (record { chunk = 0; offset = 0 }, record { chunk = 0; offset = 0 })

pub returns-then-number-wanted : goal.returns-then-number-wanted
returns-then-number-wanted c =
    let inside : c.loop-low.low + (c.loop-low.high - c.loop-low.low) / 2 < length c.args.moved.now = let w = c.loop-low.invariant.within in omega arith in
    sym (lemma.new_of-found c.args.moved.now c.requires c.args.old _ _ inside
    (lemma.same_from_number _ c.args.old c.address_key-number.ensures.offset c.address_key-wanted.ensures.offset (omega arith)))

pub loop-low-preserved-then-number-wanted-2 : goal.loop-low-preserved-then-number-wanted-2
loop-low-preserved-then-number-wanted-2 c =
    let within = c.loop-low.invariant.within in
    let inside : c.loop-low.low + (c.loop-low.high - c.loop-low.low) / 2 < length c.args.moved.now = omega arith in
    record {
      ordered = omega arith;
      within = omega arith;
      below = λ i d l. lemma.below_more c.args.moved.now c.requires (c.loop-low.low + (c.loop-low.high - c.loop-low.low) / 2) c.address_key-wanted.result none inside (omega arith) i d l;
      above = c.loop-low.invariant.above;
    }

pub loop-low-preserved : goal.loop-low-preserved
loop-low-preserved c =
    let within = c.loop-low.invariant.within in
    let inside : c.loop-low.low + (c.loop-low.high - c.loop-low.low) / 2 < length c.args.moved.now = omega arith in
    record {
      ordered = omega arith;
      within = omega arith;
      below = c.loop-low.invariant.below;
      above = λ i d l k. lemma.above_more c.args.moved.now c.requires (c.loop-low.low + (c.loop-low.high - c.loop-low.low) / 2) c.address_key-wanted.result none inside (omega arith) i d l k;
    }

pub returns : goal.returns
returns c =
    sym (lemma.new_of-none c.args.moved.now c.args.old (λ i d l e.
    ⊎_elim
    (λ (b : i < c.loop-low.low). let f = c.loop-low.invariant.below i d b in omega arith)
    (λ (b : c.loop-low.low ≤ i). let f = c.loop-low.invariant.above i d (omega arith) l in omega arith)
    (cases_lt i c.loop-low.low)))
