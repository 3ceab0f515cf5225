use Rattle.log_places.proofs.Common.{◌<◌, ◌+◌, ◌++◌, ◌∙◌, ℕ, Option, IfSome, List, length, drop, ap, sym, subst, LocationSlot, next_page, slots_of_block}
use Rattle.log_places.proofs.Linking.{left_of, fewer_left}
use Rattle.log_places.proofs.Blocks.{step_is, page_added, all_added}
use Rattle.log_places.proofs.numbers.Numbers.slots_of_block.Goals as goal

pub loop-at-init : goal.loop-at-init
loop-at-init c = record {
  there = c.first_page-at.ensures.there;
  done = (0, c.first_page-at.ensures.place, ap (λ (l : List LocationSlot). l ++ slots_of_block c.args.self.now c.args.block) c.clear.ensures.items);
}

pub loop-at-smaller : goal.loop-at-smaller
loop-at-smaller c =
    let v = c.args.self.now in
    let d = c.loop-at.invariant.done in
    let s = step_is v c.args.block d.0 c.in-Some.i c.first_page-at.ensures.size (sym d.1 ∙ c.in-Some.is) in
    subst (λ (o : Option ℕ). left_of c.next_page-at.result (length v.pages) < left_of o (length v.pages)) (sym c.in-Some.is)
    (fewer_left s.key.block v.keys c.in-Some.i (length v.pages) c.next_page-at.result
    (subst (λ (o : Option ℕ). IfSome o (λ j. j < length v.pages)) c.in-Some.is c.loop-at.invariant.there) (c.next_page-at.ensures.place s.key s.at))

pub loop-at-preserved : goal.loop-at-preserved
loop-at-preserved c =
    let v = c.args.self.now in
    let i = c.in-Some.i in
    let d = c.loop-at.invariant.done in
    let s = step_is v c.args.block d.0 i c.first_page-at.ensures.size (sym d.1 ∙ c.in-Some.is) in
    record {
      there = c.next_page-at.ensures.there;
      done = (
        i + 1,
        c.next_page-at.ensures.place s.key s.at ∙ ap (λ b. next_page b (i + 1) (drop (i + 1) v.keys)) s.of_block,
        page_added v c.args.block d.0 i c.loop-at.slots.items c.add_page.new.slots.items s (c.in_ok-add_page.ensures s.key s.page s.at s.there) d.2,
      );
    }

pub returns : goal.returns
returns c =
    let d = c.loop-at.invariant.done in
    all_added c.args.self.now c.args.block d.0 c.loop-at.slots.items (sym d.1 ∙ c.in_default.is) d.2
