use Rattle.log_places.proofs.Common.{◌≡◌, ◌+◌, ◌-◌, ◌≤◌, ◌==◌, ◌∙◌, ℕ, Option, Some, List, cond, length, drop, slice_get, ap, sym, subst, arith, length-set, got_within, PageKey, next_page}
use Rattle.log_places.proofs.Linking.{none_first, head_more, link_set}
use Rattle.log_places.proofs.links.links_of.Goals as goal

pub loop-place-init : goal.loop-place-init
loop-place-init c =
    let n : c.len-place.result ≡ length c.args.known.now.keys = c.len-place.ensures.len in
    let m : c.len.result ≡ length c.args.known.now.keys = c.len.ensures.len in
    record {
      within = omega arith;
      heads = λ b. c.no_heads-heads.ensures b ∙ sym (none_first b c.args.known.now.keys c.len-place.result (omega arith));
      size = (let e = ap length c.from_vec-nexts.ensures in omega (arith, e, m, c.in_ok-vec.ensures.len, c.in_ok-vec.field-0.ok.0));
      nexts = λ k x le at. absurd (let l = got_within c.args.known.now.keys k x at in omega (arith, l, le, n));
    }

pub loop-place-preserved : goal.loop-place-preserved
loop-place-preserved c =
    let keys = c.args.known.now.keys in
    let k = c.loop-place.place - 1 in
    let x = c.key_at-key.result in
    let before : k + 1 ≡ c.loop-place.place = omega (arith, c.loop-place-test.true) in
    record {
      within = omega (arith, c.loop-place.invariant.within);
      heads = λ b.
          c.in_ok-next.ensures.new b
          ∙ (ap (λ (o : Option ℕ). cond (x.block == b) (Some k) o) (c.loop-place.invariant.heads b ∙ ap (λ n. next_page b n (drop n keys)) (sym before))
          ∙ head_more b keys k x c.key_at-key.ensures);
      size = ap length c.set.ensures ∙ (length-set c.loop-place.nexts k c.in_ok-next.next ∙ c.loop-place.invariant.size);
      nexts =
          subst (λ (ns : List (Option ℕ)). (j : ℕ) (q : PageKey) → k ≤ j → slice_get keys j ≡ Some q → slice_get ns j ≡ Some (next_page q.block (j + 1) (drop (j + 1) keys))) (sym c.set.ensures)
          (link_set keys c.loop-place.nexts k x c.in_ok-next.next c.loop-place.invariant.size c.key_at-key.ensures
          (c.in_ok-next.ensures.old ∙ (c.loop-place.invariant.heads x.block ∙ ap (λ n. next_page x.block n (drop n keys)) (sym before)))
          (omega (arith, c.loop-place.invariant.within, c.loop-place-test.true))
          (λ j q le at. c.loop-place.invariant.nexts j q (omega (arith, le, before)) at));
    }
