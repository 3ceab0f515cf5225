use Rattle.log_groups.proofs.Common.{◌∙◌, ◌+◌, ◌^◌, ap, sym, subst, arith, ◌<◌, position, slice_set, on_ok_weaker, same_key, keys_of, with_item, AreBelow}
use Rattle.log_groups.proofs.Gathering.{counted_at, found_at, put_last, below_with}
use Rattle.log_groups.proofs.gather.Groups.add.Goals as goal

pub returns-in-None : goal.returns-in-None
returns-in-None c =
    let x = c.args.item in
    let lt : x.size < 2 ^ 64 = omega (arith, c.size_of-size.ensures.value, c.size_of-size.ensures.small) in
    let put = put_last c.args.self.now x (sym c.place.ensures ∙ c.in-None.is) in
    record {
      added = on_ok_weaker c.push.result (λ e. e ∙ put) c.push.ensures;
      few = on_ok_weaker c.push.result (λ e n b. subst (AreBelow (n + 1)) (sym (e ∙ put)) (below_with c.args.self.now x n lt b)) c.push.ensures;
    }

pub returns-in-Some : goal.returns-in-Some
returns-in-Some c =
    let x = c.args.item in
    let lt : x.size < 2 ^ 64 = omega (arith, c.size_of-size.ensures.value, c.size_of-size.ensures.small) in
    let is = sym c.place.ensures ∙ c.in-Some.is in
    let g = found_at c.args.self.now x c.in-Some.place is in
    let now = c.count.ensures g.0 g.1 ∙ ap (λ n. slice_set c.args.self.now c.in-Some.place (record { first = g.0.first; total = g.0.total + n })) c.size_of-size.ensures.value ∙ counted_at c.args.self.now x c.in-Some.place g.0 is g.1 in
    record {
      added = now;
      few = λ n b. subst (AreBelow (n + 1)) (sym now) (below_with c.args.self.now x n lt b);
    }
