use Rattle.steal_scheduler.proofs.Common.{rules, ◌≡◌, [], ◌∷◌, ◌++◌, length, sym, ap, ◌∙◌, subst, into_iter_items, into_iter_len, YieldsList-end, YieldsList-from_vec, map-id, EachPlace, StealFrom, AreTheftsOf, IsHandOf}
use Rattle.steal_scheduler.proofs.Lists.{places_more, longer}
use Rattle.steal_scheduler.proofs.Made.{hand_of, all_new}
use Rattle.steal_scheduler.proofs.new.Deques.new.Goals as goal

pub loop-own-preserved : goal.loop-own-preserved
loop-own-preserved c = let ss = c.in_ok-stealers.stealers.items in let h = c.new.result in let own = c.in-Some.own in let inv = c.loop-own.invariant in
    let items : c.push.new.self.items ≡ c.loop-own.hands.items ++ h ∷ [] = search rules in
    let of : AreTheftsOf c.in_ok-thefts.thefts.items ss = subst (AreTheftsOf c.in_ok-thefts.thefts.items) c.as_slice-in-loop-own.ensures.value c.in_ok-thefts.ensures in
    let made = hand_of ss h own c.in_ok-thefts.thefts.items c.new.ensures.0 c.new.ensures.1 (ap (λ v. v.items) c.new.ensures.2) of in
    let long = ap length items ∙ longer c.loop-own.hands.items c.loop-own.yielded h own inv.0 in
    (long, subst (λ l. EachPlace (IsHandOf ss) l (c.loop-own.yielded ++ own ∷ [])) (sym items) (places_more (IsHandOf ss) c.loop-own.hands.items c.loop-own.yielded h own inv.0 made inv.1))

pub returns : goal.returns
returns c = let ss = c.in_ok-stealers.stealers.items in let os = c.in_ok-owners.owners.items in let inv = c.loop-own.invariant in
    let came : into_iter_items c.into_iter-own-iterator.result ≡ os = search rules in let many : into_iter_len c.into_iter-own-iterator.result ≡ length os = search rules in
    let all : c.loop-own.yielded ≡ os = sym (map-id c.loop-own.yielded) ∙ (YieldsList-end (YieldsList-from_vec os came many) c.loop-own.yielded c.loop-own.own-iterator c.loop-own.yielded_by c.next.result c.next.new.self c.in-None.is c.next.ensures.steps).0 in
    let from : StealFrom ss os = subst (StealFrom ss) c.as_slice.ensures.value c.in_ok-stealers.ensures in
    all_new c.args.workers c.loop-own.hands.items os ss (inv.0 ∙ ap length all) c.in_ok-owners.ensures.0 from (subst (EachPlace (IsHandOf ss) c.loop-own.hands.items) all inv.1)
