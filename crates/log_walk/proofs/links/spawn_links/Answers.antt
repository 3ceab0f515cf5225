use Rattle.log_walk.proofs.Common.{◌≡◌, ◌+◌, ◌≤◌, ◌∷◌, ◌++◌, [], ap, sym, subst, ◌∙◌, rules, same_Some, Link, new_link, place_before, AreSpawnLinks}
use Rattle.log_walk.proofs.SpawnLinks.{link_pushed}
use Rattle.log_walk.proofs.links.spawn_links.Goals as goal

pub loop-place-preserved : goal.loop-place-preserved
loop-place-preserved c =
    let order = c.args.order.now in
    let firsts = c.args.firsts.now in
    let i = c.loop-place.place in
    let u = c.at-strand.result.now in
    let first = c.at-first.result.now in
    let ks = c.loop-place.links.items in
    let known = c.requires i u c.at-strand.ensures in
    let same : known.0 ≡ first = same_Some known.0 first (sym known.1 ∙ c.at-first.ensures) in
    let le : first ≤ i = subst (λ k. k ≤ i) same known.2 in
    let before : c.place_before.result ≡ place_before first = c.place_before.ensures in
    let link : c.link_below-link.result ≡ new_link ks (place_before first) = c.link_below-link.ensures ∙ ap (new_link ks) before in
    let pushed : c.push.new.self.items ≡ ks ++ c.link_below-link.result ∷ [] = search rules in
    let all : c.push.new.self.items ≡ ks ++ new_link ks (place_before first) ∷ [] = pushed ∙ ap (λ (x : Link). ks ++ x ∷ []) link in
    subst (AreSpawnLinks order firsts (i + 1)) (sym all)
    (link_pushed order firsts i first u ks c.at-strand.ensures c.at-first.ensures le c.loop-place.invariant)
