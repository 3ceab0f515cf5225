use Rattle.log_places.proofs.Common.{◌≡◌, ◌*◌, ◌^◌, ◌≤◌, ◌++◌, ◌∙◌, List, slice_get, ap, sym, arith, same_Some, on_ok_weaker, PageKey, Stretch, PlacesValue, stretches_before, slots_of_page}
use Rattle.log_places.proofs.Numbering.{first_there}
use Rattle.log_places.proofs.Linking.{near_at}
use Rattle.log_places.proofs.Blocks.{page_counted}
use Rattle.log_places.proofs.numbers.Numbers.add_page.Goals as goal

pub overflow_mul-key : goal.overflow_mul-key
overflow_mul-key c =
    let near : c.key_at-key.result.page * 4096 ≤ 2 ^ 60 = near_at c.self.inside.known.keys c.args.i c.key_at-key.result c.key_at-key.ensures c.self.invariant.4 in
    omega (arith, near)

pub index-requires-2 : goal.index-requires-2
index-requires-2 c =
    omega (
      arith,
      first_there c.args.self.now c.self.inside.known.keys c.self.inside.pages.items c.self.inside.firsts.items c.args.i c.self.view_is c.self.invariant.1 c.requires,
      c.self.inside.firsts.ok.0,
    )

pub add_slots-requires-clause-near : goal.add_slots-requires-clause-near
add_slots-requires-clause-near c = near_at c.self.inside.known.keys c.args.i c.key_at-key.result c.key_at-key.ensures c.self.invariant.4

pub add_slots-requires-clause-counted : goal.add_slots-requires-clause-counted
add_slots-requires-clause-counted c =
    (page_counted c.args.self.now c.self.inside.known.keys c.self.inside.pages.items c.self.inside.firsts.items c.args.i c.index-2.result.now c.self.inside.count c.index.result.now
    c.stretches-stretches.result.now c.self.view_is c.self.invariant.1 c.self.invariant.2 c.requires c.index-2.ensures c.index.ensures c.stretches-stretches.ensures.value).2

pub returns : goal.returns
returns c =
    let is = page_counted c.args.self.now c.self.inside.known.keys c.self.inside.pages.items c.self.inside.firsts.items c.args.i c.index-2.result.now c.self.inside.count c.index.result.now
    c.stretches-stretches.result.now c.self.view_is c.self.invariant.1 c.self.invariant.2 c.requires c.index-2.ensures c.index.ensures c.stretches-stretches.ensures.value in
    let ps = c.self.inside.pages.items in
    let i = c.args.i in
    on_ok_weaker c.add_slots.result
    (λ added k p at there.
    let key : c.key_at-key.result ≡ k = same_Some c.key_at-key.result k (sym c.key_at-key.ensures ∙ (ap (λ (v : PlacesValue). slice_get v.keys i) c.self.view_is ∙ at)) in
    let page : c.stretches-stretches.result.now ≡ p = same_Some c.stretches-stretches.result.now p (sym is.1 ∙ (ap (λ (v : PlacesValue). slice_get v.pages i) c.self.view_is ∙ there)) in
    let first : c.index-2.result.now ≡ stretches_before c.args.self.now.pages i = is.0 ∙ ap (λ (v : PlacesValue). stretches_before v.pages i) c.self.view_is in
    added
    ∙ (ap (λ (x : PageKey). c.args.slots.now.items ++ slots_of_page (x.page * 4096) c.index-2.result.now c.stretches-stretches.result.now) key
    ∙ (ap (λ n. c.args.slots.now.items ++ slots_of_page (k.page * 4096) n c.stretches-stretches.result.now) first
    ∙ ap (λ (l : List Stretch). c.args.slots.now.items ++ slots_of_page (k.page * 4096) (stretches_before c.args.self.now.pages i) l) page)))
    c.add_slots.ensures
