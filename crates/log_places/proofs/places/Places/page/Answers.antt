use Rattle.log_places.proofs.Common.{◌≡◌, ◌+◌, ◌∷◌, ◌∙◌, [], cond, length, ap, sym, subst, arith, length-append, PlacesValue, AreDifferent}
use Rattle.log_places.proofs.Finding.{first_inserted, page_made}
use Rattle.log_places.proofs.places.Places.page.Goals as goal
use Rattle.log_places.proofs.Counted.{one_page_more}
use Rattle.log_places.proofs.Linking.{near_more}

pub returns-then-is_new-clause-ok : goal.returns-then-is_new-clause-ok
returns-then-is_new-clause-ok c =
    first_inserted c.args.key c.self.inside.known.keys c.insert_full.new.self.keys c.in_ok-i.i c.in_ok-i.ensures.keys c.in_ok-i.ensures.index

pub returns-else-is_new-clause-ok : goal.returns-else-is_new-clause-ok
returns-else-is_new-clause-ok c =
    first_inserted c.args.key c.self.inside.known.keys c.insert_full.new.self.keys c.in_ok-i.i c.in_ok-i.ensures.keys c.in_ok-i.ensures.index

pub returns-then-is_new-clause-kept : goal.returns-then-is_new-clause-kept
returns-then-is_new-clause-kept c = λ k.
    page_made c.self.inside.known.keys c.insert_full.new.self.keys c.self.inside.pages.items c.push_reserved.new.self.items c.reserve.new.self.items c.new.result
    c.args.key k c.in_ok-i.is_new c.args.self.now c.if-is_new.true c.in_ok-i.ensures.added c.in_ok-i.ensures.keys c.push_reserved.ensures.items
    c.reserve.ensures.items c.new.ensures c.self.invariant.0 c.self.view_is

pub returns-then-is_new-clause-different : goal.returns-then-is_new-clause-different
returns-then-is_new-clause-different c = λ d.
    one_page_more c.self.inside.known.keys c.insert_full.new.self.keys c.args.key c.in_ok-i.ensures.keys
    (subst (λ (v : PlacesValue). AreDifferent v.keys) (sym c.self.view_is) d)

pub invariant_of-self-then-is_new : goal.invariant_of-self-then-is_new
invariant_of-self-then-is_new c =
    let n : length c.insert_full.new.self.keys ≡ length c.self.inside.known.keys + cond c.in_ok-i.is_new 1 0 = c.in_ok-i.ensures.len in
    let one = ap (λ b. length c.self.inside.known.keys + cond b 1 0) c.if-is_new.true in
    let p = ap length c.push_reserved.ensures.items ∙ length-append c.reserve.new.self.items (c.new.result ∷ []) in
    let r = ap length c.reserve.ensures.items in (
      omega (arith, n, one, p, r, c.self.invariant.0),
      near_more c.self.inside.known.keys c.insert_full.new.self.keys c.args.key c.in_ok-i.ensures.keys c.requires c.self.invariant.1,
    )
