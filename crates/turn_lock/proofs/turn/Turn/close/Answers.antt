use Rattle.turn_lock.proofs.Common.{rules, ◌≡◌, ◌-◌, [], ◌∷◌, ◌++◌, slice_get, ap, sym, ◌∙◌, subst, Some, same_Some, view, Sees, HasAll}
use mathlib.Core.Option.{some-injective}
use Rattle.turn_lock.proofs.SplitJoin.{merges, ends}
use Rattle.turn_lock.proofs.SeatLists.{joined_all, removed_first, may_join, is_last, gathers, emptied}
use Rattle.turn_lock.proofs.Laws.{own_at_end}
use Rattle.turn_lock.proofs.turn.Turn.close.Goals as goal

pub join_seat-requires : goal.join_seat-requires
join_seat-requires g c = let inv = c.loop-other.invariant in let s0 = c.remove-first.result in let all = c.args.seats.items in
    let cut = removed_first all s0 c.requires.some_seat c.remove-first.ensures.value in
    let is : all ≡ s0 ∷ ((c.pop.new.self.items ++ c.in-Some.other ∷ []) ++ inv.0) = cut ∙ ap (λ l. s0 ∷ l) (sym c.remove-first.ensures.items ∙ (inv.1 ∙ ap (λ l. l ++ inv.0) c.in-Some.ensures.items)) in
    let may = may_join c.args.self.table.shared.table_id all s0 c.in-Some.other c.pop.new.self.items inv.0 c.requires is in let now = inv.3 in
    let own = c.requires.each_seat 0 s0 (ap (λ l. slice_get l 0) cut) in (
      inv.2 ∙ own.0.0.0,
      may.other_idle.0.0,
      may.other_idle.2,
      search rules,
      merges g.T.Kept.journal g.T.Kept.worker_of g.T.Kept.fits g.T.Kept.setup _ _ _ _ (ap (λ m. m.0.live) now ∙ may.live) may.other_idle.0.1 (ap (λ m. m.0.worker) now ∙ may.first) (may.last ∙ ap (λ m. m.0.count - 1) (sym now)) (ap (λ m. m.0.taken) now ∙ may.idle) may.other_idle.1,
    )

pub close_with-requires : goal.close_with-requires
close_with-requires g c = let inv = c.loop-other.invariant in let s0 = c.remove-first.result in let cut = removed_first c.args.seats.items s0 c.requires.some_seat c.remove-first.ensures.value in
    let own = c.requires.each_seat 0 s0 (ap (λ l. slice_get l 0) cut) in inv.2 ∙ own.0.0.0

pub value_at_home-requires : goal.value_at_home-requires
value_at_home-requires g c = let inv = c.loop-other.invariant in let s0 = c.remove-first.result in let all = c.args.seats.items in
    let cut = removed_first all s0 c.requires.some_seat c.remove-first.ensures.value in
    let none_left : c.loop-other.seats.items ≡ [] = emptied c.loop-other.seats.items (search rules) in
    let is : all ≡ s0 ∷ inv.0 = cut ∙ ap (λ l. s0 ∷ l) (sym c.remove-first.ensures.items ∙ (inv.1 ∙ ap (λ l. l ++ inv.0) none_left)) in
    let last = is_last c.args.self.table.shared.table_id all s0 inv.0 c.requires is in let now = inv.3 in let f = c.close_with.ensures.values.2 in
    let e = ends g.T.Kept.journal g.T.Kept.worker_of g.T.Kept.fits g.T.Kept.setup _ _ f.0 f.1 (ap (λ m. m.0.live) now ∙ last.live) (ap (λ m. m.0.worker) now ∙ last.first) (ap (λ m. m.0.count) now ∙ last.alone) (ap (λ m. m.0.taken) now ∙ last.idle) in
    (c.close_with.ensures.counts.1 ∙ c.args.self.sized.1, c.close_with.ensures.values.1, (e.0, f.4 0 (Some e.0) e.1))

pub returns-clause-value : goal.returns-clause-value
returns-clause-value g c = let inv = c.loop-other.invariant in let s0 = c.remove-first.result in let all = c.args.seats.items in
    let cut = removed_first all s0 c.requires.some_seat c.remove-first.ensures.value in
    let none_left : c.loop-other.seats.items ≡ [] = emptied c.loop-other.seats.items (search rules) in
    let is : all ≡ s0 ∷ inv.0 = cut ∙ ap (λ l. s0 ∷ l) (sym c.remove-first.ensures.items ∙ (inv.1 ∙ ap (λ l. l ++ inv.0) none_left)) in
    let last = is_last c.args.self.table.shared.table_id all s0 inv.0 c.requires is in let now = inv.3 in let f = c.close_with.ensures.values.2 in
    let e = ends g.T.Kept.journal g.T.Kept.worker_of g.T.Kept.fits g.T.Kept.setup _ _ f.0 f.1 (ap (λ m. m.0.live) now ∙ last.live) (ap (λ m. m.0.worker) now ∙ last.first) (ap (λ m. m.0.count) now ∙ last.alone) (ap (λ m. m.0.taken) now ∙ last.idle) in
    let home = f.4 0 (Some e.0) e.1 in let one : e.0 ≡ c.value_at_home.result = same_Some e.0 c.value_at_home.result (some-injective (Some e.0) (Some c.value_at_home.result) (sym home ∙ c.value_at_home.ensures)) in
    let at0 = ap (λ l. slice_get l 0) is in let own_view : c.loop-other.first.me.0 ≡ joined_all (view s0) inv.0 = ap (λ m. m.0) now in
    gathers g.T.Kept.journal g.T.Kept.worker_of g.T.Kept.fits g.T.Kept.setup c.value_at_home.result all s0 inv.0 is (c.requires.first_seat s0 at0).1 (λ k s e. (c.requires.each_seat k s e).1)
    (subst (λ x. Sees g.T.Kept.journal g.T.Kept.worker_of g.T.Kept.fits g.T.Kept.setup x (joined_all (view s0) inv.0)) one (subst (λ v. Sees g.T.Kept.journal g.T.Kept.worker_of g.T.Kept.fits g.T.Kept.setup e.0 v) own_view e.3))
    (subst (λ x. HasAll g.T.Kept.journal g.T.Kept.worker_of g.T.Kept.fits g.T.Kept.setup x (joined_all (view s0) inv.0)) one (subst (λ v. HasAll g.T.Kept.journal g.T.Kept.worker_of g.T.Kept.fits g.T.Kept.setup e.0 v) own_view e.2))

pub returns-clause-own : goal.returns-clause-own
returns-clause-own g c = own_at_end g.T.Kept.journal g.T.Kept.worker_of g.T.Kept.fits g.T.Kept.setup c.args.self.table.shared.table_id c.value_at_home.result c.args.seats.items c.requires (returns-clause-value g c)
