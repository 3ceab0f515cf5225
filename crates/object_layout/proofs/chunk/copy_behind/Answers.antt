use Rattle.object_layout.proofs.Common.{◌≡◌, ◌+◌, ◌-◌, ℕ, List, [], ◌∷◌, ◌++◌, length, take, arith, refl, sym, ap, ◌∙◌, with_items, with_items_is, size_of, words_of_cell, cell_at, HoldsCells}
use Rattle.object_layout.proofs.HoldLemmas as hold
use Rattle.object_layout.proofs.PlaceLemmas as place
use Rattle.object_layout.proofs.chunk.copy_behind.Goals as goal

items : (c : goal.After-to-2-1) → (with_items c.to.inside.words c.copy_words.new.to).items ≡ c.copy_words.new.to
items c = with_items_is c.to.inside.words c.copy_words.new.to (omega (arith, c.copy_words.auto.to, c.deref_mut.ensures.len))

lens : (c : goal.After-to-2-1) → length (with_items c.to.inside.words c.copy_words.new.to).items ≡ length c.to.inside.words.items
lens c = rw (items c) (omega (arith, c.copy_words.auto.to, c.deref_mut.ensures.len))

new_holds : (c : goal.After-to-2-1) →
    HoldsCells (with_items c.to.inside.words c.copy_words.new.to).items (c.to.inside.used + (c.next_at.result - c.args.at))
    (c.args.to.now.cells ++ cell_at c.args.from.now.cells c.args.at ∷ [])
new_holds c =
    let o = hold.object_in c.from.inside.number c.from.inside.words.items c.from.inside.used c.args.from.now c.from.view_is c.from.invariant c.args.at (place.cell_of_object c.args.from.now.cells c.args.at c.requires.object) in
    let h = hold.seen_holds c.to.inside.number c.to.inside.words.items c.to.inside.used c.args.to.now c.to.view_is c.to.invariant in
    let is = place.object_is c.args.from.now.cells c.args.at c.requires.object in
    let room = rw is at c.requires.room in
    let size = hold.seen_size c.to.inside.number c.to.inside.words.items c.to.inside.used c.args.to.now c.to.view_is in
    let used = hold.held_used c.to.inside.words.items c.to.inside.used c.args.to.now.cells h in
    let count : c.next_at.result - c.args.at ≡ size_of (cell_at c.args.from.now.cells c.args.at) = omega (arith, c.next_at.ensures.next) in
    let len : length c.copy_words.new.to ≡ length c.to.inside.words.items = omega (arith, c.copy_words.auto.to, c.deref_mut.ensures.len) in
    let part = hold.held_part c.from.inside.words.items c.from.inside.used c.args.from.now.cells o.holds c.args.at (place.cell_of_object c.args.from.now.cells c.args.at c.requires.object) in
    let copied = rw (count, c.deref_mut.ensures.value, c.deref.ensures.value) at c.copy_words.ensures in
    let laid : take (c.to.inside.used + size_of (cell_at c.args.from.now.cells c.args.at)) c.copy_words.new.to ≡ take c.to.inside.used c.to.inside.words.items ++ words_of_cell (cell_at c.args.from.now.cells c.args.at) =
    copied ∙ rw part refl in
    rw (items c, count)
    (hold.held_push c.to.inside.words.items c.to.inside.used c.args.to.now.cells h c.copy_words.new.to (cell_at c.args.from.now.cells c.args.at) o.cell laid (omega arith) (rw len h.sized))

pub copy_words-requires-clause-from : goal.copy_words-requires-clause-from
copy_words-requires-clause-from c =
    let o = hold.object_in c.from.inside.number c.from.inside.words.items c.from.inside.used c.args.from.now c.from.view_is c.from.invariant c.args.at (place.cell_of_object c.args.from.now.cells c.args.at c.requires.object) in
    let len = ap (λ (xs : List ℕ). length xs) c.deref.ensures.value in
    omega (arith, c.next_at.ensures.next)

pub copy_words-requires-clause-to : goal.copy_words-requires-clause-to
copy_words-requires-clause-to c =
    let h = hold.seen_holds c.to.inside.number c.to.inside.words.items c.to.inside.used c.args.to.now c.to.view_is c.to.invariant in
    let is = place.object_is c.args.from.now.cells c.args.at c.requires.object in
    let room = rw is at c.requires.room in
    let size = hold.seen_size c.to.inside.number c.to.inside.words.items c.to.inside.used c.args.to.now c.to.view_is in
    let used = hold.held_used c.to.inside.words.items c.to.inside.used c.args.to.now.cells h in
    let len = ap (λ (xs : List ℕ). length xs) c.deref_mut.ensures.value in
    omega (arith, c.next_at.ensures.next)

pub overflow_add-to : goal.overflow_add-to
overflow_add-to c =
    let h = hold.seen_holds c.to.inside.number c.to.inside.words.items c.to.inside.used c.args.to.now c.to.view_is c.to.invariant in
    let is = place.object_is c.args.from.now.cells c.args.at c.requires.object in
    let room = rw is at c.requires.room in
    let size = hold.seen_size c.to.inside.number c.to.inside.words.items c.to.inside.used c.args.to.now c.to.view_is in
    let used = hold.held_used c.to.inside.words.items c.to.inside.used c.args.to.now.cells h in
    let sized = h.sized in
    omega (arith, c.next_at.ensures.next)

pub invariant_of-to : goal.invariant_of-to
invariant_of-to c = hold.held_again _ _ _ (new_holds c)

pub returns-clause-place : goal.returns-clause-place
returns-clause-place c =
    let h = hold.seen_holds c.to.inside.number c.to.inside.words.items c.to.inside.used c.args.to.now c.to.view_is c.to.invariant in
    let is = place.object_is c.args.from.now.cells c.args.at c.requires.object in
    let room = rw is at c.requires.room in
    let size = hold.seen_size c.to.inside.number c.to.inside.words.items c.to.inside.used c.args.to.now c.to.view_is in
    let used = hold.held_used c.to.inside.words.items c.to.inside.used c.args.to.now.cells h in
    sym used

pub returns-clause-copied : goal.returns-clause-copied
returns-clause-copied c = rw (place.object_is c.args.from.now.cells c.args.at c.requires.object) (hold.seen_again c.to.inside.number c.to.inside.words.items c.to.inside.used c.args.to.now c.to.view_is _ _ _ (new_holds c) (lens c))

pub next_at-requires : goal.next_at-requires
next_at-requires c = place.cell_of_object c.args.from.now.cells c.args.at c.requires.object
