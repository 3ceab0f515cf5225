use Rattle.run_accounts.proofs.Common.{◌≡◌, ◌∙◌, ℕ, Option, None, ap₂, refl, true, rules, Name, heap_of, asked, can_step, on_ok_weaker, used_by}
use Rattle.run_accounts.proofs.Stepped.{allocates_nothing, counts_nothing, steps_by, since_few, stepped_owned, stepped_paired}
use Rattle.run_accounts.proofs.accounts.Accounts.step.Goals as goal

-- a step that doesn't allocate

pub settle-requires-clause-since : goal.settle-requires-clause-since
settle-requires-clause-since c =
    let none : asked c.args.self.now.program c.args.self.now.ledger.machine c.args.t ≡ None = search rules in
    since_few c.args.self.now.program c.args.self.now.ledger c.args.t c.requires.before c.requires.placed c.args.self.now c.args.self.now c.advance.new.self c.advance.new.self c.advance.new.self.used refl refl
    (allocates_nothing c.args.self.now c.args.t none) c.in_ok-advance.ensures refl

pub settle-requires-clause-owned : goal.settle-requires-clause-owned
settle-requires-clause-owned c =
    let none : asked c.args.self.now.program c.args.self.now.ledger.machine c.args.t ≡ None = search rules in
    let can : can_step c.args.self.now.ledger.machine c.args.t ≡ true = search rules in
    stepped_owned c.args.self.now c.args.self.now c.advance.new.self c.advance.new.self c.args.t c.advance.new.self.used can
    (allocates_nothing c.args.self.now c.args.t none) c.in_ok-advance.ensures refl c.requires.after

pub settle-requires-clause-paired : goal.settle-requires-clause-paired
settle-requires-clause-paired c =
    let none : asked c.args.self.now.program c.args.self.now.ledger.machine c.args.t ≡ None = search rules in
    let can : can_step c.args.self.now.ledger.machine c.args.t ≡ true = search rules in
    stepped_paired c.args.self.now c.args.self.now c.advance.new.self c.advance.new.self c.args.t c.advance.new.self.used can
    (allocates_nothing c.args.self.now c.args.t none) c.in_ok-advance.ensures refl c.requires.after

pub returns-then-is_none : goal.returns-then-is_none
returns-then-is_none c =
    let none : asked c.args.self.now.program c.args.self.now.ledger.machine c.args.t ≡ None = search rules in
    on_ok_weaker c.settle.result
    (λ e. steps_by c.args.self.now c.args.self.now c.advance.new.self c.advance.new.self c.settle.new.self c.args.t (search rules) c.requires.used c.requires.next
    (allocates_nothing c.args.self.now c.args.t none) c.in_ok-advance.ensures
    (counts_nothing c.args.self.now c.advance.new.self c.args.t (heap_of c.args.self.now.ledger c.args.t).reserved none)
    e) c.settle.ensures

-- one that allocates

pub settle-requires-2-clause-since : goal.settle-requires-2-clause-since
settle-requires-2-clause-since c =
    since_few c.args.self.now.program c.args.self.now.ledger c.args.t c.requires.before c.requires.placed c.args.self.now _ _ _ _ refl refl c.in_ok-allocate.ensures c.in_ok-advance-2.ensures c.count_large.ensures

pub settle-requires-2-clause-owned : goal.settle-requires-2-clause-owned
settle-requires-2-clause-owned c =
    let can : can_step c.args.self.now.ledger.machine c.args.t ≡ true = search rules in
    stepped_owned c.args.self.now c.allocate.new.self c.advance-2.new.self c.count_large.new.self c.args.t _ can c.in_ok-allocate.ensures c.in_ok-advance-2.ensures c.count_large.ensures c.requires.after

pub settle-requires-2-clause-paired : goal.settle-requires-2-clause-paired
settle-requires-2-clause-paired c =
    let can : can_step c.args.self.now.ledger.machine c.args.t ≡ true = search rules in
    stepped_paired c.args.self.now c.allocate.new.self c.advance-2.new.self c.count_large.new.self c.args.t _ can c.in_ok-allocate.ensures c.in_ok-advance-2.ensures c.count_large.ensures c.requires.after

pub returns : goal.returns
returns c =
    on_ok_weaker c.settle-2.result
    (λ e. steps_by c.args.self.now c.allocate.new.self c.advance-2.new.self c.count_large.new.self c.settle-2.new.self c.args.t (search rules) c.requires.used c.requires.next c.in_ok-allocate.ensures c.in_ok-advance-2.ensures
    (c.count_large.ensures ∙ ap₂ (λ (r : ℕ) (n : Option Name). record c.advance-2.new.self { used = used_by c.advance-2.new.self.used r c.advance-2.new.self.ledger.machine n }) c.reserved-reserved.ensures c.next_large-large.ensures)
    e) c.settle-2.ensures
