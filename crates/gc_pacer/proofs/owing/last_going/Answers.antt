use Rattle.gc_pacer.proofs.Common.{◌≡◌, ◌-◌, ◌<◌, ℕ, Some, false, length, slice_get, inl, inr, ap, sym, subst, arith, get_or, ◌∙◌, cases_eq, same_Some, slice_get-get_or, accounts, Fork, is_going}
use Rattle.gc_pacer.proofs.owing.last_going.Goals as goal

pub loop-i-preserved : goal.loop-i-preserved
loop-i-preserved c = λ k f le e.
    let n : ℕ = length c.args.forks.now - 1 - c.loop-i.i in
    elim (cases_eq k n) [
      | inl q ↦
          let lt : n < length c.args.forks.now = omega (arith, c.loop-i-test.true) in
          let at : Some f ≡ Some (get_or c.args.forks.now n (record { task = 0; left = 0 })) = sym e ∙ (ap (slice_get c.args.forks.now) q ∙ slice_get-get_or c.args.forks.now n (record { task = 0; left = 0 }) lt) in
          subst (λ (g : Fork). is_going (accounts c.args.shared.now) g ≡ false) (sym (same_Some f (get_or c.args.forks.now n (record { task = 0; left = 0 })) at)) (sym c.is_going.ensures ∙ c.if-is_going.false)
      | inr ne ↦ c.loop-i.invariant k f (omega (arith, c.loop-i-test.true)) e
    ]
