use Rattle.gc_pacer.proofs.Common.{ap, refl, sym, arith, ◌∙◌, accounts, keeps_items, drop_keeps}
use Rattle.gc_pacer.proofs.owing.forget.Goals as goal

pub returns-in_default-clause-keeps : goal.returns-in_default-clause-keeps
returns-in_default-clause-keeps c = λ x K. keeps_items (accounts c.args.shared.now) c.loop.pace _ x refl (ap (λ s. s.items) c.in_default.ensures.kept) (c.loop.invariant.keeps x K)

pub returns-then-is_going-clause-keeps : goal.returns-then-is_going-clause-keeps
returns-then-is_going-clause-keeps c = λ x K. keeps_items (accounts c.args.shared.now) c.loop.pace _ x refl (ap (λ s. s.items) c.push_reserved.ensures ∙ sym c.in-Some.ensures.some) (c.loop.invariant.keeps x K)

pub loop-preserved : goal.loop-preserved
loop-preserved c = record {
  keeps = λ x K. drop_keeps (accounts c.args.shared.now) c.loop.pace _ c.in-Some.fork x refl c.in-Some.ensures.some (sym c.is_going.ensures ∙ c.if-is_going.false) (c.loop.invariant.keeps x K);
  room = omega (arith, c.in-Some.ensures.room, c.loop.invariant.room);
}
