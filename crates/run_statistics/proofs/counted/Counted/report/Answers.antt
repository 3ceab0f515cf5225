use Rattle.run_statistics.proofs.Common.{◌≡◌, ap, ◌∙◌, length, Report, report_of, Totals, SharedValue}
use Rattle.run_statistics.proofs.counted.Counted.report.Goals as goal

-- the same numbers
told : (a b : Report) → a.tasks ≡ b.tasks → a.steps ≡ b.steps → a.turns ≡ b.turns → a.leaf ≡ b.leaf → a.putoff ≡ b.putoff → a.leaf_freed ≡ b.leaf_freed → a.inner ≡ b.inner → a.inner_freed ≡ b.inner_freed
    → a.chunks ≡ b.chunks → a.peak ≡ b.peak → a.held ≡ b.held → a.words ≡ b.words → a ≡ b
told a b e1 e2 e3 e4 e5 e6 e7 e8 e9 e10 e11 e12 =
    let e : record { tasks = a.tasks; steps = a.steps; turns = a.turns; leaf = a.leaf; putoff = a.putoff; leaf_freed = a.leaf_freed; inner = a.inner; inner_freed = a.inner_freed; chunks = a.chunks; peak = a.peak; held = a.held; words = a.words }
    ≡ record { tasks = b.tasks; steps = b.steps; turns = b.turns; leaf = b.leaf; putoff = b.putoff; leaf_freed = b.leaf_freed; inner = b.inner; inner_freed = b.inner_freed; chunks = b.chunks; peak = b.peak; held = b.held; words = b.words } = cc in
    e

pub returns : goal.returns
returns c =
    let w : SharedValue = c.self.inside.shared in
    let t = c.self.invariant.totals in
    told _ (report_of w.program w.settings w.journal.items) c.tasks.ensures c.steps.ensures (ap length c.journal.ensures) (ap (λ (z : Totals). z.leaf) t) (ap (λ (z : Totals). z.putoff) t) (ap (λ (z : Totals). z.leaf_freed) t)
    (ap (λ (z : Totals). z.inner) t) (ap (λ (z : Totals). z.inner_freed) t) c.in_use.ensures (ap (λ (z : Totals). z.peak) t) c.held-held.ensures.objects c.held-held.ensures.words
    ∙ ap (λ (z : SharedValue). report_of z.program z.settings z.journal.items) c.self.view_is
