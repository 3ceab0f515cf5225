use Rattle.part_scenes.proofs.Common.{sym, subst, ap, LeafHeapValue, FramesValue, start, FitsNow, nowhere}
use Rattle.part_scenes.proofs.RootPart.{first_part, root_now}
use Rattle.part_scenes.proofs.parts.bare_root.Goals as goal

pub returns-clause-fits : goal.returns-clause-fits
returns-clause-fits c = λ p is.
    let P : FramesValue → Type 0 = λ s. FitsNow p (record (first_part p c.new.result c.args.setup.leaf c.args.setup.fields) { frames = s }) (start p c.args.setup.fields) nowhere in
    rw c.none.ensures (subst P (sym is)
    (root_now p c.new.result c.args.setup.leaf c.args.setup.fields (ap (λ (h : LeafHeapValue). h.chunks) c.new.ensures) (ap (λ (h : LeafHeapValue). h.current) c.new.ensures) (ap (λ (h : LeafHeapValue). h.reserved) c.new.ensures)))
