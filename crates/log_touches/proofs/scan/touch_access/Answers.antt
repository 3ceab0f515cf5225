use Rattle.log_touches.proofs.Common.{◌++◌, ◌∷◌, ◌∙◌, [], List, All, inl, refl, ap, sym, subst, on_ok_weaker, read_in, Region, IsRegionCut, Touch, HasScanned}
use Rattle.log_touches.proofs.Texts.{region_of_access, touch_of_access}
use Rattle.log_touches.proofs.scan.touch_access.Goals as goal

pub touch-requires-clause-cut : goal.touch-requires-clause-cut
touch-requires-clause-cut g c =
    let e = region_of_access c.access_of.result c.in-Some.access c.args.act c.access_of.ensures.value c.in-Some.is in
    let all : All (IsRegionCut c.args.numbers.now) (c.in-Some.access.region ∷ []) = subst (λ (rs : List Region). All (IsRegionCut c.args.numbers.now) rs) e c.requires.cut in
    subst (λ (t : Touch). IsRegionCut c.args.numbers.now t.region) (sym c.touch_by.ensures)
    (read_in (IsRegionCut c.args.numbers.now) (c.in-Some.access.region ∷ []) c.in-Some.access.region (inl refl) all)

pub returns-in-Some-clause-ok : goal.returns-in-Some-clause-ok
returns-in-Some-clause-ok g c =
    let e = touch_of_access c.args.at.0 c.args.at.1 c.access_of.result c.in-Some.access c.args.act c.access_of.ensures.value c.in-Some.is in
    on_ok_weaker c.touch.result
    (λ scanned past seen. subst (λ (ts : List Touch). HasScanned (g.S.Strands.order c.args.order.now) c.args.numbers.now (past ++ ts) c.touch.new.self)
    (ap (λ (t : Touch). t ∷ []) c.touch_by.ensures ∙ sym e) (scanned past seen))
    c.touch.ensures.ok
