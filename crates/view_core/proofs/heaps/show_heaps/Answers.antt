use Rattle.view_core.proofs.Common.{ℕ, List, sym, subst, Option, ImageFault, Done, Says, ShowsImage}
use Rattle.view_core.proofs.heaps.show_heaps.Goals as goal

pub returns-in-Ok : goal.returns-in-Ok
returns-in-Ok c =
    subst (λ (o : Option ImageFault). ShowsImage c.args.path c.args.limit c.args.input.now o c.of_bytes.result) (sym c.in-Ok.ensures.sound)
    (subst (λ (x : List ℕ). Says Done x c.of_bytes.result) c.in-Ok.ensures.graph c.of_bytes.ensures)
