use Rattle.race_report.proofs.Common.{◌≡◌, ◌∙◌, Some, ap, sym, arith, option_copied, object_at}
use Rattle.race_report.proofs.access.puti_access.Goals as goal

pub field_index-requires : goal.field_index-requires
field_index-requires c =
    let e : object_at c.args.state.now.store c.in_ok-name.name ≡ Some c.in_ok-object.object.now = sym c.object.ensures ∙ ap option_copied c.in_ok-object.was in
    let r = c.requires c.in_ok-name.name c.in_ok-object.object.now e in
    omega (arith, r.1, c.len.ensures)
