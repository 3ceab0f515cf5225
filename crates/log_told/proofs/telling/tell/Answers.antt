use Rattle.log_told.proofs.Common.{◌∙◌, ℕ, List, ap, map, subst, sym, All, Finding, told_use, all_lines, IsTable, IsToldUse}
use Rattle.log_told.proofs.Tables.{races_told, reads_told, uses_told, stale_told}
use Rattle.log_told.proofs.telling.tell.Goals as goal

pub returns : goal.returns
returns c =
    let texts = c.args.texts.now in
    let races = c.args.races.now in
    let found = c.args.findings.now in
    let wanted = all_lines races found in
    let is = subst (λ (ns : List ℕ). IsTable texts ns c.in_ok-table.table) c.in_ok-wanted.ensures c.in_ok-table.ensures in
    let all = λ (fs : List Finding). All (IsToldUse wanted) fs in
    let r = c.in_ok-races.ensures texts wanted is (races_told races found) in
    let a = c.in_ok-findings.ensures texts wanted is (subst all (sym c.as_slice.ensures) (reads_told races found)) ∙ ap (map (told_use texts)) c.as_slice.ensures in
    let b = c.in_ok-findings-2.ensures texts wanted is (subst all (sym c.as_slice-2.ensures) (uses_told races found)) ∙ ap (map (told_use texts)) c.as_slice-2.ensures in
    let d = c.in_ok-findings-3.ensures texts wanted is (subst all (sym c.as_slice-3.ensures) (stale_told races found)) ∙ ap (map (told_use texts)) c.as_slice-3.ensures in
    λ i. record { races = r i; entangled_reads = a i; entangled_uses = b i; stale_uses = d i }
