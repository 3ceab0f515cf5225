use Rattle.mark_sweep_gc.proofs.Common.{◌≡◌, List, All, length, drop, true, sym, ap, subst, arith, rules, vec_len, Addr, contains_from_in, in_from_contains, all_from, MarkingValue, has_address}
use Rattle.mark_sweep_gc.proofs.Addresses as addresses
use Rattle.mark_sweep_gc.proofs.Finding as finding
use Rattle.mark_sweep_gc.proofs.Marked as marked
use Rattle.mark_sweep_gc.proofs.marking.Marking.ready.Goals as goal

pub returns-then-self-len-clause-ready : goal.returns-then-self-len-clause-ready
returns-then-self-len-clause-ready c = λ f h held own s k.
    let m : MarkingValue = c.args.self.now in
    let v = c.self.view_is in
    let is_marked : c.self.inside.marked ≡ m.marked = ap (λ (n : MarkingValue). n.marked) v in
    let is_found : length c.self.inside.found.items ≡ length m.found = ap (λ (n : MarkingValue). length n.found) v in
    let is_len : vec_len c.self.inside.found ≡ length c.self.inside.found.items = search rules in
    let n : c.len.result ≡ vec_len c.self.inside.found = c.len.ensures in
    let t : c.self.inside.marked ≡ c.len.result = c.if-self-len.true in
    let all_marked : m.marked ≡ length m.found = omega arith in
    let rest = finding.rest_is c.args.kept.now c.self.inside.followed m.followed (ap (λ (n : MarkingValue). n.followed) v) in
    let e = c.has_all.ensures in (
      λ r. marked.nothing_left f c.args.kept.now m k all_marked (λ a d. contains_from_in m.found a (addresses.has_in m.found a (finding.held_in (λ a. has_address m.found a ≡ true) (drop m.followed c.args.kept.now) a (subst (λ (xs : List Addr). All (λ a. has_address m.found a ≡ true) xs) rest (e.0 r)) d))),
      λ all. e.1 (subst (λ (xs : List Addr). All (λ a. has_address m.found a ≡ true) xs) (sym rest) (all_from (λ a. has_address m.found a ≡ true) (drop m.followed c.args.kept.now)
          (λ x i. addresses.in_has m.found x (in_from_contains m.found x (marked.all_kept_found f c.args.kept.now h m s held all x (contains_from_in c.args.kept.now x (marked.in_drop m.followed c.args.kept.now x i))))))),
    )

pub returns-else-self-len-clause-ready : goal.returns-else-self-len-clause-ready
returns-else-self-len-clause-ready c = λ f h held own s k.
    let m : MarkingValue = c.args.self.now in
    let v = c.self.view_is in
    let is_marked : c.self.inside.marked ≡ m.marked = ap (λ (n : MarkingValue). n.marked) v in
    let is_found : length c.self.inside.found.items ≡ length m.found = ap (λ (n : MarkingValue). length n.found) v in
    let is_len : vec_len c.self.inside.found ≡ length c.self.inside.found.items = search rules in
    let n : c.len.result ≡ vec_len c.self.inside.found = c.len.ensures in
    let t = c.if-self-len.false in (
      λ r. let same : c.self.inside.marked ≡ c.len.result = grind arith in absurd (grind arith),
      λ all. let e : m.marked ≡ length m.found = marked.all_found_marked f c.args.kept.now h m own k all in let same : c.self.inside.marked ≡ c.len.result = omega arith in absurd (grind arith),
    )

pub returns-then-self-len-clause-done : goal.returns-then-self-len-clause-done
returns-then-self-len-clause-done c = λ r.
    let m : MarkingValue = c.args.self.now in
    let v = c.self.view_is in
    let is_marked : c.self.inside.marked ≡ m.marked = ap (λ (n : MarkingValue). n.marked) v in
    let is_found : length c.self.inside.found.items ≡ length m.found = ap (λ (n : MarkingValue). length n.found) v in
    let is_len : vec_len c.self.inside.found ≡ length c.self.inside.found.items = search rules in
    let n : c.len.result ≡ vec_len c.self.inside.found = c.len.ensures in
    let t : c.self.inside.marked ≡ c.len.result = c.if-self-len.true in
    omega arith
