use Rattle.race_report.proofs.Common.{◌∙◌, ◌∷◌, ◌++◌, List, [], ap, sym, Seen, has_alike, ways_of}
use Rattle.race_report.proofs.Alike.{pushed_ways}
use Rattle.race_report.proofs.firsts.Firsts.push.Goals as goal

pub invariant_of-self-2 : goal.invariant_of-self-2
invariant_of-self-2 c =
    c.in_ok-insert.ensures.keys
    ∙ pushed_ways c.self.inside.list.items c.args.seen c.self.inside.ways.keys c.way_of.result (ap (λ (us : List Seen). has_alike us c.args.seen.access) c.self.view_is ∙ c.requires) c.self.invariant c.way_of.ensures
    ∙ sym (ap ways_of (c.push_reserved.ensures.items ∙ ap (λ (us : List Seen). us ++ c.args.seen ∷ []) c.reserve.ensures.items))
