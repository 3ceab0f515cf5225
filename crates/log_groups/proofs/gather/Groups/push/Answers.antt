use Rattle.log_groups.proofs.Common.{◌∙◌, ◌∷◌, ◌++◌, List, [], ap, sym, refl, position, Group, same_key, keys_of}
use Rattle.log_groups.proofs.Gathering.{pushed_keys}
use Rattle.log_groups.proofs.gather.Groups.push.Goals as goal

pub invariant_of-self-2 : goal.invariant_of-self-2
invariant_of-self-2 c =
    c.in_ok-insert.ensures.keys
    ∙ pushed_keys c.self.inside.list.items c.args.item c.self.inside.keys.keys c.args.item.key
    (ap (λ (gs : List Group). position (same_key c.args.item.key) (keys_of gs)) c.self.view_is ∙ c.requires) c.self.invariant refl
    ∙ sym (ap keys_of (c.push_reserved.ensures.items
    ∙ ap (λ (gs : List Group). gs ++ c.group_of.result ∷ []) c.reserve.ensures.items
    ∙ ap (λ (g : Group). c.self.inside.list.items ++ g ∷ []) c.group_of.ensures))
