use Rattle.std.proofs.Common.{◌≡◌, false, IfNone, Option, Some, None, List, [], ap, sym, ◌∙◌}
use Rattle.remembered_set.specs.declared.remembered.RefField.{RefField}
use Rattle.write_barrier.specs.Stored.{Content, content_of}
use Rattle.write_barrier.proofs.sets.SetOf.remembering.Goals as goal

if_none : {A : Type 0} (o : Option A) (P : Type 0) → o ≡ None → IfNone o P → P
if_none None P e h = h
if_none (Some x) P e h = absurd (cc)

pub returns-in-None : goal.returns-in-None
returns-in-None c =
    ap content_of c.new.ensures ∙ ap (λ (xs : List RefField). let z : Content = record { sources = xs; kept = []; keeps = false } in z) (sym (if_none c.args.block (c.args.remembered.sources ≡ []) c.in-None.is c.requires))
