use Rattle.log_told.proofs.Common.{◌∙◌, ℕ, List, ap, map, subst, sym, Contains, IsStrictlyIncreasing, act_line}
use Rattle.log_told.proofs.table.LineTable.new.Goals as goal

pub returns : goal.returns
returns c = record {
  ascending = subst (λ (xs : List ℕ). IsStrictlyIncreasing xs) (sym c.from_vec.ensures) c.each_once-numbers.ensures.ascending;
  lines = c.in_ok-lines.ensures ∙ ap (map (act_line c.args.texts.now)) (c.as_slice.ensures.value ∙ sym c.from_vec.ensures);
  has = λ n h. subst (λ (xs : List ℕ). Contains xs n) (sym c.from_vec.ensures) (c.each_once-numbers.ensures.kept n h);
}
