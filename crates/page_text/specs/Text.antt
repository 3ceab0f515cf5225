-- The page's own text: scripts/page_text.py makes this file of page/page.html.
use Rattle.std.specs.Prelude.{ℕ, List, ◌++◌}
use Rattle.page_text.specs.declared.text.TheConstants.{BEFORE_1, BEFORE_2, BEFORE_3, BEFORE_4, AFTER_1, AFTER_2, AFTER_3, AFTER_4, AFTER_5, AFTER_6, AFTER_7, AFTER_8}

unfoldable pub before_group_1_1 : List ℕ
before_group_1_1 = BEFORE_1.now ++ BEFORE_2.now ++ BEFORE_3.now

unfoldable pub before_group_1_2 : List ℕ
before_group_1_2 = BEFORE_4.now

-- what stands before the data of a run
unfoldable pub before : List ℕ
before = before_group_1_1 ++ before_group_1_2

unfoldable pub after_group_1_1 : List ℕ
after_group_1_1 = AFTER_1.now ++ AFTER_2.now ++ AFTER_3.now

unfoldable pub after_group_1_2 : List ℕ
after_group_1_2 = AFTER_4.now ++ AFTER_5.now ++ AFTER_6.now

unfoldable pub after_group_1_3 : List ℕ
after_group_1_3 = AFTER_7.now ++ AFTER_8.now

-- what stands after the data of a run
unfoldable pub after : List ℕ
after = after_group_1_1 ++ after_group_1_2 ++ after_group_1_3
