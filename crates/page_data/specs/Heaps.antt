-- What is told of heaps in the page's data.
use Rattle.std.specs.Prelude.{ℕ, List, [], ◌∷◌, ◌++◌, codes}
use Rattle.std.specs.Fmt.{decimal}
use Rattle.hh_model.specs.declared.data.Name.{Name}
use Rattle.run_deltas.specs.News.{News, Nothing, Given, Taken, Laid, Snapped, Marked, Swept}
use Rattle.page_data.specs.Values.{name, more, between}
use Rattle.page_data.specs.Deltas.{more_number}

-- names, and lists of names, as a list
unfoldable pub names_list : List Name → List ℕ
names_list names = 91 ∷ (between name names ++ 93 ∷ [])

unfoldable pub chunks_list : List (List Name) → List ℕ
chunks_list chunks = 91 ∷ (between names_list chunks ++ 93 ∷ [])

-- a member that begins with a task
unfoldable pub about : List ℕ → ℕ → List ℕ → List ℕ
about head t parts = head ++ decimal t ++ parts ++ 93 ∷ []

abbrev pub news_text : News → List ℕ
news_text Nothing = []
news_text (Given t units) = about (codes ",\"give\":[") t (more_number units)
news_text (Taken t chunks keeps) = about (codes ",\"take\":[") t (more_number chunks ++ more (names_list keeps))
news_text (Laid t chunks large) = about (codes ",\"heap\":[") t (more (chunks_list chunks) ++ more (names_list large))
news_text (Snapped t names) = about (codes ",\"snap\":[") t (more (names_list names))
news_text (Marked t marked) = about (codes ",\"mark\":[") t (more_number marked)
news_text (Swept t chunks large) = about (codes ",\"heap\":[") t (more (chunks_list chunks) ++ more (names_list large))

-- what an entry tells of heaps, and its end
unfoldable pub closing : News → List ℕ
closing n = news_text n ++ 125 ∷ []
