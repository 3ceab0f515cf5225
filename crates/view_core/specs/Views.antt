-- Each call: what it reads, and what it shows of that.
use Rattle.std.specs.Prelude.{ℕ, List, Option, Some, None, codes}
use Rattle.view_core.specs.Common.{most_bytes, Words, RepliesRefusal, Picture, Heaps, Run, Page, Faults, ViewCall, Usage, Of, Done, Reply, Reads, ReadsNothing, ReadsUpTo, Says}
use Rattle.view_core.specs.Page.{ShowsPage, title_of}
use Rattle.view_core.specs.Faults.{ShowsFaults}
use Rattle.view_core.specs.Shown.{ShowsHeaps, ShowsRun}

-- words that ask for nothing read nothing, nor does the usage
abbrev pub reads : Option ViewCall → Reads
reads (Some (Of file picture)) = ReadsUpTo most_bytes file
reads (Some Usage) = ReadsNothing
reads None = ReadsNothing

abbrev pub usage : List ℕ
usage = codes "usage: hhview heaps [FILE] [--path T] [--limit N]\n       hhview page [FILE] [OPTIONS] [--title WORDS]\n       hhview timeline [FILE] [OPTIONS]\n       hhview tasks [FILE] [OPTIONS]\n       hhview schedules [FILE] [OPTIONS]\n       hhview races [FILE] [OPTIONS]\n       hhview log [FILE] [OPTIONS]\n       hhview faults [FILE] [--json]\nOPTIONS are those of hheap replay: --workers N, --fuel N, --chunks N, --leaf N, --inner N\n"

-- of the file that is named, if one is
abbrev pub ShowsPicture : Option (List ℕ) → Picture → List ℕ → Reply → Type 0
ShowsPicture file (Heaps path limit) input = ShowsHeaps path limit input
ShowsPicture file (Run view settings) input = ShowsRun view settings input
ShowsPicture file (Page title settings) input = ShowsPage (title_of title file) settings input
ShowsPicture file (Faults json) input = ShowsFaults json input

abbrev pub ShowsView : Option ViewCall → List ℕ → Reply → Type 0
ShowsView (Some (Of file picture)) input = ShowsPicture file picture input
ShowsView (Some Usage) input = Says Done usage
ShowsView None input = RepliesRefusal Words
