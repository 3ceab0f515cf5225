-- What the words after `page` ask for.
use Rattle.std.specs.Prelude.{◌+◌, ℕ, List, [], ◌∷◌, ◌++◌, Option, Some, None, codes, drop, take}
use Rattle.std.specs.List.{position_from}
use Rattle.std.specs.Str.{bytes_eq}
use Rattle.clap.specs.Words.{Text}
use Rattle.command_line.specs.CommandLine.{command_line}
use Rattle.command_line.specs.declared.line.CommandLine.{CommandLine}
use Rattle.command_line.specs.declared.line.CommandLine.TheVariants.{Races}
use Rattle.view_arguments.specs.declared.line.Picture.TheVariants.{Page}
use Rattle.view_arguments.specs.declared.line.ViewCall.{ViewCall}
use Rattle.view_arguments.specs.declared.line.ViewCall.TheVariants.{Of}

-- the index of the first word `--title` among those from one on
abbrev pub title_from : ℕ → List Text → Option ℕ
title_from at words = position_from (λ w. bytes_eq w (codes "--title")) at words

abbrev pub title_at : List Text → Option ℕ
title_at words = title_from 0 words

-- apart from its title a page takes what `races` of hheap takes
abbrev pub page_in : Option Text → Option CommandLine → Option ViewCall
page_in title (Some (Races file settings)) = Some (Of file (Page title settings))
page_in title _ = None

-- a page with this title, by the words before `--title` and those after the title
abbrev pub page_of : Option Text → List Text → List Text → Option ViewCall
page_of title before behind = page_in title (command_line (codes "races" ∷ (before ++ behind)))

-- the first word after `--title` is the title
abbrev pub titled : List Text → List Text → Option ViewCall
titled before [] = None
titled before (title ∷ behind) = page_of (Some title) before behind

abbrev pub page_by : Option ℕ → List Text → Option ViewCall
page_by None words = page_of None words []
page_by (Some at) words = titled (take at words) (drop (at + 1) words)

abbrev pub page_line : List Text → Option ViewCall
page_line words = page_by (title_at words) words
