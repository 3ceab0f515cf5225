-- When a line is parsed as it stands.
use Rattle.std.specs.Prelude.{◌≡◌, ℕ, ◌+◌, ◌≤◌, length}
use Rattle.text_faults.specs.declared.parsed.Parsed.{Parsed}
use Rattle.text_faults.specs.Placed.{placed_of, placed_from, placed_words}
use Rattle.text_faults.specs.Lines.{head_of, form_of, first_placed_word, behind_first}

pub record IsParse (p : Parsed) : Type 0 where
  pub head : p.head ≡ head_of (placed_words p.line.now)
  pub first : placed_of p.first ≡ first_placed_word (placed_words p.line.now)
  pub form : p.form.now ≡ form_of (placed_words p.line.now)
  pub rest : placed_from p.line.now p.rest ≡ behind_first (placed_words p.line.now)
  pub within : p.rest ≤ length p.line.now
  pub sized : p.first.column + length p.first.word.now ≤ length p.line.now + 1
