-- THE FAULTS OF A TEXT, line by line.
use Rattle.std.specs.Prelude.{ℕ, ◌+◌, Bool, true, false, List, [], ◌∷◌, ◌++◌, map}
use Rattle.text_lines.specs.Lines.{is_last, lines_of}
use Rattle.program_reader.specs.Around.{noted_if, no_labels, labels_onto, outline_of}
use Rattle.program_reader.specs.declared.head.Head.{Head}
use Rattle.program_reader.specs.declared.head.Head.TheVariants.{Begin, End, Label, Order}
use Rattle.program_reader.specs.declared.sense.Outline.{Outline}
use Rattle.program_reader.specs.declared.cause.Cause.{Cause}
use Rattle.program_reader.specs.declared.cause.Cause.TheVariants as reads
use Rattle.text_faults.specs.declared.fault.Fault.{Fault}
use Rattle.text_faults.specs.declared.fault.Wrong.{Wrong}
use Rattle.text_faults.specs.declared.fault.Wrong.TheVariants.{NotUtf8, OutsideFunction, UnknownWord, Missing, NotOne, Extra, InsideFunction, OpenFunction, SecondFunction, SecondLabel, UnknownFunction, UnknownLabel, NoMain, ManyFunctions, ManyInstructions}
use Rattle.text_faults.specs.declared.walk.LinesAbove.{LinesAbove}
use Rattle.text_faults.specs.Placed.{PlacedWord, placed_words}
use Rattle.text_faults.specs.Lines.{head_of, behind_first, lone_name}
use Rattle.text_faults.specs.WordFault.{Wronged, wrongs_on}
use Rattle.text_faults.specs.Near.{meant}

-- the cause that the reader of programs gives
abbrev pub cause_of_wrong : Wrong → Cause
cause_of_wrong NotUtf8 = reads.NotUtf8
cause_of_wrong OutsideFunction = reads.Word
cause_of_wrong UnknownWord = reads.Word
cause_of_wrong (Missing k) = reads.Operand
cause_of_wrong (NotOne k) = reads.Operand
cause_of_wrong Extra = reads.Operand
cause_of_wrong InsideFunction = reads.NoEnd
cause_of_wrong OpenFunction = reads.NoEnd
cause_of_wrong (SecondFunction n) = reads.TwoNames
cause_of_wrong (SecondLabel n) = reads.TwoNames
cause_of_wrong UnknownFunction = reads.NoName
cause_of_wrong UnknownLabel = reads.NoLabel
cause_of_wrong NoMain = reads.NoMain
cause_of_wrong ManyFunctions = reads.TooMany
cause_of_wrong ManyInstructions = reads.TooMany

abbrev pub fault_of : LinesAbove → ℕ → Wronged → Fault
fault_of w number f = record { line = number; column = f.column; word = f.word; wrong = f.wrong; near = meant w f.wrong f.word }

-- the faults of a line
abbrev pub faults_on : LinesAbove → ℕ → Bool → List ℕ → List Fault
faults_on w number last line = map (fault_of w number) (wrongs_on w last line)

-- WHAT THE LINES ABOVE SAY: whether a function is open; its labels, and those of them above; the functions above; how
-- many functions and instructions stand above. A line counts whatever faults it has

abbrev pub walked_by : LinesAbove → ℕ → Head → List PlacedWord → List (List ℕ) → LinesAbove
walked_by w number Begin ps below = record w {
  inside = true;
  begun = w.begun + 1;
  named = noted_if w.named (lone_name ps) number;
  labels = record { above = []; all = labels_onto no_labels below };
}
walked_by w number End ps below = record w { inside = false }
walked_by w number Label ps below = record w { labels = record w.labels { above = noted_if w.labels.above (lone_name ps) number } }
walked_by w number (Order v) ps below = record w { orders = w.orders + 1 }
walked_by w number _ ps below = w

abbrev pub walked : LinesAbove → ℕ → List ℕ → List (List ℕ) → LinesAbove
walked w number line below = walked_by w number (head_of (placed_words line)) (behind_first (placed_words line)) below

abbrev pub walk_of : Outline → LinesAbove
walk_of o = record { inside = false; begun = 0; orders = 0; outline = o; named = []; labels = record { above = []; all = no_labels } }

-- the faults of the lines from this number on
abbrev pub faults_from : LinesAbove → ℕ → List (List ℕ) → List Fault
faults_from w number [] = []
faults_from w number (l ∷ ls) = faults_on w number (is_last ls) l ++ faults_from (walked w number l ls) (number + 1) ls

-- the faults of a text, in the order of its lines
abbrev pub faults_of : List ℕ → List Fault
faults_of text = faults_from (walk_of (outline_of text)) 1 (lines_of text)
