-- The text of a made program: its functions in the order of their numbers, then main.
use Rattle.std.specs.Prelude.{ℕ, zero, suc, ◌+◌, ◌*◌, ◌%◌, if◌then◌else◌, List, [], ◌++◌, codes, nat_lt, nat_eq}
use Rattle.std.specs.Fmt.{decimal}
use Rattle.program_make.specs.Draws.{value_after, amount, garbage, rounds}

-- the most functions of a made program
abbrev pub size_limit : ℕ
size_limit = 1000

-- a line that ends with a number
abbrev pub numbered : List ℕ → ℕ → List ℕ
numbered words n = words ++ decimal n ++ codes "\n"

-- the first lines of a function: its own cell, and its amount
abbrev pub first_lines : ℕ → ℕ → List ℕ
first_lines number added =
    numbered (codes "fn f") number
    ++ codes "movr r3 r0\nset i2 2\nset i3 0\nnewm r0 i2 i3\nmovr r2 r0\n"
    ++ numbered (codes "set i5 ") added

-- the line that forks two functions
abbrev pub par_line : ℕ → ℕ → List ℕ
par_line left right = codes "par f" ++ decimal left ++ codes " f" ++ decimal right ++ codes "\n"

-- the lines of a function with children: both are forked, and their sums are added
abbrev pub children_lines : ℕ → ℕ → List ℕ
children_lines left right =
    par_line left right
    ++ codes "set i4 0\ngetr r4 r2 i4\ngeti i6 r4 i4\nadd i5 i5 i6\nset i4 1\ngetr r4 r2 i4\nset i4 0\ngeti i6 r4 i4\nadd i5 i5 i6\n"

-- the last lines of a function: a loop makes objects; the last of them and the sum go into the parent's cell
abbrev pub last_lines : ℕ → ℕ → ℕ → List ℕ
last_lines size times side =
    codes "set i2 0\n"
    ++ numbered (codes "set i3 ") size
    ++ numbered (codes "set i7 ") times
    ++ codes "set i8 1\nlab a\nnewm r5 i2 i3\nputi r5 i2 i7\nsub i7 i7 i8\njz i7 b\njmp a\nlab b\n"
    ++ numbered (codes "set i4 ") side
    ++ codes "putr r3 i4 r5\nset i3 1\nnewm r6 i2 i3\nputi r6 i2 i5\nputr r3 i4 r6\ngetr r7 r3 i4\ngeti i0 r7 i2\nnil r0\nret\nend\n"

-- the children of function i are 2i + 1 and 2i + 2, if both are below the size
abbrev pub children_of : ℕ → ℕ → List ℕ
children_of size i = if nat_lt (2 * i + 2) size then children_lines (2 * i + 1) (2 * i + 2) else []

-- a function's field in its parent's cell: 1 if its number is even and not 0, else 0
abbrev pub side : ℕ → ℕ
side i = if nat_eq i 0 then 0 else if nat_eq (i % 2) 0 then 1 else 0

-- the text of function i in a program of this size, with the generator at x
abbrev pub function_text : ℕ → ℕ → ℕ → List ℕ
function_text size i x = first_lines i (amount x) ++ children_of size i ++ last_lines (garbage x) (rounds x) (side i)

-- the first k functions
abbrev pub first_functions : ℕ → ℕ → ℕ → List ℕ
first_functions seed size zero = []
first_functions seed size (suc k) = first_functions seed size k ++ function_text size k (value_after seed k)

-- main, which prints the sum of function 0
abbrev pub main_text : List ℕ
main_text = codes "fn main\nset i2 2\nset i3 0\nnewm r0 i2 i3\nmovr r9 r0\ncall f0\nset i4 0\ngetr r4 r9 i4\ngeti i6 r4 i4\nout i6\nret\nend\n"

-- the whole text
abbrev pub made_text : ℕ → ℕ → List ℕ
made_text seed size = first_functions seed size size ++ main_text
