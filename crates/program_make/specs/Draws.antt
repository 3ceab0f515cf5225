-- The random number generator, and the three numbers drawn from it for each function of a made program.
use Rattle.std.specs.Prelude.{ℕ, zero, suc, ◌+◌, ◌*◌, ◌%◌, ◌/◌}

-- the generator's value after one draw from x
abbrev pub next_value : ℕ → ℕ
next_value x = (x * 1664525 + 1013904223) % 4294967296

-- the number below a bound that a draw yields, where x is the value after it
abbrev pub drawn : ℕ → ℕ → ℕ
drawn x bound = (x / 65536) % bound

-- the value after the three draws of one function
abbrev pub after_three : ℕ → ℕ
after_three x = next_value (next_value (next_value x))

-- the value after the draws of the first k functions, from a seed
abbrev pub value_after : ℕ → ℕ → ℕ
value_after seed zero = seed
value_after seed (suc k) = after_three (value_after seed k)

-- each function adds less than this
abbrev pub amount_limit : ℕ
amount_limit = 1000

-- what is drawn for a function, from x: first the amount that it adds,
abbrev pub amount : ℕ → ℕ
amount x = drawn (next_value x) amount_limit

-- then the size of the objects that its loop makes,
abbrev pub garbage : ℕ → ℕ
garbage x = 1 + drawn (next_value (next_value x)) 60

-- then the number of these objects
abbrev pub rounds : ℕ → ℕ
rounds x = 1 + drawn (after_three x) 40
