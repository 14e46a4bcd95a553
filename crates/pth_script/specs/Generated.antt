-- A workload: main spawns so many threads, with priorities that follow a rule, and each of them takes one mutex, yields, and naps.
use Rattle.std.specs.Prelude.{ℕ, zero, suc, ◌+◌, ◌*◌, ◌/◌, ◌%◌, ℤ, pos, ◌-ℤ◌, List, [], ◌++◌, codes, decimal}
use Rattle.std.specs.Fmt.{signed_decimal}

-- the numbers by which the priorities go: the first is how many threads there are
unfoldable pub number_after : ℕ → ℕ → ℕ
number_after first zero = first
number_after first (suc i) = (number_after first i * 1103515245 + 12345) % 2147483648

-- the priority that a number stands for, from -5 to 5
abbrev pub priority_of : ℕ → ℤ
priority_of number = pos (number / 65536 % 11) -ℤ pos 5

-- the lines that spawn the i-th thread, with its number as its argument
abbrev pub spawned_text : ℕ → ℕ → List ℕ
spawned_text number i = codes "attr_set a1 prio " ++ signed_decimal (priority_of number) ++ codes "\nspawn 1 " ++ decimal i ++ codes " a1\n"

-- those of the first i threads
unfoldable pub spawned_texts : ℕ → ℕ → List ℕ
spawned_texts n zero = []
spawned_texts n (suc i) = spawned_texts n i ++ spawned_text (number_after n (suc i)) (suc i)

-- what main does before it spawns them
abbrev pub head_text : List ℕ
head_text = codes "pth 1\nthread 0\nmutex_init 0\na1 = attr_new\n"

-- and what each of them does
abbrev pub tail_text : List ℕ
tail_text = codes "end\nthread 1\nmutex_acquire 0 0 0\nyield 0\nmutex_release 0\nnap a0\nadd v0 1\nend\n"

-- the script with n threads beside main
unfoldable pub generated : ℕ → List ℕ
generated n = head_text ++ spawned_texts n n ++ tail_text
