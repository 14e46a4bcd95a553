-- The limits of a script's text. `pth_kernel` has that of the `at` lines.
use Rattle.std.specs.Prelude.{ℕ}

-- the bytes that an input may have, and a line without its LF
unfoldable pub text_limit : ℕ
text_limit = 16777216

unfoldable pub line_limit : ℕ
line_limit = 8192

-- the handlers, the checks and the bodies that a script may have
abbrev pub handler_limit : ℕ
handler_limit = 256

abbrev pub check_limit : ℕ
check_limit = 256

abbrev pub body_limit : ℕ
body_limit = 256

-- the lines that a handler may have, and a body, without its `end`
abbrev pub act_limit : ℕ
act_limit = 64

abbrev pub body_line_limit : ℕ
body_line_limit = 4096
