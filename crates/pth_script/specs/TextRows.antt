-- A text as a list of lines, and its heading.
use Rattle.std.specs.Prelude.{ℕ, ◌+◌, Bool, true, false, ◌||◌, List, [], ◌∷◌, length, Option, unwrap_or, ◌==◌, if◌then◌else◌, slice_index, codes}
use Rattle.std.specs.Str.{bytes_eq}
use Rattle.pth_text.specs.Bytes.{code}
use Rattle.pth_text.specs.LineWords.{words_of}
use Rattle.pth_spelling.specs.Named.{named_in}

-- a line without its LF, and whether it has one
pub record TextRow : Type 0 where
  pub bytes : List ℕ
  pub ended : Bool

-- a byte before the first of some lines
abbrev pub onto_first : ℕ → List TextRow → List TextRow
onto_first b [] = record { bytes = b ∷ []; ended = false } ∷ []
onto_first b (r ∷ rs) = record { bytes = b ∷ r.bytes; ended = r.ended } ∷ rs

-- the lines of a text
unfoldable pub text_rows : List ℕ → List TextRow
text_rows [] = []
text_rows (b ∷ bs) = if b == code "\n" then record { bytes = []; ended = true } ∷ text_rows bs else onto_first b (text_rows bs)

-- how many bytes a line has, with its LF
abbrev pub row_size : TextRow → ℕ
row_size r = length r.bytes + (if r.ended then 1 else 0)

-- how many bytes lines have
unfoldable pub size_of : List TextRow → ℕ
size_of [] = 0
size_of (r ∷ rs) = row_size r + size_of rs

-- a line that begins with `#`
abbrev pub is_comment : List ℕ → Bool
is_comment bytes = slice_index bytes 0 == code "#"

-- ---- the heading: the line `pth 1`, or the lines `pth 2` and `range K`, by which base priorities go from -K to K

-- the first line of a text in version 1, and in version 2
abbrev pub is_version_1 : TextRow → Bool
is_version_1 row = bytes_eq row.bytes (codes "pth 1")

abbrev pub is_version_2 : TextRow → Bool
is_version_2 row = bytes_eq row.bytes (codes "pth 2")

-- the lines of ranges, with the K of each
abbrev pub ranges : List (List ℕ × ℕ)
ranges =
    (codes "range 5", 5)
    ∷ (codes "range 6", 6)
    ∷ (codes "range 7", 7)
    ∷ (codes "range 8", 8)
    ∷ (codes "range 9", 9)
    ∷ (codes "range 10", 10)
    ∷ (codes "range 11", 11)
    ∷ (codes "range 12", 12)
    ∷ (codes "range 13", 13)
    ∷ (codes "range 14", 14)
    ∷ (codes "range 15", 15)
    ∷ (codes "range 16", 16)
    ∷ (codes "range 17", 17)
    ∷ (codes "range 18", 18)
    ∷ (codes "range 19", 19)
    ∷ (codes "range 20", 20)
    ∷ []

-- the K of a line
unfoldable pub range_said : List ℕ → Option ℕ
range_said bytes = named_in ranges bytes

-- the K of version 1
abbrev pub version_1_range : ℕ
version_1_range = 5

-- below these lines, the nearest first, stands the first line
abbrev pub is_first : List TextRow → Bool
is_first [] = true
is_first (r ∷ rs) = false

-- or the second line of a text in version 2
abbrev pub is_second : List TextRow → Bool
is_second [] = false
is_second (r ∷ []) = is_version_2 r
is_second (r ∷ s ∷ rs) = false

-- or one of the two: a line of the heading
abbrev pub is_heading : List TextRow → Bool
is_heading before = is_first before || is_second before

-- how many lines the heading has
abbrev pub heading_length : List TextRow → ℕ
heading_length [] = 1
heading_length (r ∷ rs) = if is_version_2 r then 2 else 1

-- the K that the heading says
abbrev pub range_of : List TextRow → ℕ
range_of [] = version_1_range
range_of (r ∷ []) = version_1_range
range_of (r ∷ s ∷ rs) = if is_version_2 r then unwrap_or (range_said s.bytes) version_1_range else version_1_range

-- ---- what stands above

-- the lines above a line, the nearest first, in words: without comments, and without the heading
unfoldable pub above : List TextRow → List (List (List ℕ))
above [] = []
above (r ∷ rs) = if is_heading rs || is_comment r.bytes then above rs else words_of r.bytes ∷ above rs
