-- The heading, as its lines are read.
use Rattle.std.proofs.Common.{◌≡◌, ◌∙◌, ℕ, Bool, true, false, List, [], ◌∷◌, ◌++◌, Option, Some, None, IfSome, IfOk, Result, Ok, Err, refl, ap, sym, subst, arith, unwrap_or, codes, drop, if◌then◌else◌}
use Rattle.std.specs.Prelude.{reverse}
use Rattle.std.specs.Str.{bytes_eq}
use Rattle.std.proofs.lemmas.Slice.Eq.{bytes_eq-Decides}
use Rattle.pth_base.specs.Limits.{IsGreatestPriority}
use Rattle.pth_kernel.specs.Kernel.{KernelOf}
use Rattle.pth_line.specs.Script.{Sections}
use Rattle.pth_spelling.specs.Named.{named_in}
use Rattle.pth_script.specs.Follows.{IsReadTo, IsReadAs, below_heading}
use Rattle.pth_script.specs.TextRows.{TextRow, text_rows, is_version_2, range_said, ranges, is_first, is_second, is_heading, range_of, version_1_range}
use Rattle.pth_script.specs.declared.read.ReadErr.{ReadErr}
use Rattle.pth_script.specs.declared.heading.Heading.{Heading}
use Rattle.pth_script.specs.declared.heading.Heading.TheVariants as heading
use Rattle.pth_script.proofs.Runs.{one_more}

-- ---- its lines

one_below : (before rest : List TextRow) (row : TextRow) → reverse (row ∷ before) ++ rest ≡ reverse before ++ row ∷ rest
one_below before rest row = one_more before rest (reverse before ++ row ∷ rest) row refl

pub version_1_says : (row : TextRow) (rest : List TextRow) → is_version_2 row ≡ false → range_of (row ∷ rest) ≡ version_1_range
version_1_says row [] other = refl
version_1_says row (s ∷ rs) other = ap (λ b. if b then unwrap_or (range_said s.bytes) version_1_range else version_1_range) other

pub version_1_read : (before : List TextRow) (row : TextRow) → is_first before ≡ true → is_version_2 row ≡ false → IsReadTo (heading.Whole version_1_range) (row ∷ before)
version_1_read [] row first other = (other, λ rest. ap range_of (one_below [] rest row) ∙ version_1_says row rest other)
version_1_read (b ∷ bs) row first other = absurd (cc)

pub version_2_read : (before : List TextRow) (row : TextRow) → is_first before ≡ true → is_version_2 row ≡ true → IsReadTo heading.Version2 (row ∷ before)
version_2_read [] row first same = same
version_2_read (b ∷ bs) row first same = absurd (cc)

pub range_read : (before : List TextRow) (row : TextRow) (range : ℕ) → is_second before ≡ true → range_said row.bytes ≡ Some range → IsReadTo (heading.Whole range) (row ∷ before)
range_read [] row range second says = absurd (cc)
range_read (r ∷ []) row range second says = (
  refl,
  λ rest. ap range_of (one_below (r ∷ []) rest row ∙ one_below [] (row ∷ rest) r) ∙ (λ i. if second i then unwrap_or (says i) version_1_range else version_1_range),
)
range_read (r ∷ s ∷ rs) row range second says = absurd (cc)

pub first_is_heading : (before : List TextRow) → is_first before ≡ true → is_heading before ≡ true
first_is_heading [] first = refl
first_is_heading (b ∷ bs) first = absurd (cc)

pub second_is_heading : (before : List TextRow) → is_second before ≡ true → is_heading before ≡ true
second_is_heading [] second = refl
second_is_heading (r ∷ rs) second = second

-- a heading that is not whole wants a further line
pub wants_more : (h : Heading) (before : List TextRow) → ((range : ℕ) → h ≡ heading.Whole range → ⊥) → IsReadTo h before → is_heading before ≡ true
wants_more heading.Unread before never read = first_is_heading before read
wants_more heading.Version2 before never read = second_is_heading before read
wants_more (heading.Whole range) before never read = absurd (never range refl)

-- a text has one version
pub other_version : (bytes : List ℕ) → bytes_eq bytes (codes "pth 1") ≡ true → bytes_eq bytes (codes "pth 2") ≡ false
other_version bytes one = ap (λ b. bytes_eq b (codes "pth 2")) ((bytes_eq-Decides bytes (codes "pth 1")).0 one)

-- what stands below the heading, once its first line is read
pub left_of_version_1 : (row : TextRow) (rest : List TextRow) → is_version_2 row ≡ false → below_heading heading.Unread (row ∷ rest) ≡ rest
left_of_version_1 row rest other = ap (λ b. drop (if b then 2 else 1) (row ∷ rest)) other

pub left_of_version_2 : (row : TextRow) (rest : List TextRow) → is_version_2 row ≡ true → below_heading heading.Unread (row ∷ rest) ≡ below_heading heading.Version2 rest
left_of_version_2 row rest same = ap (λ b. drop (if b then 2 else 1) (row ∷ rest)) same

-- a further line changes nothing
pub below_it : (before : List TextRow) (row : TextRow) → is_heading before ≡ false → is_heading (row ∷ before) ≡ false
below_it [] row h = absurd (cc)
below_it (r ∷ rs) row h = refl

pub still_read : (before : List TextRow) (row : TextRow) (range : ℕ) → IsReadTo (heading.Whole range) before → IsReadTo (heading.Whole range) (row ∷ before)
still_read before row range h = (below_it before row h.0, λ rest. ap range_of (one_below before rest row) ∙ h.1 (row ∷ rest))

-- ---- its range

abbrev AreRanges : List (List ℕ × ℕ) → Type 0
AreRanges [] = Unit {0}
AreRanges (row ∷ rows) = IsGreatestPriority row.1 × AreRanges rows

if_range : (b : Bool) (k : ℕ) (o : Option ℕ) → IsGreatestPriority k → IfSome o IsGreatestPriority → IfSome (if b then Some k else o) IsGreatestPriority
if_range true k o h more = h
if_range false k o h more = more

named_range : (rows : List (List ℕ × ℕ)) (bytes : List ℕ) → AreRanges rows → IfSome (named_in rows bytes) IsGreatestPriority
unfolding named_in
named_range [] bytes all = tt
named_range (row ∷ rows) bytes all = if_range (bytes_eq bytes row.0) row.1 (named_in rows bytes) all.0 (named_range rows bytes all.1)

said_range : (bytes : List ℕ) → IfSome (range_said bytes) IsGreatestPriority
unfolding range_said
said_range bytes = named_range ranges bytes ((omega arith, omega arith), ((omega arith, omega arith), ((omega arith, omega arith), ((omega arith, omega arith), ((omega arith, omega arith), ((omega arith, omega arith), ((omega arith, omega arith), ((omega arith, omega arith), ((omega arith, omega arith), ((omega arith, omega arith), ((omega arith, omega arith), ((omega arith, omega arith), ((omega arith, omega arith), ((omega arith, omega arith), ((omega arith, omega arith), ((omega arith, omega arith), tt))))))))))))))))

or_first : (o : Option ℕ) → IfSome o IsGreatestPriority → IsGreatestPriority (unwrap_or o version_1_range)
or_first (Some k) h = h
or_first None h = (omega arith, omega arith)

pub range_within : (rows : List TextRow) → IsGreatestPriority (range_of rows)
range_within [] = (omega arith, omega arith)
range_within (r ∷ []) = (omega arith, omega arith)
range_within (r ∷ s ∷ rs) = by_version (is_version_2 r)
  where
    by_version : (b : Bool) → IsGreatestPriority (if b then unwrap_or (range_said s.bytes) version_1_range else version_1_range)
    by_version true = or_first (range_said s.bytes) (said_range s.bytes)
    by_version false = (omega arith, omega arith)

-- what is read has one
pub read_range : (text : List ℕ) (r : Result (Sections × KernelOf × ℕ) ReadErr) → IsReadAs text r → IfOk r (λ read. IsGreatestPriority read.2)
read_range text (Ok read) is = subst IsGreatestPriority (sym is.3) (range_within (text_rows text))
read_range text (Err e) is = tt
