-- The object that a program reads: the input, a file, or a text that its words make.
use Rattle.std.specs.Prelude.{◌≡◌, ℕ, Bool, true, false, not, List, [], Option, Some, None, codes, if◌then◌else◌}
use Rattle.std.specs.Str.{bytes_eq}
use Rattle.pth_streams.specs.Faults.{Rose}
use Rattle.pth_streams.specs.Inputs.{Inputs}

-- ---- names

-- a name is that of a file: the input stands under no name and under `-`
abbrev pub is_file : Option (List ℕ) → Bool
is_file None = false
is_file (Some name) = not (bytes_eq name (codes "-"))

-- of the input and of the files, what is told of the one that is read
abbrev pub of_read : {T : Type 0} → (of_file : Bool) → (input files : T) → T
of_read of_file input files = if of_file then files else input

-- what stands under a name, if that is told
abbrev pub content_under : Option (List ℕ) → Inputs → Option (List ℕ)
content_under None ins = ins.left
content_under (Some name) ins = if bytes_eq name (codes "-") then ins.left else ins.held name

-- the count of faults of what stands under a name
abbrev pub faults_under : Option (List ℕ) → Inputs → ℕ
faults_under name ins = of_read (is_file name) ins.faults ins.file_faults

-- of the input and the files, the one that is not read is as it was
abbrev pub OtherStays : {S F : Type 0} → (of_file : Bool) → S → S → F → F → Type 0
OtherStays true input later files after = later ≡ input
OtherStays false input later files after = after ≡ files

-- ---- the object

pub data Object : Type 0 where
  -- nothing is read: the words are refused
  nothing : Object
  -- a text that the words ask for, which is made and not read
  made : List ℕ → Object
  -- what stands under a name
  named : Option (List ℕ) → Object

-- what it holds, if that is told
abbrev pub content_of : Object → Inputs → Option (List ℕ)
content_of nothing ins = Some []
content_of (made text) ins = Some text
content_of (named name) ins = content_under name ins

-- one fault of it was counted
abbrev pub Rises : Object → Inputs → Inputs → Type 0
Rises nothing old new = ⊥
Rises (made text) old new = ⊥
Rises (named name) old new = Rose (faults_under name old) (faults_under name new)

-- no fault of it was counted
abbrev pub Stands : Object → Inputs → Inputs → Type 0
Stands nothing old new = Unit {0}
Stands (made text) old new = Unit {0}
Stands (named name) old new = faults_under name new ≡ faults_under name old

-- of the input and the files, all that is not the object is as it was
abbrev pub OthersUntouched : {S F : Type 0} → Object → S → S → F → F → Type 0
OthersUntouched nothing input later files after = (later ≡ input) × (after ≡ files)
OthersUntouched (made text) input later files after = (later ≡ input) × (after ≡ files)
OthersUntouched (named name) input later files after = OtherStays (is_file name) input later files after
