-- The object that the words ask for, and how much of it is read.
use Rattle.std.specs.Prelude.{◌≡◌, ◌+◌, ℕ, List, Option, Some, None, IfSome, Result, Ok, Err, drop, take}
use Rattle.pth_command.specs.CommandLine.{Asked}
use Rattle.pth_filter.specs.Objects.{Object, Rises, Stands, content_of, content_under, faults_under, is_file, made, named, nothing, of_read}
use Rattle.pth_script.specs.Generated.{generated}
use Rattle.pth_script.specs.Limits.{text_limit}
use Rattle.pth_streams.specs.Inputs.{Inputs}
use Rattle.pth_streams.specs.Scene.{Scene}
use Rattle.pth_streams.specs.declared.source.ReadFault.{ReadFault}
use Rattle.pth_streams.specs.declared.source.ReadFault.TheVariants as read

-- the bytes of an input as far as they are read: to the byte after those that it may have
abbrev pub cut : List ℕ → List ℕ
cut bytes = take (text_limit + 1) bytes

-- ---- the object read

-- the script of a workload with so many threads, which is made, or what stands under the name
abbrev pub object_of : Option ℕ → Option (List ℕ) → Object
object_of None name = named name
object_of (Some threads) name = made (generated threads)

-- the object that the words ask for; nothing is read if they are refused
abbrev pub asked_object : Option Asked → Object
asked_object None = nothing
asked_object (Some asked) = object_of asked.generate asked.file

-- what it holds, if that is told
abbrev pub content : Option Asked → Scene → Option (List ℕ)
content asked s = content_of (asked_object asked) s.ins

-- what was read of these bytes is lost, if they are told: all, or as much as the limit and a byte
abbrev pub LosesRead : Option (List ℕ) → Option (List ℕ) → Type 0
LosesRead old new = IfSome old (λ bytes. new ≡ Some (drop (text_limit + 1) bytes))

-- what is left of what stands under a name
abbrev pub left_under : Option (List ℕ) → Inputs → Option (List ℕ)
left_under name ins = of_read (is_file name) ins.left ins.file_left

-- it lost what was read of it, and no read failed
abbrev pub ObjectRead : Object → Inputs → Inputs → Type 0
ObjectRead nothing old new = Unit {0}
ObjectRead (made text) old new = Unit {0}
ObjectRead (named name) old new = LosesRead (content_under name old) (left_under name new) × (faults_under name new ≡ faults_under name old)

-- its count rises by one if a read failed, and stands still otherwise
abbrev pub ObjectCounts : {T : Type 0} → Object → Inputs → Inputs → Result T ReadFault → Type 0
ObjectCounts object old new (Ok x) = Stands object old new
ObjectCounts object old new (Err read.Failed) = Rises object old new
ObjectCounts object old new (Err read.OutOfMemory) = Stands object old new
