-- The words that must follow the first word of a line of a kernel.
use Rattle.std.specs.Prelude.{ℕ, List, [], ◌∷◌, Option, Some, None}
use Rattle.pth_kernel.specs.Trace.{latest_time, most_room, most_clock}
use Rattle.pth_spelling.specs.Keywords.{entry_word}
use Rattle.pth_spelling.specs.declared.keyword.EntryWord.{EntryWord}
use Rattle.pth_spelling.specs.declared.keyword.EntryWord.TheVariants as entries
use Rattle.pth_spelling.specs.declared.keyword.Keyword.{Keyword}
use Rattle.pth_spelling.specs.declared.keyword.Keyword.TheVariants as key
use Rattle.pth_spelling.specs.declared.form.Form.{Form}
use Rattle.pth_spelling.specs.declared.form.Form.TheVariants as form
use Rattle.pth_grammar.specs.declared.kernel_part.KernelPart.{KernelPart}
use Rattle.pth_grammar.specs.declared.kernel_part.KernelPart.TheVariants as part

-- how many microseconds a turn takes
abbrev pub clock_form : Form
clock_form = form.Within 0 most_clock

-- the time of a stamp, in microseconds
abbrev pub time_form : Form
time_form = form.Within 0 latest_time

-- for how many bytes more there is room
abbrev pub room_form : Form
room_form = form.Within 1 most_room

-- some entries have a word more
abbrev pub entry_forms : Option EntryWord → List Form
entry_forms (Some entries.In) = time_form ∷ form.Descriptor ∷ form.Entry ∷ form.Pairs ∷ []
entry_forms (Some entries.Room) = time_form ∷ form.Descriptor ∷ form.Entry ∷ room_form ∷ []
entry_forms (Some entries.Conn) = time_form ∷ form.Descriptor ∷ form.Entry ∷ form.Descriptor ∷ []
entry_forms _ = time_form ∷ form.Descriptor ∷ form.Entry ∷ []

abbrev pub at_forms : List (List ℕ) → List Form
at_forms [] = time_form ∷ form.Descriptor ∷ form.Entry ∷ []
at_forms (t ∷ []) = time_form ∷ form.Descriptor ∷ form.Entry ∷ []
at_forms (t ∷ f ∷ []) = time_form ∷ form.Descriptor ∷ form.Entry ∷ []
at_forms (t ∷ f ∷ e ∷ ws) = entry_forms (entry_word e)

-- none if the word may not begin a line of the part: the clock comes first, then what is open, then what comes
abbrev pub kernel_forms : KernelPart → Keyword → List (List ℕ) → Option (List Form)
kernel_forms part.Head key.Clock ws = Some (clock_form ∷ [])
kernel_forms part.Head key.Open ws = Some (form.Descriptor ∷ [])
kernel_forms part.Head key.At ws = Some (at_forms ws)
kernel_forms part.Opens key.Open ws = Some (form.Descriptor ∷ [])
kernel_forms part.Opens key.At ws = Some (at_forms ws)
kernel_forms part.Entries key.At ws = Some (at_forms ws)
kernel_forms _ _ ws = None
