-- The forms of the words that must follow the first word of a line.
use Rattle.std.specs.Prelude.{ℕ, List, [], ◌∷◌, ◌++◌, Option, Some, None}
use Rattle.pth_base.specs.declared.attr.AttrField.{AttrField}
use Rattle.pth_base.specs.declared.attr.AttrField.TheVariants as field
use Rattle.pth_spelling.specs.Syntax.{attribute_syntax, event_syntax, library_syntax, new_event_syntax, syntax_of}
use Rattle.pth_spelling.specs.WordMeanings.{field_of, query_of}
use Rattle.pth_spelling.specs.Keywords.{new_event_word}
use Rattle.pth_spelling.specs.declared.form.Form.{Form}
use Rattle.pth_spelling.specs.declared.form.Form.TheVariants as form
use Rattle.pth_spelling.specs.declared.keyword.QueryWord.{QueryWord}
use Rattle.pth_spelling.specs.declared.keyword.QueryWord.TheVariants as queries
use Rattle.pth_spelling.specs.declared.keyword.LibraryWord.TheVariants as libraries
use Rattle.pth_spelling.specs.declared.keyword.AttributeWord.TheVariants as attributes
use Rattle.pth_spelling.specs.declared.keyword.NewEventWord.{NewEventWord}
use Rattle.pth_spelling.specs.declared.keyword.EventWord.TheVariants as events
use Rattle.pth_spelling.specs.declared.keyword.CallWord.{CallWord}
use Rattle.pth_spelling.specs.declared.keyword.CallWord.TheVariants as call
use Rattle.pth_spelling.specs.declared.keyword.Keyword.{Keyword}
use Rattle.pth_spelling.specs.declared.keyword.Keyword.TheVariants as key
use Rattle.pth_grammar.specs.KernelForms.{kernel_forms}
use Rattle.pth_grammar.specs.declared.section.Section.{Section}
use Rattle.pth_grammar.specs.declared.section.Section.TheVariants as sec

-- ---- call lines

-- some questions to the scheduler have an operand
abbrev pub query_forms : Option QueryWord → List Form
query_forms (Some queries.Favournew) = form.Operand ∷ []
query_forms (Some queries.Prio) = form.Operand ∷ []
query_forms (Some queries.Name) = form.Operand ∷ []
query_forms _ = []

-- a name is set to a name, another field to a number
abbrev pub value_forms : Option AttrField → List Form
value_forms (Some field.Name) = form.Name ∷ []
value_forms _ = form.Operand ∷ []

-- the words of an event line follow its first word
abbrev pub event_forms : Option NewEventWord → List Form
event_forms (Some k) = (new_event_syntax k).forms
event_forms None = []

-- what follows by the words of the line: after `ctrl` by its first word, after `attr_set` and `chain` by the second
abbrev pub after_ctrl : List (List ℕ) → List Form
after_ctrl [] = []
after_ctrl (q ∷ ws) = query_forms (query_of q)

abbrev pub after_set : List (List ℕ) → List Form
after_set [] = value_forms None
after_set (a ∷ []) = value_forms None
after_set (a ∷ f ∷ ws) = value_forms (field_of f)

abbrev pub after_chain : List (List ℕ) → List Form
after_chain [] = []
after_chain (e ∷ []) = []
after_chain (e ∷ k ∷ ws) = event_forms (new_event_word k)

-- the forms of the words after that of a call: those of its syntax, and what follows them
abbrev pub call_forms : CallWord → List (List ℕ) → List Form
call_forms (call.Library libraries.Ctrl) ws = (library_syntax libraries.Ctrl).forms ++ after_ctrl ws
call_forms (call.Attributes attributes.Set) ws = (attribute_syntax attributes.Set).forms ++ after_set ws
call_forms (call.Events events.Chain) ws = (event_syntax events.Chain).forms ++ after_chain ws
call_forms k ws = (syntax_of k).forms

-- ---- the lines of each section

abbrev pub act_forms : Keyword → Option (List Form)
act_forms key.End = Some []
act_forms key.Note = Some (form.Value ∷ [])
act_forms key.Set = Some (form.Shared ∷ form.Value ∷ [])
act_forms key.Release = Some (form.Value ∷ [])
act_forms key.Notify = Some (form.Value ∷ form.Value ∷ [])
act_forms key.Put = Some (form.Value ∷ form.Value ∷ [])
act_forms key.SetKey = Some (form.Value ∷ form.Value ∷ [])
act_forms _ = None

abbrev pub body_forms : Keyword → List (List ℕ) → Option (List Form)
body_forms key.End ws = Some []
body_forms key.Set ws = Some (form.Register ∷ form.Operand ∷ [])
body_forms key.Add ws = Some (form.Register ∷ form.Operand ∷ [])
body_forms key.Note ws = Some (form.Operand ∷ [])
body_forms key.Label ws = Some (form.Natural ∷ [])
body_forms key.Goto ws = Some (form.Natural ∷ form.Operand ∷ form.Relation ∷ form.Operand ∷ [])
body_forms (key.Call k) ws = Some (call_forms k ws)
body_forms _ ws = None

abbrev pub opening_forms : Keyword → Option (List Form)
opening_forms key.Handler = Some (form.Natural ∷ [])
opening_forms key.Check = Some (form.Natural ∷ form.Value ∷ form.Relation ∷ form.Value ∷ [])
opening_forms key.Thread = Some (form.Natural ∷ [])
opening_forms key.Kernel = Some []
opening_forms _ = None

-- handlers come first, then checks, then bodies, then a kernel
abbrev pub may_open : Section → Keyword → Option (List Form)
may_open sec.Handlers k = opening_forms k
may_open sec.Checks key.Check = opening_forms key.Check
may_open sec.Checks key.Thread = opening_forms key.Thread
may_open sec.Checks key.Kernel = opening_forms key.Kernel
may_open sec.Bodies key.Thread = opening_forms key.Thread
may_open sec.Bodies key.Kernel = opening_forms key.Kernel
may_open _ _ = None

-- none where the word may not begin a line of the section
abbrev pub forms_of : Section → Keyword → List (List ℕ) → Option (List Form)
forms_of sec.Handler k ws = act_forms k
forms_of sec.Body k ws = body_forms k ws
forms_of (sec.Kernel part) k ws = kernel_forms part k ws
forms_of s k ws = may_open s k
