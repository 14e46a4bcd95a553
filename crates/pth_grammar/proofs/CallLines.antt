-- The words of a call line that break no rule stand for a call.
use Rattle.std.proofs.Common.{◌≡◌, ℕ, Bool, true, false, ◌&&◌, List, [], ◌∷◌, Option, Some, None, refl}
use Rattle.std.specs.Prelude.{is_some, option_and_then, option_map}
use Rattle.pth_base.specs.declared.attr.AttrField.{AttrField}
use Rattle.pth_base.specs.declared.attr.AttrField.TheVariants as field
use Rattle.pth_grammar.specs.CallLines.{argument_of, arguments_of, call_line}
use Rattle.pth_grammar.specs.Forms.{call_forms, event_forms, query_forms, value_forms}
use Rattle.pth_spelling.specs.Keywords.{new_event_word}
use Rattle.pth_spelling.specs.WordMeanings.{query_of, field_of}
use Rattle.pth_spelling.specs.declared.form.Form.{Form}
use Rattle.pth_spelling.specs.declared.form.Form.TheVariants as form
use Rattle.pth_spelling.specs.declared.keyword.LibraryWord.TheVariants as libraries
use Rattle.pth_spelling.specs.declared.keyword.AttributeWord.TheVariants as attributes
use Rattle.pth_spelling.specs.declared.keyword.ThreadWord.TheVariants as threads
use Rattle.pth_spelling.specs.declared.keyword.UtilityWord.TheVariants as utilities
use Rattle.pth_spelling.specs.declared.keyword.CancellationWord.TheVariants as cancellations
use Rattle.pth_spelling.specs.declared.keyword.EventWord.TheVariants as events
use Rattle.pth_spelling.specs.declared.keyword.KeyStorageWord.TheVariants as keys
use Rattle.pth_spelling.specs.declared.keyword.PortWord.TheVariants as ports
use Rattle.pth_spelling.specs.declared.keyword.CleanupWord.TheVariants as cleanups
use Rattle.pth_spelling.specs.declared.keyword.MutexWord.TheVariants as mutexes
use Rattle.pth_spelling.specs.declared.keyword.RwlockWord.TheVariants as rwlocks
use Rattle.pth_spelling.specs.declared.keyword.ConditionWord.TheVariants as conditions
use Rattle.pth_spelling.specs.declared.keyword.BarrierWord.TheVariants as barriers
use Rattle.pth_spelling.specs.declared.keyword.IoWord.TheVariants as ios
use Rattle.pth_spelling.specs.declared.keyword.NewEventWord.{NewEventWord}
use Rattle.pth_spelling.specs.declared.keyword.NewEventWord.TheVariants as new_events
use Rattle.pth_spelling.specs.declared.keyword.QueryWord.{QueryWord}
use Rattle.pth_spelling.specs.declared.keyword.QueryWord.TheVariants as queries
use Rattle.pth_spelling.specs.declared.keyword.CallWord.{CallWord}
use Rattle.pth_spelling.specs.declared.keyword.CallWord.TheVariants as call
use Rattle.pth_spelling.proofs.Options.{some_map, some_then}
use Rattle.pth_spelling.proofs.Fine.{AllFine, IsFine, operand, maybe_operand, name, maybe_name, set, goals, which, field as field_word, state, mode, direction, query, event, byte_operand}

-- a form of a call's operand
abbrev is_call_form : Form → Bool
is_call_form form.Operand = true
is_call_form form.MaybeOperand = true
is_call_form form.Name = true
is_call_form form.MaybeName = true
is_call_form form.Set = true
is_call_form form.Bytes = true
is_call_form form.Goals = true
is_call_form form.Which = true
is_call_form form.Mode = true
is_call_form form.Direction = true
is_call_form form.Field = true
is_call_form form.State = true
is_call_form form.Query = true
is_call_form form.Event = true
is_call_form _ = false

abbrev are_call_forms : List Form → Bool
are_call_forms [] = true
are_call_forms (f ∷ fs) = is_call_form f && are_call_forms fs

-- ---- words of these forms

argument_stands : (f : Form) (w : List ℕ) → is_call_form f ≡ true → IsFine f w → is_some (argument_of f w) ≡ true
argument_stands form.Operand w c fine = some_map _ _ (operand.reads w fine)
argument_stands form.MaybeOperand w c fine = some_map _ _ (maybe_operand.reads w fine)
argument_stands form.Name w c fine = some_map _ _ (name.reads w fine)
argument_stands form.MaybeName w c fine = some_map _ _ (maybe_name.reads w fine)
argument_stands form.Set w c fine = some_map _ _ (set.reads w fine)
argument_stands form.Bytes w c fine = some_map _ _ (byte_operand.reads w fine)
argument_stands form.Goals w c fine = some_map _ _ (goals.reads w fine)
argument_stands form.Which w c fine = some_map _ _ (which.reads w fine)
argument_stands form.Mode w c fine = some_map _ _ (mode.reads w fine)
argument_stands form.Direction w c fine = some_map _ _ (direction.reads w fine)
argument_stands form.Field w c fine = some_map _ _ (field_word.reads w fine)
argument_stands form.State w c fine = some_map _ _ (state.reads w fine)
argument_stands form.Query w c fine = some_map _ _ (query.reads w fine)
argument_stands form.Event w c fine = some_map _ _ (event.reads w fine)
argument_stands _ w c fine = absurd (cc)

both : (a b : Bool) → (a && b) ≡ true → (a ≡ true) × (b ≡ true)
both true b t = (refl, t)
both false b t = absurd (cc)

arguments_stand : (fs : List Form) (ws : List (List ℕ)) → are_call_forms fs ≡ true → AllFine fs ws → is_some (arguments_of fs ws) ≡ true
unfolding arguments_of
arguments_stand [] [] c fine = refl
arguments_stand [] (w ∷ ws) c fine = absurd fine
arguments_stand (f ∷ fs) [] c fine = absurd fine
arguments_stand (f ∷ fs) (w ∷ ws) c fine =
    let h = both (is_call_form f) (are_call_forms fs) c in
    some_then (argument_of f w) _ (argument_stands f w h.0 fine.0) (λ o. some_map _ _ (arguments_stand fs ws h.1 fine.1))

-- ---- the forms of each call

query_tail : (k : Option QueryWord) → are_call_forms (query_forms k) ≡ true
query_tail (Some queries.Threads) = refl
query_tail _ = refl

value_tail : (k : Option AttrField) → are_call_forms (value_forms k) ≡ true
value_tail (Some field.Prio) = refl
value_tail _ = refl

event_tail : (k : Option NewEventWord) → are_call_forms (event_forms k) ≡ true
event_tail (Some new_events.Fd) = refl
event_tail _ = refl

ctrl : (ws : List (List ℕ)) → are_call_forms (call_forms (call.Library libraries.Ctrl) ws) ≡ true
ctrl [] = refl
ctrl (q ∷ ws) = query_tail (query_of q)

attribute_set : (ws : List (List ℕ)) → are_call_forms (call_forms (call.Attributes attributes.Set) ws) ≡ true
attribute_set [] = refl
attribute_set (a ∷ []) = refl
attribute_set (a ∷ f ∷ ws) = value_tail (field_of f)

chain : (ws : List (List ℕ)) → are_call_forms (call_forms (call.Events events.Chain) ws) ≡ true
chain [] = refl
chain (e ∷ []) = refl
chain (e ∷ k ∷ ws) = event_tail (new_event_word k)

forms_of_calls : (k : CallWord) (ws : List (List ℕ)) → are_call_forms (call_forms k ws) ≡ true
forms_of_calls (call.Library libraries.Ctrl) ws = ctrl ws
forms_of_calls (call.Attributes attributes.Set) ws = attribute_set ws
forms_of_calls (call.Events events.Chain) ws = chain ws
forms_of_calls (call.Events (events.New new_events.Fd)) ws = refl
forms_of_calls (call.Threads threads.Spawn) ws = refl
forms_of_calls (call.Utilities utilities.Fdmode) ws = refl
forms_of_calls (call.Cancellation cancellations.Point) ws = refl
forms_of_calls (call.Keys keys.Create) ws = refl
forms_of_calls (call.Ports ports.Create) ws = refl
forms_of_calls (call.Cleanups cleanups.Push) ws = refl
forms_of_calls (call.Mutexes mutexes.Init) ws = refl
forms_of_calls (call.Rwlocks rwlocks.Init) ws = refl
forms_of_calls (call.Conditions conditions.Init) ws = refl
forms_of_calls (call.Barriers barriers.Init) ws = refl
forms_of_calls (call.Io ios.Usleep) ws = refl
forms_of_calls _ ws = refl

pub callable : (k : CallWord) (ws : List (List ℕ)) → AllFine (call_forms k ws) ws → is_some (call_line k ws) ≡ true
unfolding call_line
callable k ws fine = some_map _ _ (arguments_stand (call_forms k ws) ws (forms_of_calls k ws) fine)
