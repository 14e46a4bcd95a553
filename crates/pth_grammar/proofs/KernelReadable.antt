-- A line of a kernel whose words have their forms stands for something.
use Rattle.std.proofs.Common.{◌≡◌, ℕ, true, List, [], ◌∷◌, drop, Option, Some, None, refl, sym, subst}
use Rattle.std.specs.Prelude.{is_some}
use Rattle.pth_kernel.specs.Trace.{latest_time, most_room, most_clock}
use Rattle.pth_spelling.specs.Keywords.{entry_word}
use Rattle.pth_spelling.specs.Starts.{begins}
use Rattle.pth_spelling.specs.declared.keyword.EntryWord.{EntryWord}
use Rattle.pth_spelling.specs.declared.keyword.EntryWord.TheVariants as entries
use Rattle.pth_spelling.specs.declared.keyword.Keyword.TheVariants as key
use Rattle.pth_spelling.specs.declared.form.Form.{Form}
use Rattle.pth_spelling.specs.declared.form.Form.TheVariants as form
use Rattle.pth_spelling.proofs.Options.{some_map, some_then}
use Rattle.pth_spelling.proofs.Fine.{AllFine, IsFine, Reads, within, descriptor, entry, pairs}
use Rattle.pth_grammar.specs.KernelNumbers.{ticks_of, time_of, room_of}
use Rattle.pth_grammar.specs.KernelForms.{clock_form, time_form, room_form, entry_forms, at_forms, kernel_forms}
use Rattle.pth_grammar.specs.KernelLines.{clock_by, clock_line, opening_by, open_line, entry_alone, entry_with, entry_by, stamp_of, stamp_by, stamp_line}
use Rattle.pth_grammar.specs.declared.kernel_part.KernelPart.{KernelPart}
use Rattle.pth_grammar.specs.declared.kernel_part.KernelPart.TheVariants as part

-- ---- numbers

clock : Reads clock_form ticks_of
unfolding ticks_of
clock = within 0 most_clock

time : Reads time_form time_of
unfolding time_of
time = within 0 latest_time

room : Reads room_form room_of
unfolding room_of
room = within 1 most_room

-- ---- forms

-- words that have the forms of a line have the same forms by another name
same_forms : (fs gs : List Form) (ws : List (List ℕ)) → Some fs ≡ Some gs → AllFine gs ws → AllFine fs ws
same_forms fs gs ws e h = let same : gs ≡ fs = cc in subst (λ fs. AllFine fs ws) same h

-- ---- the clock

one_clock : (ws : List (List ℕ)) → AllFine (clock_form ∷ []) ws → is_some (clock_by (Some key.Clock) ws) ≡ true
one_clock [] h = absurd h
one_clock (w ∷ []) h = clock.reads w h.0
one_clock (w ∷ v ∷ ws) h = absurd h.1

clock_words : (p : KernelPart) (ws : List (List ℕ)) (fs : List Form) → kernel_forms p key.Clock ws ≡ Some fs → AllFine fs ws → is_some (clock_by (Some key.Clock) ws) ≡ true
clock_words part.Head ws fs e h = one_clock ws (same_forms _ fs ws e h)
clock_words part.Opens ws fs e h = absurd (cc)
clock_words part.Entries ws fs e h = absurd (cc)

pub clock_stands : (p : KernelPart) (ws : List (List ℕ)) (fs : List Form) → begins ws ≡ Some key.Clock → kernel_forms p key.Clock (drop 1 ws) ≡ Some fs → AllFine fs (drop 1 ws) → is_some (clock_line ws) ≡ true
unfolding clock_line
clock_stands p ws fs k e h = subst (λ o. is_some (clock_by o (drop 1 ws)) ≡ true) (sym k) (clock_words p (drop 1 ws) fs e h)

-- ---- what is open

one_open : (ws : List (List ℕ)) → AllFine (form.Descriptor ∷ []) ws → is_some (opening_by (Some key.Open) ws) ≡ true
one_open [] h = absurd h
one_open (w ∷ []) h = descriptor.reads w h.0
one_open (w ∷ v ∷ ws) h = absurd h.1

open_words : (p : KernelPart) (ws : List (List ℕ)) (fs : List Form) → kernel_forms p key.Open ws ≡ Some fs → AllFine fs ws → is_some (opening_by (Some key.Open) ws) ≡ true
open_words part.Head ws fs e h = one_open ws (same_forms _ fs ws e h)
open_words part.Opens ws fs e h = one_open ws (same_forms _ fs ws e h)
open_words part.Entries ws fs e h = absurd (cc)

pub open_stands : (p : KernelPart) (ws : List (List ℕ)) (fs : List Form) → begins ws ≡ Some key.Open → kernel_forms p key.Open (drop 1 ws) ≡ Some fs → AllFine fs (drop 1 ws) → is_some (open_line ws) ≡ true
unfolding open_line
open_stands p ws fs k e h = subst (λ o. is_some (opening_by o (drop 1 ws)) ≡ true) (sym k) (open_words p (drop 1 ws) fs e h)

-- ---- what comes

alone : (k : EntryWord) (ws : List (List ℕ)) → is_some (entry_alone k) ≡ true → AllFine [] ws → is_some (entry_by (Some k) ws) ≡ true
alone k [] some h = some
alone k (w ∷ ws) some h = absurd h

with : (k : EntryWord) (f : Form) (ws : List (List ℕ)) → ((w : List ℕ) → IsFine f w → is_some (entry_with k w) ≡ true) → AllFine (f ∷ []) ws → is_some (entry_by (Some k) ws) ≡ true
with k f [] some h = absurd h
with k f (w ∷ []) some h = some w h.0
with k f (w ∷ v ∷ ws) some h = absurd h.1

no_entry : (o : Option EntryWord) → o ≡ None → is_some o ≡ true → ⊥
no_entry None e h = absurd (cc)
no_entry (Some k) e h = absurd (cc)

entry_words : (o : Option EntryWord) (t f e : List ℕ) (ws : List (List ℕ)) → entry_word e ≡ o → AllFine (entry_forms o) (t ∷ f ∷ e ∷ ws) → is_some (entry_by o ws) ≡ true
entry_words (Some entries.In) t f e ws k h = with entries.In form.Pairs ws (λ w fine. some_map _ _ (pairs.reads w fine)) h.1.1.1
entry_words (Some entries.Room) t f e ws k h = with entries.Room room_form ws (λ w fine. some_map _ _ (room.reads w fine)) h.1.1.1
entry_words (Some entries.Conn) t f e ws k h = with entries.Conn form.Descriptor ws (λ w fine. some_map _ _ (descriptor.reads w fine)) h.1.1.1
entry_words (Some entries.Eof) t f e ws k h = alone entries.Eof ws refl h.1.1.1
entry_words (Some entries.Up) t f e ws k h = alone entries.Up ws refl h.1.1.1
entry_words (Some entries.Refuse) t f e ws k h = alone entries.Refuse ws refl h.1.1.1
entry_words (Some entries.Exc) t f e ws k h = alone entries.Exc ws refl h.1.1.1
entry_words (Some entries.Err) t f e ws k h = alone entries.Err ws refl h.1.1.1
entry_words None t f e ws k h = absurd (no_entry (entry_word e) k (entry.reads e h.1.1.0))

when_and_where : (o : Option EntryWord) (t f e : List ℕ) (ws : List (List ℕ)) → AllFine (entry_forms o) (t ∷ f ∷ e ∷ ws) → IsFine time_form t × IsFine form.Descriptor f
when_and_where (Some entries.In) t f e ws h = (h.0, h.1.0)
when_and_where (Some entries.Room) t f e ws h = (h.0, h.1.0)
when_and_where (Some entries.Conn) t f e ws h = (h.0, h.1.0)
when_and_where _ t f e ws h = (h.0, h.1.0)

one_stamp : (ws : List (List ℕ)) → AllFine (at_forms ws) ws → is_some (stamp_of ws) ≡ true
one_stamp [] h = absurd h
one_stamp (t ∷ []) h = absurd h.1
one_stamp (t ∷ f ∷ []) h = absurd h.1.1
one_stamp (t ∷ f ∷ e ∷ ws) h =
    let both = when_and_where (entry_word e) t f e ws h in
    some_then _ _ (time.reads t both.0) (λ at. some_then _ _ (descriptor.reads f both.1) (λ fd. some_map _ _ (entry_words (entry_word e) t f e ws refl h)))

stamp_words : (p : KernelPart) (ws : List (List ℕ)) (fs : List Form) → kernel_forms p key.At ws ≡ Some fs → AllFine fs ws → is_some (stamp_of ws) ≡ true
stamp_words part.Head ws fs e h = one_stamp ws (same_forms _ fs ws e h)
stamp_words part.Opens ws fs e h = one_stamp ws (same_forms _ fs ws e h)
stamp_words part.Entries ws fs e h = one_stamp ws (same_forms _ fs ws e h)

pub stamp_stands : (p : KernelPart) (ws : List (List ℕ)) (fs : List Form) → begins ws ≡ Some key.At → kernel_forms p key.At (drop 1 ws) ≡ Some fs → AllFine fs (drop 1 ws) → is_some (stamp_line ws) ≡ true
unfolding stamp_line
stamp_stands p ws fs k e h = subst (λ o. is_some (stamp_by o (drop 1 ws)) ≡ true) (sym k) (stamp_words p (drop 1 ws) fs e h)
