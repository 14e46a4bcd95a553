-- Cleanup handlers, of which each slot has a stack (pth_cleanup_push, pth_cleanup_pop).
use Rattle.std.specs.Prelude.{ℕ, ◌≤◌, ◌==◌, ℤ, Bool, if◌then◌else◌, List, [], ◌∷◌, length, map, reverse, slice_get, Option, Result, Ok, Err, Vec}
use Rattle.std.specs.Global.{Global}
use Rattle.pth_base.specs.Table.{put, table}
use Rattle.pth_base.specs.declared.errno.Errno.{Errno}
use Rattle.pth_base.specs.declared.errno.Errno.TheVariants.{EAGAIN}
use Rattle.pth_base.specs.declared.ids.HandlerId.{HandlerId}

-- what is pushed: a handler, and the argument that it is run with
abbrev pub PushedHandler : Type 0
PushedHandler = HandlerId × ℤ

-- the stacks by their slots, each with its top first
abbrev pub Stacks : Type 0
Stacks = ℕ → List PushedHandler

-- how many handlers a stack may have at once
abbrev pub cleanup_limit : ℕ
cleanup_limit = 256

-- it has as many as it may have
abbrev pub is_full_stack : List PushedHandler → Bool
is_full_stack cs = length cs == cleanup_limit

-- no stack has more than it may have
abbrev pub AreWithinLimit : Stacks → Type 0
AreWithinLimit x = (s : ℕ) → length (x s) ≤ cleanup_limit

-- a stack without its top
abbrev pub without_top : List PushedHandler → List PushedHandler
without_top [] = []
without_top (c ∷ cs) = cs

-- ---- answers

-- a handler is pushed
abbrev pub push_answer : Stacks → ℕ → Result (Unit {0}) Errno
push_answer x s =
    if is_full_stack (x s) then Err EAGAIN else
    Ok tt

-- the handler n below the top, if there is one: 0 is the top itself
abbrev pub below_top_answer : Stacks → ℕ → ℕ → Option PushedHandler
below_top_answer x s n = slice_get (x s) n

-- the top is taken, if there is one
abbrev pub pop_answer : Stacks → ℕ → Option PushedHandler
pop_answer x s = below_top_answer x s 0

-- ---- changes

-- no slot has a handler
abbrev pub no_cleanups : Stacks
no_cleanups s = []

-- a handler more, on top
abbrev pub with_top : ℕ → PushedHandler → Stacks → Stacks
with_top s c x = put x s (c ∷ x s)

-- the top is taken
abbrev pub top_taken : ℕ → Stacks → Stacks
top_taken s x = put x s (without_top (x s))

-- the stack of a slot is empty
abbrev pub emptied : ℕ → Stacks → Stacks
emptied s x = put x s []

-- ---- how stacks are kept

-- the stacks in a list by slot, each with its top first, and none past the end
unfoldable pub stacks_of : List (List PushedHandler) → Stacks
stacks_of xs = table [] xs

-- the list that vectors stand for, in which each stack has its top last
abbrev pub top_first : Vec (Vec PushedHandler Global) Global → List (List PushedHandler)
top_first v = map (λ w. reverse w.items) v.items
