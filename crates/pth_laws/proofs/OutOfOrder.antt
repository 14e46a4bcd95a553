-- Lists of marks that are in order, and that are not with one mark more.
use Rattle.std.proofs.Common.{◌≡◌, ℕ, pos, List, [], ◌∷◌, ◌++◌, length, refl, ap, arith}
use Rattle.pth_base.specs.Table.{put}
use Rattle.pth_base.specs.declared.mark.Mark.{Mark}
use Rattle.pth_laws.specs.Examples
use Rattle.pth_laws.specs.Examples.{one, got_at, none_at, pending_at}
use Rattle.pth_laws.specs.InOrder.{InOrder, IsInOrderAt, IsOutOfOrder, queue}
use Rattle.pth_laws.proofs.Prefixes.{Sentences, said_each}
use Rattle.pth_laws.proofs.Traffic.{Says, said}

-- what is said of a mark, by the marks before it
abbrev SaysAfter : List Mark → Mark → Type 0
SaysAfter before m = Says (queue before) m

in_order : (marks : List Mark) → Sentences SaysAfter [] marks → InOrder marks
in_order marks h before later m e = said (queue before) m (said_each SaysAfter marks h before later m e)

last_of : (before : List Mark) (m : Mark) → InOrder (before ++ m ∷ []) → IsInOrderAt (queue before) m
last_of before m h = h before [] m refl

-- ---- out of order

two_put : InOrder Examples.two_waiting
two_put = in_order Examples.two_waiting (tt, (tt, (tt, tt)))

pub got_once : IsOutOfOrder Examples.one_got (got_at (pos 1) 1 7)
unfolding put
got_once = (
  in_order Examples.one_got (tt, (tt, ((refl, refl), tt))),
  λ h. (last_of Examples.one_got (got_at (pos 1) 1 7) h).got_is_oldest one (pos 1) (record { 0 = 1 }) (pos 7) refl,
)

pub oldest_first : IsOutOfOrder Examples.two_waiting (got_at (pos 1) 2 8)
unfolding put
oldest_first = (two_put, λ h. let is : ◌≡◌ {A = ℕ} 1 2 = ((last_of Examples.two_waiting (got_at (pos 1) 2 8) h).got_is_oldest one (pos 1) (record { 0 = 2 }) (pos 8) refl).0 in omega (arith, is))

pub same_value : IsOutOfOrder Examples.two_waiting (got_at (pos 1) 1 8)
unfolding put
same_value = (two_put, λ h. let is : pos 7 ≡ pos 8 = ((last_of Examples.two_waiting (got_at (pos 1) 1 8) h).got_is_oldest one (pos 1) (record { 0 = 1 }) (pos 8) refl).1 in cc)

pub none_lost : IsOutOfOrder Examples.one_sent_back (none_at (pos 2))
unfolding put
none_lost = (
  in_order Examples.one_sent_back (tt, (tt, (tt, (tt, tt)))),
  λ h. let none : queue Examples.one_sent_back (pos 2) ≡ [] = (last_of Examples.one_sent_back (none_at (pos 2)) h).none_is_there one (pos 2) refl in let many : ◌≡◌ {A = ℕ} 1 0 = ap length none in omega (arith, many),
)

pub none_killed : IsOutOfOrder Examples.one_waiting_after_a_kill (none_at (pos 1))
unfolding put
none_killed = (
  in_order Examples.one_waiting_after_a_kill (tt, (tt, (tt, tt))),
  λ h. let none : queue Examples.one_waiting_after_a_kill (pos 1) ≡ [] = (last_of Examples.one_waiting_after_a_kill (none_at (pos 1)) h).none_is_there one (pos 1) refl in let many : ◌≡◌ {A = ℕ} 1 0 = ap length none in omega (arith, many),
)

pub all_counted : IsOutOfOrder Examples.two_waiting (pending_at (pos 1) 3)
unfolding put
all_counted = (two_put, λ h. let is : pos 3 ≡ pos 2 = (last_of Examples.two_waiting (pending_at (pos 1) 3) h).as_many_are_there one (pos 1) (pos 3) refl in cc)

-- ---- in order

pub replied_in_order : InOrder Examples.a_request_and_its_reply
unfolding put
replied_in_order = in_order Examples.a_request_and_its_reply (tt, (tt, (tt, ((refl, refl), (tt, (refl, ((refl, refl), (refl, tt))))))))

pub none_to_port_0 : InOrder Examples.none_sent_to_port_0
unfolding put
none_to_port_0 = in_order Examples.none_sent_to_port_0 (tt, (tt, (tt, (tt, (refl, tt)))))

pub apart_below_zero : InOrder Examples.two_ports_below_zero
unfolding put
apart_below_zero = in_order Examples.two_ports_below_zero (tt, (tt, (tt, (refl, ((refl, refl), tt)))))

pub none_without_a_port : InOrder Examples.nothing_without_a_port
unfolding put
none_without_a_port = in_order Examples.nothing_without_a_port (tt, (tt, (tt, (tt, (refl, (tt, (tt, ((refl, refl), tt))))))))

pub back_once : InOrder Examples.sent_back_once
unfolding put
back_once = in_order Examples.sent_back_once (tt, (tt, (tt, (tt, ((refl, refl), (tt, (tt, (tt, ((refl, refl), ((refl, refl), (tt, (refl, tt))))))))))))

pub seven_puts_nothing : InOrder Examples.a_put_answered_seven
unfolding put
seven_puts_nothing = in_order Examples.a_put_answered_seven (tt, (tt, (refl, tt)))
