-- The messages that wait at a port are those that went to it since it was made, without as many as were taken. So marks are in order
-- exactly if they are by what was sent, and a message is got at most as often as it was sent.
use Rattle.std.proofs.Common.{◌≡◌, ◌≢◌, ◌<◌, ◌≤◌, ◌↔◌, ℕ, zero, suc, ◌+◌, ◌==◌, nat_lt, ◌&&◌, ◌||◌, not, ℤ, pos, Bool, true, false, cond, if◌then◌else◌, List, [], ◌∷◌, ◌++◌, length, drop, map, filter, fold, count_by, Option, Some, None, is_some, refl, sym, ◌∙◌, ap, subst, append_assoc, append-nil, arith}
use Rattle.std.proofs.Math.Bool.{and-true, and-false}
use Rattle.std.proofs.lemmas.Bool.Decides.{nat_tests}
use Rattle.std.proofs.lemmas.List.{drop-append-le, drop-drop, length-append, length-drop}
use Rattle.std.proofs.lemmas.List.Sums.{sum_by-cons, sum_by-append}
use Rattle.std.proofs.lemmas.Bool.{true≢false, and_parts}
use mathlib.Core.Path.{fun_ext}
use Rattle.pth_base.specs.Table.{put}
use Rattle.pth_base.specs.declared.act.Act.TheVariants as act
use Rattle.pth_base.specs.declared.answer.Answer.TheVariants.{Fail, Int, Msg}
use Rattle.pth_base.specs.declared.call.Call.TheVariants as call
use Rattle.pth_base.specs.declared.errno.Errno.TheVariants.{ENOENT}
use Rattle.pth_base.specs.declared.mark.Mark.{Mark}
use Rattle.pth_base.specs.declared.mark.Mark.TheVariants as mark
use Rattle.pth_base.proofs.Tables.{same_self, same_means, not_same, put_by}
use Rattle.pth_numbered.specs.Operands.{number}
use Rattle.pth_port.specs.Mail.{Mail, Message, is_live, messages_of, no_mail, with_port, put_to, sent, got, replied, sent_back, closed_port}
use Rattle.pth_laws.specs.InOrder.{port_index, reply_index, mail_after, queue, IsOldest, IsInOrderAt, InOrder, one_if, sent_as_reply, sent_to, begins_anew, takes_of, Traffic, arrives_at, traffic_after, left, InOrderAsSent, is_get_of, AreGotNoMoreThanSent}
use Rattle.pth_laws.specs.Marks.{is_same}
use Rattle.pth_laws.proofs.Numbers.{same_number}

-- ---- lists

-- these, if a port is there
abbrev there : Bool → List Message → List Message
there b ms = if b then ms else []

none_there : (b : Bool) → there b [] ≡ []
none_there true = refl
none_there false = refl

one_not_there : (b c : Bool) (m : Message) → (b && c) ≡ false → there b (one_if c m) ≡ []
one_not_there true true m h = absurd (true≢false h)
one_not_there true false m h = refl
one_not_there false c m h = refl

none_more : (xs ys : List Message) → ys ≡ [] → xs ≡ xs ++ ys
none_more xs ys none = sym (append-nil xs) ∙ ap (λ (zs : List Message). xs ++ zs) (sym none)

only_if_both : (b c : Bool) → c ≡ true → (b && c) ≡ b
only_if_both b c h = ap (λ (d : Bool). b && d) h ∙ and-true b

some_long : (x : Message) (xs : List Message) → nat_lt 0 (length (x ∷ xs)) ≡ true
some_long x xs = grind (arith, nat_tests)

-- ---- one change of the messages, at port i

-- what waits at i
abbrev at_port : ℕ → Mail → List Message
at_port i q = messages_of (q.at i)

-- the next message, and whether it is put, by the port for its reply
abbrev next_message : ℤ → ℕ → Mail → Message
next_message v r q = record { number = q.made + 1; value = v; reply = r }

abbrev may_reply : ℕ → Mail → Bool
may_reply r q = (r == 0) || is_live q r

-- a message with no port for a reply
abbrev unasked : Message → Message
unasked m = record m { reply = 0 }

module _ (i : ℕ) where
  -- nothing goes to i in place of a port that is not there
  not_there : (j : ℕ) (q : Mail) → is_live q j ≡ false → (is_live q i && (j == i)) ≡ false
  not_there j q gone = by_test (j == i) refl
    where
      by_test : (b : Bool) → (j == i) ≡ b → (is_live q i && b) ≡ false
      by_test true same = and-true (is_live q i) ∙ ap (is_live q) (sym (same_means j i same)) ∙ gone
      by_test false other = and-false (is_live q i)

  -- ports stay where messages go, and m is last at i if it goes there
  live_sent : (j : ℕ) (m : Message) (q : Mail) → is_live (sent j m q) i ≡ is_live q i
  live_sent j m q = by_test (is_live q j) refl
    where
      by_test : (b : Bool) → is_live q j ≡ b → is_some ((if b then put q.at j (Some (messages_of (q.at j) ++ m ∷ [])) else q.at) i) ≡ is_live q i
      by_test true live = put_by (λ (o : Option (List Message)). is_some o ≡ is_live q i) q.at j (Some (messages_of (q.at j) ++ m ∷ [])) i (λ same. sym (ap (is_live q) same ∙ live)) (λ other. refl)
      by_test false gone = refl

  queue_sent : (j : ℕ) (m : Message) (q : Mail) → at_port i (sent j m q) ≡ at_port i q ++ there (is_live q i) (one_if (j == i) m)
  queue_sent j m q = by_test (is_live q j) refl
    where
      own : is_live q j ≡ true → at_port j q ++ m ∷ [] ≡ at_port j q ++ there (is_live q j) (one_if (j == j) m)
      own live = rw (live, same_self j) refl

      by_test : (b : Bool) → is_live q j ≡ b → messages_of ((if b then put q.at j (Some (messages_of (q.at j) ++ m ∷ [])) else q.at) i) ≡ at_port i q ++ there (is_live q i) (one_if (j == i) m)
      by_test true live =
          put_by (λ (o : Option (List Message)). messages_of o ≡ at_port i q ++ there (is_live q i) (one_if (j == i) m)) q.at j (Some (messages_of (q.at j) ++ m ∷ [])) i
          (λ same. subst (λ (k : ℕ). at_port j q ++ m ∷ [] ≡ at_port k q ++ there (is_live q k) (one_if (j == k) m)) (sym same) (own live))
          (λ other. none_more (at_port i q) _ (rw (not_same j i (λ same. other (sym same))) (none_there (is_live q i))))
      by_test false gone = none_more (at_port i q) _ (one_not_there (is_live q i) (j == i) m (not_there j q gone))

  -- nothing goes to i if it is not put
  put_nowhere : (j : ℕ) (q : Mail) (goes : Bool) → (is_live q j && goes) ≡ false → (is_live q i && ((j == i) && goes)) ≡ false
  put_nowhere j q false stays = ap (λ (b : Bool). is_live q i && b) (and-false (j == i)) ∙ and-false (is_live q i)
  put_nowhere j q true stays = ap (λ (b : Bool). is_live q i && b) (and-true (j == i)) ∙ not_there j q (sym (and-true (is_live q j)) ∙ stays)

  queue_put : (j : ℕ) (v : ℤ) (r : ℕ) (q : Mail) → at_port i (put_to j v r q) ≡ at_port i q ++ there (is_live q i) (one_if ((j == i) && may_reply r q) (next_message v r q))
  queue_put j v r q = by_test (is_live q j && may_reply r q) refl
    where
      by_test : (b : Bool) → (is_live q j && may_reply r q) ≡ b → at_port i (if b then sent j (next_message v r q) (record q { made = q.made + 1 }) else q) ≡ at_port i q ++ there (is_live q i) (one_if ((j == i) && may_reply r q) (next_message v r q))
      by_test true h =
          queue_sent j (next_message v r q) (record q { made = q.made + 1 })
          ∙ ap (λ (b : Bool). at_port i q ++ there (is_live q i) (one_if b (next_message v r q))) (sym (only_if_both (j == i) (may_reply r q) (and_parts (is_live q j) (may_reply r q) h).1))
      by_test false h = none_more (at_port i q) _ (one_not_there (is_live q i) ((j == i) && may_reply r q) (next_message v r q) (put_nowhere j q (may_reply r q) h))

  queue_replied : (v : ℤ) (o : Option Message) (q : Mail) → at_port i (replied v o q) ≡ at_port i q ++ there (is_live q i) (sent_as_reply i v o)
  queue_replied v None q = none_more (at_port i q) _ (none_there (is_live q i))
  queue_replied v (Some m) q = by_test (is_live q m.reply) refl
    where
      by_test : (b : Bool) → is_live q m.reply ≡ b → at_port i (if b then sent m.reply (record m { value = v; reply = 0 }) (record q { kept = put q.kept m.number None }) else q) ≡ at_port i q ++ there (is_live q i) (one_if (m.reply == i) (record m { value = v; reply = 0 }))
      by_test true live = queue_sent m.reply (record m { value = v; reply = 0 }) (record q { kept = put q.kept m.number None })
      by_test false gone = none_more (at_port i q) _ (one_not_there (is_live q i) (m.reply == i) _ (not_there m.reply q gone))

  -- the oldest of j is taken
  abbrev after_get : ℕ → Mail → List Message
  after_get j q = if (j == i) && nat_lt 0 (length (at_port i q)) then drop 1 (at_port i q) else at_port i q

  queue_got : (j : ℕ) (q : Mail) (ms : List Message) → at_port j q ≡ ms → at_port i (got j ms q) ≡ after_get j q
  queue_got j q [] is = by_test (j == i) refl
    where
      by_test : (b : Bool) → (j == i) ≡ b → at_port i q ≡ (if b && nat_lt 0 (length (at_port i q)) then drop 1 (at_port i q) else at_port i q)
      by_test true same = let none : at_port i q ≡ [] = ap (λ (k : ℕ). at_port k q) (sym (same_means j i same)) ∙ is in rw none refl
      by_test false other = refl
  queue_got j q (m ∷ ms) is = put_by (λ (o : Option (List Message)). messages_of o ≡ after_get j q) q.at j (Some ms) i here other
    where
      here : i ≡ j → ms ≡ after_get j q
      here same =
          let old : at_port i q ≡ m ∷ ms = ap (λ (k : ℕ). at_port k q) same ∙ is in
          let own : (j == i) ≡ true = ap (λ (k : ℕ). k == i) (sym same) ∙ same_self i in
          rw (own, old, some_long m ms) refl

      other : i ≢ j → at_port i q ≡ after_get j q
      other apart = rw (not_same j i (λ same. apart (sym same))) refl

  -- those that go back to i
  abbrev returned : List Message → List Message
  returned ms = map unasked (filter (λ (m : Message). m.reply == i) ms)

  queue_sent_back : (ms : List Message) (q : Mail) → at_port i (sent_back ms q) ≡ at_port i q ++ there (is_live q i) (returned ms)
  queue_sent_back [] q = none_more (at_port i q) _ (none_there (is_live q i))
  queue_sent_back (m ∷ ms) q =
      queue_sent_back ms (sent m.reply (unasked m) q)
      ∙ (ap (λ (b : Bool). at_port i (sent m.reply (unasked m) q) ++ there b (returned ms)) (live_sent m.reply (unasked m) q)
      ∙ (ap (λ (xs : List Message). xs ++ there (is_live q i) (returned ms)) (queue_sent m.reply (unasked m) q)
      ∙ (append_assoc (at_port i q) (there (is_live q i) (one_if (m.reply == i) (unasked m))) (there (is_live q i) (returned ms))
      ∙ ap (λ (xs : List Message). at_port i q ++ xs) (first_and_rest (is_live q i) (m.reply == i)))))
    where
      first_and_rest : (b c : Bool) → there b (one_if c (unasked m)) ++ there b (returned ms) ≡ there b (map unasked (cond c (m ∷ filter (λ (k : Message). k.reply == i) ms) (filter (λ (k : Message). k.reply == i) ms)))
      first_and_rest true true = refl
      first_and_rest true false = refl
      first_and_rest false c = refl

  -- ---- one mark

  -- what is left at i, if it does not begin anew
  abbrev remains : Mail → Mark → List Message
  remains q m = if takes_of i q m then drop 1 (at_port i q) else at_port i q

  -- what waits at i after a mark
  abbrev after_mark : (begins live : Bool) (rest arrives : List Message) → List Message
  after_mark begins live rest arrives = if begins then [] else rest ++ (if live && not begins then arrives else [])

  anew : (begins live : Bool) (rest arrives : List Message) → begins ≡ true → [] ≡ after_mark begins live rest arrives
  anew true live rest arrives h = refl
  anew false live rest arrives h = absurd (true≢false (sym h))

  goes_on : (begins live : Bool) (rest arrives queue : List Message) → begins ≡ false → queue ≡ rest ++ there live arrives → queue ≡ after_mark begins live rest arrives
  goes_on true live rest arrives queue h is = absurd (true≢false h)
  goes_on false true rest arrives queue h is = is
  goes_on false false rest arrives queue h is = is

  stays : (live : Bool) (rest queue : List Message) → queue ≡ rest → queue ≡ after_mark false live rest []
  stays live rest queue is = goes_on false live rest [] queue refl (is ∙ none_more rest (there live []) (none_there live))

  -- port i is made
  abbrev is_new : ℕ → Mail → Bool
  is_new j q = (j == i) && not (is_live q i)

  queue_made : (j : ℕ) (q : Mail) → at_port i (with_port j q) ≡ after_mark (is_new j q) (is_live q i) (at_port i q) []
  queue_made j q = by_test (is_live q j) refl
    where
      kept : is_new j q ≡ false → at_port i q ≡ after_mark (is_new j q) (is_live q i) (at_port i q) []
      kept h = goes_on (is_new j q) (is_live q i) (at_port i q) [] (at_port i q) h (none_more (at_port i q) (there (is_live q i) []) (none_there (is_live q i)))

      was_there : is_live q j ≡ true → (b : Bool) → (j == i) ≡ b → (b && not (is_live q i)) ≡ false
      was_there live true same = ap (λ (k : ℕ). not (is_live q k)) (sym (same_means j i same)) ∙ ap not live
      was_there live false other = refl

      by_test : (b : Bool) → is_live q j ≡ b → at_port i (if b then q else record q { at = put q.at j (Some []) }) ≡ after_mark (is_new j q) (is_live q i) (at_port i q) []
      by_test true live = kept (was_there live (j == i) refl)
      by_test false gone =
          put_by (λ (o : Option (List Message)). messages_of o ≡ after_mark (is_new j q) (is_live q i) (at_port i q) []) q.at j (Some []) i
          (λ same. anew (is_new j q) (is_live q i) (at_port i q) [] (ap (λ (k : ℕ). is_new k q) (sym same) ∙ (ap (λ (b : Bool). b && not (is_live q i)) (same_self i) ∙ ap not (ap (is_live q) same ∙ gone))))
          (λ other. kept (ap (λ (b : Bool). b && not (is_live q i)) (not_same j i (λ same. other (sym same)))))

  queue_closed : (j : ℕ) (q : Mail) → at_port i (closed_port j q) ≡ after_mark (j == i) (is_live q i) (at_port i q) (returned (at_port j q))
  queue_closed j q =
      queue_sent_back (at_port j q) (record q { at = put q.at j None })
      ∙ put_by (λ (o : Option (List Message)). messages_of o ++ there (is_some o) (returned (at_port j q)) ≡ after_mark (j == i) (is_live q i) (at_port i q) (returned (at_port j q))) q.at j None i
      (λ same. anew (j == i) (is_live q i) (at_port i q) (returned (at_port j q)) (ap (λ (k : ℕ). k == i) (sym same) ∙ same_self i))
      (λ other. goes_on (j == i) (is_live q i) (at_port i q) (returned (at_port j q)) _ (not_same j i (λ same. other (sym same))) refl)

  queue_after : (q : Mail) (m : Mark) → at_port i (mail_after q m) ≡ after_mark (begins_anew i q m) (is_live q i) (remains q m) (sent_to i q m)
  queue_after q (mark.Answered t (call.PortCreate name) (Int p)) = queue_made (port_index p) q
  queue_after q (mark.Answered t (call.PortPut p v r) (Int (pos (suc zero)))) = goes_on false (is_live q i) (at_port i q) _ _ refl (queue_put (port_index p) v (reply_index r) q)
  queue_after q (mark.Acted t (act.Put p v) (Int (pos (suc zero)))) =
      goes_on false (is_live q i) (at_port i q) (one_if (port_index p == i) (next_message v 0 q)) _ refl
      (queue_put (port_index p) v 0 q ∙ ap (λ (b : Bool). at_port i q ++ there (is_live q i) (one_if b (next_message v 0 q))) (and-true (port_index p == i)))
  queue_after q (mark.Answered t (call.PortGet p) (Msg id v)) = stays (is_live q i) (after_get (port_index p) q) _ (queue_got (port_index p) q (at_port (port_index p) q) refl)
  queue_after q (mark.Answered t (call.Reply m v) (Int (pos (suc zero)))) = goes_on false (is_live q i) (at_port i q) _ _ refl (queue_replied v (q.kept (number m)) q)
  queue_after q (mark.Answered t (call.PortDestroy p) (Int (pos (suc zero)))) = queue_closed (port_index p) q
  queue_after q m = stays (is_live q i) (at_port i q) (at_port i q) refl

  -- ---- marks

  -- what waits at i is what is left of what went there
  record IsLeft (x : Traffic) : Type 0 where
    waiting : at_port i x.mail ≡ drop x.taken x.since
    within : x.taken ≤ length x.since

  takes_some : (q : Mail) (m : Mark) → takes_of i q m ≡ true → nat_lt 0 (length (at_port i q)) ≡ true
  takes_some q (mark.Answered t (call.PortGet p) (Msg id v)) takes = (and_parts (port_index p == i) (nat_lt 0 (length (at_port i q))) takes).1
  takes_some q m takes = absurd (true≢false (sym takes))

  abbrev traffic_by : Mail → Traffic → List Message → (begins takes : Bool) → Traffic
  traffic_by q x arrives begins takes = record { mail = q; since = if begins then [] else x.since ++ arrives; taken = if begins then 0 else (if takes then x.taken + 1 else x.taken); ever = x.ever ++ arrives }

  left_after : (x : Traffic) (m : Mark) → IsLeft x → IsLeft (traffic_after i x m)
  left_after x m h = by_test (arrives_at i x.mail m) (begins_anew i x.mail m) (takes_of i x.mail m) (takes_some x.mail m) (queue_after x.mail m)
    where
      by_test : (arrives : List Message) (begins takes : Bool) → (takes ≡ true → nat_lt 0 (length (at_port i x.mail)) ≡ true)
          → at_port i (mail_after x.mail m) ≡ (if begins then [] else (if takes then drop 1 (at_port i x.mail) else at_port i x.mail) ++ arrives) → IsLeft (traffic_by (mail_after x.mail m) x arrives begins takes)
      by_test arrives true takes some is = record { waiting = is; within = omega arith }
      by_test arrives false true some is =
          let long : nat_lt 0 (length (drop x.taken x.since)) ≡ true = ap (λ (ms : List Message). nat_lt 0 (length ms)) (sym h.waiting) ∙ some refl in
          let one : 0 < length (drop x.taken x.since) = grind (arith, nat_tests) in
          let room : x.taken + 1 ≤ length x.since = omega (arith, one, length-drop x.taken x.since) in
          record {
            waiting = is ∙ (ap (λ (ms : List Message). drop 1 ms ++ arrives) h.waiting ∙ (ap (λ (ms : List Message). ms ++ arrives) (drop-drop 1 x.taken x.since) ∙ sym (drop-append-le (x.taken + 1) x.since arrives room)));
            within = omega (arith, room, length-append x.since arrives);
          }
      by_test arrives false false some is = record {
        waiting = is ∙ (ap (λ (ms : List Message). ms ++ arrives) h.waiting ∙ sym (drop-append-le x.taken x.since arrives h.within));
        within = omega (arith, h.within, length-append x.since arrives);
      }

  left_along : (x : Traffic) (ms : List Mark) → IsLeft x → IsLeft (fold (traffic_after i) x ms)
  left_along x [] h = h
  left_along x (m ∷ ms) h = left_along (traffic_after i x m) ms (left_after x m h)

  mail_along : (x : Traffic) (ms : List Mark) → (fold (traffic_after i) x ms).mail ≡ fold mail_after x.mail ms
  mail_along x [] = refl
  mail_along x (m ∷ ms) = mail_along (traffic_after i x m) ms

abbrev no_traffic : Traffic
no_traffic = record { mail = no_mail; since = []; taken = 0; ever = [] }

-- what waits at each port is what is left of what went there
pub queue_left : (marks : List Mark) (p : ℤ) → queue marks p ≡ left marks p
queue_left marks p = ap (at_port (port_index p)) (sym (mail_along (port_index p) no_traffic marks)) ∙ (left_along (port_index p) no_traffic marks (record { waiting = refl; within = omega arith })).waiting

pub as_sent : (marks : List Mark) → InOrder marks ↔ InOrderAsSent marks
as_sent marks = (
  λ h before later m e. subst (λ (waiting : ℤ → List Message). IsInOrderAt waiting m) (fun_ext (queue_left before)) (h before later m e),
  λ h before later m e. subst (λ (waiting : ℤ → List Message). IsInOrderAt waiting m) (sym (fun_ext (queue_left before))) (h before later m e),
)

-- ---- what is said of a mark, by cases

abbrev pub Says : (ℤ → List Message) → Mark → Type 0
Says waiting (mark.Answered t (call.PortGet p) (Msg id v)) = IsOldest id.0 v (waiting p)
Says waiting (mark.Answered t (call.PortGet p) (Fail ENOENT)) = waiting p ≡ []
Says waiting (mark.Answered t (call.PortPending p) (Int n)) = n ≡ pos (length (waiting p))
Says waiting m = Unit {0}

pub said : (waiting : ℤ → List Message) (m : Mark) → Says waiting m → IsInOrderAt waiting m
said waiting m h = record {
  got_is_oldest = λ t p id v is. subst (Says waiting) is h;
  none_is_there = λ t p is. subst (Says waiting) is h;
  as_many_are_there = λ t p n is. subst (Says waiting) is h;
}

-- ---- gets

module _ (p : ℤ) (n : ℕ) where
  abbrev i : ℕ
  i = port_index p

  abbrev is_number : Message → Bool
  is_number m = m.number == n

  abbrev count : List Message → ℕ
  count ms = count_by is_number ms

  count_cons : (m : Message) (ms : List Message) → count (m ∷ ms) ≡ cond (m.number == n) 1 0 + count ms
  count_cons m ms = sum_by-cons (λ (m : Message). cond (m.number == n) 1 0) m ms

  count_append : (xs ys : List Message) → count (xs ++ ys) ≡ count xs + count ys
  count_append xs ys = sum_by-append (λ (m : Message). cond (m.number == n) 1 0) xs ys

  count_less : (b : Bool) (ms : List Message) → count (if b then drop 1 ms else ms) ≤ count ms
  count_less true [] = omega arith
  count_less true (m ∷ ms) = omega (arith, count_cons m ms)
  count_less false ms = omega arith

  abbrev waits : Mail → ℤ → List Message
  waits q k = at_port (port_index k) q

  -- the message that is got was there
  count_oldest : (number : ℕ) (v : ℤ) (ms : List Message) → IsOldest number v ms → number ≡ n → 1 + count (if nat_lt 0 (length ms) then drop 1 ms else ms) ≤ count ms
  count_oldest number v [] h same = absurd h
  count_oldest number v (m ∷ ms) h same =
      let first : (m.number == n) ≡ true = ap (λ (k : ℕ). k == n) (h.0 ∙ same) ∙ same_self n in
      let all : count (m ∷ ms) ≡ 1 + count ms = count_cons m ms ∙ ap (λ (b : Bool). cond b 1 0 + count ms) first in
      rw (some_long m ms) (omega (arith, all))

  count_remains : (q : Mail) (m : Mark) → IsInOrderAt (waits q) m → cond (is_get_of p n m) 1 0 + count (remains i q m) ≤ count (at_port i q)
  count_remains q (mark.Answered t (call.PortGet k) (Msg id v)) h = by_test (is_same p k && (id.0 == n)) refl
    where
      by_test : (b : Bool) → (is_same p k && (id.0 == n)) ≡ b → cond b 1 0 + count (if (port_index k == i) && nat_lt 0 (length (at_port i q)) then drop 1 (at_port i q) else at_port i q) ≤ count (at_port i q)
      by_test true is =
          let parts = and_parts (is_same p k) (id.0 == n) is in
          let port : port_index k ≡ i = ap port_index (sym (same_number p k parts.0)) in
          let here : (port_index k == i) ≡ true = ap (λ (j : ℕ). j == i) port ∙ same_self i in
          let oldest : IsOldest id.0 v (at_port i q) = subst (λ (j : ℕ). IsOldest id.0 v (at_port j q)) port (h.got_is_oldest t k id v refl) in
          rw here (count_oldest id.0 v (at_port i q) oldest (same_means id.0 n parts.1))
      by_test false is = omega (arith, count_less ((port_index k == i) && nat_lt 0 (length (at_port i q))) (at_port i q))
  count_remains q m h = omega arith

  anew_gets_none : (q : Mail) (m : Mark) → begins_anew i q m ≡ true → is_get_of p n m ≡ false
  anew_gets_none q (mark.Answered t (call.PortGet k) (Msg id v)) h = absurd (true≢false (sym h))
  anew_gets_none q m h = refl

  -- gets are at most as many as went there, without those that wait
  count_after : (x : Traffic) (m : Mark) (gets : ℕ) → IsInOrderAt (waits x.mail) m → gets + count (at_port i x.mail) ≤ count x.ever → gets + cond (is_get_of p n m) 1 0 + count (at_port i (mail_after x.mail m)) ≤ count (x.ever ++ arrives_at i x.mail m)
  count_after x m gets said h = rw (queue_after i x.mail m) (by_test (begins_anew i x.mail m) refl)
    where
      by_test : (b : Bool) → begins_anew i x.mail m ≡ b → gets + cond (is_get_of p n m) 1 0 + count (if b then [] else remains i x.mail m ++ arrives_at i x.mail m) ≤ count (x.ever ++ arrives_at i x.mail m)
      by_test true anew = rw (anew_gets_none x.mail m anew) (omega (arith, h, count_append x.ever (arrives_at i x.mail m)))
      by_test false on = omega (arith, h, count_remains x.mail m said, count_append (remains i x.mail m) (arrives_at i x.mail m), count_append x.ever (arrives_at i x.mail m))

  count_along : (x : Traffic) (ms : List Mark) (gets : ℕ) → ((before later : List Mark) (m : Mark) → ms ≡ before ++ m ∷ later → IsInOrderAt (waits (fold mail_after x.mail before)) m)
      → gets + count (at_port i x.mail) ≤ count x.ever → gets + count_by (is_get_of p n) ms ≤ count (fold (traffic_after i) x ms).ever
  count_along x [] gets said h = omega (arith, h)
  count_along x (m ∷ ms) gets said h =
      let rest = count_along (traffic_after i x m) ms (gets + cond (is_get_of p n m) 1 0) (λ before later k e. said (m ∷ before) later k (ap (λ (ks : List Mark). m ∷ ks) e)) (count_after x m gets (said [] ms m refl) h) in
      omega (arith, rest, sum_by-cons (λ (m : Mark). cond (is_get_of p n m) 1 0) m ms)

pub got_as_sent : (marks : List Mark) → InOrder marks → AreGotNoMoreThanSent marks
got_as_sent marks h p n = let all = count_along p n no_traffic marks 0 h (omega arith) in omega (arith, all)
