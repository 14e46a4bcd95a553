-- The messages that lawful marks tell of are those that the book has, at each port that is there. So who gets a message gets the oldest.
use Rattle.std.proofs.Common.{◌≡◌, ◌≢◌, ℕ, zero, suc, ◌+◌, ◌*◌, ◌==◌, ◌&&◌, ◌||◌, Bool, true, false, if◌then◌else◌, ℤ, pos, negsuc, List, [], ◌∷◌, ◌++◌, length, map, fold, Option, Some, None, is_some, option_map, Ok, refl, sym, ◌∙◌, ap, ap₂, subst, arith}
use Rattle.std.proofs.lemmas.List.{map-append, length-map}
use Rattle.std.proofs.lemmas.Bool.{true≢false}
use Rattle.pth_base.specs.Table.{put}
use Rattle.pth_base.specs.declared.act.Act.TheVariants as act
use Rattle.pth_base.specs.declared.answer.Answer.{Answer}
use Rattle.pth_base.specs.declared.answer.Answer.TheVariants.{Int, Msg}
use Rattle.pth_base.specs.declared.call.Call.{Call}
use Rattle.pth_base.specs.declared.call.Call.TheVariants as call
use Rattle.pth_base.specs.declared.ids.Tid.{Tid}
use Rattle.pth_base.specs.declared.mark.Mark.{Mark}
use Rattle.pth_base.specs.declared.mark.Mark.TheVariants as mark
use Rattle.pth_base.proofs.Tables.{not_same, put_by, put_here, put_other}
use Rattle.pth_numbered.specs.Operands.{number, is_zero}
use Rattle.pth_port.specs.Mail.{Mail, Message, is_live, is_port, messages_of, messages_at, no_mail, oldest, with_port, put_to, sent, sent_back, got, replied, closed_port}
use Rattle.pth_model.specs.Resources.{on_one, on_int, told, act_told, answer_told}
use Rattle.pth_model.specs.Store.{Resources}
use Rattle.pth_laws.specs.InOrder.{port_index, reply_index, by_index, mail_after, mail, queue, IsOldest, IsInOrderAt, InOrder}
use Rattle.pth_laws.specs.Marks.{at_number}
use Rattle.pth_laws.proofs.Book.{Book, empty_book, after, book_of}
use Rattle.pth_laws.proofs.Laws.{EachMark, IsLawful, IsExclusiveMark, IsAnswerExclusive, MayPut, HasOldest, HasNoMessage, HasMessages}
use Rattle.pth_laws.proofs.Prefixes.{each_at}

-- ---- ports by the numbers of the marks

-- the index that the marks have for port n: 0 is none
abbrev place : ℕ → ℕ
place n = reply_index (pos n)

place_apart : (m n : ℕ) → place m ≡ place n → m ≡ n
place_apart zero zero h = refl
place_apart zero (suc n) h = absurd (omega arith)
place_apart (suc m) zero h = absurd (omega arith)
place_apart (suc m) (suc n) h = omega arith

place_none : (n : ℕ) → (place n == 0) ≡ (n == 0)
place_none zero = refl
place_none (suc n) = not_same (2 * suc n + 1) 0 (omega arith) ∙ sym (not_same (suc n) 0 (omega arith))

-- a table and one that is had of it, both changed at one place
put_as : {A B : Type 0} (to : ℕ → ℕ) (apart : (i j : ℕ) → to i ≡ to j → i ≡ j) (g : A → B) (f : ℕ → A) (h : ℕ → B) (k : ℕ) (x : A) (y : B) → y ≡ g x → ((i : ℕ) → h (to i) ≡ g (f i)) → (i : ℕ) → put h (to k) y (to i) ≡ g (put f k x i)
put_as {A = A} to apart g f h k x y is same i =
    put_by (λ (z : A). put h (to k) y (to i) ≡ g z) f k x i
    (λ here. ap (λ (j : ℕ). put h (to k) y (to j)) here ∙ (put_here h (to k) y ∙ is))
    (λ other. put_other h (to k) y (to i) (λ at. other (apart i k at)) ∙ same i)

some_map : {A B : Type 0} (g : A → B) (o : Option A) → is_some (option_map g o) ≡ is_some o
some_map g None = refl
some_map g (Some a) = refl

messages_map : (o : Option (List Message)) → messages_of (option_map (map by_index) o) ≡ map by_index (messages_of o)
messages_map None = refl
messages_map (Some ms) = refl

-- r has the messages of q by the indices of the ports, and no others; and no port is 0
pub record MailFits (q r : Mail) : Type 0 where
  pub at : (p : ℕ) → r.at (place p) ≡ option_map (map by_index) (q.at p)
  pub kept : (n : ℕ) → r.kept n ≡ option_map by_index (q.kept n)
  pub made : r.made ≡ q.made
  pub none : q.at 0 ≡ None
  pub others : (i : ℕ) → ((p : ℕ) → i ≢ place p) → r.at i ≡ None

-- ---- changes of the messages

module _ (q r : Mail) (f : MailFits q r) where
  live_as : (p : ℕ) → is_live r (place p) ≡ is_live q p
  live_as p = ap is_some (f.at p) ∙ some_map (map by_index) (q.at p)

  messages_as : (p : ℕ) → messages_of (r.at (place p)) ≡ map by_index (messages_of (q.at p))
  messages_as p = ap messages_of (f.at p) ∙ messages_map (q.at p)

  not_none : (p : ℕ) → is_live q p ≡ true → p ≡ 0 → ⊥
  not_none p live here = true≢false (sym live ∙ (ap (λ (i : ℕ). is_some (q.at i)) here ∙ ap is_some f.none))

  -- port p has other messages, or is gone
  port_changed : (p : ℕ) (ms os : Option (List Message)) → (p ≡ 0 → ms ≡ None) → os ≡ option_map (map by_index) ms → MailFits (record q { at = put q.at p ms }) (record r { at = put r.at (place p) os })
  port_changed p ms os gone is = record {
    at = put_as place place_apart (option_map (map by_index)) q.at r.at p ms os is f.at;
    kept = f.kept;
    made = f.made;
    none = put_by (λ (o : Option (List Message)). o ≡ None) q.at p ms 0 (λ here. gone (sym here)) (λ other. f.none);
    others = λ i far. put_other r.at (place p) os i (far p) ∙ f.others i far;
  }

  -- message n is kept, or no longer
  kept_changed : (n : ℕ) (m : Option Message) → MailFits (record q { kept = put q.kept n m }) (record r { kept = put r.kept n (option_map by_index m) })
  kept_changed n m = record {
    at = f.at;
    kept = put_as (λ (i : ℕ). i) (λ i j same. same) (option_map by_index) q.kept r.kept n m (option_map by_index m) refl f.kept;
    made = f.made;
    none = f.none;
    others = f.others;
  }

  one_made : MailFits (record q { made = q.made + 1 }) (record r { made = r.made + 1 })
  one_made = record { at = f.at; kept = f.kept; made = ap (λ (n : ℕ). n + 1) f.made; none = f.none; others = f.others }

  sent_if : (p : ℕ) (m : Message) (b : Bool) → is_live q p ≡ b → MailFits (record q { at = if b then put q.at p (Some (messages_of (q.at p) ++ m ∷ [])) else q.at }) (record r { at = if b then put r.at (place p) (Some (messages_of (r.at (place p)) ++ by_index m ∷ [])) else r.at })
  sent_if p m true live =
      port_changed p (Some (messages_of (q.at p) ++ m ∷ [])) (Some (messages_of (r.at (place p)) ++ by_index m ∷ [])) (λ here. absurd (not_none p live here))
      (ap Some (ap (λ (ms : List Message). ms ++ by_index m ∷ []) (messages_as p) ∙ sym (map-append by_index (messages_of (q.at p)) (m ∷ []))))
  sent_if p m false live = f

  -- a message goes to port p
  sent_as : (p : ℕ) (m : Message) → MailFits (sent p m q) (sent (place p) (by_index m) r)
  sent_as p m = subst (λ (b : Bool). MailFits (sent p m q) (record r { at = if b then put r.at (place p) (Some (messages_of (r.at (place p)) ++ by_index m ∷ [])) else r.at })) (sym (live_as p)) (sent_if p m (is_live q p) refl)

  made_if : (i : ℕ) (b : Bool) → MailFits (if b then q else record q { at = put q.at (suc i) (Some []) }) (if b then r else record r { at = put r.at (place (suc i)) (Some []) })
  made_if i true = f
  made_if i false = port_changed (suc i) (Some []) (Some []) (λ here. absurd (omega (arith, here))) refl

  -- a port is made
  made_as : (i : ℕ) → MailFits (with_port (suc i) q) (with_port (place (suc i)) r)
  made_as i = subst (λ (b : Bool). MailFits (with_port (suc i) q) (if b then r else record r { at = put r.at (place (suc i)) (Some []) })) (sym (live_as (suc i))) (made_if i (is_live q (suc i)))

module _ (q r : Mail) (f : MailFits q r) where
  -- a message is put
  put_if : (p : ℕ) (v : ℤ) (o : ℕ) (b : Bool) → MailFits (if b then sent p (record { number = q.made + 1; value = v; reply = o }) (record q { made = q.made + 1 }) else q) (if b then sent (place p) (record { number = r.made + 1; value = v; reply = place o }) (record r { made = r.made + 1 }) else r)
  put_if p v o true =
      let x = record q { made = q.made + 1 } in
      let y = record r { made = r.made + 1 } in
      subst (λ (n : ℕ). MailFits (sent p (record { number = q.made + 1; value = v; reply = o }) x) (sent (place p) (record { number = n + 1; value = v; reply = place o }) y)) (sym f.made)
      (sent_as x y (one_made q r f) p (record { number = q.made + 1; value = v; reply = o }))
  put_if p v o false = f

  put_is : (p : ℕ) (v : ℤ) (o : ℕ) → MailFits (put_to p v o q) (put_to (place p) v (place o) r)
  put_is p v o =
      let test : (is_live r (place p) && ((place o == 0) || is_live r (place o))) ≡ (is_live q p && ((o == 0) || is_live q o)) = ap₂ (λ (a b : Bool). a && b) (live_as q r f p) (ap₂ (λ (a b : Bool). a || b) (place_none o) (live_as q r f o)) in
      subst (λ (b : Bool). MailFits (put_to p v o q) (if b then sent (place p) (record { number = r.made + 1; value = v; reply = place o }) (record r { made = r.made + 1 }) else r)) (sym test)
      (put_if p v o (is_live q p && ((o == 0) || is_live q o)))

  -- the oldest message of a port is taken
  got_as : (p : ℕ) (ms : List Message) → is_live q p ≡ true → MailFits (got p ms q) (got (place p) (map by_index ms) r)
  got_as p [] live = f
  got_as p (m ∷ ms) live =
      let x = record q { at = put q.at p (Some ms) } in
      let y = record r { at = put r.at (place p) (Some (map by_index ms)) } in
      let taken : MailFits x y = port_changed q r f p (Some ms) (Some (map by_index ms)) (λ here. absurd (not_none q r f p live here)) refl in
      subst (λ (b : Bool). MailFits (got p (m ∷ ms) q) (record y { kept = if b then r.kept else put r.kept m.number (Some (by_index m)) })) (sym (place_none m.reply)) (kept_of x y taken m (m.reply == 0))
    where
      kept_of : (x y : Mail) → MailFits x y → (m : Message) (b : Bool) → MailFits (record x { kept = if b then x.kept else put x.kept m.number (Some m) }) (record y { kept = if b then y.kept else put y.kept m.number (Some (by_index m)) })
      kept_of x y g m true = g
      kept_of x y g m false = kept_changed x y g m.number (Some m)

  replied_if : (v : ℤ) (m : Message) (b : Bool) → MailFits (if b then sent m.reply (record m { value = v; reply = 0 }) (record q { kept = put q.kept m.number None }) else q) (if b then sent (place m.reply) (record m { value = v; reply = 0 }) (record r { kept = put r.kept m.number None }) else r)
  replied_if v m true = sent_as (record q { kept = put q.kept m.number None }) (record r { kept = put r.kept m.number None }) (kept_changed q r f m.number None) m.reply (record m { value = v; reply = 0 })
  replied_if v m false = f

  -- a kept message goes back
  replied_as : (v : ℤ) (o : Option Message) → MailFits (replied v o q) (replied v (option_map by_index o) r)
  replied_as v None = f
  replied_as v (Some m) = subst (λ (b : Bool). MailFits (replied v (Some m) q) (if b then sent (place m.reply) (record m { value = v; reply = 0 }) (record r { kept = put r.kept m.number None }) else r)) (sym (live_as q r f m.reply)) (replied_if v m (is_live q m.reply))

sent_back_as : (ms : List Message) (q r : Mail) → MailFits q r → MailFits (sent_back ms q) (sent_back (map by_index ms) r)
sent_back_as [] q r f = f
sent_back_as (m ∷ ms) q r f = let n = record m { reply = 0 } in sent_back_as ms (sent m.reply n q) (sent (place m.reply) n r) (sent_as q r f m.reply n)

-- a port is destroyed
closed_as : (q r : Mail) → MailFits q r → (p : ℕ) → MailFits (closed_port p q) (closed_port (place p) r)
closed_as q r f p =
    let x = record q { at = put q.at p None } in
    let y = record r { at = put r.at (place p) None } in
    subst (λ (ms : List Message). MailFits (closed_port p q) (sent_back ms y)) (sym (messages_as q r f p)) (sent_back_as (messages_of (q.at p)) x y (port_changed q r f p None None (λ here. refl) refl))

-- ---- operands

module _ (q r : Mail) (f : MailFits q r) where
  -- a port that is there has a number from 1 on
  index_as : (p : ℤ) → is_port q p ≡ true → port_index p ≡ place (number p)
  index_as (pos zero) there = absurd (not_none q r f 0 there refl)
  index_as (pos (suc n)) there = refl
  index_as (negsuc n) there = absurd (not_none q r f 0 there refl)

  reply_as : (p : ℤ) → (is_zero p || is_port q p) ≡ true → reply_index p ≡ place (number p)
  reply_as (pos zero) there = refl
  reply_as (pos (suc n)) there = refl
  reply_as (negsuc n) there = absurd (not_none q r f 0 there refl)

  -- at any other number there is none
  pub ports_as : (p : ℤ) → r.at (port_index p) ≡ option_map (map by_index) (at_number None q.at p)
  ports_as (pos zero) = f.others 1 (λ p. no_place p) ∙ sym (ap (option_map (map by_index)) f.none)
    where
      no_place : (p : ℕ) → 1 ≢ place p
      no_place zero h = absurd (omega (arith, h))
      no_place (suc p) h = absurd (omega (arith, h))
  ports_as (pos (suc n)) = f.at (suc n)
  ports_as (negsuc n) = f.others (2 * n + 2) (λ p. no_place p)
    where
      no_place : (p : ℕ) → 2 * n + 2 ≢ place p
      no_place zero h = absurd (omega (arith, h))
      no_place (suc p) h = absurd (omega (arith, h))

  waiting_as : (p : ℤ) → is_port q p ≡ true → messages_of (r.at (port_index p)) ≡ map by_index (messages_at q p)
  waiting_as p there = ap (λ (i : ℕ). messages_of (r.at i)) (index_as p there) ∙ messages_as q r f (number p)

  may_put : (p v o : ℤ) → MayPut q p o → MailFits (put_to (number p) v (number o) q) (put_to (port_index p) v (reply_index o) r)
  may_put p v o may =
      subst (λ (i : ℕ). MailFits (put_to (number p) v (number o) q) (put_to i v (reply_index o) r)) (sym (index_as p may.there))
      (subst (λ (i : ℕ). MailFits (put_to (number p) v (number o) q) (put_to (place (number p)) v i r)) (sym (reply_as o may.reply)) (put_is q r f (number p) v (number o)))

  gets : (p : ℤ) → is_port q p ≡ true → MailFits (got (number p) (messages_at q p) q) (got (port_index p) (messages_of (r.at (port_index p))) r)
  gets p there =
      subst (λ (ms : List Message). MailFits (got (number p) (messages_at q p) q) (got (port_index p) ms r)) (sym (waiting_as p there))
      (subst (λ (i : ℕ). MailFits (got (number p) (messages_at q p) q) (got i (map by_index (messages_at q p)) r)) (sym (index_as p there)) (got_as q r f (number p) (messages_at q p) there))

  closes : (p : ℤ) → is_port q p ≡ true → MailFits (closed_port (number p) q) (closed_port (port_index p) r)
  closes p there = subst (λ (i : ℕ). MailFits (closed_port (number p) q) (closed_port i r)) (sym (index_as p there)) (closed_as q r f (number p))

  replies : (v : ℤ) (n : ℕ) → MailFits (replied v (q.kept n) q) (replied v (r.kept n) r)
  replies v n = subst (λ (o : Option Message). MailFits (replied v (q.kept n) q) (replied v o r)) (sym (f.kept n)) (replied_as q r f v (q.kept n))

-- ---- one mark

module _ (k : Resources) (r : Mail) (f : MailFits k.store.mail r) where
  abbrev q : Mail
  q = k.store.mail

  abbrev Fits : Resources → Type 0
  Fits l = MailFits l.store.mail r

  fits_one : (a : Answer) (l : Resources) → Fits l → Fits (on_one a k l)
  fits_one (Int (pos (suc zero))) l h = h
  fits_one a l h = f

  fits_int : (a : Answer) (g : ℤ → Resources) → ((n : ℤ) → Fits (g n)) → Fits (on_int a k g)
  fits_int (Int n) g h = h n
  fits_int a g h = f

  fits_if : (b : Bool) (l h : Resources) → Fits l → Fits h → Fits (if b then l else h)
  fits_if true l h x y = x
  fits_if false l h x y = y

  answered_mail : (u : Tid) (c : Call) (a : Answer) → IsAnswerExclusive k u.0 c a → MailFits (answer_told k u.0 c a).store.mail (mail_after r (mark.Answered u c a))
  unfolding answer_told
  answered_mail u (call.PortCreate name) (Int n) law = subst (λ (z : ℤ). MailFits (with_port (number z) q) (with_port (port_index z) r)) (sym law.1) (made_as q r f law.0)
  answered_mail u (call.PortCreate name) a law = f
  answered_mail u (call.PortPut p v o) (Int n) law = subst (λ (z : ℤ). MailFits (put_to (number p) v (number o) q) (mail_after r (mark.Answered u (call.PortPut p v o) (Int z)))) (sym law.0) (may_put q r f p v o law.1)
  answered_mail u (call.PortPut p v o) a law = f
  answered_mail u (call.PortGet p) (Msg id v) law = gets q r f p law.there
  answered_mail u (call.PortGet p) a law = f
  answered_mail u (call.Reply m v) (Int n) law = subst (λ (z : ℤ). MailFits (replied v (q.kept (number m)) q) (mail_after r (mark.Answered u (call.Reply m v) (Int z)))) (sym law.0) (replies q r f v (number m))
  answered_mail u (call.Reply m v) a law = f
  answered_mail u (call.PortDestroy p) (Int n) law = subst (λ (z : ℤ). MailFits (closed_port (number p) q) (mail_after r (mark.Answered u (call.PortDestroy p) (Int z)))) (sym law.0) (closes q r f p law.1)
  answered_mail u (call.PortDestroy p) a law = f
  answered_mail u (call.CleanupPush h v) a law = fits_one a _ f
  answered_mail u (call.CleanupPop v) a law = fits_one a _ f
  answered_mail u (call.KeyCreate h) a law = fits_int a _ (λ n. f)
  answered_mail u (call.KeyDelete key) a law = fits_one a _ f
  answered_mail u (call.KeySet key v) a law = fits_one a _ f
  answered_mail u (call.MutexInit m) a law = fits_int a _ (λ n. f)
  answered_mail u (call.MutexAcquire m v e) a law = fits_int a _ (λ n. f)
  answered_mail u (call.MutexRelease m) a law = fits_int a _ (λ n. f)
  answered_mail u (call.RwInit l) a law = fits_int a _ (λ n. f)
  answered_mail u (call.RwAcquire l write v e) a law = fits_int a _ (λ n. f)
  answered_mail u (call.RwRelease l) a law = fits_int a _ (λ n. f)
  answered_mail u (call.CondAwait c m e) a law = fits_if (k.awaits u.0) _ k f f
  answered_mail u call.Kill a law = fits_int a _ (λ n. f)
  answered_mail u c a law = f

told_mail : (b : Book) (r : Mail) (m : Mark) → IsExclusiveMark b m → MailFits b.resources.store.mail r → MailFits (told b.resources m).store.mail (mail_after r m)
unfolding told act_told answer_told
told_mail b r (mark.Answered u c a) law f = answered_mail b.resources r f u c a law
told_mail b r (mark.Acted u (act.Put p v) (Int n)) law f = let q = b.resources.store.mail in subst (λ (z : ℤ). MailFits (put_to (number p) v 0 q) (mail_after r (mark.Acted u (act.Put p v) (Int z)))) (sym law.0) (may_put q r f p v (pos 0) law.1)
told_mail b r (mark.Acted u (act.Put p v) a) law f = f
told_mail b r (mark.Acted u (act.Release m) a) law f = fits_int b.resources r f a _ (λ n. f)
told_mail b r (mark.Acted u (act.SetKey key v) a) law f = fits_one b.resources r f a _ f
told_mail b r (mark.Waits u (call.CondAwait c m e)) law f = fits_if b.resources r f (b.resources.awaits u.0) b.resources _ f f
told_mail b r m law f = f

-- ---- all marks

mail_along : (b : Book) (r : Mail) (ms : List Mark) → EachMark IsLawful b ms → MailFits b.resources.store.mail r → MailFits (book_of b ms).resources.store.mail (fold mail_after r ms)
mail_along b r [] law f = f
mail_along b r (m ∷ ms) law f = mail_along (after b m) (mail_after r m) ms law.1 (told_mail b r m law.0.1 f)

mail_fits_none : MailFits empty_book.resources.store.mail no_mail
mail_fits_none = record { at = λ p. refl; kept = λ n. refl; made = refl; none = refl; others = λ i far. refl }

oldest_is : (n : ℕ) (v : ℤ) (ms : List Message) → oldest ms ≡ Ok (n, v) → IsOldest n v (map by_index ms)
oldest_is n v [] h = absurd cc
oldest_is n v (m ∷ ms) h = let first : ℕ × ℤ = (m.number, m.value) in let same : first ≡ (n, v) = cc in (ap (λ (x : ℕ × ℤ). x.0) same, ap (λ (x : ℕ × ℤ). x.1) same)

module _ (q : Mail) (before : List Mark) (f : MailFits q (mail before)) where
  waiting : (p : ℤ) → is_port q p ≡ true → queue before p ≡ map by_index (messages_at q p)
  waiting p there = waiting_as q (mail before) f p there

  got_is : (p : ℤ) (n : ℕ) (v : ℤ) → HasOldest q p n v → IsOldest n v (queue before p)
  got_is p n v h = subst (IsOldest n v) (sym (waiting p h.there)) (oldest_is n v (messages_at q p) h.first)

  none_are : (p : ℤ) → HasNoMessage q p → queue before p ≡ []
  none_are p h = waiting p h.there ∙ ap (map by_index) h.none

  count_is : (p n : ℤ) → HasMessages q p n → n ≡ pos (length (queue before p))
  count_is p n h = h.count ∙ sym (ap (λ (ms : List Message). pos (length ms)) (waiting p h.there) ∙ ap pos (length-map (messages_at q p) by_index))

in_order_at : (b : Book) (before : List Mark) → MailFits b.resources.store.mail (mail before) → (m : Mark) → IsExclusiveMark b m → IsInOrderAt (queue before) m
in_order_at b before f m law =
    let q = b.resources.store.mail in
    record {
      got_is_oldest = λ t p id v is. got_is q before f p id.0 v (subst (IsExclusiveMark b) is law);
      none_is_there = λ t p is. none_are q before f p (subst (IsExclusiveMark b) is law);
      as_many_are_there = λ t p n is. count_is q before f p n (subst (IsExclusiveMark b) is law);
    }

-- what these marks tell of messages is what the book has
pub mail_told : (marks : List Mark) → EachMark IsLawful empty_book marks → MailFits (book_of empty_book marks).resources.store.mail (mail marks)
mail_told marks h = mail_along empty_book no_mail marks h mail_fits_none

pub lawful_in_order : (marks : List Mark) → EachMark IsLawful empty_book marks → InOrder marks
lawful_in_order marks h before later m e =
    let at = each_at IsLawful empty_book marks before later m e h in
    in_order_at (book_of empty_book before) before (mail_told before at.0) m at.1.1
