-- The keys that are live by the marks, and the values of a thread, are those that the book has of them; and so is its next destructor.
use Rattle.std.proofs.Common.{◌≡◌, ◌<◌, ◌≤◌, ℕ, zero, suc, ◌+◌, ◌==◌, ◌&&◌, nat_le, nat_lt, int_le, int_lt, ℤ, pos, negsuc, Bool, true, false, if◌then◌else◌, List, [], ◌∷◌, ◌++◌, Option, Some, None, is_some, refl, sym, ◌∙◌, ◌⊎◌, ap, subst, inl, inr, append_assoc, append-nil, arith}
use Rattle.std.specs.List.{list_any}
use Rattle.std.proofs.lemmas.Bool.Decides.{nat_tests}
use Rattle.std.proofs.lemmas.List.Sums.{fold-append}
use Rattle.std.proofs.lemmas.Bool.{true≢false, or_parts}
use Rattle.std.proofs.lemmas.Option.{none-some}
use Rattle.pth_base.specs.Table.{put}
use Rattle.pth_base.specs.declared.act.Act.TheVariants as act
use Rattle.pth_base.specs.declared.answer.Answer.{Answer}
use Rattle.pth_base.specs.declared.answer.Answer.TheVariants.{Int, Msg}
use Rattle.pth_base.specs.declared.call.Call.{Call}
use Rattle.pth_base.specs.declared.call.Call.TheVariants as call
use Rattle.pth_base.specs.declared.ids.HandlerId.{HandlerId}
use Rattle.pth_base.specs.declared.ids.Tid.{Tid}
use Rattle.pth_base.specs.declared.mark.Mark.{Mark}
use Rattle.pth_base.specs.declared.mark.Mark.TheVariants as mark
use Rattle.pth_base.proofs.Tables.{same_self, same_means, same_fails, not_same, put_by, put_other}
use Rattle.pth_numbered.specs.Operands.{is_zero}
use Rattle.pth_store.specs.Keys.{Tables, key_limit, is_unset, created, deleted, with_key_value, forgotten}
use Rattle.pth_model.specs.declared.destructors.Due.{Due}
use Rattle.pth_model.specs.declared.destructors.DestructorRound.{DestructorRound}
use Rattle.pth_model.specs.Ending.{round_limit}
use Rattle.pth_model.specs.Resources.{destructor_by, on_one, on_int, on_msg, told, answer_told, act_told}
use Rattle.pth_model.specs.Store.{Resources}
use Rattle.pth_laws.specs.Destructors.{Owes as KeyOwes, NoneOwes as NoKeyOwes, IsFirst, IsNextDue, IsNoneDue}
use Rattle.pth_laws.specs.Orderly.{key_after, key_at, value_after, value_of, Stage, is_later, Owes, NoneOwes, IsLeast, IsNext, IsNoneNext}
use Rattle.pth_laws.proofs.Book.{Book, is_kill, empty_book, after, book_of}
use Rattle.pth_laws.proofs.Laws.{EachMark, IsKey, IsLawful, IsExclusiveMark, IsAnswerExclusive}

some_is : {A : Type 0} (x : A) (o : Option A) → o ≡ Some x → is_some o ≡ true
some_is x o h = rw h refl

-- there are the keys of 0 to 255 alone
abbrev pub AreKnown : Tables → Type 0
AreKnown x = (i : ℕ) → is_some (x.keys i) ≡ true → i < key_limit

unknown : (o : Option (Option HandlerId)) → (is_some o ≡ true → ⊥) → o ≡ None
unknown None h = refl
unknown (Some d) h = absurd (h refl)

-- a table that is put at one place
at_place : {A : Type 0} (f : ℕ → A) (k : ℕ) (v : A) (i : ℕ) → (if i == k then v else f i) ≡ put f k v i
unfolding put
at_place f k v i = refl

-- ---- one mark

module _ (t : ℕ) where
  -- after a mark m the keys and values are these
  pub record KeyStep (x y : Tables) (m : Mark) : Type 0 where
    pub keys : (i : ℕ) → key_after (pos i) (x.keys i) m ≡ y.keys i
    pub low : (i : ℕ) → key_after (negsuc i) None m ≡ None
    pub known : AreKnown y
    pub values : (i : ℕ) → i < key_limit → value_after t (pos i) (x.values i t) m ≡ y.values i t

  module _ (x : Tables) (known : AreKnown x) where
    quiet : (m : Mark) → ((z : ℤ) (o : Option (Option HandlerId)) → key_after z o m ≡ o) → ((z v : ℤ) → value_after t z v m ≡ v) → KeyStep x x m
    quiet m keys values = record { keys = λ i. keys (pos i) (x.keys i); low = λ i. keys (negsuc i) None; known = known; values = λ i below. values (pos i) (x.values i t) }

    -- a key is made
    made : (u : Tid) (h : Option ℤ) (i : ℕ) → i < key_limit → KeyStep x (created i (destructor_by h) x) (mark.Answered u (call.KeyCreate h) (Int (pos i)))
    made u h i below = record {
      keys = λ j. at_place x.keys i (Some (destructor_by h)) j;
      low = λ j. refl;
      known = λ j. put_by (λ o. is_some o ≡ true → j < key_limit) x.keys i (Some (destructor_by h)) j (λ here some. subst (λ (n : ℕ). n < key_limit) (sym here) below) (λ other. known j);
      values = λ j low. zeroed j (j == i) ∙ ap (λ (row : ℕ → ℤ). row t) (at_place x.values i (λ _. pos 0) j);
    }
      where
        zeroed : (j : ℕ) (b : Bool) → (if b then pos 0 else x.values j t) ≡ (if b then (λ (n : ℕ). pos 0) else x.values j) t
        zeroed j true = refl
        zeroed j false = refl

    -- a key ends
    gone : (i : ℕ) (m : Mark) → ((j : ℕ) (o : Option (Option HandlerId)) → key_after (pos j) o m ≡ (if j == i then None else o)) → ((j : ℕ) → key_after (negsuc j) None m ≡ None) → ((j : ℕ) (v : ℤ) → value_after t (pos j) v m ≡ (if j == i then pos 0 else v)) → KeyStep x (deleted i x) m
    gone i m keys low values = record {
      keys = λ j. keys j (x.keys j) ∙ at_place x.keys i None j;
      low = low;
      known = λ j. put_by (λ o. is_some o ≡ true → j < key_limit) x.keys i None j (λ here some. absurd (true≢false (sym some))) (λ other. known j);
      values = λ j below. values j (x.values j t) ∙ (zeroed j (j == i) ∙ ap (λ (row : ℕ → ℤ). row t) (at_place x.values i (λ _. pos 0) j));
    }
      where
        zeroed : (j : ℕ) (b : Bool) → (if b then pos 0 else x.values j t) ≡ (if b then (λ (n : ℕ). pos 0) else x.values j) t
        zeroed j true = refl
        zeroed j false = refl

    -- one ends that there is not
    gone_past : (m : Mark) → ((j : ℕ) (o : Option (Option HandlerId)) → key_after (pos j) o m ≡ o) → ((j : ℕ) → key_after (negsuc j) None m ≡ None) → ((j : ℕ) (v : ℤ) → value_after t (pos j) v m ≡ v) → KeyStep x (deleted key_limit x) m
    gone_past m keys low values = record {
      keys = λ j. keys j (x.keys j) ∙ put_by (λ o. x.keys j ≡ o) x.keys key_limit None j (λ here. unknown (x.keys j) (λ some. let below = known j some in absurd (omega (arith, below, here)))) (λ other. refl);
      low = low;
      known = λ j. put_by (λ o. is_some o ≡ true → j < key_limit) x.keys key_limit None j (λ here some. absurd (true≢false (sym some))) (λ other. known j);
      values = λ j below. values j (x.values j t) ∙ ap (λ (row : ℕ → ℤ). row t) (sym (put_other x.values key_limit (λ _. pos 0) j (λ here. absurd (omega (arith, below, here)))));
    }

    -- u has a value under a key, and under one that there is not
    valued : (u i : ℕ) (v : ℤ) (m : Mark) → ((z : ℤ) (o : Option (Option HandlerId)) → key_after z o m ≡ o) → ((j : ℕ) (w : ℤ) → value_after t (pos j) w m ≡ (if (j == i) && (u == t) then v else w)) → KeyStep x (with_key_value u i v x) m
    valued u i v m keys values = record {
      keys = λ j. keys (pos j) (x.keys j);
      low = λ j. keys (negsuc j) None;
      known = known;
      values = λ j below. values j (x.values j t) ∙ put_by (λ (row : ℕ → ℤ). (if (j == i) && (u == t) then v else x.values j t) ≡ row t) x.values i (put (x.values i) u v) j (λ here. at_key j here) (λ other. ap (λ (b : Bool). if b && (u == t) then v else x.values j t) (not_same j i other));
    }
      where
        at_thread : (b : Bool) → (u == t) ≡ b → (if b then v else x.values i t) ≡ put (x.values i) u v t
        at_thread true same = sym (put_by (λ (w : ℤ). w ≡ v) (x.values i) u v t (λ here. refl) (λ other. absurd (other (sym (same_means u t same)))))
        at_thread false other = sym (put_other (x.values i) u v t (λ same. same_fails u t other (sym same)))

        at_key : (j : ℕ) → j ≡ i → (if (j == i) && (u == t) then v else x.values j t) ≡ put (x.values i) u v t
        at_key j here = rw here (ap (λ (b : Bool). if b && (u == t) then v else x.values i t) (same_self i) ∙ at_thread (u == t) refl)

    valued_past : (u : ℕ) (v : ℤ) (m : Mark) → ((z : ℤ) (o : Option (Option HandlerId)) → key_after z o m ≡ o) → ((j : ℕ) (w : ℤ) → value_after t (pos j) w m ≡ w) → KeyStep x (with_key_value u key_limit v x) m
    valued_past u v m keys values = record {
      keys = λ j. keys (pos j) (x.keys j);
      low = λ j. keys (negsuc j) None;
      known = known;
      values = λ j below. values j (x.values j t) ∙ ap (λ (row : ℕ → ℤ). row t) (sym (put_other x.values key_limit (put (x.values key_limit) u v) j (λ here. absurd (omega (arith, below, here)))));
    }

    -- u ends
    ends : (u : Tid) (v : ℤ) → KeyStep x (forgotten u.0 x) (mark.Ended u v)
    ends u v = record {
      keys = λ j. refl;
      low = λ j. refl;
      known = known;
      values = λ j below. put_by (λ (w : ℤ). (if u.0 == t then pos 0 else x.values j t) ≡ w) (x.values j) u.0 (pos 0) t (λ here. by_test (x.values j t) (u.0 == t) refl (sym here)) (λ other. ap (λ (b : Bool). if b then pos 0 else x.values j t) (not_same u.0 t (λ same. other (sym same))));
    }
      where
        by_test : (w : ℤ) (b : Bool) → (u.0 == t) ≡ b → u.0 ≡ t → (if b then pos 0 else w) ≡ pos 0
        by_test w true is same = refl
        by_test w false is same = absurd (same_fails u.0 t is same)

  module _ (k : Resources) (known : AreKnown k.store.keys) where
    abbrev Step : Resources → Mark → Type 0
    Step l m = KeyStep k.store.keys l.store.keys m

    step_one : (a : Answer) (g : Resources) (m : Mark) → Step k m → Step g m → Step (on_one a k g) m
    step_one (Int (pos (suc zero))) g m none some = some
    step_one a g m none some = none

    step_int : (a : Answer) (g : ℤ → Resources) (m : Mark) → Step k m → ((n : ℤ) → Step (g n) m) → Step (on_int a k g) m
    step_int (Int n) g m none some = some n
    step_int a g m none some = none

    step_msg : (a : Answer) (g : Resources) (m : Mark) → Step k m → Step g m → Step (on_msg a k g) m
    step_msg (Msg id v) g m none some = some
    step_msg a g m none some = none

    step_if : (b : Bool) (f g : Resources) (m : Mark) → Step f m → Step g m → Step (if b then f else g) m
    step_if true f g m some none = some
    step_if false f g m some none = none

    still : (m : Mark) → ((z : ℤ) (o : Option (Option HandlerId)) → key_after z o m ≡ o) → ((z v : ℤ) → value_after t z v m ≡ v) → Step k m
    still m keys values = quiet k.store.keys known m keys values

    created_so : (u : Tid) (h : Option ℤ) (n : ℤ) → IsKey n → Step (answer_told k u.0 (call.KeyCreate h) (Int n)) (mark.Answered u (call.KeyCreate h) (Int n))
    unfolding answer_told
    created_so u h n is = subst (λ (z : ℤ). Step (answer_told k u.0 (call.KeyCreate h) (Int z)) (mark.Answered u (call.KeyCreate h) (Int z))) (sym is.1) (made k.store.keys known u h is.0 is.2)

    answered : (u : Tid) (c : Call) (a : Answer) → is_kill (mark.Answered u c a) ≡ false → IsAnswerExclusive k u.0 c a → Step (answer_told k u.0 c a) (mark.Answered u c a)
    unfolding answer_told
    answered u (call.KeyCreate h) (Int n) on law = created_so u h n law
    answered u (call.KeyDelete (pos i)) (Int (pos (suc zero))) on law = gone k.store.keys known i (mark.Answered u (call.KeyDelete (pos i)) (Int (pos 1))) (λ j o. refl) (λ j. refl) (λ j v. refl)
    answered u (call.KeyDelete (negsuc i)) (Int (pos (suc zero))) on law = gone_past k.store.keys known (mark.Answered u (call.KeyDelete (negsuc i)) (Int (pos 1))) (λ j o. refl) (λ j. none_either (j == i) None refl) (λ j v. refl)
      where
        none_either : (b : Bool) (o : Option (Option HandlerId)) → o ≡ None → (if b then None else o) ≡ None
        none_either true o none = refl
        none_either false o none = none
    answered u (call.KeySet (pos i) v) (Int (pos (suc zero))) on law = valued k.store.keys known u.0 i v (mark.Answered u (call.KeySet (pos i) v) (Int (pos 1))) (λ z o. refl) (λ j w. refl)
    answered u (call.KeySet (negsuc i) v) (Int (pos (suc zero))) on law = valued_past k.store.keys known u.0 v (mark.Answered u (call.KeySet (negsuc i) v) (Int (pos 1))) (λ z o. refl) (λ j w. refl)
    answered u call.Kill (Int n) on law = absurd (true≢false on)
    answered u (call.CleanupPush h v) a on law = let m = mark.Answered u (call.CleanupPush h v) a in let q : Step k m = still m (λ z o. refl) (λ z v. refl) in step_one a _ m q q
    answered u (call.CleanupPop v) a on law = let m = mark.Answered u (call.CleanupPop v) a in let q : Step k m = still m (λ z o. refl) (λ z v. refl) in step_one a _ m q q
    answered u (call.MutexInit i) a on law = let m = mark.Answered u (call.MutexInit i) a in let q : Step k m = still m (λ z o. refl) (λ z v. refl) in step_int a _ m q (λ n. q)
    answered u (call.MutexAcquire i v e) a on law = let m = mark.Answered u (call.MutexAcquire i v e) a in let q : Step k m = still m (λ z o. refl) (λ z v. refl) in step_int a _ m q (λ n. q)
    answered u (call.MutexRelease i) a on law = let m = mark.Answered u (call.MutexRelease i) a in let q : Step k m = still m (λ z o. refl) (λ z v. refl) in step_int a _ m q (λ n. q)
    answered u (call.RwInit l) a on law = let m = mark.Answered u (call.RwInit l) a in let q : Step k m = still m (λ z o. refl) (λ z v. refl) in step_int a _ m q (λ n. q)
    answered u (call.RwAcquire l write v e) a on law = let m = mark.Answered u (call.RwAcquire l write v e) a in let q : Step k m = still m (λ z o. refl) (λ z v. refl) in step_int a _ m q (λ n. q)
    answered u (call.RwRelease l) a on law = let m = mark.Answered u (call.RwRelease l) a in let q : Step k m = still m (λ z o. refl) (λ z v. refl) in step_int a _ m q (λ n. q)
    answered u (call.CondAwait c i e) a on law = let m = mark.Answered u (call.CondAwait c i e) a in let q : Step k m = still m (λ z o. refl) (λ z v. refl) in step_if (k.awaits u.0) _ k m q q
    answered u (call.PortCreate name) a on law = let m = mark.Answered u (call.PortCreate name) a in let q : Step k m = still m (λ z o. refl) (λ z v. refl) in step_int a _ m q (λ n. q)
    answered u (call.PortPut p v r) a on law = let m = mark.Answered u (call.PortPut p v r) a in let q : Step k m = still m (λ z o. refl) (λ z v. refl) in step_int a _ m q (λ n. q)
    answered u (call.PortGet p) a on law = let m = mark.Answered u (call.PortGet p) a in let q : Step k m = still m (λ z o. refl) (λ z v. refl) in step_msg a _ m q q
    answered u (call.Reply i v) a on law = let m = mark.Answered u (call.Reply i v) a in let q : Step k m = still m (λ z o. refl) (λ z v. refl) in step_int a _ m q (λ n. q)
    answered u (call.PortDestroy p) a on law = let m = mark.Answered u (call.PortDestroy p) a in let q : Step k m = still m (λ z o. refl) (λ z v. refl) in step_int a _ m q (λ n. q)
    answered u c a on law = still (mark.Answered u c a) (λ z o. refl) (λ z v. refl)

  pub key_step : (b : Book) (m : Mark) → AreKnown b.resources.store.keys → is_kill m ≡ false → IsExclusiveMark b m → KeyStep b.resources.store.keys (told b.resources m).store.keys m
  unfolding told act_told answer_told
  key_step b (mark.Answered u c a) known on law = answered b.resources known u c a on law
  key_step b (mark.Acted u (act.SetKey (pos i) v) (Int (pos (suc zero)))) known on law = valued b.resources.store.keys known u.0 i v (mark.Acted u (act.SetKey (pos i) v) (Int (pos 1))) (λ z o. refl) (λ j w. refl)
  key_step b (mark.Acted u (act.SetKey (negsuc i) v) (Int (pos (suc zero)))) known on law = valued_past b.resources.store.keys known u.0 v (mark.Acted u (act.SetKey (negsuc i) v) (Int (pos 1))) (λ z o. refl) (λ j w. refl)
  key_step b (mark.Acted u (act.Release i) a) known on law = let k = b.resources in let m = mark.Acted u (act.Release i) a in let q = still k known m (λ z o. refl) (λ z v. refl) in step_int k known a _ m q (λ n. q)
  key_step b (mark.Acted u (act.Put p v) a) known on law = let k = b.resources in let m = mark.Acted u (act.Put p v) a in let q = still k known m (λ z o. refl) (λ z v. refl) in step_int k known a _ m q (λ n. q)
  key_step b (mark.Waits u (call.CondAwait c i e)) known on law = let k = b.resources in let m = mark.Waits u (call.CondAwait c i e) in let q = still k known m (λ z o. refl) (λ z v. refl) in step_if k known (k.awaits u.0) k _ m q q
  key_step b (mark.Destructor u i v) known on law = valued b.resources.store.keys known u.0 i (pos 0) (mark.Destructor u i v) (λ z o. refl) (λ j w. refl)
  key_step b (mark.Ended u v) known on law = ends b.resources.store.keys known u v
  key_step b m known on law = still b.resources known m (λ z o. refl) (λ z v. refl)

-- ---- the marks before a mark

abbrev HandlerOf : Type 0
HandlerOf = Option (Option HandlerId)

-- the keys and values that these marks tell of t are those of the tables
pub record KeysFit (t : ℕ) (x : Tables) (before : List Mark) : Type 0 where
  pub keys : (i : ℕ) → key_at (pos i) before ≡ x.keys i
  pub low : (i : ℕ) → key_at (negsuc i) before ≡ None
  pub known : AreKnown x
  pub values : (i : ℕ) → i < key_limit → value_of t (pos i) before ≡ x.values i t

pub keys_fit_none : (t : ℕ) → KeysFit t empty_book.resources.store.keys []
keys_fit_none t = record { keys = λ i. refl; low = λ i. refl; known = λ i some. absurd (true≢false (sym some)); values = λ i below. refl }

pub keys_fit_after : (t : ℕ) (b : Book) (before : List Mark) (m : Mark) → is_kill m ≡ false → IsExclusiveMark b m → KeysFit t b.resources.store.keys before → KeysFit t (told b.resources m).store.keys (before ++ m ∷ [])
keys_fit_after t b before m on law f =
    let step = key_step t b m f.known on law in
    record {
      keys = λ i. fold-append (key_after (pos i)) None before (m ∷ []) ∙ (ap (λ (o : HandlerOf). key_after (pos i) o m) (f.keys i) ∙ step.keys i);
      low = λ i. fold-append (key_after (negsuc i)) None before (m ∷ []) ∙ (ap (λ (o : HandlerOf). key_after (negsuc i) o m) (f.low i) ∙ step.low i);
      known = step.known;
      values = λ i below. fold-append (value_after t (pos i)) (pos 0) before (m ∷ []) ∙ (ap (λ (v : ℤ). value_after t (pos i) v m) (f.values i below) ∙ step.values i below);
    }

pub keys_fit_along : (t : ℕ) (b : Book) (before ms : List Mark) → list_any is_kill ms ≡ false → EachMark IsLawful b ms → KeysFit t b.resources.store.keys before → KeysFit t (book_of b ms).resources.store.keys (before ++ ms)
keys_fit_along t b before [] on law f = subst (KeysFit t b.resources.store.keys) (sym (append-nil before)) f
keys_fit_along t b before (m ∷ ms) on law f =
    let (first, rest) = or_parts (is_kill m) (list_any is_kill ms) on in
    subst (KeysFit t (book_of b (m ∷ ms)).resources.store.keys) (append_assoc before (m ∷ []) ms)
    (keys_fit_along t (after b m) (before ++ m ∷ []) ms rest law.1 (keys_fit_after t b before m first law.0.1 f))

-- ---- which destructor is next

-- the last destructor of a round was that of the key before a number
abbrev pub IsLastBefore : ℕ → Option ℤ → Type 0
IsLastBefore from None = from ≡ 0
IsLastBefore from (Some key) = (i : ℕ) × (key ≡ pos i) × (from ≡ i + 1)

pub record StageFits (x : Stage) (r : DestructorRound) : Type 0 where
  pub rounds : x.rounds ≡ r.number
  pub last : IsLastBefore r.from x.last

zero_unset : (v : ℤ) → is_zero v ≡ is_unset v
zero_unset (pos n) = refl
zero_unset (negsuc n) = refl

later_from : (from : ℕ) (last : Option ℤ) (i : ℕ) → IsLastBefore from last → is_later last (pos i) ≡ true → from ≤ i
later_from from None i is later = omega (arith, is)
later_from from (Some key) i is later =
    let above : int_lt (pos is.0) (pos i) ≡ true = subst (λ (z : ℤ). int_lt z (pos i) ≡ true) is.1 later in
    let begins = is.2 in
    below_suc from is.0 i begins above
  where
    below_suc : (from j i : ℕ) → from ≡ j + 1 → nat_lt j i ≡ true → from ≤ i
    below_suc from j i is above = grind (arith, nat_tests)

from_later : (from : ℕ) (last : Option ℤ) (i : ℕ) → IsLastBefore from last → from ≤ i → is_later last (pos i) ≡ true
from_later from None i is low = refl
from_later from (Some key) i is low =
    let begins = is.2 in
    subst (λ (z : ℤ). int_lt z (pos i) ≡ true) (sym is.1) (suc_below from is.0 i begins low)
  where
    suc_below : (from j i : ℕ) → from ≡ j + 1 → from ≤ i → nat_lt j i ≡ true
    suc_below from j i is low = grind (arith, nat_tests)

module _ (t : ℕ) (x : Tables) (before : List Mark) (f : KeysFit t x before) where
  owes_said : (i : ℕ) (h : HandlerId) (v : ℤ) → KeyOwes x t i h v → Owes t before (pos i) h v
  owes_said i h v o = record { live = f.keys i ∙ o.live; value = f.values i (f.known i (some_is (Some h) (x.keys i) o.live)) ∙ o.value; set = zero_unset v ∙ o.set }

  -- who owes by the marks owes by the tables
  record OwesSome (key : ℤ) (h : HandlerId) (v : ℤ) : Type 0 where
    number : ℕ
    is : key ≡ pos number
    below : number < key_limit
    owes : KeyOwes x t number h v

  owes_told : (key : ℤ) (h : HandlerId) (v : ℤ) → Owes t before key h v → OwesSome key h v
  owes_told (pos i) h v o =
      let live : x.keys i ≡ Some (Some h) = sym (f.keys i) ∙ o.live in
      let below = f.known i (some_is (Some h) (x.keys i) live) in
      record { number = i; is = refl; below = below; owes = record { live = live; value = sym (f.values i below) ∙ o.value; set = sym (zero_unset v) ∙ o.set } }
  owes_told (negsuc i) h v o = absurd (none-some (Some h) (sym (f.low i) ∙ o.live))

  none_said : (from : ℕ) (last : Option ℤ) → IsLastBefore from last → NoKeyOwes x t from key_limit → NoneOwes t before last
  none_said from last is none key h v later owes =
      let o = owes_told key h v owes in
      none o.number h v (later_from from last o.number is (subst (λ (z : ℤ). is_later last z ≡ true) o.is later)) o.below o.owes

  least_said : (from : ℕ) (last : Option ℤ) (d : Due) → IsLastBefore from last → IsFirst x t from d → IsLeast t before last (pos d.key) d.value
  least_said from last d is first = record {
    later = from_later from last d.key is first.low;
    destructor = d.handler;
    owes = owes_said d.key d.handler d.value first.owes;
    least = λ k h v later owes.
        let o = owes_told k h v owes in
        let low = later_from from last o.number is (subst (λ (z : ℤ). is_later last z ≡ true) o.is later) in
        subst (λ (z : ℤ). int_le (pos d.key) z ≡ true) (sym o.is) (not_below d.key o.number (λ less. first.least o.number h v low less o.owes));
  }
    where
      not_below : (m n : ℕ) → (n < m → ⊥) → nat_le m n ≡ true
      not_below m n h = by_test (nat_le m n) refl
        where
          by_test : (b : Bool) → nat_le m n ≡ b → nat_le m n ≡ true
          by_test true e = e
          by_test false e = let less : n < m = grind (arith, nat_tests) in absurd (h less)

  pub next_said : (s : Stage) (r : DestructorRound) (d : Due) → StageFits s r → IsNextDue x t r d → IsNext t before s (pos d.key) d.value d.round.number
  next_said s r d fits (inl due) = inl (least_said r.from s.last d fits.last due.0, due.1 ∙ sym fits.rounds)
  next_said s r d fits (inr due) =
      let fewer = due.fewer in
      let rounds = fits.rounds in
      let more = due.more in
      inr (record { over = none_said r.from s.last fits.last due.over; fewer = omega (arith, fewer, rounds); first = least_said 0 None d refl due.first; more = omega (arith, more, rounds) })

  pub stage_said : (r : DestructorRound) (d : Due) → IsNextDue x t r d → StageFits (record { rounds = d.round.number; last = Some (pos d.key) }) d.round
  stage_said r d (inl due) = record { rounds = refl; last = (d.key, refl, due.0.behind) }
  stage_said r d (inr due) = record { rounds = refl; last = (d.key, refl, due.first.behind) }

  pub none_next_said : (s : Stage) (r : DestructorRound) → StageFits s r → IsNoneDue x t r → IsNoneNext t before s
  none_next_said s r fits none = (none_said r.from s.last fits.last none.0, by_rounds none.1)
    where
      by_rounds : (round_limit ≤ r.number) ⊎ NoKeyOwes x t 0 key_limit → (round_limit ≤ s.rounds) ⊎ NoneOwes t before None
      by_rounds (inl many) = let rounds = fits.rounds in inl (omega (arith, many, rounds))
      by_rounds (inr nothing) = inr (none_said 0 None refl nothing)
