-- The block with which marks close, and what ran in it, with one mark more.
use Rattle.std.proofs.Common.{◌≡◌, ◌&&◌, ◌||◌, ◌∙◌, not, ℕ, ℤ, pos, Bool, true, false, if◌then◌else◌, List, [], ◌∷◌, ◌++◌, Option, Some, None, refl, sym, ap, ap₂, subst, append-nil}
use Rattle.std.specs.List.{list_all}
use Rattle.std.proofs.Math.Bool.{or-false}
use Rattle.std.proofs.lemmas.Bool.{true≢false, false≢true, and_parts}
use Rattle.std.proofs.lemmas.List.Folds.{list_all-append}
use Rattle.pth_base.specs.declared.ids.HandlerId.{HandlerId}
use Rattle.pth_base.specs.declared.ids.Tid.{Tid}
use Rattle.pth_base.specs.declared.mark.Mark.{Mark}
use Rattle.pth_base.specs.declared.mark.Mark.TheVariants as mark
use Rattle.pth_store.specs.Cleanups.{PushedHandler}
use Rattle.pth_laws.specs.Marks.{is_same, is_of_block, block_at_end, before_block}
use Rattle.pth_laws.specs.Orderly.{handlers_in, AreHandlersFirst, Stage, first_stage, IsNext}
use Rattle.pth_laws.proofs.OrderlyMarks.{parts}
use Rattle.pth_audit.specs.declared.values.Due.{Due}
use Rattle.pth_audit.specs.Endings.{Run, ran_nothing, with_handler, with_destructor, run_after, has_destructor, IsStep, IsWay, RunFits}
use Rattle.pth_audit.proofs.NextOnes.{SaysNext, next_once, next_or_none}
use Rattle.pth_audit.proofs.Owed.{same_self}
use Rattle.pth_audit.proofs.Places.{same_means}
use Rattle.pth_audit.proofs.Ways.{way_once, way_more, way_back}

-- ---- the block

module _ (t : ℕ) where
  all_more : (ms : List Mark) (m : Mark) → list_all (is_of_block t) (ms ++ m ∷ []) ≡ (list_all (is_of_block t) ms && is_of_block t m)
  all_more ms m = list_all-append (is_of_block t) ms (m ∷ []) ∙ ap (λ (b : Bool). list_all (is_of_block t) ms && b) (one (is_of_block t m))
    where
      one : (b : Bool) → (b && true) ≡ b
      one true = refl
      one false = refl

  pub block_more : (ms : List Mark) (m : Mark) → block_at_end t (ms ++ m ∷ []) ≡ (if is_of_block t m then block_at_end t ms ++ m ∷ [] else [])
  unfolding block_at_end
  block_more [] m = by_test (is_of_block t m)
    where
      by_test : (b : Bool) → (if b && true then m ∷ [] else []) ≡ (if b then m ∷ [] else [])
      by_test true = refl
      by_test false = refl
  block_more (n ∷ ms) m = ap (λ (b : Bool). if b then n ∷ (ms ++ m ∷ []) else block_at_end t (ms ++ m ∷ [])) (all_more (n ∷ ms) m) ∙ by_test (list_all (is_of_block t) (n ∷ ms)) (is_of_block t m) (block_more ms m)
    where
      by_test : (a b : Bool) → block_at_end t (ms ++ m ∷ []) ≡ (if b then block_at_end t ms ++ m ∷ [] else [])
          → (if a && b then n ∷ (ms ++ m ∷ []) else block_at_end t (ms ++ m ∷ [])) ≡ (if b then (if a then n ∷ ms else block_at_end t ms) ++ m ∷ [] else [])
      by_test true true rest = refl
      by_test false true rest = rest
      by_test true false rest = rest
      by_test false false rest = rest

  pub before_more : (ms : List Mark) (m : Mark) → before_block t (ms ++ m ∷ []) ≡ (if is_of_block t m then before_block t ms else ms ++ m ∷ [])
  unfolding before_block
  before_more [] m = by_test (is_of_block t m)
    where
      by_test : (b : Bool) → (if b && true then [] else m ∷ []) ≡ (if b then [] else m ∷ [])
      by_test true = refl
      by_test false = refl
  before_more (n ∷ ms) m = ap (λ (b : Bool). if b then [] else n ∷ before_block t (ms ++ m ∷ [])) (all_more (n ∷ ms) m) ∙ by_test (list_all (is_of_block t) (n ∷ ms)) (is_of_block t m) (before_more ms m)
    where
      by_test : (a b : Bool) → before_block t (ms ++ m ∷ []) ≡ (if b then before_block t ms else ms ++ m ∷ [])
          → (if a && b then [] else n ∷ before_block t (ms ++ m ∷ [])) ≡ (if b then (if a then [] else n ∷ before_block t ms) else n ∷ (ms ++ m ∷ []))
      by_test true true rest = refl
      by_test false true rest = ap (λ (xs : List Mark). n ∷ xs) rest
      by_test true false rest = ap (λ (xs : List Mark). n ∷ xs) rest
      by_test false false rest = ap (λ (xs : List Mark). n ∷ xs) rest

-- ---- handlers and destructors

handlers_more : (ms : List Mark) (m : Mark) → handlers_in (ms ++ m ∷ []) ≡ handlers_in ms ++ handlers_in (m ∷ [])
unfolding handlers_in
handlers_more [] m = refl
handlers_more (mark.Handler u h v ∷ ms) m = ap (λ (cs : List PushedHandler). (h, v) ∷ cs) (handlers_more ms m)
handlers_more (n ∷ ms) m = handlers_more ms m

destructor_more : (ms : List Mark) (m : Mark) → has_destructor (ms ++ m ∷ []) ≡ (has_destructor ms || has_destructor (m ∷ []))
unfolding has_destructor
destructor_more [] m = refl
destructor_more (mark.Destructor u key v ∷ ms) m = refl
destructor_more (n ∷ ms) m = destructor_more ms m

none_of_both : (xs ys : List PushedHandler) → xs ++ ys ≡ [] → (xs ≡ []) × (ys ≡ [])
none_of_both [] ys e = (refl, e)
none_of_both (x ∷ xs) ys e = absurd (cc e)

first_one : (m : Mark) → AreHandlersFirst (m ∷ [])
unfolding AreHandlersFirst handlers_in
first_one (mark.Destructor u key v) = refl
first_one m = tt

abbrev only : PushedHandler → List PushedHandler
only c = c ∷ []

-- a mark that may come after a destructor has no handler
abbrev MayFollow : List Mark → Mark → Type 0
MayFollow ms m = has_destructor ms ≡ true → handlers_in (m ∷ []) ≡ []

first_more : (ms : List Mark) (m : Mark) → AreHandlersFirst ms → MayFollow ms m → AreHandlersFirst (ms ++ m ∷ [])
unfolding AreHandlersFirst has_destructor
first_more [] m first may = first_one m
first_more (mark.Destructor u key v ∷ ms) m first may = handlers_more ms m ∙ ap₂ (λ (xs ys : List PushedHandler). xs ++ ys) first (may refl)
first_more (n ∷ ms) m first may = first_more ms m first may

first_back : (ms : List Mark) (m : Mark) → AreHandlersFirst (ms ++ m ∷ []) → AreHandlersFirst ms × MayFollow ms m
unfolding AreHandlersFirst has_destructor
first_back [] m first = (tt, λ begun. absurd (false≢true begun))
first_back (mark.Destructor u key v ∷ ms) m first = let (before, here) = none_of_both (handlers_in ms) (handlers_in (m ∷ [])) (sym (handlers_more ms m) ∙ first) in (before, λ begun. here)
first_back (n ∷ ms) m first = first_back ms m first

-- ---- what ran

module _ (t : ℕ) where
  pub fits_none : (before : List Mark) → RunFits t before [] ran_nothing
  unfolding handlers_in AreHandlersFirst has_destructor IsWay
  fits_none before = record { handlers = refl; begun = refl; first = λ e. tt; not_first = λ e. absurd (true≢false e); in_turn = λ e. refl; not_in_turn = λ e. absurd (true≢false e) }

  module _ (before block : List Mark) (x : Run) (f : RunFits t before block x) where
    -- a mark that is no handler and no destructor leaves all as it was
    record IsQuiet (m : Mark) : Type 0 where
      none : handlers_in (m ∷ []) ≡ []
      not_begun : has_destructor (m ∷ []) ≡ false
      stays : (bs : List Mark) (y : Stage) → IsStep t bs y m y

    quiet_fits : (m : Mark) → IsQuiet m → RunFits t before (block ++ m ∷ []) x
    quiet_fits m q = record {
      handlers = handlers_more block m ∙ ap (λ (cs : List PushedHandler). handlers_in block ++ cs) q.none ∙ append-nil (handlers_in block) ∙ f.handlers;
      begun = destructor_more block m ∙ ap (λ (b : Bool). has_destructor block || b) q.not_begun ∙ or-false (has_destructor block) ∙ f.begun;
      first = λ e. first_more block m (f.first e) (λ begun. q.none);
      not_first = λ e first. f.not_first e (first_back block m first).0;
      in_turn = λ e. way_more t before block first_stage x.stage x.stage m (f.in_turn e) (q.stays (before ++ block) x.stage);
      not_in_turn = λ e y way. f.not_in_turn e (way_back t before block first_stage y m way).0 (way_back t before block first_stage y m way).1;
    }

    handler_fits : (u : Tid) (h : HandlerId) (v : ℤ) → RunFits t before (block ++ mark.Handler u h v ∷ []) (with_handler (h, v) x)
    unfolding handlers_in has_destructor
    handler_fits u h v = let m = mark.Handler u h v in record {
      handlers = handlers_more block m ∙ ap (λ (cs : List PushedHandler). cs ++ (h, v) ∷ []) f.handlers;
      begun = destructor_more block m ∙ or-false (has_destructor block) ∙ f.begun;
      first = λ e.
          let (first, none) = and_parts x.handlers_first (not x.begun) e in
          first_more block m (f.first first) (λ begun. absurd (not_both x.begun none (sym f.begun ∙ begun)));
      not_first = λ e first. let (ones, may) = first_back block m first in by_test x.handlers_first x.begun refl refl e ones may;
      in_turn = λ e. way_more t before block first_stage x.stage x.stage m (f.in_turn e) refl;
      not_in_turn = λ e y way. f.not_in_turn e (way_back t before block first_stage y m way).0 (way_back t before block first_stage y m way).1;
    }
      where
        not_both : (b : Bool) → not b ≡ true → b ≡ true → ⊥
        not_both true e is = false≢true e
        not_both false e is = false≢true is

        by_test : (a b : Bool) → x.handlers_first ≡ a → x.begun ≡ b → (a && not b) ≡ false → AreHandlersFirst block → (has_destructor block ≡ true → only (h, v) ≡ []) → ⊥
        by_test true true a b e ones may = cc (may (f.begun ∙ b))
        by_test false b a is e ones may = f.not_first a ones
        by_test true false a b e ones may = true≢false e

    -- what ran, with a destructor more
    module _ (u : Tid) (key : ℕ) (v : ℤ) where
      abbrev after : List Mark
      after = block ++ mark.Destructor u key v ∷ []

      destructor_handlers : handlers_in after ≡ x.handlers
      unfolding handlers_in
      destructor_handlers = handlers_more block (mark.Destructor u key v) ∙ append-nil (handlers_in block) ∙ f.handlers

      destructor_begun : has_destructor after ≡ true
      unfolding has_destructor
      destructor_begun = destructor_more block (mark.Destructor u key v) ∙ either (has_destructor block)
        where
          either : (b : Bool) → (b || true) ≡ true
          either true = refl
          either false = refl

      destructor_first : x.handlers_first ≡ true → AreHandlersFirst after
      unfolding handlers_in
      destructor_first e = first_more block (mark.Destructor u key v) (f.first e) (λ begun. refl)

      destructor_not_first : x.handlers_first ≡ false → AreHandlersFirst after → ⊥
      destructor_not_first e first = f.not_first e (first_back block (mark.Destructor u key v) first).0

      -- no way leads on where the destructor is not the next one
      no_way : ((n : ℕ) → IsNext t (before ++ block) x.stage (pos key) v n → ⊥) → x.in_turn ≡ true → (y : Stage) → IsWay t before first_stage after y → ⊥
      no_way none turn y way =
          let r = way_back t before block first_stage y (mark.Destructor u key v) way in
          let same = way_once t before block first_stage r.0 x.stage r.1 (f.in_turn turn) in
          let step = r.2 in
          none step.0 (subst (λ (s : Stage). IsNext t (before ++ block) s (pos key) v step.0) same step.1)

      no_way_before : x.in_turn ≡ false → (y : Stage) → IsWay t before first_stage after y → ⊥
      no_way_before e y way = let r = way_back t before block first_stage y (mark.Destructor u key v) way in f.not_in_turn e r.0 r.1

      destructor_fits : (o : Option Due) → SaysNext t (before ++ block) x.stage o → RunFits t before after (with_destructor o (pos key) v x)
      destructor_fits None none = record {
        handlers = destructor_handlers;
        begun = destructor_begun;
        first = destructor_first;
        not_first = destructor_not_first;
        in_turn = λ e. absurd (false≢true e);
        not_in_turn = λ e. by_turn x.in_turn refl;
      }
        where
          by_turn : (b : Bool) → x.in_turn ≡ b → (y : Stage) → IsWay t before first_stage after y → ⊥
          by_turn true e = no_way (λ n. next_or_none t (before ++ block) x.stage (pos key) v n none) e
          by_turn false e = no_way_before e
      destructor_fits (Some d) next = record {
        handlers = destructor_handlers;
        begun = destructor_begun;
        first = destructor_first;
        not_first = destructor_not_first;
        in_turn = λ e.
            let (turn, both) = and_parts x.in_turn _ e in
            let (key_is, value_is) = and_parts (is_same d.key (pos key)) _ both in
            goes_on turn (same_means d.key (pos key) key_is) (same_means d.value v value_is);
        not_in_turn = λ e. by_turn x.in_turn (is_same d.key (pos key)) (is_same d.value v) refl refl refl e;
      }
        where
          goes_on : x.in_turn ≡ true → d.key ≡ pos key → d.value ≡ v → IsWay t before first_stage after (record { rounds = d.rounds; last = Some d.key })
          goes_on turn key_is value_is =
              let here : IsNext t (before ++ block) x.stage (pos key) v d.rounds =
              subst (λ (z : ℤ). IsNext t (before ++ block) x.stage (pos key) z d.rounds) value_is (subst (λ (k : ℤ). IsNext t (before ++ block) x.stage k d.value d.rounds) key_is next) in
              way_more t before block first_stage x.stage (record { rounds = d.rounds; last = Some d.key }) (mark.Destructor u key v) (f.in_turn turn)
              (d.rounds, here, ap (λ (k : ℤ). record { rounds = d.rounds; last = Some k }) key_is)

          by_turn : (a b c : Bool) → x.in_turn ≡ a → is_same d.key (pos key) ≡ b → is_same d.value v ≡ c → (a && (b && c)) ≡ false → (y : Stage) → IsWay t before first_stage after y → ⊥
          by_turn false b c turn k w e = no_way_before turn
          by_turn true true true turn k w e = absurd (true≢false e)
          by_turn true false c turn k w e = no_way (λ n is. false≢true (sym k ∙ ap (λ (z : ℤ). is_same z (pos key)) (next_once t (before ++ block) x.stage d.key d.value (pos key) v d.rounds n next is).0 ∙ same_self (pos key))) turn
          by_turn true true false turn k w e = no_way (λ n is. false≢true (sym w ∙ ap (λ (z : ℤ). is_same z v) (next_once t (before ++ block) x.stage d.key d.value (pos key) v d.rounds n next is).1 ∙ same_self v)) turn

    -- a mark of the block
    within_fits : (m : Mark) (next : Stage → Option Due) → is_of_block t m ≡ true → SaysNext t (before ++ block) x.stage (next x.stage) → RunFits t before (block ++ m ∷ []) (run_after t next x m)
    unfolding handlers_in has_destructor
    within_fits (mark.Handler u h v) next is says = subst (λ (b : Bool). RunFits t before (block ++ mark.Handler u h v ∷ []) (if b then with_handler (h, v) x else ran_nothing)) (sym is) (handler_fits u h v)
    within_fits (mark.Destructor u key v) next is says =
        subst (λ (b : Bool). RunFits t before (block ++ mark.Destructor u key v ∷ []) (if b then with_destructor (next x.stage) (pos key) v x else ran_nothing)) (sym is) (destructor_fits u key v (next x.stage) says)
    within_fits (mark.Acted u a answer) next is says =
        let m = mark.Acted u a answer in
        subst (λ (b : Bool). RunFits t before (block ++ m ∷ []) (if b then x else ran_nothing)) (sym is) (quiet_fits m (record { none = refl; not_begun = refl; stays = λ bs y. refl }))
    within_fits (mark.GaveMutex u i) next is says =
        let m = mark.GaveMutex u i in
        subst (λ (b : Bool). RunFits t before (block ++ m ∷ []) (if b then x else ran_nothing)) (sym is) (quiet_fits m (record { none = refl; not_begun = refl; stays = λ bs y. refl }))
    within_fits (mark.GaveLock u i) next is says =
        let m = mark.GaveLock u i in
        subst (λ (b : Bool). RunFits t before (block ++ m ∷ []) (if b then x else ran_nothing)) (sym is) (quiet_fits m (record { none = refl; not_begun = refl; stays = λ bs y. refl }))
    within_fits (mark.Withdrew u i) next is says =
        let m = mark.Withdrew u i in
        subst (λ (b : Bool). RunFits t before (block ++ m ∷ []) (if b then x else ran_nothing)) (sym is) (quiet_fits m (record { none = refl; not_begun = refl; stays = λ bs y. refl }))
    within_fits m next is says = absurd (false≢true is)

  -- any other mark closes the block
  closed_by : (next : Stage → Option Due) (x : Run) (m : Mark) → is_of_block t m ≡ false → run_after t next x m ≡ ran_nothing
  closed_by next x (mark.Handler u h v) is = ap (λ (b : Bool). if b then with_handler (h, v) x else ran_nothing) is
  closed_by next x (mark.Destructor u key v) is = ap (λ (b : Bool). if b then with_destructor (next x.stage) (pos key) v x else ran_nothing) is
  closed_by next x (mark.Acted u a answer) is = ap (λ (b : Bool). if b then x else ran_nothing) is
  closed_by next x (mark.GaveMutex u i) is = ap (λ (b : Bool). if b then x else ran_nothing) is
  closed_by next x (mark.GaveLock u i) is = ap (λ (b : Bool). if b then x else ran_nothing) is
  closed_by next x (mark.Withdrew u i) is = ap (λ (b : Bool). if b then x else ran_nothing) is
  closed_by next x m is = refl

  pub fits_more : (marks : List Mark) (m : Mark) (x : Run) (next : Stage → Option Due) → RunFits t (before_block t marks) (block_at_end t marks) x → SaysNext t marks x.stage (next x.stage)
      → RunFits t (before_block t (marks ++ m ∷ [])) (block_at_end t (marks ++ m ∷ [])) (run_after t next x m)
  fits_more marks m x next f says =
      subst (λ (bs : List Mark). RunFits t bs (block_at_end t (marks ++ m ∷ [])) (run_after t next x m)) (sym (before_more t marks m))
      (subst (λ (bs : List Mark). RunFits t (if is_of_block t m then before_block t marks else marks ++ m ∷ []) bs (run_after t next x m)) (sym (block_more t marks m)) (by_test (is_of_block t m) refl))
    where
      by_test : (b : Bool) → is_of_block t m ≡ b → RunFits t (if b then before_block t marks else marks ++ m ∷ []) (if b then block_at_end t marks ++ m ∷ [] else []) (run_after t next x m)
      by_test true is = within_fits (before_block t marks) (block_at_end t marks) x f m next is (subst (λ (ms : List Mark). SaysNext t ms x.stage (next x.stage)) (sym (parts t marks)) says)
      by_test false is = subst (RunFits t (marks ++ m ∷ []) []) (sym (closed_by next x m is)) (fits_none (marks ++ m ∷ []))
