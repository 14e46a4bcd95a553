-- A piece of the machine, walked along with what its marks say: each mark is lawful where those before it are, and of a thread that
-- was made.
use Rattle.std.proofs.Common.{◌≡◌, ℕ, true, List, [], ◌∷◌, ◌++◌, Option, Some, None, refl, sym, subst}
use Rattle.std.proofs.lemmas.List.Elements.{All-nil, All-cons}
use Rattle.pth_base.specs.declared.mark.Mark.{Mark}
use Rattle.pth_base.specs.declared.mark.Mark.TheVariants as mark
use Rattle.pth_model.specs.State.{State}
use Rattle.pth_model.specs.Transition.{Transition, Piece, Last, tells, ◌and_then◌, ◌and_finally◌}
use Rattle.pth_model.specs.Living.{is_made}
use Rattle.pth_laws.proofs.Book.{Book, after, book_of}
use Rattle.pth_laws.proofs.Laws.{EachMark, IsLawful}
use Rattle.pth_laws.specs.InTime.{IsInTime, InTime}
use Rattle.pth_laws.specs.Marks.{thread_of}
use Rattle.pth_laws.proofs.Locked.{Locked, locked_after}

-- ---- what each mark of a list is

pub each-weaker : (A B : Book → Mark → Type 0) → ((b : Book) (m : Mark) → A b m → B b m) → (b : Book) (ms : List Mark) → EachMark A b ms → EachMark B b ms
each-weaker A B f b [] h = tt
each-weaker A B f b (m ∷ ms) h = (f b m h.0, each-weaker A B f (after b m) ms h.1)

pub each-append : (A : Book → Mark → Type 0) (b : Book) (xs ys : List Mark) → EachMark A b xs → EachMark A (book_of b xs) ys → EachMark A b (xs ++ ys)
each-append A b [] ys h k = k
each-append A b (x ∷ xs) ys h k = (h.0, each-append A (after b x) xs ys h.1 k)

pub book-append : (b : Book) (xs ys : List Mark) → book_of b (xs ++ ys) ≡ book_of (book_of b xs) ys
book-append b [] ys = refl
book-append b (x ∷ xs) ys = book-append (after b x) xs ys

-- ---- pieces

-- a mark's thread is one of the first n
abbrev pub IsOfMade : ℕ → Option ℕ → Type 0
IsOfMade n None = Unit {0}
IsOfMade n (Some t) = is_made n t ≡ true

abbrev pub IsLawfulOf : ℕ → Book → Mark → Type 0
IsLawfulOf n b m = IsLawful b m × IsOfMade n (thread_of m)

-- where those before it leave the mutexes and the locks in order
abbrev pub IsMarked : ℕ → Book → Mark → Type 0
IsMarked n b m = Locked b.resources → IsLawfulOf n b m

-- so is each mark within a step or a pass, and none is a dispatch
abbrev IsToldOf : ℕ → Mark → Type 0
IsToldOf n (mark.Dispatch turn at t rank waited allowed) = ⊥
IsToldOf n m = IsOfMade n (thread_of m)

abbrev pub IsMarkedWithin : ℕ → Book → Mark → Type 0
IsMarkedWithin n b m = Locked b.resources → IsLawful b m × IsToldOf n m

told_made : (n : ℕ) (m : Mark) → IsToldOf n m → IsOfMade n (thread_of m)
told_made n (mark.Dispatch turn at t rank waited allowed) h = absurd h
told_made n m h = h

pub each_marked : (n : ℕ) (b : Book) (ms : List Mark) → EachMark (IsMarkedWithin n) b ms → EachMark (IsMarked n) b ms
each_marked n b ms h = each-weaker (IsMarkedWithin n) (IsMarked n) (λ d m law locked. let now = law locked in (now.0, told_made n m now.1)) b ms h

told_in_time : (n : ℕ) (m : Mark) → IsToldOf n m → IsInTime m
told_in_time n (mark.Dispatch turn at t rank waited allowed) h = absurd h
told_in_time n m h = tt

pub each_in_time : (n : ℕ) (b : Book) (ms : List Mark) → Locked b.resources → EachMark (IsMarkedWithin n) b ms → InTime ms
each_in_time n b [] locked h = All-nil IsInTime
each_in_time n b (m ∷ ms) locked h = let law = h.0 locked in All-cons IsInTime m ms (told_in_time n m law.1) (each_in_time n (after b m) ms (locked_after b m law.0.1 locked) h.1)

-- the marks before each one are lawful themselves
pub each_lawful : (n : ℕ) (b : Book) (ms : List Mark) → Locked b.resources → EachMark (IsMarked n) b ms → EachMark (IsLawfulOf n) b ms
each_lawful n b [] locked h = tt
each_lawful n b (m ∷ ms) locked h = let law = h.0 locked in (law, each_lawful n (after b m) ms (locked_after b m law.0.1 locked) h.1)

-- from a book on the marks are lawful, and Q holds of the book and the state that come of them
pub record Walk {P S H : Type 0} (n : ℕ) (b : Book) (Q : Book → State P S H → Type 0) (x : Transition P S H) : Type 0 where
  pub law : EachMark (IsMarkedWithin n) b x.marks
  pub post : Q (book_of b x.marks) x.state

module _ {P S H : Type 0} (n : ℕ) where
  pub walk_tells : (Q : Book → State P S H → Type 0) (b : Book) (m : Mark) (s : State P S H) → IsMarkedWithin n b m → Q (after b m) (tells m s).state → Walk n b Q (tells m s)
  walk_tells Q b m s law post = record { law = (law, tt); post = post }

  pub walk_to : (Q R : Book → State P S H → Type 0) (b : Book) (x : Transition P S H) → ((c : Book) (s : State P S H) → Q c s → R c s) → Walk n b Q x → Walk n b R x
  walk_to Q R b x f w = record { law = w.law; post = f (book_of b x.marks) x.state w.post }

  pub walk_then : (Q R : Book → State P S H → Type 0) (b : Book) (first second : Piece P S H) (s : State P S H) → Walk n b Q (first s) → ((c : Book) → Q c (first s).state → Walk n c R (second (first s).state)) → Walk n b R ((first and_then second) s)
  walk_then Q R b first second s w next =
      let x = first s in
      let v = next (book_of b x.marks) w.post in
      record {
        law = each-append (IsMarkedWithin n) b x.marks (second x.state).marks w.law v.law;
        post = subst (λ (c : Book). R c (second x.state).state) (sym (book-append b x.marks (second x.state).marks)) v.post;
      }

  pub walk_finally : (Q R : Book → State P S H → Type 0) (b : Book) (first : Piece P S H) (last : Last P S H) (s : State P S H) → Walk n b Q (first s) → ((c : Book) → Q c (first s).state → Walk n c R (last (first s).state).told) → Walk n b R ((first and_finally last) s).told
  walk_finally Q R b first last s w next =
      let x = first s in
      let y = (last x.state).told in
      let v = next (book_of b x.marks) w.post in
      record {
        law = each-append (IsMarkedWithin n) b x.marks y.marks w.law v.law;
        post = subst (λ (c : Book). R c y.state) (sym (book-append b x.marks y.marks)) v.post;
      }
