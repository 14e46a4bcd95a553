-- What the nodes of orderly queues tell, and where a slot that enters or leaves changes them.
use Rattle.std.proofs.Common.{◌≡◌, ◌≢◌, ℕ, ◌+◌, ◌<◌, ◌≤◌, ◌==◌, ◌||◌, ◌↔◌, Bool, true, false, cond, if◌then◌else◌, int_lt, List, [], ◌∷◌, ◌++◌, ℤ, ◌-ℤ◌, Option, Some, None, IsSome, IfSome, option_map, option_and_then, count_by, refl, sym, ap, ◌∙◌, subst, inl, inr, arith, eq-eqb, ne_eqb, append_assoc}
use Rattle.std.proofs.lemmas.Bool.{cases_eq}
use Rattle.pth_base.specs.Chain.{StandsIn, Distinct, last_or}
use Rattle.pth_queue.specs.declared.queue.Queue.{Queue}
use Rattle.pth_queue.specs.declared.queue.Queue.TheVariants.{New, Ready, Waiting, Suspended, Dead}
use Rattle.pth_queue.specs.declared.node.Node.{Node}
use Rattle.pth_queue.specs.declared.ranked.Ranked.{Ranked}
use Rattle.pth_queue.specs.Ranking.{is_of, insert, delete, holds, head_of, last_of, after_in}
use Rattle.pth_queue.specs.Queues.{QueuesOf, rows_of, with_rows, queue_of, after_of, IsNowhere, IsRank, IsOrderly, entered, without}
use Rattle.pth_queue.specs.Arena.{slots_of}
use Rattle.pth_queue.specs.Nodes.{IsApart, a_node, gap_of, next_of, node_in, node_of, prev_of}
use Rattle.pth_base.proofs.Chains.{distinct-apart}
use Rattle.pth_queue.proofs.Counts.{count-cons, count-present}
use Rattle.pth_queue.proofs.Standing.{queue_of-holds}
use Rattle.pth_queue.proofs.Sets.{IsOrderly-entered, deleted_is, holds-queue_of, once_in, rows_of-with}
use Rattle.pth_queue.proofs.Changes.{rows-with_other, same_or_other}
use Rattle.pth_queue.proofs.Homes.{has-holds, holds-has}
use Rattle.pth_queue.proofs.Inserting.{slots-append}
use Rattle.pth_queue.proofs.Lawful.{under}
use Rattle.pth_queue.proofs.Neighbours.{gap_at, in-middle, in-own, last-append, next_at, prev_at}
use Rattle.pth_queue.proofs.Reading.{last-or}
use Rattle.pth_queue.proofs.Removing.{delete-middle, has-middle, last_rank-append, split}
use Rattle.pth_queue.proofs.Spotting.{ended}

none_some : {X P : Type 0} (x : X) → None ≡ Some x → P
none_some x k = cc

distinct-once : (rows : List Ranked) → ((s : ℕ) → count_by (is_of s) rows ≤ 1) → Distinct (slots_of rows)
distinct-once [] once = tt
distinct-once (x ∷ xs) once = (
  λ y h k.
      let more : 1 ≤ count_by (is_of x.holder) xs = count-present x.holder xs (has-holds x.holder xs (subst (λ z. StandsIn z (slots_of xs)) k h)) in
      let two : count_by (is_of x.holder) (x ∷ xs) ≡ 1 + count_by (is_of x.holder) xs = count-cons x.holder x xs ∙ ap (λ (b : Bool). cond b 1 0 + count_by (is_of x.holder) xs) (eq-eqb x.holder x.holder refl) in
      let one : count_by (is_of x.holder) (x ∷ xs) ≤ 1 = once x.holder in
      omega arith,
  distinct-once xs (λ s. let c = count-cons s x xs in let one : count_by (is_of s) (x ∷ xs) ≤ 1 = once s in omega arith),
)

distinct-rows : (q : Queue) (qs : QueuesOf) (rows : List Ranked) → IsOrderly qs → rows_of q qs ≡ rows → Distinct (slots_of rows)
distinct-rows q qs rows o is = subst (λ l. Distinct (slots_of l)) is (distinct-once (rows_of q qs) (λ s. once_in q s qs o))

-- the node of a slot whose row stands here
pub placed : (q : Queue) (qs : QueuesOf) (front : List Ranked) (e : Ranked) (back : List Ranked) → IsOrderly qs → rows_of q qs ≡ front ++ e ∷ back → node_of e.holder qs ≡ Some (a_node (prev_at front e back) (next_at front e back) (gap_at front e))
placed q qs front e back o is =
    let d : Distinct (slots_of front ++ e.holder ∷ slots_of back) = subst Distinct (slots-append front (e ∷ back)) (distinct-rows q qs (front ++ e ∷ back) o is) in
    ap (option_and_then (λ p. node_in e.holder (rows_of p qs))) (queue_of-holds q e.holder qs o (ap (holds e.holder) is ∙ has-holds e.holder (front ++ e ∷ back) (has-middle front e back)))
    ∙ ap (node_in e.holder) is
    ∙ in-own front e back (λ h. distinct-apart (slots_of front) (e.holder ∷ slots_of back) d e.holder h e.holder (inl refl) refl)

none-placed : (q : Queue) (s : ℕ) (qs : QueuesOf) → IsOrderly qs → queue_of s qs ≡ Some q → node_of s qs ≡ None → ⊥
none-placed q s qs o stands none =
    let r = split (rows_of q qs) s (holds-has s (rows_of q qs) (holds-queue_of q s qs stands)) in
    none_some (a_node (prev_at r.front r.row r.back) (next_at r.front r.row r.back) (gap_at r.front r.row)) (sym none ∙ ap (λ z. node_of z qs) (sym r.holder) ∙ placed q qs r.front r.row r.back o r.is)

nowhere-if : (s : ℕ) (qs : QueuesOf) (p : Option Queue) → IsOrderly qs → queue_of s qs ≡ p → node_of s qs ≡ None → p ≡ None
nowhere-if s qs None o is none = refl
nowhere-if s qs (Some q) o is none = absurd (none-placed q s qs o is none)

-- a slot that stands nowhere has no node, and no other has none
pub nowhere-none : (s : ℕ) (qs : QueuesOf) → IsOrderly qs → (node_of s qs ≡ None) ↔ IsNowhere s qs
nowhere-none s qs o = (nowhere-if s qs (queue_of s qs) o refl, λ h. ap (option_and_then (λ q. node_in s (rows_of q qs))) h)

-- GAPS
pub head-gap : (q : Queue) (qs : QueuesOf) (x : Ranked) (xs : List Ranked) → IsOrderly qs → rows_of q qs ≡ x ∷ xs → gap_of x.holder qs ≡ Some x.rank
head-gap q qs x xs o is = ap (option_map (λ (n : Node). n.gap)) (placed q qs [] x xs o is)

gap-behind : (front : List Ranked) (x y : Ranked) → gap_at (front ++ x ∷ []) y ≡ (x.rank -ℤ y.rank)
gap-behind [] x y = refl
gap-behind (f ∷ fs) x y = ap (λ z. z -ℤ y.rank) (last_rank-append f.rank fs x [])

pub other-gaps : (q : Queue) (qs : QueuesOf) (front : List Ranked) (x y : Ranked) (back : List Ranked) → IsOrderly qs → rows_of q qs ≡ front ++ x ∷ y ∷ back → gap_of y.holder qs ≡ Some (x.rank -ℤ y.rank)
other-gaps q qs front x y back o is =
    ap (option_map (λ (n : Node). n.gap)) (placed q qs (front ++ x ∷ []) y back o (is ∙ sym (append_assoc front (x ∷ []) (y ∷ back))))
    ∙ ap Some (gap-behind front x y)

-- CIRCLES
record Follows (rows : List Ranked) (s t : ℕ) : Type 0 where
  pub front : List Ranked
  pub row : Ranked
  pub next : Ranked
  pub back : List Ranked
  pub is : rows ≡ front ++ row ∷ next ∷ back
  pub row_who : row.holder ≡ s
  pub next_who : next.holder ≡ t

same_some : (a b : ℕ) → Some a ≡ Some b → a ≡ b
same_some a b k = cc

follows-head : (s t : ℕ) (x : Ranked) (xs : List Ranked) → x.holder ≡ s → head_of xs ≡ Some t → Follows (x ∷ xs) s t
follows-head s t x [] e h = none_some t h
follows-head s t x (y ∷ ys) e h = record { front = []; row = x; next = y; back = ys; is = refl; row_who = e; next_who = same_some y.holder t h }

follows : (s t : ℕ) (rows : List Ranked) → after_in s rows ≡ Some t → Follows rows s t
follows s t [] h = none_some t h
follows s t (x ∷ xs) h = elim (cases_eq x.holder s) [
  | inl e ↦ follows-head s t x xs e (sym (ap (λ (b : Bool). if b then head_of xs else after_in s xs) (eq-eqb x.holder s e)) ∙ h)
  | inr n ↦
      let f = follows s t xs (sym (ap (λ (b : Bool). if b then head_of xs else after_in s xs) (ne_eqb x.holder s n)) ∙ h) in
      record { front = x ∷ f.front; row = f.row; next = f.next; back = f.back; is = ap (λ l. x ∷ l) f.is; row_who = f.row_who; next_who = f.next_who }
]

next-before : (front : List Ranked) (x y : Ranked) (back : List Ranked) → next_at front x (y ∷ back) ≡ y.holder
next-before [] x y back = refl
next-before (f ∷ fs) x y back = refl

prev-behind : (front : List Ranked) (x y : Ranked) (back : List Ranked) → prev_at (front ++ x ∷ []) y back ≡ x.holder
prev-behind [] x y back = refl
prev-behind (f ∷ fs) x y back = last-append f.holder fs x []

next-by : (s t : ℕ) (q : Queue) (qs : QueuesOf) → IsOrderly qs → Follows (rows_of q qs) s t → next_of s qs ≡ Some t
next-by s t q qs o f =
    ap (λ z. next_of z qs) (sym f.row_who)
    ∙ ap (option_map (λ (n : Node). n.next.0)) (placed q qs f.front f.row (f.next ∷ f.back) o f.is)
    ∙ ap Some (next-before f.front f.row f.next f.back ∙ f.next_who)

prev-by : (s t : ℕ) (q : Queue) (qs : QueuesOf) → IsOrderly qs → Follows (rows_of q qs) s t → prev_of t qs ≡ Some s
prev-by s t q qs o f =
    ap (λ z. prev_of z qs) (sym f.next_who)
    ∙ ap (option_map (λ (n : Node). n.prev.0)) (placed q qs (f.front ++ f.row ∷ []) f.next f.back o (f.is ∙ sym (append_assoc f.front (f.row ∷ []) (f.next ∷ f.back))))
    ∙ ap Some (prev-behind f.front f.row f.next f.back ∙ f.row_who)

next-if : (s t : ℕ) (qs : QueuesOf) (o : Option Queue) → IsOrderly qs → option_and_then (λ q. after_in s (rows_of q qs)) o ≡ Some t → next_of s qs ≡ Some t
next-if s t qs None o h = none_some t h
next-if s t qs (Some q) o h = next-by s t q qs o (follows s t (rows_of q qs) h)

pub next-after : (s t : ℕ) (qs : QueuesOf) → IsOrderly qs → after_of s qs ≡ Some t → next_of s qs ≡ Some t
next-after s t qs o h = next-if s t qs (queue_of s qs) o h

prev-if : (s t : ℕ) (qs : QueuesOf) (o : Option Queue) → IsOrderly qs → option_and_then (λ q. after_in s (rows_of q qs)) o ≡ Some t → prev_of t qs ≡ Some s
prev-if s t qs None o h = none_some t h
prev-if s t qs (Some q) o h = prev-by s t q qs o (follows s t (rows_of q qs) h)

pub prev-after : (s t : ℕ) (qs : QueuesOf) → IsOrderly qs → after_of s qs ≡ Some t → prev_of t qs ≡ Some s
prev-after s t qs o h = prev-if s t qs (queue_of s qs) o h

next-end : (front : List Ranked) (x : Ranked) → Some (next_at front x []) ≡ head_of (front ++ x ∷ [])
next-end [] x = refl
next-end (f ∷ fs) x = refl

next-last-by : (s t : ℕ) (q : Queue) (qs : QueuesOf) (rows : List Ranked) → IsOrderly qs → rows_of q qs ≡ rows → last_of rows ≡ Some s → head_of rows ≡ Some t → next_of s qs ≡ Some t
next-last-by s t q qs [] o is last head = none_some s last
next-last-by s t q qs (x ∷ xs) o is last head =
    let e = ended x xs in
    ap (λ z. next_of z qs) (sym (e.holder ∙ same_some (last_or x.holder (slots_of xs)) s (last-or x xs ∙ last)))
    ∙ ap (option_map (λ (n : Node). n.next.0)) (placed q qs e.front e.row [] o (is ∙ e.is))
    ∙ next-end e.front e.row ∙ ap head_of (sym e.is) ∙ head

pub next-last : (s t : ℕ) (q : Queue) (qs : QueuesOf) → IsOrderly qs → last_of (rows_of q qs) ≡ Some s → head_of (rows_of q qs) ≡ Some t → next_of s qs ≡ Some t
next-last s t q qs o last head = next-last-by s t q qs (rows_of q qs) o refl last head

prev-head-by : (s t : ℕ) (q : Queue) (qs : QueuesOf) (rows : List Ranked) → IsOrderly qs → rows_of q qs ≡ rows → head_of rows ≡ Some s → last_of rows ≡ Some t → prev_of s qs ≡ Some t
prev-head-by s t q qs [] o is head last = none_some s head
prev-head-by s t q qs (x ∷ xs) o is head last =
    ap (λ z. prev_of z qs) (sym (same_some x.holder s head))
    ∙ ap (option_map (λ (n : Node). n.prev.0)) (placed q qs [] x xs o is)
    ∙ last-or x xs ∙ last

pub prev-head : (s t : ℕ) (q : Queue) (qs : QueuesOf) → IsOrderly qs → head_of (rows_of q qs) ≡ Some s → last_of (rows_of q qs) ≡ Some t → prev_of s qs ≡ Some t
prev-head s t q qs o head last = prev-head-by s t q qs (rows_of q qs) o refl head last

-- OTHERS
holds-middle : (t : ℕ) (front : List Ranked) (e : Ranked) (back : List Ranked) → t ≢ e.holder → holds t (front ++ e ∷ back) ≡ holds t (front ++ back)
holds-middle t [] e back n = ap (λ (b : Bool). b || holds t back) (ne_eqb e.holder t (λ k. n (sym k)))
holds-middle t (f ∷ fs) e back n = ap (λ (b : Bool). (f.holder == t) || b) (holds-middle t fs e back n)

same-queue : (t : ℕ) (v w : QueuesOf) → ((p : Queue) → holds t (rows_of p v) ≡ holds t (rows_of p w)) → queue_of t v ≡ queue_of t w
same-queue t v w same =
    let a : holds t v.new ≡ holds t w.new = same New in
    let b : holds t v.ready ≡ holds t w.ready = same Ready in
    let c : holds t v.waiting ≡ holds t w.waiting = same Waiting in
    let d : holds t v.suspended ≡ holds t w.suspended = same Suspended in
    let e : holds t v.dead ≡ holds t w.dead = same Dead in
    rw (a, b, c, d, e) refl

-- v has one row more than w
module _ (t : ℕ) (q : Queue) (front : List Ranked) (e : Ranked) (back : List Ranked) (v w : QueuesOf) (more : rows_of q v ≡ front ++ e ∷ back) (less : rows_of q w ≡ front ++ back) (rest : (p : Queue) → p ≢ q → rows_of p v ≡ rows_of p w) (o : IsOrderly v) (apart : IsApart t e.holder v) where
  each : {X : Type 0} (f : List Ranked → X) → f (front ++ e ∷ back) ≡ f (front ++ back) → (p : Queue) → f (rows_of p v) ≡ f (rows_of p w)
  each f same p = elim (same_or_other p q) [
    | inl k ↦ ap (λ z. f (rows_of z v)) k ∙ ap f more ∙ same ∙ sym (ap (λ z. f (rows_of z w)) k ∙ ap f less)
    | inr n ↦ ap f (rest p n)
  ]

  own : node_of e.holder v ≡ Some (a_node (prev_at front e back) (next_at front e back) (gap_at front e))
  own = placed q v front e back o more

  prev : t ≢ prev_at front e back
  prev = subst (λ p. IfSome p (λ z. t ≢ z)) (ap (option_map (λ (n : Node). n.prev.0)) own) apart.prev

  next : t ≢ next_at front e back
  next = subst (λ n. IfSome n (λ z. t ≢ z)) (ap (option_map (λ (n : Node). n.next.0)) own) apart.next

  pub same-node : node_of t v ≡ node_of t w
  same-node =
      ap (option_and_then (λ p. node_in t (rows_of p v))) (same-queue t v w (each (holds t) (holds-middle t front e back apart.other)))
      ∙ under (λ p. node_in t (rows_of p v)) (λ p. node_in t (rows_of p w)) (queue_of t w) (each (node_in t) (in-middle t front e back apart.other prev next))

record Parts (e : Ranked) (rows more : List Ranked) : Type 0 where
  pub front : List Ranked
  pub back : List Ranked
  pub old : rows ≡ front ++ back
  pub new : more ≡ front ++ e ∷ back

parts-if : (e x : Ranked) (xs : List Ranked) (b : Bool) → Parts e xs (insert e xs) → Parts e (x ∷ xs) (if b then e ∷ x ∷ xs else x ∷ insert e xs)
parts-if e x xs true p = record { front = []; back = x ∷ xs; old = refl; new = refl }
parts-if e x xs false p = record { front = x ∷ p.front; back = p.back; old = ap (λ l. x ∷ l) p.old; new = ap (λ l. x ∷ l) p.new }

parts : (e : Ranked) (rows : List Ranked) → Parts e rows (insert e rows)
parts e [] = record { front = []; back = []; old = refl; new = refl }
parts e (x ∷ xs) = parts-if e x xs (int_lt x.rank e.rank) (parts e xs)

pub others-entered : (s t : ℕ) (q : Queue) (rank : ℤ) (qs : QueuesOf) → IsOrderly qs → s < qs.room → IsNowhere s qs → IsRank rank → IsApart t s (entered q rank s qs) → node_of t (entered q rank s qs) ≡ node_of t qs
others-entered s t q rank qs o room nowhere r apart =
    let e : Ranked = record { rank = rank; holder = s } in
    let p = parts e (rows_of q qs) in
    same-node t q p.front e p.back (entered q rank s qs) qs (rows_of-with q (insert e (rows_of q qs)) qs ∙ p.new) p.old (λ z n. rows-with_other z q (insert e (rows_of q qs)) qs n) (IsOrderly-entered q rank s qs o room nowhere r) apart

others-taken : (s t : ℕ) (q : Queue) (qs : QueuesOf) → IsOrderly qs → queue_of s qs ≡ Some q → IsApart t s qs → node_of t (without s qs) ≡ node_of t qs
others-taken s t q qs o stands apart =
    let held : holds s (rows_of q qs) ≡ true = holds-queue_of q s qs stands in
    let r = split (rows_of q qs) s (holds-has s (rows_of q qs) held) in
    let gone : delete s (rows_of q qs) ≡ r.front ++ r.back = ap (λ z. delete z (rows_of q qs)) (sym r.holder) ∙ ap (delete r.row.holder) r.is ∙ delete-middle r.front r.row r.back (distinct-rows q qs (r.front ++ r.row ∷ r.back) o r.is) in
    let taken : with_rows q (delete s (rows_of q qs)) qs ≡ without s qs = deleted_is q s qs o (count-present s (rows_of q qs) held) in
    sym (same-node t q r.front r.row r.back qs (with_rows q (delete s (rows_of q qs)) qs) r.is (rows_of-with q (delete s (rows_of q qs)) qs ∙ gone) (λ z n. sym (rows-with_other z q (delete s (rows_of q qs)) qs n)) o (subst (λ z. IsApart t z qs) (sym r.holder) apart) ∙ ap (node_of t) taken)

others-if : (s t : ℕ) (qs : QueuesOf) (p : Option Queue) → queue_of s qs ≡ p → IsSome p → IsOrderly qs → IsApart t s qs → node_of t (without s qs) ≡ node_of t qs
others-if s t qs None is some o apart = no_some some
  where
    no_some : {P : Type 0} → false ≡ true → P
    no_some k = cc
others-if s t qs (Some q) is some o apart = others-taken s t q qs o is apart

pub others-without : (s t : ℕ) (qs : QueuesOf) → IsOrderly qs → IsSome (queue_of s qs) → IsApart t s qs → node_of t (without s qs) ≡ node_of t qs
others-without s t qs o some apart = others-if s t qs (queue_of s qs) refl some o apart
