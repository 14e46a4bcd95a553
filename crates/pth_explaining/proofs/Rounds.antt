-- Each circle is printed, and what is printed is a circle.
use Rattle.std.proofs.Common.{◌≡◌, ◌≢◌, ◌∙◌, ◌<◌, ◌≤◌, ◌+◌, ◌-◌, ◌==◌, nat_le, ℕ, zero, suc, Bool, true, false, if◌then◌else◌, List, [], ◌∷◌, drop, length, get_or, map, Option, Some, None, option_and_then, option_map, ap, sym, refl, subst, arith, inl, inr}
use Rattle.std.specs.List.{cons_option, filter_map, find}
use Rattle.std.proofs.lemmas.Bool.Decides.{nat_tests}
use Rattle.std.proofs.lemmas.List.{length-map}
use Rattle.pth_base.proofs.Tables.{not_same, same_fails, same_means}
use Rattle.pth_audit.specs.Blocking.{IsCircle, along}
use Rattle.pth_audit.proofs.Circles.{along-none, along-step, circle_made, some_next}
use Rattle.pth_audit.proofs.Few.{IsIn, apart_from_places, few, place_of}
use Rattle.pth_explaining.specs.Circles.{circle_from, circles_in, if_least, is_least, on_whom, way}
use Rattle.pth_explaining.specs.Told.{IsAmong}
use Rattle.pth_explaining.specs.declared.circles.Block.{Block}
use Rattle.pth_explaining.proofs.Ways.{same}

-- ---- a way that leads back

module _ (b : ℕ → Option ℕ) (t : ℕ) where
  -- the threads from u on, each of which blocks on the next, the last on t, and no later one is t
  record Leads (u : ℕ) (ts : List ℕ) : Type 0 where
    some : 1 ≤ length ts
    first : get_or ts 0 0 ≡ u
    next : (i : ℕ) → i + 1 < length ts → b (get_or ts i 0) ≡ Some (get_or ts (i + 1) 0)
    last : b (get_or ts (length ts - 1) 0) ≡ Some t
    away : (i : ℕ) → 1 ≤ i → i < length ts → get_or ts i 0 ≢ t

  one : (u : ℕ) → b u ≡ Some t → Leads u (u ∷ [])
  one u back = record {
    some = omega arith;
    first = refl;
    next = λ i low. absurd (omega (arith, low));
    last = back;
    away = λ i some low. absurd (omega (arith, some, low));
  }

  longer : (u v : ℕ) (ts : List ℕ) → b u ≡ Some v → v ≢ t → Leads v ts → Leads u (u ∷ ts)
  longer u v ts on other l = record {
    some = omega arith;
    first = refl;
    next = λ i low. next-of i low;
    last = last-of ts refl;
    away = λ i some low. away-of i some low;
  }
    where
      next-of : (i : ℕ) → i + 1 < length (u ∷ ts) → b (get_or (u ∷ ts) i 0) ≡ Some (get_or (u ∷ ts) (i + 1) 0)
      next-of zero low = on ∙ ap (λ (n : ℕ). Some n) (sym l.first)
      next-of (suc i) low = l.next i (omega (arith, low)) ∙ ap (λ (n : ℕ). Some (get_or (u ∷ ts) n 0)) (let e : suc (i + 1) ≡ suc i + 1 = omega arith in e)

      last-of : (xs : List ℕ) → ts ≡ xs → b (get_or (u ∷ ts) (length (u ∷ ts) - 1) 0) ≡ Some t
      last-of [] is = absurd (let e = l.some in let none = ap length is in omega (arith, e, none))
      last-of (x ∷ xs) is =
          ap (λ (n : ℕ). b (get_or (u ∷ ts) n 0)) (let some = l.some in let e : length (u ∷ ts) - 1 ≡ suc (length ts - 1) = omega (arith, some) in e) ∙ l.last

      away-of : (i : ℕ) → 1 ≤ i → i < length (u ∷ ts) → get_or (u ∷ ts) i 0 ≢ t
      away-of zero some low = absurd (omega (arith, some))
      away-of (suc zero) some low = λ is. other (sym l.first ∙ is)
      away-of (suc (suc i)) some low = l.away (suc i) (omega arith) (omega (arith, low))

  from_way : (u v : ℕ) (ts : List ℕ) (o : Option (List ℕ)) → option_map (λ xs. u ∷ xs) o ≡ Some ts → b u ≡ Some v → v ≢ t → ((xs : List ℕ) → o ≡ Some xs → Leads v xs) → Leads u ts
  from_way u v ts None is on other rest = absurd (cc)
  from_way u v ts (Some xs) is on other rest = subst (Leads u) (let e : u ∷ xs ≡ ts = cc in e) (longer u v xs on other (rest xs refl))

  from_test : (k u v : ℕ) (ts : List ℕ) (c : Bool) → (v == t) ≡ c → option_map (λ xs. u ∷ xs) (if c then Some [] else way b k t v) ≡ Some ts → b u ≡ Some v
      → ((xs : List ℕ) → way b k t v ≡ Some xs → Leads v xs) → Leads u ts
  from_test k u v ts true here is on rest = subst (Leads u) (let e : u ∷ [] ≡ ts = cc in e) (one u (on ∙ ap (λ (n : ℕ). Some n) (same_means v t here)))
  from_test k u v ts false apart is on rest = from_way u v ts (way b k t v) is on (same_fails v t apart) rest

  unwrap : (k u : ℕ) (ts : List ℕ) (o : Option ℕ) → b u ≡ o → ((v : ℕ) (xs : List ℕ) → way b k t v ≡ Some xs → Leads v xs)
      → option_map (λ xs. u ∷ xs) (option_and_then (λ v. if v == t then Some [] else way b k t v) o) ≡ Some ts → Leads u ts
  unwrap k u ts None on rest is = absurd (cc)
  unwrap k u ts (Some v) on rest is = from_test k u v ts (v == t) refl is on (rest v)

  leads : (n u : ℕ) (ts : List ℕ) → way b n t u ≡ Some ts → Leads u ts
  unfolding way
  leads zero u ts is = absurd (cc)
  leads (suc k) u ts is = unwrap k u ts (b u) refl (leads k) is

  -- a way from t back to t is a circle
  gone : (ts : List ℕ) → Leads t ts → (k : ℕ) → k < length ts → along b k t ≡ Some (get_or ts k 0)
  gone ts l zero low = along-none b t ∙ ap (λ (n : ℕ). Some n) (sym l.first)
  gone ts l (suc k) low =
      ap (λ (n : ℕ). along b n t) (let e : suc k ≡ k + 1 = omega arith in e)
      ∙ along-step b k t (get_or ts k 0) (gone ts l k (omega (arith, low))) ∙ l.next k (omega (arith, low))
      ∙ ap (λ (n : ℕ). Some (get_or ts n 0)) (let e : k + 1 ≡ suc k = omega arith in e)

  circle_of : (ts : List ℕ) → Leads t ts → IsCircle b ts
  circle_of ts l =
      let some = l.some in
      let back : along b (length ts) t ≡ Some t =
      ap (λ (n : ℕ). along b n t) (let e : length ts ≡ length ts - 1 + 1 = omega (arith, some) in e)
      ∙ along-step b (length ts - 1) t (get_or ts (length ts - 1) 0) (gone ts l (length ts - 1) (omega (arith, some))) ∙ l.last in
      circle_made b t (length ts) ts l.some refl (gone ts l) back
      (λ k low high at. l.away k low high (let e = sym (gone ts l k high) ∙ at in cc e))

-- ---- a circle is followed

dropped : (us : List ℕ) (i : ℕ) → i < length us → drop i us ≡ get_or us i 0 ∷ drop (suc i) us
dropped [] i low = absurd (omega (arith, low))
dropped (x ∷ xs) zero low = refl
dropped (x ∷ xs) (suc i) low = dropped xs i (omega (arith, low))

over : (us : List ℕ) (i : ℕ) → length us ≤ i → drop i us ≡ []
over [] zero past = refl
over [] (suc i) past = refl
over (x ∷ xs) zero past = absurd (omega (arith, past))
over (x ∷ xs) (suc i) past = over xs i (omega (arith, past))

step : (b : ℕ → Option ℕ) (t k u : ℕ) → Option ℕ → Option (List ℕ)
step b t k u o = option_map (λ ts. u ∷ ts) (option_and_then (λ v. if v == t then Some [] else way b k t v) o)

stepped : (b : ℕ → Option ℕ) (t k u v : ℕ) (c : Bool) → b u ≡ Some v → (v == t) ≡ c → way b (suc k) t u ≡ option_map (λ ts. u ∷ ts) (if c then Some [] else way b k t v)
unfolding way step
stepped b t k u v c on is = ap (step b t k u) on ∙ ap (λ (d : Bool). option_map (λ ts. u ∷ ts) (if d then Some [] else way b k t v)) is

module _ (b : ℕ → Option ℕ) (us : List ℕ) (c : IsCircle b us) where
  t : ℕ
  t = get_or us 0 0

  followed : (d n i : ℕ) → i + d + 1 ≡ length us → d < n → way b n t (get_or us i 0) ≡ Some (drop i us)
  unfolding t
  followed d zero i long low = absurd (omega (arith, low))
  followed zero (suc k) i long low =
      let end : length us - 1 ≡ i = omega (arith, long) in
      stepped b t k (get_or us i 0) t true (ap (λ (n : ℕ). b (get_or us n 0)) (sym end) ∙ c.last) (same refl)
      ∙ ap (λ (l : List ℕ). Some (get_or us i 0 ∷ l)) (sym (over us (suc i) (omega (arith, long))))
      ∙ ap (λ (l : List ℕ). Some l) (sym (dropped us i (omega (arith, long))))
  followed (suc d) (suc k) i long low =
      stepped b t k (get_or us i 0) (get_or us (i + 1) 0) false (c.next i (omega (arith, long)))
      (not_same (get_or us (i + 1) 0) t (λ is. c.distinct 0 (i + 1) (omega arith) (omega (arith, long)) (sym is)))
      ∙ ap (option_map (λ ts. get_or us i 0 ∷ ts)) (followed d k (i + 1) (omega (arith, long)) (omega (arith, low)))
      ∙ ap (λ (n : ℕ). Some (get_or us i 0 ∷ drop n us)) (let e : i + 1 ≡ suc i = omega arith in e)
      ∙ ap (λ (l : List ℕ). Some l) (sym (dropped us i (omega (arith, long))))

  pub whole : (n : ℕ) → length us ≤ n → way b n (get_or us 0 0) (get_or us 0 0) ≡ Some us
  unfolding t
  whole n few = let some = c.some in followed (length us - 1) n 0 (omega (arith, some)) (omega (arith, some, few))

-- ---- lists

among_filter : {A B : Type 0} (f : A → Option B) (xs : List A) (y : B) → IsAmong y (filter_map f xs) → (x : A) × (f x ≡ Some y)
among_filter {A} {B} f [] y is = absurd is
among_filter {A} {B} f (x ∷ xs) y is = by (among_filter f xs y) (f x) refl is
  where
    by : (IsAmong y (filter_map f xs) → (x : A) × (f x ≡ Some y)) → (o : Option B) → f x ≡ o → IsAmong y (cons_option o (filter_map f xs)) → (x : A) × (f x ≡ Some y)
    by rest None none is = rest is
    by rest (Some z) some (inl here) = (x, some ∙ ap (λ w. Some w) (sym here))
    by rest (Some z) some (inr later) = rest later

filter_among : {A B : Type 0} (f : A → Option B) (xs : List A) (x : A) (y : B) → IsAmong x xs → f x ≡ Some y → IsAmong y (filter_map f xs)
filter_among {A} {B} f [] x y is some = absurd is
filter_among {A} {B} f (z ∷ xs) x y (inl here) some =
    subst (λ (o : Option B). IsAmong y (cons_option o (filter_map f xs))) (sym some ∙ ap f here) (inl refl)
filter_among {A} {B} f (z ∷ xs) x y (inr later) some = by (f z) (filter_among f xs x y later some)
  where
    by : (o : Option B) → IsAmong y (filter_map f xs) → IsAmong y (cons_option o (filter_map f xs))
    by None is = is
    by (Some w) is = inr is

-- ---- blocks

block_there : (xs : List Block) (t v : ℕ) → on_whom xs t ≡ Some v → (x : Block) × IsAmong x xs × (x.thread ≡ t)
block_there [] t v is = absurd (cc)
block_there (x ∷ xs) t v is = by (block_there xs t v) (x.thread == t) refl is
  where
    by : (on_whom xs t ≡ Some v → (x : Block) × IsAmong x xs × (x.thread ≡ t)) → (c : Bool) → (x.thread == t) ≡ c
        → option_map (λ x. x.on) (if c then Some x else find (λ x. x.thread == t) xs) ≡ Some v → (y : Block) × IsAmong y (x ∷ xs) × (y.thread ≡ t)
    by rest true here is = (x, inl refl, same_means x.thread t here)
    by rest false apart is = (let found = rest is in (found.0, inr found.1, found.2))

thread_there : (xs : List Block) (x : Block) → IsAmong x xs → IsIn x.thread (map (λ x. x.thread) xs)
thread_there [] x is = absurd is
thread_there (y ∷ xs) x (inl here) = inl (ap (λ (z : Block). z.thread) here)
thread_there (y ∷ xs) x (inr later) = inr (thread_there xs x later)

least_of : (t : ℕ) (o : Option (List ℕ)) (ts : List ℕ) → if_least t o ≡ Some ts → o ≡ Some ts
least_of t None ts is = is
least_of t (Some xs) ts is = by (is_least t xs) is
  where
    by : (c : Bool) → (if c then Some xs else None) ≡ Some ts → Some xs ≡ Some ts
    by true is = is
    by false is = absurd (cc)

all_later : (t : ℕ) (us : List ℕ) → ((i : ℕ) → i < length us → t ≤ get_or us i 0) → is_least t us ≡ true
all_later t [] later = refl
all_later t (u ∷ us) later =
    let here : nat_le t u ≡ true = (let le = later 0 (omega arith) in grind (arith, nat_tests)) in
    let rest : is_least t us ≡ true = all_later t us (λ i low. later (suc i) (omega (arith, low))) in
    rw here rest

-- ---- what is printed

pub each : (blocks : List Block) (ts : List ℕ) → IsAmong ts (circles_in blocks) → IsCircle (on_whom blocks) ts
each blocks ts is =
    let from = among_filter (λ (x : Block). if_least x.thread (circle_from (on_whom blocks) (length blocks) x.thread)) blocks ts is in
    let x = from.0 in
    circle_of (on_whom blocks) x.thread ts
    (leads (on_whom blocks) x.thread (length blocks) x.thread ts (least_of x.thread (circle_from (on_whom blocks) (length blocks) x.thread) ts from.1))

module _ (blocks : List Block) (us : List ℕ) (c : IsCircle (on_whom blocks) us) where
  few_threads : length us ≤ length blocks
  few_threads =
      let among : (x : ℕ) → IsIn x us → IsIn x (map (λ (x : Block). x.thread) blocks) = λ x is.
      (let p = place_of x us is in
      let n = some_next (on_whom blocks) us c p.0 p.1 in
      let found = block_there blocks (get_or us p.0 0) n.0 n.1 in
      subst (λ (y : ℕ). IsIn y (map (λ (x : Block). x.thread) blocks)) (found.2 ∙ p.2) (thread_there blocks found.0 found.1)) in
      subst (λ (n : ℕ). length us ≤ n) (length-map blocks (λ (x : Block). x.thread)) (few us (map (λ (x : Block). x.thread) blocks) (apart_from_places us c.distinct) among)

  pub all : ((i : ℕ) → i < length us → get_or us 0 0 ≤ get_or us i 0) → IsAmong us (circles_in blocks)
  all later =
      let some = c.some in
      let n = some_next (on_whom blocks) us c 0 (omega (arith, some)) in
      let found = block_there blocks (get_or us 0 0) n.0 n.1 in
      let f = λ (x : Block). if_least x.thread (circle_from (on_whom blocks) (length blocks) x.thread) in
      let whole-way : circle_from (on_whom blocks) (length blocks) (get_or us 0 0) ≡ Some us = whole (on_whom blocks) us c (length blocks) few_threads in
      let at : if_least (get_or us 0 0) (circle_from (on_whom blocks) (length blocks) (get_or us 0 0)) ≡ Some us =
      ap (if_least (get_or us 0 0)) whole-way ∙ ap (λ (d : Bool). if d then Some us else None) (all_later (get_or us 0 0) us later) in
      filter_among f blocks found.0 us found.1
      (subst (λ (t : ℕ). if_least t (circle_from (on_whom blocks) (length blocks) t) ≡ Some us) (sym found.2) at)
