-- What threads go on with, after the continuation at one slot was changed.
use Rattle.std.proofs.Common.{◌≡◌, ◌≢◌, ℕ, ◌<◌, List, length, get_or, set, replicate, inl, inr, Option, Some, None, option_map, refl, sym, ◌∙◌, ap, arith, length-set, get_or-set_other, get_or-set_same}
use Rattle.std.proofs.lemmas.Bool.{cases_lt}
use Rattle.std.proofs.lemmas.List.{get_or_default, get_or_past, get_or-replicate, length-replicate}
use Rattle.pth_base.specs.Limits.{thread_limit}
use Rattle.pth_base.specs.Table.{put, table}
use Rattle.pth_base.proofs.Lists.{table_set}
use Rattle.pth_base.proofs.Tables.{put_by}
use Rattle.pth_base.specs.declared.answer.Answer.{Answer}
use Rattle.pth_model.specs.declared.awaits.Awaited.{Awaited}
use Rattle.pth_model.specs.declared.progress.Progress.{Progress}
use Rattle.pth_model.specs.Changes.{blocking, owing}
use Rattle.pth_tables.specs.Progress.{awaited_at, nothing_awaited, IsAwaitedBeside}

module _ {S : Type 0} (xs : List (Option (Progress S))) (u : ℕ) (long : length xs ≡ thread_limit) (low : u < thread_limit) where
  within : u < length xs
  within = omega arith

  pub items-set : (o : Option (Progress S)) → table None (set xs u o) ≡ put (table None xs) u o
  items-set o = table_set xs u o None within

  -- what is read there
  pub item_is : (o : Option (Progress S)) → o ≡ get_or xs u o → table None xs u ≡ o
  item_is o is = get_or_default xs u None o within ∙ sym is

-- What is left where one thing of the list xs was changed: ys has v at u, and beside it stands what is said.
pub record Becomes {S : Type 0} (xs ys : List (Option (Progress S))) (now after : List Awaited) (u : ℕ) (v : Option (Progress S)) : Type 0 where
  pub changed : table None ys ≡ put (table None xs) u v
  pub long : length ys ≡ thread_limit
  pub beside : after ≡ now

module _ {S : Type 0} (xs : List (Option (Progress S))) (u : ℕ) (long : length xs ≡ thread_limit) (low : u < thread_limit) where
  becomes : (ys : List (Option (Progress S))) (now after : List Awaited) (o v : Option (Progress S)) → ys ≡ set xs u o → o ≡ v → after ≡ now → Becomes xs ys now after u v
  becomes ys now after o v changed is beside = record {
    changed = ap (table None) changed ∙ items-set xs u long low o ∙ ap (put (table None xs) u) is;
    long = ap length changed ∙ length-set xs u o ∙ long;
    beside = beside;
  }

  -- something else stands there
  pub becomes-set : (now : List Awaited) (o : Option (Progress S)) → Becomes xs (set xs u o) now now u o
  becomes-set now o = becomes (set xs u o) now now o o refl refl refl

  module _ (f : Progress S → Progress S) (ys : List (Option (Progress S))) (now after : List Awaited) (o : Option (Progress S)) (is : o ≡ get_or xs u o) where
    -- a continuation is changed by f
    pub becomes-some : (x : Progress S) → o ≡ Some x → ys ≡ set xs u (Some (f x)) → after ≡ now → Becomes xs ys now after u (option_map f (table None xs u))
    becomes-some x some changed beside = becomes ys now after (Some (f x)) (option_map f (table None xs u)) changed (sym (ap (option_map f) (item_is xs u long low o is ∙ some))) beside

    -- none is there
    pub becomes-none : o ≡ None → ys ≡ set xs u o → after ≡ now → Becomes xs ys now after u (option_map f (table None xs u))
    becomes-none none changed beside = becomes ys now after o (option_map f (table None xs u)) changed (none ∙ sym (ap (option_map f) (item_is xs u long low o is ∙ none))) beside

-- ---- what stands beside

-- who is owed another answer waits for the same
pub owing_awaited : {S : Type 0} (a : Answer) (o : Option (Progress S)) → awaited_at (option_map (owing a) o) ≡ awaited_at o
owing_awaited a (Some p) = refl
owing_awaited a None = refl

-- whom no call blocks waits for nothing
pub unblocked_awaited : {S : Type 0} (o : Option (Progress S)) → nothing_awaited ≡ awaited_at (option_map (blocking None) o)
unblocked_awaited (Some p) = refl
unblocked_awaited None = refl

module _ {S : Type 0} (xs ys : List (Option (Progress S))) (before after : List Awaited) (kept : IsAwaitedBeside xs before) (u : ℕ) (low : u < thread_limit) (v : Option (Progress S)) where
  each_kept : (now : List Awaited) → length now ≡ length before → table nothing_awaited now u ≡ awaited_at v → ((i : ℕ) → i ≢ u → table nothing_awaited now i ≡ table nothing_awaited before i) → Becomes xs ys now after u v → IsAwaitedBeside ys after
  each_kept now long here other b = record {
    long = b.long;
    beside = ap length b.beside ∙ long ∙ kept.beside;
    same = λ i. ap (λ (l : List Awaited). table nothing_awaited l i) b.beside ∙ each i ∙ ap (λ (f : ℕ → Option (Progress S)). awaited_at (f i)) (sym b.changed);
  }
    where
      each : (i : ℕ) → table nothing_awaited now i ≡ awaited_at (put (table None xs) u v i)
      each i = put_by (λ (o : Option (Progress S)). table nothing_awaited now i ≡ awaited_at o) (table None xs) u v i
          (λ same. ap (table nothing_awaited now) same ∙ here)
          (λ apart. other i apart ∙ kept.same i)

  -- what the thread there waits for is set
  pub kept_set : (a : Awaited) → Becomes xs ys (set before u a) after u v → a ≡ awaited_at v → IsAwaitedBeside ys after
  kept_set a b is = each_kept (set before u a) (length-set before u a) (get_or-set_same before u a nothing_awaited (let beside = kept.beside in omega arith) ∙ is) (λ i apart. get_or-set_other before u i a nothing_awaited apart) b

  -- it waits for the same
  pub kept_same : Becomes xs ys before after u v → awaited_at v ≡ awaited_at (table None xs u) → IsAwaitedBeside ys after
  kept_same b is = each_kept before refl (kept.same u ∙ sym is) (λ i apart. refl) b

-- nothing stands anywhere, and nothing is waited for
all_nothing : (n i : ℕ) → table nothing_awaited (replicate n nothing_awaited) i ≡ nothing_awaited
all_nothing n i = elim (cases_lt i n) [ inl low ↦ get_or-replicate n i nothing_awaited nothing_awaited low | inr high ↦ get_or_past (replicate n nothing_awaited) i nothing_awaited (omega (arith, length-replicate n nothing_awaited)) ]

pub kept_none : {S : Type 0} (xs : List (Option (Progress S))) (awaited : List Awaited) → length xs ≡ thread_limit → table None xs ≡ (λ _. None) → awaited ≡ replicate thread_limit nothing_awaited → IsAwaitedBeside xs awaited
kept_none xs awaited long none is = record {
  long = long;
  beside = ap length is ∙ length-replicate thread_limit nothing_awaited;
  same = λ u. ap (λ (l : List Awaited). table nothing_awaited l u) is ∙ all_nothing thread_limit u ∙ sym (ap (λ (f : ℕ → Option (Progress _)). awaited_at (f u)) none);
}
