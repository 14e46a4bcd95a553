-- What the keyword of a line that was read may be.
use Rattle.std.proofs.Common.{◌≡◌, ℕ, suc, ℤ, false, List, [], ◌∷◌, ◌++◌, Option, Some, None, refl, ap, sym, subst, ◌∙◌, append-nil, drop}
use Rattle.std.specs.Prelude.{option_map, option_and_then}
use Rattle.std.proofs.lemmas.Option.{same_Some}
use Rattle.pth_grammar.specs.CallLines.{call_line}
use Rattle.pth_spelling.specs.Starts.{begins, keyword_in, start_of}
use Rattle.pth_grammar.specs.LineMeanings.{numbered, line_begun, line_of, line_by, plain_line, act_begun, act_of, act_by}
use Rattle.pth_grammar.specs.Reading.{read1, read2, read3}
use Rattle.pth_spelling.specs.WordMeanings.{natural_of, operand_of, relation_of}
use Rattle.pth_operand.specs.declared.operand.Register.{Register}
use Rattle.pth_spelling.specs.declared.keyword.CallWord.{CallWord}
use Rattle.pth_spelling.specs.declared.keyword.Keyword.{Keyword}
use Rattle.pth_spelling.specs.declared.start.Start.{Start}
use Rattle.pth_spelling.specs.declared.start.Start.TheVariants as start
use Rattle.pth_spelling.specs.declared.keyword.Keyword.TheVariants as key
use Rattle.pth_line.specs.declared.act_line.ActLine.{ActLine}
use Rattle.pth_line.specs.declared.line.Line.{Line}
use Rattle.pth_line.specs.declared.line.Line.TheVariants as line
use Rattle.pth_script.specs.Labels.{label_in, goto_in, one_or_none}
use Rattle.pth_script.specs.Seen.{Seen, script_past, is_handler, is_check, is_thread, is_end, is_clock, is_opening, is_stamp}
use Rattle.pth_script.proofs.KernelPast.{IsOutside}

-- the keyword of a line within a section
pub record IsInner (k : Option Keyword) : Type 0 where
  pub handler : is_handler k ≡ false
  pub check : is_check k ≡ false
  pub thread : is_thread k ≡ false
  pub end : is_end k ≡ false
  pub outside : IsOutside k

inner : (k : Option Keyword) → is_handler k ≡ false → is_check k ≡ false → is_thread k ≡ false → is_end k ≡ false → is_clock k ≡ false → is_opening k ≡ false → is_stamp k ≡ false → IsInner k
inner k a b c d e f g = record { handler = a; check = b; thread = c; end = d; outside = record { clock = e; opening = f; stamp = g } }

-- ---- acts

-- one line more is seen, and no label
pub record IsAct (k : Option Keyword) : Type 0 where
  pub inner : IsInner k
  pub past : (n : Option ℤ) (s : Seen) → script_past k n s ≡ record s { lines = suc s.lines }

act_key : (k : Option Keyword) (ws : List (List ℕ)) (a : ActLine) → act_by k ws ≡ Some a → IsAct k
act_key (Some key.Note) ws a e = record { inner = inner _ refl refl refl refl refl refl refl; past = λ n s. refl }
act_key (Some key.Set) ws a e = record { inner = inner _ refl refl refl refl refl refl refl; past = λ n s. refl }
act_key (Some key.Release) ws a e = record { inner = inner _ refl refl refl refl refl refl refl; past = λ n s. refl }
act_key (Some key.Notify) ws a e = record { inner = inner _ refl refl refl refl refl refl refl; past = λ n s. refl }
act_key (Some key.Put) ws a e = record { inner = inner _ refl refl refl refl refl refl refl; past = λ n s. refl }
act_key (Some key.SetKey) ws a e = record { inner = inner _ refl refl refl refl refl refl refl; past = λ n s. refl }
act_key _ ws a e = absurd (cc)

act_begun_key : (st : Start) (ws : List (List ℕ)) (a : ActLine) → act_begun st ws ≡ Some a → IsAct (keyword_in st)
act_begun_key (start.Word k) ws a e = act_key k ws a e
act_begun_key (start.Answer r k) ws a e = absurd (cc)

pub act_begins : (ws : List (List ℕ)) (a : ActLine) → act_of ws ≡ Some a → IsAct (begins ws)
unfolding act_of begins
act_begins ws a e = act_begun_key (start_of ws) (drop 1 ws) a e

-- ---- lines of bodies

-- one line more is seen, with its label and the label that it names
pub record IsLine (k : Option Keyword) (n : Option ℤ) (l : Line) : Type 0 where
  pub inner : IsInner k
  pub label : (m : ℤ) → label_in l ≡ Some m → (k ≡ Some key.Label) × (n ≡ Some m)
  pub past : (s : Seen) → script_past k n s ≡ record s { lines = suc s.lines; labels = s.labels ++ one_or_none (label_in l); gotos = s.gotos ++ one_or_none (goto_in l) }

-- a line that is no label and names none
plain : (k : Option Keyword) (n : Option ℤ) (l : Line) → IsInner k → ((s : Seen) → script_past k n s ≡ record s { lines = suc s.lines }) → label_in l ≡ None → goto_in l ≡ None → IsLine k n l
plain k n l i p a b = record {
  inner = i;
  label = λ m e. absurd (cc);
  past = λ s. p s ∙ sym (λ i. record s { lines = suc s.lines; labels = (ap (λ t. s.labels ++ one_or_none t) a ∙ append-nil s.labels) i; gotos = (ap (λ t. s.gotos ++ one_or_none t) b ∙ append-nil s.gotos) i });
}

abbrev pub NoLabel : Line → Type 0
NoLabel l = (label_in l ≡ None) × (goto_in l ≡ None)

-- what holds of each line that is built holds of the line that is read
module _ {R : Type 0} (P : R → Type 0) where
  by1 : {A : Type 0} (build : A → R) (o : Option A) (l : R) → ((x : A) → P (build x)) → option_map build o ≡ Some l → P l
  by1 build (Some x) l p e = subst P (same_Some (build x) l e) (p x)
  by1 build None l p e = absurd (cc)

  by_then : {A : Type 0} (next : A → Option R) (o : Option A) (l : R) → ((x : A) → next x ≡ Some l → P l) → option_and_then next o ≡ Some l → P l
  by_then next (Some x) l p e = p x e
  by_then next None l p e = absurd (cc)

  by_read1 : {A : Type 0} (f : List ℕ → Option A) (build : A → R) (ws : List (List ℕ)) (l : R) → ((x : A) → P (build x)) → read1 f build ws ≡ Some l → P l
  by_read1 f build [] l p e = absurd (cc)
  by_read1 f build (a ∷ []) l p e = by1 build (f a) l p e
  by_read1 f build (a ∷ b ∷ ws) l p e = absurd (cc)

  by_read2 : {A B : Type 0} (f : List ℕ → Option A) (g : List ℕ → Option B) (build : A → B → R) (ws : List (List ℕ)) (l : R) → ((x : A) (y : B) → P (build x y)) → read2 f g build ws ≡ Some l → P l
  by_read2 f g build [] l p e = absurd (cc)
  by_read2 f g build (a ∷ ws) l p e = by_then (λ x. read1 g (build x) ws) (f a) l (λ x. by_read1 g (build x) ws l (p x)) e

  by_read3 : {A B C : Type 0} (f : List ℕ → Option A) (g : List ℕ → Option B) (h : List ℕ → Option C) (build : A → B → C → R) (ws : List (List ℕ)) (l : R) → ((x : A) (y : B) (z : C) → P (build x y z)) → read3 f g h build ws ≡ Some l → P l
  by_read3 f g h build [] l p e = absurd (cc)
  by_read3 f g h build (a ∷ ws) l p e = by_then (λ x. read2 g h (build x) ws) (f a) l (λ x. by_read2 g h (build x) ws l (p x)) e

no_label : (k : Option Keyword) (n : Option ℤ) (l : Line) → IsInner k → ((s : Seen) → script_past k n s ≡ record s { lines = suc s.lines }) → NoLabel l → IsLine k n l
no_label k n l i p h = plain k n l i p h.0 h.1

label_key : (o : Option ℤ) (l : Line) → option_map (λ k. line.Label k) o ≡ Some l → IsLine (Some key.Label) o l
label_key None l e = absurd (cc)
label_key (Some k) l e = subst (λ m. IsLine (Some key.Label) (Some k) m) (same_Some (line.Label k) l e) (record { inner = inner _ refl refl refl refl refl refl refl; label = λ m e. (refl, e); past = λ s i. record s { lines = suc s.lines; labels = s.labels ++ k ∷ []; gotos = sym (append-nil s.gotos) i } })

goto_key : (o : Option ℤ) (ws : List (List ℕ)) (l : Line) → option_and_then (λ k. read3 operand_of relation_of operand_of (λ x r y. line.Goto k 0 x r y) ws) o ≡ Some l → IsLine (Some key.Goto) o l
goto_key None ws l e = absurd (cc)
goto_key (Some k) ws l e = by_read3 (λ m. IsLine (Some key.Goto) (Some k) m) operand_of relation_of operand_of (λ x r y. line.Goto k 0 x r y) ws l (λ x r y. record { inner = inner _ refl refl refl refl refl refl refl; label = λ m e. absurd (cc); past = λ s i. record s { lines = suc s.lines; labels = sym (append-nil s.labels) i; gotos = s.gotos ++ k ∷ [] } }) e

plain_key : (k : Keyword) (w : List ℕ) (ws : List (List ℕ)) (l : Line) → plain_line k ws ≡ Some l → IsLine (Some k) (numbered (w ∷ ws)) l
unfolding numbered
plain_key key.Set w ws l e = no_label _ _ l (inner _ refl refl refl refl refl refl refl) (λ s. refl) (by_read2 NoLabel _ _ _ ws l (λ r x. (refl, refl)) e)
plain_key key.Add w ws l e = no_label _ _ l (inner _ refl refl refl refl refl refl refl) (λ s. refl) (by_read2 NoLabel _ _ _ ws l (λ r x. (refl, refl)) e)
plain_key key.Note w ws l e = no_label _ _ l (inner _ refl refl refl refl refl refl refl) (λ s. refl) (by_read1 NoLabel _ _ ws l (λ x. (refl, refl)) e)
plain_key key.Label w [] l e = absurd (cc)
plain_key key.Label w (k ∷ []) l e = label_key (natural_of k) l e
plain_key key.Label w (k ∷ v ∷ ws) l e = absurd (cc)
plain_key key.Goto w [] l e = absurd (cc)
plain_key key.Goto w (k ∷ ws) l e = goto_key (natural_of k) ws l e
plain_key _ w ws l e = absurd (cc)

worded_key : (k : Option Keyword) (w : List ℕ) (ws : List (List ℕ)) (l : Line) → line_by k ws ≡ Some l → IsLine k (numbered (w ∷ ws)) l
worded_key (Some (key.Call c)) w ws l e = no_label _ _ l (inner _ refl refl refl refl refl refl refl) (λ s. refl) (by1 NoLabel _ (call_line c ws) l (λ x. (refl, refl)) e)
worded_key (Some key.Handler) w ws l e = plain_key key.Handler w ws l e
worded_key (Some key.Check) w ws l e = plain_key key.Check w ws l e
worded_key (Some key.Thread) w ws l e = plain_key key.Thread w ws l e
worded_key (Some key.End) w ws l e = plain_key key.End w ws l e
worded_key (Some key.Note) w ws l e = plain_key key.Note w ws l e
worded_key (Some key.Set) w ws l e = plain_key key.Set w ws l e
worded_key (Some key.Add) w ws l e = plain_key key.Add w ws l e
worded_key (Some key.Label) w ws l e = plain_key key.Label w ws l e
worded_key (Some key.Goto) w ws l e = plain_key key.Goto w ws l e
worded_key (Some key.Release) w ws l e = plain_key key.Release w ws l e
worded_key (Some key.Notify) w ws l e = plain_key key.Notify w ws l e
worded_key (Some key.Put) w ws l e = plain_key key.Put w ws l e
worded_key (Some key.SetKey) w ws l e = plain_key key.SetKey w ws l e
worded_key (Some key.Kernel) w ws l e = plain_key key.Kernel w ws l e
worded_key (Some key.Clock) w ws l e = plain_key key.Clock w ws l e
worded_key (Some key.Open) w ws l e = plain_key key.Open w ws l e
worded_key (Some key.At) w ws l e = plain_key key.At w ws l e
worded_key None w ws l e = absurd (cc)

answered_key : (r : Register) (k : Option CallWord) (n : Option ℤ) (ws : List (List ℕ)) (l : Line) → line_begun (start.Answer r k) ws ≡ Some l → IsLine None n l
answered_key r (Some k) n (e ∷ w ∷ ws) l h = no_label _ _ l (inner _ refl refl refl refl refl refl refl) (λ s. refl) (by1 NoLabel (λ c. line.Call (Some r) c) (call_line k ws) l (λ c. (refl, refl)) h)
answered_key r (Some k) n [] l h = absurd (cc)
answered_key r (Some k) n (e ∷ []) l h = absurd (cc)
answered_key r None n ws l h = absurd (cc)

line_begun_key : (st : Start) (w : List ℕ) (ws : List (List ℕ)) (l : Line) → line_begun st ws ≡ Some l → IsLine (keyword_in st) (numbered (w ∷ ws)) l
line_begun_key (start.Word k) w ws l e = worded_key k w ws l e
line_begun_key (start.Answer r k) w ws l e = answered_key r k (numbered (w ∷ ws)) ws l e

pub line_begins : (ws : List (List ℕ)) (l : Line) → line_of ws ≡ Some l → IsLine (begins ws) (numbered ws) l
unfolding line_of begins start_of
line_begins [] l e = absurd (cc)
line_begins (w ∷ ws) l e = line_begun_key (start_of (w ∷ ws)) w ws l e
