-- A line that breaks no rule, and what it makes of a draft.
use Rattle.std.proofs.Common.{◌≡◌, ◌<◌, ◌+◌, ℕ, ℤ, true, false, List, [], ◌∷◌, ◌++◌, length, Option, Some, None, refl, ap, sym, subst, ◌∙◌, arith}
use Rattle.std.specs.Prelude.{nat_le, is_some, IfSome}
use Rattle.std.proofs.lemmas.Bool.Decides.{nat_tests}
use Rattle.std.proofs.lemmas.Bool.{true≢false}
use Rattle.pth_spelling.specs.Starts.{begins}
use Rattle.pth_grammar.specs.LineMeanings.{numbered, line_of, act_of, check_of}
use Rattle.pth_grammar.specs.Shapes.{words_fault}
use Rattle.pth_spelling.specs.declared.keyword.Keyword.{Keyword}
use Rattle.pth_spelling.specs.declared.keyword.Keyword.TheVariants as key
use Rattle.pth_grammar.specs.declared.section.Section.{Section}
use Rattle.pth_grammar.specs.declared.section.Section.TheVariants as sec
use Rattle.pth_grammar.specs.declared.kernel_part.KernelPart.TheVariants as part
use Rattle.pth_grammar.proofs.Readable.{act_readable, body_readable, check_readable, outside_keyed}
use Rattle.pth_grammar.specs.Forms.{forms_of, may_open, opening_forms}
use Rattle.pth_line.specs.declared.act_line.ActLine.{ActLine}
use Rattle.pth_line.specs.declared.check.Check.{Check}
use Rattle.pth_line.specs.declared.line.Line.{Line}
use Rattle.pth_script.specs.Labels.{label_in, labels_in, has}
use Rattle.pth_script.specs.Limits.{handler_limit, body_limit, act_limit}
use Rattle.pth_script.specs.Seen.{Seen, passes_limit, misnumbered, is_check, is_end, is_handler, is_kernel}
use Rattle.pth_script.specs.Drafts.{DraftParts, seen_of_draft, in_handler, in_body, in_kernel, with_open, handler_closed, IsClosed, IsDraftInOrder, IsFine, Takes}
use Rattle.pth_script.proofs.Said.{BreaksNone, fine_line}
use Rattle.pth_script.proofs.Keys.{line_begins}
use Rattle.pth_script.proofs.Taking.{act_taken, handler_ended, line_taken, body_ended, handler_opened, body_opened, kernel_opened, check_taken}

below_limit : (most m n : ℕ) → m ≡ n → nat_le most m ≡ false → n < most
below_limit most m n e h = grind (arith, nat_tests)

not_body : (s : Section) → in_body s ≡ false → s ≡ sec.Body → ⊥
not_body sec.Body h e = absurd (cc)
not_body _ h e = absurd (cc)

few_by : (k : Option Keyword) (s : Seen) → is_end k ≡ false → passes_limit sec.Handler k s ≡ false → s.lines < act_limit
few_by (Some key.End) s e h = absurd (cc)
few_by _ s e h = grind (arith, nat_tests)

ends_by : (k : Option Keyword) → is_end k ≡ true → k ≡ Some key.End
ends_by (Some key.End) h = refl
ends_by _ h = absurd (cc)

goes_on : (k : Option Keyword) → is_end k ≡ false → k ≡ Some key.End → ⊥
goes_on (Some key.End) h e = absurd (cc)
goes_on _ h e = absurd (cc)

not_none : {A : Type 0} (o : Option A) → is_some o ≡ true → o ≡ None → ⊥
not_none (Some x) h e = absurd (cc)
not_none None h e = absurd (cc)

handlers_by : (s : Section) (k : Option Keyword) (x : Seen) (n : ℕ) → in_handler s ≡ false → in_body s ≡ false → in_kernel s ≡ false → k ≡ Some key.Handler → x.handlers ≡ n → passes_limit s k x ≡ false → n < handler_limit
handlers_by sec.Handler k x n h b y e m p = absurd (cc)
handlers_by sec.Body k x n h b y e m p = absurd (cc)
handlers_by sec.Handlers k x n h b y e m p = below_limit handler_limit x.handlers n m (ap (λ k. passes_limit sec.Handlers k x) (sym e) ∙ p)
handlers_by sec.Checks k x n h b y e m p = below_limit handler_limit x.handlers n m (ap (λ k. passes_limit sec.Checks k x) (sym e) ∙ p)
handlers_by sec.Bodies k x n h b y e m p = below_limit handler_limit x.handlers n m (ap (λ k. passes_limit sec.Bodies k x) (sym e) ∙ p)
handlers_by (sec.Kernel q) k x n h b y e m p = absurd (cc)

bodies_by : (s : Section) (k : Option Keyword) (x : Seen) (n : ℕ) → in_handler s ≡ false → in_body s ≡ false → in_kernel s ≡ false → k ≡ Some key.Thread → x.bodies ≡ n → passes_limit s k x ≡ false → n < body_limit
bodies_by sec.Handler k x n h b y e m p = absurd (cc)
bodies_by sec.Body k x n h b y e m p = absurd (cc)
bodies_by sec.Handlers k x n h b y e m p = below_limit body_limit x.bodies n m (ap (λ k. passes_limit sec.Handlers k x) (sym e) ∙ p)
bodies_by sec.Checks k x n h b y e m p = below_limit body_limit x.bodies n m (ap (λ k. passes_limit sec.Checks k x) (sym e) ∙ p)
bodies_by sec.Bodies k x n h b y e m p = below_limit body_limit x.bodies n m (ap (λ k. passes_limit sec.Bodies k x) (sym e) ∙ p)
bodies_by (sec.Kernel q) k x n h b y e m p = absurd (cc)

opens_handler : (k : Option Keyword) → is_handler k ≡ true → k ≡ Some key.Handler
opens_handler (Some key.Handler) h = refl
opens_handler _ h = absurd (cc)

opens_kernel : (k : Option Keyword) → is_kernel k ≡ true → k ≡ Some key.Kernel
opens_kernel (Some key.Kernel) h = refl
opens_kernel _ h = absurd (cc)

-- a line that opens neither a handler nor a kernel, and is no check
pub record OpensBody (k : Option Keyword) : Type 0 where
  pub handler : is_handler k ≡ false
  pub check : is_check k ≡ false
  pub kernel : is_kernel k ≡ false

opening_by : (k : Keyword) → OpensBody (Some k) → is_some (opening_forms k) ≡ true → k ≡ key.Thread
opening_by key.Thread o a = refl
opening_by key.Handler o a = absurd (true≢false o.handler)
opening_by key.Check o a = absurd (true≢false o.check)
opening_by key.Kernel o a = absurd (true≢false o.kernel)
opening_by _ o a = absurd (cc)

later_by : (s : Section) (k : Keyword) → OpensBody (Some k) → is_some (may_open s k) ≡ true → k ≡ key.Thread
later_by sec.Handlers k o a = opening_by k o a
later_by sec.Checks key.Thread o a = refl
later_by sec.Checks key.Check o a = absurd (true≢false o.check)
later_by sec.Checks key.Kernel o a = absurd (true≢false o.kernel)
later_by sec.Checks _ o a = absurd (cc)
later_by sec.Bodies key.Thread o a = refl
later_by sec.Bodies key.Kernel o a = absurd (true≢false o.kernel)
later_by sec.Bodies _ o a = absurd (cc)
later_by sec.Handler k o a = absurd (cc)
later_by sec.Body k o a = absurd (cc)
later_by (sec.Kernel q) k o a = absurd (cc)

outside_by : (s : Section) (k : Keyword) (ws : List (List ℕ)) → in_handler s ≡ false → in_body s ≡ false → in_kernel s ≡ false → OpensBody (Some k) → is_some (forms_of s k ws) ≡ true → k ≡ key.Thread
outside_by sec.Handlers k ws x b y o a = later_by sec.Handlers k o a
outside_by sec.Checks k ws x b y o a = later_by sec.Checks k o a
outside_by sec.Bodies k ws x b y o a = later_by sec.Bodies k o a
outside_by sec.Handler k ws x b y o a = absurd (cc)
outside_by sec.Body k ws x b y o a = absurd (cc)
outside_by (sec.Kernel q) k ws x b y o a = absurd (cc)

opens_body : (s : Section) (ws : List (List ℕ)) → in_handler s ≡ false → in_body s ≡ false → in_kernel s ≡ false → words_fault s ws ≡ None → OpensBody (begins ws) → begins ws ≡ Some key.Thread
opens_body s ws x b y f o =
    let k = outside_keyed s ws (λ e. not_body s b e) f in
    k.first ∙ ap (λ t. Some t) (outside_by s k.keyword _ x b y (subst OpensBody k.first o) k.allowed)

-- a label is not there yet
free_by : (k : Option Keyword) (n : Option ℤ) (m : ℤ) (s : Seen) → k ≡ Some key.Label → n ≡ Some m → misnumbered k n s ≡ false → has s.labels m ≡ false
free_by k n m s e f h = (λ i. misnumbered (sym e i) (sym f i) s) ∙ h

if_some : {P : ℤ → Type 0} (o : Option ℤ) → ((m : ℤ) → o ≡ Some m → P m) → IfSome o P
if_some (Some m) f = f m refl
if_some None f = tt

module _ (d : DraftParts) (ws : List (List ℕ)) (kept : IsDraftInOrder d) where
  module _ (at : d.section ≡ sec.Handler) where
    kept_h : IsDraftInOrder (record d { section = sec.Handler })
    kept_h = subst (λ s. IsDraftInOrder (record d { section = s })) at kept

    few : IsFine d ws → is_end (begins ws) ≡ false → length d.acts + length d.body < act_limit
    few fine e = few_by (begins ws) (seen_of_draft d) e (ap (λ s. passes_limit s (begins ws) (seen_of_draft d)) (sym at) ∙ (fine_line true (seen_of_draft d) ws fine).limit)

    pub act_line_taken : (a : ActLine) → IsFine d ws → is_end (begins ws) ≡ false → act_of ws ≡ Some a → Takes d (record d { acts = d.acts ++ a ∷ [] }) ws
    act_line_taken a fine e reads =
        let small : length d.acts < act_limit = omega (arith, few fine e) in
        subst (λ s. Takes (record d { section = s }) (record d { section = s; acts = d.acts ++ a ∷ [] }) ws) (sym at) (act_taken d.handlers d.checks d.bodies d.acts d.body d.kernel ws a reads small kept_h)

    pub handler_end_taken : is_end (begins ws) ≡ true → Takes d (handler_closed d) ws
    handler_end_taken e = subst (λ s. Takes (record d { section = s }) (handler_closed d) ws) (sym at) (handler_ended d.handlers d.checks d.bodies d.acts d.body d.kernel ws (ends_by (begins ws) e) kept_h)

    pub act_is_read : IsFine d ws → is_end (begins ws) ≡ false → act_of ws ≡ None → ⊥
    act_is_read fine e none = not_none (act_of ws) (act_readable ws (ap (λ s. words_fault s ws) (sym at) ∙ (fine_line true (seen_of_draft d) ws fine).words) (goes_on (begins ws) e)) none

  module _ (at : d.section ≡ sec.Body) where
    kept_b : IsDraftInOrder (record d { section = sec.Body })
    kept_b = subst (λ s. IsDraftInOrder (record d { section = s })) at kept

    pub body_line_taken : (l : Line) → line_of ws ≡ Some l → Takes d (record d { body = d.body ++ l ∷ [] }) ws
    body_line_taken l reads = subst (λ s. Takes (record d { section = s }) (record d { section = s; body = d.body ++ l ∷ [] }) ws) (sym at) (line_taken d.handlers d.checks d.bodies d.acts d.body d.kernel ws l reads kept_b)

    pub new_label : (l : Line) → IsFine d ws → line_of ws ≡ Some l → IfSome (label_in l) (λ m. has (labels_in d.body) m ≡ false)
    new_label l fine reads =
        let k = line_begins ws l reads in
        if_some (label_in l) (λ m e. free_by (begins ws) (numbered ws) m (seen_of_draft d) (k.label m e).0 (k.label m e).1 (fine_line true (seen_of_draft d) ws fine).number)

    pub body_end_taken : (e : DraftParts) → IsClosed d e → is_end (begins ws) ≡ true → Takes d e ws
    body_end_taken e h end =
        let t = body_ended d.handlers d.checks d.bodies d.acts d.body d.kernel ws h.0 h.1 (ends_by (begins ws) end) kept_b in
        subst (λ p. Takes d p ws) (sym h.2) (subst (λ s. Takes (record d { section = s }) (record d { section = sec.Bodies; bodies = d.bodies ++ h.0 ∷ []; body = [] }) ws) (sym at) t)

    pub line_is_read : IsFine d ws → is_end (begins ws) ≡ false → line_of ws ≡ None → ⊥
    line_is_read fine e none = not_none (line_of ws) (body_readable ws (ap (λ s. words_fault s ws) (sym at) ∙ (fine_line true (seen_of_draft d) ws fine).words) (goes_on (begins ws) e)) none

  module _ (no_handler : in_handler d.section ≡ false) (no_body : in_body d.section ≡ false) (no_kernel : in_kernel d.section ≡ false) (fine : IsFine d ws) where
    none : BreaksNone true (seen_of_draft d) ws
    none = fine_line true (seen_of_draft d) ws fine

    few_handlers : begins ws ≡ Some key.Handler → length d.handlers < handler_limit
    few_handlers e = handlers_by d.section (begins ws) (seen_of_draft d) (length d.handlers) no_handler no_body no_kernel e (λ i. with_open (no_handler i) (length d.handlers)) none.limit

    few_bodies : begins ws ≡ Some key.Thread → length d.bodies < body_limit
    few_bodies e = bodies_by d.section (begins ws) (seen_of_draft d) (length d.bodies) no_handler no_body no_kernel e (λ i. with_open (no_body i) (length d.bodies)) none.limit

    pub handler_open_taken : is_handler (begins ws) ≡ true → Takes d (record d { section = sec.Handler }) ws
    handler_open_taken h =
        let e = opens_handler (begins ws) h in
        handler_opened d.handlers d.checks d.bodies d.acts d.body d.kernel ws d.section no_handler no_body kept no_kernel e (few_handlers e)

    pub kernel_open_taken : is_kernel (begins ws) ≡ true → Takes d (record d { section = sec.Kernel part.Head }) ws
    kernel_open_taken h = kernel_opened d.handlers d.checks d.bodies d.acts d.body d.kernel ws d.section no_handler no_body kept no_kernel (opens_kernel (begins ws) h)

    pub body_open_taken : OpensBody (begins ws) → Takes d (record d { section = sec.Body }) ws
    body_open_taken o =
        let e = opens_body d.section ws no_handler no_body no_kernel none.words o in
        body_opened d.handlers d.checks d.bodies d.acts d.body d.kernel ws d.section no_handler no_body kept no_kernel e (few_bodies e)

    pub check_line_taken : (c : Check) → begins ws ≡ Some key.Check → check_of ws ≡ Some c → Takes d (record d { section = sec.Checks; checks = d.checks ++ c ∷ [] }) ws
    check_line_taken c e reads = check_taken d.handlers d.checks d.bodies d.acts d.body d.kernel ws d.section no_handler no_body kept no_kernel c reads e

    pub check_is_read : begins ws ≡ Some key.Check → check_of ws ≡ None → ⊥
    check_is_read e n = not_none (check_of ws) (check_readable d.section ws none.words e) n
