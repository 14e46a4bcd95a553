-- What one line more makes of a draft.
use Rattle.std.proofs.Common.{◌≡◌, ◌≤◌, ◌<◌, ℕ, suc, ◌+◌, true, false, List, [], ◌∷◌, ◌++◌, length, Option, Some, None, refl, ap, sym, ◌∙◌, arith, append_assoc, append-nil, length-append}
use Rattle.std.specs.Prelude.{map, reverse}
use Rattle.std.proofs.lemmas.List.{map_push, length_push}
use Rattle.std.proofs.lemmas.List.Elements.{All-append, All-cons, All-nil}
use Rattle.pth_spelling.specs.Starts.{begins}
use Rattle.pth_grammar.specs.LineMeanings.{numbered, line_of, act_of, check_of}
use Rattle.pth_spelling.specs.declared.keyword.Keyword.TheVariants as key
use Rattle.pth_grammar.specs.declared.section.Section.{Section}
use Rattle.pth_grammar.specs.declared.section.Section.TheVariants as sec
use Rattle.pth_grammar.specs.declared.kernel_part.KernelPart.{KernelPart}
use Rattle.pth_grammar.specs.declared.kernel_part.KernelPart.TheVariants as part
use Rattle.pth_line.specs.declared.act_line.ActLine.{ActLine}
use Rattle.pth_line.specs.declared.check.Check.{Check}
use Rattle.pth_line.specs.declared.line.Line.{Line}
use Rattle.pth_script.specs.Limits.{handler_limit, body_limit, act_limit}
use Rattle.pth_script.specs.Labels.{somes, labels_in, gotos_in, label_in, goto_in, one_or_none, with_places}
use Rattle.pth_script.specs.Meaning.{Parts, checks_of}
use Rattle.pth_script.specs.Seen.{Seen, seen_past, opened, is_handler, is_check, is_thread, is_end}
use Rattle.pth_script.specs.Drafts.{DraftParts, seen_of_draft, rest_of_sections, in_handler, in_body, in_kernel, in_entries, below_part, with_open, IsDraftInOrder, Takes}
use Rattle.pth_script.specs.KernelDrafts.{IsKernelInOrder}
use Rattle.pth_script.specs.declared.kernel_draft.KernelDraft.{KernelDraft}
use Rattle.pth_script.proofs.KernelPast.{KernelComesTo, kernel_comes, kernel_past, script_only, past_by, outside_by}
use Rattle.pth_script.proofs.Keys.{act_begins, line_begins}
use Rattle.pth_script.proofs.Resting.{rest_more, rest_end, rest_open, rest_past, checks_past, checks_more}

abbrev pub Handlers : Type 0
Handlers = List (List ActLine)

abbrev pub Bodies : Type 0
Bodies = List (List Line)

abbrev pub draft : Section → Handlers → List Check → Bodies → List ActLine → List Line → KernelDraft → DraftParts
draft s hs cs bs acts ls kd = record { section = s; handlers = hs; checks = cs; bodies = bs; acts = acts; body = ls; kernel = kd }

one_more : {A : Type 0} (xs : List A) (x : A) (n : ℕ) → length (xs ++ x ∷ []) + n ≡ suc (length xs + n)
one_more xs x n = omega (arith, length-append xs (x ∷ []))

more_below : {A : Type 0} (xs : List A) (x : A) (n : ℕ) → length xs < n → length (xs ++ x ∷ []) ≤ n
more_below xs x n h = omega (arith, length-append xs (x ∷ []))

pub read_more : {A : Type 0} (xs : List A) (x : A) (read : Option A) → read ≡ Some x → somes (xs ++ x ∷ []) ≡ somes xs ++ read ∷ []
read_more xs x read e = map_push (λ y. Some y) xs x ∙ ap (λ r. somes xs ++ r ∷ []) (sym e)

one_more_of : {A : Type 0} (n : ℕ) (xs : List A) (x : A) → n + length (xs ++ x ∷ []) ≡ suc (n + length xs)
one_more_of n xs x = omega (arith, length-append xs (x ∷ []))

labels_more : (ls : List Line) (l : Line) → labels_in (ls ++ l ∷ []) ≡ labels_in ls ++ one_or_none (label_in l)
unfolding labels_in
labels_more [] l = append-nil (one_or_none (label_in l))
labels_more (m ∷ ls) l = ap (λ t. one_or_none (label_in m) ++ t) (labels_more ls l) ∙ sym (append_assoc (one_or_none (label_in m)) (labels_in ls) (one_or_none (label_in l)))

gotos_more : (ls : List Line) (l : Line) → gotos_in (ls ++ l ∷ []) ≡ gotos_in ls ++ one_or_none (goto_in l)
unfolding gotos_in
gotos_more [] l = append-nil (one_or_none (goto_in l))
gotos_more (m ∷ ls) l = ap (λ t. one_or_none (goto_in m) ++ t) (gotos_more ls l) ∙ sym (append_assoc (one_or_none (goto_in m)) (gotos_in ls) (one_or_none (goto_in l)))

-- what is kept of a kernel above it
shut_by : (s : Section) → in_kernel s ≡ false → (below_part s ≡ false) × (in_entries s ≡ false)
shut_by (sec.Kernel p) h = absurd (cc)
shut_by sec.Handlers h = (refl, refl)
shut_by sec.Handler h = (refl, refl)
shut_by sec.Checks h = (refl, refl)
shut_by sec.Bodies h = (refl, refl)
shut_by sec.Body h = (refl, refl)

-- ---- a line within a handler

module _ (hs : Handlers) (cs : List Check) (bs : Bodies) (acts : List ActLine) (ls : List Line) (kd : KernelDraft) (ws : List (List ℕ)) where
  pub act_taken : (a : ActLine) → act_of ws ≡ Some a → length acts < act_limit → IsDraftInOrder (draft sec.Handler hs cs bs acts ls kd) → Takes (draft sec.Handler hs cs bs acts ls kd) (draft sec.Handler hs cs bs (acts ++ a ∷ []) ls kd) ws
  act_taken a e few kept =
      let k = act_begins ws a e in
      let d = draft sec.Handler hs cs bs acts ls kd in
      record {
        seen = (λ i. record (seen_of_draft d) { lines = one_more acts a (length ls) i }) ∙ sym (script_only ws (seen_of_draft d) k.inner.outside.opening k.inner.outside.stamp ∙ k.past (numbered ws) (seen_of_draft d));
        kept = record { no_acts = λ h. absurd (cc); no_lines = kept.no_lines; few_acts = more_below acts a act_limit few; short_handlers = kept.short_handlers; few_handlers = kept.few_handlers; few_bodies = kept.few_bodies; no_clock = kept.no_clock; no_entries = kept.no_entries; kernel = kept.kernel };
        makes = λ rest parts m. let past = kernel_past ws rest kd parts k.inner.outside (kernel_comes d (ws ∷ rest) parts m) in record {
          handlers = ap (λ t. map somes hs ++ rest_of_sections is_handler act_of true t rest) (read_more acts a (act_of ws) e) ∙ ap (λ t. map somes hs ++ t) (sym (rest_more is_handler act_of (somes acts) ws rest k.inner.end k.inner.handler)) ∙ m.handlers;
          checks = ap (λ t. somes cs ++ t) (sym (checks_past ws rest k.inner.check)) ∙ m.checks;
          bodies = ap (λ t. map somes bs ++ map with_places t) (sym (rest_past is_thread line_of (somes ls) (somes ls) ws rest k.inner.thread)) ∙ m.bodies;
          clock = past.clock;
          opens = past.opens;
          trace = past.trace;
        };
      }

  pub handler_ended : begins ws ≡ Some key.End → IsDraftInOrder (draft sec.Handler hs cs bs acts ls kd) → Takes (draft sec.Handler hs cs bs acts ls kd) (draft sec.Handlers (hs ++ acts ∷ []) cs bs [] ls kd) ws
  unfolding labels_in gotos_in
  handler_ended e kept =
      let d = draft sec.Handler hs cs bs acts ls kd in
      let none : ls ≡ [] = kept.no_lines refl in
      record {
        seen = (λ i. record (opened sec.Handlers (seen_of_draft d)) { handlers = length_push hs acts i; lines = 0 + length (none i); labels = labels_in (none i); gotos = gotos_in (none i) }) ∙ sym (past_by ws (seen_of_draft d) _ e refl refl);
        kept = record { no_acts = λ h. refl; no_lines = kept.no_lines; few_acts = omega arith; short_handlers = All-append (λ (t : List ActLine). length t ≤ act_limit) hs (acts ∷ []) kept.short_handlers (All-cons (λ (t : List ActLine). length t ≤ act_limit) acts [] kept.few_acts (All-nil (λ (t : List ActLine). length t ≤ act_limit))); few_handlers = omega (arith, length-append hs (acts ∷ []), kept.few_handlers); few_bodies = kept.few_bodies; no_clock = kept.no_clock; no_entries = kept.no_entries; kernel = kept.kernel };
        makes = λ rest parts m. let past = kernel_past ws rest kd parts (outside_by ws _ e refl refl refl) (kernel_comes d (ws ∷ rest) parts m) in record {
          handlers = ap (λ t. t ++ rest_of_sections is_handler act_of false [] rest) (map_push somes hs acts) ∙ append_assoc (map somes hs) (somes acts ∷ []) (rest_of_sections is_handler act_of false [] rest) ∙ ap (λ t. map somes hs ++ t) (sym (rest_end is_handler act_of (somes acts) ws rest (ap is_end e) (ap is_handler e))) ∙ m.handlers;
          checks = ap (λ t. somes cs ++ t) (sym (checks_past ws rest (ap is_check e))) ∙ m.checks;
          bodies = ap (λ t. map somes bs ++ map with_places t) (sym (rest_past is_thread line_of (somes ls) (somes ls) ws rest (ap is_thread e))) ∙ m.bodies;
          clock = past.clock;
          opens = past.opens;
          trace = past.trace;
        };
      }

  -- ---- a line within a body

  pub line_taken : (l : Line) → line_of ws ≡ Some l → IsDraftInOrder (draft sec.Body hs cs bs acts ls kd) → Takes (draft sec.Body hs cs bs acts ls kd) (draft sec.Body hs cs bs acts (ls ++ l ∷ []) kd) ws
  line_taken l e kept =
      let k = line_begins ws l e in
      let d = draft sec.Body hs cs bs acts ls kd in
      record {
        seen = (λ i. record (seen_of_draft d) { lines = one_more_of (length acts) ls l i; labels = labels_more ls l i; gotos = gotos_more ls l i }) ∙ sym (script_only ws (seen_of_draft d) k.inner.outside.opening k.inner.outside.stamp ∙ k.past (seen_of_draft d));
        kept = record { no_acts = kept.no_acts; no_lines = λ h. absurd (cc); few_acts = kept.few_acts; short_handlers = kept.short_handlers; few_handlers = kept.few_handlers; few_bodies = kept.few_bodies; no_clock = kept.no_clock; no_entries = kept.no_entries; kernel = kept.kernel };
        makes = λ rest parts m. let past = kernel_past ws rest kd parts k.inner.outside (kernel_comes d (ws ∷ rest) parts m) in record {
          handlers = ap (λ t. map somes hs ++ t) (sym (rest_past is_handler act_of (somes acts) (somes acts) ws rest k.inner.handler)) ∙ m.handlers;
          checks = ap (λ t. somes cs ++ t) (sym (checks_past ws rest k.inner.check)) ∙ m.checks;
          bodies = ap (λ t. map somes bs ++ map with_places (rest_of_sections is_thread line_of true t rest)) (read_more ls l (line_of ws) e) ∙ ap (λ t. map somes bs ++ map with_places t) (sym (rest_more is_thread line_of (somes ls) ws rest k.inner.end k.inner.thread)) ∙ m.bodies;
          clock = past.clock;
          opens = past.opens;
          trace = past.trace;
        };
      }

  pub body_ended : (body : List Line) → somes body ≡ with_places (somes ls) → begins ws ≡ Some key.End → IsDraftInOrder (draft sec.Body hs cs bs acts ls kd) → Takes (draft sec.Body hs cs bs acts ls kd) (draft sec.Bodies hs cs (bs ++ body ∷ []) acts [] kd) ws
  unfolding labels_in gotos_in
  body_ended body p e kept =
      let d = draft sec.Body hs cs bs acts ls kd in
      let none : acts ≡ [] = kept.no_acts refl in
      record {
        seen = (λ i. record (opened sec.Bodies (seen_of_draft d)) { bodies = length_push bs body i; lines = length (none i) + 0 }) ∙ sym (past_by ws (seen_of_draft d) _ e refl refl);
        kept = record { no_acts = kept.no_acts; no_lines = λ h. refl; few_acts = kept.few_acts; short_handlers = kept.short_handlers; few_handlers = kept.few_handlers; few_bodies = omega (arith, length-append bs (body ∷ []), kept.few_bodies); no_clock = kept.no_clock; no_entries = kept.no_entries; kernel = kept.kernel };
        makes = λ rest parts m. let past = kernel_past ws rest kd parts (outside_by ws _ e refl refl refl) (kernel_comes d (ws ∷ rest) parts m) in record {
          handlers = ap (λ t. map somes hs ++ t) (sym (rest_past is_handler act_of (somes acts) (somes acts) ws rest (ap is_handler e))) ∙ m.handlers;
          checks = ap (λ t. somes cs ++ t) (sym (checks_past ws rest (ap is_check e))) ∙ m.checks;
          bodies = ap (λ t. t ++ map with_places (rest_of_sections is_thread line_of false [] rest)) (map_push somes bs body ∙ ap (λ t. map somes bs ++ t ∷ []) p) ∙ append_assoc (map somes bs) (with_places (somes ls) ∷ []) (map with_places (rest_of_sections is_thread line_of false [] rest)) ∙ ap (λ t. map somes bs ++ map with_places t) (sym (rest_end is_thread line_of (somes ls) ws rest (ap is_end e) (ap is_thread e))) ∙ m.bodies;
          clock = past.clock;
          opens = past.opens;
          trace = past.trace;
        };
      }

  -- ---- a line outside of both

  module _ (s : Section) (no_handler : in_handler s ≡ false) (no_body : in_body s ≡ false) (kept : IsDraftInOrder (draft s hs cs bs acts ls kd)) where
    no_acts : acts ≡ []
    no_acts = kept.no_acts no_handler

    no_lines : ls ≡ []
    no_lines = kept.no_lines no_body

    -- nothing is open
    shut : (to : Section) → opened to (seen_of_draft (draft s hs cs bs acts ls kd)) ≡ record { section = to; handlers = length hs; checks = length cs; bodies = length bs; lines = 0; labels = []; gotos = []; next_open = kd.next_open; live = kd.live.0; stamps = reverse kd.trace }
    shut to i = record { section = to; handlers = with_open (no_handler i) (length hs); checks = length cs; bodies = with_open (no_body i) (length bs); lines = 0; labels = []; gotos = []; next_open = kd.next_open; live = kd.live.0; stamps = reverse kd.trace }

    few_handlers : length hs ≤ handler_limit
    few_handlers = omega (arith, ap (λ b. with_open b (length hs)) no_handler, kept.few_handlers)

    few : length bs ≤ body_limit
    few = omega (arith, ap (λ b. with_open b (length bs)) no_body, kept.few_bodies)

    -- what is seen where a section was opened, or a check was read
    seen_in : (to : Section) (new : KernelDraft) → seen_of_draft (draft to hs cs bs acts ls new) ≡ record { section = to; handlers = with_open (in_handler to) (length hs); checks = length cs; bodies = with_open (in_body to) (length bs); lines = 0; labels = []; gotos = []; next_open = new.next_open; live = new.live.0; stamps = reverse new.trace }
    unfolding labels_in gotos_in
    seen_in to new i = record { section = to; handlers = with_open (in_handler to) (length hs); checks = length cs; bodies = with_open (in_body to) (length bs); lines = length (no_acts i) + length (no_lines i); labels = labels_in (no_lines i); gotos = gotos_in (no_lines i); next_open = new.next_open; live = new.live.0; stamps = reverse new.trace }

    -- a line of a kernel, or the one that begins it
    pub part_taken : (part : KernelPart) (new : KernelDraft)
        → seen_past ws (seen_of_draft (draft s hs cs bs acts ls kd)) ≡ record (opened (sec.Kernel part) (seen_of_draft (draft s hs cs bs acts ls kd))) { next_open = new.next_open; live = new.live.0; stamps = reverse new.trace }
        → is_handler (begins ws) ≡ false → is_check (begins ws) ≡ false → is_thread (begins ws) ≡ false
        → (below_part (sec.Kernel part) ≡ false → new.clock ≡ None) → (in_entries (sec.Kernel part) ≡ false → new.trace ≡ []) → IsKernelInOrder new
        → ((rest : List (List (List ℕ))) (p : Parts) → KernelComesTo kd (ws ∷ rest) p → KernelComesTo new rest p)
        → Takes (draft s hs cs bs acts ls kd) (draft (sec.Kernel part) hs cs bs acts ls new) ws
    part_taken part new past no_handler_line no_check_line no_thread_line clock entries order comes =
        let d = draft s hs cs bs acts ls kd in
        record {
          seen = seen_in (sec.Kernel part) new ∙ sym (ap {A = Seen} (λ t. record t { next_open = new.next_open; live = new.live.0; stamps = reverse new.trace }) (shut (sec.Kernel part))) ∙ sym past;
          kept = record { no_acts = λ h. no_acts; no_lines = λ h. no_lines; few_acts = kept.few_acts; short_handlers = kept.short_handlers; few_handlers = few_handlers; few_bodies = few; no_clock = clock; no_entries = entries; kernel = order };
          makes = λ rest parts m. let new_kernel = comes rest parts (kernel_comes d (ws ∷ rest) parts m) in record {
            handlers = ap (λ t. map somes hs ++ t) (sym (rest_past is_handler act_of (somes acts) (somes acts) ws rest no_handler_line)) ∙ ap (λ b. map somes hs ++ rest_of_sections is_handler act_of b (somes acts) (ws ∷ rest)) (sym no_handler) ∙ m.handlers;
            checks = ap (λ t. somes cs ++ t) (sym (checks_past ws rest no_check_line)) ∙ m.checks;
            bodies = ap (λ t. map somes bs ++ map with_places t) (sym (rest_past is_thread line_of (somes ls) (somes ls) ws rest no_thread_line)) ∙ ap (λ b. map somes bs ++ map with_places (rest_of_sections is_thread line_of b (somes ls) (ws ∷ rest))) (sym no_body) ∙ m.bodies;
            clock = new_kernel.clock;
            opens = new_kernel.opens;
            trace = new_kernel.trace;
          };
        }

    -- ---- a line outside of the kernel too

    module _ (no_kernel : in_kernel s ≡ false) where
      no_clock : kd.clock ≡ None
      no_clock = kept.no_clock (shut_by s no_kernel).0

      no_entries : kd.trace ≡ []
      no_entries = kept.no_entries (shut_by s no_kernel).1

      kept_in : (to : Section) → with_open (in_handler to) (length hs) ≤ handler_limit → with_open (in_body to) (length bs) ≤ body_limit → IsDraftInOrder (draft to hs cs bs acts ls kd)
      kept_in to h b = record { no_acts = λ h. no_acts; no_lines = λ h. no_lines; few_acts = kept.few_acts; short_handlers = kept.short_handlers; few_handlers = h; few_bodies = b; no_clock = λ h. no_clock; no_entries = λ h. no_entries; kernel = kept.kernel }

      pub kernel_opened : begins ws ≡ Some key.Kernel → Takes (draft s hs cs bs acts ls kd) (draft (sec.Kernel part.Head) hs cs bs acts ls kd) ws
      kernel_opened e =
          part_taken part.Head kd (past_by ws (seen_of_draft (draft s hs cs bs acts ls kd)) _ e refl refl) (ap is_handler e) (ap is_check e) (ap is_thread e) (λ h. no_clock) (λ h. no_entries) kept.kernel
          (λ rest p m. kernel_past ws rest kd p (outside_by ws _ e refl refl refl) m)

      pub handler_opened : begins ws ≡ Some key.Handler → length hs < handler_limit → Takes (draft s hs cs bs acts ls kd) (draft sec.Handler hs cs bs acts ls kd) ws
      handler_opened e fewer =
          let d = draft s hs cs bs acts ls kd in
          record {
            seen = seen_in sec.Handler kd ∙ sym (ap {A = Seen} (λ t. record t { handlers = t.handlers + 1 }) (shut sec.Handler)) ∙ sym (past_by ws (seen_of_draft d) _ e refl refl);
            kept = kept_in sec.Handler (omega arith) few;
            makes = λ rest parts m. let past = kernel_past ws rest kd parts (outside_by ws _ e refl refl refl) (kernel_comes d (ws ∷ rest) parts m) in record {
              handlers = ap (λ t. map somes hs ++ rest_of_sections is_handler act_of true (somes t) rest) no_acts ∙ ap (λ t. map somes hs ++ t) (sym (rest_open is_handler act_of (somes acts) ws rest (ap is_handler e))) ∙ ap (λ b. map somes hs ++ rest_of_sections is_handler act_of b (somes acts) (ws ∷ rest)) (sym no_handler) ∙ m.handlers;
              checks = ap (λ t. somes cs ++ t) (sym (checks_past ws rest (ap is_check e))) ∙ m.checks;
              bodies = ap (λ t. map somes bs ++ map with_places t) (sym (rest_past is_thread line_of (somes ls) (somes ls) ws rest (ap is_thread e))) ∙ ap (λ b. map somes bs ++ map with_places (rest_of_sections is_thread line_of b (somes ls) (ws ∷ rest))) (sym no_body) ∙ m.bodies;
              clock = past.clock;
              opens = past.opens;
              trace = past.trace;
            };
          }

      pub body_opened : begins ws ≡ Some key.Thread → length bs < body_limit → Takes (draft s hs cs bs acts ls kd) (draft sec.Body hs cs bs acts ls kd) ws
      body_opened e fewer =
          let d = draft s hs cs bs acts ls kd in
          record {
            seen = seen_in sec.Body kd ∙ sym (ap {A = Seen} (λ t. record t { bodies = t.bodies + 1 }) (shut sec.Body)) ∙ sym (past_by ws (seen_of_draft d) _ e refl refl);
            kept = kept_in sec.Body few_handlers (omega arith);
            makes = λ rest parts m. let past = kernel_past ws rest kd parts (outside_by ws _ e refl refl refl) (kernel_comes d (ws ∷ rest) parts m) in record {
              handlers = ap (λ t. map somes hs ++ t) (sym (rest_past is_handler act_of (somes acts) (somes acts) ws rest (ap is_handler e))) ∙ ap (λ b. map somes hs ++ rest_of_sections is_handler act_of b (somes acts) (ws ∷ rest)) (sym no_handler) ∙ m.handlers;
              checks = ap (λ t. somes cs ++ t) (sym (checks_past ws rest (ap is_check e))) ∙ m.checks;
              bodies = ap (λ t. map somes bs ++ map with_places (rest_of_sections is_thread line_of true (somes t) rest)) no_lines ∙ ap (λ t. map somes bs ++ map with_places t) (sym (rest_open is_thread line_of (somes ls) ws rest (ap is_thread e))) ∙ ap (λ b. map somes bs ++ map with_places (rest_of_sections is_thread line_of b (somes ls) (ws ∷ rest))) (sym no_body) ∙ m.bodies;
              clock = past.clock;
              opens = past.opens;
              trace = past.trace;
            };
          }

      pub check_taken : (c : Check) → check_of ws ≡ Some c → begins ws ≡ Some key.Check → Takes (draft s hs cs bs acts ls kd) (draft sec.Checks hs (cs ++ c ∷ []) bs acts ls kd) ws
      check_taken c g e =
          let d = draft s hs cs bs acts ls kd in
          record {
            seen = (λ i. record (seen_in sec.Checks kd i) { checks = length_push cs c i }) ∙ sym (ap {A = Seen} (λ t. record t { checks = t.checks + 1 }) (shut sec.Checks)) ∙ sym (past_by ws (seen_of_draft d) _ e refl refl);
            kept = record { no_acts = λ h. no_acts; no_lines = λ h. no_lines; few_acts = kept.few_acts; short_handlers = kept.short_handlers; few_handlers = few_handlers; few_bodies = few; no_clock = λ h. no_clock; no_entries = λ h. no_entries; kernel = kept.kernel };
            makes = λ rest parts m. let past = kernel_past ws rest kd parts (outside_by ws _ e refl refl refl) (kernel_comes d (ws ∷ rest) parts m) in record {
              handlers = ap (λ t. map somes hs ++ t) (sym (rest_past is_handler act_of (somes acts) (somes acts) ws rest (ap is_handler e))) ∙ ap (λ b. map somes hs ++ rest_of_sections is_handler act_of b (somes acts) (ws ∷ rest)) (sym no_handler) ∙ m.handlers;
              checks = ap (λ t. t ++ checks_of rest) (read_more cs c (check_of ws) g) ∙ append_assoc (somes cs) (check_of ws ∷ []) (checks_of rest) ∙ ap (λ t. somes cs ++ t) (sym (checks_more ws rest (ap is_check e))) ∙ m.checks;
              bodies = ap (λ t. map somes bs ++ map with_places t) (sym (rest_past is_thread line_of (somes ls) (somes ls) ws rest (ap is_thread e))) ∙ ap (λ b. map somes bs ++ map with_places (rest_of_sections is_thread line_of b (somes ls) (ws ∷ rest))) (sym no_body) ∙ m.bodies;
              clock = past.clock;
              opens = past.opens;
              trace = past.trace;
            };
          }
