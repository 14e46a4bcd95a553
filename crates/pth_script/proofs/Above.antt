-- One line more above.
use Rattle.std.proofs.Common.{◌≡◌, ℕ, List, [], ◌∷◌, Option, Some, None, refl, sym, ◌∙◌}
use Rattle.pth_spelling.specs.Starts.{begins}
use Rattle.pth_grammar.specs.LineMeanings.{numbered}
use Rattle.pth_spelling.specs.declared.keyword.Keyword.{Keyword}
use Rattle.pth_spelling.specs.declared.keyword.Keyword.TheVariants as key
use Rattle.pth_kernel.specs.declared.trace.Stamp.{Stamp}
use Rattle.pth_grammar.specs.KernelLines.{open_line, stamp_line}
use Rattle.pth_script.specs.TextRows.{above}
use Rattle.pth_script.specs.Seen.{Seen, seen_of, seen_past, script_past, opens_past, stamps_past, section_of, since_mark, numbers, count_of, next_open_of, open_descriptors_of, stamps_of}

-- what is seen of handlers, checks and bodies
script_by : (k : Option Keyword) (l : List (List ℕ)) (ls : List (List (List ℕ))) → begins l ≡ k → record (seen_of (l ∷ ls)) { next_open = next_open_of ls; live = open_descriptors_of ls; stamps = stamps_of ls } ≡ script_past k (numbered l) (seen_of ls)
unfolding section_of since_mark numbers count_of
script_by (Some key.Handler) l ls e = rw e refl
script_by (Some key.Check) l ls e = rw e refl
script_by (Some key.Thread) l ls e = rw e refl
script_by (Some key.End) l ls e = rw e refl
script_by (Some key.Kernel) l ls e = rw e refl
script_by (Some key.Clock) l ls e = rw e refl
script_by (Some key.Open) l ls e = rw e refl
script_by (Some key.At) l ls e = rw e refl
script_by (Some key.Label) l ls e = rw e (rw e refl)
script_by (Some key.Goto) l ls e = rw e (rw e refl)
script_by _ l ls e = rw e (rw e refl)

-- and of what comes
stamps_by : (o : Option Stamp) (l : List (List ℕ)) (ls : List (List (List ℕ))) (s : Seen) → stamp_line l ≡ o → s.stamps ≡ stamps_of ls → record s { stamps = stamps_of (l ∷ ls) } ≡ stamps_past o s
unfolding stamps_of
stamps_by (Some x) l ls s e same = rw e (λ i. record s { stamps = x ∷ sym same i })
stamps_by None l ls s e same = rw e (λ i. record s { stamps = sym same i })

pub seen_more : (l : List (List ℕ)) (ls : List (List (List ℕ))) → seen_of (l ∷ ls) ≡ seen_past l (seen_of ls)
unfolding next_open_of open_descriptors_of
seen_more l ls =
    stamps_by (stamp_line l) l ls (record (seen_of (l ∷ ls)) { stamps = stamps_of ls }) refl refl ∙ (λ i. stamps_past (stamp_line l) (opens_past (open_line l) (script_by (begins l) l ls refl i)))

pub above_none : above [] ≡ []
unfolding above
above_none = refl
