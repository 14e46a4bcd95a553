use Rattle.std.proofs.Common.{◌∙◌, Option, option_map, subst, sym}
use Rattle.pth_base.specs.declared.ids.Tid.{Tid}
use Rattle.pth_threads.specs.Threads.{number_of}
use Rattle.pth_waits.proofs.Searching.{Searched, search_goes_on, search_finds, search_ends}
use Rattle.pth_waits.proofs.joins.first_joinable.Goals as goal

pub returns-then-is_joinable-clause-first : goal.returns-then-is_joinable-clause-first
returns-then-is_joinable-clause-first g c k sh =
    search_finds k c.in-Some.t.0 (sym (c.is_joinable.ensures k sh) ∙ c.if-is_joinable.true) (rw c.in-Some.is at (c.loop-next.invariant.searched k sh))

pub returns-then-is_joinable-clause-dead : goal.returns-then-is_joinable-clause-dead
returns-then-is_joinable-clause-dead g c = rw c.in-Some.is at c.loop-next.invariant.stands

pub loop-next-preserved : goal.loop-next-preserved
loop-next-preserved g c = record {
  searched = λ k sh. search_goes_on k c.in-Some.t.0 _ (sym (c.is_joinable.ensures k sh) ∙ c.if-is_joinable.false) (rw c.in-Some.is at (c.loop-next.invariant.searched k sh)) (λ front back r split own. c.after-next.ensures.after k front back r sh split own);
  known = c.after-next.ensures.known;
  stands = c.after-next.ensures.stands;
}

pub returns-clause-first : goal.returns-clause-first
returns-clause-first g c k sh = search_ends k (subst (λ (o : Option Tid). Searched k (option_map number_of o)) c.in_default.is (c.loop-next.invariant.searched k sh))
