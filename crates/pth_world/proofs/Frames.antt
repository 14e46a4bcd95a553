-- Frames of calls, one after another.
use Rattle.std.proofs.Common.{◌≡◌, ℕ, ◌≤◌, Bool, true, false, Option, inl, inr, refl, ap, sym, subst, ◌∙◌, arith}
use Rattle.pth_world.specs.World.{WorldOf}
use Rattle.pth_world.specs.WellFormed.{WellFormed}
use Rattle.pth_world.specs.Frame.{Frame, Names}
use Rattle.pth_world.specs.Keeps.{MovesThreads}
use Rattle.pth_world.specs.Numbering.{Kind, Thread, Object, Event, Port, Numbers, no_numbers, one_of, GivesAtMost, GivesNone}
use Rattle.pth_world.proofs.Ranks.{ranks_none, ranks_then, ranks_more}

-- of any kind at most one
pub one_at_most : (j k : Kind) → one_of j k ≤ 1
one_at_most Thread Thread = omega arith
one_at_most Object Object = omega arith
one_at_most Event Event = omega arith
one_at_most Port Port = omega arith
one_at_most j k = omega arith

module _ {P S H : Type 0} where
  -- where nobody else was named before
  names_then : (yields : Bool) (u v w : WorldOf P S H) → v.scheduler.preferred ≡ u.scheduler.preferred → Names yields v w → Names yields u w
  names_then false u v w same b = b ∙ same
  names_then true u v w same (inl b) = inl (b ∙ same)
  names_then true u v w same (inr b) = inr b

  -- none at all
  pub gives_none : (n : Numbers) (w v : WorldOf P S H) → GivesNone w v → GivesAtMost n w v
  gives_none n w v none k = let e = none k in omega arith

  pub still_frame : (n : Numbers) (w : WorldOf P S H) (r : Option ℕ) → w.scheduler.running ≡ r → WellFormed w → Frame w w n r false
  still_frame n w r is whole = record {
    whole = whole;
    runs = is;
    made = λ k. omega arith;
    ranks = ranks_more 0 (n Thread) w.threads w.threads (omega arith) (ranks_none w.threads);
    preferred = refl;
  }

  pub refused_frame : (n : Numbers) (w v : WorldOf P S H) (r : Option ℕ) → w.scheduler.running ≡ r → WellFormed w → v ≡ w → Frame w v n r false
  refused_frame n w v r is whole same = subst (λ (z : WorldOf P S H). Frame w z n r false) (sym same) (still_frame n w r is whole)

  -- threads have moved
  pub moved_frame : (n : Numbers) (w v : WorldOf P S H) (q r : Option ℕ) → q ≡ r → MovesThreads w v (n Thread) q → Frame w v n r false
  moved_frame n w v q r is moves = record {
    whole = moves.whole;
    runs = ap (λ (k : WorldOf P S H). k.scheduler.running) moves.same ∙ is;
    made = elim [
      | Thread ↦ (let e = moves.made in omega arith)
      | Object ↦ (let e = ap (λ (k : WorldOf P S H). k.attributes.objects.made) moves.same in omega arith)
      | Event ↦ (let e = ap (λ (k : WorldOf P S H). k.events.made) moves.same in omega arith)
      | Port ↦ (let e = ap (λ (k : WorldOf P S H). k.store.ports.made) moves.same in omega arith)
    ];
    ranks = moves.ranks;
    preferred = ap (λ (k : WorldOf P S H). k.scheduler.preferred) moves.same;
  }

  -- one after another, the first without a number
  pub frame_then : (n : Numbers) (u v w : WorldOf P S H) (q r : Option ℕ) (yields : Bool) → Frame u v no_numbers q false → Frame v w n r yields → Frame u w n r yields
  frame_then n u v w q r yields a b = record {
    whole = b.whole;
    runs = b.runs;
    made = λ k. (let x = a.made k in let y = b.made k in omega arith);
    ranks = ranks_then (n Thread) u.threads v.threads w.threads a.ranks b.ranks;
    preferred = names_then yields u v w a.preferred b.preferred;
  }

  -- as many as are said, or fewer
  pub frame_more : (n m : Numbers) (w v : WorldOf P S H) (r : Option ℕ) (yields : Bool) → ((k : Kind) → n k ≤ m k) → Frame w v n r yields → Frame w v m r yields
  frame_more n m w v r yields le a = record {
    whole = a.whole;
    runs = a.runs;
    made = λ k. (let x = a.made k in let y = le k in omega arith);
    ranks = ranks_more (n Thread) (m Thread) w.threads v.threads (le Thread) a.ranks;
    preferred = a.preferred;
  }

  -- who runs is known
  pub frame_as : (n m : Numbers) (w v : WorldOf P S H) (q r : Option ℕ) → ((k : Kind) → n k ≤ m k) → q ≡ r → Frame w v n q false → Frame w v m r false
  frame_as n m w v q r le is a = frame_more n m w v r false le (subst (λ (o : Option ℕ). Frame w v n o false) is a)
