-- Before the first mark.
use Rattle.std.proofs.Common.{◌≡◌, ◌∙◌, ℕ, ◌-◌, false, List, [], length, None, refl, sym, ap, subst, arith}
use Rattle.std.proofs.lemmas.Bool.{false≢true}
use Rattle.pth_drawing.specs.declared.drawing.Drawing.{Drawing}
use Rattle.pth_drawing.specs.Drawing.{columns_of, moments_from, places_from, stretches_from}
use Rattle.pth_drawing.specs.Follow.{HasLane, Knows, Draws}
use Rattle.pth_drawing.specs.States.{Turn, turns_after}
use Rattle.pth_drawing.specs.Tracks.{new_track, track_in}
use Rattle.pth_drawing.proofs.DrawnTurns.{part_before}
use Rattle.pth_drawing.proofs.Heard.{none_between}
use Rattle.std.proofs.Math.Bool.{or-false}

no_columns : (from turns : ℕ) → columns_of from turns [] ≡ []
unfolding turns_after
no_columns from turns = part_before (from - 1) turns [] (omega arith)

none_drawn : (t : ℕ) → HasLane t [] (new_track t)
unfolding places_from stretches_from
none_drawn t = record { stretches = none_between _ 0 []; since = omega arith; canceled = refl; ended = refl }

none_known : (t : ℕ) → Knows t [] (new_track t)
none_known t = record { is_there = sym (or-false _); has_ended = refl; is_waiting = refl }

pub started : (d : Drawing) (from turns : ℕ) → d.ahead ≡ from - 1 → d.turns ≡ turns → d.is_over ≡ false → d.moved ≡ None → d.sheet.count ≡ 0 → d.sheet.moments.items ≡ []
    → ((t : ℕ) → track_in d.sheet.tracks.by_thread t ≡ new_track t) → Draws d from turns []
unfolding turns_after moments_from
started d from turns ahead wanted going moved count moments tracks = record {
  wanted = wanted;
  count = count ∙ ap length (sym (no_columns from turns));
  moments = moments ∙ ap (moments_from 0) (sym (no_columns from turns));
  drawn = λ t. subst (λ (l : List Turn). HasLane t l (track_in d.sheet.tracks.by_thread t)) (sym (no_columns from turns)) (subst (HasLane t []) (sym (tracks t)) (none_drawn t));
  over = λ h. absurd (false≢true (sym going ∙ h));
  within = λ h. record { ahead = omega arith; within = omega arith };
  moved = λ h. moved;
  known = λ h t. subst (Knows t []) (sym (tracks t)) (none_known t);
}
