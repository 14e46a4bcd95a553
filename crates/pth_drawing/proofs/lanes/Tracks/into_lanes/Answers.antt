use Rattle.std.proofs.Common.{◌∙◌, ap, subst, IsSome, nat_cmp}
use Rattle.std.specs.BTreeMap.{get}
use Rattle.std.specs.List.{range_with_len}
use Rattle.std.proofs.lemmas.Result.{IfOk-weaker}
use Rattle.pth_drawing.specs.Tracks.{track_in, TrackSeen, lane_if, settle}
use Rattle.pth_drawing.proofs.RisingLanes.{lanes_all, lanes_alike}
use Rattle.pth_drawing.proofs.lanes.Tracks.into_lanes.Goals as goal

pub returns : goal.returns
returns c =
    let n = c.args.columns in
    let m = c.open.new.self.by_thread in
    let same = c.in_ok-open.ensures.same in
    IfOk-weaker c.lanes_of.result _ _
    (λ lanes is most few.
    is
    ∙ lanes_all n m most c.lanes_of.ensures.ordered (subst (λ k. IsSome (get nat_cmp m k)) c.from.ensures c.in_ok-open.ensures.there)
    (λ t above. ap (λ (x : TrackSeen). lane_if t (settle n x)) (same t) ∙ few t above)
    ∙ lanes_alike n (track_in m) (track_in c.args.self.by_thread) same (range_with_len 0 most))
    c.lanes_of.ensures.lanes
