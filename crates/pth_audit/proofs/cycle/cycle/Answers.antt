use Rattle.std.proofs.Common.{◌∙◌, sym, subst, map, get_or, Some, None, arith}
use Rattle.std.specs.List.Sorted.{IsStrictlyIncreasing}
use Rattle.std.proofs.lemmas.List.{length-map, get_or-map}
use Rattle.pth_threads.specs.Threads.{number_of, tid_from}
use Rattle.pth_audit.specs.Blocking.{IsBack, blocks_on}
use Rattle.pth_audit.proofs.Finding.{listed_as, blocking_listed, first_circle, no_circle, none_next}
use Rattle.pth_audit.proofs.cycle.cycle.Goals as goal

pub returns-in-Some : goal.returns-in-Some
returns-in-Some g c = λ s st.
    let ts = c.deref-t-items.result.now in
    let b = blocks_on s in
    let all = blocking_listed c.args.w.now s st ts (listed_as c.args.w.now _ ts _ c.threads.ensures c.deref-t-items.ensures.value c.in_ok-tids.ensures.listed) in
    let rising = subst (λ l. IsStrictlyIncreasing (map number_of l)) (sym c.deref-t-items.ensures.value) c.in_ok-tids.ensures.rising in
    let back = subst (λ o. IsBack b c.len.result (get_or ts c.loop-t.t-index (tid_from 0)).0 o) c.in-Some.is (c.steps_back.ensures s st) in
    let within = subst (λ n. IsBack b n (get_or ts c.loop-t.t-index (tid_from 0)).0 (Some c.in-Some.steps)) (c.len.ensures ∙ sym c.deref-t-items.ensures.len ∙ sym (length-map ts number_of)) back in
    first_circle b ts all rising c.loop-t.t-index c.in-Some.steps c.in_ok-along.field-0 c.loop-t-test.true (c.loop-t.invariant s st) within (c.in_ok-along.ensures s st back.2)

pub loop-t-preserved : goal.loop-t-preserved
loop-t-preserved g c = λ s st.
    let ts = c.deref-t-items.result.now in
    let b = blocks_on s in
    let all = blocking_listed c.args.w.now s st ts (listed_as c.args.w.now _ ts _ c.threads.ensures c.deref-t-items.ensures.value c.in_ok-tids.ensures.listed) in
    none_next b (map number_of ts) all c.loop-t.t-index (c.loop-t.invariant s st) (
    subst (λ n. IsBack b n (get_or (map number_of ts) c.loop-t.t-index 0) None) (c.len.ensures ∙ sym c.deref-t-items.ensures.len ∙ sym (length-map ts number_of)) (
    subst (λ t. IsBack b c.len.result t None) (sym (get_or-map number_of ts c.loop-t.t-index (tid_from 0) 0 c.loop-t-test.true)) (subst (λ o. IsBack b c.len.result (get_or ts c.loop-t.t-index (tid_from 0)).0 o) c.in_default.is (c.steps_back.ensures s st))))

pub returns : goal.returns
returns g c = λ s st.
    let ts = c.deref-t-items.result.now in
    let b = blocks_on s in
    let all = blocking_listed c.args.w.now s st ts (listed_as c.args.w.now _ ts _ c.threads.ensures c.deref-t-items.ensures.value c.in_ok-tids.ensures.listed) in
    no_circle b (map number_of ts) all (λ j low. c.loop-t.invariant s st j (let long = length-map ts number_of in let end = c.loop-t-test.false in omega (arith, low, long, end)))
