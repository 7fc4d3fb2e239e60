use Rattle.std.proofs.Common.{◌≡◌, ◌+◌, ◌∷◌, [], Some, length, map, slice_get, refl, sym, ap, ◌∙◌, subst, arith, length-append}
use Rattle.std.specs.Option.{option_map}
use Rattle.std.proofs.lemmas.List.{length-map}
use Rattle.std.proofs.lemmas.Option.{slice_get-map, slice_get_read, slice_get_within}
use Rattle.call_graph.specs.Among.{name_of}
use Rattle.call_graph.specs.steps.Finding.{FindsLast}
use Rattle.call_graph.proofs.Lasts.{callers_more, last_within, tells_more, tells_none}
use Rattle.call_graph.proofs.among.calls_among.Goals as goal

pub loop-at-init : goal.loop-at-init
loop-at-init g c =
    let v = g.S.AsFunction.stands_for in
    let fs = c.args.functions.now in
    let size : length c.in_ok-callers.callers ≡ length fs =
    c.in_ok-callers.ensures.count ∙ c.count.ensures ∙ c.in_ok-table.ensures.count ∙ length-map (map v fs) name_of ∙ length-map fs v in
    let long : c.count.result ≡ length fs = c.count.ensures ∙ c.in_ok-table.ensures.count ∙ length-map (map v fs) name_of ∙ length-map fs v in
    record {
      table = subst (λ t. FindsLast t (map name_of (map v fs))) (sym c.new-walk.ensures.table) c.in_ok-table.ensures;
      few = omega (arith, long);
      locals = c.new-walk.ensures.locals;
      size = size;
      callers = λ i j. (λ leads. absurd (c.in_ok-callers.ensures.none j i leads), λ h. absurd (let low = h.0 in omega (arith, low)));
      flags = ap length c.new-last.ensures;
      last = tells_none (map name_of (map v fs)) c.new-last.result c.new-last.ensures;
    }

pub add_calls-requires-clause-within : goal.add_calls-requires-clause-within
add_calls-requires-clause-within g c = λ home ts j has.
    let v = g.S.AsFunction.stands_for in
    let fs = c.args.functions.now in
    let low = last_within c.loop-at.walk.table (map name_of (map v fs)) c.loop-at.invariant.table home ts j has in
    let long : length (map name_of (map v fs)) ≡ length fs = length-map (map v fs) name_of ∙ length-map fs v in
    let size = c.loop-at.invariant.size in
    omega (arith, low, long, size)

pub loop-at-preserved : goal.loop-at-preserved
loop-at-preserved g c =
    let v = g.S.AsFunction.stands_for in
    let fs = c.args.functions.now in
    let i = c.loop-at.at in
    let x = c.index-functions-at.result in
    let kept = c.loop-at.invariant in
    let more = c.in_ok-add_calls.ensures in
    let here : slice_get (map v fs) i ≡ Some (v x) = slice_get-map v fs i ∙ ap (option_map v) (slice_get_read fs (length fs) i x refl (omega arith) c.index-functions-at.is) in
    record {
      table = subst (λ t. FindsLast t (map name_of (map v fs))) (sym more.table) kept.table;
      few = kept.few;
      locals = more.locals;
      size = more.size ∙ kept.size;
      callers = callers_more (map v fs) c.loop-at.walk.table kept.table i (v x) here c.loop-at.calls.callers c.add_calls.new.calls.callers kept.callers more.added;
      flags = (let a : length c.add_calls.new.calls.last ≡ length c.loop-at.calls.last + 1 = ap length more.last.1 ∙ length-append c.loop-at.calls.last (more.last.0 ∷ []) in let b = kept.flags in omega (arith, a, b));
      last = tells_more (map v fs) c.loop-at.walk.table kept.table i (v x) here c.loop-at.calls.last c.add_calls.new.calls.last more.last.0 kept.flags more.last.1 more.last.2 kept.last;
    }

pub returns-clause-callers : goal.returns-clause-callers
returns-clause-callers g c = λ i j.
    let v = g.S.AsFunction.stands_for in
    let fs = c.args.functions.now in
    let kept = c.loop-at.invariant.callers i j in (
      λ leads. (kept.0 leads).1,
      λ calls. kept.1 ((let w = slice_get_within (map v fs) i calls.caller calls.stands in let n = length-map fs v in let past = c.loop-at-test.false in omega (arith, w, n, past)), calls),
    )

pub returns-clause-last : goal.returns-clause-last
returns-clause-last g c = λ j h f here.
    let v = g.S.AsFunction.stands_for in
    let fs = c.args.functions.now in
    let kept = c.loop-at.invariant in
    let w = slice_get_within (map name_of (map v fs)) j (h, f) here in
    let long : length (map name_of (map v fs)) ≡ length fs = length-map (map v fs) name_of ∙ length-map fs v in
    let flags = kept.flags in
    let past = c.loop-at-test.false in
    (λ e. kept.last.true_is j h f e here, λ last. kept.last.is_true j h f (omega (arith, w, long, flags, past)) last)
