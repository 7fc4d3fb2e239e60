use Rattle.std.proofs.Common.{map, take, sym, ap, ◌∙◌, subst}
use Rattle.type_kinds.proofs.Lists.{map_next}
use Rattle.cons_tree.specs.Callees.{found, Takes}
use Rattle.sound_laws.specs.Knowledge.{summary_of}
use Rattle.analysis_typings.specs.Typings.{AreKnownIn, HasSummary}
use Rattle.analysis_typings.proofs.Listed.{by_names, one_more, takes_known}
use Rattle.analysis_typings.proofs.listing.def_summaries.Goals as goal

pub summary_in-requires : goal.summary_in-requires
summary_in-requires c =
    let at = by_names (λ f. HasSummary (found c.args.known.now c.args.home.now f)) c.args.defs.now c.requires c.loop-def.def-index c.def-item.result c.loop-def-test.true in
    (at.0, ap summary_of (c.find.ensures.value ∙ ap (λ d. found c.args.known.now c.args.home.now d.name) (c.get.ensures ∙ c.def-item.is)) ∙ at.1)

pub loop-def-preserved : goal.loop-def-preserved
loop-def-preserved c =
    let names = map_next (λ d. d.name) c.args.defs.now c.loop-def.def-index c.def-item.result c.loop-def-test.true c.def-item.is in
    let callee = c.find.ensures.value ∙ ap (λ d. found c.args.known.now c.args.home.now d.name) c.get.ensures in
    let takes = takes_known c.find.result.now c.in_ok-summary.summary c.get.result.now.name.arity c.find.ensures.fits c.in_ok-summary.ensures in
    subst (λ fs. AreKnownIn (found c.args.known.now) c.args.home.now fs c.add.new.self) (sym names)
    (subst (AreKnownIn (found c.args.known.now) c.args.home.now _) (sym c.in_ok-add.ensures.ok)
    (one_more (found c.args.known.now) c.args.home.now (map (λ d. d.name) (take c.loop-def.def-index c.args.defs.now)) c.loop-def.summaries c.def-item.result.name c.in_ok-summary.summary
    c.loop-def.invariant (ap summary_of (sym callee) ∙ c.in_ok-summary.ensures) (subst (λ d. Takes c.in_ok-summary.summary d.name.arity) c.get.ensures takes)))
