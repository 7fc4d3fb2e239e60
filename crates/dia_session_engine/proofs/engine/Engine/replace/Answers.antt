use Rattle.std.proofs.Common.{rules, ◌≡◌, ◌+◌, ◌-◌, map, refl, sym, ap, ◌∙◌, subst, get_or, slice_set}
use Rattle.std.specs.String.{string_bytes}
use Rattle.dia_session_engine.specs.steps.Holding.{held_of, HasReports, IsKept}
use Rattle.dia_session_engine.proofs.Exits as e
use Rattle.dia_session_engine.proofs.Reports.{reports_replaced}
use Rattle.dia_session_engine.proofs.engine.Engine.replace.Goals as goal

pub index_mut-requires : goal.index_mut-requires
index_mut-requires c =
    let low = e.replaced_within string_bytes c.self.inside.names.keys c.self.inside.sources.items c.self.inside.bytes c.self.invariant.0 c.args.self.now c.self.view_is c.args.at c.args.source.length
    c.requires in search rules

pub overflow_sub-self : goal.overflow_sub-self
overflow_sub-self c =
    let low = e.replaced_within string_bytes c.self.inside.names.keys c.self.inside.sources.items c.self.inside.bytes c.self.invariant.0 c.args.self.now c.self.view_is c.args.at c.args.source.length c.requires in
    let got = e.got (map string_bytes c.self.inside.names.keys) c.self.inside.sources.items c.self.inside.bytes c.self.invariant.0 c.args.at c.replace-before.result low (subst (λ x. x ≡ get_or
    c.self.inside.sources.items c.args.at x) (sym c.replace-before.ensures.value) c.index_mut.ensures.value) in
    e.replaced_less string_bytes c.self.inside.names.keys c.self.inside.sources.items c.self.inside.bytes c.self.invariant.0 c.args.self.now c.self.view_is c.args.at c.args.source.length c.replace-before.result c.requires got

pub invariant_of-self : goal.invariant_of-self
invariant_of-self c =
    let low = e.replaced_within string_bytes c.self.inside.names.keys c.self.inside.sources.items c.self.inside.bytes c.self.invariant.0 c.args.self.now c.self.view_is c.args.at c.args.source.length c.requires in
    let got = e.got (map string_bytes c.self.inside.names.keys) c.self.inside.sources.items c.self.inside.bytes c.self.invariant.0 c.args.at c.replace-before.result low (subst (λ x. x ≡ get_or
    c.self.inside.sources.items c.args.at x) (sym c.replace-before.ensures.value) c.index_mut.ensures.value) in (
      subst (λ s. IsKept (map string_bytes c.self.inside.names.keys) (slice_set c.self.inside.sources.items c.args.at s) (c.self.inside.bytes - c.replace-before.result.length + c.args.source.length)) (sym c.replace-before.ensures.after)
          (e.replaced_kept string_bytes c.self.inside.names.keys c.self.inside.sources.items c.self.inside.bytes c.self.invariant.0 c.args.self.now c.self.view_is c.args.at c.args.source
          c.replace-before.result (c.self.inside.bytes - c.replace-before.result.length + c.args.source.length) c.requires got refl),
      subst (λ s. HasReports (slice_set c.self.inside.sources.items c.args.at s) c.forget_report.new.kept) (sym c.replace-before.ensures.after)
          (subst (HasReports (slice_set c.self.inside.sources.items c.args.at c.args.source)) (sym c.forget_report.ensures)
          (reports_replaced c.self.inside.sources.items c.self.inside.kept c.self.invariant.1 c.args.at c.args.source)),
    )

pub returns : goal.returns
returns c =
    λ file place. ap (λ s. held_of (map string_bytes c.self.inside.names.keys) (slice_set c.self.inside.sources.items c.args.at s)) c.replace-before.ensures.after
    ∙ e.replaced_told string_bytes c.self.inside.names.keys c.self.inside.sources.items c.self.inside.bytes c.self.invariant.0 c.args.self.now c.self.view_is c.args.at c.args.source file place
