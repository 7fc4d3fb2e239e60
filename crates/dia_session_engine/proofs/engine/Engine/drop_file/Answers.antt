use Rattle.std.proofs.Common.{map, sym, ap, ◌∙◌, subst}
use Rattle.std.specs.List.{remove}
use Rattle.std.specs.String.{string_bytes}
use Rattle.dia_session_engine.specs.steps.Holding.{HasReports}
use Rattle.dia_session_engine.proofs.Exits as e
use Rattle.dia_session_engine.proofs.Reports.{reports_dropped}
use Rattle.dia_session_engine.proofs.engine.Engine.drop_file.Goals as goal

pub returns-in_default-clause-there : goal.returns-in_default-clause-there
returns-in_default-clause-there c =
    sym (e.none_held string_bytes c.self.inside.names.keys c.self.inside.sources.items c.self.inside.bytes c.self.invariant.0 c.args.self.now c.self.view_is c.args.file.now (e.none_named string_bytes
    c.self.inside.names.keys c.self.inside.sources.items c.self.inside.bytes c.self.invariant.0 c.args.self.now c.self.view_is c.args.file.now c.in_default.ensures.found))

pub returns-in_default-clause-held : goal.returns-in_default-clause-held
returns-in_default-clause-held c =
    e.not_dropped string_bytes c.self.inside.names.keys c.self.inside.sources.items c.self.inside.bytes c.self.invariant.0 c.args.self.now c.self.view_is c.args.file.now (e.none_named string_bytes
    c.self.inside.names.keys c.self.inside.sources.items c.self.inside.bytes c.self.invariant.0 c.args.self.now c.self.view_is c.args.file.now c.in_default.ensures.found)

pub overflow_sub-self : goal.overflow_sub-self
overflow_sub-self c =
    e.dropped_less string_bytes c.self.inside.names.keys c.self.inside.sources.items c.self.inside.bytes c.self.invariant.0 c.args.self.now c.self.view_is c.args.file.now c.in-Some.at
    c.remove-source.result c.in-Some.ensures.index c.remove-source.ensures.value

pub invariant_of-self : goal.invariant_of-self
invariant_of-self c =
    let place = e.found_at string_bytes c.self.inside.names.keys c.self.inside.sources.items c.self.inside.bytes c.self.invariant.0 c.args.self.now c.self.view_is c.args.file.now c.in-Some.at
    c.in-Some.ensures.index in
    let low = e.place_within (map string_bytes c.self.inside.names.keys) c.self.inside.sources.items c.self.inside.bytes c.self.invariant.0 c.args.file.now c.in-Some.at place in (
      e.dropped_kept string_bytes c.self.inside.names.keys c.self.inside.sources.items c.self.inside.bytes c.self.invariant.0 c.args.self.now c.self.view_is c.args.file.now c.in-Some.at
          c.remove-source.result c.shift_remove_index-name.new.self.keys c.remove-source.new.self.items c.in-Some.ensures.index c.remove-source.ensures.value c.shift_remove_index-name.ensures.keys
          c.remove-source.ensures.items,
      subst (λ ts. HasReports ts c.without_report.result) (sym c.remove-source.ensures.items)
          (subst (HasReports (remove c.self.inside.sources.items c.in-Some.at)) (sym (c.without_report.ensures ∙ ap (λ ks. remove ks c.in-Some.at) c.replace-kept.ensures.value))
          (reports_dropped c.self.inside.sources.items c.self.inside.kept c.self.invariant.1 c.in-Some.at low)),
    )

pub returns-clause-there : goal.returns-clause-there
returns-clause-there c = e.dropped_held string_bytes c.self.inside.names.keys c.self.inside.sources.items c.self.inside.bytes c.self.invariant.0 c.args.self.now c.self.view_is c.args.file.now c.in-Some.at c.in-Some.ensures.index

pub returns-clause-held : goal.returns-clause-held
returns-clause-held c =
    e.dropped_told string_bytes c.self.inside.names.keys c.self.inside.sources.items c.self.inside.bytes c.self.invariant.0 c.args.self.now c.self.view_is c.args.file.now c.in-Some.at
    c.shift_remove_index-name.new.self.keys c.remove-source.new.self.items c.in-Some.ensures.index c.shift_remove_index-name.ensures.keys c.remove-source.ensures.items
