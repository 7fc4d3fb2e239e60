use Rattle.std.proofs.Common.{map, sym, subst}
use Rattle.std.specs.String.{string_bytes}
use Rattle.dia_session_engine.specs.steps.Holding.{HasReports}
use Rattle.dia_session_engine.proofs.Exits as e
use Rattle.dia_session_engine.proofs.Reports.{reports_added}
use Rattle.dia_session_engine.proofs.engine.Engine.add.Goals as goal

pub add_file-requires : goal.add_file-requires
add_file-requires c = e.held_nowhere string_bytes c.self.inside.names.keys c.self.inside.sources.items c.self.inside.bytes c.self.invariant.0 c.args.self.now c.self.view_is c.args.file.now c.requires.new

pub invariant_of-self : goal.invariant_of-self
invariant_of-self c = (
  e.added_kept string_bytes c.self.inside.names.keys c.self.inside.sources.items c.self.inside.bytes c.self.invariant.0 c.args.self.now c.self.view_is c.args.file.now c.args.source (map string_bytes
      c.add_file.new.names.keys) c.add_file.new.sources.items c.requires.new c.requires.fits c.in-Ok.ensures.named c.in-Ok.ensures.added,
  subst (λ ts. HasReports ts c.self.inside.kept) (sym c.in-Ok.ensures.added) (reports_added c.self.inside.sources.items c.self.inside.kept c.self.invariant.1 c.args.source),
)

pub returns-in-Ok-clause-ok : goal.returns-in-Ok-clause-ok
returns-in-Ok-clause-ok c =
    e.added_told string_bytes c.self.inside.names.keys c.self.inside.sources.items c.self.inside.bytes c.self.invariant.0 c.args.self.now c.self.view_is c.args.file.now c.args.source (map string_bytes
    c.add_file.new.names.keys) c.add_file.new.sources.items c.requires.new c.in-Ok.ensures.named c.in-Ok.ensures.added
