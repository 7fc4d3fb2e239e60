use Rattle.std.specs.String.{string_bytes}
use Rattle.dia_session_engine.proofs.Exits as e
use Rattle.dia_session_engine.proofs.engine.Engine.file_at.Goals as goal

pub bounds-as_slice-at : goal.bounds-as_slice-at
bounds-as_slice-at c = e.shown_within string_bytes c.self.inside.names.keys c.self.inside.sources.items c.self.inside.bytes c.self.invariant.0 c.args.self.now c.self.view_is c.args.at c.as_slice.result.now c.requires c.as_slice.ensures.keys

pub returns : goal.returns
returns c =
    e.shown_name string_bytes c.self.inside.names.keys c.self.inside.sources.items c.self.inside.bytes c.self.invariant.0 c.args.self.now c.self.view_is c.args.at c.as_slice.result.now
    c.index-as_slice-at.result c.as_str.result.now c.as_slice.ensures.keys (e.shown_within string_bytes c.self.inside.names.keys c.self.inside.sources.items c.self.inside.bytes c.self.invariant.0
    c.args.self.now c.self.view_is c.args.at c.as_slice.result.now c.requires c.as_slice.ensures.keys) c.index-as_slice-at.is c.as_str.ensures.value
