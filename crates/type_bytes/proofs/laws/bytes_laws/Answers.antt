use Rattle.type_bytes.proofs.TypeFormats.{bytes_once}
use Rattle.type_bytes.proofs.ShapeLaws.{shapes_apart}
use Rattle.type_bytes.proofs.ReadCuts.{type_shape, type_whole}
use Rattle.type_bytes.proofs.laws.bytes_laws.Goals as goal

pub returns-clause-once : goal.returns-clause-once
returns-clause-once c = bytes_once

pub returns-clause-shapes : goal.returns-clause-shapes
returns-clause-shapes c = type_shape

pub returns-clause-apart : goal.returns-clause-apart
returns-clause-apart c = shapes_apart

pub returns-clause-whole : goal.returns-clause-whole
returns-clause-whole c = type_whole
