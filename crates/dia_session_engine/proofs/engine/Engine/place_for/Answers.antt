use Rattle.std.proofs.Common.{rules, ◌<◌, ◌≤◌, map, length}
use Rattle.std.specs.String.{string_bytes}
use Rattle.analysis_answers.specs.Words.{most_files}
use Rattle.dia_session_engine.proofs.Exits as e
use Rattle.dia_session_engine.proofs.engine.Engine.place_for.Goals as goal

pub overflow_sub-others : goal.overflow_sub-others
overflow_sub-others c =
    let place = e.found_at string_bytes c.self.inside.names.keys c.self.inside.sources.items c.self.inside.bytes c.self.invariant.0 c.args.self.now c.self.view_is c.args.file.now c.in-Some.at
    c.in-Some.ensures.index in
    let got = e.got (map string_bytes c.self.inside.names.keys) c.self.inside.sources.items c.self.inside.bytes c.self.invariant.0 c.in-Some.at c.index.result.now
    (e.place_within (map string_bytes c.self.inside.names.keys) c.self.inside.sources.items c.self.inside.bytes c.self.invariant.0 c.args.file.now c.in-Some.at place) c.index.ensures in
    (e.others_at (map string_bytes c.self.inside.names.keys) c.self.inside.sources.items c.self.inside.bytes c.self.invariant.0 c.args.file.now c.in-Some.at place c.index.result.now got).0

pub returns-then-bytes-others-clause-fault : goal.returns-then-bytes-others-clause-fault
returns-then-bytes-others-clause-fault c =
    let place = e.found_at string_bytes c.self.inside.names.keys c.self.inside.sources.items c.self.inside.bytes c.self.invariant.0 c.args.self.now c.self.view_is c.args.file.now c.in-Some.at
    c.in-Some.ensures.index in
    let got = e.got (map string_bytes c.self.inside.names.keys) c.self.inside.sources.items c.self.inside.bytes c.self.invariant.0 c.in-Some.at c.index.result.now
    (e.place_within (map string_bytes c.self.inside.names.keys) c.self.inside.sources.items c.self.inside.bytes c.self.invariant.0 c.args.file.now c.in-Some.at place) c.index.ensures in
    e.long_at string_bytes c.self.inside.names.keys c.self.inside.sources.items c.self.inside.bytes c.self.invariant.0 c.args.self.now c.self.view_is c.args.file.now c.in-Some.at c.index.result.now
    c.args.bytes place got c.if-bytes-others.true

pub returns-else-bytes-others-clause-place : goal.returns-else-bytes-others-clause-place
returns-else-bytes-others-clause-place c = e.place_shown string_bytes c.self.inside.names.keys c.self.inside.sources.items c.self.inside.bytes c.self.invariant.0 c.args.self.now c.self.view_is c.args.file.now _ c.in-Some.ensures.index

pub returns-else-bytes-others-clause-fits : goal.returns-else-bytes-others-clause-fits
returns-else-bytes-others-clause-fits c =
    let place = e.found_at string_bytes c.self.inside.names.keys c.self.inside.sources.items c.self.inside.bytes c.self.invariant.0 c.args.self.now c.self.view_is c.args.file.now c.in-Some.at
    c.in-Some.ensures.index in
    let got = e.got (map string_bytes c.self.inside.names.keys) c.self.inside.sources.items c.self.inside.bytes c.self.invariant.0 c.in-Some.at c.index.result.now
    (e.place_within (map string_bytes c.self.inside.names.keys) c.self.inside.sources.items c.self.inside.bytes c.self.invariant.0 c.args.file.now c.in-Some.at place) c.index.ensures in
    e.may_at string_bytes c.self.inside.names.keys c.self.inside.sources.items c.self.inside.bytes c.self.invariant.0 c.args.self.now c.self.view_is c.args.file.now c.in-Some.at c.index.result.now
    c.args.bytes place got c.if-bytes-others.false

pub returns-then-len-ge-MOST_FILES-clause-fault : goal.returns-then-len-ge-MOST_FILES-clause-fault
returns-then-len-ge-MOST_FILES-clause-fault c =
    let none = e.none_named string_bytes c.self.inside.names.keys c.self.inside.sources.items c.self.inside.bytes c.self.invariant.0 c.args.self.now c.self.view_is c.args.file.now c.in-None.ensures.found in
    let many : most_files ≤ length c.self.inside.sources.items = search rules in
    e.many_told string_bytes c.self.inside.names.keys c.self.inside.sources.items c.self.inside.bytes c.self.invariant.0 c.args.self.now c.self.view_is c.args.file.now none many

pub returns-then-bytes-self-clause-fault : goal.returns-then-bytes-self-clause-fault
returns-then-bytes-self-clause-fault c =
    let none = e.none_named string_bytes c.self.inside.names.keys c.self.inside.sources.items c.self.inside.bytes c.self.invariant.0 c.args.self.now c.self.view_is c.args.file.now c.in-None.ensures.found in
    let few : length c.self.inside.sources.items < most_files = search rules in
    e.long_new string_bytes c.self.inside.names.keys c.self.inside.sources.items c.self.inside.bytes c.self.invariant.0 c.args.self.now c.self.view_is c.args.file.now c.args.bytes none few c.if-bytes-self.true

pub returns-else-bytes-self-clause-place : goal.returns-else-bytes-self-clause-place
returns-else-bytes-self-clause-place c = e.place_shown string_bytes c.self.inside.names.keys c.self.inside.sources.items c.self.inside.bytes c.self.invariant.0 c.args.self.now c.self.view_is c.args.file.now _ c.in-None.ensures.index

pub returns-else-bytes-self-clause-new : goal.returns-else-bytes-self-clause-new
returns-else-bytes-self-clause-new c =
    let none = e.none_named string_bytes c.self.inside.names.keys c.self.inside.sources.items c.self.inside.bytes c.self.invariant.0 c.args.self.now c.self.view_is c.args.file.now c.in-None.ensures.found in
    e.none_held string_bytes c.self.inside.names.keys c.self.inside.sources.items c.self.inside.bytes c.self.invariant.0 c.args.self.now c.self.view_is c.args.file.now none

pub returns-else-bytes-self-clause-fits : goal.returns-else-bytes-self-clause-fits
returns-else-bytes-self-clause-fits c =
    let none = e.none_named string_bytes c.self.inside.names.keys c.self.inside.sources.items c.self.inside.bytes c.self.invariant.0 c.args.self.now c.self.view_is c.args.file.now c.in-None.ensures.found in
    let few : length c.self.inside.sources.items < most_files = search rules in
    e.may_new string_bytes c.self.inside.names.keys c.self.inside.sources.items c.self.inside.bytes c.self.invariant.0 c.args.self.now c.self.view_is c.args.file.now c.args.bytes none few c.if-bytes-self.false
