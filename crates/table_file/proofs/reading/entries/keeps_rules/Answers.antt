use Rattle.std.proofs.Common.{sym, ◌∙◌, true≢false, refl}
use Rattle.table_file.specs.Order.{rises, is_name_before, has_name}
use Rattle.table_file.specs.Rules.{is_used_before, is_export_before}
use Rattle.table_file.proofs.EntryRules.{broken, but_exports, tested, outside_tested}
use Rattle.table_file.proofs.reading.entries.keeps_rules.Goals as goal

pub returns-then-not-names_rise : goal.returns-then-not-names_rise
returns-then-not-names_rise c =
    sym (broken c.args.name.now c.args.parts.now
    (λ k. true≢false (sym k.group
    ∙ tested (rises is_name_before) c.as_slice-group.ensures c.names_rise.ensures c.if-not-names_rise.true)))

pub returns-then-not-names_rise-2 : goal.returns-then-not-names_rise-2
returns-then-not-names_rise-2 c =
    sym (broken c.args.name.now c.args.parts.now
    (λ k. true≢false (sym k.calls
    ∙ tested (rises is_name_before) c.as_slice-calls.ensures c.names_rise-2.ensures c.if-not-names_rise-2.true)))

pub returns-then-not-holds_name : goal.returns-then-not-holds_name
returns-then-not-holds_name c =
    sym (broken c.args.name.now c.args.parts.now
    (λ k. true≢false (sym k.own
    ∙ tested (λ g. has_name g c.args.name.now) c.as_slice-group.ensures c.holds_name.ensures c.if-not-holds_name.true)))

pub returns-then-not-used_rise : goal.returns-then-not-used_rise
returns-then-not-used_rise c =
    sym (broken c.args.name.now c.args.parts.now
    (λ k. true≢false (sym k.used
    ∙ tested (rises is_used_before) c.as_slice.ensures c.used_rise.ensures c.if-not-used_rise.true)))

pub returns-then-not-used_outside : goal.returns-then-not-used_outside
returns-then-not-used_outside c =
    sym (broken c.args.name.now c.args.parts.now
    (λ k. true≢false (sym k.outside
    ∙ outside_tested c.as_slice-group.ensures c.as_slice-calls.ensures c.as_slice-2.ensures c.used_outside.ensures c.if-not-used_outside.true)))

pub returns : goal.returns
returns c =
    but_exports c.args.name.now c.args.parts.now c.exports_rise.result
    (tested (rises is_name_before) c.as_slice-group.ensures c.names_rise.ensures c.if-not-names_rise.false)
    (tested (rises is_name_before) c.as_slice-calls.ensures c.names_rise-2.ensures c.if-not-names_rise-2.false)
    (tested (λ g. has_name g c.args.name.now) c.as_slice-group.ensures c.holds_name.ensures c.if-not-holds_name.false) (tested (rises is_used_before) c.as_slice.ensures c.used_rise.ensures c.if-not-used_rise.false)
    (outside_tested c.as_slice-group.ensures c.as_slice-calls.ensures c.as_slice-2.ensures c.used_outside.ensures c.if-not-used_outside.false)
    (tested (rises is_export_before) c.as_slice-3.ensures c.exports_rise.ensures refl)
