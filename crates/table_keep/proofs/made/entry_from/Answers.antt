use Rattle.std.proofs.Common.{[], map, Contains, sym, ap, ◌∙◌, subst, IsTrue}
use Rattle.type_kinds_sets.specs.Ascending.{merged}
use Rattle.type_kinds_sets.specs.Names.{name_cmp}
use Rattle.core_ast.specs.declared.syntax.Module.{Module}
use Rattle.core_ast.specs.Tree.{module_tree}
use Rattle.core_scope.specs.Checked.{tree_of}
use Rattle.cons_tree.specs.Callees.{as_called, found}
use Rattle.table_file.specs.declared.digests.Digest.{Digest}
use Rattle.table_file.specs.Order.{rises, is_name_before}
use Rattle.table_keep.specs.Calls.{homes}
use Rattle.table_keep.specs.Kept.{Standing}
use Rattle.table_keep.specs.Made.{IsKnown, used_of}
use Rattle.table_keep.specs.Model.{source_so, used_so}
use Rattle.table_keep.proofs.CallLaws.{modules_rise}
use Rattle.table_keep.proofs.MadeLaws.{exports_rise, group_has, groups_outside, made_of, modules_are, used_are_outside, used_rise}
use Rattle.table_keep.proofs.SpelledLaws.{small_exports}
use Rattle.table_keep.proofs.made.entry_from.Goals as goal

pub exports_from-requires-clause-small : goal.exports_from-requires-clause-small
exports_from-requires-clause-small c = λ f among.
    small_exports (tree_of c.args.source.now.checked) f (c.checked_laws.ensures.accepted c.args.source.now.checked).spelled
    (subst (λ (x : Module). Contains x.exports f) c.module-module.ensures among)

pub exports_from-requires-clause-known : goal.exports_from-requires-clause-known
exports_from-requires-clause-known c = λ f among.
    subst (λ (x : Module). IsKnown (found c.args.known.now x.name f)) (sym c.module-module.ensures)
    (c.requires.known f (subst (λ (x : Module). Contains x.exports f) c.module-module.ensures among))

pub invariant_of-result : goal.invariant_of-result
invariant_of-result c =
    let tree = tree_of c.args.source.now.checked in
    let K : Standing = λ h f. as_called (found c.args.known.now h f) in
    let calls = modules_are tree c.in_ok-called.called c.in_ok-calls.calls c.in_ok-called.ensures (c.in_ok-calls.ensures ∙ ap (λ cs. merged name_cmp [] (homes cs)) c.as_slice.ensures) in
    let used = c.in_ok-used.ensures ∙ ap (used_of c.args.group.now K) c.in_ok-called.ensures in
    record {
      digest_whole = c.same_digest-digest.ensures.whole;
      group_rises = subst (λ names. IsTrue (rises is_name_before names)) (sym c.in_ok-group.ensures) c.requires.rising;
      group_has_own = group_has c.args.group.now c.in_ok-group.group tree.name c.in_ok-name.name c.in_ok-group.ensures (c.in_ok-name.ensures ∙ ap (λ (x : Module). x.name) c.module-module.ensures) c.requires.own;
      calls_rise = subst (λ names. IsTrue (rises is_name_before names)) (sym calls) (modules_rise tree);
      used_rise = used_rise c.args.group.now K tree c.in_ok-used.used used;
      used_outside = groups_outside c.args.group.now c.in_ok-group.group c.in_ok-group.ensures c.in_ok-calls.calls c.in_ok-used.used (used_are_outside c.args.group.now K tree c.in_ok-calls.calls c.in_ok-used.used calls used);
      exports_rise = exports_rise (found c.args.known.now) c.module-module.result.now.name (module_tree c.module-module.result.now) c.in_ok-exports.exports c.in_ok-exports.ensures.summarized;
      exports_fit = c.in_ok-exports.ensures.fit;
    }

pub returns-clause-made : goal.returns-clause-made
returns-clause-made c =
    let tree = tree_of c.args.source.now.checked in
    let K : Standing = λ h f. as_called (found c.args.known.now h f) in
    let calls = modules_are tree c.in_ok-called.called c.in_ok-calls.calls c.in_ok-called.ensures (c.in_ok-calls.ensures ∙ ap (λ cs. merged name_cmp [] (homes cs)) c.as_slice.ensures) in
    let used = c.in_ok-used.ensures ∙ ap (used_of c.args.group.now K) c.in_ok-called.ensures in
    made_of (source_so c.args.source.now) c.args.group.now K (record { exports = c.in_ok-exports.exports; lines = c.args.lines }) c.in_ok-name.name c.same_digest-digest.result.0 c.in_ok-group.group
    c.in_ok-calls.calls (map used_so c.in_ok-used.used) (c.in_ok-name.ensures ∙ ap (λ (x : Module). x.name) c.module-module.ensures) (ap (λ (d : Digest). d.0) c.same_digest-digest.ensures.same) c.in_ok-group.ensures calls used
