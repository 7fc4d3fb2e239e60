use Rattle.std.proofs.Common.{sym, ◌∙◌}
use Rattle.table_file.proofs.EntryLaws.{digest_fits}
use Rattle.table_file.proofs.EntryRules.{kept_each, no_entry, exports_kept}
use Rattle.table_file.proofs.reading.entries.entry_of.Goals as goal

pub returns-then-not-keeps_rules-clause-none : goal.returns-then-not-keeps_rules-clause-none
returns-then-not-keeps_rules-clause-none c =
    no_entry c.args.name c.args.parts (sym c.keeps_rules.ensures ∙ c.if-not-keeps_rules.true)

pub invariant_of-result : goal.invariant_of-result
invariant_of-result c =
    let k = kept_each c.args.name c.args.parts (sym c.keeps_rules.ensures ∙ c.if-not-keeps_rules.false) in
    record {
      digest_whole = digest_fits c.args.parts c.requires;
      group_rises = k.group;
      group_has_own = k.own;
      calls_rise = k.calls;
      used_rise = k.used;
      used_outside = k.outside;
      exports_rise = k.exports;
      exports_fit = exports_kept c.args.parts c.requires;
    }
