use Rattle.std.proofs.Common.{[], length, refl, sym, ap, ◌∙◌, subst}
use Rattle.std.proofs.lemmas.List.{length-map, length-replicate}
use Rattle.cons_tree.specs.Callees.{found}
use Rattle.table_keep.specs.Groups.{groups_in}
use Rattle.table_keep.specs.Lists.{lists_of}
use Rattle.table_keep.specs.Model.{entries_so, source_so, sources_so}
use Rattle.analysis.specs.steps.Deciding.{IsDecided}
use Rattle.analysis.proofs.Ends.{none_decided}
use Rattle.analysis.proofs.waves.decide_all.Goals as goal

pub loop-next-init : goal.loop-next-init
loop-next-init g c = record {
  places = refl;
  kept = c.requires.kept;
  decided = subst (λ changed. IsDecided (entries_so c.args.table.now) (sources_so c.args.sources.now) (groups_in (lists_of c.in_ok-list.list)) 0 (found c.new.result) changed c.in_ok-empty_lists.field-0) (sym c.new-2.ensures)
      (none_decided (entries_so c.args.table.now) (sources_so c.args.sources.now) (groups_in (lists_of c.in_ok-list.list)) (found c.new.result) c.in_ok-empty_lists.field-0 c.new.ensures
      (ap length c.in_ok-empty_lists.ensures ∙ length-replicate (length c.args.sources.now) [] ∙ sym (length-map c.args.sources.now source_so)));
}
