use Rattle.std.proofs.Common.{◌≤◌, length, map, refl, sym, ap, ◌∙◌, arith}
use Rattle.std.proofs.lemmas.List.{with_items_is}
use Rattle.cons_tree.specs.Constraints.{constraint}
use Rattle.cons_gen_rows.proofs.Runs.{rotated_rows, whole_length}
use Rattle.cons_gen_rows.proofs.generator.Generator.rotate.Goals as goal

pub returns-clause-rows : goal.returns-clause-rows
returns-clause-rows c =
    let within : c.args.start ≤ length c.deref_mut.result.now = omega (arith, ap length c.deref_mut.ensures.value) in
    record {
      next = refl;
      rows = ap (map constraint) (with_items_is c.args.self.now.members _ (whole_length c.deref_mut.result.now c.rotate_left.new.self c.args.start c.args.self.now.members.len within
          (ap length c.deref_mut.ensures.value ∙ sym c.args.self.now.members.ok.0) c.rotate_left.ensures.len))
          ∙ rotated_rows constraint c.args.self.now.members.items c.deref_mut.result.now c.rotate_left.new.self c.args.start c.args.middle c.requires.start c.requires.middle c.deref_mut.ensures.value c.rotate_left.ensures.after;
      variables = refl;
      functions = refl;
    }
