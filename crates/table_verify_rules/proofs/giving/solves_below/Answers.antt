use Rattle.std.proofs.Common.{◌≡◌, ◌≤◌, length, sym, ap, ◌∙◌, subst}
use Rattle.std.proofs.lemmas.List.{length-replicate}
use Rattle.type_lattice.specs.Types.{any}
use Rattle.cons_tree.proofs.TrailLaws.{trailed_length}
use Rattle.table_verify_rules.proofs.giving.solves_below.Goals as goal

pub is_within-within-requires : goal.is_within-within-requires
is_within-within-requires c =
    let long : length c.settle.new.slots.types ≡ c.args.made.now.slots =
    trailed_length c.in_ok-slots.slots c.settle.new.slots c.in_ok-alive.ensures.trailed ∙ ap length c.in_ok-slots.ensures.types
    ∙ length-replicate c.args.made.now.slots any in
    subst (λ n. length c.args.sig.now.args ≤ n) (sym long) c.requires
