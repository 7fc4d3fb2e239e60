use Rattle.std.proofs.Common.{◌<◌, length, sym, ◌∙◌, subst, true≢false, arith}
use Rattle.table_verify_rules.specs.steps.Lesser.{names_in}
use Rattle.table_verify_rules.proofs.SideBySide.{alike_first, alike_second, next_alike, name_in, names_long}
use Rattle.table_verify_rules.proofs.modules.alike.Goals as goal
use Rattle.table_verify_rules.proofs.modules.alike.Goals.{then-not-is_called-via-then-not-is_called, then-not-is_called-via-else-not-is_called+then-not-is_called-2}

pub returns-then-not-is_called : goal.returns-then-not-is_called
returns-then-not-is_called c =
    let k = c.loop-at.at in let ts = names_in c.args.entries.now in let qs = names_in c.args.certified.now in let ms = c.args.names.now in let m = c.index-names-at.result in
    let of_names : k < length ms = omega (arith, c.loop-at-test.true, c.min-count.ensures, c.min.ensures) in
    let of_entries : k < length c.args.entries.now = omega (arith, c.loop-at-test.true, c.min-count.ensures, c.min.ensures) in
    let of_certified : k < length c.args.certified.now = omega (arith, c.loop-at-test.true, c.min-count.ensures, c.min.ensures) in
    elim c.then-not-is_called.branch [
      | then-not-is_called-via-then-not-is_called w ↦
          alike_first ts qs ms k c.index-entries-at.result.name m c.loop-at.invariant.0 c.loop-at.invariant.1 (subst (λ n. k < n) (sym (names_long c.args.entries.now)) of_entries) of_names
          (name_in c.args.entries.now k c.index-entries-at.result c.index-entries-at.is) c.index-names-at.is
          (λ e. true≢false (sym (c.is_called.ensures.1 e) ∙ w.if-not-is_called.true))
      | then-not-is_called-via-else-not-is_called+then-not-is_called-2 w ↦
          alike_second ts qs ms k w.index-certified-at.result.name m c.loop-at.invariant.0 c.loop-at.invariant.1 (subst (λ n. k < n) (sym (names_long c.args.certified.now)) of_certified) of_names
          (name_in c.args.certified.now k w.index-certified-at.result w.index-certified-at.is) c.index-names-at.is
          (λ e. true≢false (sym (w.is_called-else-not-is_called.ensures.1 e) ∙ w.if-not-is_called-2.true))
    ]

pub loop-at-preserved : goal.loop-at-preserved
loop-at-preserved c =
    let k = c.loop-at.at in let ts = names_in c.args.entries.now in let qs = names_in c.args.certified.now in let ms = c.args.names.now in let m = c.index-names-at.result in
    let of_names : k < length ms = omega (arith, c.loop-at-test.true, c.min-count.ensures, c.min.ensures) in
    let of_entries : k < length c.args.entries.now = omega (arith, c.loop-at-test.true, c.min-count.ensures, c.min.ensures) in
    let of_certified : k < length c.args.certified.now = omega (arith, c.loop-at-test.true, c.min-count.ensures, c.min.ensures) in (
      next_alike ts ms k c.index-entries-at.result.name m (subst (λ n. k < n) (sym (names_long c.args.entries.now)) of_entries) of_names
          (name_in c.args.entries.now k c.index-entries-at.result c.index-entries-at.is) c.index-names-at.is (c.is_called.ensures.0 c.if-not-is_called.false) c.loop-at.invariant.0,
      next_alike qs ms k c.index-certified-at.result.name m (subst (λ n. k < n) (sym (names_long c.args.certified.now)) of_certified) of_names
          (name_in c.args.certified.now k c.index-certified-at.result c.index-certified-at.is) c.index-names-at.is (c.is_called-else-not-is_called.ensures.0 c.if-not-is_called-2.false) c.loop-at.invariant.1,
    )
