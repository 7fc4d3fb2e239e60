use Rattle.std.proofs.Common.{◌≡◌, ◌<◌, length, sym, ap, ◌∙◌, subst, arith}
use Rattle.comp_rounds.proofs.work.CompWork.new.Goals as goal

pub invariant_of-result : goal.invariant_of-result
invariant_of-result c =
    let is : c.in_ok-parts.parts ≡ c.args.parts = c.in_ok-parts.ensures in record {
      as_many = c.requires.as_many ∙ ap length (sym is);
      few = omega (arith, c.requires.few, ap length is);
      ascends = λ k within. c.requires.ascends k (subst (λ ps. k < length ps) is within);
    }
