use Rattle.std.proofs.Common.{◌≡◌, refl, subst, arith}
use Rattle.std.specs.Prelude.{length}
use Rattle.components.specs.steps.Search.{Closes}
use Rattle.components.proofs.Steps.{shut_more}
use Rattle.components.proofs.search.shut.Goals as goal

pub loop-position-init : goal.loop-position-init
loop-position-init c = record {
  same_length = refl;
  shut = λ p from to. absurd (omega arith);
  others = λ f never. refl;
  same_fresh = refl;
}

pub loop-position-preserved : goal.loop-position-preserved
loop-position-preserved c =
    shut_more _ _ _ _ _ _ c.loop-position.invariant c.loop-position.auto.position c.loop-position-test.true c.requires.on_path c.requires.nodes

pub returns : goal.returns
returns c =
    let is : c.loop-position.position ≡ length c.args.path.now = omega arith in
    subst (λ n. Closes c.args.states.now.items c.loop-position.states.items c.args.path.now c.args.first n c.args.number) is c.loop-position.invariant
