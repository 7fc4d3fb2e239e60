use Rattle.std.proofs.Common.{arith, refl, length-drop}
use Rattle.std.proofs.lemmas.List.{take_rest}
use Rattle.core_scan.specs.Escapes.{nothing}
use Rattle.core_scan.proofs.InsideLemmas.{inside_further}
use Rattle.core_scan.proofs.quotes.read_unquoted.Goals as goal

pub loop-next-init : goal.loop-next-init
loop-next-init c = record { within = omega arith; inside = nothing refl c.new-text.ensures }

pub loop-next-preserved : goal.loop-next-preserved
loop-next-preserved c = record {
  within = omega (arith, length-drop c.loop-next.len c.args.rest.now, c.in-Some.ensures.within.1);
  inside = rw c.in_ok-add.ensures.ok (inside_further c.args.quote c.args.rest.now c.loop-next.text c.loop-next.len c.in-Some.next.len c.in-Some.next.value c.loop-next.invariant.inside (simp take_rest at c.in-Some.ensures.inside));
}
