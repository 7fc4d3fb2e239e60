use Rattle.std.proofs.Common.{map, ap, ◌∙◌, ◌++◌}
use Rattle.std.proofs.lemmas.List.{map-append}
use Rattle.type_kinds.specs.Quoted.{quoted}
use Rattle.type_text.proofs.Adding.{one_word, one_more}
use Rattle.type_text.proofs.printing.append_members.Goals as goal

pub loop-atom-preserved : goal.loop-atom-preserved
loop-atom-preserved c =
    one_more (map quoted) (map-append quoted) c.args.members.now c.loop-atom.atom-index c.atom-item.result c.atom-item.result c.loop-atom-test.true c.atom-item.is c.loop-atom.invariant
    (one_word c.in_ok-separate.ensures.ok (quoted c.atom-item.result) c.text.new.out (c.in_ok-text.ensures.ok ∙ ap (λ a. c.separate.new.out ++ quoted a) c.get.ensures))
