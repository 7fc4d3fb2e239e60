use Rattle.std.proofs.Common.{ap, arith, map, ◌++◌, [], ◌∷◌, ◌∙◌, sym}
use Rattle.std.proofs.lemmas.List.FromFn.{map-range_with_len_more}
use Rattle.std.specs.List.{range_with_len}
use Rattle.core_make.specs.Modules.{module_text}
use Rattle.core_make.proofs.modules.make.Goals as goal

-- src/modules.rt:12:1
pub loop-i-preserved : goal.loop-i-preserved
loop-i-preserved c =
    c.in_ok-add.ensures.ok ∙ ap (λ texts. texts ++ c.in_ok-text.text ∷ []) c.loop-i.invariant
    ∙ ap (λ text. map (module_text c.args.n) (range_with_len 0 c.loop-i.i) ++ text ∷ []) c.in_ok-text.ensures
    ∙ sym (map-range_with_len_more (module_text c.args.n) 0 c.loop-i.i c.loop-i.i (omega arith))
