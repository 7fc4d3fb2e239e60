use Rattle.std.proofs.Common.{◌∷◌, [], length, sym, ap, ◌∙◌}
use Rattle.std.specs.List.{flat_map}
use Rattle.std.proofs.lemmas.Grind.{flat_map-append}
use Rattle.std.proofs.lemmas.List.{append-nil}
use Rattle.type_bytes.specs.Spelling.{name_bytes}
use Rattle.type_bytes.proofs.Fronts.{still_front}
use Rattle.type_bytes.proofs.Writes.{one_more}
use Rattle.type_bytes.proofs.writing.append_names.Goals as goal

pub loop-name-preserved : goal.loop-name-preserved
loop-name-preserved c =
    one_more (flat_map name_bytes) (flat_map-append name_bytes) c.args.names.now c.loop-name.name-index c.name-item.result c.name-item.result c.loop-name-test.true c.name-item.is
    (length c.args.names.now ∷ []) c.args.out.now c.loop-name.out _ _ c.loop-name.invariant c.in_ok-append_name.ensures.ok (ap name_bytes c.get.ensures ∙ sym (append-nil (name_bytes c.name-item.result)))

pub returns-in_err-append_name-clause-front : goal.returns-in_err-append_name-clause-front
returns-in_err-append_name-clause-front c = still_front c.args.out.now c.loop-name.out c.append_name.new.out _ c.loop-name.invariant c.append_name.ensures.front
