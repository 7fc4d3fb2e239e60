use Rattle.sound_laws_kept.proofs.FromScratch.{kept_law}
use Rattle.sound_laws_kept.proofs.Linking.{carries, gives_one, gives_parts}
use Rattle.sound_laws_kept.proofs.laws.kept_is_from_scratch.Goals as goal

pub returns : goal.returns
returns c =
    kept_law (carries c.known_is_carried.ensures c.findings_rest_on_calls.ensures.findings) (gives_one c.one_is_known.ensures c.one_text.ensures)
    (gives_parts c.known_is_carried.ensures c.known_of_parts.ensures c.findings_rest_on_calls.ensures.findings) c.one_table.ensures
