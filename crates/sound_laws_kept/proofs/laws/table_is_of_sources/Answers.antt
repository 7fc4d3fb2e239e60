use Rattle.sound_laws_kept.proofs.Again.{again}
use Rattle.sound_laws_kept.proofs.Linking.{carries, gives_one, gives_parts}
use Rattle.sound_laws_kept.proofs.laws.table_is_of_sources.Goals as goal

pub returns : goal.returns
returns c =
    again (carries c.known_is_carried.ensures c.findings_rest_on_calls.ensures.findings) (gives_one c.one_is_known.ensures c.one_text.ensures)
    (gives_parts c.known_is_carried.ensures c.known_of_parts.ensures c.findings_rest_on_calls.ensures.findings)
