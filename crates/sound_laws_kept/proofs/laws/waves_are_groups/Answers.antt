use Rattle.sound_laws_kept.proofs.Linking.{carries, gives_parts}
use Rattle.sound_laws_kept.proofs.Waves.{wave_law}
use Rattle.sound_laws_kept.proofs.laws.waves_are_groups.Goals as goal

pub returns : goal.returns
returns c =
    wave_law (carries c.known_is_carried.ensures c.findings_rest_on_calls.ensures.findings)
    (gives_parts c.known_is_carried.ensures c.known_of_parts.ensures c.findings_rest_on_calls.ensures.findings)
