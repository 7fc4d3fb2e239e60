use Rattle.sound_laws_flow.proofs.facts.text_facts.Goals as goal

pub returns : goal.returns
returns c = record {
  once = c.checked_laws.ensures.once;
  labels = c.labels_are_distinct.ensures.once;
  functions = c.functions_by_label.ensures.distinct;
  unbroken = c.places_are_sound.ensures.unbroken;
  arities = c.places_are_sound.ensures.letrecs;
  top_arities = c.places_are_sound.ensures.definitions;
  letrecs = c.label_laws.ensures.letrecs;
  definitions = c.label_laws.ensures.definitions;
}
