use Rattle.core_scope.specs.Checked.{tree_of}
use Rattle.core_scope.proofs.NameLaws.{contained_has}
use Rattle.core_meaning.proofs.Existing.{Text}
use Rattle.core_meaning.proofs.RunsExist.{contained_variable, has_run}
use Rattle.core_meaning.proofs.laws.runs_exist.Goals as goal

pub returns : goal.returns
returns c d U f stage fuel vs known exported arity worldly =
    has_run c.value_laws.ensures.spelled U (tree_of d) text known (c.checked_laws.ensures.accepted d).sound (c.places_are_sound.ensures.definitions d) (c.label_laws.ensures.definitions d U known) stage fuel f vs exported arity worldly
  where
    text : Text U (tree_of d)
    text = record {
      variables = λ s k i x h. contained_variable s.variables x (c.places_are_sound.ensures.variables d s k i x h);
      functions = λ s k i g h. contained_has s.functions g (c.places_are_sound.ensures.functions d s k i g h);
      degrees = λ s k t h. c.places_are_sound.ensures.degrees d s k t h;
      funs = λ s k i xs t h. c.label_laws.ensures.functions d U s k i xs t known h;
      letrecs = λ s k i ds t h. c.label_laws.ensures.letrecs d U s k i ds t known h;
    }
