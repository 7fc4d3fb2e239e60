use Rattle.std.proofs.Common.{◌⊎◌, inl, inr, refl}
use Rattle.type_lattice_model.specs.Values.{closure, external, foreign}
use Rattle.sound_laws_fun_flow.proofs.Program.{has_program}
use Rattle.sound_laws_fun_flow.proofs.Runs.{is_listed, other_arity, other_external}
use Rattle.sound_laws_fun_flow.proofs.laws.only_listed_are_entered.Goals as goal

either : {A : Type 0} → A ⊎ A → A
either (inl a) = a
either (inr a) = a

pub returns-clause-closures : goal.returns-clause-closures
returns-clause-closures c U stage tr accepted r home label x l n env i =
    is_listed (record { closures = c.builtin_laws.ensures.held; functions = c.handed_on.ensures.held }) U (has_program c.label_laws.ensures.definitions U accepted) stage tr home label (closure x l n env) r i refl

pub returns-clause-externals : goal.returns-clause-externals
returns-clause-externals c U stage tr accepted r home label x name n i =
    is_listed (record { closures = c.builtin_laws.ensures.held; functions = c.handed_on.ensures.held }) U (has_program c.label_laws.ensures.definitions U accepted) stage tr home label (external x name n) r i refl

pub returns-clause-foreigners : goal.returns-clause-foreigners
returns-clause-foreigners c U stage tr accepted r home label x n i =
    either (is_listed (record { closures = c.builtin_laws.ensures.held; functions = c.handed_on.ensures.held }) U (has_program c.label_laws.ensures.definitions U accepted) stage tr home label (foreign x n) r i refl)

pub returns-clause-arities : goal.returns-clause-arities
returns-clause-arities c = other_arity

pub returns-clause-external_arities : goal.returns-clause-external_arities
returns-clause-external_arities c = other_external
