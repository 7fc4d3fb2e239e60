-- What a pass knows of functions, held against a program and its runs.
use Rattle.std.specs.Prelude.{◌≡◌, false, [], ◌∷◌, Option, Some, None}
use Rattle.type_kinds.specs.declared.atom.Atom.{Atom}
use Rattle.core_ast.specs.declared.syntax.FunName.{FunName}
use Rattle.type_lattice_model.specs.Values.{Value, Values}
use Rattle.type_lattice.specs.Types.{HasType, HasTypes}
use Rattle.cons_tree.specs.declared.parts.Sig.{Sig}
use Rattle.cons_tree.specs.declared.parts.Summary.{Summary}
use Rattle.cons_tree.specs.declared.parts.Callee.{Callee}
use Rattle.cons_tree.specs.declared.parts.Callee.TheVariants.{Known, Local, Undefined, Unknown}
use Rattle.core_meaning.specs.Programs.{Program, top_function, Found, built_in, exported, hidden, outside, found}
use Rattle.core_meaning.specs.Meaning.{Event, made, chosen, applied, entered, gave, back, Trace}
use Rattle.cons_gen_rows.specs.Passes.{Knowledge, signature}

-- What may be known of a function by what a call of it finds: of an exported one its summary or nothing, and of one of another
-- module nothing. A call of a built-in function asks nothing of what is known, and one that its module doesn't export is never
-- entered by its names.
abbrev pub Allows : Found → Callee → Type 0
Allows built_in c = Unit {0}
Allows exported (Known s) = Unit {0}
Allows exported (Local s) = ⊥
Allows exported Undefined = ⊥
Allows exported Unknown = Unit {0}
Allows hidden c = Unit {0}
Allows outside (Known s) = ⊥
Allows outside (Local s) = ⊥
Allows outside Undefined = ⊥
Allows outside Unknown = Unit {0}

-- the pass knows of each function what a call of it finds in the program
abbrev pub IsHonest : Knowledge → Program → Type 0
IsHonest P U = (home : Atom) (f : FunName) → Allows (found U home f) (P.callee home f)

-- the summary that is known of a function
abbrev pub summary_of : Callee → Option Summary
summary_of (Known s) = Some s
summary_of (Local s) = Some s
summary_of Undefined = None
summary_of Unknown = None

-- the arguments and the value are of a signature
abbrev pub Within : Sig → Values → Value → Type 0
Within s vs v = HasTypes vs s.args × HasType v s.result

-- An event bears out what the pass knows: what a function that a module defines gave lies in the summary that is known of it,
-- where the function isn't one of those of whose calls the pass asks nothing.
abbrev pub BearsOut : Knowledge → Program → Event → Type 0
BearsOut P U (made c) = Unit {0}
BearsOut P U (chosen home label) = Unit {0}
BearsOut P U (applied home label c) = Unit {0}
BearsOut P U (entered c vs) = Unit {0}
BearsOut P U (gave c vs v) = (home : Atom) (f : FunName) (s : Summary) → top_function U home f ≡ Some c → P.own home f ≡ false → summary_of (P.callee home f) ≡ Some s → Within (signature P s) vs v
BearsOut P U (back home label v) = Unit {0}

-- something is true of each event of a trace
abbrev pub EachEvent : (Event → Type 0) → Trace → Type 0
EachEvent Q [] = Unit {0}
EachEvent Q (x ∷ tr) = Q x × EachEvent Q tr

-- each event of a trace bears out what the pass knows
abbrev pub AllBearOut : Knowledge → Program → Trace → Type 0
AllBearOut P U tr = EachEvent (BearsOut P U) tr
