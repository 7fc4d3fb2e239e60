-- Trees whose outermost node has another note.
use Rattle.core_ast.specs.declared.syntax.Note.{Note}
use Rattle.core_ast.specs.declared.syntax.Mark.{Mark}
use Rattle.core_ast.specs.declared.syntax.StepOf.{StepOf}
use Rattle.core_ast.specs.declared.syntax.StepOf.TheVariants.{Let, Do}
use Rattle.core_ast.specs.Model as m
use Rattle.core_ast.specs.Tree.{ClauseParts}

-- A mark with another note.
abbrev pub marked : Note → Mark → Mark
marked n mark = record mark { note = n }

-- The note of a tree is that of its mark.
abbrev pub noted : Note → m.Tree → m.Tree
noted n (m.variable mark x) = m.variable (marked n mark) x
noted n (m.local mark f) = m.local (marked n mark) f
noted n (m.external mark x f) = m.external (marked n mark) x f
noted n (m.literal mark x) = m.literal (marked n mark) x
noted n (m.function mark xs t) = m.function (marked n mark) xs t
noted n (m.listed mark ts t) = m.listed (marked n mark) ts t
noted n (m.tuple mark ts) = m.tuple (marked n mark) ts
noted n (m.new_map mark ps) = m.new_map (marked n mark) ps
noted n (m.updated_map mark ps t) = m.updated_map (marked n mark) ps t
noted n (m.binary mark ss) = m.binary (marked n mark) ss
noted n (m.values mark ts) = m.values (marked n mark) ts
noted n (m.chain mark ss t) = m.chain (marked n mark) ss t
noted n (m.case mark t cs) = m.case (marked n mark) t cs
noted n (m.letrec mark ds t) = m.letrec (marked n mark) ds t
noted n (m.apply mark t ts) = m.apply (marked n mark) t ts
noted n (m.call mark t u ts) = m.call (marked n mark) t u ts
noted n (m.primop mark x ts) = m.primop (marked n mark) x ts
noted n (m.try mark t xs u ys w) = m.try (marked n mark) t xs u ys w
noted n (m.receive mark cs t u) = m.receive (marked n mark) cs t u
noted n (m.catch mark t) = m.catch (marked n mark) t

-- The note of a `let` or a `do` is its step's: that of a chain is its first step's.
abbrev pub note_steps : Note → m.Steps → m.Steps
note_steps n m.no_step = m.no_step
note_steps n (m.and_let mark xs t ss) = m.and_let (marked n mark) xs t ss
note_steps n (m.and_do mark t ss) = m.and_do (marked n mark) t ss

abbrev pub note_tree : Note → m.Tree → m.Tree
note_tree n (m.chain mark ss t) = m.chain mark (note_steps n ss) t
note_tree n t = noted n t

abbrev pub noted_step : Note → StepOf m.Tree → StepOf m.Tree
noted_step n (Let mark xs t) = Let (marked n mark) xs t
noted_step n (Do mark t) = Do (marked n mark) t

-- The note of a pattern and of a clause is that of its mark.
abbrev pub noted_pattern : Note → m.Pattern → m.Pattern
noted_pattern n (m.binds mark x) = m.binds (marked n mark) x
noted_pattern n (m.equals mark x) = m.equals (marked n mark) x
noted_pattern n (m.list_of mark ps p) = m.list_of (marked n mark) ps p
noted_pattern n (m.tuple_of mark ps) = m.tuple_of (marked n mark) ps
noted_pattern n (m.map_of mark ps) = m.map_of (marked n mark) ps
noted_pattern n (m.binary_of mark ss) = m.binary_of (marked n mark) ss
noted_pattern n (m.alias mark x p) = m.alias (marked n mark) x p

abbrev pub noted_clause : Note → ClauseParts → ClauseParts
noted_clause n c = record c { mark = marked n c.mark }
