-- Worked modules, read by evaluation.
use Rattle.std.proofs.Common.{◌≡◌, [], ◌∷◌, Some, true, false, refl}
use Rattle.std.specs.Prelude.{codes}
use Rattle.core_ast.specs.declared.syntax.Literal.TheVariants as l
use Rattle.core_ast.specs.Model as m
use Rattle.core_parse_grammar.specs.Build.{no_note}
use Rattle.core_parse_grammar.proofs.Texts.{modules, place, note, mark, noted, var, name}

-- Exports with their places, attributes, definitions with the place and the note of their fun.
small_module : modules (codes "module 'm' [ 'f' / 1 , ( 'g' / 0 -| [ 3 ] ) ] attributes [ 'author' = [ 'x' ] , ( 'a' -| [ ] ) = ( { } -| [ 1 ] ) ] 'f' / 1 = fun ( X ) -> X ( 'g' / 0 -| [ ] ) = ( fun ( ) -> 'a' -| [ 12 , 'compiler_generated' ] ) end")
    ≡ record {
      name = codes "m";
      exports = ((name (codes "f") 1) ∷ (name (codes "g") 0) ∷ []);
      export_places = (place 13 ∷ place 25 ∷ []);
      note = no_note;
      defs = m.and_def (name (codes "f") 1) (mark 0 126) ((var (codes "X") 132) ∷ []) (m.variable (mark 1 139) (codes "X"))
          (m.and_def (name (codes "g") 0) (noted 2 164 (note (Some 12) true)) [] (m.literal (mark 3 175) (l.Atom (codes "a"))) m.no_def);
    } ∷ []
small_module = refl

annotated_module : modules (codes "( module ( 'm' -| [ 1 ] ) [ ] attributes [ ] end -| [ 7 ] )")
    ≡ record { name = codes "m"; exports = []; export_places = []; note = note (Some 7) false; defs = m.no_def } ∷ []
annotated_module = refl

-- Not spelled: a module without attributes.
module_without_attributes : modules (codes "module 'm' [ ] end")
    ≡ []
module_without_attributes = refl
