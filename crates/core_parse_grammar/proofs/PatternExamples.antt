-- Worked patterns, read by evaluation.
use Rattle.std.proofs.Common.{◌≡◌, pos, [], ◌∷◌, Some, false, refl}
use Rattle.std.specs.Prelude.{codes}
use Rattle.core_ast.specs.declared.syntax.Literal.TheVariants as l
use Rattle.core_ast.specs.Model as m
use Rattle.core_ast.specs.Tree.{trees, patterns}
use Rattle.core_parse_grammar.proofs.Texts.{expressions, place, note, mark, noted, var}

literal_patterns : expressions (codes "case 0 of { 1 , 2.5 , $c , 'a' , \"\" , [ ] } when 1 -> 2 end")
    ≡ m.case (mark 0 0) (m.literal (mark 1 5) (l.Int (pos 0))) (m.and_clause (mark 2 10)
    (patterns ((m.tuple_of (mark 3 10) (patterns ((m.equals (mark 4 12) (l.Int (pos 1))) ∷ (m.equals (mark 5 16) (l.Float (codes "2.5"))) ∷ (m.equals (mark 6 22) (l.Int (pos 99))) ∷ (m.equals (mark 7 27) (l.Atom (codes "a")))
    ∷ (m.equals (mark 8 33) l.Nil) ∷ (m.equals (mark 9 38) l.Nil) ∷ []))) ∷ [])) (m.literal (mark 10 49) (l.Int (pos 1))) (m.literal (mark 11 54) (l.Int (pos 2))) m.no_clause) ∷ []
literal_patterns = refl

list_patterns : expressions (codes "case 0 of [ X , ( 'a' -| [ 6 ] ) | [ Y | Z ] ] when 1 -> 2 end")
    ≡ m.case (mark 0 0) (m.literal (mark 1 5) (l.Int (pos 0))) (m.and_clause (mark 2 10)
    (patterns ((m.list_of (mark 3 10) (patterns ((m.binds (mark 4 12) (codes "X")) ∷ (m.equals (noted 5 18 (note (Some 6) false)) (l.Atom (codes "a"))) ∷ (m.binds (mark 6 37) (codes "Y")) ∷ [])) (m.binds (mark 7 41) (codes "Z")))
    ∷ [])) (m.literal (mark 8 52) (l.Int (pos 1))) (m.literal (mark 9 57) (l.Int (pos 2))) m.no_clause) ∷ []
list_patterns = refl

annotated_tail_pattern : expressions (codes "case 0 of [ X | ( [ Y ] -| [ ] ) ] when 1 -> 2 end")
    ≡ m.case (mark 0 0) (m.literal (mark 1 5) (l.Int (pos 0))) (m.and_clause (mark 2 10)
    (patterns ((m.list_of (mark 3 10) (patterns ((m.binds (mark 4 12) (codes "X")) ∷ [])) (m.list_of (mark 5 18) (patterns ((m.binds (mark 6 20) (codes "Y")) ∷ [])) (m.equals (mark 7 22) l.Nil))) ∷ []))
    (m.literal (mark 8 40) (l.Int (pos 1))) (m.literal (mark 9 45) (l.Int (pos 2))) m.no_clause) ∷ []
annotated_tail_pattern = refl

string_pattern : expressions (codes "case 0 of \"a\" when 1 -> 2 end")
    ≡ m.case (mark 0 0) (m.literal (mark 1 5) (l.Int (pos 0))) (m.and_clause (mark 2 10) (patterns ((m.list_of (mark 3 10) (patterns ((m.equals (mark 4 10) (l.Int (pos 97))) ∷ [])) (m.equals (mark 5 10) l.Nil)) ∷ []))
    (m.literal (mark 6 19) (l.Int (pos 1))) (m.literal (mark 7 24) (l.Int (pos 2))) m.no_clause) ∷ []
string_pattern = refl

string_tail_pattern : expressions (codes "case 0 of [ X | \"bc\" ] when 1 -> 2 end")
    ≡ m.case (mark 0 0) (m.literal (mark 1 5) (l.Int (pos 0))) (m.and_clause (mark 2 10)
    (patterns ((m.list_of (mark 3 10) (patterns ((m.binds (mark 4 12) (codes "X")) ∷ (m.equals (mark 5 16) (l.Int (pos 98))) ∷ (m.equals (mark 6 16) (l.Int (pos 99))) ∷ [])) (m.equals (mark 7 16) l.Nil)) ∷ []))
    (m.literal (mark 8 28) (l.Int (pos 1))) (m.literal (mark 9 33) (l.Int (pos 2))) m.no_clause) ∷ []
string_tail_pattern = refl

aliases : expressions (codes "case 0 of X = Y = { } when 1 -> 2 end")
    ≡ m.case (mark 0 0) (m.literal (mark 1 5) (l.Int (pos 0))) (m.and_clause (mark 2 10) (patterns ((m.alias (mark 3 10) (var (codes "X") 10) (m.alias (mark 4 14) (var (codes "Y") 14) (m.tuple_of (mark 5 18) m.no_pattern))) ∷ []))
    (m.literal (mark 6 27) (l.Int (pos 1))) (m.literal (mark 7 32) (l.Int (pos 2))) m.no_clause) ∷ []
aliases = refl

alias_with_annotated_variable : expressions (codes "case 0 of ( X -| [ 3 ] ) = ( Y -| [ 4 ] ) when 1 -> 2 end")
    ≡ m.case (mark 0 0) (m.literal (mark 1 5) (l.Int (pos 0))) (m.and_clause (mark 2 10)
    (patterns ((m.alias (mark 3 10) (record { name = codes "X"; place = place 12; note = note (Some 3) false }) (m.binds (noted 4 29 (note (Some 4) false)) (codes "Y"))) ∷ [])) (m.literal (mark 5 47) (l.Int (pos 1)))
    (m.literal (mark 6 52) (l.Int (pos 2))) m.no_clause) ∷ []
alias_with_annotated_variable = refl

annotated_alias : expressions (codes "case 0 of ( ( X -| [ ] ) = 'a' -| [ 4 ] ) when 1 -> 2 end")
    ≡ m.case (mark 0 0) (m.literal (mark 1 5) (l.Int (pos 0))) (m.and_clause (mark 2 10) (patterns ((m.alias (noted 3 12 (note (Some 4) false)) (var (codes "X") 14) (m.equals (mark 4 27) (l.Atom (codes "a")))) ∷ []))
    (m.literal (mark 5 47) (l.Int (pos 1))) (m.literal (mark 6 52) (l.Int (pos 2))) m.no_clause) ∷ []
annotated_alias = refl

annotated_variable : expressions (codes "case 0 of ( X -| [ 3 ] ) when 1 -> 2 end")
    ≡ m.case (mark 0 0) (m.literal (mark 1 5) (l.Int (pos 0))) (m.and_clause (mark 2 10) (patterns ((m.binds (noted 3 12 (note (Some 3) false)) (codes "X")) ∷ [])) (m.literal (mark 4 30) (l.Int (pos 1)))
    (m.literal (mark 5 35) (l.Int (pos 2))) m.no_clause) ∷ []
annotated_variable = refl

binary_pattern : expressions (codes "case 0 of #{ #< X > ( 8 , Y ) , #< ( 1 -| [ ] ) > ( ) }# when 1 -> 2 end")
    ≡ m.case (mark 0 0) (m.literal (mark 1 5) (l.Int (pos 0))) (m.and_clause (mark 2 10)
    (patterns ((m.binary_of (mark 3 10) (m.and_pat_segment (m.binds (mark 4 16) (codes "X")) (trees ((m.literal (mark 5 22) (l.Int (pos 8))) ∷ (m.variable (mark 6 26) (codes "Y")) ∷ []))
    (m.and_pat_segment (m.equals (mark 7 37) (l.Int (pos 1))) m.no_tree m.no_pat_segment))) ∷ [])) (m.literal (mark 8 62) (l.Int (pos 1))) (m.literal (mark 9 67) (l.Int (pos 2))) m.no_clause) ∷ []
binary_pattern = refl

map_pattern : expressions (codes "case 0 of ~{ 'k' := X , ( apply Y ( ) := ( 1 -| [ ] ) -| [ ] ) }~ when 1 -> 2 end")
    ≡ m.case (mark 0 0) (m.literal (mark 1 5) (l.Int (pos 0))) (m.and_clause (mark 2 10)
    (patterns ((m.map_of (mark 3 10) (m.and_pat_pair (m.literal (mark 4 13) (l.Atom (codes "k"))) (m.binds (mark 5 20) (codes "X"))
    (m.and_pat_pair (m.apply (mark 6 26) (m.variable (mark 7 32) (codes "Y")) m.no_tree) (m.equals (mark 8 43) (l.Int (pos 1))) m.no_pat_pair))) ∷ [])) (m.literal (mark 9 71) (l.Int (pos 1)))
    (m.literal (mark 10 76) (l.Int (pos 2))) m.no_clause) ∷ []
map_pattern = refl

empty_map_pattern : expressions (codes "case 0 of ~{ }~ when 1 -> 2 end")
    ≡ m.case (mark 0 0) (m.literal (mark 1 5) (l.Int (pos 0))) (m.and_clause (mark 2 10) (patterns ((m.map_of (mark 3 10) m.no_pat_pair) ∷ [])) (m.literal (mark 4 21) (l.Int (pos 1))) (m.literal (mark 5 26) (l.Int (pos 2))) m.no_clause)
    ∷ []
empty_map_pattern = refl
