-- Worked expressions, read by evaluation.
use Rattle.std.proofs.Common.{◌≡◌, pos, [], ◌∷◌, Some, None, true, false, refl}
use Rattle.std.specs.Prelude.{codes}
use Rattle.core_ast.specs.declared.syntax.Literal.TheVariants as l
use Rattle.core_ast.specs.Model as m
use Rattle.core_ast.specs.Tree.{trees, patterns}
use Rattle.core_parse_grammar.proofs.Texts.{expressions, place, note, mark, noted, var, name}

-- Literals: an integer, a float, a character, an atom, the empty string and the empty list.
literals : expressions (codes "{ 1 , 2.5 , $c , 'a' , \"\" , [ ] }")
    ≡ m.tuple (mark 0 0) (trees ((m.literal (mark 1 2) (l.Int (pos 1))) ∷ (m.literal (mark 2 6) (l.Float (codes "2.5"))) ∷ (m.literal (mark 3 12) (l.Int (pos 99))) ∷ (m.literal (mark 4 17) (l.Atom (codes "a")))
    ∷ (m.literal (mark 5 23) l.Nil) ∷ (m.literal (mark 6 28) l.Nil) ∷ [])) ∷ []
literals = refl

-- A variable, a function's name and an external function, in a value list.
names : expressions (codes "< X , 'f' / 2 , fun 'm' : 'f' / 0 >")
    ≡ m.values (mark 0 0) (trees ((m.variable (mark 1 2) (codes "X")) ∷ (m.local (mark 2 6) (name (codes "f") 2)) ∷ (m.external (mark 3 16) (codes "m") (name (codes "f") 0)) ∷ [])) ∷ []
names = refl

-- Annotations: the line is the first element or the first of a pair there, and the atom may stand anywhere.
annotated : expressions (codes "( { ( X -| [ { 3 , 4 } ] ) , ( 'a' -| [ 'compiler_generated' , 5 ] ) } -| [ 7 , 'x' , 'compiler_generated' ] )")
    ≡ m.tuple (noted 0 2 (note (Some 7) true)) (trees ((m.variable (noted 1 6 (note (Some 3) false)) (codes "X")) ∷ (m.literal (noted 2 31 (note None true)) (l.Atom (codes "a"))) ∷ [])) ∷ []
annotated = refl

no_line : expressions (codes "( 'a' -| [ [ 1 ] , 12 ] )")
    ≡ m.literal (noted 0 2 (note None false)) (l.Atom (codes "a")) ∷ []
no_line = refl

no_line_in_a_tuple_of_one : expressions (codes "( 'a' -| [ { 12 } , { 'compiler_generated' } ] )")
    ≡ m.literal (noted 0 2 (note None false)) (l.Atom (codes "a")) ∷ []
no_line_in_a_tuple_of_one = refl

-- A second annotation directly around an annotated expression is no expression.
twice_annotated : expressions (codes "( ( 'a' -| [ ] ) -| [ ] )")
    ≡ []
twice_annotated = refl

-- All constants.
constants : expressions (codes "( 'a' -| [ 8 , [ 1 , 'b' | { } ] , [ 1 | [ \"ab\" | \"cd\" ] ] , fun 'm' : 'f' / 1 , #{ #< 1 > ( 2 , 'b' ) }# , ~{ 1 => 2.5 , \"\" => $c }~ ] )")
    ≡ m.literal (noted 0 2 (note (Some 8) false)) (l.Atom (codes "a")) ∷ []
constants = refl

-- A bare tail that is a list goes into the list, and the nil is at the last bracket of the innermost.
merged_lists : expressions (codes "[ 'a' | [ ( X -| [ 7 ] ) | [ 'f' / 1 ] ] ]")
    ≡ m.listed (mark 0 0) (trees ((m.literal (mark 1 2) (l.Atom (codes "a"))) ∷ (m.variable (noted 2 12 (note (Some 7) false)) (codes "X")) ∷ (m.local (mark 3 29) (name (codes "f") 1)) ∷ [])) (m.literal (mark 4 37) l.Nil) ∷ []
merged_lists = refl

list_with_tail : expressions (codes "[ 1 , 2 | X ]")
    ≡ m.listed (mark 0 0) (trees ((m.literal (mark 1 2) (l.Int (pos 1))) ∷ (m.literal (mark 2 6) (l.Int (pos 2))) ∷ [])) (m.variable (mark 3 10) (codes "X")) ∷ []
list_with_tail = refl

-- A tail in annotation brackets is a list of its own.
annotated_tail : expressions (codes "[ 1 | ( [ 2 ] -| [ ] ) ]")
    ≡ m.listed (mark 0 0) (trees ((m.literal (mark 1 2) (l.Int (pos 1))) ∷ [])) (m.listed (mark 2 8) (trees ((m.literal (mark 3 10) (l.Int (pos 2))) ∷ [])) (m.literal (mark 4 12) l.Nil)) ∷ []
annotated_tail = refl

empty_tail : expressions (codes "[ 1 | [ ] ]")
    ≡ m.listed (mark 0 0) (trees ((m.literal (mark 1 2) (l.Int (pos 1))) ∷ [])) (m.literal (mark 2 6) l.Nil) ∷ []
empty_tail = refl

-- A string is the list of its bytes, all at its place.
string : expressions (codes "\"ab\"")
    ≡ m.listed (mark 0 0) (trees ((m.literal (mark 1 0) (l.Int (pos 97))) ∷ (m.literal (mark 2 0) (l.Int (pos 98))) ∷ [])) (m.literal (mark 3 0) l.Nil) ∷ []
string = refl

string_tail : expressions (codes "[ $a | \"b\" ]")
    ≡ m.listed (mark 0 0) (trees ((m.literal (mark 1 2) (l.Int (pos 97))) ∷ (m.literal (mark 2 7) (l.Int (pos 98))) ∷ [])) (m.literal (mark 3 7) l.Nil) ∷ []
string_tail = refl

annotated_string : expressions (codes "( \"a\" -| [ 2 ] )")
    ≡ m.listed (noted 0 2 (note (Some 2) false)) (trees ((m.literal (mark 1 2) (l.Int (pos 97))) ∷ [])) (m.literal (mark 2 2) l.Nil) ∷ []
annotated_string = refl

funs : expressions (codes "fun ( ) -> fun ( X , ( Y -| [ 3 ] ) ) -> X")
    ≡ m.function (mark 0 0) [] (m.function (mark 1 11) ((var (codes "X") 17) ∷ record { name = codes "Y"; place = place 23; note = note (Some 3) false } ∷ []) (m.variable (mark 2 41) (codes "X"))) ∷ []
funs = refl

binary : expressions (codes "#{ #< X > ( 8 , 'integer' ) , #< 'a' > ( ) }#")
    ≡ m.binary (mark 0 0) (m.and_segment (m.variable (mark 1 6) (codes "X")) (trees ((m.literal (mark 2 12) (l.Int (pos 8))) ∷ (m.literal (mark 3 16) (l.Atom (codes "integer"))) ∷ []))
    (m.and_segment (m.literal (mark 4 33) (l.Atom (codes "a"))) m.no_tree m.no_segment)) ∷ []
binary = refl

empty_binary : expressions (codes "#{ }#")
    ≡ m.binary (mark 0 0) m.no_segment ∷ []
empty_binary = refl

-- Pairs of a map, the map after the bar last. The note of a pair is not kept; a key may have one.
maps : expressions (codes "~{ 'k' => 1 , ( 'l' := X -| [ 9 ] ) , ( Y -| [ 2 ] ) := 3 | ~{ }~ }~")
    ≡ m.updated_map (mark 0 0) (m.and_pair false (m.literal (mark 1 3) (l.Atom (codes "k"))) (m.literal (mark 2 10) (l.Int (pos 1)))
    (m.and_pair true (m.literal (mark 3 16) (l.Atom (codes "l"))) (m.variable (mark 4 23) (codes "X")) (m.and_pair true (m.variable (noted 5 40 (note (Some 2) false)) (codes "Y")) (m.literal (mark 6 56) (l.Int (pos 3))) m.no_pair)))
    (m.new_map (mark 7 60) m.no_pair) ∷ []
maps = refl

only_updated : expressions (codes "~{ | X }~")
    ≡ m.updated_map (mark 0 0) m.no_pair (m.variable (mark 1 5) (codes "X")) ∷ []
only_updated = refl

chain_key : expressions (codes "~{ do 1 2 => 3 }~")
    ≡ m.new_map (mark 0 0) (m.and_pair false (m.chain (mark 1 3) (m.and_do (mark 2 3) (m.literal (mark 3 6) (l.Int (pos 1))) m.no_step) (m.literal (mark 4 8) (l.Int (pos 2)))) (m.literal (mark 5 13) (l.Int (pos 3))) m.no_pair) ∷ []
chain_key = refl

-- A `do` in the last place of a `let` is the next step of one chain, and its note is its step's.
chain : expressions (codes "let X = { } in ( do 'a' X -| [ { 3 , 4 } , 'compiler_generated' ] )")
    ≡ m.chain (mark 0 0) (m.and_let (mark 1 0) ((var (codes "X") 4) ∷ []) (m.tuple (mark 2 8) m.no_tree) (m.and_do (noted 3 17 (note (Some 3) true)) (m.literal (mark 4 20) (l.Atom (codes "a"))) m.no_step))
    (m.variable (mark 5 24) (codes "X")) ∷ []
chain = refl

-- The note of a chain is its first step's. A chain inside a step is a chain of its own.
annotated_chain : expressions (codes "( let < X , Y > = 1 in do let Z = 2 in 3 4 -| [ 5 ] )")
    ≡ m.chain (mark 0 2) (m.and_let (noted 1 2 (note (Some 5) false)) ((var (codes "X") 8) ∷ (var (codes "Y") 12) ∷ []) (m.literal (mark 2 18) (l.Int (pos 1)))
    (m.and_do (mark 3 23) (m.chain (mark 4 26) (m.and_let (mark 5 26) ((var (codes "Z") 30) ∷ []) (m.literal (mark 6 34) (l.Int (pos 2))) m.no_step) (m.literal (mark 7 39) (l.Int (pos 3)))) m.no_step))
    (m.literal (mark 8 41) (l.Int (pos 4))) ∷ []
annotated_chain = refl

-- Clauses: in annotation brackets, with a pattern in them, and without a pattern.
case : expressions (codes "case X of ( < ( Y -| [ ] ) = 'a' > when 'true' -> apply 'f' / 0 ( ) -| [ 9 ] ) ( Z -| [ 4 ] ) when 1 -> 2 < > when 3 -> 4 end")
    ≡ m.case (mark 0 0) (m.variable (mark 1 5) (codes "X"))
    (m.and_clause (noted 2 12 (note (Some 9) false)) (patterns ((m.alias (mark 3 14) (var (codes "Y") 16) (m.equals (mark 4 29) (l.Atom (codes "a")))) ∷ [])) (m.literal (mark 5 40) (l.Atom (codes "true")))
    (m.apply (mark 6 50) (m.local (mark 7 56) (name (codes "f") 0)) m.no_tree)
    (m.and_clause (mark 8 79) (patterns ((m.binds (noted 9 81 (note (Some 4) false)) (codes "Z")) ∷ [])) (m.literal (mark 10 99) (l.Int (pos 1))) (m.literal (mark 11 104) (l.Int (pos 2)))
    (m.and_clause (mark 12 106) m.no_pattern (m.literal (mark 13 115) (l.Int (pos 3))) (m.literal (mark 14 120) (l.Int (pos 4))) m.no_clause))) ∷ []
case = refl

-- A definition has the place and the note of its fun.
letrec : expressions (codes "letrec ( 'f' / 1 -| [ 3 ] ) = ( fun ( X ) -> X -| [ 4 ] ) 'g' / 0 = fun ( ) -> 1 in 2")
    ≡ m.letrec (mark 0 0) (m.and_def (name (codes "f") 1) (noted 1 32 (note (Some 4) false)) ((var (codes "X") 38) ∷ []) (m.variable (mark 2 45) (codes "X"))
    (m.and_def (name (codes "g") 0) (mark 3 68) [] (m.literal (mark 4 79) (l.Int (pos 1))) m.no_def)) (m.literal (mark 5 84) (l.Int (pos 2))) ∷ []
letrec = refl

no_definition : expressions (codes "letrec in 1")
    ≡ m.letrec (mark 0 0) m.no_def (m.literal (mark 1 10) (l.Int (pos 1))) ∷ []
no_definition = refl

call : expressions (codes "call 'm' : F ( 1 , 2 )")
    ≡ m.call (mark 0 0) (m.literal (mark 1 5) (l.Atom (codes "m"))) (m.variable (mark 2 11) (codes "F")) (trees ((m.literal (mark 3 15) (l.Int (pos 1))) ∷ (m.literal (mark 4 19) (l.Int (pos 2))) ∷ [])) ∷ []
call = refl

applies : expressions (codes "apply apply F ( 1 ) ( 2 )")
    ≡ m.apply (mark 0 0) (m.apply (mark 1 6) (m.variable (mark 2 12) (codes "F")) (trees ((m.literal (mark 3 16) (l.Int (pos 1))) ∷ []))) (trees ((m.literal (mark 4 22) (l.Int (pos 2))) ∷ [])) ∷ []
applies = refl

primop : expressions (codes "primop 'match_fail' ( X )")
    ≡ m.primop (mark 0 0) (codes "match_fail") (trees ((m.variable (mark 1 22) (codes "X")) ∷ [])) ∷ []
primop = refl

catch_and_do : expressions (codes "do catch X catch Y")
    ≡ m.chain (mark 0 0) (m.and_do (mark 1 0) (m.catch (mark 2 3) (m.variable (mark 3 9) (codes "X"))) m.no_step) (m.catch (mark 4 11) (m.variable (mark 5 17) (codes "Y"))) ∷ []
catch_and_do = refl

try : expressions (codes "try X of Y -> Y catch < A , B , C > -> B")
    ≡ m.try (mark 0 0) (m.variable (mark 1 4) (codes "X")) ((var (codes "Y") 9) ∷ []) (m.variable (mark 2 14) (codes "Y")) ((var (codes "A") 24) ∷ (var (codes "B") 28) ∷ (var (codes "C") 32) ∷ [])
    (m.variable (mark 3 39) (codes "B")) ∷ []
try = refl

receive : expressions (codes "receive 1 when 2 -> 3 after 4 -> 5")
    ≡ m.receive (mark 0 0) (m.and_clause (mark 1 8) (patterns ((m.equals (mark 2 8) (l.Int (pos 1))) ∷ [])) (m.literal (mark 3 15) (l.Int (pos 2))) (m.literal (mark 4 20) (l.Int (pos 3))) m.no_clause)
    (m.literal (mark 5 28) (l.Int (pos 4))) (m.literal (mark 6 33) (l.Int (pos 5))) ∷ []
receive = refl

receive_without_clauses : expressions (codes "receive after X -> Y")
    ≡ m.receive (mark 0 0) m.no_clause (m.variable (mark 1 14) (codes "X")) (m.variable (mark 2 19) (codes "Y")) ∷ []
receive_without_clauses = refl

-- Not spelled: `:=` in a constant,
map_pair_in_a_constant : expressions (codes "( 'a' -| [ ~{ 1 := 2 }~ ] )")
    ≡ []
map_pair_in_a_constant = refl

-- a `case` without clauses,
case_without_clauses : expressions (codes "case X of end")
    ≡ []
case_without_clauses = refl

-- a list without elements before the bar,
list_without_elements : expressions (codes "[ | X ]")
    ≡ []
list_without_elements = refl

-- an arity above 255,
wide_arity : expressions (codes "'f' / 256")
    ≡ []
wide_arity = refl

-- a value list inside a pattern,
value_list_pattern_inside : expressions (codes "case X of { < Y > } when 1 -> 2 end")
    ≡ []
value_list_pattern_inside = refl

-- `=>` in a pattern,
assoc_in_a_pattern : expressions (codes "case X of ~{ 'k' => Y }~ when 1 -> 2 end")
    ≡ []
assoc_in_a_pattern = refl

-- a bar in a map pattern,
bar_in_a_map_pattern : expressions (codes "case X of ~{ 'k' := Y | Z }~ when 1 -> 2 end")
    ≡ []
bar_in_a_map_pattern = refl

-- annotation brackets around a variable list.
annotated_variable_list : expressions (codes "let ( < X > -| [ ] ) = 1 in 2")
    ≡ []
annotated_variable_list = refl
