-- What the grammar says of every module that is spelled: its definitions have at most 255 arguments.
use Rattle.std.proofs.Common.{◌≡◌, ℕ, ◌+◌, ◌<◌, List, [], ◌∷◌, Contains, Some, None, Option, refl, sym, ap, subst, arith}
use Rattle.std.proofs.Math.Logic.{∥∥₁_elim}
use Rattle.std.proofs.Props.{props}
use Rattle.std.proofs.lemmas.List.Elements.{All-contains, All-from_recursion}
use Rattle.std.specs.List.{AllByRecursion as Each}
use Rattle.core_ast.specs.Model as m
use Rattle.core_ast.specs.Tree.{defs}
use Rattle.core_ast.specs.declared.syntax.FunName.{FunName}
use Rattle.core_ast.specs.declared.syntax.Note.{Note}
use Rattle.core_ast.specs.declared.syntax.FunDefOf.{FunDefOf}
use Rattle.core_scan.specs.declared.token.Token.{Token}
use Rattle.core_parse_grammar.specs.Build.{Noted, value, with_note, note_option, note_module}
use Rattle.core_parse_grammar.specs.Grammar.{Part, a, first, the, Nonterminal, noted_, annotated_module, «module», function_name, definition, definitions, SaidBy, Said, ways}
use Rattle.core_parse_grammar.specs.Labels.{number, number_defs}
use Rattle.core_parse_grammar.specs.Spells.{Reads, SpellsModule}
use Rattle.core_parse_grammar.proofs.Arities.{magnitude_small}
use Rattle.core_parse_grammar.proofs.Walks.{AllKeep, all_free, walk}
use Rattle.core_scope.specs.Accepted.{IsSpelled}
use Rattle.core_scope.specs.Names.{defined_names}

abbrev IsSmall : FunName → Type 0
IsSmall f = f.arity < 256

-- ---- what is said of a value

abbrev mutual
  Good : (p : Part) → SaidBy p → Type 0
  Good (a c) v = Unit {0}
  Good (first d c) v = Unit {0}
  Good (the n) v = GoodSaid n v

  GoodSaid : (n : Nonterminal) → Said n → Type 0
  GoodSaid (noted_ p) v = Good p v.value
  GoodSaid annotated_module x = Each IsSmall (defined_names x.defs)
  GoodSaid «module» x = Each IsSmall (defined_names x.defs)
  GoodSaid function_name v = IsSmall v.name
  GoodSaid (definition d) v = IsSmall v.name
  GoodSaid (definitions c d) vs = Each (λ v. IsSmall v.name) vs
  GoodSaid n v = Unit {0}

-- ---- each way of the grammar keeps it

each_def : (ds : List (FunDefOf m.Tree)) → Each (λ v. IsSmall v.name) ds → Each IsSmall (defined_names (defs ds))
each_def [] h = tt
each_def (d ∷ ds) h = (h.0, each_def ds h.1)

noted_defs : (x : Noted m.Module) → Each IsSmall (defined_names x.value.defs) → Each IsSmall (defined_names (with_note note_module x).defs)
noted_defs x h = by x.note
  where
    by : (n : Option Note) → Each IsSmall (defined_names (note_option note_module x.value n).defs)
    by None = h
    by (Some n) = h

all_keep : (n : Nonterminal) → AllKeep Good n (ways n)
all_keep (noted_ p) = (λ x g. g, ((λ t tg x g n ng. g), tt))
all_keep annotated_module = (λ x g. noted_defs x g, tt)
all_keep «module» = ((λ t1 g1 x g2 t3 g3 es ges t5 g5 t6 g6 us gus ds gds. each_def ds gds), tt)
all_keep function_name = ((λ x g s gs n gn. omega (arith, magnitude_small (value n))), tt)
all_keep (definition d) = ((λ x g e ge f gf. g), tt)
all_keep (definitions c d) = (λ t g. tt, ((λ x g xs gs. (g, gs)), tt))
all_keep n = all_free Good n (λ v. tt) (ways n)

-- so it holds of all that is read
good : (l : ℕ) (p : Part) (ts us : List Token) (v : SaidBy p) → Reads l p ts v us → Good p v
good l p ts us v h = walk Good l (λ left. Unit {0}) (λ c t left known fit. (tt, tt)) (λ d c t left known fit deep. (tt, tt)) all_keep p ts us v tt h

-- ---- modules

numbered_names : (n : ℕ) (ds : m.Defs) → defined_names (number_defs n ds).0 ≡ defined_names ds
numbered_names n m.no_def = refl
numbered_names n (m.and_def f i xs t ds) = ap (λ fs. f ∷ fs) (numbered_names (number (n + 1) t).1 ds)

defs_by_tokens : (ts : List Token) (x : m.Module) → SpellsModule ts x → Each IsSmall (defined_names x.defs)
defs_by_tokens ts x h =
    let s = h.1 in
    subst (λ y. Each IsSmall (defined_names y.defs)) s.labels
    (subst (Each IsSmall) (sym (numbered_names 0 s.says.defs)) (good h.0 (the annotated_module) ts [] s.says s.reads))

-- a function that a spelled module defines has at most 255 arguments
pub small_definitions : (x : m.Module) (f : FunName) → IsSpelled x → Contains (defined_names x.defs) f → f.arity < 256
small_definitions x f h c = ∥∥₁_elim {P = f.arity < 256} h (hlevel props) (λ t. All-contains IsSmall (defined_names x.defs) f (All-from_recursion IsSmall (defined_names x.defs) (defs_by_tokens t.tokens x t.spells)) c)
