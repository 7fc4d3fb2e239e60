-- What is known of functions while the entries of a certificate are entered one after another, and when one function keeps to it.
use Rattle.std.specs.Prelude.{◌≡◌, Bool, cond, List, [], ◌∷◌, Option, Some, None}
use Rattle.type_kinds.specs.declared.atom.Atom.{Atom}
use Rattle.core_ast.specs.declared.syntax.FunName.{FunName}
use Rattle.core_scope.specs.Names.{has_function}
use Rattle.cons_tree.specs.Callees.{same_home}
use Rattle.cons_tree.specs.declared.parts.Summary.{Summary}
use Rattle.cons_tree.specs.declared.parts.Callee.{Callee}
use Rattle.cons_gen_rows.specs.Passes.{Knowledge}
use Rattle.comp_rounds.specs.Rounds.{Callees, Function, standing, strict_pass}
use Rattle.sound_laws.specs.Knowledge.{summary_of}
use Rattle.table_keep.specs.Model.{Source, Entry, entry_of}
use Rattle.table_verify_laws.specs.Closed.{GivesBelow}
use Rattle.table_verify_laws.specs.Listed.{summary_among}

-- a function by its summary where it is listed, and else what was known of it
abbrev pub listed_or : (exported : Bool) → Option Summary → Callee → Callee
listed_or exported None before = before
listed_or exported (Some s) before = standing exported s

-- What is known with the functions that the entry of a module lists, where the module exports these names.
abbrev pub with_listed : (home : Atom) (exports : List FunName) → List (FunName × Summary) → Callees → Callees
with_listed home exports xs K h f =
    cond (same_home h home) (listed_or (has_function exports f) (summary_among xs f) (K h f)) (K h f)

-- with those of the entry of a source, if there is one
abbrev pub with_entry_of : Source → Option Entry → Callees → Callees
with_entry_of s None K = K
with_entry_of s (Some e) K = with_listed s.tree.name s.tree.exports e.result.exports K

-- and with those of each of these sources
abbrev pub with_entries_of : List Entry → List Source → Callees → Callees
with_entries_of C [] K = K
with_entries_of C (s ∷ ss) K = with_entries_of C ss (with_entry_of s (entry_of C s.tree.name) K)

-- The function has a summary, and gives no more than it says, strictly and by this lenient pass.
pub record KeepsBy (K : Callees) (lenient : Knowledge) (g : Function) : Type 0 where
  pub summary : Summary
  pub known_so : summary_of (K g.home g.name) ≡ Some summary
  pub strictly : GivesBelow (strict_pass K) g summary.strict
  pub leniently : GivesBelow lenient g summary.lenient
