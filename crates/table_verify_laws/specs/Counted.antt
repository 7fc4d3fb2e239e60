-- What tells whether entries list the functions of a module, without a look at every name of it.
use Rattle.std.specs.Prelude.{◌≡◌, ◌↔◌, [], ◌∷◌, length, filter, Contains, IsTrue}
use Rattle.core_ast.specs.declared.syntax.FunName.{FunName}
use Rattle.core_scope.specs.Names.{defined_names, has_function}
use Rattle.sound_laws.specs.Accepted.{AreAccepted}
use Rattle.table_file.specs.Order.{rises, is_function_before}
use Rattle.table_keep.specs.Model.{Source, Entry}
use Rattle.table_verify_laws.specs.Listed.{listed}
use Rattle.table_verify_laws.specs.Rules.{ListsFunctions}

-- The certificate's entry lists as many functions as the module defines and only such; and the table's entry lists what the
-- certificate's does of those that the module exports.
pub record ListsAsMany (entry certified : Entry) (source : Source) : Type 0 where
  pub as_many : length (listed certified) ≡ length (defined_names source.tree.defs)
  pub defined_alone : (f : FunName) → Contains (listed certified) f → Contains (defined_names source.tree.defs) f
  pub those_exported : entry.result.exports ≡ filter (λ x. has_function source.tree.exports x.0) certified.result.exports

-- That is what the third rule asks of them, where the functions of the certificate's entry rise.
abbrev pub CountedLaw : Type 0
CountedLaw =
    (entry certified : Entry) (source : Source) → AreAccepted (source.tree ∷ []) → IsTrue (rises is_function_before (listed certified))
    → ListsFunctions entry certified source ↔ ListsAsMany entry certified source
