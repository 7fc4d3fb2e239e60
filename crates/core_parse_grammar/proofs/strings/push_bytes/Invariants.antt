use Rattle.std.proofs.Common.{◌≡◌, ◌+◌, ◌++◌, map, drop}
use Rattle.core_ast.specs.Tree.{tree}
use Rattle.core_parse_grammar.specs.Build.{text}
use Rattle.core_parse_grammar.specs.Strings.{labelled_bytes}
use Rattle.core_parse_grammar.proofs.strings.push_bytes.Given as goal

abbrev pub invariant-loop-byte : goal.invariant-loop-byte
invariant-loop-byte l = record {
  added : map tree l.items ++ labelled_bytes l.next l.token.place (drop l.byte-index (text l.token)) ≡ map tree l.fn.items ++ labelled_bytes l.label l.token.place (text l.token);
  labels : l.next ≡ l.label + l.byte-index;
}
