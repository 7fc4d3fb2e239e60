use Rattle.std.proofs.Common.{◌≡◌, ◌+◌, ◌++◌, map, drop}
use Rattle.core_ast.specs.Tree.{pattern_tree}
use Rattle.core_parse_grammar.specs.Build.{text}
use Rattle.core_parse_grammar.specs.Strings.{labelled_byte_patterns}
use Rattle.core_parse_grammar.proofs.strings.push_byte_patterns.Given as goal

abbrev pub invariant-loop-byte : goal.invariant-loop-byte
invariant-loop-byte l = record {
  added : map pattern_tree l.items ++ labelled_byte_patterns l.next l.token.place (drop l.byte-index (text l.token)) ≡ map pattern_tree l.fn.items ++ labelled_byte_patterns l.label l.token.place (text l.token);
  labels : l.next ≡ l.label + l.byte-index;
}
