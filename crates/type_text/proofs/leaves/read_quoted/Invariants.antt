use Rattle.std.proofs.Common.{◌≡◌, ◌<◌, List, ◌++◌, ℕ, length}
use Rattle.type_kinds.specs.Quoted.{quoted}
use Rattle.type_text.proofs.LeafLaws.{AtomLeft}
use Rattle.type_text.proofs.leaves.read_quoted.Given as goal

-- the bytes so far are those of the atom
abbrev pub invariant-loop-byte : goal.invariant-loop-byte
invariant-loop-byte l = record {
  shorter : length l.rest < length l.fn.text;
  so_far : (atom rest : List ℕ) → l.fn.text ≡ quoted atom ++ rest → AtomLeft l.bytes l.rest atom rest;
}

abbrev pub decreases-loop-byte : goal.decreases-loop-byte
decreases-loop-byte l = length l.rest
