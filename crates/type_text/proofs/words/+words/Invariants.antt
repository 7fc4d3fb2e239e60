use Rattle.std.proofs.Common.{◌≤◌, ◌+◌, ◌*◌, ℕ, List, Option, Bor, suc, length}
use Rattle.type_lattice_model.specs.Operations.{ops}
use Rattle.type_lattice_model.specs.Normal.{NormalAt, AreElements}
use Rattle.type_lattice_trees.specs.declared.node.Node.{Node}
use Rattle.type_lattice_trees.specs.View.{row_view, Fits, EachNode}
use Rattle.type_text.proofs.WordReads.{MoreRead, RowRead}
use Rattle.type_text.proofs.words.+words.Given as goal

abbrev pub decreases-read_type : goal.decreases-read_type
decreases-read_type l = 10 * l.level

abbrev pub decreases-read_element : goal.decreases-read_element
decreases-read_element l = 10 * l.level + 1

abbrev pub decreases-read_later : goal.decreases-read_later
decreases-read_later l = 10 * l.level + 2

abbrev pub decreases-read_row : goal.decreases-read_row
decreases-read_row l = 10 * l.level + 3

abbrev pub decreases-read_tuple : goal.decreases-read_tuple
decreases-read_tuple l = 10 * l.level + 4

abbrev pub decreases-read_list : goal.decreases-read_list
decreases-read_list l = 10 * l.level + 4

abbrev pub decreases-read_word : goal.decreases-read_word
decreases-read_word l = 10 * l.level + 5

abbrev pub decreases-read_more : goal.decreases-read_more
decreases-read_more l = 10 * l.level + 6

-- who reads the element types to come reads those of the whole text
abbrev pub invariant-read_later-loop-next : goal.invariant-read_later-loop-next
invariant-read_later-loop-next l = record {
  each : EachNode (Fits l.level) l.row;
  some : AreElements (NormalAt l.level) (ops l.level) (row_view l.level l.row);
  shorter : length l.rest ≤ length l.fn.text;
  so_far : (o : Option (List Node × Bor (List ℕ))) → RowRead l.level l.row l.rest o → RowRead l.level l.fn.first l.fn.text o;
}

abbrev pub decreases-read_later-loop-next : goal.decreases-read_later-loop-next
decreases-read_later-loop-next l = length l.rest

-- who joins the words to come joins those of the whole text
abbrev pub invariant-read_more-loop-next : goal.invariant-read_more-loop-next
invariant-read_more-loop-next l = record {
  fits : Fits (suc l.level) l.t;
  shorter : length l.rest ≤ length l.fn.text;
  so_far : (o : Option (Node × Bor (List ℕ))) → MoreRead l.level l.t l.rest o → MoreRead l.level l.fn.first l.fn.text o;
}

abbrev pub decreases-read_more-loop-next : goal.decreases-read_more-loop-next
decreases-read_more-loop-next l = length l.rest
