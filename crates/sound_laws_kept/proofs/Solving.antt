-- What is asked of a relation of solving: what is known may be carried over to sources and to what stands that are the same where it
-- matters; there is one thing that is known; and what is known of sources is known of each part of them, over what is known of the others.
use Rattle.std.proofs.Common.{◌≡◌, Bool, true, false, List, [], Contains, Some}
use Rattle.type_kinds.specs.declared.atom.Atom.{Atom}
use Rattle.call_graph.specs.Outside.{Called}
use Rattle.table_keep.specs.Model.{Source, source_of, is_in, picked}
use Rattle.table_keep.specs.Calls.{called_functions}
use Rattle.table_keep.specs.Groups.{Together}
use Rattle.table_keep.specs.Kept.{Solves, Standing, Results, calls_of, with_results}
use Rattle.sound_laws_kept.specs.Solving.{AreSources}

-- under each name the same source
abbrev pub SameSources : (xs ys : List Source) → Type 0
SameSources xs ys = (h : Atom) → source_of xs h ≡ source_of ys h

-- of the functions that these sources call outside of themselves the same stands
abbrev pub AgreeOutside : (xs : List Source) → (K L : Standing) → Type 0
AgreeOutside xs K L = (h : Atom) (s : Source) (c : Called) → source_of xs h ≡ Some s → Contains (called_functions s.tree) c → is_in xs c.0 ≡ false → K c.0 c.1 ≡ L c.0 c.1

-- some of the sources, with all that are together with one of them
abbrev pub IsPart : (xs : List Source) → (p : Atom → Bool) → Type 0
IsPart xs p = (a b : Atom) → p a ≡ true → is_in xs a ≡ true → is_in xs b ≡ true → Together (is_in xs) (calls_of [] xs) a b → p b ≡ true

pub record Carries (solves : Solves) : Type 0 where
  pub over : (xs ys : List Source) (K L : Standing) (R Q : Results) → AreSources xs → AreSources ys → SameSources xs ys → AgreeOutside xs K L
      → ((h : Atom) → is_in xs h ≡ true → R h ≡ Q h) → solves xs K R → solves ys L Q

pub record GivesOne (solves : Solves) : Type 0 where
  pub one : (xs : List Source) (K : Standing) (R Q : Results) → AreSources xs → solves xs K R → solves xs K Q → (h : Atom) → is_in xs h ≡ true → R h ≡ Q h

pub record GivesParts (solves : Solves) : Type 0 where
  pub part : (xs : List Source) (K : Standing) (R : Results) (p : Atom → Bool) → AreSources xs → IsPart xs p → solves xs K R → solves (picked p xs) (with_results xs R K) R
