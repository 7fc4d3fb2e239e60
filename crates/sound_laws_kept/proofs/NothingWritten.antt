-- From no sources and the table of none nothing is written, whatever is taken as known.
use Rattle.std.proofs.Common.{◌≡◌, Bool, true, false, cond, List, [], Option, None, refl, arith}
use Rattle.type_kinds.specs.declared.atom.Atom.{Atom}
use Rattle.table_keep.specs.Model.{Entry}
use Rattle.table_keep.specs.Groups.{Groups, IsGroups}
use Rattle.table_keep.specs.Kept.{Results, is_candidate, calls_of, is_new, kept}
use Rattle.sound_laws_kept.specs.Solving.{IsWritten}
use Rattle.sound_laws_kept.specs.Written.{new_entry}
use Rattle.sound_laws_kept.proofs.Names.{clash, none_some}

abbrev no_groups : Groups
no_groups = record { number = λ h. 0; count = 0; members = λ n. [] }

none_grouped : (nodes : Atom → Bool) (out : Atom → List Atom) → ((a : Atom) → nodes a ≡ false) → IsGroups nodes out no_groups
none_grouped nodes out none = record {
  low = λ a t. clash (nodes a) t (none a);
  together = λ a b t u. clash (nodes a) t (none a);
  downward = λ a b leads. clash (nodes a) leads.0 (none a);
  members = λ n a. (λ e. clash false e refl, λ p. clash (nodes a) p.0 (none a));
  sorted = λ n. refl;
}

none_new : (R : Results) (h : Atom) → is_new R [] [] no_groups h ≡ false
unfolding is_new kept
none_new R h = refl

no_entry : (R : Results) (h : Atom) → None ≡ new_entry R [] [] no_groups no_groups h
unfolding new_entry
no_entry R h = by (kept R [] [] no_groups h)
  where
    by : (b : Bool) → ◌≡◌ {A = Option Entry} None (cond b None None)
    by true = refl
    by false = refl

pub nothing_written : Results → IsWritten [] [] [] []
nothing_written R = record {
  groups = no_groups;
  new_groups = no_groups;
  known = R;
  analysis = record {
    candidates = none_grouped (is_candidate [] []) (calls_of [] []) (λ h. refl);
    new = none_grouped (is_new R [] [] no_groups) (calls_of [] []) (none_new R);
    results = record { of_entry = λ h e is there. none_some there; solved = λ n low. absurd (omega (arith, low)) };
  };
  reports_so = refl;
  entries = no_entry R;
  rising = refl;
}
