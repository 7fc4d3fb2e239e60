-- A wave doesn't stop while nothing is to be solved, nor before a group that can't be kept.
use Rattle.std.proofs.Common.{◌≡◌, true, false, ◌&&◌, List, [], ◌∷◌, length, sym, ap, arith}
use Rattle.std.proofs.lemmas.Bool.{and_right}
use Rattle.type_kinds.specs.declared.atom.Atom.{Atom}
use Rattle.table_keep.specs.Model.{Source, Entry}
use Rattle.sound_laws_kept.specs.Waves.{touches, all_may_stand, stops}
use Rattle.sound_laws_kept.proofs.Waves.{touches_none}

pub none_stops : (T : List Entry) (M : List Source) (todo group : List Atom) → length todo ≡ 0 → false ≡ stops T M todo group
none_stops T M [] group e = sym (and_right (all_may_stand T M group group) (touches T M [] group) (touches_none T M group))
none_stops T M (x ∷ xs) group e = absurd (omega (arith, e))

pub changed_stops : (T : List Entry) (M : List Source) (todo group : List Atom) → all_may_stand T M group group ≡ false → false ≡ stops T M todo group
changed_stops T M todo group e = sym (ap (λ b. b && touches T M todo group) e)

pub may_stop : (T : List Entry) (M : List Source) (todo group : List Atom) → all_may_stand T M group group ≡ true → touches T M todo group ≡ stops T M todo group
may_stop T M todo group e = sym (ap (λ b. b && touches T M todo group) e)
