-- The law of the kept table: what is written with the table of some sources is what is written from scratch.
use Rattle.std.proofs.Common.{◌≡◌, not, ◌&&◌, List, [], ◌∷◌, ◌++◌, Contains, length, map, take, refl, sym, ap, ap₂, ◌∙◌}
use Rattle.type_kinds.proofs.Lists.{contains_first, contains_later}
use Rattle.table_keep.specs.Model.{is_in, picked}
use Rattle.table_keep.specs.Kept.{kept}
use Rattle.sound_laws_kept.specs.Written.{with_kept}
use Rattle.sound_laws_kept.specs.Solving.{IsSolved}
use Rattle.sound_laws_kept.specs.Laws.{KeptLaw, OneTableLaw}
use Rattle.sound_laws_kept.proofs.Solving.{Carries, GivesOne, GivesParts}
use Rattle.sound_laws_kept.proofs.Names.{contained_in}
use Rattle.sound_laws_kept.proofs.Mixed as mixed
use Rattle.sound_laws_kept.proofs.Mixed.{AreSame}

-- what is made of a list stands first in what is made of a longer one
begins : {X Y : Type 0} (f g : X → Y) (xs ys : List X) → ((x : X) → Contains xs x → f x ≡ g x) → map f xs ≡ take (length xs) (map g (xs ++ ys))
begins f g [] ys same = refl
begins f g (x ∷ xs) ys same = ap₂ (λ z zs. z ∷ zs) (same x (contains_first x xs)) (begins f g xs ys (λ z e. same z (contains_later x z xs e)))

module _ (carries : Carries IsSolved) (gives_one : GivesOne IsSolved) (gives_parts : GivesParts IsSolved) (one_table : OneTableLaw) where
  pub kept_law : KeptLaw
  kept_law Src M T new scratch before reports all are_src are_m tell source w v = (
    one_table new scratch w.rising v.rising (λ h. w.entries h ∙ same.entries h ∙ sym (v.entries h)),
    w.reports_so
        ∙ begins (λ s. (w.known s.tree.name).lines) (λ s. (v.known s.tree.name).lines) M (picked (λ h. not (is_in M h) && kept w.known T M w.groups h) Src)
        (λ s e. ap (λ r. r.lines) (same.results s.tree.name (contained_in M s e)))
        ∙ ap (take (length M)) (sym v.reports_so),
  )
    where
      same : AreSame T M (with_kept (kept w.known T M w.groups) M Src) w.groups w.new_groups v.groups v.new_groups w.known v.known
      same =
          mixed.are_same IsSolved carries gives_one gives_parts Src M T are_src are_m tell source.groups source.new_groups source.known source.analysis source.entries
          w.groups w.known w.analysis.candidates w.analysis.results
          v.groups v.analysis.candidates w.new_groups v.new_groups v.known w.analysis.new v.analysis.new v.analysis.results
