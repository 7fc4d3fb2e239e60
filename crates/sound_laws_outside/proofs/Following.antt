-- What follows from the laws of carrying over and of one: what is known rests on calls, and on no order of the modules.
use Rattle.std.proofs.Common.{inl, refl, sym, ap, ◌∙◌}
use Rattle.std.specs.Prelude.{if◌then◌else◌}
use Rattle.core_ast.specs.Model as m
use Rattle.std.specs.Prelude.{List}
use Rattle.comp_rounds.specs.Rounds.{Callees}
use Rattle.sound_laws_outside.specs.Over.{is_home}
use Rattle.sound_laws_outside.specs.Laws.{SolvedLaw, CarriedLaw, OneLaw, RestsLaw, OrderLaw}

-- what is known of the modules, and around them what stands
abbrev merged : List m.Module → (known around : Callees) → Callees
merged xs known around h f = if is_home xs h then known h f else around h f

pub rests : CarriedLaw → OneLaw → RestsLaw
rests carried one xs ys outside around known other same agree a b h f home =
    sym (ap (λ t. if t then known h f else around h f) home)
    ∙ ap (λ k. k h f)
    (one ys around (merged xs known around) other
    (carried xs ys outside around known (merged xs known around) same agree a (λ k g e. sym (ap (λ t. if t then known k g else around k g) e)) (λ k g e. ap (λ t. if t then known k g else around k g) e)) b)

pub order : SolvedLaw → CarriedLaw → OneLaw → OrderLaw
order solved carried one xs ys outside known other ax ay px py same a b =
    let is = solved xs outside known ax px a in
    one ys outside known other
    (carried xs ys outside outside known known same (λ g h f in_it stands far out. inl refl) is (λ h f e. refl) (λ h f e. is.out h f e))
    (solved ys outside other ay py b)
