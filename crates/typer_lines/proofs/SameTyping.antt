-- A typing with the parts of one is this one.
use Rattle.std.proofs.Common.{◌≡◌, Some}
use Rattle.std.proofs.lemmas.Option.{same_Some}
use Rattle.typer_lines.specs.declared.typing.Typing.{Typing}

pub same_typing : (s t : Typing) → s.home ≡ t.home → s.name ≡ t.name → Some s.sig ≡ Some t.sig → Some s ≡ Some t
same_typing s t e f g =
    let k = same_Some s.sig t.sig g in
    λ i. Some (record { home = e i; name = f i; sig = k i })
