-- What contracts see of a solved job.
use Rattle.std.specs.Prelude.{ℕ, List, refl}
use Rattle.std.specs.Coded.{Coded, code_by, coded×, coded_ℕ, coded_list}

-- A component, its part, the inputs that it was solved from, and its output.
pub record DoneValue (P O : Type 0) : Type 0 where
  pub component : ℕ
  pub part : P
  pub inputs : List O
  pub output : O

-- The record as a tuple, by which values are compared.
abbrev pub done_code : {P O : Type 0} → Coded P → Coded O → Coded (DoneValue P O)
done_code {P} {O} p o =
    code_by (ℕ × (P × (List O × O))) (coded× coded_ℕ (coded× p (coded× (coded_list o) o))) (λ w. (w.component, (w.part, (w.inputs, w.output)))) (λ p. record { component = p.0; part = p.1.0; inputs = p.1.1.0; output = p.1.1.1 })
    (λ _. refl)
