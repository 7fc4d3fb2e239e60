use Rattle.std.proofs.Common.{◌≡◌, [], ◌∷◌, ◌++◌, map, refl, sym, subst}
use Rattle.std.specs.Prelude.{OnOk}
use Rattle.std.specs.String.{string_bytes, string_eq}
use Rattle.dia_session_engine.proofs.Exits.{name_added}
use Rattle.dia_session_engine.proofs.engine.add_name.Goals as goal
use Rattle.dia_session_engine.proofs.engine.add_name.Goals.{in-Ok-insert, in-Err}

pub returns-clause-ok : goal.returns-clause-ok
returns-clause-ok c =
    elim c.match-insert.branch [
      | in-Ok-insert w ↦ subst (λ r. OnOk r (map string_bytes c.insert.new.self.keys ≡ map string_bytes c.args.names.now.keys ++ c.args.file.now ∷ [])) (sym w.result-is)
          (name_added string_eq string_bytes c.args.names.now.keys c.insert.new.self.keys c.in-Ok.name c.args.file.now (λ k. refl) c.in-Ok.ensures.ok c.requires w.in-Ok-insert.ensures.keys)
      | in-Err w ↦ subst (λ r. OnOk r (map string_bytes c.insert.new.self.keys ≡ map string_bytes c.args.names.now.keys ++ c.args.file.now ∷ [])) (sym w.result-is) tt
    ]
