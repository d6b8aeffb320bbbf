use Rattle.std.proofs.Common.{◌∙◌, ap, [], ◌∷◌, ◌++◌}
use Rattle.hera_sets.specs.Rows.{holds}
use Rattle.hera_types_parts.specs.NameSets.{names_in}
use Rattle.hera_types_parts.proofs.Sets.{key_added}
use Rattle.hera_types_parts.proofs.name_sets.NameSet.add.Goals as goal

pub returns-clause-added : goal.returns-clause-added
returns-clause-added c =
    ap names_in c.in_ok-insert.ensures.keys
    ∙ key_added c.self.inside.names.keys c.in_ok-key.key (ap (λ ns. holds ns c.in_ok-key.key.items) c.self.view_is ∙ ap (λ n. holds c.args.self.now n) c.in_ok-key.ensures.items ∙ c.requires)
    ∙ ap (λ ns. ns ++ c.in_ok-key.key.items ∷ []) c.self.view_is ∙ ap (λ n. c.args.self.now ++ n ∷ []) c.in_ok-key.ensures.items
