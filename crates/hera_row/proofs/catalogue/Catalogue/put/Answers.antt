use Rattle.std.proofs.Common.{◌≡◌, ap, ◌∙◌, ◌++◌, [], ◌∷◌, length, map, arith}
use Rattle.std.proofs.lemmas.List.{map_push}
use Rattle.hera_sets.specs.Rows.{holds}
use Rattle.hera_meaning.specs.Catalogues.{decl_name}
use Rattle.hera_row.specs.Entries.{decl_in, decls_of}
use Rattle.hera_row.proofs.EntryLemmas.{numbered_push, insert_entry-new_name}
use Rattle.hera_row.proofs.catalogue.Catalogue.put.Goals as goal
use Rattle.hera_row.proofs.catalogue.Catalogue.put.Goals.{Joined-branch-3}

-- what the map has then
entries : (c : Joined-branch-3) → c.insert.new.self.entries ≡ c.self.inside.decls.entries ++ (c.in_ok-key.key, record { name = c.args.name; schema = c.args.schema }) ∷ []
entries c =
    c.in_ok-insert.ensures.entries
    ∙ insert_entry-new_name c.self.inside.decls.entries c.in_ok-key.key (record { name = c.args.name; schema = c.args.schema }) c.self.invariant.named (c.in_ok-key.ensures.items ∙ c.bytes.ensures.bytes) (ap (λ rels. holds (map decl_name rels) c.args.name) c.self.view_is ∙ c.requires.new)

pub invariant_of-self-2 : goal.invariant_of-self-2
invariant_of-self-2 c =
    rw (entries c)
    (numbered_push c.self.inside.decls.entries c.in_ok-key.key (record { name = c.args.name; schema = c.args.schema }) c.self.invariant
    (c.in_ok-key.ensures.items ∙ c.bytes.ensures.bytes)
    (record { name = c.requires.name; schema = c.len.ensures.valid; attrs = c.requires.attrs })
    (ap (λ rels. holds (map decl_name rels) c.args.name) c.self.view_is ∙ c.requires.new)
    (omega (arith, ap length c.self.view_is, c.requires.few)))

pub returns-clause-ok : goal.returns-clause-ok
returns-clause-ok c =
    ap decls_of (entries c) ∙ map_push decl_in c.self.inside.decls.entries (c.in_ok-key.key, record { name = c.args.name; schema = c.args.schema })
    ∙ ap (λ rels. rels ++ record { name = c.args.name; schema = c.args.schema } ∷ []) c.self.view_is
