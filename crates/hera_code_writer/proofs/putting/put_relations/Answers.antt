use Rattle.hera_code_writer.proofs.putting.put_relations.Goals as goal

pub put_decl-requires : goal.put_decl-requires
put_decl-requires c = rw c.decl-item.is (c.requires.decls c.loop-decl.decl-index _ c.loop-decl-test.true)
