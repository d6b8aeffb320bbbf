use Rattle.std.proofs.Common.{◌≡◌, ◌++◌, drop}
use Rattle.hera_store.specs.Standing.{database_of}
use Rattle.hera_top.specs.Commands.{tables_text}
use Rattle.hera_top.proofs.dumping.text_of_store.Given as goal

-- with the relations to come, the text is whole
abbrev pub invariant-loop-rel : goal.invariant-loop-rel
invariant-loop-rel l = l.text.items ++ tables_text (drop l.rel l.store.base.catalogue) (drop l.rel (database_of l.store).state) ≡ tables_text l.store.base.catalogue (database_of l.store).state
