-- The passes over a script's global names, row by row.
use Rattle.std.specs.Prelude.{List, [], map, Result, Ok}
use Rattle.hera_meaning.specs.declared.schemas.RelDecl.{RelDecl}
use Rattle.hera_syntax.specs.declared.tree.Func.{Func}
use Rattle.hera_syntax.specs.declared.tree.Proc.{Proc}
use Rattle.hera_rules.specs.declared.words.Word.{Word}
use Rattle.hera_rules.specs.declared.fault.TypeFault.{TypeFault}
use Rattle.hera_rules.specs.Phrases.{Relation_phrase}
use Rattle.hera_rules.specs.Read.{word_of}
use Rattle.hera_rules.specs.Checked.{and_then}
use Rattle.hera_rules.specs.Commands.{fields_row}
use Rattle.hera_rules.specs.Programs.{relation_name}

-- the declaration of a relation: its attributes, then its name
abbrev pub relation_row : List RelDecl → Relation_phrase → Result RelDecl TypeFault
relation_row rels p = and_then (fields_row [] p.attrs) (λ attrs. and_then (relation_name rels p.name) (λ name. Ok (record { name = name; schema = attrs })))

abbrev pub func_names : List Func → List Word
func_names fs = map (λ f. word_of f.name) fs

abbrev pub proc_names : List Proc → List Word
proc_names ps = map (λ p. word_of p.name) ps
