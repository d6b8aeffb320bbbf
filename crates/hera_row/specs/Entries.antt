-- Declarations, each under its name.
use Rattle.std.specs.Prelude.{◌≡◌, ℕ, List, map, All, Vec}
use Rattle.std.specs.Global.{Global}
use Rattle.hera_meaning.specs.declared.schemas.RelDecl.{RelDecl}
use Rattle.hera_meaning.specs.Catalogues.{IsCatalogue}

abbrev pub Entry : Type 0
Entry = Vec ℕ Global × RelDecl

abbrev pub decl_in : Entry → RelDecl
decl_in e = e.1

abbrev pub decls_of : List Entry → List RelDecl
decls_of entries = map decl_in entries

-- each key is its declaration's name, and the declarations are a catalogue
pub record IsNumbered (entries : List Entry) : Type 0 where
  pub named : All (λ e. e.0.items ≡ e.1.name) entries
  pub catalogue : IsCatalogue (decls_of entries)
