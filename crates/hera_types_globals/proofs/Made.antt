-- What names mean, by the passes.
use Rattle.std.proofs.Common.{◌≡◌, ℕ, List, [], length, map, refl}
use Rattle.std.specs.Prelude.{Ok, Err}
use Rattle.hera_meaning.specs.declared.schemas.RelDecl.{RelDecl}
use Rattle.hera_meaning.specs.Catalogues.{decl_name}
use Rattle.hera_host.specs.Tables.{Host}
use Rattle.hera_rules.specs.declared.env.FuncSig.{FuncSig}
use Rattle.hera_rules.specs.declared.env.ProcSig.{ProcSig}
use Rattle.hera_rules.specs.declared.words.Word.{Word}
use Rattle.hera_rules.specs.declared.fault.TypeFault.{TypeFault}
use Rattle.hera_rules.specs.Phrases.{Func_phrase, Proc_phrase, Script}
use Rattle.hera_rules.specs.Programs.{relations_row, names_row, funcs_row, procs_row, env_row}

-- what names mean: the first three passes
module _ (hosts : List Host) (s : Script) where
  pub env_funcs_named : {rels : List RelDecl} {ws : List Word} {f : TypeFault} → relations_row [] s.relations ≡ Ok rels → map (λ (f : Func_phrase). f.name) s.funcs ≡ ws →
      names_row (map decl_name rels) ws ≡ Err f → env_row hosts s ≡ Err f
  env_funcs_named e w x = rw (e, w, x) refl

  pub env_procs_named : {rels : List RelDecl} {ws vs : List Word} {some : List (List ℕ)} {f : TypeFault} → relations_row [] s.relations ≡ Ok rels → map (λ (f : Func_phrase). f.name) s.funcs ≡ ws →
      names_row (map decl_name rels) ws ≡ Ok some → map (λ (p : Proc_phrase). p.name) s.procs ≡ vs → names_row some vs ≡ Err f → env_row hosts s ≡ Err f
  env_procs_named e w x v y = rw (e, w, x, v, y) refl

  -- the names are all new, and these are taken
  pub record Named (rels : List RelDecl) (taken : List (List ℕ)) : Type 0 where
    pub some : List (List ℕ)
    pub declared : relations_row [] s.relations ≡ Ok rels
    pub funcs : names_row (map decl_name rels) (map (λ (f : Func_phrase). f.name) s.funcs) ≡ Ok some
    pub procs : names_row some (map (λ (p : Proc_phrase). p.name) s.procs) ≡ Ok taken

  pub env_funcs : {rels : List RelDecl} {taken : List (List ℕ)} {f : TypeFault} → Named rels taken → funcs_row rels taken [] s.funcs ≡ Err f → env_row hosts s ≡ Err f
  env_funcs n e = rw (n.declared, n.funcs, n.procs, e) refl

  pub env_procs : {rels : List RelDecl} {taken : List (List ℕ)} {funcs : List FuncSig} {f : TypeFault} → Named rels taken → funcs_row rels taken [] s.funcs ≡ Ok funcs →
      procs_row rels taken (length funcs) [] s.procs ≡ Err f → env_row hosts s ≡ Err f
  env_procs n e k = rw (n.declared, n.funcs, n.procs, e, k) refl

  pub env_done : {rels : List RelDecl} {taken : List (List ℕ)} {funcs : List FuncSig} {procs : List ProcSig} → Named rels taken → funcs_row rels taken [] s.funcs ≡ Ok funcs →
      procs_row rels taken (length funcs) [] s.procs ≡ Ok procs → env_row hosts s ≡ Ok (record { relations = rels; funcs = funcs; procs = procs; hosts = hosts })
  env_done n e k = rw (n.declared, n.funcs, n.procs, e, k) refl
