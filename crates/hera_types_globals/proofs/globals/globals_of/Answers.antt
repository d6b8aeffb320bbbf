use Rattle.std.proofs.Common.{◌≡◌, ◌∙◌, ap, sym, [], map, length, arith}
use Rattle.std.specs.Prelude.{Ok}
use Rattle.hera_meaning.specs.Catalogues.{decl_name}
use Rattle.hera_rules.specs.Environments.{env_of}
use Rattle.hera_rules.specs.Programs.{relations_row, names_row, funcs_row, procs_row}
use Rattle.hera_rules.specs.ReadActs.{script_of, relation_phrase, func_phrase, proc_phrase}
use Rattle.hera_types_parts.proofs.Giving.{gives_err}
use Rattle.hera_types_globals.specs.Passes.{func_names, proc_names}
use Rattle.hera_types_globals.proofs.Made.{Named, env_funcs_named, env_procs_named, env_funcs, env_procs, env_done}
use Rattle.hera_types_globals.proofs.Names.{names-of_funcs, names-of_procs}
use Rattle.hera_types_globals.proofs.globals.globals_of.Goals as goal

pub returns-in_err-some : goal.returns-in_err-some
returns-in_err-some c =
    let tree = c.args.tree.now in
    let rels = c.in_ok-relations.relations in
    let declared : relations_row [] (map relation_phrase tree.relations.items) ≡ Ok rels = ap (λ ts. relations_row [] (map relation_phrase ts)) (sym c.deref.ensures.value) ∙ c.in_ok-relations.ensures in
    gives_err env_of _ c.from_residual-in_err-some.ensures.1
    (λ ne. env_funcs_named c.args.hosts.now (script_of tree) declared (names-of_funcs tree.funcs.items) (ap (λ ns. names_row ns (func_names tree.funcs.items)) (sym c.in_ok-own.ensures) ∙ ap (λ ts. names_row c.in_ok-own.own (func_names ts)) (sym c.deref-2.ensures.value) ∙ c.in_err-some.ensures ne))

pub returns-in_err-taken : goal.returns-in_err-taken
returns-in_err-taken c =
    let tree = c.args.tree.now in
    let rels = c.in_ok-relations.relations in
    let declared : relations_row [] (map relation_phrase tree.relations.items) ≡ Ok rels = ap (λ ts. relations_row [] (map relation_phrase ts)) (sym c.deref.ensures.value) ∙ c.in_ok-relations.ensures in
    let some : names_row (map decl_name rels) (func_names tree.funcs.items) ≡ Ok c.in_ok-some.some = ap (λ ns. names_row ns (func_names tree.funcs.items)) (sym c.in_ok-own.ensures) ∙ ap (λ ts. names_row c.in_ok-own.own (func_names ts)) (sym c.deref-2.ensures.value) ∙ c.in_ok-some.ensures in
    gives_err env_of _ c.from_residual-in_err-taken.ensures.1
    (λ ne. env_procs_named c.args.hosts.now (script_of tree) declared (names-of_funcs tree.funcs.items) some (names-of_procs tree.procs.items) (ap (λ ts. names_row c.in_ok-some.some (proc_names ts)) (sym c.deref-3.ensures.value) ∙ c.in_err-taken.ensures ne))

pub returns-in_err-funcs : goal.returns-in_err-funcs
returns-in_err-funcs c =
    let tree = c.args.tree.now in
    let rels = c.in_ok-relations.relations in
    let declared : relations_row [] (map relation_phrase tree.relations.items) ≡ Ok rels = ap (λ ts. relations_row [] (map relation_phrase ts)) (sym c.deref.ensures.value) ∙ c.in_ok-relations.ensures in
    let some : names_row (map decl_name rels) (func_names tree.funcs.items) ≡ Ok c.in_ok-some.some = ap (λ ns. names_row ns (func_names tree.funcs.items)) (sym c.in_ok-own.ensures) ∙ ap (λ ts. names_row c.in_ok-own.own (func_names ts)) (sym c.deref-2.ensures.value) ∙ c.in_ok-some.ensures in
    let taken : names_row c.in_ok-some.some (proc_names tree.procs.items) ≡ Ok c.in_ok-taken.taken = ap (λ ts. names_row c.in_ok-some.some (proc_names ts)) (sym c.deref-3.ensures.value) ∙ c.in_ok-taken.ensures in
    let named : Named c.args.hosts.now (script_of tree) rels c.in_ok-taken.taken = record {
      some = c.in_ok-some.some;
      declared = declared;
      funcs = ap (λ ws. names_row (map decl_name rels) ws) (names-of_funcs tree.funcs.items) ∙ some;
      procs = ap (λ ws. names_row c.in_ok-some.some ws) (names-of_procs tree.procs.items) ∙ taken;
    } in
    gives_err env_of _ c.from_residual-in_err-funcs.ensures.1
    (λ ne. env_funcs c.args.hosts.now (script_of tree) named (ap (λ ts. funcs_row rels c.in_ok-taken.taken [] (map func_phrase ts)) (sym c.deref-4.ensures.value) ∙ c.in_err-funcs.ensures ne))

pub returns-in_err-procs : goal.returns-in_err-procs
returns-in_err-procs c =
    let tree = c.args.tree.now in
    let rels = c.in_ok-relations.relations in
    let declared : relations_row [] (map relation_phrase tree.relations.items) ≡ Ok rels = ap (λ ts. relations_row [] (map relation_phrase ts)) (sym c.deref.ensures.value) ∙ c.in_ok-relations.ensures in
    let some : names_row (map decl_name rels) (func_names tree.funcs.items) ≡ Ok c.in_ok-some.some = ap (λ ns. names_row ns (func_names tree.funcs.items)) (sym c.in_ok-own.ensures) ∙ ap (λ ts. names_row c.in_ok-own.own (func_names ts)) (sym c.deref-2.ensures.value) ∙ c.in_ok-some.ensures in
    let taken : names_row c.in_ok-some.some (proc_names tree.procs.items) ≡ Ok c.in_ok-taken.taken = ap (λ ts. names_row c.in_ok-some.some (proc_names ts)) (sym c.deref-3.ensures.value) ∙ c.in_ok-taken.ensures in
    let named : Named c.args.hosts.now (script_of tree) rels c.in_ok-taken.taken = record {
      some = c.in_ok-some.some;
      declared = declared;
      funcs = ap (λ ws. names_row (map decl_name rels) ws) (names-of_funcs tree.funcs.items) ∙ some;
      procs = ap (λ ws. names_row c.in_ok-some.some ws) (names-of_procs tree.procs.items) ∙ taken;
    } in
    let count : c.len.result ≡ length c.in_ok-funcs.funcs.items = omega (arith, c.len.ensures, c.in_ok-funcs.funcs.ok.0) in
    gives_err env_of _ c.from_residual-in_err-procs.ensures.1
    (λ ne. env_procs c.args.hosts.now (script_of tree) named (ap (λ ts. funcs_row rels c.in_ok-taken.taken [] (map func_phrase ts)) (sym c.deref-4.ensures.value) ∙ c.in_ok-funcs.ensures) (ap (λ n. procs_row rels c.in_ok-taken.taken n [] (map proc_phrase tree.procs.items)) (sym count) ∙ ap (λ ts. procs_row rels c.in_ok-taken.taken c.len.result [] (map proc_phrase ts)) (sym c.deref-5.ensures.value) ∙ c.in_err-procs.ensures ne))

pub returns : goal.returns
returns c =
    let tree = c.args.tree.now in
    let rels = c.in_ok-relations.relations in
    let declared : relations_row [] (map relation_phrase tree.relations.items) ≡ Ok rels = ap (λ ts. relations_row [] (map relation_phrase ts)) (sym c.deref.ensures.value) ∙ c.in_ok-relations.ensures in
    let some : names_row (map decl_name rels) (func_names tree.funcs.items) ≡ Ok c.in_ok-some.some = ap (λ ns. names_row ns (func_names tree.funcs.items)) (sym c.in_ok-own.ensures) ∙ ap (λ ts. names_row c.in_ok-own.own (func_names ts)) (sym c.deref-2.ensures.value) ∙ c.in_ok-some.ensures in
    let taken : names_row c.in_ok-some.some (proc_names tree.procs.items) ≡ Ok c.in_ok-taken.taken = ap (λ ts. names_row c.in_ok-some.some (proc_names ts)) (sym c.deref-3.ensures.value) ∙ c.in_ok-taken.ensures in
    let named : Named c.args.hosts.now (script_of tree) rels c.in_ok-taken.taken = record {
      some = c.in_ok-some.some;
      declared = declared;
      funcs = ap (λ ws. names_row (map decl_name rels) ws) (names-of_funcs tree.funcs.items) ∙ some;
      procs = ap (λ ws. names_row c.in_ok-some.some ws) (names-of_procs tree.procs.items) ∙ taken;
    } in
    let count : c.len.result ≡ length c.in_ok-funcs.funcs.items = omega (arith, c.len.ensures, c.in_ok-funcs.funcs.ok.0) in
    env_done c.args.hosts.now (script_of tree) named (ap (λ ts. funcs_row rels c.in_ok-taken.taken [] (map func_phrase ts)) (sym c.deref-4.ensures.value) ∙ c.in_ok-funcs.ensures) (ap (λ n. procs_row rels c.in_ok-taken.taken n [] (map proc_phrase tree.procs.items)) (sym count) ∙ ap (λ ts. procs_row rels c.in_ok-taken.taken c.len.result [] (map proc_phrase ts)) (sym c.deref-5.ensures.value) ∙ c.in_ok-procs.ensures) ∙ ap (λ g. Ok (env_of g)) (sym c.in_ok-new.ensures)
