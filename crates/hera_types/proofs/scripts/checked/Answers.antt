use Rattle.std.proofs.Common.{[], ◌∷◌, map, ◌∙◌, sym, ap}
use Rattle.std.specs.Prelude.{Ok}
use Rattle.hera_meaning.specs.Plain.{body_of, program_of}
use Rattle.hera_rules.specs.Environments.{env_of}
use Rattle.hera_rules.specs.CheckedScripts.{check_funcs, check_procs}
use Rattle.hera_rules.specs.ReadActs.{script_of, func_phrase, proc_phrase}
use Rattle.hera_types.specs.Passes.{bodies_of}
use Rattle.hera_types_parts.proofs.Giving.{gives_err}
use Rattle.hera_types.proofs.Made.{script_env, script_funcs, script_procs, script_main, script_done}
use Rattle.hera_types.proofs.scripts.checked.Goals as goal

pub returns-in_err-globals : goal.returns-in_err-globals
returns-in_err-globals c = gives_err program_of _ c.from_residual.ensures.1 (λ ne. script_env c.args.hosts.now (script_of c.args.tree.now) (c.in_err-globals.ensures ne))

pub returns-in_err-funcs : goal.returns-in_err-funcs
returns-in_err-funcs c =
    gives_err program_of _ c.from_residual-in_err-funcs.ensures.1
    (λ ne. script_funcs c.args.hosts.now (script_of c.args.tree.now) c.in_ok-globals.ensures (ap (λ ts. check_funcs (env_of c.in_ok-globals.globals) [] c.in_ok-globals.globals.funcs.items (map func_phrase ts)) (sym c.deref.ensures.value) ∙ ap (λ ss. check_funcs (env_of c.in_ok-globals.globals) [] ss (map func_phrase c.deref.result.now)) (sym c.funcs.ensures) ∙ c.in_err-funcs.ensures ne))

pub returns-in_err-bodies : goal.returns-in_err-bodies
returns-in_err-bodies c =
    gives_err program_of _ c.from_residual-in_err-bodies.ensures.1
    (λ ne. script_procs c.args.hosts.now (script_of c.args.tree.now) c.in_ok-globals.ensures
    (ap (λ ts. check_funcs (env_of c.in_ok-globals.globals) [] c.in_ok-globals.globals.funcs.items (map func_phrase ts)) (sym c.deref.ensures.value) ∙ ap (λ ss. check_funcs (env_of c.in_ok-globals.globals) [] ss (map func_phrase c.deref.result.now)) (sym c.funcs.ensures) ∙ c.in_ok-funcs.ensures)
    (ap (λ ts. check_procs (env_of c.in_ok-globals.globals) (bodies_of c.in_ok-funcs.funcs) c.in_ok-globals.globals.procs.items (map proc_phrase ts)) (sym c.deref-2.ensures.value) ∙ ap (λ ss. check_procs (env_of c.in_ok-globals.globals) (bodies_of c.in_ok-funcs.funcs) ss (map proc_phrase c.deref-2.result.now)) (sym c.procs.ensures) ∙ c.in_err-bodies.ensures ne))

pub returns-in_err-main : goal.returns-in_err-main
returns-in_err-main c =
    gives_err program_of _ c.from_residual-in_err-main.ensures.1
    (λ ne. script_main c.args.hosts.now (script_of c.args.tree.now) c.in_ok-globals.ensures
    (ap (λ ts. check_funcs (env_of c.in_ok-globals.globals) [] c.in_ok-globals.globals.funcs.items (map func_phrase ts)) (sym c.deref.ensures.value) ∙ ap (λ ss. check_funcs (env_of c.in_ok-globals.globals) [] ss (map func_phrase c.deref.result.now)) (sym c.funcs.ensures) ∙ c.in_ok-funcs.ensures)
    (ap (λ ts. check_procs (env_of c.in_ok-globals.globals) (bodies_of c.in_ok-funcs.funcs) c.in_ok-globals.globals.procs.items (map proc_phrase ts)) (sym c.deref-2.ensures.value) ∙ ap (λ ss. check_procs (env_of c.in_ok-globals.globals) (bodies_of c.in_ok-funcs.funcs) ss (map proc_phrase c.deref-2.result.now)) (sym c.procs.ensures) ∙ c.in_ok-bodies.ensures) (c.in_err-main.ensures ne))

pub returns : goal.returns
returns c =
    script_done c.args.hosts.now (script_of c.args.tree.now) c.in_ok-globals.ensures
    (ap (λ ts. check_funcs (env_of c.in_ok-globals.globals) [] c.in_ok-globals.globals.funcs.items (map func_phrase ts)) (sym c.deref.ensures.value) ∙ ap (λ ss. check_funcs (env_of c.in_ok-globals.globals) [] ss (map func_phrase c.deref.result.now)) (sym c.funcs.ensures) ∙ c.in_ok-funcs.ensures)
    (ap (λ ts. check_procs (env_of c.in_ok-globals.globals) (bodies_of c.in_ok-funcs.funcs) c.in_ok-globals.globals.procs.items (map proc_phrase ts)) (sym c.deref-2.ensures.value) ∙ ap (λ ss. check_procs (env_of c.in_ok-globals.globals) (bodies_of c.in_ok-funcs.funcs) ss (map proc_phrase c.deref-2.result.now)) (sym c.procs.ensures) ∙ c.in_ok-bodies.ensures)
    c.in_ok-main.ensures
    ∙ ap (λ ds. Ok (record { relations = ds; bodies = body_of c.in_ok-main.main ∷ bodies_of c.in_ok-bodies.bodies })) (sym (c.into_decls-relations.ensures ∙ c.into_relations.ensures))
    ∙ ap (λ bs. Ok (record { relations = c.into_decls-relations.result.items; bodies = map body_of bs })) (sym c.in_ok-put_first.ensures)
