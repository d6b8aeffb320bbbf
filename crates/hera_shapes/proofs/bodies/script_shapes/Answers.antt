use Rattle.std.proofs.Common.{◌++◌, ◌∷◌, [], map, ap, ◌∙◌}
use Rattle.hera_meaning.specs.Shapes.{body_types}
use Rattle.hera_rules.specs.Environments.{env_of}
use Rattle.hera_rules.specs.ReadActs.{func_phrase, proc_phrase, script_of}
use Rattle.hera_shapes.specs.Found.{funcs_found, procs_found}
use Rattle.hera_shapes.proofs.Begun.{joined, script_whole}
use Rattle.hera_shapes.proofs.bodies.script_shapes.Goals as goal

pub returns : goal.returns
returns c =
    let g = env_of c.in_ok-globals.globals in
    let main = c.in_ok-main.main in
    let first = ap (λ bs. map body_types bs) (c.in_ok-push.ensures.items ∙ ap (λ bs. bs ++ main ∷ []) c.new-all.ensures.items) ∙ ap (λ t. t ∷ []) c.in_ok-main.ensures in
    let funcs = c.in_ok-all_funcs.ensures ∙ ap (λ ss. map body_types c.push.new.self.items ++ funcs_found g ss (map func_phrase c.deref.result.now)) c.funcs.ensures
    ∙ ap (λ ts. map body_types c.push.new.self.items ++ funcs_found g g.funcs (map func_phrase ts)) c.deref.ensures.value in
    let procs = c.in_ok-all_procs.ensures ∙ ap (λ ss. map body_types c.all_funcs.new.all.items ++ procs_found g ss (map proc_phrase c.deref-2.result.now)) c.procs.ensures
    ∙ ap (λ ts. map body_types c.all_funcs.new.all.items ++ procs_found g g.procs (map proc_phrase ts)) c.deref-2.ensures.value in
    script_whole c.args.hosts.now (script_of c.args.tree.now) g c.in_ok-globals.ensures (joined (funcs_found g g.funcs (map func_phrase c.args.tree.now.funcs.items)) (procs_found g g.procs (map proc_phrase c.args.tree.now.procs.items)) first funcs procs)
