-- The relations that code names are those that the program reads.
use Rattle.std.proofs.Common.{◌≡◌, ℕ, zero, suc, true, List, [], ◌∷◌, ◌++◌, Some, None, refl, sym, ap, ◌∙◌, subst, append_assoc, append-nil}
use Rattle.std.specs.Prelude.{slice_get, nat_eq}
use Rattle.std.proofs.lemmas.Bool.{or_left, or_right, eq-eqb}
use Rattle.hera_meaning.specs.declared.scalars.RelId.{RelId}
use Rattle.hera_meaning.specs.Trees.{Expr, constant, local, relation, prim, chain, and_all, or_any, when, select, map_each, call, host, Exprs, no_more, then_expr, Links, no_link, link, Hypos, no_hypo, hypo, Command, set_slot, if_arms, while, foreach, print, apply, commit, rollback, assert, return, return_value, call_proc, Block, no_stmt, then_stmt, Arms, no_arm, arm, Body_tree, Program_tree}
use Rattle.hera_code.specs.declared.instrs.Instr.{Instr}
use Rattle.hera_code.specs.declared.instrs.Instr.TheVariants.{Rel}
use Rattle.hera_code.specs.Scheme.{leaves, expr_code, exprs_code, every_code, some_code, links_code, hypos_code, Role, in_main, in_func, in_proc, return_code, command_code, block_code, arms_code, last_code, body_code, bodies_code, code_of}
use Rattle.hera_sessions.specs.Reads.{reads_in, reads_in_all, reads_in_links, reads_in_hypos, reads_of_command, reads_of_block, reads_of_arms, reads_of_bodies, reads_of, is_among}
use Rattle.hera_sessions.specs.Scanning.{rel_of, scanned}

pub scanned-append : (xs ys : List Instr) → scanned (xs ++ ys) ≡ scanned xs ++ scanned ys
scanned-append [] ys = refl
scanned-append (i ∷ xs) ys = ap (λ (l : List ℕ). rel_of i ++ l) (scanned-append xs ys) ∙ sym (append_assoc (rel_of i) (scanned xs) (scanned ys))

-- code that names these relations
record Scans (is : List Instr) (rs : List ℕ) : Type 0 where
  all : scanned is ≡ rs

joined : {xs ys : List Instr} {rs qs : List ℕ} → Scans xs rs → Scans ys qs → Scans (xs ++ ys) (rs ++ qs)
joined {xs} {ys} {rs} {qs} h g = record { all = scanned-append xs ys ∙ (λ i. h.all i ++ g.all i) }

-- instructions that name none behind it, or before it
alone : {xs ys : List Instr} {rs : List ℕ} → Scans xs rs → Scans ys [] → Scans (xs ++ ys) rs
alone {xs} {ys} {rs} h g = record { all = scanned-append xs ys ∙ (λ i. h.all i ++ g.all i) ∙ append-nil rs }

behind : {i : Instr} {is : List Instr} {rs : List ℕ} → rel_of i ≡ [] → Scans is rs → Scans (i ∷ is) rs
behind {i} {is} {rs} none h = record { all = ap (λ (l : List ℕ). l ++ scanned is) none ∙ h.all }

leaves_none : (n : ℕ) → Scans (leaves n) []
leaves_none zero = record { all = refl }
leaves_none (suc n) = record { all = (leaves_none n).all }

mutual
  scanned_expr : (e : Expr) (a : ℕ) → Scans (expr_code e a) (reads_in e)
  scanned_expr (constant c) a = record { all = refl }
  scanned_expr (local i) a = record { all = refl }
  scanned_expr (relation r) a = record { all = refl }
  scanned_expr (prim op args at) a = alone (scanned_exprs args a) (record { all = refl })
  scanned_expr (chain first links) a = joined (scanned_expr first a) (scanned_links links _)
  scanned_expr (and_all args) a = scanned_every args a _
  scanned_expr (or_any args) a = scanned_some args a _
  scanned_expr (when body hypos) a = joined (scanned_hypos hypos a) (alone (scanned_expr body _) (leaves_none _))
  scanned_expr (select i of body) a = joined (scanned_expr of a) (behind refl (behind refl (alone (scanned_expr body _) (record { all = refl }))))
  scanned_expr (map_each i of body) a = joined (scanned_expr of a) (behind refl (behind refl (alone (scanned_expr body _) (record { all = refl }))))
  scanned_expr (call k args) a = alone (scanned_exprs args a) (record { all = refl })
  scanned_expr (host h args) a = alone (scanned_exprs args a) (record { all = refl })

  scanned_exprs : (es : Exprs) (a : ℕ) → Scans (exprs_code es a) (reads_in_all es)
  scanned_exprs no_more a = record { all = refl }
  scanned_exprs (then_expr e es) a = joined (scanned_expr e a) (scanned_exprs es _)

  scanned_every : (es : Exprs) (a f : ℕ) → Scans (every_code es a f) (reads_in_all es)
  scanned_every no_more a f = record { all = refl }
  scanned_every (then_expr e no_more) a f = joined (scanned_expr e a) (record { all = refl })
  scanned_every (then_expr e (then_expr d es)) a f = joined (scanned_expr e a) (behind refl (scanned_every (then_expr d es) _ f))

  scanned_some : (es : Exprs) (a x : ℕ) → Scans (some_code es a x) (reads_in_all es)
  scanned_some no_more a x = record { all = refl }
  scanned_some (then_expr e no_more) a x = record { all = (scanned_expr e a).all ∙ sym (append-nil (reads_in e)) }
  scanned_some (then_expr e (then_expr d es)) a x = joined (scanned_expr e a) (behind refl (behind refl (behind refl (scanned_some (then_expr d es) _ x))))

  scanned_links : (links : Links) (a : ℕ) → Scans (links_code links a) (reads_in_links links)
  scanned_links no_link a = record { all = refl }
  scanned_links (link op arg at rest) a = joined (scanned_expr arg a) (behind refl (scanned_links rest _))

  scanned_hypos : (hypos : Hypos) (a : ℕ) → Scans (hypos_code hypos a) (reads_in_hypos hypos)
  scanned_hypos no_hypo a = record { all = refl }
  scanned_hypos (hypo d at rest) a = joined (scanned_hypos rest a) (alone (scanned_expr d _) (record { all = refl }))

return_none : (p : Role) → Scans (return_code p ∷ []) []
return_none in_main = record { all = refl }
return_none in_func = record { all = refl }
return_none in_proc = record { all = refl }

last_none : (p : Role) → Scans (last_code p) []
last_none in_main = record { all = refl }
last_none in_func = record { all = refl }
last_none in_proc = record { all = refl }

module _ (p : Role) where
  mutual
    scanned_command : (c : Command) (a : ℕ) → Scans (command_code p c a) (reads_of_command c)
    scanned_command (set_slot i e) a = alone (scanned_expr e a) (record { all = refl })
    scanned_command (if_arms arms other) a = joined (scanned_arms arms a _) (scanned_block other _)
    scanned_command (while c block) a = joined (scanned_expr c a) (behind refl (alone (scanned_block block _) (record { all = refl })))
    scanned_command (foreach i of block) a = joined (scanned_expr of a) (behind refl (behind refl (alone (scanned_block block _) (record { all = refl }))))
    scanned_command (print e shape) a = alone (scanned_expr e a) (record { all = refl })
    scanned_command (apply d at) a = alone (scanned_expr d a) (record { all = refl })
    scanned_command (commit None) a = record { all = refl }
    scanned_command (commit (Some label)) a = record { all = refl }
    scanned_command rollback a = record { all = refl }
    scanned_command (assert c at) a = alone (scanned_expr c a) (record { all = refl })
    scanned_command return a = return_none p
    scanned_command (return_value e) a = alone (scanned_expr e a) (return_none p)
    scanned_command (call_proc k args) a = alone (scanned_exprs args a) (record { all = refl })

    scanned_block : (b : Block) (a : ℕ) → Scans (block_code p b a) (reads_of_block b)
    scanned_block no_stmt a = record { all = refl }
    scanned_block (then_stmt c rest) a = joined (scanned_command c a) (scanned_block rest _)

    scanned_arms : (arms : Arms) (a x : ℕ) → Scans (arms_code p arms a x) (reads_of_arms arms)
    scanned_arms no_arm a x = record { all = refl }
    scanned_arms (arm c block rest) a x = joined (scanned_expr c a) (behind refl (joined (scanned_block block _) (behind refl (scanned_arms rest _ x))))

scanned_body : (p : Role) (b : Block) (a : ℕ) → Scans (body_code p b a) (reads_of_block b)
scanned_body p b a = alone (scanned_block p b a) (last_none p)

scanned_bodies : (bodies : List Body_tree) (a : ℕ) → Scans (bodies_code bodies a) (reads_of_bodies bodies)
scanned_bodies [] a = record { all = refl }
scanned_bodies (b ∷ bodies) a = joined (scanned_body _ b.block a) (scanned_bodies bodies _)

scanned_from : (bodies : List Body_tree) → scanned (code_of (record { relations = []; bodies = bodies })).instrs ≡ reads_of_bodies bodies
scanned_from [] = refl
scanned_from (b ∷ bodies) = (joined (scanned_body in_main b.block 0) (scanned_bodies bodies _)).all

-- the code of a program names exactly the relations that it reads
pub scanned_program : (p : Program_tree) → scanned (code_of p).instrs ≡ reads_of p
scanned_program p = scanned_from p.bodies

-- ---- one instruction

among-append : (rs qs : List ℕ) (r : ℕ) → is_among qs r ≡ true → is_among (rs ++ qs) r ≡ true
among-append [] qs r h = h
among-append (q ∷ rs) qs r h = or_right (nat_eq r q) (is_among (rs ++ qs) r) (among-append rs qs r h)

pub scanned_at : (is : List Instr) (a : ℕ) (r : RelId) → slice_get is a ≡ Some (Rel r) → is_among (scanned is) r.0 ≡ true
scanned_at [] a r h = absurd (let e : None ≡ Some (Rel r) = h in cc)
scanned_at (i ∷ is) zero r h =
    let e : i ≡ Rel r = cc in
    subst (λ (j : Instr). is_among (rel_of j ++ scanned is) r.0 ≡ true) (sym e) (or_left (nat_eq r.0 r.0) (is_among (scanned is) r.0) (eq-eqb r.0 r.0 refl))
scanned_at (i ∷ is) (suc a) r h = among-append (rel_of i) (scanned is) r.0 (scanned_at is a r h)
