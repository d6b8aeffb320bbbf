-- A catalogue has its own relations, and a sound program that is bound to its own relations is itself.
use Rattle.std.proofs.Common.{◌≡◌, ℕ, zero, suc, ◌<◌, ◌+◌, List, [], ◌∷◌, ◌++◌, length, refl, ap, ◌∙◌, arith}
use Rattle.std.specs.Prelude.{Some, map, slice_get}
use Rattle.hera_meaning.specs.declared.scalars.RelId.{RelId}
use Rattle.hera_meaning.specs.declared.schemas.RelDecl.{RelDecl}
use Rattle.hera_meaning.specs.declared.trees.Op.{Op}
use Rattle.hera_meaning.specs.declared.trees.Op.TheVariants.{Atom as atom_op, Bulk, Ins, Del}
use Rattle.hera_meaning.specs.Catalogues.{IsCatalogue}
use Rattle.hera_meaning.specs.Hosts.{Hosts}
use Rattle.hera_meaning.specs.Forms.{Form, of_tuple, of_table, of_delta, bool_form, OpIsOf}
use Rattle.hera_meaning.specs.Trees.{Expr, constant, local, relation, prim, chain, and_all, or_any, when, select, map_each, call, host, Exprs, no_more, then_expr, Links, no_link, link, Hypos, no_hypo, hypo, Command, set_slot, if_arms, while, foreach, print, apply, commit, rollback, assert, return, return_value, call_proc, Block, no_stmt, then_stmt, Arms, no_arm, arm, Body_tree, Program_tree}
use Rattle.hera_meaning.specs.Sound.{Scope, Body_forms, IsOf, AreOf, AreBools, LinksAreOf, AreDeltas, IsSound, BlockIsSound, ArmsAreSound, sets_of, sets_of_block, sets_of_arms, readable_after, first_slots, scope_of, Sound}
use Rattle.hera_rules.specs.Bound.{name_at, number_or, number_in, bound_op, bound_expr, bound_exprs, bound_links, bound_hypos, bound_command, bound_block, bound_arms, bound_body, bound, Has}
use Rattle.hera_bind.specs.Having.{AllHas}
use Rattle.hera_bind.proofs.Kept.{named_at}

-- ---- relations

all_have : (catalogue rels : List RelDecl) → ((r : ℕ) (d : RelDecl) → slice_get rels r ≡ Some d → Has catalogue d) → AllHas catalogue rels
all_have catalogue [] h = tt
all_have catalogue (d ∷ rels) h = (h 0 d refl, all_have catalogue rels (λ r. h (suc r)))

pub has_own : (rels : List RelDecl) → AllHas rels rels
has_own rels = all_have rels rels (λ r d e. (r, d, e, refl, refl))

named_here : (rels : List RelDecl) (r : ℕ) → r < length rels → (d : RelDecl) × (slice_get rels r ≡ Some d) × (d.name ≡ name_at rels r)
named_here [] r l = absurd (omega arith)
named_here (d ∷ rels) zero l = (d, refl, refl)
named_here (d ∷ rels) (suc r) l = named_here rels r (omega arith)

own_number : (rels : List RelDecl) → IsCatalogue rels → (r : ℕ) → r < length rels → number_in rels rels r ≡ r
own_number rels c r l =
    let d = named_here rels r l in
    ap number_or (named_at 0 rels r d.0 (name_at rels r) c.distinct d.1 d.2) ∙ (let q : 0 + r ≡ r = omega arith in q)

-- ---- phrases

module _ (sc : Scope) (known : (r : ℕ) → r < length sc.rels → number_in sc.rels sc.rels r ≡ r) where
  op_own : (op : Op) (fs : List Form) (f : Form) → OpIsOf sc.rels op fs f → bound_op sc.rels sc.rels op ≡ op
  op_own (atom_op sign r) fs f h = ap (λ (k : ℕ). let s : RelId = record { 0 = k } in atom_op sign s) (known r.0 h.forms.1)
  op_own (Bulk sign r) fs f h = ap (λ (k : ℕ). let s : RelId = record { 0 = k } in Bulk sign s) (known r.0 h.forms.1)
  op_own (Ins r) fs f h = ap (λ (k : ℕ). let s : RelId = record { 0 = k } in Ins s) (known r.0 h.forms.1)
  op_own (Del r) fs f h = ap (λ (k : ℕ). let s : RelId = record { 0 = k } in Del s) (known r.0 h.forms.1)
  op_own _ fs f h = refl

  mutual
    expr_own : (rs : List ℕ) (e : Expr) (f : Form) → IsOf sc rs e f → bound_expr sc.rels sc.rels e ≡ e
    expr_own rs (constant c) f h = refl
    expr_own rs (local i) f h = refl
    expr_own rs (relation r) f h = ap relation (known r h.0)
    expr_own rs (prim op args at) f h = rw (op_own op h.0 f h.2, exprs_own rs args h.0 h.1) refl
    expr_own rs (chain first links) f h = rw (expr_own rs first h.0 h.1, links_own rs links h.0 f h.2) refl
    expr_own rs (and_all args) f h = ap and_all (bools_own rs args h.1)
    expr_own rs (or_any args) f h = ap or_any (bools_own rs args h.1)
    expr_own rs (when body hypos) f h = rw (expr_own rs body f h.1, hypos_own rs hypos h.0) refl
    expr_own rs (select i of body) f h = rw (expr_own rs of (of_table h.0) h.1, expr_own (i ∷ rs) body bool_form h.3) refl
    expr_own rs (map_each i of body) f h = rw (expr_own rs of (of_table h.0) h.2, expr_own (i ∷ rs) body (of_tuple h.1) h.4) refl
    expr_own rs (call k args) f h = ap (call k) (exprs_own rs args h.0 h.1)
    expr_own rs (host k args) f h = ap (host k) (exprs_own rs args _ h.2)

    exprs_own : (rs : List ℕ) (es : Exprs) (fs : List Form) → AreOf sc rs es fs → bound_exprs sc.rels sc.rels es ≡ es
    exprs_own rs no_more fs h = refl
    exprs_own rs (then_expr e es) [] h = absurd h
    exprs_own rs (then_expr e es) (f ∷ fs) h = rw (expr_own rs e f h.0, exprs_own rs es fs h.1) refl

    bools_own : (rs : List ℕ) (es : Exprs) → AreBools sc rs es → bound_exprs sc.rels sc.rels es ≡ es
    bools_own rs no_more h = refl
    bools_own rs (then_expr e es) h = rw (expr_own rs e bool_form h.0, bools_own rs es h.1) refl

    links_own : (rs : List ℕ) (ls : Links) (g f : Form) → LinksAreOf sc rs ls g f → bound_links sc.rels sc.rels ls ≡ ls
    links_own rs no_link g f h = refl
    links_own rs (link op arg at rest) g f h = rw (op_own op (g ∷ h.0 ∷ []) h.1 h.3, expr_own rs arg h.0 h.2, links_own rs rest h.1 f h.4) refl

    hypos_own : (rs : List ℕ) (hs : Hypos) → AreDeltas sc rs hs → bound_hypos sc.rels sc.rels hs ≡ hs
    hypos_own rs no_hypo h = refl
    hypos_own rs (hypo d at rest) h = rw (expr_own rs d of_delta h.0, hypos_own rs rest h.1) refl

  mutual
    command_own : (seen rs inside : List ℕ) (c : Command) → IsSound sc seen rs inside c → bound_command sc.rels sc.rels c ≡ c
    command_own seen rs inside (set_slot i e) h = ap (set_slot i) (expr_own rs e h.0 h.2)
    command_own seen rs inside (if_arms arms other) h = rw (arms_own seen rs inside arms h.0, block_own (seen ++ sets_of_arms arms) rs inside other h.1) refl
    command_own seen rs inside (while c block) h = rw (expr_own rs c bool_form h.0, block_own seen rs inside block h.1) refl
    command_own seen rs inside (foreach i of block) h = rw (expr_own rs of (of_table h.0) h.1, block_own seen (i ∷ rs) (i ∷ inside) block h.3) refl
    command_own seen rs inside (print e shape) h = ap (λ z. print z shape) (expr_own rs e _ h.0)
    command_own seen rs inside (apply d at) h = ap (λ z. apply z at) (expr_own rs d of_delta h.0)
    command_own seen rs inside (commit label) h = refl
    command_own seen rs inside rollback h = refl
    command_own seen rs inside (assert c at) h = ap (λ z. assert z at) (expr_own rs c bool_form h)
    command_own seen rs inside return h = refl
    command_own seen rs inside (return_value e) h = ap return_value (expr_own rs e h.0 h.1)
    command_own seen rs inside (call_proc k args) h = ap (call_proc k) (exprs_own rs args h.0 h.1)

    block_own : (seen rs inside : List ℕ) (b : Block) → BlockIsSound sc seen rs inside b → bound_block sc.rels sc.rels b ≡ b
    block_own seen rs inside no_stmt h = refl
    block_own seen rs inside (then_stmt c rest) h = rw (command_own seen rs inside c h.0, block_own (seen ++ sets_of c) (readable_after seen rs c) inside rest h.1) refl

    arms_own : (seen rs inside : List ℕ) (ar : Arms) → ArmsAreSound sc seen rs inside ar → bound_arms sc.rels sc.rels ar ≡ ar
    arms_own seen rs inside no_arm h = refl
    arms_own seen rs inside (arm c block rest) h =
        rw (expr_own rs c bool_form h.0, block_own seen rs inside block h.1, arms_own (seen ++ sets_of_block block) rs inside rest h.2) refl

-- ---- programs

bodies_own : (change : Body_tree → Body_tree) (bodies : List Body_tree) (forms : List Body_forms) → length forms ≡ length bodies → ((k : ℕ) (b : Body_tree) (own : Body_forms) → slice_get bodies k ≡ Some b → slice_get forms k ≡ Some own → change b ≡ b) → map change bodies ≡ bodies
bodies_own change [] forms l h = refl
bodies_own change (b ∷ bodies) [] l h = absurd (omega (arith, l))
bodies_own change (b ∷ bodies) (f ∷ forms) l h = rw (h 0 b f refl refl, bodies_own change bodies forms (omega (arith, l)) (λ k. h (suc k))) refl

pub bound_to_own : (p : Program_tree) (hosts : Hosts) → Sound p hosts → bound p p.relations ≡ p
bound_to_own p hosts s =
    let q = s.shaped in
    let body : (k : ℕ) (b : Body_tree) (own : Body_forms) → slice_get p.bodies k ≡ Some b → slice_get s.forms k ≡ Some own → bound_body p.relations p.relations b ≡ b = λ k b own here form. ap (λ (z : Block). let c : Body_tree = record b { block = z } in c) (block_own (scope_of p hosts s.forms b own) (own_number p.relations q.relations) [] (first_slots b.params) [] b.block (q.bodies k b own here form).block) in
    ap (λ (bodies : List Body_tree). let c : Program_tree = record { relations = p.relations; bodies = bodies } in c) (bodies_own (bound_body p.relations p.relations) p.bodies s.forms q.many body)
