-- One item more at the end of a plain list.
use Rattle.std.proofs.Common.{◌≡◌, ℕ, List, [], ◌∷◌, ◌++◌, refl, ap, ◌∙◌, sym}
use Rattle.hera_meaning.specs.declared.trees.Core.{Core}
use Rattle.hera_meaning.specs.declared.trees.Link.{Link}
use Rattle.hera_meaning.specs.declared.trees.Hypo.{Hypo}
use Rattle.hera_meaning.specs.declared.trees.Op.{Op}
use Rattle.hera_meaning.specs.Trees.{Expr, Exprs, no_more, then_expr, Links, no_link, link, Hypos, no_hypo, hypo}
use Rattle.hera_meaning.specs.Plain.{expr_of, exprs_in, links_in, hypos_in}
use Rattle.hera_meaning.specs.declared.trees.Op.TheVariants.{Merge}
use Rattle.hera_rules.specs.declared.env.Typed.{Typed}
use Rattle.hera_rules.specs.declared.env.Item.{Item}
use Rattle.hera_rules.specs.Agrees.{typing_of, typings_of, step_of, steps_of}
use Rattle.hera_rules.specs.Rules.{Typing, Step, exprs_from, links_from, hypos_from, args_from, merges_from, op_in}

abbrev pub snoc_expr : Exprs → Expr → Exprs
snoc_expr no_more e = then_expr e no_more
snoc_expr (then_expr f fs) e = then_expr f (snoc_expr fs e)

abbrev pub snoc_link : Links → Op → Expr → ℕ → Links
snoc_link no_link op e at = link op e at no_link
snoc_link (link o a t rest) op e at = link o a t (snoc_link rest op e at)

abbrev pub snoc_hypo : Hypos → Expr → ℕ → Hypos
snoc_hypo no_hypo e at = hypo e at no_hypo
snoc_hypo (hypo d t rest) e at = hypo d t (snoc_hypo rest e at)

pub exprs_in-more : (es : List Core) (e : Core) → exprs_in (es ++ e ∷ []) ≡ snoc_expr (exprs_in es) (expr_of e)
exprs_in-more [] e = refl
exprs_in-more (f ∷ fs) e = ap (λ r. then_expr (expr_of f) r) (exprs_in-more fs e)

pub exprs_from-more : (vs : List Typing) (v : Typing) → exprs_from (vs ++ v ∷ []) ≡ snoc_expr (exprs_from vs) v.core
exprs_from-more [] v = refl
exprs_from-more (w ∷ vs) v = ap (λ r. then_expr w.core r) (exprs_from-more vs v)

pub args_from-more : (is : List Step) (i : Step) → args_from (is ++ i ∷ []) ≡ snoc_expr (args_from is) i.arg
args_from-more [] i = refl
args_from-more (j ∷ is) i = ap (λ r. then_expr j.arg r) (args_from-more is i)

pub links_in-more : (ls : List Link) (l : Link) → links_in (ls ++ l ∷ []) ≡ snoc_link (links_in ls) l.op (expr_of l.arg) l.at
links_in-more [] l = refl
links_in-more (k ∷ ls) l = ap (λ r. link k.op (expr_of k.arg) k.at r) (links_in-more ls l)

pub links_from-more : (is : List Step) (i : Step) → links_from (is ++ i ∷ []) ≡ snoc_link (links_from is) (op_in i.joint) i.arg i.at
links_from-more [] i = refl
links_from-more (j ∷ is) i = ap (λ r. link (op_in j.joint) j.arg j.at r) (links_from-more is i)

pub hypos_in-more : (ls : List Hypo) (l : Hypo) → hypos_in (ls ++ l ∷ []) ≡ snoc_hypo (hypos_in ls) (expr_of l.delta) l.at
hypos_in-more [] l = refl
hypos_in-more (k ∷ ls) l = ap (λ r. hypo (expr_of k.delta) k.at r) (hypos_in-more ls l)

pub hypos_from-more : (is : List Step) (i : Step) → hypos_from (is ++ i ∷ []) ≡ snoc_hypo (hypos_from is) i.arg i.at
hypos_from-more [] i = refl
hypos_from-more (j ∷ is) i = ap (λ r. hypo j.arg j.at r) (hypos_from-more is i)

pub ruleset snocs = (exprs_in-more, exprs_from-more, args_from-more, links_in-more, links_from-more, hypos_in-more, hypos_from-more)

pub typings_of-more : (vs : List Typed) (v : Typed) → typings_of (vs ++ v ∷ []) ≡ typings_of vs ++ typing_of v ∷ []
typings_of-more [] v = refl
typings_of-more (w ∷ vs) v = ap (λ r. typing_of w ∷ r) (typings_of-more vs v)

pub steps_of-more : (is : List Item) (i : Item) → steps_of (is ++ i ∷ []) ≡ steps_of is ++ step_of i ∷ []
steps_of-more [] i = refl
steps_of-more (j ∷ is) i = ap (λ r. step_of j ∷ r) (steps_of-more is i)

-- the cores of values, one by one
pub cores_step : (es : List Core) (vs : List Typed) (v : Typed) {e : Core} {es' : List Core} → e ≡ v.core → es' ≡ es ++ e ∷ [] → exprs_in es ≡ exprs_from (typings_of vs) →
    exprs_in es' ≡ exprs_from (typings_of (vs ++ v ∷ []))
cores_step es vs v {e = e} i j h =
    ap exprs_in j ∙ exprs_in-more es e ∙ ap (λ e. snoc_expr (exprs_in es) (expr_of e)) i ∙ ap (λ r. snoc_expr r (expr_of v.core)) h
    ∙ sym (exprs_from-more (typings_of vs) (typing_of v)) ∙ ap exprs_from (sym (typings_of-more vs v))

-- the operands of `&&` or `||` behind the first
pub args_step : (es : List Core) (is : List Item) (i : Item) (f : Expr) {e : Core} {es' : List Core} → e ≡ i.arg → es' ≡ es ++ e ∷ [] → exprs_in es ≡ then_expr f (args_from (steps_of is)) →
    exprs_in es' ≡ then_expr f (args_from (steps_of (is ++ i ∷ [])))
args_step es is i f {e = e} k j h =
    ap exprs_in j ∙ exprs_in-more es e ∙ ap (λ e. snoc_expr (exprs_in es) (expr_of e)) k ∙ ap (λ r. snoc_expr r (expr_of i.arg)) h
    ∙ ap (λ r. then_expr f r) (sym (args_from-more (steps_of is) (step_of i)) ∙ ap args_from (sym (steps_of-more is i)))

pub links_step : (ls : List Link) (is : List Item) (i : Item) {l : Link} {ls' : List Link} → l ≡ record { op = op_in i.joint; arg = i.arg; at = i.at } → ls' ≡ ls ++ l ∷ [] →
    links_in ls ≡ links_from (steps_of is) → links_in ls' ≡ links_from (steps_of (is ++ i ∷ []))
links_step ls is i {l = l} k j h =
    ap links_in j ∙ links_in-more ls l ∙ ap (λ (l : Link). snoc_link (links_in ls) l.op (expr_of l.arg) l.at) k ∙ ap (λ r. snoc_link r (op_in i.joint) (expr_of i.arg) i.at) h
    ∙ sym (links_from-more (steps_of is) (step_of i)) ∙ ap links_from (sym (steps_of-more is i))

pub hypos_step : (ls : List Hypo) (is : List Item) (i : Item) {l : Hypo} {ls' : List Hypo} → l ≡ record { delta = i.arg; at = i.at } → ls' ≡ ls ++ l ∷ [] →
    hypos_in ls ≡ hypos_from (steps_of is) → hypos_in ls' ≡ hypos_from (steps_of (is ++ i ∷ []))
hypos_step ls is i {l = l} k j h =
    ap hypos_in j ∙ hypos_in-more ls l ∙ ap (λ (l : Hypo). snoc_hypo (hypos_in ls) (expr_of l.delta) l.at) k ∙ ap (λ r. snoc_hypo r (expr_of i.arg) i.at) h
    ∙ sym (hypos_from-more (steps_of is) (step_of i)) ∙ ap hypos_from (sym (steps_of-more is i))

merges_from-more : (at : ℕ) (vs : List Typing) (v : Typing) → merges_from at (vs ++ v ∷ []) ≡ snoc_link (merges_from at vs) Merge v.core at
merges_from-more at [] v = refl
merges_from-more at (w ∷ vs) v = ap (λ r. link Merge w.core at r) (merges_from-more at vs v)

pub merges_step : (at : ℕ) (ls : List Link) (vs : List Typed) (v : Typed) {l : Link} {ls' : List Link} → l ≡ record { op = Merge; arg = v.core; at = at } → ls' ≡ ls ++ l ∷ [] →
    links_in ls ≡ merges_from at (typings_of vs) → links_in ls' ≡ merges_from at (typings_of (vs ++ v ∷ []))
merges_step at ls vs v {l = l} k j h =
    ap links_in j ∙ links_in-more ls l ∙ ap (λ (l : Link). snoc_link (links_in ls) l.op (expr_of l.arg) l.at) k ∙ ap (λ r. snoc_link r Merge (expr_of v.core) at) h
    ∙ sym (merges_from-more at (typings_of vs) (typing_of v)) ∙ ap (λ vs. merges_from at vs) (sym (typings_of-more vs v))
