-- The code of an expression that a function takes apart.
use Rattle.std.proofs.Common.{◌≡◌, ℕ, ◌+◌, List, [], ◌∷◌, ◌++◌, length, sym, ap, ◌∙◌}
use Rattle.std.specs.Prelude.{Vec, Box, slice_set}
use Rattle.std.specs.declared.alloc.Global.{Global}
use Rattle.hera_meaning.specs.declared.trees.Core.{Core}
use Rattle.hera_meaning.specs.declared.trees.Link.{Link}
use Rattle.hera_meaning.specs.declared.trees.Hypo.{Hypo}
use Rattle.hera_meaning.specs.declared.trees.Core.TheViews as view
use Rattle.hera_meaning.specs.Trees.{chain, when, select, map_each}
use Rattle.hera_meaning.specs.Plain.{expr_of, links_in, hypos_in}
use Rattle.hera_meaning.proofs.PlainLaws.{expr_of-Chain, expr_of-When, expr_of-Select, expr_of-Map}
use Rattle.hera_code.specs.declared.instrs.Instr.{Instr}
use Rattle.hera_code.specs.declared.instrs.Instr.TheVariants.{Walk, Next, Keep, Gather, Back, Yield}
use Rattle.hera_code.specs.Scheme.{leaves, expr_code, links_code, hypos_code}
use Rattle.hera_codegen.proofs.Emitted.{chain_closed, when_closed, select_closed, map_closed}

pub chain_case : (e f : Core) (first : Box Core Global) (links : Vec Link Global) (c0 c1 c2 : List Instr) → e ≡ view.Chain first links → f ≡ first.value →
    c1 ≡ c0 ++ expr_code (expr_of f) (length c0) → c2 ≡ c1 ++ links_code (links_in links.items) (length c1) → c2 ≡ c0 ++ expr_code (expr_of e) (length c0)
chain_case e f first links c0 c1 c2 is f_is h1 h2 =
    chain_closed (expr_of f) (links_in links.items) c0 c1 c2 h1 h2
    ∙ ap (λ x. c0 ++ expr_code (chain (expr_of x) (links_in links.items)) (length c0)) f_is
    ∙ ap (λ x. c0 ++ expr_code x (length c0)) (sym (ap expr_of is ∙ expr_of-Chain first links))

pub when_case : (e b : Core) (body : Box Core Global) (hypos : Vec Hypo Global) (n : ℕ) (c0 c1 c2 c3 : List Instr) → e ≡ view.When body hypos → b ≡ body.value → n ≡ length hypos.items →
    c1 ≡ c0 ++ hypos_code (hypos_in hypos.items) (length c0) → c2 ≡ c1 ++ expr_code (expr_of b) (length c1) → c3 ≡ c2 ++ leaves n → c3 ≡ c0 ++ expr_code (expr_of e) (length c0)
when_case e b body hypos n c0 c1 c2 c3 is b_is n_is h1 h2 h3 =
    when_closed hypos.items (expr_of b) c0 c1 c2 c3 h1 h2 (h3 ∙ ap (λ m. c2 ++ leaves m) n_is)
    ∙ ap (λ x. c0 ++ expr_code (when (expr_of x) (hypos_in hypos.items)) (length c0)) b_is
    ∙ ap (λ x. c0 ++ expr_code x (length c0)) (sym (ap expr_of is ∙ expr_of-When body hypos))

pub select_case : (e o b : Core) (i : ℕ) (of body : Box Core Global) (start : ℕ) (c0 c1 c2 c3 c4 : List Instr) → e ≡ view.Select i of body → o ≡ of.value → b ≡ body.value →
    c1 ≡ c0 ++ expr_code (expr_of o) (length c0) → c2 ≡ c1 ++ Walk ∷ Next i 0 ∷ [] → start ≡ length c1 + 1 → c3 ≡ c2 ++ expr_code (expr_of b) (length c2) →
    c4 ≡ slice_set ((c3 ++ Keep ∷ []) ++ Back start ∷ []) start (Next i (length c3 + 1 + 1)) ++ Yield ∷ [] → c4 ≡ c0 ++ expr_code (expr_of e) (length c0)
select_case e o b i of body start c0 c1 c2 c3 c4 is o_is b_is h1 h2 hs h3 h4 =
    select_closed i (expr_of o) (expr_of b) c0 c1 c2 c3 c4 start h1 h2 hs h3 h4
    ∙ ap (λ x. c0 ++ expr_code (select i (expr_of x) (expr_of b)) (length c0)) o_is
    ∙ ap (λ x. c0 ++ expr_code (select i (expr_of of.value) (expr_of x)) (length c0)) b_is
    ∙ ap (λ x. c0 ++ expr_code x (length c0)) (sym (ap expr_of is ∙ expr_of-Select i of body))

pub map_case : (e o b : Core) (i : ℕ) (of body : Box Core Global) (start : ℕ) (c0 c1 c2 c3 c4 : List Instr) → e ≡ view.Map i of body → o ≡ of.value → b ≡ body.value →
    c1 ≡ c0 ++ expr_code (expr_of o) (length c0) → c2 ≡ c1 ++ Walk ∷ Next i 0 ∷ [] → start ≡ length c1 + 1 → c3 ≡ c2 ++ expr_code (expr_of b) (length c2) →
    c4 ≡ slice_set ((c3 ++ Gather ∷ []) ++ Back start ∷ []) start (Next i (length c3 + 1 + 1)) ++ Yield ∷ [] → c4 ≡ c0 ++ expr_code (expr_of e) (length c0)
map_case e o b i of body start c0 c1 c2 c3 c4 is o_is b_is h1 h2 hs h3 h4 =
    map_closed i (expr_of o) (expr_of b) c0 c1 c2 c3 c4 start h1 h2 hs h3 h4
    ∙ ap (λ x. c0 ++ expr_code (map_each i (expr_of x) (expr_of b)) (length c0)) o_is
    ∙ ap (λ x. c0 ++ expr_code (map_each i (expr_of of.value) (expr_of x)) (length c0)) b_is
    ∙ ap (λ x. c0 ++ expr_code x (length c0)) (sym (ap expr_of is ∙ expr_of-Map i of body))
