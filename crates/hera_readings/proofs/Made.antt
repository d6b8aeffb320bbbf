-- Each alternative of each production makes a value of its parts.
use Rattle.std.proofs.Common.{◌≡◌, ◌<◌, ◌+◌, ℕ, zero, suc, List, [], ◌∷◌, length, subst, arith}
use Rattle.std.specs.Prelude.{slice_index_or}
use Rattle.hera_syntax.specs.Grammar.{Production, Part, alternatives, alternative}
use Rattle.hera_syntax.specs.Grammar as phrases
use Rattle.hera_syntax.specs.Outline.{node}
use Rattle.hera_readings.proofs.Nodes.{Parts, spelled}
use Rattle.hera_readings.proofs.Fits.{Short}
use Rattle.hera_readings.proofs.Makes.{Made, Makes}
use Rattle.hera_readings.proofs.Made_exprs as exprs
use Rattle.hera_readings.proofs.Made_acts as acts

makes : (s : Production) → Makes s 0 (alternatives s)
makes phrases.program = acts.makes_program
makes phrases.relations = acts.makes_relations
makes phrases.funcs = acts.makes_funcs
makes phrases.procs = acts.makes_procs
makes phrases.last_main = acts.makes_last_main
makes phrases.relation = acts.makes_relation
makes phrases.attrs = acts.makes_attrs
makes phrases.more_attrs = acts.makes_more_attrs
makes phrases.attr = acts.makes_attr
makes phrases.kind = acts.makes_kind
makes phrases.type_tree = acts.makes_type_tree
makes phrases.schema = acts.makes_schema
makes phrases.func = acts.makes_func
makes phrases.proc = acts.makes_proc
makes phrases.some_params = acts.makes_some_params
makes phrases.params = acts.makes_params
makes phrases.more_params = acts.makes_more_params
makes phrases.param = acts.makes_param
makes phrases.main = acts.makes_main
makes phrases.block = acts.makes_block
makes phrases.stmts = acts.makes_stmts
makes phrases.stmt = acts.makes_stmt
makes phrases.named = acts.makes_named
makes phrases.else_part = acts.makes_else_part
makes phrases.after_else = acts.makes_after_else
makes phrases.some_value = acts.makes_some_value
makes phrases.some_text = acts.makes_some_text
makes phrases.some_args = exprs.makes_some_args
makes phrases.args = exprs.makes_args
makes phrases.more_args = exprs.makes_more_args
makes (phrases.level l) = exprs.makes_level l
makes (phrases.more l) = exprs.makes_more l
makes phrases.cmp = exprs.makes_cmp
makes phrases.more_cmp = exprs.makes_more_cmp
makes phrases.prefix = exprs.makes_prefix
makes phrases.post = exprs.makes_post
makes phrases.field = exprs.makes_field
makes phrases.prime = exprs.makes_prime
makes phrases.call = exprs.makes_call
makes phrases.bindings = exprs.makes_bindings
makes phrases.more_bindings = exprs.makes_more_bindings
makes phrases.binding = exprs.makes_binding
makes phrases.some_atoms = exprs.makes_some_atoms
makes phrases.atoms = exprs.makes_atoms
makes phrases.more_atoms = exprs.makes_more_atoms
makes phrases.atom = exprs.makes_atom
makes phrases.some_lines = exprs.makes_some_lines
makes phrases.lines = exprs.makes_lines
makes phrases.more_lines = exprs.makes_more_lines
makes phrases.line = exprs.makes_line
makes phrases.names = exprs.makes_names
makes phrases.more_names = exprs.makes_more_names
makes phrases.renamings = exprs.makes_renamings
makes phrases.more_renamings = exprs.makes_more_renamings
makes phrases.renaming = exprs.makes_renaming
makes phrases.aggs = exprs.makes_aggs
makes phrases.more_aggs = exprs.makes_more_aggs
makes phrases.named_agg = exprs.makes_named_agg
makes phrases.agg = exprs.makes_agg

-- the one of this number of those from n on
pick : (s : Production) (qs : List (List Part)) (n k : ℕ) → Makes s n qs → k < length qs → (x : Parts (slice_index_or qs k []))
    → Short (spelled (node s (n + k)) (slice_index_or qs k []) x) → Made s (spelled (node s (n + k)) (slice_index_or qs k []) x)
pick s [] n k m l x short = absurd (omega arith)
pick s (q ∷ qs) n zero m l x short =
    let P : ℕ → Type 0 = λ j. Short (spelled (node s j) q x) → Made s (spelled (node s j) q x) in
    let same : n ≡ n + 0 = omega arith in
    subst P same (m.0 x) short
pick s (q ∷ qs) n (suc k) m l x short =
    let P : ℕ → Type 0 = λ j. Short (spelled (node s j) (slice_index_or qs k []) x) → Made s (spelled (node s j) (slice_index_or qs k []) x) in
    let same : suc n + k ≡ n + suc k = omega arith in
    subst P same (pick s qs (suc n) k m.1 (omega arith) x) short

pub make : (s : Production) (k : ℕ) → k < length (alternatives s) → (x : Parts (alternative s k)) → Short (spelled (node s k) (alternative s k) x) → Made s (spelled (node s k) (alternative s k) x)
make s k l x short =
    let P : ℕ → Type 0 = λ j. Short (spelled (node s j) (alternative s k) x) → Made s (spelled (node s j) (alternative s k) x) in
    let same : 0 + k ≡ k = omega arith in
    subst P same (pick s (alternatives s) 0 k (makes s) l x) short
