-- Two sessions, woven by hand.
use Rattle.std.proofs.Common.{◌≡◌, ℕ, false, List, [], ◌∷◌, ◌++◌, None, refl, pos, codes}
use Rattle.hera_sets.specs.Rows.{is_below, is_same}
use Rattle.std.specs.Fmt.{digits}
use Rattle.hera_meaning.specs.declared.scalars.Kind.TheVariants.{Int as int_kind}
use Rattle.hera_meaning.specs.declared.scalars.Scalar.TheVariants.{Int as int_scalar}
use Rattle.hera_meaning.specs.declared.scalars.Sign.TheVariants.{Plus}
use Rattle.hera_meaning.specs.declared.schemas.Attr.{Attr}
use Rattle.hera_meaning.specs.declared.schemas.RelDecl.{RelDecl}
use Rattle.hera_meaning.specs.declared.trees.Const.TheVariants.{Scalar}
use Rattle.hera_meaning.specs.declared.trees.Op.TheVariants.{MakeRow, Count, Atom}
use Rattle.hera_meaning.specs.Deltas.{State}
use Rattle.hera_meaning.specs.Printed.{commit_text}
use Rattle.hera_meaning.specs.Trees.{Expr, constant, local, relation, prim, no_more, then_expr, Command, set_slot, apply, commit, no_stmt, then_stmt, Block}
use Rattle.hera_meaning.specs.Run.{printed, state_after}
use Rattle.hera_sessions.specs.Reads.{reads_of}
use Rattle.hera_sessions.specs.Sessions.{Task}
use Rattle.hera_sessions.specs.Weaving.{weave_of}
use Rattle.hera_sessions.specs.Turns.{IsOrdered}

abbrev int : ℕ → Expr
int n = constant (Scalar (int_scalar (pos n)))

abbrev block : List Command → Block
block [] = no_stmt
block (c ∷ cs) = then_stmt c (block cs)

abbrev schema_a : List Attr
schema_a = record { name = codes "a"; kind = int_kind } ∷ []

-- relation R(a int); relation S(a int);
abbrev rels_RS : List RelDecl
rels_RS = record { name = codes "R"; schema = schema_a } ∷ record { name = codes "S"; schema = schema_a } ∷ []

abbrev with_main : (slots : ℕ) → List Command → Task
with_main slots cs = record { program = record { relations = rels_RS; bodies = record { params = 0; slots = slots; func = false; block = block cs } ∷ [] }; turns = 100 }

abbrev plus : ℕ → Expr → Expr
plus r e = prim (Atom Plus (record { 0 = r })) (then_expr (prim (MakeRow schema_a) (then_expr e no_more) 0) no_more) 0

-- apply {+R(1)}; commit;
abbrev f0 : Task
f0 = with_main 0 (apply (plus 0 (int 1)) 0 ∷ commit None ∷ [])

-- the same with 2
abbrev f1 : Task
f1 = with_main 0 (apply (plus 0 (int 2)) 0 ∷ commit None ∷ [])

-- int c = count(R); apply {+S(c)}; commit;
abbrev f2 : Task
f2 = with_main 1 (set_slot 0 (prim Count (then_expr (relation 0) no_more) 0) ∷ apply (plus 1 (local 0)) 0 ∷ commit None ∷ [])

abbrev empty : State
empty = [] ∷ [] ∷ []

-- an int's row
abbrev row : ℕ → List ℕ
row n = 128 ∷ 0 ∷ 0 ∷ 0 ∷ 0 ∷ 0 ∷ 0 ∷ n ∷ []

alternate : List ℕ
alternate = 0 ∷ 1 ∷ 0 ∷ 1 ∷ 0 ∷ 1 ∷ 0 ∷ 1 ∷ 0 ∷ 1 ∷ 0 ∷ 1 ∷ []

reads_R : reads_of (f2.program) ≡ 0 ∷ []
reads_R = refl

-- both commit, since neither reads
both_commit : printed (weave_of (f0 ∷ f1 ∷ []) empty alternate []) ≡ codes "session 0\ncommit 1\nsession 1\ncommit 1\n"
unfolding is_below is_same commit_text digits alternate
both_commit = refl

both_stored : state_after empty (weave_of (f0 ∷ f1 ∷ []) empty alternate []) ≡ (row 1 ∷ row 2 ∷ []) ∷ [] ∷ []
unfolding is_below is_same commit_text digits alternate
both_stored = refl

-- the one that reads R finds that it was touched
one_conflicts : printed (weave_of (f0 ∷ f2 ∷ []) empty (alternate ++ 1 ∷ 1 ∷ 1 ∷ []) []) ≡ codes "session 0\ncommit 1\nsession 1\nconflict with commit 1\n"
unfolding is_below is_same commit_text digits alternate
one_conflicts = refl

-- the schedule of 2 alternates
two_alternates : IsOrdered (f0 ∷ f1 ∷ []) empty [] 2 alternate
unfolding is_below is_same commit_text digits alternate
two_alternates = (refl, (refl, (refl, (refl, (refl, (refl, (refl, (refl, (refl, (refl, (refl, (refl, tt))))))))))))
