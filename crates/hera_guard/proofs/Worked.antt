-- Worked rows and runs under guards, computed.
use Rattle.std.proofs.Common.{◌≡◌, ℕ, false, List, [], ◌∷◌, Some, None, refl, pos, negsuc, codes}
use Rattle.std.specs.Fmt.{digits}
use Rattle.hera_sets.specs.Rows.{Row, is_below, is_same}
use Rattle.hera_meaning.specs.declared.scalars.Kind.TheVariants.{Int as int_kind}
use Rattle.hera_meaning.specs.declared.scalars.Scalar.TheVariants.{Int as int_scalar}
use Rattle.hera_meaning.specs.declared.scalars.Sign.TheVariants.{Plus}
use Rattle.hera_meaning.specs.declared.schemas.Attr.{Attr}
use Rattle.hera_meaning.specs.declared.schemas.RelDecl.{RelDecl}
use Rattle.hera_meaning.specs.declared.hosts.HostSpec.TheVariants.{Band}
use Rattle.hera_meaning.specs.declared.trees.Const.TheVariants.{Scalar}
use Rattle.hera_meaning.specs.declared.trees.Op.TheVariants.{MakeRow, Atom, Merge}
use Rattle.hera_meaning.specs.Printed.{tuple_text, commit_text}
use Rattle.hera_meaning.specs.Rows.{row_of}
use Rattle.hera_meaning.specs.Trees.{Expr, constant, prim, chain, no_more, then_expr, no_link, link, apply, commit, no_stmt, then_stmt, Program_tree}
use Rattle.hera_meaning.specs.Run.{printed, state_after, finished}
use Rattle.hera_host.specs.Tables.{Host, specs_of}
use Rattle.hera_guard.specs.declared.table.Guard.{Guard}
use Rattle.hera_guard.specs.Guards.{breaks, broken}
use Rattle.hera_guard.specs.Guarded.{break_text, refusal_of, ends, refused, guarded_of}

-- relation R(a int);
abbrev attrs : List Attr
attrs = record { name = codes "a"; kind = int_kind } ∷ []

abbrev rels : List RelDecl
rels = record { name = codes "R"; schema = attrs } ∷ []

abbrev row : ℕ → Row
row n = row_of (int_scalar (pos n) ∷ [])

-- 0 to 100, and 0 to 10
abbrev hosts : List Host
hosts = record { name = codes "band"; spec = Band (pos 0) (pos 100) } ∷ record { name = codes "ten"; spec = Band (pos 0) (pos 10) } ∷ []

abbrev guard : ℕ → Guard
guard h = record { rel = record { 0 = 0 }; place = 0; host = h }

-- R.a: ten; R.a: band;
abbrev both : List Guard
both = guard 1 ∷ guard 0 ∷ []

-- of R[5], R[50] and R[500], row by row, and of each row line by line
rows_in_order : breaks (specs_of hosts) both rels ((row 5 ∷ row 50 ∷ row 500 ∷ []) ∷ []) ≡ broken 0 0 (row 50) ∷ broken 0 0 (row 500) ∷ broken 1 0 (row 500) ∷ []
rows_in_order = refl

-- R holds -1
stored_row_refused : refusal_of hosts (guard 0 ∷ []) rels ((row_of (int_scalar (negsuc 0) ∷ []) ∷ []) ∷ []) ≡ Some (codes "guard band refused R[-1]\n")
unfolding break_text tuple_text digits
stored_row_refused = refl

-- main { apply {+R(5)}; commit; apply {+R(500), +R(7)}; commit; }
abbrev plus : ℕ → Expr
plus n = prim (Atom Plus (record { 0 = 0 })) (then_expr (prim (MakeRow attrs) (then_expr (constant (Scalar (int_scalar (pos n)))) no_more) 0) no_more) 0

abbrev two_commits : Program_tree
two_commits = record {
  relations = rels;
  bodies = record {
    params = 0;
    slots = 0;
    func = false;
    block = then_stmt (apply (plus 5) 0) (then_stmt (commit None) (then_stmt (apply (chain (plus 500) (link Merge (plus 7) 0 no_link)) 0) (then_stmt (commit None) no_stmt)));
  } ∷ [];
}

second_commit_refused : printed (guarded_of two_commits ([] ∷ []) hosts 100 (guard 0 ∷ [])).events ≡ codes "commit 1\nguard band refused R[500]\n"
unfolding break_text tuple_text commit_text digits is_below is_same
second_commit_refused = refl

first_commit_stays : state_after ([] ∷ []) (guarded_of two_commits ([] ∷ []) hosts 100 (guard 0 ∷ [])).events ≡ (row 5 ∷ []) ∷ []
unfolding break_text tuple_text commit_text digits is_below is_same
first_commit_stays = refl

ended_by_a_guard : (guarded_of two_commits ([] ∷ []) hosts 100 (guard 0 ∷ [])).finish ≡ refused
unfolding break_text tuple_text commit_text digits is_below is_same
ended_by_a_guard = refl

-- without guards
own_end : (guarded_of two_commits ([] ∷ []) hosts 100 []).finish ≡ ends finished
unfolding commit_text digits is_below is_same
own_end = refl
